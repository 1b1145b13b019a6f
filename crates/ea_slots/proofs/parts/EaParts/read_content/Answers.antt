use Rattle.std.proofs.Common.{◌<◌, ◌≤◌, ◌+◌, length, sym, ap, ◌∙◌, subst}
use Rattle.fls_model.specs.Told.{HasRange}
use Rattle.fls_jobs.specs.State.{IsDriverState}
use Rattle.ea_image.specs.Slots.{place_of_page}
use Rattle.ea_told.specs.Parts.{Parts}
use Rattle.ea_slots.proofs.Places.{place_small, few_in, sector_below, range_in, content_done, content_failed}
use Rattle.ea_slots.proofs.parts.EaParts.read_content.Goals as goal

pub head_sector-sector-requires : goal.head_sector-sector-requires
head_sector-sector-requires g c = place_small g.O.Origin.making g.O.Origin.entry c.args.self.now c.args.job c.requires.sound c.requires.job

pub place_of_page-address-requires-clause-sector : goal.place_of_page-address-requires-clause-sector
place_of_page-address-requires-clause-sector g c = subst (λ (x : Parts). c.head_sector-sector.result + 1 < x.geometry.sectors) (sym c.self.view_is)
    (sector_below g.O.Origin.making g.O.Origin.entry c.args.self.now c.args.job c.requires.sound c.requires.job c.args.which c.head_sector-sector.result c.head_sector-sector.ensures)

pub read-requires-clause-range : goal.read-requires-clause-range
read-requires-clause-range g c = subst (λ (x : Parts). HasRange x.fls.flash c.place_of_page-address.result c.args.job.length) (sym c.self.view_is)
    (range_in g.O.Origin.making g.O.Origin.entry c.args.self.now c.args.job c.requires.sound c.requires.job (subst (λ (x : Parts). IsDriverState x.fls) c.self.view_is c.status.ensures.state)
    c.args.which c.head_sector-sector.result c.place_of_page-address.result c.head_sector-sector.ensures (c.place_of_page-address.ensures.value ∙ ap (λ (x : Parts). place_of_page x.geometry (c.head_sector-sector.result + 1) 0) c.self.view_is))

pub read-requires-clause-room : goal.read-requires-clause-room
read-requires-clause-room g c = subst (λ (x : Parts). c.args.job.length ≤ length x.content) (sym c.self.view_is) (few_in g.O.Origin.making g.O.Origin.entry c.args.self.now c.args.job c.requires.sound c.requires.job)

pub returns-in-Done : goal.returns-in-Done
returns-in-Done g c = content_done c.self.view_is c.args.job c.args.which c.head_sector-sector.result c.place_of_page-address.result c.read.new.fls c.read.new.self
    c.requires.which c.head_sector-sector.ensures c.place_of_page-address.ensures.value c.read.ensures.room c.read.ensures.small (c.self-in-Done.view_is ∙ c.end.ensures) c.in-Done.ensures.read c.in-Done.ensures.same

pub returns-in_default : goal.returns-in_default
returns-in_default g c = content_failed c.self.view_is c.args.job c.args.which c.head_sector-sector.result c.place_of_page-address.result c.read.new.fls c.read.new.self
    c.requires.which c.head_sector-sector.ensures c.place_of_page-address.ensures.value c.read.ensures.room c.read.ensures.small (c.self-in_default.view_is ∙ c.end-in_default.ensures)
    c.read.result c.in_default.not-Done c.read.ensures.read c.read.ensures.same c.saturating_add-self-inside.result c.saturating_add-self-inside.ensures

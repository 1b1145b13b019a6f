use Rattle.std.proofs.Common.{◌≡◌, ◌∙◌}
use Rattle.nv_base.proofs.Shapes.{pages_lie_inside}
use Rattle.fee_switch.proofs.Pieces.{pages_answered}
use Rattle.fee_switch.proofs.reading.read_pages.Goals as goal

pub read_range-requires-clause-range : goal.read_range-requires-clause-range
read_range-requires-clause-range g c =
    let G = c.args.geometry in
    let same : c.args.fls.now.flash.geometry ≡ G = (c.status.ensures.state.attached c.requires.flash.idle.attached).geometry ∙ c.requires.flash.geometry in
    record { inside = rw (same, c.page_address-address.ensures.value, c.requires.size) (pages_lie_inside G c.args.banks c.args.bank c.args.from c.args.count c.requires.flash.legal c.requires.flash.shared c.requires.bank c.requires.inside) }

pub returns-clause-read : goal.returns-clause-read
returns-clause-read g c =
    pages_answered c.args.geometry c.args.banks c.args.bank c.args.from c.args.fls.now.flash c.read_range.result c.args.into.now c.read_range.new.into c.read_range.new.self.flash
    (rw c.page_address-address.ensures.value at c.read_range.ensures.read)

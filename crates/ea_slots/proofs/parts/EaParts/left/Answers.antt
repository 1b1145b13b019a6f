use Rattle.std.proofs.Common.{◌≡◌, Some, sym, ap, ◌∙◌}
use Rattle.ea_told.specs.Parts.{Parts}
use Rattle.ea_slots.proofs.Places.{place_in, step_in}
use Rattle.ea_slots.proofs.parts.EaParts.left.Goals as goal

pub is_writable-requires : goal.is_writable-requires
is_writable-requires g c = place_in g.O.Origin.making g.O.Origin.entry c.args.self.now c.in-Some.job c.requires (sym (ap (λ (x : Parts). x.job) c.self.view_is) ∙ c.in-Some.is)

pub steps_left-requires : goal.steps_left-requires
steps_left-requires g c =
    let job : c.args.self.now.job ≡ Some c.in-Some.job = sym (ap (λ (x : Parts). x.job) c.self.view_is) ∙ c.in-Some.is in
    let is = step_in g.O.Origin.making g.O.Origin.entry c.args.self.now c.in-Some.job c.requires job c.body_pages.result _ c.body_pages.ensures (ap (λ (x : Parts). x.geometry.page) c.self.view_is) in
    record { step = is.0; few = is.1 }

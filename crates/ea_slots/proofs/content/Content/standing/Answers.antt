use Rattle.std.proofs.Common.{◌≡◌, ℕ, List, [], take, drop, ap, ◌∙◌}
use Rattle.ea_image.specs.Slots.{standing}
use Rattle.ea_slots.proofs.content.Content.standing.Goals as goal

pub returns : goal.returns
returns c =
    let first : c.deref.result.now ≡ c.args.self.now = c.deref.ensures.value ∙ c.self.view_is in
    let second : c.deref-2.result.now ≡ c.args.self.now = c.deref-2.ensures.value ∙ c.self.view_is in
    let head : c.part.result.now ≡ take c.args.page c.args.self.now = c.part.ensures.part ∙ ap (λ (b : List ℕ). take c.args.page b) first in
    let gate : c.part-2.result.now ≡ take c.args.page (drop c.args.page c.args.self.now) = c.part-2.ensures.part ∙ ap (λ (b : List ℕ). take c.args.page (drop c.args.page b)) second in
    c.slot_standing.ensures ∙ (λ k. standing (c.part.ensures.whole k) c.args.size (record { head = head k; gate = gate k; body = [] }))

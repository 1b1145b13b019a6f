use Rattle.std.proofs.Common.{◌≡◌, ◌+◌, List, [], ◌∷◌, ◌++◌, length, ap, ◌∙◌}
use Rattle.std.proofs.lemmas.List.{length-append}
use Rattle.ea_slots.proofs.Starting.{has_started}
use Rattle.ea_slots.proofs.parts.EaParts.start.Goals as goal

one_more : (old new : List (Unit {0})) → new ≡ old ++ tt ∷ [] → length new ≡ length old + 1
one_more old new is = ap length is ∙ length-append old (tt ∷ [])

pub returns-in-Ok : goal.returns-in-Ok
returns-in-Ok g c =
    let e = c.in-Ok.ensures in
    let all = c.read_all-answer in
    has_started c.self.view_is c.requires c.power_on.new.self all.new.fls c.power_on.ensures e.reads all.new.states e.loaded all.ensures.count all.ensures.worn all.new.buffer all.ensures.room c.tell_small.ensures _ (one_more _ _ c.with-self-inside.ensures) tt

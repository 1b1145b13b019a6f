use Rattle.std.proofs.Common.{◌++◌, [], ◌∷◌, length, ap, ◌∙◌}
use Rattle.std.proofs.lemmas.List.{length-replicate}
use Rattle.ram_mirrors.proofs.mirror.first_slots.Goals as goal

pub returns : goal.returns
returns g c =
    let a = c.none.result in
    let b = c.none-2.result in
    let home = c.in_ok-home.home in
    let one = c.in_ok-push.ensures.items in
    let two = c.in_ok-push-2.ensures.items in
    let three = c.in_ok-push-3.ensures.items in
    (a, b, home, three ∙ ap (λ l. l ++ home ∷ []) (two ∙ ap (λ l. l ++ b ∷ []) (one ∙ ap (λ l. l ++ a ∷ []) c.new-slots.ensures.items)), ap (λ s. length s.content) c.in_ok-home.ensures ∙ length-replicate _ _)

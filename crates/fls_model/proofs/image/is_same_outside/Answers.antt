use Rattle.std.proofs.Common.{arith, ◌≡◌, ◌-◌, ◌+◌, ◌∙◌, ℕ, List, sym, drop, take, length, length-drop}
use Rattle.std.proofs.lemmas.List.{take_all}
use Rattle.fls_model.proofs.image.is_same_outside.Goals as goal

rest : (k : ℕ) (xs : List ℕ) → take (length xs - k) (drop k xs) ≡ drop k xs
rest k xs = take_all (length xs - k) (drop k xs) (omega (arith, length-drop k xs))

pub returns : goal.returns
returns c =
    let new = rest (c.args.address + c.args.count) c.args.new.now in
    let old = rest (c.args.address + c.args.count) c.args.old.now in
    (λ e. record { size = c.if-new-old.false; front = c.is_same.ensures.0 c.if-not-is_same.false; back = sym new ∙ c.is_same-2.ensures.0 e ∙ old }, λ s. c.is_same-2.ensures.1 (new ∙ s.back ∙ sym old))

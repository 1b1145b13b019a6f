use Rattle.std.proofs.Common.{◌≡◌, inl, inr, zero, suc, [], ◌∷◌, Contains, refl, ap, arith}
use Rattle.nv_base.specs.declared.mark.Mark.TheVariants.{Content, Erased}
use Rattle.fee_image.specs.Cases.{small, content_1}
use Rattle.nv_base.specs.Held.{Held, never_written}
use Rattle.fee_image.specs.Image.{BankStands}
use Rattle.fee_image.specs.SwitchCases.{head_of, stood}
use Rattle.fee_image.proofs.switch_cases.refused_banks.Goals as goal

only_one : (m n : Held) → Contains (n ∷ []) m → n ≡ m
only_one m n (zero, lt, is) = is
only_one m n (suc k, lt, is) = absurd (omega arith)

differ : Content content_1 ≡ Erased → ⊥
differ is = cc is

pub returns-clause-uncopied : goal.returns-clause-uncopied
returns-clause-uncopied c ns holds =
    let found : Content content_1 ≡ Erased = ap (λ (h : Held). h.mark) (only_one never_written (record { mark = Content content_1; count = 1 }) (holds.phase.whole 128 4 never_written (holds.phase.holds.shows 128 4))) in
    differ found

pub returns-clause-another_first : goal.returns-clause-another_first
returns-clause-another_first c ns bytes holds =
    let stands : BankStands small (stood (head_of 1 0xfe) (head_of 2 0xfd)) 1 (record { format = 2; generation = 2 }) = record { head = record { legal = record { format = inr refl; generation = omega arith }; page_is = refl }; gate = refl } in
    elim (holds.phase (record { format = 2; generation = 2 }) stands (λ e. omega (arith, e))) [
      | inl less ↦ omega (arith, less)
      | inr tie ↦ omega (arith, tie.0)
    ]

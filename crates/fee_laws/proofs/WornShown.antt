-- What the bytes of a flash show of the active bank.
use Rattle.std.proofs.Common.{◌≡◌, inl, inr, ◌<◌, ℕ, List, Some, None, sym, subst}
use Rattle.std.proofs.lemmas.Bool.Decides.{eqb_tells}
use Rattle.nv_base.specs.declared.instance.DeviceNumber.{DeviceNumber}
use Rattle.fee_format.specs.declared.bank_head.BankHead.{BankHead}
use Rattle.fee_image.specs.Image.{Layout, active_of}
use Rattle.fee_image.specs.Log.{Log}
use Rattle.fee_image.specs.Banks.{Old, NoBank, OldBank, Phase, Banks, Holds, HoldsOld, HoldsPhase, IsBehind, StandsBehind}
use Rattle.fee_image.proofs.Banks.{active_computes, no_active_computes}

-- THE ACTIVE BANK
-- where the target is behind too: with no switch open, and while one erases
pub behind_by : (l : Layout) (numbers : List (DeviceNumber × ℕ)) (bytes : List ℕ) (x : Banks) → Holds l numbers bytes x → (p : Phase) → x.phase ≡ p → HoldsPhase l numbers bytes x p
behind_by l numbers bytes x holds p at = subst (λ (y : Phase). HoldsPhase l numbers bytes x y) at holds.phase

module _ (l : Layout) (numbers : List (DeviceNumber × ℕ)) (bytes : List ℕ) (x : Banks) (holds : Holds l numbers bytes x) (behind_target : StandsBehind l bytes x.old x.target) where
  behind_each : (j : ℕ) → j < l.banks → StandsBehind l bytes x.old j
  behind_each j less = elim (eqb_tells j x.target) [
    | inl is ↦ subst (λ (n : ℕ). StandsBehind l bytes x.old n) (sym is.1) behind_target
    | inr is ↦ holds.behind j less is.1
  ]

  pub own_bank : (k : ℕ) (h : BankHead) (log : Log) → x.old ≡ OldBank k h log → HoldsOld l numbers bytes x.target (OldBank k h log) x.may
  own_bank k h log at = subst (λ (o : Old). HoldsOld l numbers bytes x.target o x.may) at holds.old

  pub active_is : (k : ℕ) (h : BankHead) (log : Log) → x.old ≡ OldBank k h log → active_of l bytes ≡ Some (k, h)
  active_is k h log at =
      let own = own_bank k h log at in
      (active_computes l bytes k h).0 (record {
        bank = own.1.bank;
        stands = own.1.stands;
        first = λ j other less differs stands. subst (λ (o : Old). IsBehind o j other) at (behind_each j less other stands) differs;
      })

  pub none_is : x.old ≡ NoBank → active_of l bytes ≡ None
  none_is at = (no_active_computes l bytes).0 (λ j h less stands. subst (λ (o : Old). IsBehind o j h) at (behind_each j less h stands))

-- The active bank, computed.
use Rattle.std.specs.Prelude.{nat_lt, if◌then◌else◌}
use Rattle.std.proofs.Common.{◌≡◌, inl, inr, ◌↔◌, ◌<◌, ℕ, zero, suc, Bool, true, false, IsTrue, List, Option, Some, None, refl, sym, ◌∙◌, subst, arith}
use Rattle.std.proofs.lemmas.Bool.{cases_eq, cases_order}
use Rattle.std.proofs.lemmas.Option.{none-some, same_Some}
use Rattle.fee_format.specs.declared.bank_head.BankHead.{BankHead}
use Rattle.fee_format.specs.BankHead.{bank_head_of}
use Rattle.fee_format.specs.Gate.{is_gate}
use Rattle.fee_image.specs.Image.{Layout, image_page, BankStands, ComesFirst, IsActive, HasNoActive, head_of_bank, first_with, first_of, active_below, active_of}
use Rattle.fee_image.specs.Laws.{HeadsCompute, ActiveComputes, NoActiveComputes, ActiveStays, SealedIsActive, FirstIsActive}
use Rattle.fee_image.proofs.Picks.{then_is, if_some}
use Rattle.fee_format.proofs.Heads.{bank_heads_compute}
use Rattle.fee_format.proofs.Tests.{gates_compute, lt_is}

pub heads_compute : HeadsCompute
heads_compute l bytes k h =
    let g = is_gate l.page (image_page l bytes k 1) in
    let o = bank_head_of l.page (image_page l bytes k 0) in (
      λ stands. then_is g o None ((gates_compute l.page (image_page l bytes k 1)).1 stands.gate) ∙ (bank_heads_compute l.page (image_page l bytes k 0) h).0 stands.head,
      λ is.
          let all = if_some g o h is in
          record { head = (bank_heads_compute l.page (image_page l bytes k 0) h).1 all.1; gate = (gates_compute l.page (image_page l bytes k 1)).0 all.0 },
    )

-- two banks can't each come before the other
not_both : (k j : ℕ) (h i : BankHead) → ComesFirst k h j i → ComesFirst j i k h → ⊥
not_both k j h i (inl less) (inl more) = omega arith
not_both k j h i (inr same) (inl more) = omega (arith, same.0)
not_both k j h i (inl less) (inr same) = omega (arith, same.0)
not_both k j h i (inr one) (inr two) = omega (arith, one.1, two.1)

module _ (l : Layout) (bytes : List ℕ) where
  abbrev Stand : ℕ → BankHead → Type 0
  Stand k h = BankStands l bytes k h

  one_head : (k : ℕ) (h i : BankHead) → Stand k h → Stand k i → h ≡ i
  one_head k h i one two = same_Some h i (sym ((heads_compute l bytes k h).0 one) ∙ (heads_compute l bytes k i).0 two)

  pub one_active : (k j : ℕ) (h i : BankHead) → IsActive l bytes k h → IsActive l bytes j i → (k ≡ j) × (h ≡ i)
  one_active k j h i one two = elim (cases_eq k j) [
    | inl same ↦ (same, one_head k h i one.stands (subst (λ (n : ℕ). Stand n i) (sym same) two.stands))
    | inr other ↦ absurd (not_both k j h i (one.first j i two.bank (λ e. other (sym e)) two.stands) (two.first k h one.bank other one.stands))
  ]

  -- OF THE FIRST BANKS
  record IsFirst (n k : ℕ) (h : BankHead) : Type 0 where
    bank : k < n
    stands : Stand k h
    first : (j : ℕ) (other : BankHead) → j < n → (j ≡ k → ⊥) → Stand j other → ComesFirst k h j other

  abbrev Best : ℕ → Option (ℕ × BankHead) → Type 0
  Best n None = (k : ℕ) (h : BankHead) → k < n → Stand k h → ⊥
  Best n (Some x) = IsFirst n x.0 x.1

  -- bank n doesn't stand
  without : (n : ℕ) (o : Option (ℕ × BankHead)) → ((h : BankHead) → Stand n h → ⊥) → Best n o → Best (suc n) o
  without n None none best = λ k h lt stands. elim (cases_eq k n) [
    | inl same ↦ none h (subst (λ (x : ℕ). Stand x h) same stands)
    | inr other ↦ best k h (omega arith) stands
  ]
  without n (Some x) none best = record {
    bank = (let lt : x.0 < suc n = omega (arith, best.bank) in lt);
    stands = best.stands;
    first = λ j other lt ne stands. elim (cases_eq j n) [
      | inl same ↦ absurd (none other (subst (λ (y : ℕ). Stand y other) same stands))
      | inr differs ↦ best.first j other (omega arith) ne stands
    ];
  }

  -- it stands, and the best of the others comes behind it, or before it
  newer : (n : ℕ) (h : BankHead) (x : ℕ × BankHead) → Stand n h → IsFirst n x.0 x.1 → x.1.generation < h.generation → IsFirst (suc n) n h
  newer n h x stands best less = record {
    bank = omega arith;
    stands = stands;
    first = λ j other lt ne also. elim (cases_eq j x.0) [
      | inl same ↦ inl (subst (λ (i : BankHead). i.generation < h.generation) (one_head x.0 x.1 other best.stands (subst (λ (y : ℕ). Stand y other) same also)) less)
      | inr differs ↦ elim (best.first j other (omega arith) differs also) [ inl more ↦ inl (omega arith) | inr tie ↦ inl (omega (arith, tie.0)) ]
    ];
  }

  older : (n : ℕ) (h : BankHead) (x : ℕ × BankHead) → Stand n h → IsFirst n x.0 x.1 → (x.1.generation < h.generation → ⊥) → IsFirst (suc n) x.0 x.1
  older n h x stands best most = record {
    bank = (let lt : x.0 < suc n = omega (arith, best.bank) in lt);
    stands = best.stands;
    first = λ j other lt ne also. elim (cases_eq j n) [
      | inl same ↦
          let is : h ≡ other = one_head n h other stands (subst (λ (y : ℕ). Stand y other) same also) in
          subst (ComesFirst x.0 x.1 j) is (elim (cases_order h.generation x.1.generation) [
            | inl tie ↦ inr (tie, (let before : x.0 < j = omega (arith, same, best.bank) in before))
            | inr (inl less) ↦ inl less
            | inr (inr more) ↦ absurd (most more)
          ])
      | inr differs ↦ best.first j other (omega arith) ne also
    ];
  }

  with_pick : (n : ℕ) (h : BankHead) (x : ℕ × BankHead) (b : Bool) → IsTrue b ↔ (x.1.generation < h.generation) → Stand n h → IsFirst n x.0 x.1 → Best (suc n) (if b then Some (n, h) else Some x)
  with_pick n h x true is stands best = newer n h x stands best (is.0 refl)
  with_pick n h x false is stands best = older n h x stands best (λ less. absurd (let e : false ≡ true = is.1 less in cc e))

  with_head : (n : ℕ) (h : BankHead) (o : Option (ℕ × BankHead)) → Stand n h → Best n o → Best (suc n) (first_with o n h)
  with_head n h None stands best = record {
    bank = omega arith;
    stands = stands;
    first = λ j other lt ne also. absurd (best j other (omega arith) also);
  }
  with_head n h (Some x) stands best = with_pick n h x (nat_lt x.1.generation h.generation) (lt_is x.1.generation h.generation) stands best

  next : (n : ℕ) (o : Option (ℕ × BankHead)) (head : Option BankHead) → head_of_bank l bytes n ≡ head → Best n o → Best (suc n) (first_of o n head)
  next n o None is best = without n o (λ h stands. none-some h (sym is ∙ (heads_compute l bytes n h).0 stands)) best
  next n o (Some h) is best = with_head n h o ((heads_compute l bytes n h).1 is) best

  best_below : (n : ℕ) → Best n (active_below l bytes n)
  best_below zero = λ k h lt stands. absurd (omega arith)
  best_below (suc n) = next n (active_below l bytes n) (head_of_bank l bytes n) refl (best_below n)

  -- OF ALL BANKS
  active_best : (x : ℕ × BankHead) → Best l.banks (Some x) → IsActive l bytes x.0 x.1
  active_best x best = record { bank = best.bank; stands = best.stands; first = best.first }

  is_active : (k : ℕ) (h : BankHead) (o : Option (ℕ × BankHead)) → Best l.banks o → IsActive l bytes k h ↔ (o ≡ Some (k, h))
  is_active k h None best = (λ active. absurd (best k h active.bank active.stands), λ e. absurd (none-some (k, h) e))
  is_active k h (Some x) best = (
    λ active. let same = one_active x.0 k x.1 h (active_best x best) active in λ i. Some (same.0 i, same.1 i),
    λ e. subst (λ (y : ℕ × BankHead). IsActive l bytes y.0 y.1) (same_Some x (k, h) e) (active_best x best),
  )

  no_active : (o : Option (ℕ × BankHead)) → Best l.banks o → HasNoActive l bytes ↔ (o ≡ None)
  no_active None best = (λ none. refl, λ e. best)
  no_active (Some x) best = (λ none. absurd (none x.0 x.1 best.bank best.stands), λ e. absurd (none-some x (sym e)))

pub active_computes : ActiveComputes
active_computes l bytes k h = is_active l bytes k h (active_of l bytes) (best_below l bytes l.banks)

pub no_active_computes : NoActiveComputes
no_active_computes l bytes = no_active l bytes (active_of l bytes) (best_below l bytes l.banks)

-- WHAT THE ACTIVE BANK READS
below_stays : (l : Layout) (old new : List ℕ) (n : ℕ) → ((k : ℕ) → k < n → (image_page l new k 0 ≡ image_page l old k 0) × (image_page l new k 1 ≡ image_page l old k 1)) → active_below l new n ≡ active_below l old n
below_stays l old new zero same = refl
below_stays l old new (suc n) same =
    let rest : active_below l new n ≡ active_below l old n = below_stays l old new n (λ k lt. same k (omega arith)) in
    let here = same n (omega arith) in
    let head : head_of_bank l new n ≡ head_of_bank l old n = λ i. if is_gate l.page (here.1 i) then bank_head_of l.page (here.0 i) else None in
    λ i. first_of (rest i) n (head i)

pub active_stays : ActiveStays
active_stays l old new same = below_stays l old new l.banks same

pub first_is_active : FirstIsActive
first_is_active l old new t i none lt stands stood = record {
  bank = lt;
  stands = stands;
  first = λ j other inside ne also. absurd (none j other inside (stood j other inside ne also));
}

pub sealed_is_active : SealedIsActive
sealed_is_active l old new k t h i active lt stands newer stood = record {
  bank = lt;
  stands = stands;
  first = λ j other inside ne also.
      let was : BankStands l old j other = stood j other inside ne also in
      elim (cases_eq j k) [
        | inl same ↦ inl (subst (λ (x : BankHead). x.generation < i.generation) (one_head l old k h other active.stands (subst (λ (n : ℕ). BankStands l old n other) same was)) newer)
        | inr differs ↦ elim (active.first j other inside differs was) [ inl less ↦ inl (omega arith) | inr tie ↦ inl (omega (arith, tie.0)) ]
      ];
}

-- What a start-up would find.
use Rattle.std.proofs.Common.{◌≡◌, inl, inr, ◌<◌, ◌≤◌, ℕ, zero, suc, ◌+◌, List, refl, sym, ap, ◌∙◌, subst, arith}
use Rattle.std.proofs.lemmas.Bool.{cases_Bool, cases_eq, false≢true}
use Rattle.std.proofs.lemmas.Option.{same_Some}
use Rattle.nv_base.specs.declared.instance.DeviceNumber.{DeviceNumber}
use Rattle.fee_format.specs.declared.bank_head.BankHead.{BankHead}
use Rattle.fee_format.specs.Gate.{IsGate, is_gate}
use Rattle.fee_format.specs.Pages.{gate_page, blank_page}
use Rattle.fee_image.specs.Image.{Layout, IsLegalLayout, bank_in, image_page, BankStands, ComesFirst, IsActive, HasNoActive, found_held, held_of_bank}
use Rattle.fee_image.specs.Log.{Log, HoldsLog}
use Rattle.fee_image.specs.May.{May, IsAmong}
use Rattle.fee_image.specs.Banks.{Old, NoBank, OldBank, Phase, Idle, Erasing, Copying, Sealing, Banks, Holds, HoldsOld, HoldsPhase, ImageShows, IsBehind, StandsBehind, IsCopying, IsSealing, next_head}
use Rattle.fee_image.specs.BankLaws.{BanksShow}
use Rattle.fee_format.proofs.Tests.{gates_compute}
use Rattle.fee_image.proofs.Banks.{heads_compute, no_active_computes}
use Rattle.fee_image.proofs.FoundMaps.{found_of_active}

pub blank_shut : (p : ℕ) (page : List ℕ) → 16 ≤ p → page ≡ blank_page p → IsGate p page → ⊥
blank_shut zero page big is gate = absurd (omega arith)
blank_shut (suc p) page big is gate = let e : blank_page (suc p) ≡ gate_page (suc p) = sym is ∙ gate in cc e

-- a target that is copied to doesn't stand
pub copying_shut : (l : Layout) (numbers : List (DeviceNumber × ℕ)) (bytes : List ℕ) (t : ℕ) (log : Log) (copied : May) (h : BankHead) → IsLegalLayout l → IsCopying l numbers bytes t log copied → BankStands l bytes t h → ⊥
copying_shut l numbers bytes t log copied h legal c stands = blank_shut l.page (image_page l bytes t 1) legal.page (c.first 1 (omega arith) (omega (arith, legal.pages))) stands.gate

-- where the gate of a sealed target is open, it is active
pub sealed_stands : (l : Layout) (numbers : List (DeviceNumber × ℕ)) (bytes : List ℕ) (s : Banks) (log : Log) → IsSealing l numbers bytes s log → IsGate l.page (image_page l bytes s.target 1) → BankStands l bytes s.target (next_head s.old)
sealed_stands l numbers bytes s log c gate = record { head = record { legal = record { format = inr refl; generation = c.last }; page_is = c.head }; gate = gate }

newer : (l : Layout) (numbers : List (DeviceNumber × ℕ)) (bytes : List ℕ) (t j : ℕ) (o : Old) (may : May) (other : BankHead) → HoldsOld l numbers bytes t o may → IsBehind o j other → BankStands l bytes j other → ComesFirst t (next_head o) j other
newer l numbers bytes t j NoBank may other holds behind stands = absurd behind
newer l numbers bytes t j (OldBank k h log) may other holds behind stands = elim (cases_eq j k) [
  | inl same ↦
      let at = subst (λ (n : ℕ). BankStands l bytes n other) same stands in
      let is : h ≡ other = same_Some h other (sym ((heads_compute l bytes k h).0 holds.1.stands) ∙ (heads_compute l bytes k other).0 at) in
      inl (subst (λ (x : BankHead). x.generation < h.generation + 1) is (omega arith))
  | inr differs ↦ elim (behind differs) [ inl less ↦ inl (omega arith) | inr tie ↦ inl (omega (arith, tie.0)) ]
]

pub sealed_active : (l : Layout) (numbers : List (DeviceNumber × ℕ)) (bytes : List ℕ) (s : Banks) (log : Log) → s.target < l.banks → HoldsOld l numbers bytes s.target s.old s.may → ((j : ℕ) → j < l.banks → (j ≡ s.target → ⊥) → StandsBehind l bytes s.old j)
    → IsSealing l numbers bytes s log → IsGate l.page (image_page l bytes s.target 1) → IsActive l bytes s.target (next_head s.old)
sealed_active l numbers bytes s log lt holds behind c gate = record {
  bank = lt;
  stands = sealed_stands l numbers bytes s log c gate;
  first = λ j other inside ne stands. newer l numbers bytes s.target j s.old s.may other holds (behind j inside ne other stands) stands;
}

module _ (l : Layout) (numbers : List (DeviceNumber × ℕ)) (bytes : List ℕ) where
  -- an active bank shows what its log may show
  shows_active : (k : ℕ) (h : BankHead) (log : Log) (may : May) → IsActive l bytes k h → HoldsLog (bank_in l h.format k) numbers bytes may log → ImageShows l bytes may
  shows_active k h log may active holds number length = subst (IsAmong (may number length)) (sym (found_of_active l bytes k h active number length)) (holds.shows number length)

  -- where each bank comes after the old one
  shows_old : (t : ℕ) (o : Old) (may : May) → HoldsOld l numbers bytes t o may → ((j : ℕ) → j < l.banks → StandsBehind l bytes o j) → ImageShows l bytes may
  shows_old t NoBank may give behind =
      let none : HasNoActive l bytes = λ j other inside stands. behind j inside other stands in
      λ number length. subst (IsAmong (may number length)) (sym (ap (held_of_bank l bytes number length) ((no_active_computes l bytes).0 none))) (give number length)
  shows_old t (OldBank k h log) may (apart, holds) behind =
      shows_active k h log may (record { bank = holds.bank; stands = holds.stands; first = λ j other inside ne stands. behind j inside other stands ne }) holds.holds

  with_target : (s : Banks) → Holds l numbers bytes s → StandsBehind l bytes s.old s.target → ImageShows l bytes s.may
  with_target s holds at = shows_old s.target s.old s.may holds.old (λ j inside. elim (cases_eq j s.target) [
    | inl same ↦ subst (StandsBehind l bytes s.old) (sym same) at
    | inr other ↦ holds.behind j inside other
  ])

  by_phase : (s : Banks) (phase : Phase) → IsLegalLayout l → Holds l numbers bytes s → HoldsPhase l numbers bytes s phase → ImageShows l bytes s.may
  by_phase s Idle legal holds behind = with_target s holds behind
  by_phase s (Erasing n) legal holds (behind, blank) = with_target s holds behind
  by_phase s (Copying log) legal holds c = with_target s holds (λ other stands. absurd (copying_shut l numbers bytes s.target log s.copied other legal c stands))
  by_phase s (Sealing log) legal holds c = elim (cases_Bool (is_gate l.page (image_page l bytes s.target 1))) [
    | inl t ↦
        let active = sealed_active l numbers bytes s log holds.target holds.old holds.behind c ((gates_compute l.page (image_page l bytes s.target 1)).0 t) in
        λ number length. c.whole number length (found_held l bytes number length) (shows_active s.target (next_head s.old) log s.copied active c.holds number length)
    | inr shut ↦ with_target s holds (λ other stands. absurd (false≢true (sym shut ∙ (gates_compute l.page (image_page l bytes s.target 1)).1 stands.gate)))
  ]

pub banks_show : BanksShow
banks_show l numbers bytes s legal holds = by_phase l numbers bytes s s.phase legal holds holds.phase

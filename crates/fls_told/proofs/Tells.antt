-- From what is told of each number to what a call of a device does.
use Rattle.std.specs.Prelude.{◌==◌}
use Rattle.std.proofs.Common.{◌≡◌, ℕ, Bool, true, false, List, [], Option, Some, None, refl, sym, subst}
use Rattle.memif.specs.Told.{Slot, slot_at, IfElse}
use Rattle.memif.specs.Marks.{Keeps, Doubts, SettlesAs, ComesFrom, IfTold}
use Rattle.fls_told.specs.Device.{FlashDevice, tells_now, slot_with, slots_now}
use Rattle.fls_told.specs.Tells.{IsSame, AreTold, TellsKeep, TellsSettle, TellsDoubt, TellsStart}
use Rattle.fls_told.proofs.Clocks.{told_now, now_before, slots_are}

untold : (d : FlashDevice) → tells_now d ≡ false → slots_now d ≡ None
untold d is = rw is refl

none_told : (o : Option (List Slot)) (P : List Slot → List Slot → Type 0) → IfTold o None P
none_told None P = tt
none_told (Some slots) P = tt

-- a fact of each number where the slots are told
module _ (P : ℕ → Slot → Slot → Type 0) (d t : FlashDevice) (same : IsSame d t) (holds : (old new : List ℕ) → AreTold d t old new → (n : ℕ) → P n (slot_with d old n) (slot_with t new n)) where
  numbers_told : (n : ℕ) (slots : List Slot) → slot_at t.fixed.numbers slots n ≡ slot_at d.fixed.numbers slots n
  numbers_told n slots = λ i. slot_at (same.numbers i) slots n

  abbrev InBoth : Option (List Slot) → Option (List Slot) → Type 0
  InBoth o p = IfTold o p (λ s u. (n : ℕ) → P n (slot_at d.fixed.numbers s n) (slot_at d.fixed.numbers u n))

  by_tells : (c : Bool) → tells_now t ≡ c → InBoth (slots_now d) (slots_now t)
  by_tells false is = subst (InBoth (slots_now d)) (sym (untold t is)) (none_told (slots_now d) (λ s u. (n : ℕ) → P n (slot_at d.fixed.numbers s n) (slot_at d.fixed.numbers u n)))
  by_tells true is =
      let d_is = now_before d t same.reading same.entry same.later is in
      let b = told_now d same.old d_is in
      let e = told_now t same.new is in
      let here : InBoth (Some (d.slots b.bytes)) (Some (t.slots e.bytes)) = λ n.
      subst (P n (slot_with d b.bytes n)) (numbers_told n (t.slots e.bytes)) (holds b.bytes e.bytes (is, b.is, e.is) n) in
      subst (λ (o : Option (List Slot)). InBoth o (slots_now t)) (sym (slots_are d b.bytes d_is b.is)) (subst (InBoth (Some (d.slots b.bytes))) (sym (slots_are t e.bytes is e.is)) here)

  each_number : InBoth (slots_now d) (slots_now t)
  each_number = by_tells (tells_now t) refl

pub tells_keep : TellsKeep
tells_keep d t same holds = each_number (λ n s u. Keeps s u) d t same holds

pub tells_settle : TellsSettle
tells_settle d t number mark same holds = each_number (λ n s u. IfElse (n == number) (SettlesAs mark s u) (Keeps s u)) d t same holds

pub tells_doubt : TellsDoubt
tells_doubt d t number mark same holds = each_number (λ n s u. IfElse (n == number) (Doubts mark s u) (Keeps s u)) d t same holds

pub tells_start : TellsStart
tells_start d t same holds = (
  each_number (λ n s u. ComesFrom s u) d t same (λ old new told n. (holds old new told n).0),
  each_number (λ n s u. u.doubts ≡ []) d t same (λ old new told n. (holds old new told n).1),
)

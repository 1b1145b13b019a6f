-- A query of a number on its own device is one of the pair.
use Rattle.std.specs.Prelude.{is_some, IfSome, ◌&&◌}
use Rattle.std.proofs.Common.{◌≡◌, ℕ, Bool, true, false, if◌then◌else◌, List, Option, Some, None, refl, sym, ap, ◌∙◌}
use Rattle.nv_base.specs.declared.job.DeviceOp.{DeviceOp}
use Rattle.memif.specs.declared.answer.PlainMark.{PlainMark}
use Rattle.memif.specs.Told.{DeviceTold, Fixed, Figures, First, Second, IsConfigured, Slot, figures_at, length_of, most_of, slot_at}
use Rattle.memif.specs.Calls.{IsKind, kind_of}
use Rattle.memif_pair.specs.Pair.{told_both, fixed_both, slots_both, is_second, listed_in, numbers_in}
use Rattle.memif_pair.specs.Together.{HasNumber}
use Rattle.memif_pair.proofs.Numbers.{merged_length}
use Rattle.memif_pair.proofs.Ticking.{slot_is}
use Rattle.memif_pair.proofs.Orders.{figures_first, most_same}
use Rattle.memif_pair.proofs.Together.{figures_second}

pub both_up : (p q : Bool) → (p && q) ≡ true → (p ≡ true) × (q ≡ true)
both_up true true up = (refl, refl)
both_up true false up = cc up
both_up false q up = cc up

-- configured exactly where its own device has it
configured_by : (f g : Fixed) (n : ℕ) (q : Bool) → is_second g.numbers n ≡ q → is_some (length_of (numbers_in f g) n) ≡ (if q then true else is_some (length_of f.numbers n))
configured_by f g n q of = merged_length f.numbers g.numbers n ∙ ap (λ (t : Bool). if t then true else is_some (length_of f.numbers n)) of

slot_by : (f g : Fixed) (s t : List Slot) (n : ℕ) (q : Bool) → is_second g.numbers n ≡ q
    → slot_at (numbers_in f g) (listed_in f g (slot_at f.numbers s) (slot_at g.numbers t)) n ≡ (if q then slot_at g.numbers t n else slot_at f.numbers s n)
slot_by f g s t n q of = slot_is f g s t n ∙ ap (λ (x : Bool). if x then slot_at g.numbers t n else slot_at f.numbers s n) of

module _ (a b : DeviceTold) (last : Bool) (course : List Bool) (n : ℕ) where
  abbrev KindAt : Fixed → Bool → PlainMark → Option (List Slot) → Type 0
  KindAt f started kind slots = IfSome slots (λ xs. started ≡ true → kind ≡ kind_of (slot_at f.numbers xs n).settled.mark)

  at_second : (kind : PlainMark) → is_second b.fixed.numbers n ≡ true → (s t : Option (List Slot)) → KindAt b.fixed b.started kind t
      → KindAt (fixed_both a.fixed b.fixed) (a.started && b.started) kind (slots_both a.fixed b.fixed s t)
  at_second kind of None t known = tt
  at_second kind of (Some s) None known = tt
  at_second kind of (Some s) (Some t) known = λ up. known (both_up a.started b.started up).1 ∙ ap (λ (x : Slot). kind_of x.settled.mark) (sym (slot_by a.fixed b.fixed s t n true of))

  at_first : (kind : PlainMark) → is_second b.fixed.numbers n ≡ false → (s t : Option (List Slot)) → KindAt a.fixed a.started kind s
      → KindAt (fixed_both a.fixed b.fixed) (a.started && b.started) kind (slots_both a.fixed b.fixed s t)
  at_first kind of None t known = tt
  at_first kind of (Some s) None known = tt
  at_first kind of (Some s) (Some t) known = λ up. known (both_up a.started b.started up).0 ∙ ap (λ (x : Slot). kind_of x.settled.mark) (sym (slot_by a.fixed b.fixed s t n false of))

  pub kind_second : (kind : PlainMark) → IsKind b n (Some kind) → IsKind (told_both a b last course) n (Some kind)
  kind_second kind is =
      let of : is_second b.fixed.numbers n ≡ true = sym is.configured in
      record { configured = sym (configured_by a.fixed b.fixed n true of); kind = at_second kind of a.slots b.slots is.kind }

  pub kind_first : (answer : Option PlainMark) → IsKind b n None → IsKind a n answer → IsKind (told_both a b last course) n answer
  kind_first answer none is =
      let of : is_second b.fixed.numbers n ≡ false = sym none.configured in
      record { configured = is.configured ∙ sym (configured_by a.fixed b.fixed n false of); kind = by answer of is.kind }
    where
      by : (x : Option PlainMark) → is_second b.fixed.numbers n ≡ false → IfSome x (λ kind. KindAt a.fixed a.started kind a.slots)
          → IfSome x (λ kind. KindAt (fixed_both a.fixed b.fixed) (a.started && b.started) kind (slots_both a.fixed b.fixed a.slots b.slots))
      by None of known = tt
      by (Some kind) of known = at_first kind of a.slots b.slots known

-- TURNS OF A NUMBER
pub first_configured : (a b : DeviceTold) (n : ℕ) → is_second b.fixed.numbers n ≡ false → HasNumber n a b → IsConfigured a n
first_configured a b n of has = sym (configured_by a.fixed b.fixed n false of) ∙ has

pub most_on_first : (a b : DeviceTold) (n : ℕ) (op : DeviceOp) → is_second b.fixed.numbers n ≡ false → most_of (figures_at a.fixed n) op ≡ most_of (figures_at (fixed_both a.fixed b.fixed) n) op
most_on_first a b n op of = sym (ap (λ (x : Figures). most_of x op) (figures_first a.fixed b.fixed n of) ∙ most_same (figures_at a.fixed n) First op)

pub most_on_second : (a b : DeviceTold) (n : ℕ) (op : DeviceOp) → is_second b.fixed.numbers n ≡ true → most_of (figures_at b.fixed n) op ≡ most_of (figures_at (fixed_both a.fixed b.fixed) n) op
most_on_second a b n op of = sym (ap (λ (x : Figures). most_of x op) (figures_second a.fixed b.fixed n of) ∙ most_same (figures_at b.fixed n) Second op)

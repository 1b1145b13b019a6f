-- The clock of a pair behind a turn of its first device.
use Rattle.std.specs.Prelude.{is_some}
use Rattle.std.proofs.Common.{◌≡◌, ℕ, Bool, true, false, if◌then◌else◌, List, Option, Some, None, refl, sym, ap, ◌∙◌, subst, arith}
use Rattle.memif.specs.declared.answer.DeviceTurn.{DeviceTurn}
use Rattle.memif.specs.Told.{DeviceTold, Fixed, Slot, Held, no_slot, slot_at, length_of, is_urgent}
use Rattle.memif.specs.Marks.{IsPossible}
use Rattle.memif.specs.Clock.{Clock, ArePossible, TakesKept}
use Rattle.memif.specs.Calls.{InOrder}
use Rattle.memif_pair.specs.Pair.{told_both, is_second, ArePair, numbers_in, in_both, listed_in, slots_both, stand_both}
use Rattle.memif_pair.specs.Laws.{FirstTicks}
use Rattle.memif_pair.proofs.Numbers.{at_map, merged_length, slot_none}
use Rattle.memif_pair.proofs.Clocks.{first_past, first_part, first_cut, first_failed, first_off, first_was, is_now}

-- what stands for a number in both is what stands for it in its own device
pub slot_is : (f g : Fixed) (s t : List Slot) (n : ℕ)
    → slot_at (numbers_in f g) (listed_in f g (slot_at f.numbers s) (slot_at g.numbers t)) n ≡ in_both g (slot_at f.numbers s) (slot_at g.numbers t) n
slot_is f g s t n =
    at_map no_slot (in_both g (slot_at f.numbers s) (slot_at g.numbers t)) (numbers_in f g) n
    ∙ by (is_some (length_of (numbers_in f g) n)) refl (is_second g.numbers n) refl
  where
    by : (b : Bool) → is_some (length_of (numbers_in f g) n) ≡ b → (q : Bool) → is_second g.numbers n ≡ q
        → (if b then in_both g (slot_at f.numbers s) (slot_at g.numbers t) n else no_slot) ≡ in_both g (slot_at f.numbers s) (slot_at g.numbers t) n
    by true is q of = refl
    by false is true of = (let wrong : is_some (length_of (numbers_in f g) n) ≡ true = merged_length f.numbers g.numbers n ∙ ap (λ (b : Bool). if b then true else is_some (length_of f.numbers n)) of in cc)
    by false is false of =
        let none : is_some (length_of f.numbers n) ≡ false = ap (λ (b : Bool). if b then true else is_some (length_of f.numbers n)) (sym of) ∙ (sym (merged_length f.numbers g.numbers n) ∙ is) in
        rw of (sym (slot_none f.numbers s n none))

pub possible_both : (a b : DeviceTold) (last : Bool) (course : List Bool) (s t : Option (List Slot)) (first second both : ℕ → Held) → ArePair a b
    → ArePossible a s first → ArePossible b t second → ((n : ℕ) → both n ≡ (if is_second b.fixed.numbers n then second n else first n))
    → ArePossible (told_both a b last course) (slots_both a.fixed b.fixed s t) both
possible_both a b last course None t first second both pair one two maps = tt
possible_both a b last course (Some s) None first second both pair one two maps = tt
possible_both a b last course (Some s) (Some t) first second both pair one two maps = λ n.
    subst (λ (x : Slot). IsPossible x (both n)) (sym (slot_is a.fixed b.fixed s t n))
    (subst (λ (h : Held). IsPossible (in_both b.fixed (slot_at a.fixed.numbers s) (slot_at b.fixed.numbers t) n) h) (sym (maps n))
    (by (is_second b.fixed.numbers n) n))
  where
    by : (q : Bool) (n : ℕ) → IsPossible (if q then slot_at b.fixed.numbers t n else slot_at a.fixed.numbers s n) (if q then second n else first n)
    by true n = two n
    by false n = one n

pub first_ticks : (answer : DeviceTurn) (a : DeviceTold) (ca : Clock) (a_new : DeviceTold) (ca_new : Clock) (b : DeviceTold) (cb : Clock) → InOrder b cb
    → FirstTicks answer a ca a_new ca_new b cb
first_ticks answer a ca a_new ca_new b cb order course next last last_new pair is goes alone ticks =
    let of = is_second b.fixed.numbers in
    record {
      past = first_past of a ca a_new ca_new b cb course next is goes ticks.past;
      cut = λ k m le lt finds.
          let now = is_now of a ca a_new ca_new b cb course next is goes ticks.past k le lt in
          let found = first_cut of a ca a_new ca_new b cb course next is goes ticks.past k m le lt finds in
          possible_both a b last course a.slots b.slots found.first found.second m pair
          (ticks.cut a.ops found.first (omega arith) (let rose = now.rose in omega (arith, rose)) found.finds_first)
          (order.now found.second found.finds_second) found.map;
      off = first_off of a ca a_new ca_new b cb course next is goes ticks.past answer ticks.off;
      failed = λ k le lt out.
          let now = is_now of a ca a_new ca_new b cb course next is goes ticks.past k le lt in
          ticks.failed a.ops (omega arith) (let rose = now.rose in omega (arith, rose)) (first_failed of a ca a_new ca_new b cb course next is goes ticks.past k le lt out);
      part = first_part of a ca a_new ca_new b cb course next is goes ticks.past;
      kept = λ k le lt out.
          let now = is_now of a ca a_new ca_new b cb course next is goes ticks.past k le lt in
          let urgent = ticks.kept a.ops (omega arith) (let rose = now.rose in omega (arith, rose)) (first_was of a ca a_new ca_new b cb course next is goes ticks.past TakesKept k le lt out) in
          ap (λ (x : Bool). is_urgent (stand_both x a.stand b.stand)) (alone urgent) ∙ urgent;
    }

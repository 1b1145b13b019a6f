-- What is in order at any time.
use Rattle.std.specs.Prelude.{nat_le}
use Rattle.std.proofs.Common.{◌≡◌, ◌≤◌, ℕ, Bool, true, false, List, Option, Some, None, refl, sym, subst, arith}
use Rattle.memif.specs.Told.{DeviceTold, Held, Slot, Fixed, slot_at}
use Rattle.memif.specs.Marks.{IsPossible}
use Rattle.memif.specs.Calls.{InOrder}
use Rattle.memif.specs.Clock.{Clock, SameClock, FindsNow, After, ArePossible}
use Rattle.fls_model.specs.Told.{Told}
use Rattle.fee_course.specs.declared.course.Course.{Course}
use Rattle.fee_course.specs.declared.course.Course.TheVariants.{Erase, Copy, Head, Gate}
use Rattle.fee_switch_laws.specs.fee_log.declared.tail.Tail.{Tail}
use Rattle.fee_switch_laws.specs.fee_log.declared.tail.Tail.TheVariants.{Open, Writes, Owes, Closed}
use Rattle.fee_switch_laws.specs.fee_switch.Banks.{BanksState}
use Rattle.promise_device.specs.Making.{Making}
use Rattle.fee_told.specs.Device.{told_of, clock_of, flash_device}
use Rattle.fee_told.specs.Figures.{ready_of}
use Rattle.fee_laws.specs.Inside.{Parts, device_of}
use Rattle.fee_laws.specs.Work.{switch_turns, seal_turns, pages_free, turns_before}
use Rattle.fee_told.proofs.Clocks.{tells_first}
use Rattle.fee_told.specs.fls_told.Clock.{ToldAlike}

-- WITHOUT OPEN WORK
pub nothing_left : (reserve : ℕ) (banks : BanksState) (c : Option Course) → c ≡ None → switch_turns reserve banks None c ≡ 0
nothing_left reserve banks None closed = refl
nothing_left reserve banks (Some c) closed = cc

pub few_before : (tail : Tail) (c : Option Course) → turns_before tail (seal_turns c) ≤ 2
few_before tail (Some Head) = omega arith
few_before tail (Some (Gate failed)) = omega arith
few_before Open (Some (Erase done)) = omega arith
few_before (Writes head pages) (Some (Erase done)) = omega arith
few_before (Owes head next) (Some (Erase done)) = omega arith
few_before Closed (Some (Erase done)) = omega arith
few_before Open (Some (Copy work)) = omega arith
few_before (Writes head pages) (Some (Copy work)) = omega arith
few_before (Owes head next) (Some (Copy work)) = omega arith
few_before Closed (Some (Copy work)) = omega arith
few_before Open None = omega arith
few_before (Writes head done) None = omega arith
few_before (Owes head next) None = omega arith
few_before Closed None = omega arith

pub ready_kept : (reserve free : ℕ) (seals : Bool) → ready_of reserve seals free ≤ reserve
ready_kept reserve free true = omega arith
ready_kept reserve free false = omega arith

-- a device that rests is in order where what a start-up would find now is possible
pub at_rest : (m : Making) (entry : Told) (s : Parts) → s.banks.course ≡ None
    → ToldAlike (flash_device (device_of m entry (record s { job = None })))
    → FindsNow (told_of (device_of m entry (record s { job = None }))) (clock_of (device_of m entry (record s { job = None })))
    → InOrder (told_of (device_of m entry (record s { job = None }))) (clock_of (device_of m entry (record s { job = None })))
at_rest m entry s closed alike now =
    let none = nothing_left m.reserve s.banks s.banks.course closed in
    record {
      bounded = omega (arith, none);
      fits = omega (arith, none);
      ready = ready_kept m.reserve (pages_free s.banks None) (nat_le 1 (seal_turns s.banks.course));
      wait = λ first. (turns_before s.banks.log.tail (seal_turns s.banks.course), refl, few_before s.banks.log.tail s.banks.course);
      second = λ one. refl;
      now = now;
      told = tells_first (flash_device (device_of m entry (record s { job = None }))) alike;
    }

-- WHERE THE CLOCK STAYS
possible_as : (old new : DeviceTold) (o : Option (List Slot)) (m : ℕ → Held) → new.fixed ≡ old.fixed → ArePossible old o m → ArePossible new o m
possible_as old new None m same is = tt
possible_as old new (Some slots) m same is = λ n. subst (λ (f : Fixed). IsPossible (slot_at f.numbers slots n) (m n)) (sym same) (is n)

-- what would be found now is possible still, where the operations and what the numbers hold are the same
pub finds_on : (old new : DeviceTold) (clock now : Clock) → SameClock clock now → new.fixed ≡ old.fixed → new.slots ≡ old.slots → new.ops ≡ old.ops
    → FindsNow old clock → FindsNow new now
finds_on old new clock now same fixed slots ops is m finds =
    let found = is m ((same.may_find (After old.ops) m).0 (subst (λ (k : ℕ). now.may_find (After k) m) ops finds)) in
    subst (λ (o : Option (List Slot)). ArePossible new o m) (sym slots) (possible_as old new old.slots m fixed found)

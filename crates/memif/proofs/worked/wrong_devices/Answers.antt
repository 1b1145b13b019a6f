use Rattle.std.proofs.Common.{◌≡◌, inl, inr, ℕ, get_or, refl, ap, arith}
use Rattle.nv_base.specs.Count.{Rose}
use Rattle.nv_base.specs.declared.mark.Mark.{Mark}
use Rattle.nv_base.specs.declared.mark.Mark.TheVariants.{Content, Invalid, Erased}
use Rattle.memif.specs.Told.{DeviceTold, Held, Part, First, Second, part_at}
use Rattle.memif.specs.Calls.{Works}
use Rattle.memif.specs.Plain.{no_clock}
use Rattle.memif.specs.Worked.{old_content, new_content, doubtful, at_work, at_own_work, the_write, after_success}
use Rattle.memif.proofs.worked.wrong_devices.Goals as goal

abbrev byte_of : Mark → ℕ
byte_of (Content bytes) = get_or bytes 0 0
byte_of Invalid = 0
byte_of Erased = 0

other : old_content ≡ new_content → ⊥
other same = let one : 1 ≡ 3 = ap (λ (h : Held). byte_of h.mark) same in absurd (omega (arith, one))

pub returns-clause-leaves_a_failure_uncounted : goal.returns-clause-leaves_a_failure_uncounted
returns-clause-leaves_a_failure_uncounted c = λ turns. by turns.0.1.0 (turns.0.1.2.failed 0 (omega arith) (omega arith) refl)
  where
    by : (p : Part) → Rose (part_at p (at_work the_write doubtful)).faults (part_at p after_success).faults → ⊥
    by First (inl lt) = absurd (omega (arith, lt))
    by First (inr end) = absurd (omega (arith, end.0))
    by Second (inl lt) = absurd (omega (arith, lt))
    by Second (inr end) = absurd (omega (arith, end.0))

pub returns-clause-does_own_work_on_the_second_part : goal.returns-clause-does_own_work_on_the_second_part
returns-clause-does_own_work_on_the_second_part c = λ turns. by turns.0.1.0 turns.0.1.1
  where
    by : (p : Part) → Works p (at_own_work 0) (at_own_work 1) no_clock → ⊥
    by First works = let none : 1 ≡ 0 = ap (λ (d : DeviceTold). d.second.faults) works.only in absurd (omega (arith, none))
    by Second works = let wrong : Second ≡ First = works.of in cc

pub returns-clause-a_start_up_is_not_counted : goal.returns-clause-a_start_up_is_not_counted
returns-clause-a_start_up_is_not_counted c = λ up. let none : 0 ≡ 1 = ap (λ (d : DeviceTold). d.starts) up.only in absurd (omega (arith, none))

pub returns-clause-a_start_up_settles_another : goal.returns-clause-a_start_up_settles_another
returns-clause-a_start_up_settles_another c = λ up. elim (up.clock_stays.order.now (λ n. old_content) (λ n. refl) 128) [
  | inl same ↦ other same
  | inr has ↦ absurd (omega (arith, has.1))
]

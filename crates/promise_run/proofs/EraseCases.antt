-- How often the first sector of a bank is erased, and how often it isn't.
use Rattle.std.proofs.Common.{◌≤◌, ◌+◌, inl, inr, arith}
use Rattle.promise_run.specs.Cases.{ErasesSoOften}

pub twice : ErasesSoOften 2
twice = record { faults = 0; counted = inl (omega arith); few = omega arith }

pub not_thrice : ErasesSoOften 3 → ⊥
not_thrice erases = elim erases.counted [
  | inl none ↦ let few : 3 ≤ 0 + 1 + erases.faults + 1 = erases.few in omega (arith, none, few)
  | inr full ↦ omega (arith, full)
]

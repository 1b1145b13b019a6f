-- Runs over two flashes, turn by turn.
use Rattle.std.specs.Prelude.{replicate}
use Rattle.std.proofs.Common.{◌≡◌, ◌+◌, ◌∷◌, ℕ, true, false, Some, None, refl, subst, inl, inr, arith}
use Rattle.block_machine.specs.nv_base.Count.{Rose}
use Rattle.promise_run.specs.JobTurns.{write_pages}
use Rattle.promise_run.specs.Turns.{IsPostedSoon}
use Rattle.promise_run.specs.UrgentCases.{urgent, idle, picks, posted_with, writes}
use Rattle.promise_run.specs.KeptCases.{at_none}
use Rattle.promise_run.specs.BothCases.{CountedInAll, CountsFailedOfBoth, IsInTimeOfBoth, IsSealed, MayBeMadeOfBoth}
use Rattle.promise_run.proofs.OneByOne.{some_same}
use Rattle.promise_run.proofs.UrgentCases.{free, late, none, soon}

pub three_counted : CountedInAll 3
three_counted = (1, 2, omega arith, inl (omega arith), inl (omega arith))

none_rose : Rose 0 0 → ⊥
none_rose (inl rose) = omega (arith, rose)
none_rose (inr full) = let end = full.0 in omega (arith, end)

pub not_told_late : CountsFailedOfBoth true 0 1 → ⊥
not_told_late all = none_rose (all.1.0.own 0 (omega arith) (omega arith) (_, refl, refl))

pub not_by_none : MayBeMadeOfBoth false at_none → ⊥
not_by_none all = let (j, held, immediate) = all.0 0 (omega arith) (omega arith) (refl, (_, refl, refl)) in let never : None ≡ Some j = held in cc never

pub sealed : IsSealed false 0
sealed = record { last = 0; is_last = refl; later = omega arith; such = (refl, (_, refl, refl)) }

pub in_time : IsInTimeOfBoth false (posted_with 0 2)
in_time = (
  λ first id is may. subst (λ (n : ℕ). IsPostedSoon (λ one left. Unit {0}) true n (write_pages urgent at_none n + 4) 0 (picks ∷ idle 0 2 (writes 0))) (some_same 2 id is) (soon true),
  (λ first id is. absurd (none id is), (λ first id is. absurd (none id is), (λ first id is. absurd (none id is), (λ first id is. absurd (none id is), (λ first id is. absurd (none id is), (λ first id is. absurd (none id is), (λ first id is. absurd (none id is), (λ first id is. absurd (none id is), tt)))))))),
)

pub not_late : IsInTimeOfBoth false (posted_with 0 3) → ⊥
not_late all = late true 8 (omega arith) (omega arith) (all.0 (λ id is. refl) 2 refl (omega arith, inl (free (replicate 128 255) refl)))

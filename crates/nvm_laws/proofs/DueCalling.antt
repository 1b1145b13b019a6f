-- A run of calls posts what is due.
use Rattle.std.proofs.Common.{◌⊎◌, inl, inr, ℕ, ◌≤◌, [], ◌∷◌, arith}
use Rattle.nvm_laws.specs.Due.{StackNow, IsDue, IsNearer, PostsDue}
use Rattle.nvm_laws.specs.DueCalls.{Stays, Turns, ArePosting, CallsPostInTime}

-- what is due takes a turn at least
takes_one : (number turns : ℕ) (now : StackNow) → IsDue number turns now → 1 ≤ turns
takes_one number turns now (inl due) = omega (arith, due.within)
takes_one number turns now (inr due) = let (w, told, soon) = due.within in omega (arith, soon)

pub calls_post_in_time : CallsPostInTime
calls_post_in_time number turns now [] serving due few = let one = takes_one number turns now due in omega (arith, one, few)
calls_post_in_time number turns now (Stays new ∷ calls) serving due few = calls_post_in_time number turns new calls serving.1 (serving.0 number turns due) few
calls_post_in_time number turns now (Turns new ∷ calls) serving due few =
    by (serving.0 number turns serving.1 due) (λ nearer. calls_post_in_time number nearer.0 new calls serving.2 nearer.2 (omega (arith, nearer.1, few)))
  where
    by : PostsDue number now.desk new.desk ⊎ IsNearer number turns new → (IsNearer number turns new → ArePosting number new calls)
        → PostsDue number now.desk new.desk ⊎ ArePosting number new calls
    by (inl posts) behind = inl posts
    by (inr nearer) behind = inr (behind nearer)

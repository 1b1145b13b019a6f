-- What is posted soon is so over more moves, and where fewer pages are free.
use Rattle.std.proofs.Common.{◌≤◌, ◌+◌, ◌-◌, ℕ, Bool, true, false, if◌then◌else◌, List, [], ◌∷◌, ◌++◌, subst, inl, inr, arith}
use Rattle.block_machine.specs.Words.{Configuration}
use Rattle.block_machine.specs.State.{State}
use Rattle.block_machine.specs.Steps.{after_from}
use Rattle.promise_run.proofs.PlannedCuts.{from_more}
use Rattle.promise_run.specs.Turns.{Moment, Move, entry_list, entries_of, moment_behind, is_found, found_behind, EachMoveSince, CountFailed, IsPostedSoon, PostsUrgent}
use Rattle.promise_run.proofs.Counted.{behind_later}

-- OVER MORE MOVES
pub soon_more : (still other : Bool → ℕ → Type 0) (one : Bool) (id turns : ℕ) (before : Moment) (xs ys : List Move) → IsPostedSoon still one id turns before.faults xs
    → ((free : Bool) (left : ℕ) → still free left → IsPostedSoon other free id left (moment_behind before xs).faults ys) → IsPostedSoon other one id turns before.faults (xs ++ ys)
soon_more still other one id turns before [] ys soon later = later one turns soon
soon_more still other one id turns before (m ∷ ms) ys (inl found) later = inl found
soon_more still other one id turns before (m ∷ ms) ys (inr (inl (waits, rest))) later = inr (inl (waits, soon_more still other one id turns m.behind ms ys rest later))
soon_more still other one id turns before (m ∷ ms) ys (inr (inr (inl (free, rest)))) later = inr (inr (inl (free, soon_more still other false id turns m.behind ms ys rest later)))
soon_more still other one id turns before (m ∷ ms) ys (inr (inr (inr (inl rose)))) later = inr (inr (inr (inl rose)))
soon_more still other one id turns before (m ∷ ms) ys (inr (inr (inr (inr (inl off))))) later = inr (inr (inr (inr (inl off))))
soon_more still other one id turns before (m ∷ ms) ys (inr (inr (inr (inr (inr (inl posted)))))) later = inr (inr (inr (inr (inr (inl posted)))))
soon_more still other one id turns before (m ∷ ms) ys (inr (inr (inr (inr (inr (inr (some, rest))))))) later =
    inr (inr (inr (inr (inr (inr (some, soon_more still other one id (turns - 1) m.behind ms ys rest later))))))

-- with less behind them
pub soon_by : (still other : Bool → ℕ → Type 0) (one : Bool) (id turns faults : ℕ) (ms : List Move) → ((free : Bool) (left : ℕ) → still free left → other free left) → IsPostedSoon still one id turns faults ms
    → IsPostedSoon other one id turns faults ms
soon_by still other one id turns faults [] from soon = from one turns soon
soon_by still other one id turns faults (m ∷ ms) from (inl found) = inl found
soon_by still other one id turns faults (m ∷ ms) from (inr (inl (waits, rest))) = inr (inl (waits, soon_by still other one id turns m.behind.faults ms from rest))
soon_by still other one id turns faults (m ∷ ms) from (inr (inr (inl (free, rest)))) = inr (inr (inl (free, soon_by still other false id turns m.behind.faults ms from rest)))
soon_by still other one id turns faults (m ∷ ms) from (inr (inr (inr (inl rose)))) = inr (inr (inr (inl rose)))
soon_by still other one id turns faults (m ∷ ms) from (inr (inr (inr (inr (inl off))))) = inr (inr (inr (inr (inl off))))
soon_by still other one id turns faults (m ∷ ms) from (inr (inr (inr (inr (inr (inl posted)))))) = inr (inr (inr (inr (inr (inl posted)))))
soon_by still other one id turns faults (m ∷ ms) from (inr (inr (inr (inr (inr (inr (some, rest))))))) =
    inr (inr (inr (inr (inr (inr (some, soon_by still other one id (turns - 1) m.behind.faults ms from rest))))))

module _ (c : Configuration) (more : ℕ) (pages : State → ℕ → ℕ) where
  -- each urgent write among them
  pub urgent_more : (free : ℕ → ℕ → ℕ → Type 0) (still other : ℕ → Bool → ℕ → Type 0) (since : ℕ) (before : Moment) (s : State) (xs ys : List Move) → EachMoveSince c (PostsUrgent c more pages free still) since s xs
      → ((id : ℕ) (one : Bool) (left : ℕ) → still id one left → IsPostedSoon (other id) one id left (moment_behind before xs).faults ys)
      → EachMoveSince c (PostsUrgent c more pages free other) (found_behind since xs) (after_from c s (entries_of xs)) ys → EachMoveSince c (PostsUrgent c more pages free other) since s (xs ++ ys)
  urgent_more free still other since before s [] ys one later two = two
  urgent_more free still other since before s (m ∷ ms) ys one later two =
      let from = if is_found m.entry then m.behind.ops else since in (
        λ id is has. soon_more (still id) (other id) true id (pages s id + more) m.behind ms ys (one.0 id is has) (later id),
        urgent_more free still other from m.behind (after_from c s (entry_list m.entry)) ms ys one.1 later
            (subst (λ (t : State). EachMoveSince c (PostsUrgent c more pages free other) (found_behind from ms) t ys) (from_more c s (entry_list m.entry) (entries_of ms)) two),
      )

  -- where no more was free once any of their operations were made, and with less behind them
  pub urgent_by : (failed : ℕ → Type 0) (free fewer : ℕ → ℕ → ℕ → Type 0) (still other : ℕ → Bool → ℕ → Type 0) (n : ℕ) → ((since k wanted : ℕ) → k ≤ n → fewer since k wanted → free since k wanted)
      → ((id : ℕ) (one : Bool) (left : ℕ) → still id one left → other id one left) → (since : ℕ) (before : Moment) (s : State) (ms : List Move) → (moment_behind before ms).ops ≤ n → CountFailed failed before ms
      → EachMoveSince c (PostsUrgent c more pages free still) since s ms → EachMoveSince c (PostsUrgent c more pages fewer other) since s ms
  urgent_by failed free fewer still other n frees from since before s [] within counts all = tt
  urgent_by failed free fewer still other n frees from since before s (m ∷ ms) within counts all = (
    λ id is has. soon_by (still id) (other id) true id (pages s id + more) m.behind.faults ms (from id)
        (all.0 id is (frees since m.behind.ops (pages s id) (let later = behind_later failed m.behind ms counts.1 in omega (arith, later, within)) has)),
    urgent_by failed free fewer still other n frees from (if is_found m.entry then m.behind.ops else since) m.behind (after_from c s (entry_list m.entry)) ms within counts.1 all.1,
  )

-- Kept pages that are taken with an immediate job in hand are so over more moves, and where fewer were taken.
use Rattle.std.proofs.Common.{◌≡◌, ◌<◌, ◌≤◌, ℕ, if◌then◌else◌, List, [], ◌∷◌, ◌++◌, refl, subst, arith}
use Rattle.block_machine.specs.Words.{Configuration}
use Rattle.block_machine.specs.State.{State}
use Rattle.block_machine.specs.Steps.{after_from}
use Rattle.promise_run.specs.Turns.{Moment, Move, entry_list, entries_of, moment_behind, is_found, found_behind, CountFailed, TakeKept}
use Rattle.promise_run.proofs.Counted.{behind_later}
use Rattle.promise_run.proofs.PlannedCuts.{from_more}

-- where of their operations no others took any
pub taken_by : (c : Configuration) (failed kept fewer : ℕ → Type 0) (n : ℕ) → ((k : ℕ) → k < n → fewer k → kept k) → (before : Moment) (s : State) (ms : List Move) → (moment_behind before ms).ops ≤ n
    → CountFailed failed before ms → TakeKept c kept before s ms → TakeKept c fewer before s ms
taken_by c failed kept fewer n less before s [] within counts taken = tt
taken_by c failed kept fewer n less before s (m ∷ ms) within counts (one, rest) =
    let later = behind_later failed m.behind ms counts.1 in (
      λ k le lt is. one k le lt (less k (omega (arith, lt, later, within)) is),
      taken_by c failed kept fewer n less m.behind (after_from c s (entry_list m.entry)) ms within counts.1 rest,
    )

pub taken_more : (c : Configuration) (kept : ℕ → Type 0) (before : Moment) (s : State) (xs ys : List Move) → TakeKept c kept before s xs → TakeKept c kept (moment_behind before xs) (after_from c s (entries_of xs)) ys
    → TakeKept c kept before s (xs ++ ys)
taken_more c kept before s [] ys one two = two
taken_more c kept before s (m ∷ ms) ys (here, rest) two = (
  here,
  taken_more c kept m.behind (after_from c s (entry_list m.entry)) ms ys rest
      (subst (λ (t : State). TakeKept c kept (moment_behind m.behind ms) t ys) (from_more c s (entry_list m.entry) (entries_of ms)) two),
)

-- the operations before the last start-up of more moves
pub found_more : (since : ℕ) (xs ys : List Move) → found_behind since (xs ++ ys) ≡ found_behind (found_behind since xs) ys
found_more since [] ys = refl
found_more since (m ∷ ms) ys = found_more (if is_found m.entry then m.behind.ops else since) ms ys

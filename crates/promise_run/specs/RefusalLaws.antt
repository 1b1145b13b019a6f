-- What follows where copies are refused as `refuse` steps ask.
use Rattle.std.specs.Prelude.{◌≡◌, ◌≤◌, ◌==◌, ℕ, List, ◌∷◌, length, take, sum_by, if◌then◌else◌}
use Rattle.block_machine.specs.Words.{Entry, Configuration}
use Rattle.block_machine.specs.Prices.{prices_in_refusals}
use Rattle.block_machine.specs.Legal.{IsLegal}
use Rattle.script_walks.specs.Words.{Step, StepKind, Refuse}
use Rattle.script_walks.specs.Walk.{joined}
use Rattle.promise_run.specs.Run.{Played}
use Rattle.promise_run.specs.Refusals.{RefusesAsAsked}

-- the copies of a block that this step lets be refused
abbrev pub refusals_of : ℕ → StepKind → ℕ
refusals_of id (Refuse block count) = if block == id then count else 0
refusals_of id kind = 0

-- Up to each step, the Posts of a block tell of no more refused copies than its `refuse` steps asked for.
abbrev pub RefusalsArePaid : Type 0
RefusalsArePaid =
    (c : Configuration) (cap id : ℕ) (first : Entry) (made left : List Step) (pieces : List (List Entry)) → length pieces ≡ length made
    → IsLegal c cap (first ∷ joined pieces) → RefusesAsAsked c (Played made pieces left) (first ∷ joined pieces) id
    → (n : ℕ) → prices_in_refusals c id (first ∷ joined (take n pieces)) ≤ sum_by (λ x. refusals_of id x.kind) (take n made)

-- Operations of an urgent write, one by one.
use Rattle.std.specs.Prelude.{◌≡◌, ◌++◌, ℕ, true, List, [], ◌∷◌, Some, None}
use Rattle.block_machine.specs.Words.{Fine, Content, Wrote, Post, Found}
use Rattle.block_machine.specs.State.{State}
use Rattle.block_machine.specs.Steps.{after}
use Rattle.promise_device.specs.FlashRun.{FlashRun}
use Rattle.promise_run.specs.Promise.{making_of}
use Rattle.promise_blocks.specs.Payment.{Worn}
use Rattle.promise_blocks.specs.Moves.{Move}
use Rattle.promise_blocks.specs.Work.{Effort, AreWorked, tries_begun}
use Rattle.promise_run.specs.Operations.{HasWork, costs_of, has_free}
use Rattle.promise_run.specs.Cases.{one}
use Rattle.promise_run.specs.UrgentCases.{urgent, at, roomy, accepts, fault_at, picks}

-- the state behind the start-up before them, and a device that is never worn out
abbrev pub first_state : State
first_state = after urgent (Found [] 0 ∷ [])

abbrev pub never_worn : Worn
never_worn operations number urgent = ⊥

-- over this flash, and from so much that is left on
abbrev pub AreWorkedFrom : (left : ℕ) → FlashRun → List Move → List Effort → Type 0
AreWorkedFrom left f ms es =
    AreWorked (costs_of urgent) (λ k n. has_free (making_of urgent) f k n ≡ true) never_worn urgent (at 0 0) first_state (record { left = left; trying = None; tries = 0 }) ms es

-- behind a start-up that counted so many faults
abbrev pub HasWorkBehind : (faults : ℕ) → FlashRun → List Move → Type 0
HasWorkBehind faults f ms = HasWork (costs_of urgent) (λ k n. has_free (making_of urgent) f k n ≡ true) never_worn urgent (at faults 0) first_state ms

abbrev pub HasWorkOver : FlashRun → List Move → Type 0
HasWorkOver = HasWorkBehind 0

-- a turn makes an operation
abbrev pub operation : ℕ → Move
operation n = record { entry = None; behind = at 0 n }

-- it is accepted and picked; three operations, so many more, and a last one write its record of four pages
abbrev pub written_with : List Move → ℕ → List Move
written_with more n =
    accepts ∷ picks ∷ operation 1 ∷ operation 2 ∷ operation 3
    ∷ (more ++ record { entry = Some (Wrote (record { block = 2; index = 0 }) (Content one) n); behind = at 0 n }
    ∷ record { entry = Some (Post 2 Fine None 0 n); behind = at 0 n } ∷ [])

-- a further start-up alone, which tells so many operations, with so many behind it
abbrev pub starts_at : (told ops : ℕ) → List Move
starts_at told ops = record { entry = Some (Found [] told); behind = at 0 ops } ∷ []

-- a further start-up behind so many faults, and an operation
abbrev pub started_again : (faults : ℕ) → List Move
started_again faults = record { entry = Some (Found [] 0); behind = at faults 0 } ∷ record { entry = None; behind = at faults 1 } ∷ []

-- of the write so many tries begin, in two operations that fail
abbrev pub Tries : ℕ → Type 0
Tries n = (es : List Effort) × AreWorkedFrom 0 roomy (accepts ∷ picks ∷ fault_at 1 ∷ fault_at 2 ∷ []) es × (tries_begun es ≡ n)

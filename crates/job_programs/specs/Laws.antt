-- Job programs against the machine.
use Rattle.std.specs.Prelude.{◌≡◌, ℕ, ◌-◌, Bool, true, false, List, [], ◌∷◌, length, slice_get, is_some, Option, None, ◌⊎◌, if◌then◌else◌}
use Rattle.std.specs.Option.{option_and_then}
use Rattle.block_machine.specs.Words.{Mark, JobKind, RestoreJob, Outcome, FromDevice, BlockDesc, Configuration}
use Rattle.block_machine.specs.State.{State}
use Rattle.block_machine.specs.Blocks.{desc_of, block_at}
use Rattle.block_machine.specs.ResultTable.{table}
use Rattle.block_machine.specs.Results.{Own, own_of, own_indices, outcome_of, outcomes_of, content_of, device_content}
use Rattle.job_programs.specs.Program.{Program, works, program_of, outcomes_in, next_in, after, settles, is_failed}

-- the instances whose operation failed at every try
abbrev pub failed_of : List ℕ → List Outcome → List ℕ
failed_of (i ∷ is) (o ∷ os) = if is_failed o then i ∷ failed_of is os else failed_of is os
failed_of is os = []

-- What the device gives fits the settled marks: a read finds what is settled, or fails of a content; any other operation
-- writes its mark, or fails.
abbrev pub Fit : JobKind → List (ℕ × Mark) → List Outcome → Type 0
Fit kind marks [] = Unit {0}
Fit kind [] (o ∷ os) = ⊥
Fit kind (m ∷ marks) (o ∷ os) = (outcome_of kind m.1 (is_failed o) ≡ o) × Fit kind marks os

-- a job works on no instance, on one, or on both copies
abbrev pub Works : List ℕ → Type 0
Works indices = (indices ≡ []) ⊎ ((i : ℕ) × (indices ≡ i ∷ [])) ⊎ (indices ≡ 0 ∷ 1 ∷ [])

-- A program that is over has the machine's result and source, for what the block is and holds and for the operations
-- that failed at every try.
abbrev pub EndsByTheMachine : Type 0
EndsByTheMachine =
    (o : Own) (p : Program) → own_indices o ≡ p.indices → Works p.indices → is_some o.desc.defaults ≡ p.defaults → Fit p.kind o.marks p.done → next_in p ≡ None
    → table p.defaults p.kind (outcomes_in p) ≡ table (is_some o.desc.defaults) p.kind (outcomes_of p.kind o.marks (failed_of p.indices p.done))

-- WHAT IS GIVEN

-- the content of the instance whose operation was the last of so many
abbrev pub last_content : List (ℕ × Mark) → ℕ → Option (List ℕ)
last_content marks n = option_and_then (λ x. content_of x.1) (slice_get marks (n - 1))

-- a job went on to a further copy only where it needed that
abbrev pub GoesOnlyAsNeeded : JobKind → List Outcome → Type 0
GoesOnlyAsNeeded kind (o ∷ p ∷ os) = (settles kind o ≡ false) × GoesOnlyAsNeeded kind (p ∷ os)
GoesOnlyAsNeeded kind os = Unit {0}

-- which every program keeps to
abbrev pub ProgramsGoAsNeeded : Type 0
ProgramsGoAsNeeded = (p : Program) (outcome : Outcome) → GoesOnlyAsNeeded p.kind p.done → GoesOnlyAsNeeded p.kind (after p outcome).done

-- Where a program that is over gives what the device read, that is what its last operation read, and the machine's.
abbrev pub GivesTheLastRead : Type 0
GivesTheLastRead =
    (o : Own) (p : Program) → own_indices o ≡ p.indices → Works p.indices → Fit p.kind o.marks p.done → next_in p ≡ None → GoesOnlyAsNeeded p.kind p.done
    → (table p.defaults p.kind (outcomes_in p)).1 ≡ FromDevice → device_content o.marks (failed_of p.indices p.done) ≡ last_content o.marks (length p.done)

-- THE JOB

-- it works on no instance, on one, or on both copies
abbrev pub ProgramsWork : Type 0
ProgramsWork = (d : BlockDesc) (defaults : Bool) (block index : ℕ) (kind : JobKind) → Works (program_of d defaults block index kind).indices

-- which are those of its block in the machine's state, where it works on the device
abbrev pub ProgramsWorkOnTheirOwn : Type 0
ProgramsWorkOnTheirOwn =
    (c : Configuration) (s : State) (id block : ℕ) (defaults : Bool) (kind : JobKind) → works kind ≡ true
    → own_indices (own_of c s id) ≡ (program_of (desc_of c id) defaults block (block_at s id).index kind).indices

-- a restore ends by the machine whatever the device holds
abbrev pub RestoresEnd : Type 0
RestoresEnd =
    (p : Program) (defaults : Bool) (outcomes : List Outcome) → p.kind ≡ RestoreJob
    → table p.defaults p.kind (outcomes_in p) ≡ table defaults RestoreJob outcomes

-- The failures of a program, and what they mean for the price of its job's Post.
use Rattle.std.specs.Prelude.{◌≡◌, ◌≢◌, ◌≤◌, ℕ, ◌+◌, ◌*◌, true, false, List, [], ◌∷◌, length, Contains, if◌then◌else◌, None}
use Rattle.block_machine.specs.Words.{JobKind, ReadJob, Outcome, BlockDesc}
use Rattle.block_machine.specs.State.{Job}
use Rattle.block_machine.specs.Blocks.{kind_of}
use Rattle.block_machine.specs.Results.{Own, own_indices, took_none, open_sets}
use Rattle.block_machine.specs.Prices.{device_tries}
use Rattle.job_programs.specs.Program.{Program, works, retries_of, is_failed, next_in, after}
use Rattle.job_programs.specs.Laws.{failed_of, Fit, Works}

-- the instances whose operation didn't fail: those that were written, where the job writes
abbrev pub served_of : List ℕ → List Outcome → List ℕ
served_of (i ∷ is) (o ∷ os) = if is_failed o then served_of is os else i ∷ served_of is os
served_of is os = []

-- The instances whose operation failed at every try are one of the failed sets that the history leaves open, where the
-- entries tell what was written. So the least failed set has no more.
abbrev pub FailedAreOpen : Type 0
FailedAreOpen =
    (o : Own) (j : Job) (p : Program) → own_indices o ≡ p.indices → Works p.indices → kind_of j ≡ p.kind → works p.kind ≡ true
    → Fit p.kind o.marks p.done → next_in p ≡ None → took_none j.taken ≡ false → (p.kind ≢ ReadJob → j.written ≡ served_of p.indices p.done)
    → Contains (open_sets o j (kind_of j)) (failed_of p.indices p.done)

-- the failed tries that a program counts: each of an instance that failed at every try, and those of the one that it is at
abbrev pub failed_tries : Program → ℕ
failed_tries p = (p.retries + 1) * length (failed_of p.indices p.done) + p.failures

-- an outcome adds one at most, and none where it is no failure
abbrev pub TriesAreCounted : Type 0
TriesAreCounted =
    (p : Program) (outcome : Outcome) → p.failures ≤ p.retries
    → ((after p outcome).failures ≤ p.retries) × (failed_tries (after p outcome) ≤ failed_tries p + (if is_failed outcome then 1 else 0))

-- a failed instance had as many tries as its price counts
abbrev pub TriesArePriced : Type 0
TriesArePriced = (d : BlockDesc) (kind : JobKind) → device_tries d kind ≡ retries_of d kind + 1

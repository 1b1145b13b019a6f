-- Sweeps against the machine's.
use Rattle.std.specs.Prelude.{◌≡◌, ◌≤◌, ◌<◌, ℕ, Bool, true, false, List, ◌∷◌, drop, length, Option, Some, None}
use Rattle.block_machine.specs.Words.{ReqResult, JobKind, Configuration}
use Rattle.block_machine.specs.State.{State, Sweep}
use Rattle.block_machine.specs.Blocks.{desc_of, block_at, names_rom}
use Rattle.block_machine.specs.Sweeps.{members_of, sweep_result, is_done, after_member}
use Rattle.block_machine.specs.Next.{Next, PickMember, PostMember, EndSweep, next_in_sweep}
use Rattle.multi_jobs.specs.declared.sweep.MemberFacts.{MemberFacts}
use Rattle.multi_jobs.specs.declared.sweep.SweepStep.{SweepStep}
use Rattle.multi_jobs.specs.declared.sweep.SweepStep.TheVariants.{Member, Skip, Defaults, Ended}
use Rattle.multi_jobs.specs.Sweep.{SweepState, sweep_of, writes_all, left_of, next_member, noted, moved, step_of}

-- a sweep begins with all of the machine's members
abbrev pub BeginsWithAll : Type 0
BeginsWithAll = (c : Configuration) (job : JobKind) → left_of c (sweep_of job) ≡ members_of c (writes_all job)

-- each step takes the first of the members to come
abbrev pub TakesTheFirst : Type 0
TakesTheFirst = (c : Configuration) (s : SweepState) → s.canceled ≡ false → left_of c (moved c s) ≡ drop 1 (left_of c s)

-- a sweep is the machine's
pub record Agree (c : Configuration) (s : SweepState) (sw : Sweep) : Type 0 where
  pub under_way : sw.under_way ≡ true
  pub writes : s.writes ≡ sw.writes
  pub canceled : s.canceled ≡ sw.canceled
  pub same : s.writes ≡ false → s.same ≡ sw.same
  pub spoiled : s.spoiled ≡ sw.spoiled
  pub left : left_of c s ≡ sw.left

-- the facts of a block
abbrev pub facts_of : Configuration → State → ℕ → MemberFacts
facts_of c st id =
    let b = block_at st id in
    record { locked = b.locked; protected = b.protected; valid = b.valid; changed = b.changed; rom_index = names_rom (desc_of c id) b }

abbrev pub AreFacts : Configuration → State → Option ℕ → MemberFacts → Type 0
AreFacts c st None f = Unit {0}
AreFacts c st (Some id) f = f ≡ facts_of c st id

-- a step is what the machine turns to next
abbrev pub IsNext : SweepStep → Sweep → Next → Type 0
IsNext (Member id) sw next = next ≡ PickMember sw id
IsNext (Skip id) sw next = next ≡ PostMember sw id
IsNext (Defaults id) sw next = next ≡ PostMember sw id
IsNext (Ended r) sw next = (next ≡ EndSweep sw) × (r ≡ sweep_result sw)

-- The next step of the machine's sweep is the machine's, by the facts of the next member.
abbrev pub StepIsNext : Type 0
StepIsNext =
    (c : Configuration) (st : State) (s : SweepState) (sw : Sweep) (f : MemberFacts) → Agree c s sw → AreFacts c st (next_member c s) f
    → IsNext (step_of c s f) sw (next_in_sweep c st sw)

-- Behind a member the sweep is the machine's again, once its result is noted. Of block 1 that tells whether it gave the id.
abbrev pub MembersAreNoted : Type 0
MembersAreNoted =
    (c : Configuration) (s : SweepState) (sw : Sweep) (id : ℕ) (r : ReqResult) (same_id : Bool)
    → Agree c s sw → next_member c s ≡ Some id → (id ≡ 1 → same_id ≡ is_done r)
    → Agree c (noted (Some r) same_id (moved c s)) (after_member id r (record sw { left = drop 1 sw.left }))

-- The next member is a configured block.
abbrev pub MembersAreConfigured : Type 0
MembersAreConfigured = (c : Configuration) (s : SweepState) (id : ℕ) (rest : List ℕ) → 0 < length c.blocks → left_of c s ≡ id ∷ rest → id ≤ length c.blocks

-- What the state after a legal history keeps, beside what its fields say.
use Rattle.std.specs.Prelude.{◌≡◌, ◌≢◌, ℕ, ◌+◌, ◌≤◌, ◌<◌, true, IsTrue, IfSome, List, [], ◌∷◌, length, if◌then◌else◌}
use Rattle.block_machine.specs.Words.{Configuration}
use Rattle.block_machine.specs.State.{State, Job, Sweep}
use Rattle.block_machine.specs.Blocks.{status_of, is_pending, job_block, records_of, rank_of}

-- P holds of each of these
abbrev pub Each : {X : Type 0} → (X → Type 0) → List X → Type 0
Each P [] = Unit {0}
Each P (x ∷ xs) = P x × Each P xs

-- these jobs have other numbers than this one
abbrev pub HaveOthers : Job → List Job → Type 0
HaveOthers j jobs = Each (λ x. x.number ≢ j.number) jobs

-- no two have the same number
abbrev pub AreApart : List Job → Type 0
AreApart [] = Unit {0}
AreApart (j ∷ js) = HaveOthers j js × AreApart js

-- A job that waits was accepted by an earlier entry, and has the entries of its Pick, its records and its Post, and of an
-- immediate one those two that it may hand on.
pub record IsWaitingJob (c : Configuration) (count : ℕ) (j : Job) : Type 0 where
  pub number : j.number < count
  pub named : job_block j ≢ 0
  pub entries : 2 + records_of c j + (if (rank_of c j).immediate then 2 else 0) ≤ j.reserved

-- The job in hand has the entries of the records that it hasn't written yet, and of its Post.
pub record IsJobInHand (c : Configuration) (s : State) (j : Job) : Type 0 where
  pub number : j.number < s.count
  pub named : job_block j ≢ 0
  pub apart : HaveOthers j s.waiting
  pub written : length j.written ≤ records_of c j
  pub entries : 1 + records_of c j ≤ j.reserved + length j.written

-- A request on all blocks was accepted by an earlier entry, and its status is PENDING. Id 0 is no member.
pub record IsPendingSweep (s : State) (sw : Sweep) : Type 0 where
  pub number : sw.number < s.count
  pub pending : is_pending (status_of s 0) ≡ true
  pub named : Each (λ id. id ≢ 0) sw.left

pub record IsConsistent (c : Configuration) (s : State) : Type 0 where
  pub blocks : IsTrue s.started → 0 < length s.blocks
  pub waiting : Each (IsWaitingJob c s.count) s.waiting
  pub apart : AreApart s.waiting
  pub hand : IfSome s.hand (IsJobInHand c s)
  pub sweep : IfSome s.sweep (IsPendingSweep s)

-- each is below those that follow
abbrev pub Ascend : List ℕ → Type 0
Ascend [] = Unit {0}
Ascend (n ∷ ns) = Each (λ m. n < m) ns × Ascend ns

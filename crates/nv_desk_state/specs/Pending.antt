-- A request on all blocks that is kept, against the machine's.
use Rattle.std.specs.Prelude.{◌≡◌, ℕ, true, false, List, [], ◌∷◌, drop, Option, Some, None}
use Rattle.block_machine.specs.Words.{ReqResult, Configuration}
use Rattle.block_machine.specs.State.{State, Job, Sweep}
use Rattle.block_machine.specs.Blocks.{job_block}
use Rattle.block_machine.specs.Sweeps.{sweep_entries, after_member, is_done, member_job}
use Rattle.multi_jobs.specs.Sweep.{noted}
use Rattle.multi_jobs.specs.Laws.{Agree}
use Rattle.nv_desk_state.specs.declared.sweep.PendingSweep.{PendingSweep}

-- What is kept is this one of the machine.
pub record IsSweep (c : Configuration) (p : PendingSweep) (sw : Sweep) : Type 0 where
  pub number : p.number ≡ sw.number
  pub under_way : p.under_way ≡ sw.under_way
  pub entries : p.entries ≡ sweep_entries c sw
  pub members : Agree c p.members (record sw { under_way = true })

-- one is kept where the machine has one
abbrev pub AreSweeps : Configuration → Option PendingSweep → Option Sweep → Type 0
AreSweeps c None None = Unit {0}
AreSweeps c (Some p) (Some sw) = IsSweep c p sw
AreSweeps c p sw = ⊥

-- whatever a member ends with, it is the machine's once that was noted
abbrev pub IsNoted : Configuration → PendingSweep → Sweep → ℕ → Type 0
IsNoted c p sw id = (r : ReqResult) → Agree c (noted (Some r) (is_done r) p.members) (after_member id r (record sw { under_way = true }))

-- so it is of a member in hand
abbrev pub IsMember : Configuration → Option Job → Option PendingSweep → Option Sweep → Type 0
IsMember c None p sw = Unit {0}
IsMember c (Some j) None sw = Unit {0}
IsMember c (Some j) (Some p) None = Unit {0}
IsMember c (Some j) (Some p) (Some sw) = sw.under_way ≡ true → IsNoted c p sw (job_block j)

-- while it is under way no other job waits
abbrev pub IsAlone : List Job → Option Sweep → Type 0
IsAlone waiting None = Unit {0}
IsAlone waiting (Some sw) = sw.under_way ≡ true → waiting ≡ []

-- a sweep under way is at this member, and no job is pending
pub record IsAtMember (s : State) (sw : Sweep) (id : ℕ) : Type 0 where
  pub waiting : s.waiting ≡ []
  pub hand : s.hand ≡ None
  pub sweep : s.sweep ≡ Some sw
  pub under_way : sw.under_way ≡ true
  pub goes_on : sw.canceled ≡ false
  pub rest : List ℕ
  pub left : sw.left ≡ id ∷ rest

-- this member was taken, with its job
pub record IsTaken (c : Configuration) (p : Option PendingSweep) (sw : Sweep) (id : ℕ) (job : Option Job) : Type 0 where
  pub sweep : AreSweeps c p (Some (record sw { left = drop 1 sw.left }))
  pub noted : (j : Job) → job_block j ≡ id → IsMember c (Some j) p (Some (record sw { left = drop 1 sw.left }))
  pub is : job ≡ Some (member_job c sw id)

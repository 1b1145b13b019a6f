-- What was stored before, as the stack holds it.
use Rattle.std.specs.Prelude.{◌≡◌, ◌≤◌, ◌&&◌, ℕ, true, List, [], length, get_or, Option, Some, None}
use Rattle.block_machine.specs.Words.{Configuration, Taken, TookContent}
use Rattle.block_machine.specs.State.{State, Job, jobs_of}
use Rattle.block_machine.specs.Blocks.{desc_of, is_synchronized, names_ram, job_block, asked_store}
use Rattle.block_laws.specs.Consistent.{Each}
use Rattle.script_walks.specs.Words.{Step}
use Rattle.script_walks.specs.Walk.{stores_of, store_content}

-- the newest store of a block after these steps, with its number
pub record IsNewest (c : Configuration) (before : List Step) (id : ℕ) (x : ℕ × List ℕ) : Type 0 where
  pub number : x.0 ≡ length (stores_of id before)
  pub content : store_content c before id x.0 ≡ Some x.1

-- of each synchronized block
abbrev pub AreNewest : Configuration → List Step → List (ℕ × List ℕ) → Type 0
AreNewest c before stores = (id : ℕ) → is_synchronized (desc_of c id).ram ≡ true → IsNewest c before id (get_or stores id (0, []))

-- a job that names synchronized RAM
abbrev pub CopiesOf : Configuration → Job → Type 0
CopiesOf c j = (names_ram j.request && is_synchronized (desc_of c (job_block j)).ram) ≡ true

-- what it took is the store with its number
abbrev pub IsStored : Configuration → List Step → ℕ → Option (List ℕ × ℕ) → Type 0
IsStored c before id None = Unit {0}
IsStored c before id (Some x) = store_content c before id x.1 ≡ Some x.0

-- a content that is taken is
abbrev pub IsTakenStored : Configuration → List Step → ℕ → Taken → Type 0
IsTakenStored c before id (TookContent bytes number) = store_content c before id number ≡ Some bytes
IsTakenStored c before id t = Unit {0}

-- a job asks for no later store than was made, and took one that was
pub record TookStored (c : Configuration) (before : List Step) (j : Job) : Type 0 where
  pub asked : CopiesOf c j → asked_store j.request ≤ length (stores_of (job_block j) before)
  pub content : CopiesOf c j → IsStored c before (job_block j) j.content

-- each pending job
abbrev pub JobsTookStored : Configuration → List Step → State → Type 0
JobsTookStored c before s = Each (TookStored c before) (jobs_of s)

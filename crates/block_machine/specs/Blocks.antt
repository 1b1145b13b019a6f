-- What is asked about blocks, their instances and the jobs on them.
use Rattle.std.specs.Prelude.{ℕ, ◌==◌, ◌&&◌, ◌||◌, nat_le, if◌then◌else◌, Bool, true, false, List, [], ◌∷◌, find, get_or, unwrap_or, option_map, Option, Some, None}
use Rattle.std.specs.List.{list_any}
use Rattle.block_config.specs.Block.{plain_block, record_count}
use Rattle.block_config.specs.Config.{block_of}
use Rattle.block_machine.specs.Words.{ReqResult, Fine, Pending, Instance, Mark, Content, Invalid, Erased, Request, Read, Write, Restore, Erase, Invalidate, SetIndex, GetIndex, SetProtection, SetLock, SetRam, PutRam, Status, ReadAll, WriteAll, CancelWriteAll, JobKind, ReadJob, WriteJob, RestoreJob, EraseJob, InvalidateJob, BlockDesc, BlockKind, Native, Redundant, Dataset, RamKind, Permanent, Sync, Configuration}
use Rattle.block_machine.specs.State.{State, BlockState, InstanceState, Job}
use Rattle.block_machine.specs.Order.{Rank}

-- BLOCKS

-- the description of a block. An id that isn't configured counts as a block without bytes, of which nothing is claimed.
abbrev pub desc_of : Configuration → ℕ → BlockDesc
desc_of c id = unwrap_or (block_of c id) (plain_block 0)

abbrev pub is_dataset : BlockKind → Bool
is_dataset Dataset = true
is_dataset kind = false

abbrev pub is_permanent : RamKind → Bool
is_permanent Permanent = true
is_permanent ram = false

-- the RAM is the application's, and is reached by copies that may be refused
abbrev pub is_synchronized : RamKind → Bool
is_synchronized Sync = true
is_synchronized ram = false

-- the manager itself keeps the block's RAM: a permanent RAM block, or that of block 1, which is its own
abbrev pub keeps_ram : Configuration → ℕ → Bool
keeps_ram c id = (id == 1) || is_permanent (desc_of c id).ram

-- what stands for a block that isn't configured, and for id 0
abbrev pub no_block : BlockState
no_block = record { status = Fine; index = 0; locked = false; protected = false; ram = []; valid = false; changed = false }

abbrev pub block_at : State → ℕ → BlockState
block_at s id = get_or s.blocks id no_block

abbrev pub status_of : State → ℕ → ReqResult
status_of s id = (block_at s id).status

abbrev pub is_pending : ReqResult → Bool
is_pending Pending = true
is_pending r = false

-- the data index of a dataset names one of its ROM datasets, whose indices follow those of the stored ones
abbrev pub names_rom : BlockDesc → BlockState → Bool
names_rom d b = is_dataset d.kind && nat_le d.nv b.index

-- INSTANCES

abbrev pub is_in : List ℕ → ℕ → Bool
is_in xs n = list_any (λ x. x == n) xs

-- the stored instances that a job works on, by index: both copies of a redundant block, and of a dataset the one that
-- the data index names, or none where it names ROM
abbrev pub indices_by : BlockKind → ℕ → ℕ → List ℕ
indices_by Native nv index = 0 ∷ []
indices_by Redundant nv index = 0 ∷ 1 ∷ []
indices_by Dataset nv index = if nat_le nv index then [] else index ∷ []

abbrev pub indices_of : Configuration → State → ℕ → List ℕ
indices_of c s id = indices_by (desc_of c id).kind (desc_of c id).nv (block_at s id).index

abbrev pub same_instance : Instance → Instance → Bool
same_instance a b = (a.block == b.block) && (a.index == b.index)

-- an instance, if it is configured
abbrev pub instance_at : State → Instance → Option InstanceState
instance_at s i = find (λ x. same_instance i x.instance) s.instances

-- the mark that it holds for certain
abbrev pub settled_at : State → Instance → Mark
settled_at s i = unwrap_or (option_map (λ x. x.cell.settled) (instance_at s i)) Erased

-- JOBS

-- the block that a request names, or 0 where it names all
abbrev pub asked_block : Request → ℕ
asked_block (Read block ram) = block
asked_block (Write block content store) = block
asked_block (Restore block ram) = block
asked_block (Erase block) = block
asked_block (Invalidate block) = block
asked_block (SetIndex block index) = block
asked_block (GetIndex block) = block
asked_block (SetProtection block on) = block
asked_block (SetLock block on) = block
asked_block (SetRam block on) = block
asked_block (PutRam block content) = block
asked_block (Status block) = block
asked_block ReadAll = 0
asked_block WriteAll = 0
asked_block CancelWriteAll = 0

-- the kind of the job on one block that a request makes, if it makes one
abbrev pub job_kind : Request → Option JobKind
job_kind (Read block ram) = Some ReadJob
job_kind (Write block content store) = Some WriteJob
job_kind (Restore block ram) = Some RestoreJob
job_kind (Erase block) = Some EraseJob
job_kind (Invalidate block) = Some InvalidateJob
job_kind r = None

-- it names the block's RAM, and not a buffer of the caller
abbrev pub names_ram : Request → Bool
names_ram (Read block ram) = ram
names_ram (Write block None store) = true
names_ram (Restore block ram) = ram
names_ram r = false

-- the content that a write brings, which is of no store
abbrev pub asked_content : Request → Option (List ℕ × ℕ)
asked_content (Write block (Some content) store) = Some (content, 0)
asked_content r = None

-- of a write of RAM: the caller's last store, or 0
abbrev pub asked_store : Request → ℕ
asked_store (Write block None store) = store
asked_store r = 0

-- a write of a block of priority 0 is immediate, and every other request is standard
abbrev pub is_immediate : Configuration → Request → Bool
is_immediate c (Write block content store) = (desc_of c block).priority == 0
is_immediate c r = false

abbrev pub job_block : Job → ℕ
job_block j = asked_block j.request

abbrev pub kind_of : Job → JobKind
kind_of j = unwrap_or (job_kind j.request) ReadJob

-- the place of a job in the order; a member of a sweep is never immediate
abbrev pub rank_of : Configuration → Job → Rank
rank_of c j = record { immediate = if j.member then false else is_immediate c j.request; priority = (desc_of c (job_block j)).priority; number = j.number }

-- the records that a job of this kind writes: of a redundant block both copies
abbrev pub records_by : BlockKind → JobKind → ℕ
records_by block ReadJob = 0
records_by block RestoreJob = 0
records_by block kind = record_count block

abbrev pub records_of : Configuration → Job → ℕ
records_of c j = records_by (desc_of c (job_block j)).kind (kind_of j)

-- what a job of this kind, with this content, writes to its instances, if it has something to write
abbrev pub mark_by : JobKind → Option (List ℕ × ℕ) → Option Mark
mark_by WriteJob content = option_map (λ x. Content x.0) content
mark_by InvalidateJob content = Some Invalid
mark_by EraseJob content = Some Erased
mark_by kind content = None

abbrev pub mark_of : Job → Option Mark
mark_of j = mark_by (kind_of j) j.content

-- The reply to a request: the first refusal that holds, or else what it asks for.
use Rattle.std.specs.Prelude.{ℕ, ◌+◌, ◌==◌, ◌&&◌, ◌||◌, not, nat_lt, nat_le, Bool, true, false, List, [], ◌∷◌, length, count_by, sum_by, find, is_none, if◌then◌else◌, Some, None}
use Rattle.std.specs.Option.{option_map_or}
use Rattle.block_machine.specs.Words.{Request, Read, Write, Restore, Erase, Invalidate, SetIndex, GetIndex, SetProtection, SetLock, SetRam, PutRam, Status, ReadAll, WriteAll, CancelWriteAll, Reply, Accepted, Refused, StatusIs, IndexIs, Refusal, UnknownBlock, NotStarted, WrongType, BadIndex, BadLength, NoRam, NoDefaults, NotImmediate, WriteOnce, MultiPending, BlockPending, Locked, Protected, RomIndex, NothingToCancel, QueueFull, HistoryFull, BlockDesc, RamKind, NoRamBlock, Configuration}
use Rattle.block_machine.specs.State.{State, Job, Sweep, jobs_of}
use Rattle.block_machine.specs.Blocks.{desc_of, block_at, status_of, is_pending, is_dataset, is_permanent, names_rom, asked_block, job_kind, is_immediate, rank_of, records_by}
use Rattle.block_machine.specs.Sweeps.{sweep_entries, sweep_at}

-- RESERVED ENTRIES

abbrev pub asked_desc : Configuration → Request → BlockDesc
asked_desc c r = desc_of c (asked_block r)

-- The entries that a request reserves if it is accepted: for a job its Pick, a Wrote for each record and its Post, and for
-- an immediate write the second Pick and a repeated Wrote of the job that it may interrupt.
abbrev pub needed : Configuration → Request → ℕ
needed c ReadAll = sweep_entries c (sweep_at c 0 false)
needed c WriteAll = sweep_entries c (sweep_at c 0 true)
needed c r = option_map_or (λ kind. 2 + records_by (asked_desc c r).kind kind + (if is_immediate c r then 2 else 0)) (job_kind r) 0

-- all that are reserved: one for an Off while the power is on, those of the pending jobs, and those of the sweep
abbrev pub reserved_entries : Configuration → State → ℕ
reserved_entries c s = (if s.started && not s.off then 1 else 0) + sum_by (λ j. j.reserved) (jobs_of s) + option_map_or (sweep_entries c) s.sweep 0

-- so many more fit under the cap, beside the entries so far and the reserved ones
abbrev pub fits : Configuration → ℕ → State → ℕ → Bool
fits c cap s more = nat_le (s.count + reserved_entries c s + more) cap

-- THE REFUSALS

abbrev pub has_no_ram : RamKind → Bool
has_no_ram NoRamBlock = true
has_no_ram ram = false

-- as many jobs as this queue has room for were accepted and not yet picked
abbrev pub is_queue_full : Configuration → List Job → Bool → Bool
is_queue_full c jobs true = nat_le c.immediate (count_by (λ j. (rank_of c j).immediate && is_none j.taken) jobs)
is_queue_full c jobs false = nat_le c.standard (count_by (λ j. not (rank_of c j).immediate && is_none j.taken) jobs)

-- a WriteAll is pending that wasn't canceled
abbrev pub can_cancel : Sweep → Bool
can_cancel sw = sw.writes && not sw.canceled

-- When each refusal holds of a request, in the order of their numbers.
abbrev pub holds : Configuration → ℕ → State → Refusal → Request → Bool
-- 1: no block has this id. They count from 1, and Status alone takes 0 too.
holds c cap s UnknownBlock (Status block) = nat_lt (length c.blocks) block
holds c cap s UnknownBlock r = (asked_block r == 0) || nat_lt (length c.blocks) (asked_block r)
-- 2: the power went off since the last start-up.
holds c cap s NotStarted r = s.off
-- 3: a data index of a block that is no dataset, a restore of a dataset, any other of these requests on block 1.
holds c cap s WrongType (SetIndex block index) = not (is_dataset (desc_of c block).kind)
holds c cap s WrongType (GetIndex block) = not (is_dataset (desc_of c block).kind)
holds c cap s WrongType (Restore block ram) = is_dataset (desc_of c block).kind
holds c cap s WrongType r = asked_block r == 1
-- 4: the index is beyond the stored and the ROM datasets.
holds c cap s BadIndex (SetIndex block index) = nat_le ((desc_of c block).nv + length (desc_of c block).rom) index
holds c cap s BadIndex r = false
-- 5: the content hasn't the block's length.
holds c cap s BadLength (Write block (Some content) store) = not (length content == (desc_of c block).length)
holds c cap s BadLength (PutRam block content) = not (length content == (desc_of c block).length)
holds c cap s BadLength r = false
-- 6: the block has no RAM. Synchronized RAM is the application's own, and no request puts a content there.
holds c cap s NoRam (PutRam block content) = not (is_permanent (desc_of c block).ram)
holds c cap s NoRam r = has_no_ram (asked_desc c r).ram
-- 7: the block has no defaults.
holds c cap s NoDefaults r = is_none (asked_desc c r).defaults
-- 8: the block's priority isn't 0.
holds c cap s NotImmediate r = not ((asked_desc c r).priority == 0)
-- 9: the block is write-once.
holds c cap s WriteOnce r = (asked_desc c r).once
-- 10: a request on all blocks is pending.
holds c cap s MultiPending r = is_pending (status_of s 0)
-- 11: the block's own request is pending.
holds c cap s BlockPending r = is_pending (status_of s (asked_block r))
-- 12: the block is locked.
holds c cap s Locked r = (block_at s (asked_block r)).locked
-- 13: the block is protected.
holds c cap s Protected r = (block_at s (asked_block r)).protected
-- 14: the block is a dataset whose index names ROM.
holds c cap s RomIndex r = names_rom (asked_desc c r) (block_at s (asked_block r))
-- 15: no WriteAll is pending, or it was canceled already.
holds c cap s NothingToCancel r = not (option_map_or can_cancel s.sweep false)
-- 16: as many jobs as the queue has room for were accepted and not yet picked.
holds c cap s QueueFull r = is_queue_full c s.waiting (is_immediate c r)
-- 17: this entry and those that the job reserves don't fit.
holds c cap s HistoryFull r = not (fits c cap s (1 + needed c r))

-- The refusals that each request is tested for, ascending.
abbrev pub tested : Request → List Refusal
tested (Read block false) = UnknownBlock ∷ NotStarted ∷ MultiPending ∷ BlockPending ∷ QueueFull ∷ HistoryFull ∷ []
tested (Read block true) = UnknownBlock ∷ NotStarted ∷ NoRam ∷ MultiPending ∷ BlockPending ∷ QueueFull ∷ HistoryFull ∷ []
tested (Write block (Some content) store) = UnknownBlock ∷ NotStarted ∷ WrongType ∷ BadLength ∷ MultiPending ∷ BlockPending ∷ Locked ∷ Protected ∷ RomIndex ∷ QueueFull ∷ HistoryFull ∷ []
tested (Write block None store) = UnknownBlock ∷ NotStarted ∷ WrongType ∷ NoRam ∷ MultiPending ∷ BlockPending ∷ Locked ∷ Protected ∷ RomIndex ∷ QueueFull ∷ HistoryFull ∷ []
tested (Restore block false) = UnknownBlock ∷ NotStarted ∷ WrongType ∷ NoDefaults ∷ MultiPending ∷ BlockPending ∷ QueueFull ∷ HistoryFull ∷ []
tested (Restore block true) = UnknownBlock ∷ NotStarted ∷ WrongType ∷ NoRam ∷ NoDefaults ∷ MultiPending ∷ BlockPending ∷ QueueFull ∷ HistoryFull ∷ []
tested (Erase block) = UnknownBlock ∷ NotStarted ∷ WrongType ∷ NotImmediate ∷ MultiPending ∷ BlockPending ∷ Locked ∷ Protected ∷ RomIndex ∷ QueueFull ∷ HistoryFull ∷ []
tested (Invalidate block) = UnknownBlock ∷ NotStarted ∷ WrongType ∷ MultiPending ∷ BlockPending ∷ Locked ∷ Protected ∷ RomIndex ∷ QueueFull ∷ HistoryFull ∷ []
tested (SetIndex block index) = UnknownBlock ∷ NotStarted ∷ WrongType ∷ BadIndex ∷ MultiPending ∷ BlockPending ∷ []
tested (GetIndex block) = UnknownBlock ∷ NotStarted ∷ WrongType ∷ []
tested (SetProtection block on) = UnknownBlock ∷ NotStarted ∷ WrongType ∷ WriteOnce ∷ MultiPending ∷ BlockPending ∷ []
tested (SetLock block on) = UnknownBlock ∷ NotStarted ∷ WrongType ∷ MultiPending ∷ BlockPending ∷ []
tested (SetRam block on) = UnknownBlock ∷ NotStarted ∷ WrongType ∷ NoRam ∷ MultiPending ∷ BlockPending ∷ []
tested (PutRam block content) = UnknownBlock ∷ NotStarted ∷ WrongType ∷ BadLength ∷ NoRam ∷ MultiPending ∷ BlockPending ∷ []
tested (Status block) = UnknownBlock ∷ NotStarted ∷ []
tested ReadAll = NotStarted ∷ MultiPending ∷ HistoryFull ∷ []
tested WriteAll = NotStarted ∷ MultiPending ∷ HistoryFull ∷ []
tested CancelWriteAll = NotStarted ∷ NothingToCancel ∷ []

-- THE REPLY

-- where nothing refuses the request
abbrev pub answer_to : State → Request → Reply
answer_to s (Status block) = StatusIs (status_of s block)
answer_to s (GetIndex block) = IndexIs (block_at s block).index
answer_to s r = Accepted

abbrev pub reply_of : Configuration → ℕ → State → Request → Reply
reply_of c cap s r = option_map_or Refused (find (λ x. holds c cap s x r) (tested r)) (answer_to s r)

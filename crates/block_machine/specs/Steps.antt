-- The state after an entry.
use Rattle.std.specs.Prelude.{ℕ, ◌+◌, ◌-◌, ◌==◌, ◌&&◌, ◌||◌, not, Bool, true, false, List, [], ◌∷◌, ◌++◌, drop, map, filter, is_some, slice_set, unwrap_or, option_map, if◌then◌else◌, Option, Some, None}
use Rattle.nv_base.specs.Cell.{settled_as, doubted}
use Rattle.nv_base.specs.Entry.{ops_of}
use Rattle.block_machine.specs.Words.{ReqResult, Fine, Pending, Restored, Instance, Mark, Request, SetIndex, SetProtection, SetLock, SetRam, PutRam, ReadAll, WriteAll, CancelWriteAll, Reply, Accepted, JobKind, ReadJob, WriteJob, RestoreJob, Taken, TookContent, Entry, Ask, Pick, Wrote, Post, Off, Found, BlockDesc, Configuration}
use Rattle.block_machine.specs.State.{State, BlockState, InstanceState, Job, Sweep}
use Rattle.block_machine.specs.Blocks.{desc_of, block_at, keeps_ram, is_in, same_instance, indices_of, asked_block, job_kind, names_ram, asked_content, job_block, kind_of, mark_of}
use Rattle.block_machine.specs.Sweeps.{sweep_at, member_kind, member_job, after_member, is_done}
use Rattle.block_machine.specs.Reply.{needed}
use Rattle.block_machine.specs.Next.{Next, PickJob, BeginSweep, PickMember, PostMember, EndSweep, next_of}
use Rattle.block_machine.specs.StartUp.{at_first, started_with}

-- CHANGES OF A PART

abbrev pub with_block : ℕ → (BlockState → BlockState) → State → State
with_block id change s = record s { blocks = slice_set s.blocks id (change (block_at s id)) }

abbrev pub with_status : ℕ → ReqResult → State → State
with_status id r s = with_block id (λ b. record b { status = r }) s

-- all jobs but the one with this number
abbrev pub without_job : ℕ → List Job → List Job
without_job number jobs = filter (λ j. not (j.number == number)) jobs

-- ASK

-- the job of a request that is accepted as entry n
abbrev pub job_at : Configuration → ℕ → Request → Job
job_at c n r = record { number = n; request = r; member = false; content = asked_content r; reserved = needed c r; taken = None; written = [] }

-- a request on all blocks begins to be pending, and so does the status of id 0
abbrev pub with_sweep : Configuration → State → Bool → State
with_sweep c s writes = record (with_status 0 Pending s) { sweep = Some (sweep_at c s.count writes) }

-- what a request changes that makes no job on one block
abbrev pub changed : Configuration → State → Request → State
changed c s (SetIndex block index) = with_block block (λ b. record b { index = index }) s
changed c s (SetProtection block on) = with_block block (λ b. record b { protected = on }) s
changed c s (SetLock block on) = with_block block (λ b. record b { locked = on }) s
changed c s (SetRam block on) = with_block block (λ b. record b { valid = on; changed = on }) s
changed c s (PutRam block content) = with_block block (λ b. record b { ram = content }) s
changed c s ReadAll = with_sweep c s false
changed c s WriteAll = with_sweep c s true
changed c s CancelWriteAll = record s { sweep = option_map {T = Sweep} (λ sw. record sw { canceled = true }) s.sweep }
changed c s r = s

abbrev pub accepted_by : Configuration → State → Request → Option JobKind → State
accepted_by c s r (Some kind) = record (with_status (asked_block r) Pending s) { waiting = s.waiting ++ job_at c s.count r ∷ [] }
accepted_by c s r None = changed c s r

-- what an accepted request does: it makes a job, and the block's status is PENDING, or it changes its block at once
abbrev pub accepted : Configuration → State → Request → State
accepted c s r = accepted_by c s r (job_kind r)

-- a request that is refused or answered at once changes nothing
abbrev pub asked : Configuration → State → Request → Reply → State
asked c s r Accepted = accepted c s r
asked c s r reply = s

-- PICK

-- what a job writes once it took this
abbrev pub content_after : Option (List ℕ × ℕ) → Taken → Option (List ℕ × ℕ)
content_after content (TookContent bytes store) = Some (bytes, store)
content_after content t = content

-- a job that is picked uses one of its entries, and hands on so many more
abbrev pub picked_job : Taken → ℕ → Job → Job
picked_job t handed_on j = record j { content = content_after j.content t; reserved = j.reserved - 1 - handed_on; taken = Some t; written = [] }

-- the instances that a job writes to may hold its mark from now on
abbrev pub with_doubt : ℕ → List ℕ → Option Mark → List InstanceState → List InstanceState
with_doubt id indices None instances = instances
with_doubt id indices (Some mark) instances =
    map {A = InstanceState} (λ x. if (x.instance.block == id) && is_in indices x.instance.index then record x { cell = doubted mark x.cell } else x) instances

-- a job that is interrupted waits again, with its number and its content, and gets the two entries that are handed on
abbrev pub interrupted : Option Job → List Job → List Job
interrupted None jobs = jobs
interrupted (Some h) jobs = record h { reserved = h.reserved + 2 } ∷ jobs

-- a job that waited, or a member of the sweep, comes in hand
abbrev pub in_hand : Configuration → State → Job → Taken → State
in_hand c s j t =
    let after = picked_job t (if is_some s.hand then 2 else 0) j in
    record s {
      waiting = interrupted s.hand (without_job j.number s.waiting);
      hand = Some after;
      instances = with_doubt (job_block j) (indices_of c s (job_block j)) (mark_of after) s.instances;
    }

-- the status of the next member becomes PENDING
abbrev pub with_member : State → Sweep → ℕ → State
with_member s sw id = record (with_status id Pending s) { sweep = Some (record sw { left = drop 1 sw.left }) }

abbrev pub picked : Configuration → State → Taken → Next → State
picked c s t (PickJob j) = in_hand c s j t
picked c s t (BeginSweep sw) = record s { sweep = Some (record sw { under_way = true }) }
picked c s t (PickMember sw id) = in_hand c (with_member s sw id) (member_job c sw id) t
picked c s t next = s

-- WROTE

abbrev pub settled_in : Instance → Mark → List InstanceState → List InstanceState
settled_in i mark instances = map {A = InstanceState} (λ x. if same_instance i x.instance then record x { cell = settled_as mark } else x) instances

-- the instance holds the mark for certain
abbrev pub wrote : State → Instance → Mark → Option Job → State
wrote s i mark None = s
wrote s i mark (Some j) = record s {
  hand = Some (record j { reserved = j.reserved - 1; written = j.written ++ i.index ∷ [] });
  instances = settled_in i mark s.instances;
}

-- POST

-- RAM that a job named: whether it is valid and changed, by the job and its result
abbrev pub flagged : JobKind → ReqResult → BlockState → BlockState
flagged ReadJob Restored b = record b { valid = true; changed = true }
flagged ReadJob r b = record b { valid = is_done r; changed = false }
flagged RestoreJob Fine b = record b { valid = true; changed = true }
flagged WriteJob r b = if is_done r then record b { valid = true; changed = false } else b
flagged kind r b = b

-- a write-once block is protected by its first write
abbrev pub protects : BlockDesc → JobKind → ReqResult → Bool
protects d WriteJob r = d.once && is_done r
protects d kind r = false

-- a block after a job of this kind, which named its RAM or didn't; RAM that the manager keeps holds what was given
abbrev pub ended : BlockDesc → (keeps : Bool) → JobKind → (ram : Bool) → ReqResult → Option (List ℕ) → BlockState → BlockState
ended d keeps kind ram r given b = record (if ram then flagged kind r b else b) {
  status = r;
  protected = b.protected || protects d kind r;
  ram = if ram && keeps then unwrap_or given b.ram else b.ram;
}

abbrev pub with_ended : Configuration → ℕ → JobKind → Bool → ReqResult → Option (List ℕ) → State → State
with_ended c id kind ram r given s = with_block id (ended (desc_of c id) (keeps_ram c id) kind ram r given) s

-- a member was posted without a Pick, or id 0, and the sweep with it
abbrev pub posted_next : Configuration → State → ReqResult → Option (List ℕ) → Next → State
posted_next c s r given (PostMember sw id) =
    record (with_ended c id (member_kind sw.writes) true r given s) { sweep = Some (after_member id r (record sw { left = drop 1 sw.left })) }
posted_next c s r given (EndSweep sw) = record (with_status 0 r s) { sweep = None }
posted_next c s r given next = s

-- a job in hand isn't pending any more
abbrev pub posted : Configuration → State → ReqResult → Option (List ℕ) → Option Job → State
posted c s r given (Some j) = record (with_ended c (job_block j) (kind_of j) (names_ram j.request) r given s) {
  hand = None;
  sweep = option_map (after_member (job_block j) r) s.sweep;
}
posted c s r given None = posted_next c s r given (next_of c s)

-- THE STEP

-- what an entry changes, beside the counts
abbrev pub changed_by : Configuration → State → Entry → State
changed_by c s (Ask caller r reply) = asked c s r reply
changed_by c s (Pick block kind t ops) = picked c s t (next_of c s)
changed_by c s (Wrote i mark ops) = wrote s i mark s.hand
changed_by c s (Post block r given refused ops) = posted c s r given s.hand
changed_by c s (Off ops) = record s { off = true }
changed_by c s (Found marks ops) = started_with c s marks

abbrev pub step : Configuration → State → Entry → State
step c s e = record (changed_by c s e) { count = s.count + 1; ops = unwrap_or (ops_of e) s.ops }

-- the state after these entries more
abbrev pub after_from : Configuration → State → List Entry → State
after_from c s [] = s
after_from c s (e ∷ es) = after_from c (step c s e) es

-- the state after a history
abbrev pub after : Configuration → List Entry → State
after c h = after_from c at_first h

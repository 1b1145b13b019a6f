-- Requests on all blocks: their members, in order, and which member is picked.
use Rattle.std.specs.Prelude.{ℕ, ◌+◌, ◌==◌, ◌&&◌, ◌||◌, not, Bool, true, false, List, [], ◌∷◌, ◌++◌, drop, filter, map, sum_by, if◌then◌else◌, None}
use Rattle.std.specs.List.{enumerate_from}
use Rattle.block_machine.specs.Words.{ReqResult, Fine, NotOk, IntegrityFailed, Invalidated, Canceled, RedundancyFailed, Request, Read, Write, JobKind, ReadJob, WriteJob, BlockDesc, Configuration}
use Rattle.block_machine.specs.State.{BlockState, Job, Sweep}
use Rattle.block_machine.specs.Blocks.{desc_of, names_rom, records_by}

-- the ids of the blocks behind block 1 that pass a test, ascending
abbrev pub ids_where : (BlockDesc → Bool) → Configuration → List ℕ
ids_where test c = map (λ x. x.0) (filter (λ x. test x.1) (enumerate_from 2 (drop 1 c.blocks)))

-- the members in order: a ReadAll begins with block 1, a WriteAll ends with it, and the others ascend
abbrev pub members_of : Configuration → Bool → List ℕ
members_of c true = ids_where (λ d. d.writeall) c ++ 1 ∷ []
members_of c false = 1 ∷ ids_where (λ d. d.readall) c

-- a member is written from RAM, or read to RAM
abbrev pub member_kind : Bool → JobKind
member_kind writes = if writes then WriteJob else ReadJob

abbrev pub member_request : Bool → ℕ → Request
member_request true id = Write id None 0
member_request false id = Read id true

-- RESERVED ENTRIES

-- those of a member: its Pick, a Wrote for each record of a write, its Post
abbrev pub member_entries : Configuration → Bool → ℕ → ℕ
member_entries c writes id = 2 + records_by (desc_of c id).kind (member_kind writes)

-- those of a sweep: of its members to come, its Pick, and the Post of id 0
abbrev pub sweep_entries : Configuration → Sweep → ℕ
sweep_entries c sw = sum_by (member_entries c sw.writes) sw.left + (if sw.under_way then 1 else 2)

-- the request on all blocks that was accepted as entry n
abbrev pub sweep_at : Configuration → ℕ → Bool → Sweep
sweep_at c n writes = record { number = n; writes = writes; under_way = false; canceled = false; left = members_of c writes; same = false; spoiled = false }

-- THE MEMBERS

-- a member is written where its RAM is valid and changed and nothing forbids it
abbrev pub may_be_written : (valid changed locked protected at_rom : Bool) → Bool
may_be_written valid changed locked protected at_rom = valid && changed && not locked && not protected && not at_rom

-- a member is read where block 1 gave the configuration id, or the block resists a change of it
abbrev pub may_be_read : (id : ℕ) → (same resistant : Bool) → Bool
may_be_read id same resistant = (id == 1) || same || resistant

-- whether a member is picked; any other is posted without a Pick
abbrev pub is_picked : BlockDesc → BlockState → Sweep → ℕ → Bool
is_picked d b sw id = if sw.writes then may_be_written b.valid b.changed b.locked b.protected (names_rom d b) else may_be_read id sw.same d.resistant

-- the job of a member that is picked
abbrev pub member_job : Configuration → Sweep → ℕ → Job
member_job c sw id = record {
  number = sw.number;
  request = member_request sw.writes id;
  member = true;
  content = None;
  reserved = member_entries c sw.writes id;
  taken = None;
  written = [];
}

-- the results of a member that spoil its sweep: 1, 3, 5 and 7
abbrev pub spoils : ReqResult → Bool
spoils NotOk = true
spoils IntegrityFailed = true
spoils Invalidated = true
spoils RedundancyFailed = true
spoils r = false

-- 0 and 7: the block was read or written
abbrev pub is_done : ReqResult → Bool
is_done Fine = true
is_done RedundancyFailed = true
is_done r = false

-- A sweep under way after the Post of a member. A ReadAll posts block 1 with 0 or 7 exactly where it gave the configuration id.
abbrev pub after_member : ℕ → ReqResult → Sweep → Sweep
after_member id r sw = if sw.under_way then record sw { same = if id == 1 then is_done r else sw.same; spoiled = sw.spoiled || spoils r } else sw

-- the result of id 0
abbrev pub sweep_result : Sweep → ReqResult
sweep_result sw = if sw.canceled then Canceled else (if sw.spoiled then NotOk else Fine)

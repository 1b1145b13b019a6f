-- Worked cases: configurations, and histories that are legal.
use Rattle.std.specs.Prelude.{ℕ, ◌≡◌, Bool, ◌-◌, List, [], ◌∷◌, ◌++◌, length, take, Some, None, true, false, flat_map, map, replicate}
use Rattle.block_config.specs.Block.{plain_block, manager_block}
use Rattle.block_config.specs.DemoConfig.{demo_config}
use Rattle.block_machine.specs.Words.{ReqResult, Fine, NotOk, IntegrityFailed, BlockSkipped, RedundancyFailed, Restored, Content, Request, Read, Write, Restore, SetIndex, SetRam, PutRam, ReadAll, WriteAll, Reply, Accepted, Refused, Refusal, BadIndex, RomIndex, JobKind, ReadJob, WriteJob, RestoreJob, ReadAllJob, WriteAllJob, TookNothing, TookContent, TookRefused, TookStale, Instance, Entry, Ask, Pick, Wrote, Post, Off, Found, BlockDesc, Redundant, Dataset, Permanent, Sync, Configuration, CancelWriteAll, Erase, GetIndex, Invalidate, SetLock, SetProtection, Status}
use Rattle.block_machine.specs.Blocks.{no_block}
use Rattle.block_machine.specs.Order.{Rank}
use Rattle.block_machine.specs.Reply.{reply_of}
use Rattle.block_machine.specs.Steps.{after, flagged}
use Rattle.block_machine.specs.Legal.{IsLegal}

-- SHORT FORMS

abbrev pub cap : ℕ
cap = 100000

-- a history is legal without its last entry, and not with it
abbrev pub FailsAtLast : Configuration → ℕ → List Entry → Type 0
FailsAtLast c cap h = IsLegal c cap (take (length h - 1) h) × ¬ IsLegal c cap h

-- the demo's shape with these blocks behind block 1
abbrev pub config_of : List BlockDesc → Configuration
config_of blocks = record demo_config { blocks = manager_block 1 ∷ blocks }

-- caller 0's request, accepted or refused
abbrev pub ok : Request → Entry
ok r = Ask 0 r Accepted

abbrev pub refused : Request → Refusal → Entry
refused r refusal = Ask 0 r (Refused refusal)

abbrev pub write : ℕ → List ℕ → Request
write block bytes = Write block (Some bytes) 0

abbrev pub read : ℕ → Request
read block = Read block false

abbrev pub pick : ℕ → JobKind → ℕ → Entry
pick block kind ops = Pick block kind TookNothing ops

abbrev pub pick_write : ℕ → List ℕ → ℕ → Entry
pick_write block bytes ops = Pick block WriteJob (TookContent bytes 0) ops

abbrev pub at : ℕ → ℕ → Instance
at block index = record { block = block; index = index }

abbrev pub wrote : ℕ → ℕ → List ℕ → ℕ → Entry
wrote block index bytes ops = Wrote (at block index) (Content bytes) ops

abbrev pub post : ℕ → ReqResult → ℕ → Entry
post block r ops = Post block r None 0 ops

abbrev pub give : ℕ → ReqResult → List ℕ → ℕ → Entry
give block r bytes ops = Post block r (Some bytes) 0 ops

abbrev pub bytes_1 : List ℕ
bytes_1 = 0x11 ∷ 0x22 ∷ 0x33 ∷ 0x44 ∷ []

abbrev pub bytes_2 : List ℕ
bytes_2 = 0x55 ∷ 0x66 ∷ 0x77 ∷ 0x88 ∷ []

abbrev pub four : ℕ → List ℕ
four x = x ∷ x ∷ x ∷ x ∷ []

-- 0000000n
abbrev pub small : ℕ → List ℕ
small n = 0 ∷ 0 ∷ 0 ∷ n ∷ []

-- HISTORIES

abbrev pub open_write : List Entry
open_write = Found [] 0 ∷ ok (write 2 bytes_1) ∷ pick_write 2 bytes_1 0 ∷ wrote 2 0 bytes_1 10 ∷ []

abbrev pub one_write : List Entry
one_write = open_write ++ post 2 Fine 10 ∷ []

abbrev pub write_then_read : List Entry
write_then_read = one_write ++ ok (read 2) ∷ pick 2 ReadJob 10 ∷ give 2 Fine bytes_1 10 ∷ []

-- the cut of a second write, after which this content is found
abbrev pub cut_and_found : List ℕ → List Entry
cut_and_found bytes =
    one_write ++ ok (write 2 bytes_2) ∷ pick_write 2 bytes_2 10 ∷ Off 14
    ∷ Found ((at 2 0, Content bytes) ∷ []) 14 ∷ ok (read 2) ∷ pick 2 ReadJob 14 ∷ give 2 Fine bytes 14 ∷ []

abbrev pub queue_config : Configuration
queue_config = record (config_of (plain_block 4 ∷ plain_block 4 ∷ plain_block 4 ∷ [])) { standard = 2 }

abbrev pub faults_use_up_the_tries : List Entry
faults_use_up_the_tries =
    one_write ++ ok (write 2 bytes_2) ∷ pick_write 2 bytes_2 10 ∷ post 2 NotOk 18
    ∷ ok (read 2) ∷ pick 2 ReadJob 18 ∷ give 2 Fine bytes_1 18 ∷ Found ((at 2 0, Content bytes_2) ∷ []) 18 ∷ []

abbrev pub redundant_config : Configuration
redundant_config = config_of (record (plain_block 4) { kind = Redundant } ∷ [])

abbrev pub redundant_read_from_copy_1 : List Entry
redundant_read_from_copy_1 =
    Found [] 0 ∷ ok (write 2 (four 10)) ∷ pick_write 2 (four 10) 0 ∷ wrote 2 0 (four 10) 10 ∷ wrote 2 1 (four 10) 14 ∷ post 2 Fine 14
    ∷ ok (write 2 (four 11)) ∷ pick_write 2 (four 11) 14 ∷ wrote 2 0 (four 11) 18 ∷ Off 19
    ∷ Found ((at 2 0, Content (four 11)) ∷ (at 2 1, Content (four 10)) ∷ []) 19
    ∷ ok (read 2) ∷ pick 2 ReadJob 19 ∷ give 2 RedundancyFailed (four 10) 19 ∷ []

abbrev pub dataset_config : Configuration
dataset_config = config_of (record (plain_block 2) { kind = Dataset; nv = 3; rom = (0xaa ∷ 0xbb ∷ []) ∷ (0xcc ∷ 0xdd ∷ []) ∷ [] } ∷ [])

abbrev pub dataset_and_rom : List Entry
dataset_and_rom =
    Found [] 0 ∷ ok (SetIndex 2 2) ∷ ok (write 2 (1 ∷ 2 ∷ [])) ∷ pick_write 2 (1 ∷ 2 ∷ []) 0 ∷ wrote 2 2 (1 ∷ 2 ∷ []) 10 ∷ post 2 Fine 10
    ∷ ok (SetIndex 2 3) ∷ refused (write 2 (3 ∷ 4 ∷ [])) RomIndex ∷ ok (read 2) ∷ pick 2 ReadJob 10 ∷ give 2 Fine (0xaa ∷ 0xbb ∷ []) 10
    ∷ refused (SetIndex 2 5) BadIndex ∷ []

abbrev pub cancel_config : Configuration
cancel_config = config_of (replicate 5 (record (plain_block 4) { ram = Permanent; writeall = true }))

-- the RAM of all five is put and set
abbrev pub put_all : List Entry
put_all = Found [] 0 ∷ flat_map (λ n. ok (PutRam n (small n)) ∷ ok (SetRam n true) ∷ []) (2 ∷ 3 ∷ 4 ∷ 5 ∷ 6 ∷ [])

abbrev pub sync_config : Configuration
sync_config = config_of (record (plain_block 4) { ram = Sync; repeats = 1 } ∷ [])

abbrev pub all_copies_refused : List Entry
all_copies_refused = Found [] 0 ∷ ok (Write 2 None 1) ∷ Pick 2 WriteJob (TookRefused 2) 0 ∷ post 2 NotOk 0 ∷ []

abbrev pub readall_writeall : List Entry
readall_writeall =
    Found [] 0 ∷ ok ReadAll ∷ pick 0 ReadAllJob 0 ∷ pick 1 ReadJob 0 ∷ give 1 Restored (0 ∷ 1 ∷ []) 0 ∷ post 2 IntegrityFailed 0 ∷ post 0 NotOk 0
    ∷ ok WriteAll ∷ pick 0 WriteAllJob 0 ∷ post 2 BlockSkipped 0 ∷ pick_write 1 (0 ∷ 1 ∷ []) 0
    ∷ wrote 1 0 (0 ∷ 1 ∷ []) 10 ∷ wrote 1 1 (0 ∷ 1 ∷ []) 14 ∷ post 1 Fine 14 ∷ post 0 Fine 14 ∷ []

abbrev pub copy_in_config : Configuration
copy_in_config = config_of (record (plain_block 4) { ram = Sync; defaults = Some (10 ∷ 11 ∷ 12 ∷ 13 ∷ []) } ∷ [])

abbrev pub copy_in_refused : List Entry
copy_in_refused = Found [] 0 ∷ ok (Restore 2 true) ∷ pick 2 RestoreJob 0 ∷ Post 2 NotOk None 1 0 ∷ []

-- WHAT NO PRINTED CASE SHOWS

-- a ReadAll of the demo, in which block 1 gives the configuration id with this result, and id 0 ends with that one
abbrev pub id_is_read : ReqResult → ReqResult → List Entry
id_is_read copies all =
    Found ((at 1 0, Content (0 ∷ 1 ∷ [])) ∷ (at 1 1, Content (0 ∷ 1 ∷ [])) ∷ (at 2 0, Content bytes_1) ∷ []) 0 ∷ ok ReadAll ∷ pick 0 ReadAllJob 0
    ∷ pick 1 ReadJob 0 ∷ give 1 copies (0 ∷ 1 ∷ []) 0 ∷ pick 2 ReadJob 0 ∷ give 2 Fine bytes_1 0 ∷ post 0 all 0 ∷ []

-- copy 1 of block 1 gives it after copy 0 failed; a RAM write then writes what was read
abbrev pub id_from_copy_1 : List Entry
id_from_copy_1 = id_is_read RedundancyFailed NotOk ++ ok (Write 2 None 0) ∷ pick_write 2 bytes_1 0 ∷ []

abbrev pub mixed_config : Configuration
mixed_config = config_of (record (plain_block 4) { kind = Redundant; priority = 10; ram = Permanent } ∷ record (plain_block 4) { priority = 0 } ∷ [])

-- both copies out of store 3 give store 2, and the write fails
abbrev pub stale_write : List Entry
stale_write = Found [] 0 ∷ ok (Write 2 None 3) ∷ Pick 2 WriteJob (TookStale 3 2 2) 0 ∷ post 2 NotOk 0 ∷ []

abbrev pub guarded_config : Configuration
guarded_config = config_of
    (record (plain_block 4) { once = true }
    ∷ record (plain_block 2) { kind = Dataset; nv = 1; rom = (7 ∷ 8 ∷ []) ∷ []; ram = Permanent; writeall = true } ∷ record (plain_block 4) { protected = true } ∷ [])

-- FOR HISTORIES THAT FAIL

abbrev pub sync_plain : Configuration
sync_plain = config_of (record (plain_block 4) { ram = Sync } ∷ [])

abbrev pub once_config : Configuration
once_config = config_of (record (plain_block 4) { once = true } ∷ [])

abbrev pub urgent_config : Configuration
urgent_config = config_of (record (plain_block 4) { priority = 0 } ∷ record (plain_block 4) { priority = 0 } ∷ [])

-- FOR TABLES

-- a request is replied to so after a history
abbrev pub Replies : Configuration → List Entry → Request → Reply → Type 0
Replies c h r reply = reply_of c cap (after c h) r ≡ reply

abbrev pub first : List Entry
first = Found [] 0 ∷ []

abbrev pub with_queues : ℕ → ℕ → Configuration → Configuration
with_queues standard immediate c = record c { standard = standard; immediate = immediate }

abbrev pub rank : Bool → ℕ → ℕ → Rank
rank immediate priority number = record { immediate = immediate; priority = priority; number = number }

-- whether RAM is valid and changed after a job, where it was both before, or neither
abbrev pub flags_after : Bool → JobKind → ReqResult → Bool × Bool
flags_after before kind r = let b = flagged kind r (record no_block { valid = before; changed = before }) in (b.valid, b.changed)

-- each request once: those of this block, with RAM and without where it names either, and those of all blocks
abbrev pub each_request : ℕ → List Request
each_request id =
    Read id false ∷ Read id true ∷ Write id (Some bytes_1) 0 ∷ Write id None 0 ∷ Restore id false ∷ Restore id true ∷ Erase id ∷ Invalidate id
    ∷ SetIndex id 0 ∷ GetIndex id ∷ SetProtection id false ∷ SetLock id false ∷ SetRam id false ∷ PutRam id bytes_1 ∷ Status id
    ∷ ReadAll ∷ WriteAll ∷ CancelWriteAll ∷ []

-- the replies to them after a history, each as if it came alone
abbrev pub each_reply : Configuration → ℕ → List Entry → ℕ → List Reply
each_reply c cap h id = map (reply_of c cap (after c h)) (each_request id)

-- Block 2 has RAM and defaults and is immediate, 3 is like it, 4 has none of these, and 5 is a dataset with RAM.
abbrev pub rows_config : Configuration
rows_config =
    config_of (record (plain_block 4) { priority = 0; ram = Permanent; defaults = Some bytes_2 } ∷ record (plain_block 4) { priority = 0; ram = Permanent }
    ∷ plain_block 4 ∷ record (plain_block 4) { kind = Dataset; priority = 0; ram = Permanent; nv = 2; rom = bytes_2 ∷ [] } ∷ [])

-- Runs on a small flash, of 10 pages a bank, and one beside another flash, that keep the promise and that break it, and a call
-- of the demo.
use Rattle.std.specs.Prelude.{ℕ, ◌+◌, ◌-◌, ◌*◌, ◌==◌, Bool, true, false, List, [], ◌∷◌, ◌++◌, map, flat_map, take, drop, replicate, codes, Option, Some, None, refl}
use Rattle.block_machine.specs.nv_base.Held.{never_written}
use Rattle.block_machine.specs.nv_base.Plan.{no_planning}
use Rattle.block_machine.specs.block_config.DemoConfig.{demo_config}
use Rattle.block_machine.specs.block_config.Block.{plain_block, manager_block}
use Rattle.fls_model.specs.declared.flash.FlashAnswer.{FlashAnswer}
use Rattle.fls_model.specs.declared.flash.FlashAnswer.TheVariants.{Done, Failed, Off as FlashOff}
use Rattle.fls_model.specs.Op.{Op, Program, Erase}
use Rattle.fls_model.specs.Told.{Told, Change}
use Rattle.fee_format.specs.Pages.{gate_page}
use Rattle.fee_format.specs.BankHead.{bank_head_page}
use Rattle.fee_format.specs.RecHead.{rec_head_page}
use Rattle.fee_format.specs.declared.rec_head.RecordKind.TheVariants as record_kind
use Rattle.nv_streams.specs.MemorySink.{told_pieces}
use Rattle.nvm_script.specs.declared.script.Mode.TheVariants as mode
use Rattle.nvm_script.specs.Printed.{history_lines}
use Rattle.script_walks.specs.Words.{Step, StepKind, AskStep, Store, Turn, Drain, Restart, Cut, Await}
use Rattle.block_machine.specs.Words.{Fine, NotOk, Content, Write, SetLock, Status, WriteAll, CancelWriteAll, Accepted, StatusIs, WriteJob, WriteAllJob, TookNothing, TookContent, TookStale, Entry, Ask, Pick, Wrote, Post, Off, Found, BlockDesc, Dataset, Sync, Configuration}
use Rattle.script_walks.specs.Looks.{Look}
use Rattle.block_machine.specs.State.{State, Job}
use Rattle.promise_device.specs.FlashRun.{FlashRun, HasFailed}
use Rattle.promise_run.specs.Beside.{Beside}
use Rattle.promise_run.specs.Call.{Call}
use Rattle.promise_run.specs.Promise.{Promise}
use Rattle.promise_run.specs.TwoFlashes.{PromiseOfBoth, HasCutsOfBoth}
use Rattle.promise_run.specs.BankTurns.{HasCausedErases}
use Rattle.promise_run.specs.Turns.{Moment, Move, EndsCanceled, StaysAtRest, ClosesAtDrains, FindWorkAtDrains, CountFailed, ArePaidSince, BeginWhatIsDue}
use Rattle.block_machine.specs.Steps.{after}
use Rattle.promise_run.specs.Run.{Run, Played, Ran, cap, HadRoom, LeavesFor, End, Whole, FlashFault, HistoryFull, Memory}

-- IMAGES
-- block 2 is as described
abbrev pub with_block_2 : BlockDesc → Configuration
with_block_2 d = record { id = 1; geometry = record { page = 16; sector = 160; sectors = 2 }; banks = 2; eeprom = None; standard = 8; immediate = 4; blocks = manager_block 1 ∷ d ∷ [] }

abbrev pub small : Configuration
small = with_block_2 (plain_block 4)

abbrev pub blank : List ℕ
blank = replicate 320 255

-- bank 0 stands with this generation and with eight pages behind its gate, and bank 1 is blank
abbrev pub image_of : ℕ → List ℕ → List ℕ
image_of generation pages = bank_head_page 16 (record { format = 2; generation = generation }) ++ gate_page 16 ++ pages ++ replicate 160 255

-- the committed record of a content with this number
abbrev pub record_of : ℕ → List ℕ → List ℕ
record_of number content =
    rec_head_page 2 16 (record { number = record { 0 = number }; kind = record_kind.Content; length = 4; count = 1 })
    ++ gate_page 16 ++ content ++ replicate 12 255 ++ gate_page 16

abbrev pub one : List ℕ
one = 0x11 ∷ 0x22 ∷ 0x33 ∷ 0x44 ∷ []

abbrev pub two : List ℕ
two = 0x55 ∷ 0x66 ∷ 0x77 ∷ 0x88 ∷ []

-- RUNS
-- the promise says this of a run, and it doesn't hold
abbrev pub BreaksBy : Run → Type 0 → Type 0
BreaksBy r P = (Promise r → P) × (P → ⊥)

-- a flash of the small shape with these bytes, and the changes since it was attached, with room to tell one more
abbrev pub tells : List ℕ → Option (List Change) → Told
tells now all =
    record { geometry = small.geometry; bytes = Some (record { now = now; changes = all; room = 1 }); ops = 0; faults = 0; cuts = 0; off = false; planning = no_planning }

-- no operation reaches the flash
abbrev pub unchanged : List ℕ → List ℕ → FlashRun
unchanged before after = record { entry = tells before None; exit = tells after (Some []); operations = [] }

-- a run of `play` on this flash: a start-up that finds nothing, and steps of caller 0, each with its piece
abbrev pub plays : List (StepKind × List Entry) → FlashRun → Run
plays steps flash = record {
  configuration = small;
  most = cap;
  course = Played (map (λ x. record { line = 0; caller = 0; kind = x.0 }) steps) (map (λ x. x.1) steps) [];
  end = Whole;
  history = Found [] 0 ∷ flat_map (λ x. x.1) steps;
  flash = flash;
  cuts = [];
  beside = None;
}

-- a start-up on a flash of no bytes, and no step
abbrev pub quiet : Run
quiet = plays [] (unchanged [] blank)

-- OVER TWO FLASHES
-- a second device, which holds block 2, and finds nothing in a flash that has this run
abbrev pub holds_block_2 : FlashRun → Beside
holds_block_2 flash = record {
  flash = flash;
  reading = record {
    geometry = small.geometry;
    held = λ image n. never_written;
    is_sound = λ image. true;
    is_last = λ n image. false;
    is_full = λ n urgent image. false;
    may_follow = λ n op. false;
    free = λ earlier image. 0;
    is_such = λ trait x. false;
  };
  blocks = λ block. block == 2;
}

-- with these bytes before and behind the run
abbrev pub second_of : List ℕ → List ℕ → Beside
second_of before after = holds_block_2 (unchanged before after)

-- a start-up on both flashes
abbrev pub quiet_beside : List ℕ → List ℕ → Run
quiet_beside before after = record quiet { beside = Some (second_of before after) }

-- the promise over both says this of a run, and it doesn't hold
abbrev pub BothBreakBy : Run → Beside → Type 0 → Type 0
BothBreakBy r b P = (PromiseOfBoth r b → P) × (P → ⊥)

-- the image is wiped, and memory is wanting before a start-up
abbrev pub wiped : Run
wiped = record quiet { end = Memory; history = []; flash = unchanged (image_of 1 (record_of 128 one ++ replicate 64 255)) blank }

-- the history is full before a start-up
abbrev pub empty_at_11 : Run
empty_at_11 = record quiet { end = HistoryFull; history = [] }

-- a start-up finds what was never written
abbrev pub made_up_mark : Run
made_up_mark = record quiet { history = Found ((record { block = 2; index = 0 }, Content one) ∷ []) 0 ∷ [] }

-- the power goes off, though nothing cut it
abbrev pub off_without_a_cut : Run
off_without_a_cut = plays ((Drain, Off 0 ∷ []) ∷ []) (unchanged [] blank)

-- a cut that is planned for the nth operation, of which 16 bytes are to be done, comes with the first, of which so many were
abbrev pub cut_within : ℕ → ℕ → Run
cut_within nth done = record (plays ((Cut nth 16, []) ∷ (Drain, Off 1 ∷ []) ∷ []) (unchanged [] blank)) { cuts = done ∷ [] }

-- the power goes off twice, and one cut was planned
abbrev pub cut_twice : Run
cut_twice = record (plays ((Cut 1 16, []) ∷ (Drain, Off 1 ∷ []) ∷ (Drain, Off 1 ∷ []) ∷ []) (unchanged [] blank)) { cuts = 16 ∷ 16 ∷ [] }

-- the application stores `one` and asks for a write of synchronized RAM; the Pick takes what it says
abbrev pub copied : Entry → Run
copied pick =
    record (plays ((Store 2 one, []) ∷ (AskStep (Write 2 None 0), Ask 0 (Write 2 None 1) Accepted ∷ []) ∷ (Turn 1, pick ∷ []) ∷ []) (unchanged [] blank))
    { configuration = with_block_2 (record (plain_block 4) { ram = Sync }) }

-- a copy is older than the store before it
abbrev pub stale_in_play : Run
stale_in_play = copied (Pick 2 WriteJob (TookStale 1 0 1) 0)

-- a content is taken that nobody stored
abbrev pub invented_store : Run
invented_store = copied (Pick 2 WriteJob (TookContent two 1) 0)

-- WRITES
-- `one` is asked to be written to block 2, which is accepted; a Pick takes it
abbrev pub asks_one : StepKind × List Entry
asks_one = (AskStep (Write 2 (Some one) 0), Ask 0 (Write 2 (Some one) 0) Accepted ∷ [])

abbrev pub picks_one : Entry
picks_one = Pick 2 WriteJob (TookContent one 0) 0

abbrev pub taken : List Entry
taken = Found [] 0 ∷ Ask 0 (Write 2 (Some one) 0) Accepted ∷ picks_one ∷ []

-- the second flash has block 2, and the power goes off in the first operation of its write, when 16 bytes of it are done; this step
-- planned a cut
abbrev pub cut_beside : StepKind → Run
cut_beside kind =
    record (plays ((kind, []) ∷ asks_one ∷ (Drain, picks_one ∷ Off 1 ∷ []) ∷ []) (unchanged [] blank)) { cuts = 16 ∷ []; beside = Some (second_of one one) }

-- which isn't the cut that came
abbrev pub CutsAnother : StepKind → Type 0
CutsAnother kind = BothBreakBy (cut_beside kind) (second_of one one) (HasCutsOfBoth (cut_beside kind) (second_of one one))

-- with these operations of the flash it is written and posted
abbrev pub written_at : ℕ → List Entry
written_at ops = Wrote (record { block = 2; index = 0 }) (Content one) ops ∷ Post 2 Fine None 0 ops ∷ []

-- block 2 is a dataset of two, the job writes dataset 0, and the flash holds it as dataset 1
abbrev pub other_dataset : Run
other_dataset =
    record (plays (asks_one ∷ (Turn 1, picks_one ∷ []) ∷ []) (unchanged [] (image_of 1 (record_of 129 one ++ replicate 64 255))))
    { configuration = with_block_2 (record (plain_block 4) { kind = Dataset; nv = 2 }) }

-- a write that is tried twice fails on this image behind these operations, which a fault of one of them is to pay
abbrev pub tried_twice : Configuration
tried_twice = with_block_2 (record (plain_block 4) { writes = 1 })

abbrev pub failed_behind : List Change → ℕ → List ℕ → Run
failed_behind operations ops image =
    let flash = unchanged image image in
    record (plays (asks_one ∷ (Drain, picks_one ∷ Post 2 NotOk None 0 ops ∷ []) ∷ []) (record flash { operations = operations; exit = record flash.exit { faults = 1 } }))
    { configuration = tried_twice }

-- with one fault and none of an operation
abbrev pub failed_on : List ℕ → Run
failed_on = failed_behind [] 0

-- the active bank has the last generation, and room for the record
abbrev pub worn_but_roomy : Run
worn_but_roomy = failed_on (image_of 4294967295 (replicate 128 255))

-- and so it has where a program failed, but before the last erase
abbrev pub before_the_erase : List Change
before_the_erase =
    let roomy = image_of 4294967295 (replicate 128 255) in
    record { op = Program 32 (replicate 16 0); before = roomy; answer = Failed } ∷ record { op = Erase 160 160; before = roomy; answer = Done } ∷ []

abbrev pub worn_long_ago : Run
worn_long_ago = failed_behind before_the_erase 2 (image_of 4294967295 (replicate 128 255))

-- it has the last generation, and records of other numbers in all of its pages
abbrev pub worn_and_full : Run
worn_and_full = failed_on (image_of 4294967295 (record_of 77 one ++ record_of 77 one))

-- block 2 has this priority, beside an immediate block, for whose writes four pages are kept; a write of it fails while as many are
-- free in the last bank
abbrev pub beside_immediate : ℕ → Configuration
beside_immediate priority = record small { blocks = manager_block 1 ∷ record (plain_block 4) { priority = priority; writes = 1 } ∷ record (plain_block 4) { priority = 0 } ∷ [] }

abbrev pub worn_but_kept : ℕ → Run
worn_but_kept priority = record (failed_on (image_of 4294967295 (record_of 77 one ++ replicate 64 255))) { configuration = beside_immediate priority }

-- a write begins with this operation, on this image
abbrev pub begins_with : Op → List ℕ → Run
begins_with op image =
    let operations = record { op = op; before = image; answer = Done } ∷ [] in
    plays (asks_one ∷ (Turn 1, picks_one ∷ []) ∷ (Turn 1, []) ∷ []) (record { entry = tells image (Some []); exit = tells image (Some operations); operations = operations })

-- with an erase of the blank bank 1
abbrev pub erased_beside : List ℕ → Run
erased_beside image = begins_with (Erase 160 160) image

-- whose active bank has room for the record, has none for it, or none and the last generation
abbrev pub erased_with_room : Run
erased_with_room = erased_beside (image_of 1 (replicate 128 255))

abbrev pub erased_when_full : Run
erased_when_full = erased_beside (image_of 1 (record_of 77 one ++ record_of 77 two))

abbrev pub erased_beside_last : Run
erased_beside_last = erased_beside (image_of 4294967295 (record_of 77 one ++ record_of 77 two))

-- or with its header over that of a record
abbrev pub programmed_over : Run
programmed_over = begins_with (Program 32 (take 16 (record_of 77 one))) (image_of 1 (record_of 77 one ++ replicate 64 255))

-- on a flash of no bytes a write begins with the erase of bank 0, which a planned cut keeps from the flash; then a restart
abbrev pub kept_write : Run
kept_write =
    record (plays ((Cut 1 0, []) ∷ asks_one ∷ (Drain, picks_one ∷ Off 1 ∷ []) ∷ (Restart, Found [] 1 ∷ []) ∷ [])
    (record { entry = tells [] (Some []); exit = tells blank (Some []); operations = record { op = Erase 0 160; before = blank; answer = FlashOff } ∷ [] })) { cuts = 0 ∷ [] }

-- on a blank flash the first sector of bank 0 is erased so often behind one start-up, and no fault is counted
abbrev pub erased_so_often : ℕ → Run
erased_so_often n =
    let operations = replicate n (record { op = Erase 0 160; before = blank; answer = Done }) in
    record quiet { flash = record { entry = tells blank (Some []); exit = tells blank (Some operations); operations = operations } }

-- and that has its causes
abbrev pub ErasesSoOften : ℕ → Type 0
ErasesSoOften n = HasCausedErases (erased_so_often n) (record { first = blank; entry = refl; last = blank; exit = refl }) 0

-- the power goes off in an erase, and no entry tells it
abbrev pub off_untold : Run
off_untold = record quiet { flash = kept_write.flash }

-- the same, over a flash that doesn't tell its operations any more, though it had room for one
abbrev pub untold_write : Run
untold_write = let f = kept_write.flash in record kept_write { flash = record f { exit = tells blank None } }

-- the first pages of the record in a bank that stands, and the program of the next one; behind its last page stands the front of a
-- record that says that the number is invalid, without its commit gate
abbrev pub begun : ℕ → List ℕ
begun pages =
    bank_head_page 16 (record { format = 2; generation = 1 }) ++ gate_page 16 ++ take (16 * pages) (record_of 128 one) ++ replicate (64 - 16 * pages) 255
    ++ rec_head_page 2 16 (record { number = record { 0 = 128 }; kind = record_kind.Invalid; length = 0; count = 9 }) ++ gate_page 16 ++ replicate 192 255

abbrev pub programs : ℕ → Change
programs pages =
    record { op = Program (32 + 16 * pages) (take 16 (drop (16 * pages) (record_of 128 one))); before = begun pages; answer = Done }

-- `one` is written and acknowledged with the fourth operation; the fifth programs the page of that commit gate, with no bit, so that
-- a cut within it may commit the record, and lose what was acknowledged
abbrev pub operations : List Change
operations =
    programs 0 ∷ programs 1 ∷ programs 2 ∷ programs 3
    ∷ record { op = Program 128 (replicate 16 255); before = begun 4; answer = Done } ∷ []

abbrev pub lost_write : Run
lost_write =
    plays (asks_one ∷ (Drain, picks_one ∷ written_at 4) ∷ [])
    (record { entry = tells (begun 0) None; exit = record (tells (begun 4) (Some operations)) { ops = 5 }; operations = operations })

-- CALLERS
-- a run of these callers' steps, with these looks of the driver: a start-up that finds nothing, and these entries
abbrev pub runs : List (ℕ × StepKind) → List Look → List Entry → Run
runs steps looks es = record quiet { course = Ran (map (λ x. record { line = 0; caller = x.0; kind = x.1 }) steps) looks; history = Found [] 0 ∷ es }

-- one locks block 2 and the other asks for its status
abbrev pub two_callers : Run
two_callers = runs ((1, AskStep (SetLock 2 true)) ∷ (2, AskStep (Status 2)) ∷ []) [] (Ask 2 (Status 2) (StatusIs Fine) ∷ Ask 1 (SetLock 2 true) Accepted ∷ [])

-- in `run` a second start-up comes
abbrev pub second_found : Run
second_found = runs [] [] (Found [] 0 ∷ [])

-- a caller stores `one` and writes it, and the Pick takes an older copy, which no look showed
abbrev pub unseen_stale : Run
unseen_stale =
    record (runs ((1, Store 2 one) ∷ (1, AskStep (Write 2 None 0)) ∷ []) [] (Ask 1 (Write 2 None 1) Accepted ∷ Pick 2 WriteJob (TookStale 1 0 1) 0 ∷ Post 2 NotOk None 0 0 ∷ []))
    { configuration = with_block_2 (record (plain_block 4) { ram = Sync }) }

-- a caller writes, waits for that write, and stores `one`; the write takes it
abbrev pub later_store : Run
later_store =
    record (runs ((1, AskStep (Write 2 None 0)) ∷ (1, Await 2) ∷ (1, Store 2 one) ∷ [])
    (record { entry = 2; block = 2; shown = 1 } ∷ [])
    (Ask 1 (Write 2 None 0) Accepted ∷ Pick 2 WriteJob (TookContent one 1) 0 ∷ written_at 4))
    { configuration = with_block_2 (record (plain_block 4) { ram = Sync }) }

-- it ends at a full history, and has room
abbrev pub full_for_nothing : Run
full_for_nothing = record (runs ((1, AskStep (Status 2)) ∷ []) [] []) { end = HistoryFull }

-- a caller's write is in hand at the end
abbrev pub not_served : Run
not_served = runs ((1, AskStep (Write 2 (Some one) 0)) ∷ []) [] (Ask 1 (Write 2 (Some one) 0) Accepted ∷ picks_one ∷ [])

-- TURNS
-- each job takes so many turns at most
abbrev pub always : ℕ → State → Job → ℕ
always most s j = most

-- a write of block 2 is in hand after one turn, and eight turns later this has come
abbrev pub turned : List Entry → Run
turned es = plays (asks_one ∷ (Turn 1, picks_one ∷ []) ∷ (Turn 8, es) ∷ []) (unchanged [] blank)

-- a drain leaves a job in hand
abbrev pub not_drained : Run
not_drained = plays (asks_one ∷ (Drain, picks_one ∷ []) ∷ []) (unchanged [] blank)

-- the write in hand is posted as failed, though nothing failed
abbrev pub fails_for_nothing : Run
fails_for_nothing = turned (Post 2 NotOk None 0 0 ∷ [])

-- it ends at a flash fault, and none was counted
abbrev pub ends_for_nothing : Run
ends_for_nothing = record quiet { end = FlashFault }

-- TURN BY TURN
-- a flash whose faults and operations stay, which isn't asked what it tells
abbrev pub at_rest : FlashRun
at_rest = unchanged [] blank

-- one whose operations were answered so
abbrev pub answering : List FlashAnswer → FlashRun
answering answers = record at_rest { operations = map (λ a. record { op = Erase 0 160; before = blank; answer = a }) answers }

abbrev pub four_done : List FlashAnswer
four_done = Done ∷ Done ∷ Done ∷ Done ∷ []

-- a write is posted with the sixth of six turns, and its record is four operations
abbrev pub six_turns : Run
six_turns = plays (asks_one ∷ (Turn 6, picks_one ∷ written_at 4) ∷ []) (answering four_done)

-- the flash made an operation, and no step did
abbrev pub untold : Run
untold = plays [] (answering (Done ∷ []))

-- nine turns pick the job, and make no more of it
abbrev pub lazy : Run
lazy = plays (asks_one ∷ (Turn 9, picks_one ∷ []) ∷ []) at_rest

-- two turns make four operations
abbrev pub leaps : Run
leaps = plays (asks_one ∷ (Turn 2, picks_one ∷ Wrote (record { block = 2; index = 0 }) (Content one) 4 ∷ []) ∷ []) at_rest

-- six turns of a driver beside callers, and one whose entry tells more operations than the flash made
abbrev pub six_beside : Run
six_beside = record six_turns { course = Ran [] [] }

abbrev pub ahead : Run
ahead = record leaps { course = Ran [] [] }

-- a flash that counted so many faults
abbrev pub faulty : ℕ → FlashRun
faulty n = record at_rest { exit = record at_rest.exit { faults = n } }

-- after so many faults, before any operation
abbrev pub at_faults : ℕ → Moment
at_faults n = record { faults = n; ops = 0; busy = false }

-- beside callers a write is asked for, and so many turns behind it add nothing: it may have come within the first of them
abbrev pub PassesBy : ℕ → Type 0
PassesBy turns = BeginWhatIsDue true small (after small (Found [] 0 ∷ []) ∷ []) (after small (Found [] 0 ∷ []))
    (record { entry = Some (Ask 0 (Write 2 (Some one) 0) Accepted); behind = at_faults 0 } ∷ replicate turns (record { entry = None; behind = at_faults 0 }))

-- its first operation failed, and one fault was counted
abbrev pub failed_once : List FlashAnswer → FlashRun
failed_once others = record (answering (Failed ∷ others)) { exit = record at_rest.exit { faults = 1 } }

-- a Pick, and then the operation that failed: with so many faults behind it, and behind the Post
abbrev pub failed_at : ℕ → ℕ → List Move
failed_at own later =
    record { entry = Some picks_one; behind = at_faults 0 }
    ∷ record { entry = None; behind = record { faults = own; ops = 1; busy = false } }
    ∷ record { entry = Some (Post 2 NotOk None 0 1); behind = record { faults = later; ops = 1; busy = false } } ∷ []

abbrev pub CountsFailed : ℕ → ℕ → Type 0
CountsFailed own later = CountFailed (HasFailed (failed_once [])) (at_faults 0) (failed_at own later)

-- a write whose first operation failed, and whose record a retry made
abbrev pub mended : Run
mended = plays (asks_one ∷ (Turn 7, picks_one ∷ written_at 5) ∷ []) (failed_once four_done)

-- a further write is posted as failed, with no fault of its own
abbrev pub posts_on_credit : Run
posts_on_credit =
    plays (asks_one ∷ (Turn 7, picks_one ∷ written_at 5) ∷ asks_one ∷ (Turn 2, Pick 2 WriteJob (TookContent one 0) 5 ∷ Post 2 NotOk None 0 5 ∷ []) ∷ [])
    (failed_once four_done)

-- a cut is planned for the second operation, and comes in it
abbrev pub cut_comes : Run
cut_comes = plays ((Cut 2 0, []) ∷ asks_one ∷ (Turn 3, picks_one ∷ Off 2 ∷ []) ∷ []) (answering (Done ∷ FlashOff ∷ []))

-- one is planned for the first operation, and four are made
abbrev pub cut_missed : Run
cut_missed = plays ((Cut 1 0, []) ∷ asks_one ∷ (Turn 6, picks_one ∷ written_at 4) ∷ []) (answering four_done)

-- a start-up fails with no fault of its own, once an operation failed
abbrev pub starts_on_credit : Run
starts_on_credit = record (plays (asks_one ∷ (Turn 2, picks_one ∷ []) ∷ []) (failed_once [])) { end = FlashFault }

-- The write that is tried twice is posted as failed, with so many faults behind its Post as many were before its Pick, or
-- more. Those before it were other jobs'.
abbrev pub posted_after : ℕ → List Move
posted_after n =
    record { entry = Some picks_one; behind = at_faults 2 }
    ∷ record { entry = None; behind = at_faults n }
    ∷ record { entry = Some (Post 2 NotOk None 0 0); behind = at_faults n } ∷ []

abbrev pub PaysFailed : ℕ → Type 0
PaysFailed n = ArePaidSince tried_twice (λ operations number urgent. ⊥) 0 (at_faults 2) (after tried_twice (Found [] 0 ∷ Ask 0 (Write 2 (Some one) 0) Accepted ∷ [])) (posted_after n)

-- A FULL HISTORY
-- the state behind a start-up, with so many entries in all
abbrev pub at_count : ℕ → State
at_count n = record (after small (Found [] 0 ∷ [])) { count = n }

-- a step of caller 0
abbrev pub step_of : StepKind → Step
step_of kind = record { line = 0; caller = 0; kind = kind }

-- it was made behind so many entries, by their room
abbrev pub HadRoomAt : ℕ → StepKind → Type 0
HadRoomAt n kind = HadRoom small cap (at_count n) (step_of kind) [] [] []

-- behind so many entries a start-up was left, at this end, in a run of at most so many
abbrev pub LeftOf : ℕ → ℕ → End → Type 0
LeftOf most n end = LeavesFor (record quiet { most = most; flash = faulty 1 }) (at_count n) end (step_of Restart ∷ [])

-- in one of a program
abbrev pub LeftAt : ℕ → End → Type 0
LeftAt = LeftOf cap

-- AT REST
-- before any operation, with nothing open at the device, or something
abbrev pub at_busy : Bool → Moment
at_busy busy = record { faults = 0; ops = 0; busy = busy }

-- a `drain` of one turn leaves the device so
abbrev pub DrainsTo : Bool → Type 0
DrainsTo busy = ClosesAtDrains (at_faults 0) (step_of Drain ∷ []) ((record { entry = None; behind = at_busy busy } ∷ []) ∷ [])

-- at a device that was left so, with nothing pending, a `drain` makes a turn more behind one that does nothing
abbrev pub TurnsOn : Bool → Type 0
TurnsOn busy =
    let m : Move = record { entry = None; behind = at_busy busy } in
    FindWorkAtDrains small (at_busy busy) (after small (Found [] 0 ∷ [])) (step_of Drain ∷ []) ((m ∷ m ∷ []) ∷ [])

-- at a device that was left so, with nothing pending, a turn makes an operation
abbrev pub WorksAt : Bool → Type 0
WorksAt busy = StaysAtRest small (at_busy busy) (after small (Found [] 0 ∷ [])) (record { entry = None; behind = record { faults = 0; ops = 1; busy = false } } ∷ [])

-- a WriteAll was begun, and canceled; a turn adds this
abbrev pub EndsWith : Option Entry → Type 0
EndsWith e = EndsCanceled (after small (Found [] 0 ∷ Ask 0 WriteAll Accepted ∷ Pick 0 WriteAllJob TookNothing 0 ∷ Ask 0 CancelWriteAll Accepted ∷ [])) e

-- A CALL
-- `play` of the demo configuration without a step, with this status and an output of these pieces
abbrev pub demo_run : Run
demo_run = record quiet { configuration = demo_config }

abbrev pub demo_call : ℕ → List (List ℕ) → Call
demo_call status pieces =
    let f = demo_run.flash in
    record { mode = mode.Play; input = Some (codes "@demo"); status = status; entry = f.entry; exit = f.exit; written = told_pieces []; written_after = told_pieces pieces }

-- its last line in two pieces
abbrev pub last_in_two : List (List ℕ)
last_in_two = history_lines demo_run.history ++ codes "end 1" ∷ codes "\n" ∷ []

-- Scripts of the worked cases, and runs of several callers.
use Rattle.std.specs.Prelude.{ℕ, true, List, [], ◌∷◌, ◌++◌, take, drop, None}
use Rattle.script_walks.specs.Words.{Step, StepKind, AskStep, Store, Turn, Drain, Restart, Cut, Refuse, Await}
use Rattle.block_machine.specs.block_config.Block.{plain_block}
use Rattle.block_machine.specs.Words.{Fine, BlockSkipped, Request, Write, SetRam, WriteAll, Status, Accepted, Refused, StatusIs, BlockPending, ReadJob, WriteJob, WriteAllJob, Taken, TookContent, Entry, Ask, Pick, Found, Configuration, Sync}
use Rattle.block_machine.specs.Cases.{ok, write, read, pick, pick_write, wrote, post, give, bytes_1, bytes_2, four, cap, config_of}
use Rattle.script_walks.specs.Walk.{IsWalkOf}
use Rattle.script_walks.specs.Looks.{Look}
use Rattle.block_machine.specs.Legal.{IsLegal}

-- pieces of so many entries
abbrev pub pieces_of : List ℕ → List Entry → List (List Entry)
pieces_of [] es = []
pieces_of (n ∷ ns) es = take n es ∷ pieces_of ns (drop n es)

-- a history is a walk of a script, where each step added so many entries
abbrev pub IsWalkIn : Configuration → List Step → List ℕ → List Entry → Type 0
IsWalkIn c steps sizes h = IsWalkOf c steps (pieces_of sizes (drop 1 h)) h

-- and it is legal
abbrev pub IsWorked : Configuration → List Step → List ℕ → List Entry → Type 0
IsWorked c steps sizes h = IsLegal c cap h × IsWalkIn c steps sizes h

-- a step of a caller; its line means nothing here
abbrev pub by : ℕ → StepKind → Step
by caller kind = record { line = 0; caller = caller; kind = kind }

abbrev pub does : StepKind → Step
does kind = by 0 kind

abbrev pub asks : Request → Step
asks r = does (AskStep r)

abbrev pub drain : Step
drain = does Drain

abbrev pub cut_script : ℕ → List Step
cut_script keep = asks (write 2 bytes_1) ∷ drain ∷ asks (write 2 bytes_2) ∷ does (Cut 4 keep) ∷ drain ∷ does Restart ∷ asks (read 2) ∷ drain ∷ []

abbrev pub refuse_script : ℕ → List Step
refuse_script n = does (Store 2 (1 ∷ 2 ∷ 3 ∷ 4 ∷ [])) ∷ does (Refuse 2 n) ∷ asks (Write 2 None 0) ∷ drain ∷ []

-- caller 1 stores and writes a synchronized block, and waits
abbrev pub store_run_script : List Step
store_run_script = by 1 (Store 2 (four 10)) ∷ by 1 (AskStep (Write 2 None 0)) ∷ by 1 (Await 2) ∷ []

-- caller 1 writes, waits and reads, and caller 2 asks for a status beside it
abbrev pub callers_script : List Step
callers_script = by 1 (AskStep (write 2 bytes_1)) ∷ by 1 (Await 2) ∷ by 1 (AskStep (read 2)) ∷ by 2 (AskStep (Status 3)) ∷ []

-- RUNS

abbrev pub store_run : List Entry
store_run = Found [] 0 ∷ Ask 1 (Write 2 None 1) Accepted ∷ Pick 2 WriteJob (TookContent (four 10) 1) 0 ∷ wrote 2 0 (four 10) 10 ∷ post 2 Fine 10 ∷ []

abbrev pub two_callers : List Entry
two_callers =
    Found [] 0 ∷ Ask 1 (write 2 bytes_1) Accepted ∷ pick_write 2 bytes_1 0 ∷ Ask 2 (Status 3) (StatusIs Fine) ∷ wrote 2 0 bytes_1 10 ∷ post 2 Fine 10
    ∷ Ask 1 (read 2) Accepted ∷ pick 2 ReadJob 10 ∷ give 2 Fine bytes_1 10 ∷ []

-- legal, but caller 1 doesn't wait
abbrev pub impatient_caller : List Entry
impatient_caller =
    Found [] 0 ∷ Ask 1 (write 2 bytes_1) Accepted ∷ pick_write 2 bytes_1 0 ∷ Ask 1 (read 2) (Refused BlockPending) ∷ Ask 2 (Status 3) (StatusIs Fine)
    ∷ wrote 2 0 bytes_1 10 ∷ post 2 Fine 10 ∷ []

-- caller 0 stores, writes, and makes a turn
abbrev pub stale_steps : List Step
stale_steps = does (Store 2 bytes_1) ∷ asks (Write 2 None 0) ∷ does (Turn 1) ∷ []

-- what caller 1's write takes in a run
abbrev pub stored_pick : List ℕ → ℕ → List Entry
stored_pick bytes n = Found [] 0 ∷ Ask 1 (Write 2 None 1) Accepted ∷ Pick 2 WriteJob (TookContent bytes n) 0 ∷ []

-- COPIES OF A WRITEALL

-- a synchronized block that WriteAll writes
abbrev pub synced_member : Configuration
synced_member = config_of (record (plain_block 4) { ram = Sync; writeall = true } ∷ [])

-- caller 0 stores, says that the RAM changed, and writes all
abbrev pub stores_and_writes_all : List Step
stores_and_writes_all = does (Store 2 (four 10)) ∷ asks (SetRam 2 true) ∷ asks WriteAll ∷ drain ∷ []

-- its member takes this store, is written and posted, and block 1 is skipped
abbrev pub member_takes : List ℕ → ℕ → List Entry
member_takes bytes number =
    Found [] 0 ∷ ok (SetRam 2 true) ∷ ok WriteAll ∷ pick 0 WriteAllJob 0 ∷ Pick 2 WriteJob (TookContent bytes number) 0 ∷ wrote 2 0 bytes 10
    ∷ post 2 Fine 10 ∷ post 1 BlockSkipped 10 ∷ post 0 Fine 10 ∷ []

-- LOOKS

-- a look at block 2 in the Pick that is this entry
abbrev pub saw : ℕ → ℕ → List Look
saw entry shown = record { entry = entry; block = 2; shown = shown } ∷ []

-- caller 1 stores, and writes its store
abbrev pub stores_and_writes : List Step
stores_and_writes = by 1 (Store 2 bytes_1) ∷ by 1 (AskStep (Write 2 None 0)) ∷ []

-- what the Pick of that write takes
abbrev pub takes : Taken → List Entry
takes t = Found [] 0 ∷ Ask 1 (Write 2 None 1) Accepted ∷ Pick 2 WriteJob t 0 ∷ []

-- caller 1 writes before its first store, does this, and stores
abbrev pub writes_and_stores : List Step → List Step
writes_and_stores between = by 1 (AskStep (Write 2 None 0)) ∷ between ++ by 1 (Store 2 bytes_1) ∷ []

-- the Pick of that write takes the store
abbrev pub takes_later_store : List Entry
takes_later_store = Found [] 0 ∷ Ask 1 (Write 2 None 0) Accepted ∷ Pick 2 WriteJob (TookContent bytes_1 1) 0 ∷ []

-- caller 1 writes, waits, stores and writes again: each write takes the store before it
abbrev pub writes_twice : List Step
writes_twice = writes_and_stores (by 1 (Await 2) ∷ []) ++ by 1 (AskStep (Write 2 None 0)) ∷ []

abbrev pub takes_twice : List Entry
takes_twice =
    Found [] 0 ∷ Ask 1 (Write 2 None 0) Accepted ∷ Pick 2 WriteJob (TookContent (four 0) 0) 0 ∷ wrote 2 0 (four 0) 10 ∷ post 2 Fine 10
    ∷ Ask 1 (Write 2 None 1) Accepted ∷ Pick 2 WriteJob (TookContent bytes_1 1) 10 ∷ []

-- WAITS

-- caller 1 writes, waits and reads, and caller 2 writes the same block
abbrev pub both_write : List Step
both_write = by 1 (AskStep (write 2 bytes_1)) ∷ by 1 (Await 2) ∷ by 1 (AskStep (read 2)) ∷ by 2 (AskStep (write 2 bytes_2)) ∷ []

-- the block is PENDING again before caller 1 reads
abbrev pub pending_again : List Entry
pending_again = Found [] 0 ∷ Ask 1 (write 2 bytes_1) Accepted ∷ pick_write 2 bytes_1 0 ∷ wrote 2 0 bytes_1 10 ∷ post 2 Fine 10 ∷ Ask 2 (write 2 bytes_2) Accepted ∷ []

-- FULL HISTORIES

-- block 2 is written at once: its job holds five entries, two of them for a job that it may interrupt
abbrev pub immediate_config : Configuration
immediate_config = config_of (record (plain_block 4) { priority = 0 } ∷ [])

-- caller 1 writes, waits, and asks for the status, as caller 2 does
abbrev pub full_script : List Step
full_script = by 1 (AskStep (write 2 bytes_1)) ∷ by 1 (Await 2) ∷ by 1 (AskStep (Status 2)) ∷ by 2 (AskStep (Status 2)) ∷ []

-- caller 2 asks while the job holds its entries, so that eight have no room for it, and caller 1 once it is posted
abbrev pub full_run : List Entry
full_run =
    Found [] 0 ∷ Ask 1 (write 2 bytes_1) Accepted ∷ pick_write 2 bytes_1 0 ∷ wrote 2 0 bytes_1 10 ∷ post 2 Fine 10 ∷ Ask 1 (Status 2) (StatusIs Fine) ∷ []

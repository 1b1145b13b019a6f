-- Two operations of a flash of two pages of 2 bytes, and what a device tells over two banks of ten pages.
use Rattle.std.specs.Prelude.{◌≡◌, ◌+◌, ℕ, Bool, true, false, List, [], ◌∷◌, ◌++◌, take, replicate, Some, None}
use Rattle.nv_base.specs.Plan.{no_planning}
use Rattle.nv_base.specs.declared.mark.Mark.TheVariants.{Content}
use Rattle.memif.specs.declared.answer.JobResult.TheVariants.{JobOk}
use Rattle.memif.specs.Told.{Stand, Open, Ended}
use Rattle.memif.specs.Plain.{plain_store}
use Rattle.fls_model.specs.declared.flash.FlashAnswer.{FlashAnswer}
use Rattle.fls_model.specs.declared.flash.FlashAnswer.TheVariants.{Done, Failed, Off}
use Rattle.fls_model.specs.Op.{Program, Erase}
use Rattle.fls_model.specs.Told.{Told, Change}
use Rattle.fee_format.specs.Pages.{gate_page}
use Rattle.fee_format.specs.BankHead.{bank_head_page, last_generation}
use Rattle.fee_format.specs.RecHead.{rec_head_page}
use Rattle.fee_format.specs.declared.rec_head.RecordKind.TheVariants as kind
use Rattle.promise_device.specs.Making.{Making}
use Rattle.promise_device.specs.FlashRun.{FlashRun}
use Rattle.promise_device.specs.Room.{TellsWork}
use Rattle.promise_device.specs.Wear.{are_due}

abbrev pub blank : List ℕ
blank = 255 ∷ 255 ∷ 255 ∷ 255 ∷ []

abbrev pub other : List ℕ
other = 0 ∷ 255 ∷ 255 ∷ 255 ∷ []

-- an erase of both pages over a blank flash, alone
abbrev pub seen_there : List Change
seen_there = record { op = Erase 0 4; before = blank; answer = Done } ∷ []

-- a program of the first page behind it, which was answered so
abbrev pub answered : FlashAnswer → Change
answered answer = record { op = Program 0 (0 ∷ 0 ∷ []); before = blank; answer = answer }

-- or in which the power went off
abbrev pub program : Change
program = answered Off

-- of which the flash saw this page
abbrev pub broken_off : List ℕ → Change
broken_off part = record { op = Program 0 part; before = blank; answer = Done }

abbrev pub erase : Change → List Change
erase x = record { op = Erase 0 4; before = blank; answer = Done } ∷ x ∷ []

-- a flash that tells no bytes and that counted so many operations
abbrev pub told_ops : ℕ → Told
told_ops ops = record { geometry = record { page = 2; sector = 4; sectors = 1 }; bytes = None; ops = ops; faults = 0; cuts = 0; off = false; planning = no_planning }

-- an erase that failed
abbrev pub failed_erase : Change
failed_erase = record { op = Erase 0 4; before = blank; answer = Failed }

-- the page with its first byte done
abbrev pub first_byte : List ℕ
first_byte = 0 ∷ 255 ∷ []

-- two programs of it, in both of which the power went off
abbrev pub two_programs : List Change
two_programs = program ∷ program ∷ []

-- a planned cut came in no operation; in the second; in any
abbrev pub never : ℕ → Type 0
never k = ⊥

abbrev pub second : ℕ → Type 0
second k = k ≡ 1

abbrev pub any : ℕ → Type 0
any k = Unit {0}

-- a run over a flash that counted so many operations
abbrev pub counted : ℕ → List Change → FlashRun
counted ops operations = record { entry = told_ops 0; exit = told_ops ops; operations = operations }

-- ROOM
-- one number of 4 bytes, whose record takes four pages, as many as are kept
abbrev pub two_banks : Making
two_banks = record { geometry = record { page = 16; sector = 160; sectors = 2 }; banks = 2; numbers = (record { 0 = 128 }, 4) ∷ []; reserve = 4 }

-- bank 0 stands with a generation, and this is behind its gate
abbrev pub standing_as : ℕ → List ℕ → List ℕ
standing_as generation pages = bank_head_page 16 (record { format = 2; generation = generation }) ++ gate_page 16 ++ pages ++ replicate 160 255

abbrev pub standing : List ℕ → List ℕ
standing pages = standing_as 1 pages

abbrev pub roomy : List ℕ
roomy = standing (replicate 128 255)

-- a page behind its gate is torn, which closes it
abbrev pub torn : List ℕ
torn = standing (0 ∷ replicate 127 255)

abbrev pub no_job : Stand
no_job = Ended JobOk []

abbrev pub urgent_write : Stand
urgent_write = Open (record { number = 128; mark = Some (Content (1 ∷ 2 ∷ 3 ∷ 4 ∷ [])); urgent = true })

abbrev pub standard_write : Stand
standard_write = Open (record { number = 128; mark = Some (Content (1 ∷ 2 ∷ 3 ∷ 4 ∷ [])); urgent = false })

-- a device tells of this room and these turns
abbrev pub Tells : Bool → List ℕ → Stand → (ready left : ℕ) → Type 0
Tells failed image stand ready left = TellsWork two_banks failed image (record (plain_store []) { stand = stand; ready = ready; left = left })

-- WEAR
-- a record of the number, and as many blank pages behind it
abbrev pub written : List ℕ
written =
    rec_head_page 2 16 (record { number = record { 0 = 128 }; kind = kind.Content; length = 4; count = 1 })
    ++ gate_page 16 ++ (1 ∷ 2 ∷ 3 ∷ 4 ∷ replicate 12 255) ++ gate_page 16 ++ replicate 64 255

-- a flash on which no bank stands; one whose active bank has four free pages, of the eight that a record may ask for; and one whose
-- active bank has the last generation
abbrev pub no_bank : List ℕ
no_bank = replicate 320 255

abbrev pub full : List ℕ
full = standing written

abbrev pub last : List ℕ
last = standing_as last_generation written

-- bank 1 took over, and has room
abbrev pub taken_over : List ℕ
taken_over = bank_head_page 16 (record { format = 2; generation = 1 }) ++ gate_page 16 ++ written ++ bank_head_page 16 (record { format = 2; generation = 2 }) ++ gate_page 16 ++ replicate 128 255

-- an erase of a bank over these bytes
abbrev pub erased_at : (address : ℕ) → FlashAnswer → List ℕ → Change
erased_at address answer image = record { op = Erase address 160; before = image; answer = answer }

abbrev pub erased : List ℕ → Change
erased image = erased_at 160 Done image

-- a program of the page at an address
abbrev pub programmed_at : (address : ℕ) → FlashAnswer → List ℕ → Change
programmed_at address answer image = record { op = Program address (replicate 16 0); before = image; answer = answer }

-- of the third page of bank 1, and of the page behind the log of bank 0
abbrev pub programmed : FlashAnswer → List ℕ → Change
programmed answer image = programmed_at 192 answer image

abbrev pub appended : FlashAnswer → List ℕ → Change
appended answer image = programmed_at 32 answer image

abbrev pub are_due_there : List Change → Bool
are_due_there operations = are_due two_banks [] operations

-- three banks of ten pages, of which the first one is active and full, or the last one
abbrev pub three_banks : Making
three_banks = record two_banks { geometry = record { page = 16; sector = 160; sectors = 3 }; banks = 3 }

abbrev pub first_of_three : List ℕ
first_of_three = full ++ replicate 160 255

abbrev pub last_of_three : List ℕ
last_of_three = taken_over ++ bank_head_page 16 (record { format = 2; generation = 3 }) ++ gate_page 16 ++ written

abbrev pub in_turn : List Change → Bool
in_turn operations = are_due three_banks [] operations

-- the same flash in sectors of half the size: two a bank
abbrev pub small_sectors : Making
small_sectors = record two_banks { geometry = record { page = 16; sector = 80; sectors = 4 } }

-- an erase of the first sector of bank 1, and of the second
abbrev pub first_sector : FlashAnswer → Change
first_sector answer = record { op = Erase 160 80; before = full; answer = answer }

abbrev pub second_sector : FlashAnswer → Change
second_sector answer = record { op = Erase 240 80; before = full; answer = answer }

abbrev pub in_order : List Change → Bool
in_order operations = are_due small_sectors [] operations

-- and one of 20 pages a bank, of which a switch writes 13 at most
abbrev pub wide_banks : Making
wide_banks = record two_banks { geometry = record { page = 16; sector = 320; sectors = 2 } }

-- the first head of bank 0, beside a blank bank 1, over these bytes of its other pages; and the gate behind it
abbrev pub first_head : ℕ → List ℕ
first_head generation = bank_head_page 16 (record { format = 2; generation = generation })

abbrev pub head_over : ℕ → FlashAnswer → List ℕ → Change
head_over generation answer pages = record { op = Program 0 (first_head generation); before = replicate 32 255 ++ pages ++ replicate 320 255; answer = answer }

abbrev pub gate_over : FlashAnswer → List ℕ → Change
gate_over answer pages = record { op = Program 16 (gate_page 16); before = first_head 1 ++ replicate 16 255 ++ pages ++ replicate 320 255; answer = answer }

-- the head once more, over itself
abbrev pub head_again : List ℕ → Change
head_again pages = record (gate_over Done pages) { op = Program 0 (first_head 1) }

-- the first head where its gate stands already, alone
abbrev pub head_over_gate : List ℕ → Change
head_over_gate pages = record (head_over 1 Done pages) { before = replicate 16 255 ++ gate_page 16 ++ pages ++ replicate 320 255 }

-- a program of the other bank, where the gate may come next
abbrev pub elsewhere : List ℕ → Change
elsewhere pages = record (gate_over Done pages) { op = Program 352 (replicate 16 0) }

-- a head of bank 1 beside a bank of the last generation
abbrev pub head_behind_last : Change
head_behind_last = record { op = Program 160 (first_head (last_generation + 1)); before = last; answer = Done }

abbrev pub copied : List ℕ
copied = take 64 written

abbrev pub opens : List ℕ → Bool
opens pages = are_due wide_banks [] (head_over 1 Done pages ∷ gate_over Done pages ∷ [])

-- these operations there
abbrev pub are_due_wide : List Change → Bool
are_due_wide operations = are_due wide_banks [] operations

-- its other pages are blank
abbrev pub no_records : List ℕ
no_records = replicate 288 255

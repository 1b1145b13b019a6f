-- A run over two flashes, turn by turn.
use Rattle.std.specs.Prelude.{ℕ, ◌==◌, ◌&&◌, if◌then◌else◌, Bool, true, List, [], ◌∷◌, Some, None}
use Rattle.std.specs.Bool.{beq}
use Rattle.fls_model.specs.declared.flash.FlashAnswer.TheVariants.{Done}
use Rattle.block_machine.specs.block_config.Block.{plain_block, manager_block}
use Rattle.memif.specs.Clock.{TakesKept}
use Rattle.script_walks.specs.Words.{StepKind, Turn}
use Rattle.block_machine.specs.Words.{NotOk, Write, Ask, Accepted, Post, Off, Found, Configuration}
use Rattle.block_machine.specs.State.{State}
use Rattle.block_machine.specs.Steps.{after}
use Rattle.promise_device.specs.FlashRun.{FlashRun}
use Rattle.promise_run.specs.Beside.{Beside}
use Rattle.promise_run.specs.Run.{Run}
use Rattle.promise_run.specs.Turns.{Move, CountFailed, EachMoveSince, TakeKept}
use Rattle.promise_run.specs.TurnsOfBoth.{HasFailedOfBoth, HasTraitOfBoth, WereCountedByBoth, IsAtSealOfBoth, PostsUrgentOfBoth, CutsOfBothCome}
use Rattle.promise_run.specs.Cases.{small, one, quiet, plays, asks_one, picks_one, at_rest, answering, faulty, failed_once, failed_at, at_faults, holds_block_2, step_of, written_at}
use Rattle.promise_run.specs.UrgentCases.{urgent, roomy, at}
use Rattle.promise_run.specs.KeptCases.{programmed}

-- a second device over this flash, which stores block 2, or no block
abbrev pub beside_of : (stores : Bool) → FlashRun → Beside
beside_of stores f = record (holds_block_2 f) { blocks = λ block. stores && block == 2 }

-- WHOSE OPERATION
-- a write of block 2 is in hand at the first operation, over this first flash
abbrev pub in_hand : Configuration → FlashRun → Run
in_hand c f = record (plays (asks_one ∷ (Turn 2, picks_one ∷ Post 2 NotOk None 0 1 ∷ []) ∷ []) f) { configuration = c }

-- the first operation of the second flash failed, and the write is posted as failed: with so many faults behind the operation, and behind the Post
abbrev pub CountsFailedOfBoth : (stores : Bool) → (own later : ℕ) → Type 0
CountsFailedOfBoth stores own later = CountFailed (HasFailedOfBoth (in_hand small at_rest) (beside_of stores (failed_once []))) (at_faults 0) (failed_at own later)

-- the first flash counted one fault, and the second one two
abbrev pub CountedInAll : ℕ → Type 0
CountedInAll n = WereCountedByBoth (record quiet { flash = faulty 1 }) (beside_of true (faulty 2)) n

-- the first operation of the first flash took a page that is kept; it may be made in this state
abbrev pub MayBeMadeOfBoth : (stores : Bool) → State → Type 0
MayBeMadeOfBoth stores s = TakeKept urgent (HasTraitOfBoth (in_hand urgent (programmed 96 Done)) (beside_of stores at_rest) TakesKept) (at 0 0) s (record { entry = None; behind = at 0 1 } ∷ [])

-- it programmed a bank's head
abbrev pub IsSealed : (stores : Bool) → (since : ℕ) → Type 0
IsSealed stores since = IsAtSealOfBoth (in_hand urgent (programmed 160 Done)) (beside_of stores at_rest) since 1

-- an immediate write of block 2 is posted soon, in a bank of the first flash that has room for it
abbrev pub IsInTimeOfBoth : (stores : Bool) → List Move → Type 0
IsInTimeOfBoth stores ms = EachMoveSince urgent (PostsUrgentOfBoth (record quiet { configuration = urgent; flash = roomy }) (beside_of stores at_rest) 4) 0 (after urgent (Found [] 0 ∷ [])) ms

-- PLANNED CUTS
-- the operations are all of one of the flashes
abbrev pub all_of : Bool → Bool → ℕ → ℕ
all_of second one k = if beq second one then k else 0

-- A step plans a cut, and a write is asked for. Behind its Pick an operation is made, and the power goes off in the second one,
abbrev pub goes_off : List Move
goes_off = record { entry = Some picks_one; behind = at 0 0 } ∷ record { entry = None; behind = at 0 1 } ∷ record { entry = Some (Off 2); behind = at 0 2 } ∷ []

-- or two are made, at so many faults.
abbrev pub makes_two : ℕ → List Move
makes_two faults = record { entry = Some picks_one; behind = at 0 0 } ∷ record { entry = None; behind = at faults 1 } ∷ record { entry = None; behind = at faults 2 } ∷ []

-- it isn't missed, where all operations are the second flash's, or the first one's
abbrev pub ComesIn : Bool → StepKind → List Move → Type 0
ComesIn second kind turns =
    CutsOfBothCome small (all_of second) (at 0 0) (after small (Found [] 0 ∷ []))
    (step_of kind ∷ step_of asks_one.0 ∷ step_of (Turn 3) ∷ [])
    ([] ∷ (record { entry = Some (Ask 0 (Write 2 (Some one) 0) Accepted); behind = at 0 0 } ∷ []) ∷ turns ∷ [])

-- A RUN
-- block 2 is the second device's, whose flash has pages of 16 bytes
abbrev pub two_devices : Configuration
two_devices = record small { eeprom = Some (record { page = 16; sector = 64; sectors = 4 }); blocks = manager_block 1 ∷ record (plain_block 4) { device = 1 } ∷ [] }

-- a write of it is posted with the seventh of seven turns, and its slot takes five operations; the first flash makes none
abbrev pub seven_turns : Run
seven_turns = record (plays (asks_one ∷ (Turn 7, picks_one ∷ written_at 5) ∷ []) at_rest) { configuration = two_devices }

abbrev pub makes_five : Beside
makes_five = beside_of true (answering (Done ∷ Done ∷ Done ∷ Done ∷ Done ∷ []))

-- no step is made, and one of the flashes made an operation
abbrev pub made_untold : Run
made_untold = record quiet { configuration = two_devices }

abbrev pub makes_one : Beside
makes_one = beside_of true (answering (Done ∷ []))

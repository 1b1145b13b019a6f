-- A failed write and what pays for it, and a write, the counts that it may leave and its operations.
use Rattle.std.specs.Prelude.{◌≡◌, ◌<◌, ◌≤◌, ◌++◌, ℕ, Bool, true, List, [], ◌∷◌, replicate, Some, None}
use Rattle.memif.specs.Told.{DeviceTold, Second, no_figures, no_part}
use Rattle.memif.specs.Clock.{Clock, untold}
use Rattle.memif.specs.Plain.{plain_fixed, plain_store}
use Rattle.block_machine.specs.block_config.DemoConfig.{demo_config}
use Rattle.block_machine.specs.Words.{NotOk, Fine, Content, Instance, Write, Accepted, WriteJob, TookContent, Entry, Ask, Pick, Wrote, Post, Found}
use Rattle.block_machine.specs.Blocks.{instance_at}
use Rattle.block_machine.specs.Steps.{after}
use Rattle.promise_blocks.specs.Counts.{MayCountIn, count_due}
use Rattle.promise_blocks.specs.Payment.{Worn}

-- a write of block 3 of the demo, an immediate one that tries each operation twice, is posted 1 when the device was asked for 7
-- operations
abbrev pub failed_write : List Entry
failed_write = Found [] 0 ∷ Ask 0 (Write 3 (Some (replicate 20 1)) 0) Accepted ∷ Pick 3 WriteJob (TookContent (replicate 20 1) 0) 0 ∷ Post 3 NotOk None 0 7 ∷ []

-- a second one behind it fails likewise, with no further operation
abbrev pub failed_twice : List Entry
failed_twice = failed_write ++ Ask 0 (Write 3 (Some (replicate 20 1)) 0) Accepted ∷ Pick 3 WriteJob (TookContent (replicate 20 1) 0) 7 ∷ Post 3 NotOk None 0 7 ∷ []

-- it is worn out for no number; or for that of the block, 192, from so many operations on, for its urgent jobs or for its others
abbrev pub never_worn : Worn
never_worn operations number urgent = ⊥

abbrev pub worn_from : ℕ → Bool → Worn
worn_from n of operations number urgent = (number ≡ 192) × (urgent ≡ of) × (n ≤ operations)

-- COUNTS
-- block 2 of the demo, whose number is 128
abbrev pub block_2 : Instance
block_2 = record { block = 2; index = 0 }

-- it is written once, and then a second write is picked
abbrev pub picked : ℕ → List Entry
picked ops = Ask 0 (Write 2 (Some (replicate 4 1)) 0) Accepted ∷ Pick 2 WriteJob (TookContent (replicate 4 1) 0) ops ∷ []

abbrev pub found_first : List Entry
found_first = Found [] 0 ∷ picked 0

abbrev pub written_once : List Entry
written_once = Found [] 0 ∷ picked 0 ++ Wrote block_2 (Content (replicate 4 1)) 10 ∷ Post 2 Fine None 0 10 ∷ []

abbrev pub picked_again : List Entry
picked_again = written_once ++ picked 10

-- behind these entries its count may be this one, where the start-up found that one
abbrev pub MayHave : List Entry → ℕ → ℕ → Type 0
MayHave h found count = MayCountIn (instance_at (after demo_config h) block_2) (count_due h (λ n. found) 128) count

-- OPERATIONS AND START-UPS
-- a device of two parts, whose block 2 is of the second one: it was asked for so many operations, was started so often, and
-- counted so many faults of its first part
abbrev pub two_parts : (ops starts faults : ℕ) → DeviceTold
two_parts ops starts faults = record (plain_store []) {
  fixed = record (plain_fixed ((record { 0 = 128 }, 4) ∷ [])) { figures = record no_figures { part = Second } ∷ []; two = true };
  ops = ops;
  starts = starts;
  first = record no_part { faults = faults };
}

-- its operations below this one were of the second part, and no other
abbrev pub second_below : ℕ → Clock
second_below n = record untold { of_second = λ k. k < n }

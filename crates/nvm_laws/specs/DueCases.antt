-- Worked cases: blocks 2 and 3 have priority 0, or block 2 is a standard one, at a device whose records of them have four pages
-- each and which is ready for eight.
use Rattle.std.specs.Prelude.{ℕ, List, [], ◌∷◌, ◌++◌, option_map}
use Rattle.memif.specs.Told.{DeviceTold}
use Rattle.block_machine.specs.nv_base.declared.job.JobStep.TheVariants.{Ended}
use Rattle.block_machine.specs.Words.{Entry, NotOk, Found, FromNowhere, Configuration}
use Rattle.block_machine.specs.Cases.{cap, ok, pick_write, bytes_1, bytes_2, write}
use Rattle.nvm_figures.specs.Cases.{at_rest}
use Rattle.nv_desk_copies.specs.nv_desk.Desk.{DeskState}
use Rattle.job_progress.specs.Hand.{HandState}
use Rattle.nvm_laws.specs.Turns.{hand_in}
use Rattle.nvm_laws.specs.Due.{StackNow}

abbrev pub desk_with : Configuration → List Entry → DeskState
desk_with c entries = record { config = c; cap = cap; entries = entries; prepared = 0 }

-- behind these entries, with the hand that a Pick begins, if a job is in hand
abbrev pub behind : Configuration → List Entry → DeviceTold → StackNow
behind c entries d = record { desk = desk_with c entries; hand = hand_in (desk_with c entries); device = d }

-- the write of block 2 is accepted
abbrev pub accepted : List Entry
accepted = Found [] 0 ∷ ok (write 2 bytes_1) ∷ []

-- that of block 3 behind it
abbrev pub two_accepted : List Entry
two_accepted = accepted ++ ok (write 3 bytes_2) ∷ []

-- the write of block 2 is in hand
abbrev pub in_hand : List Entry
in_hand = accepted ++ pick_write 2 bytes_1 0 ∷ []

-- and that of block 3 waits
abbrev pub one_waits : List Entry
one_waits = in_hand ++ ok (write 3 bytes_2) ∷ []

-- the job in hand is finished, as one that got no content is
abbrev pub ended_hand : HandState → HandState
ended_hand h = record h { step = Ended NotOk FromNowhere }

abbrev pub finished : StackNow → StackNow
finished now = record now { hand = option_map ended_hand now.hand }

-- a device that is ready for so many pages
abbrev pub ready_for : ℕ → DeviceTold
ready_for pages = record (at_rest 0) { ready = pages }

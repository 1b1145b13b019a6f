-- What a stack's calls keep of the traits of its device's operations.
use Rattle.std.specs.Prelude.{◌≡◌, ◌<◌, ◌≤◌, ◌+◌, ℕ, true, false, List, Option}
use Rattle.block_machine.specs.nv_base.Count.{last_count}
use Rattle.memif.specs.Told.{DeviceTold, is_off}
use Rattle.memif.specs.Clock.{Clock, SameClock, Seals, TakesKept}
use Rattle.memif.specs.Calls.{IsSealing, Turns}
use Rattle.memif.specs.declared.answer.DeviceTurn.{DeviceTurn}
use Rattle.ram_blocks.specs.Told.{Told}
use Rattle.nvm_device_laws.specs.Tries.{is_hand_urgent}
use Rattle.nv_desk_copies.specs.nv_desk.Desk.{DeskState, state_of}
use Rattle.job_progress.specs.Hand.{HandState}
use Rattle.job_progress.specs.JobInHand.{IsPaired}
use Rattle.nvm_laws.specs.Halves.{IsHalf}
use Rattle.nvm_laws.specs.AtDevice.{AtDevice}
use Rattle.nvm_laws.specs.declared.turned.Act.{Act}

-- THE SEAL
-- Where the last operation left a switch at its seal, and is none of the first `since`, the switch still goes on there while the
-- power is on.
abbrev pub IsSealedSince : (since : ℕ) → DeviceTold → Clock → Type 0
IsSealedSince since d clock = is_off d ≡ false → (k : ℕ) → since ≤ k → d.ops ≡ k + 1 → d.ops < last_count → clock.was Seals k → IsSealing d

-- it stays so
abbrev pub KeepsSeal : DeviceTold → Clock → DeviceTold → Clock → Type 0
KeepsSeal old clock new clock_new = (since : ℕ) → IsSealedSince since old clock → IsSealedSince since new clock_new

-- through the first half of a turn, which changes at most what is open at the device
abbrev pub FirstHalvesKeepSeal : DeviceTold → Clock → DeviceTold → Clock → Type 0
FirstHalvesKeepSeal old clock new clock_new =
    (act : Act) (desk desk_new : DeskState) (before after : List Told) (hand hand_new : Option HandState)
    → IsHalf act (λ block t. Unit {0}) ⊥ desk desk_new before after new → AtDevice act hand old desk_new hand_new new → IsPaired desk.config (state_of desk) hand old
    → new ≡ record old { slots = new.slots; stand = new.stand; left = new.left; ready = new.ready; wait = new.wait } → SameClock clock clock_new
    → KeepsSeal old clock new clock_new

-- and through the device's turn
abbrev pub DeviceTurnsKeepSeal : DeviceTold → Clock → DeviceTold → Clock → Type 0
DeviceTurnsKeepSeal old clock new clock_new = (answer : DeviceTurn) → Turns answer old clock new clock_new → KeepsSeal old clock new clock_new

-- KEPT PAGES
-- an operation that was made since, and took a page of those that are kept for urgent writes, was made with an immediate job in hand
abbrev pub TakesKeptInHand : DeskState → DeviceTold → DeviceTold → Clock → Type 0
TakesKeptInHand desk old new clock_new = (k : ℕ) → old.ops ≤ k → k < new.ops → clock_new.was TakesKept k → is_hand_urgent desk.config (state_of desk) ≡ true

-- so it is in the device's turn, where the device is at the operation of the job in hand, if one is in hand
abbrev pub DeviceTurnsTakeKept : DeviceTold → Clock → DeviceTold → Clock → Type 0
DeviceTurnsTakeKept old clock new clock_new =
    (answer : DeviceTurn) (desk : DeskState) (hand : Option HandState) → IsPaired desk.config (state_of desk) hand old → Turns answer old clock new clock_new
    → TakesKeptInHand desk old new clock_new

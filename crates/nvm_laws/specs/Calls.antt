-- What the calls of a device keep, beside the job in hand.
use Rattle.std.specs.Prelude.{◌≡◌, ◌≢◌, ◌≤◌, true, false, length, Option, Some, None, IfSome}
use Rattle.block_machine.specs.nv_base.declared.instance.Instance.{Instance}
use Rattle.block_machine.specs.nv_base.declared.job.DeviceOp.{DeviceOp}
use Rattle.block_machine.specs.nv_base.declared.job.JobStep.TheVariants as step
use Rattle.memif.specs.Told.{DeviceTold, is_open, ops_of}
use Rattle.memif.specs.Clock.{Clock}
use Rattle.memif.specs.Calls.{Wish, refusal_of}
use Rattle.memif.specs.declared.answer.DeviceTurn.{DeviceTurn}
use Rattle.block_machine.specs.block_config.Lengths.{lengths_of}
use Rattle.block_machine.specs.block_config.Rules.{IsLegalConfig}
use Rattle.block_machine.specs.Blocks.{job_block}
use Rattle.nv_desk_copies.specs.nv_desk.Desk.{DeskState, state_of}
use Rattle.nv_desk_copies.specs.nv_desk.Sound.{IsPendingJob}
use Rattle.job_progress.specs.Hand.{HandState, with_start}
use Rattle.job_progress.specs.JobInHand.{IsInHand, IsPaired, job_for}
use Rattle.job_progress.specs.Goes.{Names}
use Rattle.nvm_laws.specs.Turns.{wish_for, entry_by, AddsBy, hand_by}
use Rattle.nvm_laws.specs.Keeps.{StaysKept}

-- the start of the operation that the hand names
abbrev pub StartsKeep : Wish → DeviceTold → Clock → DeviceTold → Clock → Type 0
StartsKeep w old clock new clock_new =
    (desk : DeskState) (h : HandState) (op : DeviceOp) (i : Instance) (names : Names desk.config (state_of desk) h op i)
    → h.step ≡ step.Device op i → IsInHand desk.config (state_of desk) h old → w.job ≡ job_for desk.config names.job h.program names.index
    → StaysKept desk (Some h) old clock desk (Some (with_start h)) new clock_new

-- A device that is up, has the configured numbers and no job open takes it: no refusal holds. The job is on a configured
-- block, and what it writes has the block's length.
abbrev pub RefusalsDontCome : Type 0
RefusalsDontCome =
    (desk : DeskState) (h : HandState) (d : DeviceTold) (op : DeviceOp) (i : Instance) (names : Names desk.config (state_of desk) h op i)
    → IsLegalConfig desk.config → IfSome (state_of desk).hand (IsPendingJob desk.config (state_of desk))
    → IfSome (state_of desk).hand (λ j. job_block j ≢ 0) → IfSome (state_of desk).hand (λ j. job_block j ≤ length desk.config.blocks)
    → IsInHand desk.config (state_of desk) h d → d.fixed.numbers ≡ lengths_of desk.config → d.started ≡ true → is_open d.stand ≡ false
    → refusal_of d (wish_for desk.config h names.job names.index).job.number (wish_for desk.config h names.job names.index).length ≡ None

-- a cancel drops the job in hand
abbrev pub CancelsKeep : DeviceTold → Clock → DeviceTold → Clock → Type 0
CancelsKeep old clock new clock_new = (desk : DeskState) (hand : Option HandState) → StaysKept desk hand old clock desk None new clock_new

-- a planned cut leaves it
abbrev pub ArmsKeep : DeviceTold → Clock → DeviceTold → Clock → Type 0
ArmsKeep old clock new clock_new = (desk : DeskState) (hand : Option HandState) → StaysKept desk hand old clock desk hand new clock_new

-- a turn of a device that is up and at the operation of the job in hand, if one is in hand, with the entry that it asks for; the
-- job goes on by what its operation came to
abbrev pub DeviceTurnsKeep : DeviceTurn → DeviceTold → Clock → DeviceTold → Clock → Type 0
DeviceTurnsKeep answer old clock new clock_new =
    (desk desk_new : DeskState) (hand : Option HandState) → old.started ≡ true → IsPaired desk.config (state_of desk) hand old
    → IfSome hand (λ h. h.started ≡ true) → AddsBy (entry_by answer old.stand new.stand (ops_of new)) desk desk_new
    → StaysKept desk hand old clock desk_new (hand_by old.stand new.stand hand) new clock_new

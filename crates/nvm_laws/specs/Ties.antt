-- What ties the parts of the stack.
use Rattle.std.specs.Prelude.{◌≡◌, ◌≤◌, true, IsTrue, Option}
use Rattle.memif.specs.Told.{DeviceTold, ops_of, is_off}
use Rattle.block_machine.specs.block_config.Lengths.{lengths_of}
use Rattle.nv_desk_copies.specs.nv_desk.Desk.{DeskState, state_of}
use Rattle.job_progress.specs.Hand.{HandState}
use Rattle.job_progress.specs.JobInHand.{IsPaired}

-- Behind a start-up that answered Ready: the hand is that of the machine's job and of the device's, no entry tells of more
-- operations than the device was asked for, where the machine is off the device is, and the device's numbers are the
-- configuration's.
pub record IsTied (desk : DeskState) (hand : Option HandState) (d : DeviceTold) : Type 0 where
  pub paired : IsPaired desk.config (state_of desk) hand d
  pub up : d.started ≡ true
  pub started : IsTrue (state_of desk).started
  pub later : (state_of desk).ops ≤ ops_of d
  pub off : (state_of desk).off ≡ true → is_off d ≡ true
  pub numbers : d.fixed.numbers ≡ lengths_of desk.config

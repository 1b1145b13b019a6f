-- What a turn keeps of the traits of its device's operations.
use Rattle.std.proofs.Common.{◌≡◌, Option, subst, ap, arith}
use Rattle.nvm_laws.specs.memif.Told.{DeviceTold}
use Rattle.nvm_laws.specs.memif.Clock.{Clock}
use Rattle.nvm_laws.specs.memif.declared.answer.DeviceTurn.TheVariants as turn
use Rattle.nvm_laws.specs.nv_desk.Desk.{DeskState, state_of}
use Rattle.nvm_laws.specs.job_progress.Hand.{HandState}
use Rattle.nvm_laws.specs.job_progress.JobInHand.{IsPaired}
use Rattle.nvm_laws.specs.declared.turned.Turned.{Turned}
use Rattle.nvm_laws.specs.declared.turned.Turned.TheVariants as turned
use Rattle.nvm_laws.specs.Traits.{KeepsSeal, TakesKeptInHand}
use Rattle.nvm_laws.proofs.Traits.{device_turns_keep_seal, device_turns_take_kept}
use Rattle.nvm_core.specs.OperationStart.{LeavesDevice}
use Rattle.nvm_core.specs.BehindDevice.{TurnsDevice}

-- the first half makes no operation
pub half_takes_none : (desk : DeskState) (old new : DeviceTold) (clock_new : Clock) → LeavesDevice old new → TakesKeptInHand desk old new clock_new
half_takes_none desk old new clock_new leaves k le lt takes = absurd (let ops = ap (λ (d : DeviceTold). d.ops) leaves in omega (arith, ops, le, lt))

module _ (old : DeviceTold) (clock : Clock) (new : DeviceTold) (clock_new : Clock) where
  -- the device's turn, by the stack's answer
  pub device_keeps_seal : (answer : Turned) → TurnsDevice answer old clock new clock_new → KeepsSeal old clock new clock_new
  device_keeps_seal turned.Idle turns = device_turns_keep_seal old clock new clock_new turn.Idle turns
  device_keeps_seal turned.Worked turns = device_turns_keep_seal old clock new clock_new turn.Worked turns
  device_keeps_seal turned.Off turns = device_turns_keep_seal old clock new clock_new turn.Off turns
  device_keeps_seal turned.Picked turns = absurd turns
  device_keeps_seal turned.Posted turns = absurd turns

  device_takes_kept : (desk : DeskState) (hand : Option HandState) → IsPaired desk.config (state_of desk) hand old → (answer : Turned) → TurnsDevice answer old clock new clock_new
      → TakesKeptInHand desk old new clock_new
  device_takes_kept desk hand paired turned.Idle turns = device_turns_take_kept old clock new clock_new turn.Idle desk hand paired turns
  device_takes_kept desk hand paired turned.Worked turns = device_turns_take_kept old clock new clock_new turn.Worked desk hand paired turns
  device_takes_kept desk hand paired turned.Off turns = device_turns_take_kept old clock new clock_new turn.Off desk hand paired turns
  device_takes_kept desk hand paired turned.Picked turns = absurd turns
  device_takes_kept desk hand paired turned.Posted turns = absurd turns

  -- behind a first half that added nothing
  pub turn_takes_kept : (before : DeviceTold) (desk between : DeskState) (hand : Option HandState) → LeavesDevice before old → between ≡ desk → IsPaired between.config (state_of between) hand old
      → (answer : Turned) → TurnsDevice answer old clock new clock_new → TakesKeptInHand desk before new clock_new
  turn_takes_kept before desk between hand leaves same paired answer turns k le lt takes =
      let ops : old.ops ≡ before.ops = ap (λ (d : DeviceTold). d.ops) leaves in
      subst (λ (x : DeskState). TakesKeptInHand x old new clock_new) same (device_takes_kept between hand paired answer turns) k (omega (arith, ops, le)) lt takes

-- A device in memory.
use Rattle.std.specs.Prelude.{◌≡◌, ◌≢◌, ℕ, true, false, List, [], Some, map}
use Rattle.nv_base.specs.declared.instance.DeviceNumber.{DeviceNumber}
use Rattle.memif.specs.declared.answer.DeviceTurn.{DeviceTurn}
use Rattle.memif.specs.declared.answer.DeviceTurn.TheVariants.{Off}
use Rattle.memif.specs.declared.answer.JobResult.TheVariants.{JobOk, JobFailed}
use Rattle.memif.specs.Told.{DeviceTold, Figures, Fixed, First, Ended, no_part, no_slot, is_open, result_of}
use Rattle.memif.specs.Clock.{Clock, untold}

-- each operation takes one turn
abbrev pub plain_figures : Figures
plain_figures = record { part = First; pages = 1; read = 1; write = 1; invalidate = 1; erase = 1 }

-- it has room for any writes, as many as the pages of the greatest flash
abbrev pub plain_fixed : List (DeviceNumber × ℕ) → Fixed
plain_fixed numbers = record { numbers = numbers; figures = map (λ n. plain_figures) numbers; reserve = 262144; own = 0; two = false }

-- not started yet, and each number erased
abbrev pub plain_store : List (DeviceNumber × ℕ) → DeviceTold
plain_store numbers = record {
  fixed = plain_fixed numbers;
  slots = Some (map (λ n. no_slot) numbers);
  tells = true;
  started = false;
  stand = Ended JobOk [];
  switching = false;
  ops = 0;
  starts = 0;
  first = no_part;
  second = no_part;
  left = 0;
  ready = 262144;
  wait = Some 0;
}

-- it has no operation of a flash to tell of
abbrev pub no_clock : Clock
no_clock = untold

-- a turn ends the job that is open, without a fault or a cut
pub record IsPlainTurn (answer : DeviceTurn) (old new : DeviceTold) : Type 0 where
  pub stays_on : answer ≢ Off
  pub ends : is_open new.stand ≡ false
  pub no_fault : new.first ≡ old.first
  pub done : result_of old.stand ≢ JobFailed → result_of new.stand ≢ JobFailed

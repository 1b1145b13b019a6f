-- A turn that asked for a changing operation.
use Rattle.std.specs.Prelude.{IsTrue}
use Rattle.std.proofs.Common.{◌≡◌, ◌≢◌, ◌≤◌, ◌++◌, ◌∷◌, ℕ, false, List, [], Option, Some, refl}
use Rattle.nv_base.specs.Count.{last_count}
use Rattle.nv_base.specs.declared.instance.DeviceNumber.{DeviceNumber}
use Rattle.memif.specs.declared.answer.JobResult.{JobResult}
use Rattle.memif.specs.Told.{First}
use Rattle.memif.specs.Calls.{PartTurns}
use Rattle.memif.specs.Clock.{Ticks}
use Rattle.fls_model.specs.declared.flash.FlashAnswer.{FlashAnswer}
use Rattle.fls_model.specs.declared.flash.FlashAnswer.TheVariants.{Off}
use Rattle.fls_model.specs.Op.{Op, MayLeave}
use Rattle.fls_model.specs.Step.{IsAsked, Leaves}
use Rattle.fls_model.specs.Told.{Told, Change, bytes_now}
use Rattle.fls_jobs.specs.State.{FlsState}
use Rattle.fee_switch_laws.specs.fee_switch.Banks.{BanksState}
use Rattle.promise_device.specs.Making.{Making}
use Rattle.promise_device.specs.Bridge.{is_program}
use Rattle.promise_device.specs.Image.{IsOfLastGeneration, is_of_last_generation}
use Rattle.promise_device.proofs.Readings.{last_generations_compute}
use Rattle.fee_told.specs.fls_told.Device.{asked_ops, flash_part}
use Rattle.fee_told.specs.fls_told.Clock.{Makes, CutsArePossible, TakesKeptPages, change_of, turn_of}
use Rattle.fee_told.specs.fls_told.Parts.{Counts}
use Rattle.fee_told.specs.fls_told.Runs.{HasRun, LeavesSound, KeepsWorn, counts_fault, CountsEachCut}
use Rattle.fee_told.specs.fls_told.Tells.{IsSame, AreTold}
use Rattle.fee_told.proofs.Clocks.{clocks_tick}
use Rattle.fee_told.proofs.Making.{runs_go_on}
use Rattle.fee_told.proofs.Parts.{parts_work}
use Rattle.fee_told.specs.Device.{Device, tells, told_of, clock_of, flash_device}
use Rattle.fee_told.specs.Whole.{CutsKeep, AreStarted}
use Rattle.fee_told.proofs.Whole.{cuts_are_told, told_behind}
use Rattle.fee_told.proofs.Counted.{failure_counted, few_faults, one_later, run_counts, still_counted}
use Rattle.fee_told.proofs.ToldBytes.{before_told, both_left, each_told, told_at}
use Rattle.fee_laws.specs.declared.job.FeeJob.{FeeJob}
use Rattle.fee_laws.specs.Inside.{Parts, device_of}
use Rattle.fee_laws.specs.Turn.{IsOn, Drives}
use Rattle.fee_laws.proofs.Before.{power, holds, copied}

-- behind an operation only a sound image is told
pub are_told : (d e : Device) (xs : List Change) (x : Change) (old new : List ℕ) → e.operations ≡ xs ++ x ∷ [] → AreTold (flash_device d) (flash_device e) old new
    → IsTrue (tells e) × (bytes_now d.flash ≡ Some old) × (bytes_now e.flash ≡ Some new)
are_told d e xs x old new is told = (told_behind e xs x is told.0, told.1, told.2)

module _ (m : Making) (entry : Told) (s : Parts) (listed : List (DeviceNumber × ℕ)) (kept count : ℕ) (on : IsOn m entry s listed kept count) (op : Op) (answer : FlashAnswer) (f : FlsState) (drives : Drives s.fls f) (asked : IsAsked op s.fls.flash answer f.flash) where
  abbrev d : Device
  d = device_of m entry s

  -- what a cut of it leaves
  pub left : (old new : List ℕ) → bytes_now s.fls.flash ≡ Some old → bytes_now f.flash ≡ Some new → MayLeave op old new × Leaves op answer old new
  left old new a b = both_left s.fls.flash.bytes f.flash.bytes op answer old new a b asked.bytes

  pub cuts : CountsEachCut entry f.flash
  cuts = still_counted entry s.fls.flash f.flash answer asked.cause drives.counted on.sound.cuts

  module _ (keeps : CutsKeep op d) where
    are : CutsArePossible op (flash_device d) × LeavesSound op (flash_device d)
    are = cuts_are_told op d (copied m entry s listed kept count on) (holds m entry s listed kept count on) on.sound.device.run.sound keeps

    module _ (b : BanksState) (job : Option FeeJob) (last : JobResult) (given : ℕ) where
      abbrev pub t : Parts
      t = record s { fls = f; banks = b; job = job; last = last; given = given; faults = counts_fault answer s.faults; operations = s.operations ++ change_of op s.fls.flash answer ∷ [] }

      abbrev pub e : Device
      e = device_of m entry t

      makes : Makes op answer (flash_device d) (flash_device e)
      makes = record { reading = refl; entry = refl; asked = asked; operations = refl; worn = λ n. refl }

      pub counts : Counts op answer (flash_device d) (flash_device e)
      counts = record { makes = makes; on = power m entry s listed kept count on; faults = refl; small = on.sound.device.faults }

      pub part_works : answer ≢ Off → PartTurns false (asked_ops (flash_device d)) (asked_ops (flash_device e)) (flash_part (flash_device d)) (flash_part (flash_device e))
      part_works on' = parts_work op answer (flash_device d) (flash_device e) counts on'

      pub ticks : TakesKeptPages op answer (flash_device d) → Ticks First (turn_of answer) (told_of d) (clock_of d) (told_of e) (clock_of e)
      ticks takes = clocks_tick op answer (flash_device d) (flash_device e) on.sound.device.run.alike makes (failure_counted answer s.faults on.sound.device.faults) are.0 takes

      pub run : KeepsWorn op (flash_device d) (flash_device e) → HasRun (flash_device e)
      run worn = runs_go_on op answer (flash_device d) (flash_device e) on.sound.device.run makes refl (run_counts entry f.flash cuts) are.1 worn

      pub same : HasRun (flash_device e) → IsSame (flash_device d) (flash_device e)
      same run' = record { reading = refl; numbers = refl; entry = refl; later = one_later s.operations (change_of op s.fls.flash answer); old = on.sound.device.run.alike; new = run'.alike }

      pub started : HasRun (flash_device e) → AreStarted d e
      started run' = record { same = same run'; making = refl; old = on.started; new = on.started }

      pub faults : e.faults ≤ last_count
      faults = few_faults answer s.faults on.sound.device.faults

      -- whatever it leaves, a worn-out device stays so
      pub worn_by : IsTrue (is_program op) → ((old new : List ℕ) → MayLeave op old new → IsOfLastGeneration m old → IsOfLastGeneration m new) → KeepsWorn op (flash_device d) (flash_device e)
      worn_by program stays n since is = (
        program,
        each_told f.flash.bytes (λ (x : List ℕ). IsTrue (is_of_last_generation m x)) (λ new at.
            (let before = before_told s.fls.flash.bytes f.flash.bytes op answer new asked.bytes at in
            let was = (last_generations_compute m before.0).0 (told_at s.fls.flash.bytes (λ (x : List ℕ). IsTrue (is_of_last_generation m x)) before.0 before.1 (on.sound.device.run.worn n since is).last) in
            (last_generations_compute m new).1 (stays before.0 new (left before.0 new before.1 at).0 was))),
      )

-- Runs that erase or program where that isn't due, or tell nothing of the power.
use Rattle.std.specs.Prelude.{replicate}
use Rattle.std.proofs.Common.{◌≡◌, ◌<◌, ◌++◌, ℕ, true, false, refl, arith}
use Rattle.block_machine.specs.nv_base.Count.{last_count, next_count}
use Rattle.promise_blocks.specs.OverDevice.{HasOffAt}
use Rattle.promise_device.specs.FlashRun.{TellsBytes, WentOff}
use Rattle.promise_device.specs.Wear.{OperationsAreDue}
use Rattle.promise_device.proofs.Readings.{sound_flashes_compute}
use Rattle.promise_run.specs.Promise.{making_of}
use Rattle.promise_run.specs.Cases.{small, image_of, record_of, one, two, erased_with_room, erased_beside_last, erased_when_full, off_untold, programmed_over}

pub not_with_room : OperationsAreDue (making_of small) erased_with_room.flash → ⊥
not_with_room wear =
    let told : TellsBytes erased_with_room.flash = record { first = _; entry = refl; last = _; exit = refl } in
    let never : false ≡ true = wear told ((sound_flashes_compute (making_of small) (image_of 1 (replicate 128 255))).0 refl) in
    cc never

pub not_beside_last : OperationsAreDue (making_of small) erased_beside_last.flash → ⊥
not_beside_last wear =
    let told : TellsBytes erased_beside_last.flash = record { first = _; entry = refl; last = _; exit = refl } in
    let never : false ≡ true = wear told ((sound_flashes_compute (making_of small) (image_of 4294967295 (record_of 77 one ++ record_of 77 two))).0 refl) in
    cc never

pub when_full : OperationsAreDue (making_of small) erased_when_full.flash
when_full told starts = refl

pub not_over_a_record : OperationsAreDue (making_of small) programmed_over.flash → ⊥
not_over_a_record wear =
    let told : TellsBytes programmed_over.flash = record { first = _; entry = refl; last = _; exit = refl } in
    let never : false ≡ true = wear told ((sound_flashes_compute (making_of small) (image_of 1 (record_of 77 one ++ replicate 64 255))).0 refl) in
    cc never

-- the power went off in its one operation, and no entry tells it
pub not_untold : ((k : ℕ) → k < last_count → WentOff off_untold.flash k → HasOffAt off_untold.history (next_count k)) → ⊥
not_untold told = let never : false ≡ true = told 0 (omega arith) (_, refl, refl) in cc never

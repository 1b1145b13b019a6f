-- The flash of a unit comes back with what its history says.
use Rattle.std.proofs.Common.{◌≡◌, ◌*◌, ℕ, Bool, true, refl, sym, ap, subst}
use Rattle.nvm_flash.specs.nv_base.Count.{WereCounted}
use Rattle.nvm_flash.specs.nvm_device_laws.Turn.{TellsSlots}
use Rattle.nvm_flash.specs.promise_blocks.OverDevice.{KeepsOver, KeepsEarly}
use Rattle.nvm_flash.specs.fls_model.Told.{Told}
use Rattle.nvm_flash.specs.promise_device.Making.{Making}
use Rattle.nvm_flash.specs.promise_device.Bridge.{Bridges, reading_of, cuts_of}
use Rattle.nvm_flash.specs.fee_told.Device.{told_of, clock_of}
use Rattle.nvm_flash.specs.fee_core.Tells.{told_clock}
use Rattle.nvm_flash.specs.fee_laws.Made.{part_at}
use Rattle.nvm_flash.proofs.Readings.{sound_starts_compute}
use Rattle.nvm_flash.specs.promise_run.Run.{Course, has_cutter}
use Rattle.nvm_flash.specs.promise_run.Promise.{making_of}
use Rattle.nvm_flash.specs.promise_run.Halves.{beyond_end}
use Rattle.nvm_flash.proofs.Composition.{begins_well, halves_make_the_promise}
use Rattle.nvm_flash.specs.Made.{IsOrigin, IsBack, one_part}
use Rattle.nvm.specs.Closing.{UnitState, Closes, run_of}
use Rattle.nvm.specs.Turned.{HasTurned}
use Rattle.nvm.proofs.UnitMoves.{closed_turns}
use Rattle.nvm_flash.proofs.FirstStart.{told_bridge}

-- by its calls' moves, by what is kept of a history over its device, and until the first operation
pub closes : (inner : Told) (cuts : ℕ) (making : Making) (entry exit : Told) (s : UnitState) → HasTurned s
    → (TellsSlots (told_of s.device) → KeepsOver s.desk.config s.desk.cap s.desk.entries (one_part (part_at entry)) (told_of s.device) (told_clock s.device))
    → ((told_of s.device).tells ≡ true → KeepsEarly s.desk.config s.desk.cap s.desk.entries (told_clock s.device))
    → IsOrigin s.desk.config inner cuts making entry → IsBack s.desk.config inner exit (part_at entry) (told_of s.device) (clock_of s.device) → Closes inner exit s
closes inner cuts making entry exit s turned over early origin back = record {
  geometry = back.geometry;
  no_plan = back.no_plan;
  operations = back.operations;
  turns = λ course end fault.
      closed_turns s turned inner exit back.operations course end (part_at entry) fault refl
      (told_bridge (reading_of (making_of s.desk.config)) inner exit back.operations (part_at entry) s.device back.bridges);
  early = λ course end cutter told.
      begins_well (told_clock s.device) (run_of s inner exit back.operations course end) (part_at entry) (told_of s.device)
      (early (back.bridges.tells told)) (by_course course cutter) told;
  promise = λ told sound course end cutter order refusals off.
      halves_make_the_promise (told_clock s.device) (run_of s inner exit back.operations course end) (one_part (part_at entry)) (told_of s.device)
      (record {
        alone = refl;
        order = order;
        over = over (back.bridges.slots told (sound_starts_compute (making_of s.desk.config) (record { entry = inner; exit = exit; operations = back.operations }) sound));
        refusals = refusals;
        off = (off.0, off.1, subst (λ (k : ℕ). WereCounted off.0 k (told_of s.device).first.planning.unplanned) at_entry off.2);
        came = ap (λ (b : Bool). cuts_of b (told_of s.device)) cutter;
        one = λ block. rw (back.parts (block * 64)) refl;
      })
      (by_course course cutter)
      back.wear;
}
  where
    at_entry : inner.cuts ≡ (part_at entry).planning.unplanned
    at_entry = ap (λ (t : Told). (part_at t).planning.unplanned) (sym origin.over)

    by_course : (course : Course) → has_cutter course ≡ true → Bridges (reading_of (making_of s.desk.config)) (has_cutter course) (record { entry = inner; exit = exit; operations = back.operations }) (part_at entry) (told_of s.device) (beyond_end (told_clock s.device))
    by_course course cutter =
        subst (λ (b : Bool). Bridges (reading_of (making_of s.desk.config)) b (record { entry = inner; exit = exit; operations = back.operations }) (part_at entry) (told_of s.device) (beyond_end (told_clock s.device))) (sym cutter)
        (told_bridge (reading_of (making_of s.desk.config)) inner exit back.operations (part_at entry) s.device back.bridges)

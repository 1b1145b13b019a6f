-- The turns of a switch, from what each kind of step shows.
use Rattle.std.specs.Prelude.{IsTrue}
use Rattle.std.proofs.Common.{◌≡◌, ◌≤◌, ◌+◌, ℕ, Bool, true, false, List, Option, Some, None, refl, sym, ap, subst, arith}
use Rattle.nv_base.specs.Count.{next_count}
use Rattle.nv_base.specs.declared.instance.DeviceNumber.{DeviceNumber}
use Rattle.memif.specs.declared.answer.DeviceTurn.TheVariants as turn
use Rattle.memif.specs.Clock.{Seals as LeavesSeal}
use Rattle.fls_model.specs.declared.flash.FlashAnswer.TheVariants.{Done, Failed, Off}
use Rattle.fls_model.specs.Op.{Op}
use Rattle.fls_model.specs.Step.{IsStep}
use Rattle.fls_model.specs.Told.{Told}
use Rattle.fls_jobs.specs.State.{FlsState}
use Rattle.fee_switch_laws.specs.fee_log.Log.{LogState}
use Rattle.fee_course.specs.declared.course.Course.{Course}
use Rattle.fee_course.specs.declared.course.Course.TheVariants.{Erase, Copy, Head, Gate}
use Rattle.fee_course.specs.Laws.{IsBeforeGate}
use Rattle.fee_switch_laws.specs.fee_switch.Banks.{BanksState, after_answer, left_of}
use Rattle.fee_switch_laws.specs.KeepsRoom.{KeepsRoom}
use Rattle.fee_switch_laws.proofs.RoomSteps.{steps_keep_room, steps_lower}
use Rattle.promise_device.specs.Making.{Making}
use Rattle.promise_device.specs.Traits.{is_such}
use Rattle.fee_told.specs.fls_told.Clock.{TakesKeptPages, change_of}
use Rattle.fee_told.specs.Slots.{Memory}
use Rattle.fee_told.specs.Device.{flash_device}
use Rattle.fee_laws.specs.Inside.{Parts, device_of, memory_of}
use Rattle.fee_laws.specs.Work.{seal_turns}
use Rattle.fee_laws.specs.Turn.{operated, Turned}
use Rattle.fee_laws.specs.Switches.{IsStepping, failed_with, step_op}
use Rattle.fee_laws.proofs.Before.{power}
use Rattle.fee_laws.proofs.Switching.{Cutting, Showing}
use Rattle.fee_laws.proofs.SwitchNearer.{Seals}
use Rattle.fee_laws.proofs.SwitchOn.{went_on}
use Rattle.fee_laws.proofs.SwitchFailed.{failed, failed_is, last_by, given_by}
use Rattle.fee_laws.proofs.SwitchCut.{was_cut}
use Rattle.fee_laws.proofs.SwitchShown.{still_active}
use Rattle.fee_laws.proofs.PageTraits.{seals_by, step_seals, step_takes}

-- behind the head that is done the gate is left, and behind one that failed it is in doubt
done_seals : (c : Course) (made : BanksState) (o : Option Course) → o ≡ (after_answer made c Done).course → seals_by c Done ≡ true → 1 ≤ seal_turns o
done_seals (Erase n) made o path sealed = cc sealed
done_seals (Copy w) made o path sealed = cc sealed
done_seals Head made o path sealed = (let one = ap seal_turns path in omega (arith, one))
done_seals (Gate failed) made o path sealed = cc sealed

failed_seals : (c : Course) (made : BanksState) (o : Option Course) → o ≡ (after_answer made c Failed).course → seals_by c Failed ≡ true → 1 ≤ seal_turns o
failed_seals (Erase n) made o path sealed = cc sealed
failed_seals (Copy w) made o path sealed = cc sealed
failed_seals Head made o path sealed = cc sealed
failed_seals (Gate failed) made o path sealed = (let one = ap seal_turns path in omega (arith, one))

module _ (m : Making) (entry : Told) (s : Parts) (listed : List (DeviceNumber × ℕ)) (kept count : ℕ) (c : Course) (made : BanksState) (f : FlsState) where
  -- it is done
  module _ (is : IsStepping m entry s listed kept count c made Done f) (before : IsBeforeGate c) (op : Op) (step : IsStep op s.fls.flash Done f.flash) (torn : Memory) (cutting : Cutting m entry s listed kept count c made Done f is op step torn) (c' : Course) (flags : List Bool) (log : LogState) where
    abbrev b : BanksState
    b = record s.banks { course = Some c'; log = record s.banks.log { flags = flags }; copies = log }

    pub done_by : op ≡ step_op s.banks c → b ≡ after_answer made c Done → Seals c c' → Showing m entry s listed kept count c made Done f is op step torn cutting b c' refl s.job s.last s.given
        → Turned m entry turn.Worked s (operated op Done f (after_answer made c Done) s) listed kept (next_count count) false
    done_by of path seals showing =
        let room = is.on.sound.room is.on.started (power m entry s listed kept count is.on) in
        let kept' = steps_keep_room m.reserve s.banks made c s.fls.flash f.flash Done is.on.banks is.on.log is.idle is.course room is.makes (λ off. cc off) in
        let one = steps_lower m.reserve s.banks made c s.fls.flash f.flash is.on.banks is.on.log is.idle is.course room before is.makes in
        subst (λ (x : BanksState). Turned m entry turn.Worked s (operated op Done f x s) listed kept (next_count count) false) path
        (went_on m entry s listed kept count c made f is op step torn cutting c' flags log (record {
          seals = seals;
          sealed = λ sealed. done_seals c made b.course (ap (λ (x : BanksState). x.course) path) (step_seals m entry s listed kept count c made Done f is (subst (λ (o : Op). IsTrue (is_such m LeavesSeal (change_of o s.fls.flash Done))) of sealed));
          takes = subst (λ (o : Op). TakesKeptPages o Done (flash_device (device_of m entry s))) (sym of) (step_takes m entry s listed kept count c made Done f is);
          room = subst (KeepsRoom m.reserve) (sym path) kept';
          lower = subst (λ (x : BanksState). left_of x + 1 ≡ left_of s.banks) (sym path) one;
          active = still_active s.banks flags (Some c') log s.banks.active (is.on.sound.works is.on.started).active;
          showing = showing;
        }))

  -- it failed
  module _ (is : IsStepping m entry s listed kept count c made Failed f) (op : Op) (step : IsStep op s.fls.flash Failed f.flash) (torn : Memory) (cutting : Cutting m entry s listed kept count c made Failed f is op step torn) (c' : Course) (flags : List Bool) (log : LogState) where
    abbrev fb : BanksState
    fb = record s.banks { course = Some c'; log = record s.banks.log { flags = flags }; copies = log }

    pub failed_by : op ≡ step_op s.banks c → fb ≡ after_answer made c Failed → Showing m entry s listed kept count c made Failed f is op step torn cutting fb c' refl None (last_by s.job s.last) (given_by s.job s.given)
        → Turned m entry turn.Worked s (failed_with s.job (operated op Failed f (after_answer made c Failed) s)) listed kept (next_count count) false
    failed_by of path showing =
        let room = is.on.sound.room is.on.started (power m entry s listed kept count is.on) in
        let kept' = steps_keep_room m.reserve s.banks made c s.fls.flash f.flash Failed is.on.banks is.on.log is.idle is.course room is.makes (λ off. cc off) in
        subst (λ (x : BanksState). Turned m entry turn.Worked s (failed_with s.job (operated op Failed f x s)) listed kept (next_count count) false) path
        (subst (λ (x : Parts). Turned m entry turn.Worked s x listed kept (next_count count) false) (sym (failed_is s.job (operated op Failed f fb s) refl))
        (failed m entry s listed kept count c made f is op step torn cutting c' flags log (record {
          sealed = λ sealed. failed_seals c made fb.course (ap (λ (x : BanksState). x.course) path) (step_seals m entry s listed kept count c made Failed f is (subst (λ (o : Op). IsTrue (is_such m LeavesSeal (change_of o s.fls.flash Failed))) of sealed));
          takes = subst (λ (o : Op). TakesKeptPages o Failed (flash_device (device_of m entry s))) (sym of) (step_takes m entry s listed kept count c made Failed f is);
          room = subst (KeepsRoom m.reserve) (sym path) kept';
          active = still_active s.banks flags (Some c') log s.banks.active (is.on.sound.works is.on.started).active;
          showing = showing;
        })))

  -- the power went off
  module _ (is : IsStepping m entry s listed kept count c made Off f) (op : Op) (step : IsStep op s.fls.flash Off f.flash) (torn : Memory) (cutting : Cutting m entry s listed kept count c made Off f is op step torn) (log : LogState) where
    pub cut_by : op ≡ step_op s.banks c → record s.banks { copies = log } ≡ after_answer made c Off → torn.old ≡ (memory_of s).old → torn.stand ≡ (memory_of s).stand
        → Turned m entry turn.Off s (operated op Off f (after_answer made c Off) s) listed kept (next_count count) true
    cut_by of path same stands =
        subst (λ (x : BanksState). Turned m entry turn.Off s (operated op Off f x s) listed kept (next_count count) true) path
        (was_cut m entry s listed kept count c made f is op step torn cutting same stands log (subst (λ (o : Op). TakesKeptPages o Off (flash_device (device_of m entry s))) (sym of) (step_takes m entry s listed kept count c made Off f is)))

-- A plan of a power cut.
use Rattle.std.proofs.Common.{◌⊎◌, inl, inr, ◌≤◌, ◌+◌, ℕ, Bool, List, refl, subst, arith}
use Rattle.nv_base.specs.Count.{WereCounted, last_count}
use Rattle.memif.specs.Calls.{ClockStays}
use Rattle.fls_model.specs.Told.{Told, armed}
use Rattle.promise_device.specs.Making.{Making}
use Rattle.fee_told.specs.fls_told.Clock.{MakesNone}
use Rattle.fee_told.specs.fls_told.Runs.{CountsCuts}
use Rattle.fee_told.proofs.Clocks.{clocks_stay}
use Rattle.fee_told.proofs.Making.{runs_stay}
use Rattle.fee_told.specs.Device.{Device, told_of, clock_of, flash_device}
use Rattle.nv_base.specs.declared.instance.DeviceNumber.{DeviceNumber}
use Rattle.fee_told.proofs.Counted.{came_stay, cuts_stay}
use Rattle.fee_laws.specs.Inside.{Parts, device_of, IsDevice, IsSound, ShowsCopies}
use Rattle.fee_laws.proofs.Making.{shown_as}
use Rattle.fee_laws.specs.Parts.{with_plan}
use Rattle.fee_laws.proofs.CallOrder.{finds_on}
use Rattle.fee_laws.specs.CallLaws.{PlansAreSound}
use Rattle.fee_laws.proofs.MadeFor.{still_made}

module _ (m : Making) (entry : Told) (s : Parts) (nth keep : ℕ) where
  abbrev d : Device
  d = device_of m entry s

  abbrev t : Device
  t = device_of m entry (with_plan nth keep s)

  none : MakesNone (flash_device d) (flash_device t)
  none = record { reading = refl; entry = refl; operations = refl; bytes = refl }

  counted : CountsCuts entry d.flash → CountsCuts entry t.flash
  counted cuts n were = cuts n (subst (λ (u : ℕ). WereCounted n entry.planning.unplanned u) (cuts_stay nth keep s.fls.flash.planning) were)

  pub arm_keeps : IsDevice d → IsDevice t
  arm_keeps is = record {
    run = runs_stay (flash_device d) (flash_device t) is.run (record { none = none; bytes = refl; counts = (refl, refl); came = came_stay nth keep s.fls.flash.planning; flash_faults = omega arith; faults = is.run.faults; cuts = counted is.run.cuts; worn = λ n since e. inl e });
    held = λ started. (let h = is.held started in record { behind = h.behind; copied = h.copied; banks = record { started = h.banks.started; alike = h.banks.alike; legal = h.banks.legal; some = h.banks.some; held = h.banks.held }; places = h.places; stand = h.stand; on = h.on; idle = h.idle });
    order = record { bounded = is.order.bounded; fits = is.order.fits; ready = is.order.ready; wait = is.order.wait; second = is.order.second; now = finds_on (told_of d) (told_of t) (clock_of d) (clock_of t) (clocks_stay (flash_device d) (flash_device t) none (λ n. refl)) refl refl refl is.order.now; told = is.order.told };
    faults = is.faults;
  }

  pub arm_stays : IsDevice d → ClockStays (clock_of d) (told_of t) (clock_of t)
  arm_stays is = record { same = clocks_stay (flash_device d) (flash_device t) none (λ n. refl); order = (arm_keeps is).order }

  counts : (s.fls.flash.planning.unplanned + entry.cuts ≤ entry.planning.unplanned + s.fls.flash.cuts) ⊎ (last_count ≤ s.fls.flash.cuts) → ((armed nth keep s.fls.flash).planning.unplanned + entry.cuts ≤ entry.planning.unplanned + s.fls.flash.cuts) ⊎ (last_count ≤ s.fls.flash.cuts)
  counts (inl few) = let same = cuts_stay nth keep s.fls.flash.planning in inl (omega arith)
  counts (inr big) = inr big

  pub plan_keeps : (listed : List (DeviceNumber × ℕ)) (kept count : ℕ) (is_off : Bool) → IsSound m entry s listed kept count is_off → IsSound m entry (with_plan nth keep s) listed kept count is_off
  plan_keeps listed kept count is_off is =
      let was = is.made_for in
      record {
        made_for = still_made m s (with_plan nth keep s) was refl was.bytes (record { geometry = refl; banks = refl; numbers = refl }) was.room was.given was.ended;
        device = arm_keeps is.device;
        rests = λ started. record { job = (is.rests started).job; course = (is.rests started).course };
        works = λ started. (let w = is.works started in record { active = w.active; job = w.job; work = w.work; kept = w.kept; ready = w.ready; switch = w.switch });
        room = is.room;
        copies = λ on told. shown_as s.fls.flash.bytes s.banks.course (λ b c. ShowsCopies m s c b.now) (λ b c. ShowsCopies m (with_plan nth keep s) c b.now) (λ b c shows. record { held = shows.held; copy = shows.copy }) (is.copies on told);
        cuts = record { before = is.cuts.before; since = counts is.cuts.since };
        worn = λ since e. record { passed = (is.worn since e).passed; shut = (is.worn since e).shut };
        seals = is.seals;
        numbers = is.numbers;
        reserve = is.reserve;
        ops = is.ops;
        off = is.off;
      }

pub plans_are_sound : PlansAreSound
plans_are_sound nth keep m entry s listed kept count is_off sound = (plan_keeps m entry s nth keep listed kept count is_off sound, arm_stays m entry s nth keep sound.device)

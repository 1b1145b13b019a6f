-- The calls that aren't turns.
use Rattle.std.specs.Prelude.{IfSome}
use Rattle.std.proofs.Common.{◌≡◌, ◌⊎◌, inl, inr, ◌≤◌, ◌+◌, ℕ, Bool, true, List, [], Option, Some, None, refl, sym, ap, ◌∙◌, subst, arith}
use Rattle.nv_base.specs.Count.{last_count, WereCounted}
use Rattle.nv_base.specs.declared.instance.DeviceNumber.{DeviceNumber}
use Rattle.memif.specs.declared.answer.JobResult.TheVariants.{JobCanceled}
use Rattle.memif.specs.Told.{Slot, no_slot, slot_at, Ended}
use Rattle.memif.specs.Marks.{Keeps, KeepsAll}
use Rattle.memif.specs.Calls.{IsCanceled, ClockStays}
use Rattle.fls_model.specs.Told.{Told, armed, bytes_now}
use Rattle.fls_told.specs.Device.{slot_with}
use Rattle.fls_told.specs.Clock.{MakesNone}
use Rattle.fls_told.specs.Runs.{HasRun, CountsCuts as RunCounts}
use Rattle.fls_told.proofs.Clocks.{clocks_stay}
use Rattle.fls_told.proofs.Making.{runs_stay}
use Rattle.fls_told.proofs.Tells.{tells_keep}
use Rattle.ea_image.specs.Slots.{slot_bytes}
use Rattle.fls_told.proofs.Counted.{came_stay, cuts_stay}
use Rattle.ea_told.specs.declared.job.EaJob.{EaJob}
use Rattle.ea_told.specs.Making.{Making, entry_of, at_entry}
use Rattle.ea_told.specs.Parts.{Parts}
use Rattle.ea_told.specs.Device.{state_at, stand_of, job_leaves, slot_told, slots_in, flash_device, told_of, clock_of}
use Rattle.ea_told.specs.Inside.{IsSound}
use Rattle.ea_told.specs.Calls.{with_plan, canceled}
use Rattle.ea_told.specs.Laws.{PartsCancel, PartsPlan}
use Rattle.ea_told.proofs.Lists.{at_listed}
use Rattle.ea_told.proofs.Order.{order}
use Rattle.ea_told.proofs.Slot.{AreFewer, keeps_same, no_marks}

-- A PLAN
module _ (m : Making) (entry : Told) (s : Parts) (nth keep : ℕ) (sound : IsSound m entry s) where
  abbrev t : Parts
  t = with_plan nth keep s

  none : MakesNone (flash_device m entry s) (flash_device m entry t)
  none = record { reading = refl; entry = refl; operations = refl; bytes = refl }

  counted : RunCounts entry s.fls.flash → RunCounts entry t.fls.flash
  counted cuts n were = cuts n (subst (λ (u : ℕ). WereCounted n entry.planning.unplanned u) (cuts_stay nth keep s.fls.flash.planning) were)

  run_then : HasRun (flash_device m entry t)
  run_then = runs_stay (flash_device m entry s) (flash_device m entry t) sound.run (record { none = none; bytes = refl; counts = (refl, refl); came = came_stay nth keep s.fls.flash.planning; flash_faults = omega arith; faults = sound.run.faults; cuts = counted sound.run.cuts; worn = λ n since e. inl e })

  since : (s.fls.flash.planning.unplanned + entry.cuts ≤ entry.planning.unplanned + s.fls.flash.cuts) ⊎ (last_count ≤ s.fls.flash.cuts) → ((armed nth keep s.fls.flash).planning.unplanned + entry.cuts ≤ entry.planning.unplanned + s.fls.flash.cuts) ⊎ (last_count ≤ s.fls.flash.cuts)
  since (inl few) = let same = cuts_stay nth keep s.fls.flash.planning in inl (omega arith)
  since (inr big) = inr big

  plan_sound : IsSound m entry t
  plan_sound =
      let was = sound.made_for in
      record {
        made_for = record { slots = was.slots; geometry = was.geometry; driver = was.driver; numbers = was.numbers; idle = record { job = was.idle.job; attached = was.idle.attached }; bytes = was.bytes; states = was.states; room = was.room; small = was.small; given = was.given; ended = was.ended };
        run = run_then;
        rests = sound.rests;
        held = sound.held;
        stands = sound.stands;
        job = still_job s.job sound.job;
        work = λ on. still_come s.job (sound.work on);
        cuts = record { before = sound.cuts.before; since = since sound.cuts.since };
        worn = sound.worn;
        faults = sound.faults;
        ops = sound.ops;
        off = sound.off;
      }
    where
      still_job : (o : Option EaJob) → IfSome o (Rattle.ea_told.specs.Inside.IsJob m s) → IfSome o (Rattle.ea_told.specs.Inside.IsJob m t)
      still_job None is = tt
      still_job (Some j) is = record { size = is.size; entry = is.entry; fits = is.fits; step = is.step; begun = is.begun }

      bytes_too : (o : Option (List ℕ)) (j : EaJob) → IfSome o (Rattle.ea_told.specs.Inside.HasComeTo m s j) → IfSome o (Rattle.ea_told.specs.Inside.HasComeTo m t j)
      bytes_too None j is = tt
      bytes_too (Some b) j is = record { come = is.come; doubt = is.doubt }

      still_come : (o : Option EaJob) → IfSome o (λ j. IfSome (bytes_now s.fls.flash) (Rattle.ea_told.specs.Inside.HasComeTo m s j)) → IfSome o (λ j. IfSome (bytes_now s.fls.flash) (Rattle.ea_told.specs.Inside.HasComeTo m t j))
      still_come None is = tt
      still_come (Some j) is = bytes_too (bytes_now s.fls.flash) j is

  plan_stays : ClockStays (clock_of m entry s) (told_of m entry t) (clock_of m entry t)
  plan_stays = record { same = clocks_stay (flash_device m entry s) (flash_device m entry t) none (λ n. refl); order = order m entry t plan_sound }

pub parts_plan : PartsPlan
parts_plan m entry nth keep s sound = record { sound = plan_sound m entry s nth keep sound; stays = plan_stays m entry s nth keep sound }

-- A CANCEL
kept_all : (f f' : ℕ → DeviceNumber × ℕ → Slot) → ((i : ℕ) (x : DeviceNumber × ℕ) → Keeps (f i x) (f' i x)) → (o : Option (ℕ × (DeviceNumber × ℕ))) → Keeps (at_entry no_slot f o) (at_entry no_slot f' o)
kept_all f f' each None = record { settled = refl; doubts = λ h c. c }
kept_all f f' each (Some x) = each x.0 x.1

module _ (m : Making) (entry : Told) (s : Parts) (sound : IsSound m entry s) (started : s.started ≡ true) where
  abbrev u : Parts
  u = canceled s

  none_made : MakesNone (flash_device m entry s) (flash_device m entry u)
  none_made = record { reading = refl; entry = refl; operations = refl; bytes = refl }

  run_still : HasRun (flash_device m entry u)
  run_still = runs_stay (flash_device m entry s) (flash_device m entry u) sound.run (record { none = none_made; bytes = refl; counts = (refl, refl); came = (refl, refl); flash_faults = omega arith; faults = sound.run.faults; cuts = sound.run.cuts; worn = λ n since e. inl e })

  cancel_sound : IsSound m entry u
  cancel_sound =
      let was = sound.made_for in
      record {
        made_for = record { slots = was.slots; geometry = was.geometry; driver = was.driver; numbers = was.numbers; idle = was.idle; bytes = was.bytes; states = was.states; room = was.room; small = was.small; given = omega arith; ended = λ e. cc e };
        run = run_still;
        rests = λ unstarted. refl;
        held = sound.held;
        stands = sound.stands;
        job = tt;
        work = λ on. tt;
        cuts = sound.cuts;
        worn = sound.worn;
        faults = sound.faults;
        ops = sound.ops;
        off = sound.off;
      }

  marks_fewer : (n : ℕ) → AreFewer [] (job_leaves (stand_of s.content s.job s.last s.given) n)
  marks_fewer n = no_marks (job_leaves (stand_of s.content s.job s.last s.given) n)

  abbrev before : List ℕ → ℕ → DeviceNumber × ℕ → Slot
  before bytes i x = slot_told (state_at s.states i).memory (slot_bytes m.geometry bytes i) (job_leaves (stand_of s.content s.job s.last s.given) x.0.0)

  abbrev behind : List ℕ → ℕ → DeviceNumber × ℕ → Slot
  behind bytes i x = slot_told (state_at s.states i).memory (slot_bytes m.geometry bytes i) []

  some_eq : (a b : List ℕ) (o : Option (List ℕ)) → o ≡ Some a → o ≡ Some b → b ≡ a
  some_eq a b o x y = cc (x, y)

  cancel_marks : KeepsAll (told_of m entry s) (told_of m entry u)
  cancel_marks = tells_keep (flash_device m entry s) (flash_device m entry u) (record { reading = refl; numbers = refl; entry = refl; later = omega arith; old = sound.run.alike; new = run_still.alike }) (λ old new are k.
      let one : slot_with (flash_device m entry s) old k ≡ at_entry no_slot (before old) (entry_of m k) = ap (λ (b : Bool). slot_at m.numbers (slots_in m b s.states (stand_of s.content s.job s.last s.given) old) k) started ∙ at_listed no_slot (before old) 0 m.numbers k in
      let two : slot_with (flash_device m entry u) old k ≡ at_entry no_slot (behind old) (entry_of m k) = ap (λ (b : Bool). slot_at m.numbers (slots_in m b s.states (Ended JobCanceled []) old) k) started ∙ at_listed no_slot (behind old) 0 m.numbers k in
      let kept = kept_all (before old) (behind old) (λ i x. keeps_same (state_at s.states i).memory (slot_bytes m.geometry old i) (slot_bytes m.geometry old i) (job_leaves (stand_of s.content s.job s.last s.given) x.0.0) [] (λ w. refl) (marks_fewer x.0.0)) (entry_of m k) in
      subst (λ (b : List ℕ). Keeps (slot_with (flash_device m entry s) old k) (slot_with (flash_device m entry u) b k)) (sym (some_eq old new (bytes_now s.fls.flash) are.1 are.2))
      (subst (λ (x : Slot). Keeps x (slot_with (flash_device m entry u) old k)) (sym one) (subst (λ (x : Slot). Keeps (at_entry no_slot (before old) (entry_of m k)) x) (sym two) kept)))

  cancel_is : IsCanceled (told_of m entry s) (told_of m entry u)
  cancel_is = record { only = refl; marks = cancel_marks; left = omega arith; ready = omega arith }

  cancel_stays : ClockStays (clock_of m entry s) (told_of m entry u) (clock_of m entry u)
  cancel_stays = record { same = clocks_stay (flash_device m entry s) (flash_device m entry u) none_made (λ n. refl); order = order m entry u cancel_sound }

pub parts_cancel : PartsCancel
parts_cancel m entry s sound started = record { sound = cancel_sound m entry s sound started; cancels = cancel_is m entry s sound started; stays = cancel_stays m entry s sound started }

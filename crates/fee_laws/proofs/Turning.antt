-- A turn with a changing operation, from what is known of the device behind it.
use Rattle.std.specs.Prelude.{IsTrue, ◌&&◌}
use Rattle.std.proofs.Common.{◌≡◌, ◌≢◌, ◌⊎◌, inr, ◌≤◌, ◌<◌, ◌+◌, ℕ, Bool, true, false, List, [], Option, Some, None, refl, sym, ap, ◌∙◌, subst, arith}
use Rattle.std.proofs.lemmas.Bool.{le-leb}
use Rattle.nv_base.specs.Count.{Rose, next_count, last_count}
use Rattle.nv_base.specs.declared.instance.DeviceNumber.{DeviceNumber}
use Rattle.memif.specs.declared.answer.DeviceTurn.{DeviceTurn}
use Rattle.memif.specs.declared.answer.DeviceTurn.TheVariants as turn
use Rattle.memif.specs.declared.answer.JobResult.{JobResult}
use Rattle.memif.specs.Clock.{Seals, Ticks}
use Rattle.memif.specs.declared.answer.JobResult.TheVariants.{JobFailed}
use Rattle.memif.specs.Told.{DeviceTold, First, nothing_open}
use Rattle.memif.specs.Marks.{KeepsAll}
use Rattle.memif.specs.Calls.{EndsAs, JobTurns, IsSealing, TurnsReady, is_read}
use Rattle.fls_model.specs.declared.flash.FlashAnswer.{FlashAnswer}
use Rattle.fls_model.specs.declared.flash.FlashAnswer.TheVariants.{Off}
use Rattle.fls_model.specs.Op.{Op}
use Rattle.fls_model.specs.Step.{IsAsked}
use Rattle.fls_model.specs.Told.{Told, Change}
use Rattle.fls_jobs.specs.State.{FlsState}
use Rattle.fee_course.specs.declared.course.Course.{Course}
use Rattle.fee_course.specs.declared.course.Course.TheVariants as course
use Rattle.fee_switch_laws.specs.fee_switch.Banks.{BanksState}
use Rattle.fee_switch_laws.specs.Shown.{phase_shown}
use Rattle.promise_device.specs.Making.{Making}
use Rattle.promise_device.specs.Traits.{is_such}
use Rattle.fee_told.specs.fls_told.Clock.{TakesKeptPages, change_of, turn_of}
use Rattle.fee_told.specs.fls_told.Runs.{counts_fault}
use Rattle.fee_told.proofs.Parts.{parts_cut}
use Rattle.fee_told.specs.Device.{Device, told_of, clock_of, flash_device, is_switching}
use Rattle.fee_told.specs.Figures.{ready_of}
use Rattle.fee_told.specs.Turns.{TakesTurn}
use Rattle.fee_told.specs.Whole.{CutsKeep}
use Rattle.fee_laws.specs.declared.job.FeeJob.{FeeJob}
use Rattle.fee_laws.specs.Inside.{Parts, device_of, mark_of, stand_of, memory_of}
use Rattle.fee_laws.specs.Work.{seal_turns, pages_free}
use Rattle.fee_laws.specs.Turn.{IsOn, Drives, Turned}
use Rattle.fee_laws.proofs.Order.{is_of_first}
use Rattle.fee_laws.proofs.Operation.{counts, part_works, ticks}
use Rattle.fee_laws.proofs.Behind.{t, e, last_is, Facts, order, sound}
use Rattle.nv_base.specs.declared.job.DeviceOp.{DeviceOp}
use Rattle.nv_base.specs.declared.job.DeviceOp.TheVariants.{Read, Write, Invalidate, Erase}

-- a switch at its seal is open
sealed_switching : (c : Option Course) (b : BanksState) (body : List ℕ) → 1 ≤ seal_turns c → is_switching (phase_shown c b body) ≡ true
sealed_switching None b body sealed = absurd (omega (arith, sealed))
sealed_switching (Some (course.Erase n)) b body sealed = absurd (omega (arith, sealed))
sealed_switching (Some (course.Copy w)) b body sealed = absurd (omega (arith, sealed))
sealed_switching (Some course.Head) b body sealed = refl
sealed_switching (Some (course.Gate failed)) b body sealed = refl

-- DONE OR FAILED
module _ (m : Making) (entry : Told) (s : Parts) (listed : List (DeviceNumber × ℕ)) (kept count : ℕ) (on : IsOn m entry s listed kept count) (op : Op) (answer : FlashAnswer) (f : FlsState) (drives : Drives s.fls f) (asked : IsAsked op s.fls.flash answer f.flash) (b : BanksState) (job : Option FeeJob) (last : JobResult) (given : ℕ) where
  abbrev d : Device
  d = device_of m entry s

  abbrev then_parts : Parts
  then_parts = t m entry s listed kept count on op answer f drives asked b job last given

  abbrev then' : Device
  then' = e m entry s listed kept count on op answer f drives asked b job last given

  -- what it did
  pub record HasWorked : Type 0 where
    pub something : nothing_open (told_of d) ≡ false
    pub no_read : is_read (told_of d).stand ≡ false
    pub job_turns : JobTurns First (told_of d).stand (told_of then').stand (told_of d) (told_of then') (clock_of then')
    pub nearer : ((told_of then').left < (told_of d).left) ⊎ Rose s.faults (counts_fault answer s.faults)
    pub ready : TurnsReady (told_of d) (told_of then')
    pub takes : TakesKeptPages op answer (flash_device d)
    pub turn_taken : TakesTurn turn.Worked d then'

  -- an operation that leaves a switch at its seal
  sealing : 1 ≤ seal_turns b.course → IsSealing (told_of then')
  sealing sealed =
      let all : (told_of then').ready ≡ m.reserve = ap (λ (x : Bool). ready_of m.reserve x (pages_free b job)) (le-leb 1 (seal_turns b.course) sealed) in
      record {
        switching = (λ i. on.started i && is_switching (memory_of then_parts).phase) ∙ sealed_switching b.course b _ sealed;
        ready = λ calm. omega (arith, all);
      }

  seals_by : Facts m entry s listed kept count on op answer f drives asked b job last given → (k : ℕ) → (told_of then').ops ≡ k + 1 → (told_of then').ops < last_count → (clock_of then').was Seals k → ((told_of d).ops ≤ k) ⊎ IsSealing (told_of d) → IsSealing (told_of then')
  seals_by facts k ops few (x, at, such) either =
      sealing (facts.seals (subst (λ (y : Change). IsTrue (is_such m Seals y)) (last_is s.operations (change_of op s.fls.flash answer) x k (omega (arith, ops, few)) at) such))

  pub worked : CutsKeep op d → answer ≢ Off → turn_of answer ≡ turn.Worked → f.flash.off ≡ false → Facts m entry s listed kept count on op answer f drives asked b job last given → HasWorked
      → Turned m entry turn.Worked s (t m entry s listed kept count on op answer f drives asked b job last given) listed kept (next_count count) false
  worked keeps not_off works power facts did = record {
    turns = (
      (
        did.something,
        (
          First,
          record {
            only = refl;
            up = on.started;
            of = is_of_first m s.content s.job s.last s.given;
            part = part_works m entry s listed kept count on op answer f drives asked keeps b job last given not_off;
            job = did.job_turns;
            read = λ read. (let none = did.no_read in absurd (let z : true ≡ false = sym read ∙ none in cc z));
            nearer = did.nearer;
            ready = did.ready;
            seals = seals_by facts;
          },
          subst (λ (a : DeviceTurn). Ticks First a (told_of d) (clock_of d) (told_of then') (clock_of then')) works (ticks m entry s listed kept count on op answer f drives asked keeps b job last given did.takes),
        ),
      ),
      order m entry s listed kept count on op answer f drives asked b job last given facts,
    );
    sound = sound m entry s listed kept count on op answer f drives asked b job last given facts false (sym power);
    takes = did.turn_taken;
  }

-- A JOB THAT FAILS
pub fails_as : (op : DeviceOp) (content : List ℕ) (number : ℕ) (old new : DeviceTold) → op ≢ Read → KeepsAll old new → EndsAs (mark_of op content) number JobFailed [] old new
fails_as Read content number old new writes all = absurd (writes refl)
fails_as Write content number old new writes all = (all, refl)
fails_as Invalidate content number old new writes all = (all, refl)
fails_as Erase content number old new writes all = (all, refl)

-- THE POWER WENT OFF
pub was_cut : (m : Making) (entry : Told) (s : Parts) (listed : List (DeviceNumber × ℕ)) (kept count : ℕ) (on : IsOn m entry s listed kept count) (op : Op) (f : FlsState) (drives : Drives s.fls f) (asked : IsAsked op s.fls.flash Off f.flash) (b : BanksState)
    → CutsKeep op (device_of m entry s) → TakesKeptPages op Off (flash_device (device_of m entry s)) → Facts m entry s listed kept count on op Off f drives asked b s.job s.last s.given
    → nothing_open (told_of (device_of m entry s)) ≡ false → is_read (stand_of s.content s.job s.last s.given) ≡ false
    → KeepsAll (told_of (device_of m entry s)) (told_of (e m entry s listed kept count on op Off f drives asked b s.job s.last s.given))
    → Turned m entry turn.Off s (t m entry s listed kept count on op Off f drives asked b s.job s.last s.given) listed kept (next_count count) true
was_cut m entry s listed kept count on op f drives asked b keeps takes facts something no_read marks = record {
  turns = (
    (
      something,
      (
        First,
        inr (
          record {
            only = refl;
            of = is_of_first m s.content s.job s.last s.given;
            part = parts_cut op (flash_device (device_of m entry s)) (flash_device (e m entry s listed kept count on op Off f drives asked b s.job s.last s.given)) (counts m entry s listed kept count on op Off f drives asked keeps b s.job s.last s.given);
            no_read = no_read;
            marks = marks;
          },
          ticks m entry s listed kept count on op Off f drives asked keeps b s.job s.last s.given takes,
        ),
      ),
    ),
    order m entry s listed kept count on op Off f drives asked b s.job s.last s.given facts,
  );
  sound = sound m entry s listed kept count on op Off f drives asked b s.job s.last s.given facts true (sym asked.cause.2);
  takes = tt;
}

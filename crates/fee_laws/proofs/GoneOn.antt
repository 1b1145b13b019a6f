-- The turn in which a record goes on.
use Rattle.std.specs.Prelude.{is_some, nat_le, take, if◌then◌else◌}
use Rattle.std.proofs.Common.{◌≡◌, ◌≢◌, inl, ◌≤◌, ◌<◌, ◌+◌, ℕ, Bool, true, false, List, Option, Some, None, refl, sym, ap, ◌∙◌, subst, arith}
use Rattle.nv_base.specs.Count.{next_count}
use Rattle.nv_base.specs.declared.instance.DeviceNumber.{DeviceNumber}
use Rattle.memif.specs.declared.answer.DeviceTurn.TheVariants as turn
use Rattle.memif.specs.declared.answer.JobResult.TheVariants.{JobFailed}
use Rattle.memif.specs.Told.{DeviceTold, First, Job, Stand, Ended, IfElse}
use Rattle.memif.specs.Calls.{JobTurns, Nearer, TurnsReady, urgent_first}
use Rattle.fls_model.specs.declared.flash.FlashAnswer.TheVariants.{Done}
use Rattle.fls_model.specs.Told.{Told}
use Rattle.fls_jobs.specs.State.{FlsState}
use Rattle.fee_switch_laws.specs.fee_log.Step.{commits}
use Rattle.fee_course.specs.declared.course.Course.{Course}
use Rattle.fee_format.specs.declared.rec_head.RecordKind.{RecordKind}
use Rattle.fee_course.specs.declared.course.Course.TheVariants as course
use Rattle.fee_switch_laws.specs.fee_switch.Banks.{TakesRecord}
use Rattle.promise_device.specs.Making.{Making}
use Rattle.fee_told.specs.Device.{told_of, clock_of}
use Rattle.fee_told.specs.Figures.{Waits, left_of, ready_of}
use Rattle.fee_told.proofs.Figures.{urgent_nears}
use Rattle.fee_laws.specs.declared.job.FeeJob.{FeeJob}
use Rattle.fee_laws.specs.Inside.{Parts, device_of, mark_of, stand_of, fixed_in}
use Rattle.fee_laws.specs.Work.{waits_of, turns_before, seal_turns, is_urgent_job, pages_free}
use Rattle.fee_laws.specs.Turn.{Turned}
use Rattle.fee_laws.specs.Appends.{IsAppending, work_op, after_page, AppendsGoOn}
use Rattle.fee_laws.proofs.Order.{urgent_is}
use Rattle.fee_laws.proofs.Operation.{left}
use Rattle.fee_laws.proofs.Behind.{Facts}
use Rattle.fee_laws.proofs.Taken.{takes_one, job_takes}
use Rattle.fee_laws.proofs.Turning.{worked}
use Rattle.fee_laws.proofs.Tails.{free_on}
use Rattle.fee_laws.proofs.Figures.{free_is}
use Rattle.fee_laws.proofs.Page.{in_work}
use Rattle.fee_laws.proofs.Shown.{mark, something, no_read}
use Rattle.fee_laws.proofs.Kept.{kept_on}
use Rattle.fee_laws.proofs.GoesOn.{b, going, room_on, some_work, at_work_on, w, v, same_switch, jb, job_is, falls, work_then}
use Rattle.fee_laws.proofs.Left.{asked, keeps, run_on, Keeping, behind, keeps_all, copies}
use Rattle.fee_laws.proofs.PageTraits.{record_seals, record_takes}

-- by a test
pub if_else : (x : Bool) (P Q : Type 0) → (x ≡ true → P) → (x ≡ false → Q) → IfElse x P Q
if_else true P Q first second = first refl
if_else false P Q first second = second refl

-- no target is sealed where an append is taken
pub no_seal : (kind : RecordKind) (c : Option Course) → TakesRecord kind c → seal_turns c ≡ 0
no_seal kind None taken = refl
no_seal kind (Some (course.Erase n)) taken = refl
no_seal kind (Some (course.Copy x)) taken = refl
no_seal kind (Some course.Head) taken = absurd taken
no_seal kind (Some (course.Gate failed)) taken = absurd taken

module _ (m : Making) (entry : Told) (s : Parts) (listed : List (DeviceNumber × ℕ)) (kept count : ℕ) (f : FlsState) (is : IsAppending m entry s listed kept count Done f) (goes : commits s.banks.geometry.page s.banks.log.tail ≡ false) where
  abbrev t : Parts
  t = after_page Done f s

  abbrev told_old : DeviceTold
  told_old = told_of (device_of m entry s)

  abbrev told_new : DeviceTold
  told_new = told_of (device_of m entry t)

  keeping : Keeping m entry s listed kept count Done f is s.job s.last s.given
  keeping old new more held leaves left = kept_on m entry s listed kept count is.on is.work is.page goes old new more held leaves left

  places : t.banks.log.places ≡ s.banks.log.places
  places = (going m entry s listed kept count f is goes).places

  -- THE PARTS
  facts : Facts m entry s listed kept count is.on (work_op s) Done f is.drives (asked m entry s listed kept count Done f is) (b m entry s listed kept count f is goes) s.job s.last s.given
  facts = record {
    ends = record { same = record { geometry = refl; banks = refl; numbers = refl }; ended = is.on.sound.made_for.ended; given_few = is.on.sound.made_for.given };
    run = run_on m entry s listed kept count Done f is s.job s.last s.given;
    behind = behind m entry s listed kept count Done f is s.job s.last s.given keeping places refl;
    work = work_then m entry s listed kept count f is goes;
    at_work = at_work_on m entry s listed kept count f is goes;
    shut = λ since worn. (is.on.sound.worn since worn).shut;
    seals = λ sealed. absurd (record_seals m entry s listed kept count Done f is sealed);
    room = λ on. room_on m entry s listed kept count f is goes;
    copies = copies m entry s listed kept count Done f is s.job s.last s.given keeping places refl;
  }

  -- THE TURN
  job_at : s.job ≡ Some (jb m entry s listed kept count f is goes)
  job_at = job_is m entry s listed kept count f is goes

  abbrev at : Option FeeJob → Stand
  at o = stand_of s.content o s.last s.given

  abbrev asks : Job
  asks = record { number = (jb m entry s listed kept count f is goes).number.0; mark = mark_of (jb m entry s listed kept count f is goes).op (take (jb m entry s listed kept count f is goes).length s.content); urgent = (jb m entry s listed kept count f is goes).urgent }

  has_mark : asks.mark ≡ None → ⊥
  has_mark none = let some = mark m entry s listed kept count is.on is.work in cc (some, none)

  falls_at : told_new.left + 1 ≡ told_old.left
  falls_at =
      let fewer = falls m entry s listed kept count f is goes in
      let same = same_switch m entry s listed kept count f is goes in
      subst (λ (o : Option FeeJob). left_of (at o) (v m entry s listed kept count f is goes) + 1 ≡ left_of (at o) (w m entry s listed kept count f is goes)) (sym job_at)
      (job_takes asks (w m entry s listed kept count f is goes) (v m entry s listed kept count f is goes) has_mark (omega (arith, same, fewer)))

  lower : told_new.left < told_old.left
  lower = let one = falls_at in omega (arith, one)

  ready_same : told_old.ready ≤ told_new.ready
  ready_same =
      let free : pages_free t.banks s.job ≡ pages_free s.banks s.job =
      free_is t.banks (some_work m entry s listed kept count f is goes) s.job
      ∙ ap (λ (n : ℕ). if is_some s.banks.active then n else 0) (free_on s.banks.log s.banks.log.tail is.work)
      ∙ sym (free_is s.banks is.work s.job) in
      let same = ap (ready_of m.reserve (nat_le 1 (seal_turns s.banks.course))) free in
      omega (arith, same)

  seal : seal_turns s.banks.course ≡ 0
  seal = let x = in_work m entry s listed kept count is.on is.work in no_seal _ s.banks.course x.taken

  abbrev waits : Waits
  waits = waits_of s.banks s.job

  abbrev waits' : Waits
  waits' = waits_of t.banks s.job

  nearer : waits'.before + waits'.pages < waits.before + waits.pages
  nearer =
      let fewer = falls m entry s listed kept count f is goes in
      let one = ap (turns_before s.banks.log.tail) seal in
      let two = ap (turns_before t.banks.log.tail) seal in
      omega (arith, fewer, one, two)

  urgent_job : urgent_first (fixed_in m) (at s.job) ≡ true → is_urgent_job s.job ≡ true
  urgent_job = subst (λ (o : Option FeeJob). urgent_first (fixed_in m) (at o) ≡ true → is_urgent_job o ≡ true) (sym job_at) (λ is_urgent. sym (urgent_is m asks) ∙ is_urgent)

  still_open : (given : List ℕ) → at s.job ≢ Ended JobFailed given
  still_open = subst (λ (o : Option FeeJob). (given : List ℕ) → at o ≢ Ended JobFailed given) (sym job_at) (λ given same. cc)

  readies : TurnsReady told_old told_new
  readies calm = if_else (urgent_first (fixed_in m) (at s.job)) (Nearer told_old told_new) (told_old.ready ≤ told_new.ready)
      (λ is_urgent before wait. (ready_same, (let near = urgent_nears waits waits' before (urgent_job is_urgent) (urgent_job is_urgent) refl nearer wait in near), still_open))
      (λ calm'. ready_same)

  pub went_on : Turned m entry turn.Worked s t listed kept (next_count count) false
  went_on =
      let called = asked m entry s listed kept count Done f is in
      worked m entry s listed kept count is.on (work_op s) Done f is.drives called (b m entry s listed kept count f is goes) s.job s.last s.given (keeps m entry s listed kept count Done f is) (λ off. cc off) refl called.cause.2 facts (record {
        something = something m entry s listed kept count is.on is.work;
        no_read = no_read m entry s listed kept count is.on is.work;
        job_turns = subst (λ (o : Option FeeJob). JobTurns First (at o) (at o) told_old told_new (clock_of (device_of m entry t))) (sym job_at) (refl, keeps_all m entry s listed kept count Done f is s.job s.last s.given keeping places refl, lower);
        nearer = inl lower;
        ready = readies;
        takes = record_takes m entry s listed kept count Done f is;
        turn_taken = takes_one m entry s t (λ on. on) falls_at;
      })

pub appends_go_on : AppendsGoOn
appends_go_on m entry s listed kept count f is goes = went_on m entry s listed kept count f is goes

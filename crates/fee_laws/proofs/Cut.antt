-- The turn in which the power goes off within a page.
use Rattle.std.specs.Prelude.{nat_lt}
use Rattle.std.proofs.Common.{◌≡◌, inl, ◌≤◌, ℕ, true, List, Some, refl, sym, ap, ◌∙◌, subst, arith}
use Rattle.std.proofs.lemmas.Bool.{cond_both}
use Rattle.nv_base.specs.Count.{next_count}
use Rattle.nv_base.specs.Geometry.{sectors_of_bank}
use Rattle.nv_base.specs.declared.instance.DeviceNumber.{DeviceNumber}
use Rattle.memif.specs.declared.answer.DeviceTurn.TheVariants as turn
use Rattle.memif.specs.Told.{Stand}
use Rattle.memif.specs.Marks.{KeepsAll}
use Rattle.fls_model.specs.declared.flash.FlashAnswer.TheVariants.{Off}
use Rattle.fls_model.specs.Told.{Told, bytes_now}
use Rattle.fls_jobs.specs.State.{FlsState}
use Rattle.fee_image.specs.RecordList.{pages_of_head}
use Rattle.fee_image.specs.declared.place.Place.{Place}
use Rattle.fee_image.specs.Log.{Log, Open as LogOpen, Closed as LogClosed, Writes as LogWrites, Owes as LogOwes, Tail as LogTail}
use Rattle.fee_image.specs.Step.{log_failed, failed_with, log_behind}
use Rattle.fee_image.specs.May.{May}
use Rattle.fee_image.specs.Banks.{Old}
use Rattle.promise_device.specs.Making.{Making, banks_of}
use Rattle.fee_told.specs.Slots.{Memory, IsWorkOf}
use Rattle.fee_told.specs.SlotLaws.{IsHeld, SamePlaces}
use Rattle.fee_told.specs.fls_told.Runs.{HasRun}
use Rattle.fee_told.specs.Device.{Device, told_of, flash_device}
use Rattle.fee_told.specs.Kept.{IsKept, with_log}
use Rattle.fee_told.specs.Figures.{OpenWork}
use Rattle.fee_told.specs.FigureLaws.{IsWork}
use Rattle.fee_told.proofs.Appends.{appends_fail as told_appends_fail, failed_places}
use Rattle.fee_told.proofs.Kept.{none_closed, none_open}
use Rattle.fee_told.proofs.ToldBytes.{before_told}
use Rattle.fee_laws.specs.declared.job.FeeJob.{FeeJob}
use Rattle.fee_laws.specs.Inside.{Parts, device_of, memory_of, stand_of, IsAtWork, HoldsBehind}
use Rattle.fee_laws.specs.Work.{work_of, pages_of_op, pages_of_job}
use Rattle.fee_laws.specs.Turn.{Turned}
use Rattle.fee_laws.specs.Appends.{IsAppending, work_op, after_page, AppendsAreCut}
use Rattle.fee_laws.proofs.Before.{copied, held_before}
use Rattle.fee_laws.proofs.Operation.{left}
use Rattle.fee_laws.proofs.Behind.{Facts, held_torn, torn_keeps}
use Rattle.fee_laws.proofs.Turning.{was_cut as turn_is_cut}
use Rattle.fee_laws.proofs.Figures.{switch_is}
use Rattle.fee_laws.proofs.Page.{h, work_is, a, at_work, log, old_is, appending}
use Rattle.fee_laws.proofs.Shown.{j, open_is, pages, job_of, something, no_read}
use Rattle.fee_laws.proofs.Appended.{pages_few, open_work}
use Rattle.fee_laws.proofs.Left.{asked, keeps, run_on}
use Rattle.fee_laws.proofs.PageTraits.{record_seals, record_takes}

torn_fits : (ns : List (DeviceNumber × ℕ)) (ps : List Place) (p : ℕ) (x : Log) (t : LogTail) → x.tail ≡ t → (stand : Stand) → IsWorkOf ns ps stand (failed_with p x t).tail
torn_fits ns ps p x LogOpen is stand = subst (λ (y : LogTail). IsWorkOf ns ps stand y) (sym is) (none_open ns ps stand)
torn_fits ns ps p x (LogWrites h body done) is stand =
    cond_both (nat_lt done 2) (record x { tail = LogClosed }) (log_behind p x h) (λ (c : Log). IsWorkOf ns ps stand c.tail) (λ e. none_closed ns ps stand) (λ e. none_open ns ps stand)
torn_fits ns ps p x (LogOwes h) is stand = none_closed ns ps stand
torn_fits ns ps p x LogClosed is stand = subst (λ (y : LogTail). IsWorkOf ns ps stand y) (sym is) (none_closed ns ps stand)

module _ (m : Making) (entry : Told) (s : Parts) (listed : List (DeviceNumber × ℕ)) (kept count : ℕ) (f : FlsState) (is : IsAppending m entry s listed kept count Off f) where
  abbrev t : Parts
  t = after_page Off f s

  abbrev e : Device
  e = device_of m entry t

  abbrev was : Log
  was = log m entry s listed kept count is.on is.work

  abbrev k : ℕ
  k = (a m entry s listed kept count is.on is.work).bank

  abbrev torn : Memory
  torn = with_log (memory_of s) k (a m entry s listed kept count is.on is.work).head (log_failed m.geometry.page was) (memory_of s).stand

  abbrev more : May
  more = copied m entry s listed kept count is.on

  went_off : f.flash.off ≡ true
  went_off = (asked m entry s listed kept count Off f is).cause.2

  kept_at : (old new : List ℕ) → bytes_now s.fls.flash ≡ Some old → bytes_now f.flash ≡ Some new → IsHeld (banks_of m) m.numbers old (memory_of s) more → IsKept (banks_of m) m.numbers old new (memory_of s) torn more
  kept_at old new at_old at_new held =
      let both = left m entry s listed kept count is.on (work_op s) Off f is.drives (asked m entry s listed kept count Off f is) old new at_old at_new in
      told_appends_fail (banks_of m) m.numbers old new (memory_of s) more k (a m entry s listed kept count is.on is.work).head was (memory_of s).stand (appending m entry s listed kept count is.on is.work is.page.size old more held new both.0) (inl refl)

  same_places : SamePlaces torn.old (memory_of s).old
  same_places = subst (λ (o : Old). SamePlaces torn.old o) (sym (old_is m entry s listed kept count is.on is.work)) (refl, refl, sym (failed_places m.geometry.page was was.tail))

  abbrev run_then : HasRun (flash_device e)
  run_then = run_on m entry s listed kept count Off f is s.job s.last s.given

  behind : HoldsBehind e
  behind = held_torn m entry s listed kept count is.on (work_op s) Off f is.drives (asked m entry s listed kept count Off f is) t.banks s.job s.last s.given run_then went_off torn same_places refl
      (λ stand. torn_fits m.numbers (log_failed m.geometry.page was).places m.geometry.page was was.tail refl stand) more
      (λ new at told.
      (let before = before_told s.fls.flash.bytes f.flash.bytes (work_op s) Off new (asked m entry s listed kept count Off f is).bytes at in
      (kept_at before.0 new before.1 at (held_before m entry s listed kept count is.on before.0 before.1 told)).held))

  keeps_all : KeepsAll (told_of (device_of m entry s)) (told_of e)
  keeps_all = torn_keeps m entry s listed kept count is.on (work_op s) Off f is.drives (asked m entry s listed kept count Off f is) t.banks s.job s.last s.given run_then torn same_places refl
      (λ old new told n. (kept_at old new told.1 told.2 (held_before m entry s listed kept count is.on old told.1 told.0)).keeps n)

  -- THE PARTS
  abbrev jb : FeeJob
  jb = j m entry s listed kept count is.on is.work

  job_at : s.job ≡ Some jb
  job_at = open_is m entry s listed kept count is.on is.work

  abbrev p : ℕ
  p = s.banks.geometry.page

  abbrev w : OpenWork
  w = work_of m.reserve s.banks s.job

  wanted : pages_of_job p s.job ≡ pages_of_op p jb.op jb.length
  wanted = ap (pages_of_job p) job_at

  pages_now : w.pages ≤ pages_of_op p jb.op jb.length
  pages_now = subst (λ (n : ℕ). w.pages ≤ n) wanted (pages_few p (pages_of_job p s.job) s.banks.log.tail (λ r some.
      (let first = work_is m entry s listed kept count is.on is.work in
      let one : h m entry s listed kept count is.on is.work ≡ r = cc (first, some) in
      let e1 = ap (pages_of_head p) (sym one) ∙ pages m entry s listed kept count is.on is.work ∙ sym wanted in
      let goal : pages_of_head p r ≤ pages_of_job p s.job = omega (arith, e1) in goal)))

  was_at_work : IsAtWork m s
  was_at_work = at_work m entry s listed kept count is.on is.work

  work_then : IsWork m.geometry.page (sectors_of_bank m.geometry m.banks) m.numbers m.reserve (stand_of s.content s.job s.last s.given) w
  work_then =
      open_work m s jb s.banks w job_at (job_of m entry s listed kept count is.on is.work) (record { geometry = is.on.sound.made_for.banks_geometry; shared = is.on.sound.made_for.shared; numbers = is.on.sound.made_for.numbers }) was_at_work.switch
      pages_now (switch_is s.banks is.work m.reserve s.job)

  facts : Facts m entry s listed kept count is.on (work_op s) Off f is.drives (asked m entry s listed kept count Off f is) t.banks s.job s.last s.given
  facts = record {
    ends = record { same = record { geometry = refl; banks = refl; numbers = refl }; ended = is.on.sound.made_for.ended; given_few = is.on.sound.made_for.given };
    run = run_then;
    behind = behind;
    work = work_then;
    at_work = record { active = was_at_work.active; job = was_at_work.job; work = was_at_work.work; kept = was_at_work.kept; ready = was_at_work.ready; switch = was_at_work.switch };
    shut = λ since worn. (is.on.sound.worn since worn).shut;
    seals = λ sealed. absurd (record_seals m entry s listed kept count Off f is sealed);
    room = λ power. (let off = went_off in absurd (cc (off, power)));
    copies = λ power told. (let off = went_off in absurd (cc (off, power)));
  }

  pub was_cut : Turned m entry turn.Off s t listed kept (next_count count) true
  was_cut = turn_is_cut m entry s listed kept count is.on (work_op s) f is.drives (asked m entry s listed kept count Off f is) t.banks (keeps m entry s listed kept count Off f is) (record_takes m entry s listed kept count Off f is) facts (something m entry s listed kept count is.on is.work) (no_read m entry s listed kept count is.on is.work) keeps_all

pub appends_are_cut : AppendsAreCut
appends_are_cut m entry s listed kept count f is = was_cut m entry s listed kept count f is

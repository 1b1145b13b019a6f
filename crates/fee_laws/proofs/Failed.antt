-- The turn in which a page fails, and its job with it.
use Rattle.std.specs.Prelude.{take}
use Rattle.std.proofs.Common.{◌≡◌, inl, inr, ℕ, false, List, [], Option, Some, None, refl, sym, ◌∙◌, subst}
use Rattle.nv_base.specs.Count.{Rose, next_count}
use Rattle.nv_base.specs.declared.instance.DeviceNumber.{DeviceNumber}
use Rattle.memif.specs.declared.answer.DeviceTurn.TheVariants as turn
use Rattle.memif.specs.declared.answer.JobResult.TheVariants.{JobFailed}
use Rattle.memif.specs.Told.{First, Stand, Ended}
use Rattle.memif.specs.Calls.{JobTurns}
use Rattle.fls_model.specs.declared.flash.FlashAnswer.TheVariants.{Failed}
use Rattle.fls_model.specs.Told.{Told}
use Rattle.fls_jobs.specs.State.{FlsState}
use Rattle.fee_switch_laws.specs.fee_log.Step.{after_step}
use Rattle.fee_image.specs.Step.{log_failed}
use Rattle.fee_switch_laws.specs.fee_switch.Banks.{BanksState}
use Rattle.promise_device.specs.Making.{Making}
use Rattle.fee_told.specs.Slots.{Memory}
use Rattle.fee_told.specs.Device.{told_of, clock_of}
use Rattle.fee_told.specs.Kept.{IsKept}
use Rattle.fee_told.proofs.Appends.{appends_fail as told_appends_fail}
use Rattle.fee_told.proofs.Counted.{rose_next}
use Rattle.fee_laws.specs.declared.job.FeeJob.{FeeJob}
use Rattle.fee_laws.specs.Inside.{Parts, device_of, memory_of, stand_of}
use Rattle.fee_laws.specs.Turn.{Turned, ended_as}
use Rattle.fee_laws.specs.Appends.{IsAppending, work_op, after_page, AppendsFail}
use Rattle.fee_laws.proofs.Before.{log_geometry}
use Rattle.fee_laws.proofs.Behind.{Facts}
use Rattle.fee_laws.proofs.Turning.{fails_as, worked}
use Rattle.fee_laws.proofs.Tails.{shown, failed_shown, failed_idle, failed_places}
use Rattle.fee_laws.proofs.Page.{a, log, appending}
use Rattle.fee_laws.proofs.Shown.{after_is, j, open_is, writes, something, no_read}
use Rattle.fee_laws.proofs.Left.{l, asked, keeps, Keeping, behind, keeps_all, copies, facts_ended}
use Rattle.fee_laws.proofs.PageTraits.{record_takes}

module _ (m : Making) (entry : Told) (s : Parts) (listed : List (DeviceNumber × ℕ)) (kept count : ℕ) (f : FlsState) (is : IsAppending m entry s listed kept count Failed f) where
  abbrev b : BanksState
  b = record s.banks { log = after_step s.banks.log Failed }

  abbrev t : Parts
  t = ended_as JobFailed (after_page Failed f s)

  shown_is : shown b.log s.content ≡ log_failed (l m entry s listed kept count Failed f is).page (log m entry s listed kept count is.on is.work)
  shown_is = failed_shown s.banks.log s.banks.log.tail s.content is.work ∙ (λ i. log_failed (log_geometry m entry s listed kept count is.on i).page (log m entry s listed kept count is.on is.work))

  keeping : Keeping m entry s listed kept count Failed f is None JobFailed 0
  keeping old new more held leaves left =
      subst (λ (x : Memory). IsKept (l m entry s listed kept count Failed f is) m.numbers old new (memory_of s) x more)
      (sym (after_is m entry s listed kept count is.on is.work b.log (log_failed (l m entry s listed kept count Failed f is).page (log m entry s listed kept count is.on is.work)) (Ended JobFailed []) shown_is))
      (told_appends_fail (l m entry s listed kept count Failed f is) m.numbers old new (memory_of s) more (a m entry s listed kept count is.on is.work).bank (a m entry s listed kept count is.on is.work).head (log m entry s listed kept count is.on is.work) (Ended JobFailed [])
      (appending m entry s listed kept count is.on is.work is.page.size old more held new leaves) (inr refl))

  places : b.log.places ≡ s.banks.log.places
  places = failed_places s.banks.log s.banks.log.tail is.work

  facts : Facts m entry s listed kept count is.on (work_op s) Failed f is.drives (asked m entry s listed kept count Failed f is) b None JobFailed 0
  facts =
      facts_ended m entry s listed kept count Failed f is JobFailed (λ same. cc) (failed_idle s.banks.log s.banks.log.tail is.work) refl refl refl
      (behind m entry s listed kept count Failed f is None JobFailed 0 keeping places refl) (copies m entry s listed kept count Failed f is None JobFailed 0 keeping places refl)

  -- THE TURN
  abbrev jb : FeeJob
  jb = j m entry s listed kept count is.on is.work

  job_at : s.job ≡ Some jb
  job_at = open_is m entry s listed kept count is.on is.work

  abbrev at : Option FeeJob → Stand
  at o = stand_of s.content o s.last s.given

  rose : Rose s.faults (next_count s.faults)
  rose = rose_next s.faults is.on.sound.device.faults

  pub failed : Turned m entry turn.Worked s t listed kept (next_count count) false
  failed = worked m entry s listed kept count is.on (work_op s) Failed f is.drives (asked m entry s listed kept count Failed f is) b None JobFailed 0 (keeps m entry s listed kept count Failed f is) (λ off. cc off) refl (asked m entry s listed kept count Failed f is).cause.2 facts (record {
    something = something m entry s listed kept count is.on is.work;
    no_read = no_read m entry s listed kept count is.on is.work;
    job_turns =
        (let old = told_of (device_of m entry s) in let new = told_of (device_of m entry t) in
        subst (λ (o : Option FeeJob). JobTurns First (at o) (Ended JobFailed []) old new (clock_of (device_of m entry t))) (sym job_at)
        (fails_as jb.op (take jb.length s.content) jb.number.0 old new (writes m entry s listed kept count is.on is.work) (keeps_all m entry s listed kept count Failed f is None JobFailed 0 keeping places refl), λ failed. inl rose));
    nearer = inr rose;
    ready = λ calm. absurd (calm.faults rose);
    takes = record_takes m entry s listed kept count Failed f is;
    turn_taken = inl rose;
  })

pub appends_fail : AppendsFail
appends_fail m entry s listed kept count f is = failed m entry s listed kept count f is

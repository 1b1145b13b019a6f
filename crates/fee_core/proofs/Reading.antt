-- The read of the open job's number, from what its calls answer.
use Rattle.std.specs.Prelude.{◌&&◌, not, Contains, IsSome, length, take}
use Rattle.std.proofs.Common.{◌≡◌, ◌≤◌, ◌+◌, ℕ, false, List, Some, None, refl, sym, ap, ◌∙◌, subst, arith}
use Rattle.nv_base.specs.Count.{next_count}
use Rattle.nv_base.specs.Geometry.{address_of_page}
use Rattle.nv_base.specs.Pages.{record_pages_of}
use Rattle.nv_base.specs.declared.instance.DeviceNumber.{DeviceNumber}
use Rattle.nv_base.specs.declared.job.DeviceOp.{DeviceOp}
use Rattle.nv_base.specs.declared.job.DeviceOp.TheVariants.{Read}
use Rattle.memif.specs.declared.answer.DeviceTurn.TheVariants as turn
use Rattle.memif.specs.declared.answer.JobResult.TheVariants.{JobOk, JobFailed}
use Rattle.fls_model.specs.declared.flash.FlashAnswer.{FlashAnswer}
use Rattle.fls_model.specs.declared.flash.FlashAnswer.TheVariants.{Done, Failed, Off}
use Rattle.fls_model.specs.Read.{IsRead}
use Rattle.fls_model.specs.Told.{Told}
use Rattle.fls_jobs.specs.State.{FlsState}
use Rattle.fls_jobs.specs.CallOf.{closed_as}
use Rattle.fee_image.specs.declared.place.Place.{Place}
use Rattle.fee_image.specs.declared.place.Place.TheVariants.{Content}
use Rattle.fee_image.specs.Places.{IsWithin}
use Rattle.fee_laws.specs.fee_log.Index.{place_in}
use Rattle.fee_laws.specs.fee_log.Log.{LogState}
use Rattle.promise_device.specs.Making.{Making}
use Rattle.fee_laws.specs.declared.job.FeeJob.{FeeJob}
use Rattle.fee_laws.specs.Inside.{Parts}
use Rattle.fee_laws.specs.Record.{IsJobOf, IsLengthOf}
use Rattle.fee_laws.specs.Turn.{ended_as}
use Rattle.fee_laws.specs.Reads.{IsAsked, IsReading}
use Rattle.fee_laws.proofs.FollowCalled.{reads_follow}
use Rattle.fee_laws.proofs.Read.{contents_are_read, reads_fail}
use Rattle.fee_laws.proofs.SwitchEnded.{is_listed}
use Rattle.fee_core.specs.Whole.{Whole, TurnedTo}
use Rattle.fee_laws.specs.Restarts.{is_before, may_come}
use Rattle.fee_laws.proofs.Restarts.{restarts_stay, count_few}
use Rattle.fee_core.proofs.Standing.{Stands, turned_from}

-- THE CONTENT
size_is : (numbers : List (DeviceNumber × ℕ)) (j : FeeJob) (is : IsJobOf numbers j) → j.op ≡ Read → j.length ≡ is.length
size_is numbers j is op = subst (λ (o : DeviceOp). IsLengthOf o j.length is.length) op is.fits

-- it lies before the end of its log
pub read_within : (numbers : List (DeviceNumber × ℕ)) (log : LogState) (j : FeeJob) (at writes : ℕ) (place : Place) → IsJobOf numbers j → j.op ≡ Read → log.numbers ≡ numbers
    → ((size : ℕ) → Contains log.numbers (j.number, size) → IsWithin log.geometry.page log.end size place) → place ≡ Content at writes → at + record_pages_of j.length log.geometry.page ≤ log.end
read_within numbers log j at writes place is op same within content =
    let listed = subst (λ (ns : List (DeviceNumber × ℕ)). Contains ns (j.number, is.length)) (sym same) (is_listed numbers j.number.0 is.length is.configured) in
    let e = size_is numbers j is op in
    let h = (subst (λ (x : Place). IsWithin log.geometry.page log.end is.length x) content (within is.length listed)).1 in
    subst (λ (n : ℕ). at + record_pages_of n log.geometry.page ≤ log.end) (sym e) h

-- THE ANSWER
-- while the power is on a read that isn't done failed
read_failed : (address : ℕ) (s : Told) (before : List ℕ) (answer : FlashAnswer) (into : List ℕ) (t : Told) → s.off ≡ false → (answer ≡ Done → ⊥) → IsRead address s before answer into t → answer ≡ Failed
read_failed address s before Done into t on never is = absurd (never refl)
read_failed address s before Failed into t on never is = refl
read_failed address s before Off into t on never is = (let off = is.2 in cc (on, off))

-- THE TURN
module _ {m : Making} {entry : Told} {w v : Whole} (at : Stands m entry w v) {j : FeeJob} (job : v.parts.job ≡ Some j) (op : j.op ≡ Read) where
  abbrev s : Parts
  s = w.parts

  pub reading : IsReading m entry s w.numbers w.reserve w.ops j
  reading = record { on = at.on; job = ap (λ (x : Whole). x.parts.job) at.shown ∙ job; op = op }

  module _ (q writes : ℕ) (content : List ℕ) (answer : FlashAnswer) (f : FlsState) where
    pub asked_for : (log : LogState) → IsSome s.banks.active → log ≡ s.banks.log → place_in log.numbers log.places j.number.0 ≡ Content q writes
        → IsRead (address_of_page log.geometry log.banks log.bank (q + 2)) s.fls.flash (take j.length s.content) answer (take j.length content) f.flash
        → f ≡ record s.fls { flash = f.flash; result = closed_as answer } → length content ≡ 4096 → IsAsked s j q writes content answer f
    asked_for log active same place read only room = record {
      place = ap (λ (l : LogState). place_in l.numbers l.places j.number.0) (sym same) ∙ place;
      active = active;
      only = only ∙ (λ i. record s.fls { flash = f.flash; result = sym (ap (λ (x : FlsState). x.result) only) i });
      read = subst (λ (l : LogState). IsRead (address_of_page l.geometry l.banks l.bank (q + 2)) s.fls.flash (take j.length s.content) answer (take j.length content) f.flash) same read;
      room = room;
    }

    pub content_read : IsAsked s j q writes content answer f → answer ≡ Done → TurnedTo m entry turn.Worked v (record w { parts = record s { fls = f; content = content; job = None; last = JobOk; given = j.length } })
    content_read asked e =
        let done = subst (λ (a : FlashAnswer). IsAsked s j q writes content a f) e asked in
        turned_from at refl refl at.up.on (contents_are_read m entry s w.numbers w.reserve w.ops j q writes content f reading done) (reads_follow m entry s w.numbers w.reserve w.ops j q writes content Done f reading done at.up.sound.follows) at.up.sound.wears
        (restarts_stay m entry s w.numbers w.reserve w.ops at.on f.flash.off s.banks.course s.faults (omega arith) (λ e. e) at.up.sound.restarts)

    pub read_fails : IsAsked s j q writes content answer f → (answer ≡ Done → ⊥) → (faults : ℕ) → faults ≡ next_count s.faults → TurnedTo m entry turn.Worked v (record w { parts = ended_as JobFailed (record s { fls = f; content = content; faults = faults }) })
    read_fails asked never faults counted =
        let off = sym (at.on.sound.off at.on.started) in
        let failed = subst (λ (a : FlashAnswer). IsAsked s j q writes content a f) (read_failed _ s.fls.flash (take j.length s.content) answer (take j.length content) f.flash off never asked.read) asked in
        turned_from at (ap (λ (n : ℕ). ended_as JobFailed (record s { fls = f; content = content; faults = n })) counted) refl at.up.on
        (reads_fail m entry s w.numbers w.reserve w.ops j q writes content f reading failed) (reads_follow m entry s w.numbers w.reserve w.ops j q writes content Failed f reading failed at.up.sound.follows) at.up.sound.wears
        (count_few m s.operations s.started (may_come s) ((s.started && not f.flash.off) && is_before s.banks.course) s.starts s.faults at.up.sound.restarts)

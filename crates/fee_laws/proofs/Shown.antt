-- What a device has in memory behind a page.
use Rattle.std.specs.Prelude.{IfSome, IsSome, length, take, ◌&&◌, not, is_none}
use Rattle.std.proofs.Common.{◌≡◌, ◌≢◌, ◌≤◌, ℕ, false, List, Option, Some, None, refl, sym, ap, ◌∙◌, subst, arith}
use Rattle.nv_base.specs.declared.instance.DeviceNumber.{DeviceNumber}
use Rattle.nv_base.specs.declared.job.DeviceOp.{DeviceOp}
use Rattle.nv_base.specs.declared.job.DeviceOp.TheVariants.{Read, Write, Invalidate, Erase}
use Rattle.nv_base.specs.Pages.{record_pages_of}
use Rattle.nv_base.specs.declared.mark.Mark.{Mark}
use Rattle.memif.specs.Told.{more_writes, Stand, is_open, nothing_open}
use Rattle.memif.specs.Calls.{is_read}
use Rattle.fls_model.specs.Told.{Told}
use Rattle.fee_format.specs.declared.rec_head.RecHead.{RecHead}
use Rattle.fee_format.specs.declared.rec_head.RecordKind.{RecordKind}
use Rattle.fee_image.specs.RecordList.{pages_of_head}
use Rattle.fee_image.specs.Log.{Log, Writes as LogWrites}
use Rattle.fee_image.specs.Banks.{OldBank}
use Rattle.fee_switch_laws.specs.fee_log.Log.{LogState}
use Rattle.fee_course.specs.declared.course.Course.{Course}
use Rattle.fee_course.specs.declared.course.Course.TheVariants as course
use Rattle.fee_switch_laws.specs.fee_switch.Banks.{BanksState}
use Rattle.fee_switch_laws.specs.Shown.{old_shown, phase_shown}
use Rattle.fee_switch_laws.specs.fee_log.Log.{work_in}
use Rattle.promise_device.specs.Making.{Making}
use Rattle.fee_told.specs.Slots.{Memory, writes_of, IsWorkOf}
use Rattle.fee_told.specs.Device.{told_of}
use Rattle.fee_told.specs.Kept.{with_log}
use Rattle.fee_image.specs.May.{held_written}
use Rattle.fee_laws.specs.declared.job.FeeJob.{FeeJob}
use Rattle.fee_laws.specs.Inside.{Parts, body_of, device_of, mark_of, stand_of}
use Rattle.fee_laws.specs.Record.{IsJobOf, IsLengthOf, head_of, kind_of}
use Rattle.fee_laws.specs.Work.{pages_of_op}
use Rattle.fee_laws.specs.Turn.{IsOn}
use Rattle.fee_laws.proofs.Heads.{IsAmong, among, mark_is, head_with, not_read}
use Rattle.fee_laws.proofs.Marks.{counted_by}
use Rattle.fee_laws.proofs.Tails.{shown}
use Rattle.fee_laws.proofs.Page.{at_work, h, work_is, in_work, a, active_is, body, mem}

-- another log of the active bank changes no phase
pub same_phase : (c : Option Course) (s : BanksState) (log : LogState) (content : List ℕ) → phase_shown c (record s { log = log }) content ≡ phase_shown c s content
same_phase None s log content = refl
same_phase (Some (course.Erase n)) s log content = refl
same_phase (Some (course.Copy None)) s log content = refl
same_phase (Some (course.Copy (Some w))) s log content = refl
same_phase (Some course.Head) s log content = refl
same_phase (Some (course.Gate failed)) s log content = refl

pub few_by : (op : DeviceOp) (length of : ℕ) → of ≤ 4096 → IsLengthOf op length of → length ≤ 4096
few_by Read length of few fits = omega arith
few_by Write length of few fits = omega arith
few_by Invalidate length of few fits = omega arith
few_by Erase length of few fits = omega arith

pub pages_by : (p : ℕ) (op : DeviceOp) (kind : RecordKind) (number : DeviceNumber) (length of count : ℕ) → kind_of op ≡ Some kind → IsLengthOf op length of → pages_of_head p (head_with kind number length count) ≡ pages_of_op p op length
pages_by p Read kind number length of count writes fits = cc writes
pages_by p Write kind number length of count writes fits = refl
pages_by p Invalidate kind number length of count writes fits = ap (λ (n : ℕ). record_pages_of n p) fits
pages_by p Erase kind number length of count writes fits = ap (λ (n : ℕ). record_pages_of n p) fits

module _ (m : Making) (entry : Told) (s : Parts) (listed : List (DeviceNumber × ℕ)) (kept count : ℕ) (on : IsOn m entry s listed kept count) (work : IsSome (work_in s.banks.log.tail)) where
  -- with another log, and where the jobs stand then
  abbrev pub after : LogState → Stand → Memory
  after log stand = record {
    old = old_shown s.banks.active log (body_of (work_in log.tail) s.content);
    target = s.banks.target;
    phase = phase_shown s.banks.course (record s.banks { log = log }) (body_of (work_in s.banks.copies.tail) s.banks.buffer);
    stand = stand;
  }

  pub after_is : (log : LogState) (x : Log) (stand : Stand) → shown log s.content ≡ x
      → after log stand ≡ with_log (mem m entry s listed kept count on work) (a m entry s listed kept count on work).bank (a m entry s listed kept count on work).head x stand
  after_is log x stand e = λ i. record {
    old = (ap (λ (y : _). old_shown y log (body_of (work_in log.tail) s.content)) (active_is m entry s listed kept count on work) ∙ ap (λ (z : Log). OldBank (a m entry s listed kept count on work).bank (a m entry s listed kept count on work).head z) e) i;
    target = s.banks.target;
    phase = same_phase s.banks.course s.banks log (body_of (work_in s.banks.copies.tail) s.banks.buffer) i;
    stand = stand;
  }

  -- THE JOB
  abbrev pub j : FeeJob
  j = (in_work m entry s listed kept count on work).of

  pub open_is : s.job ≡ Some j
  open_is = (in_work m entry s listed kept count on work).is_open

  pub kind_is : kind_of j.op ≡ Some (h m entry s listed kept count on work).kind
  kind_is = (in_work m entry s listed kept count on work).writes

  pub writes : j.op ≢ Read
  writes = not_read j.op (h m entry s listed kept count on work).kind kind_is

  pub job_of : IsJobOf m.numbers j
  job_of = subst (λ (o : Option FeeJob). IfSome o (IsJobOf m.numbers)) open_is (at_work m entry s listed kept count on work).job

  pub number : IsAmong 0 j.number.0 job_of.length
  number = among 0 m.numbers j.number.0 job_of.length on.sound.made_for.space.lengths job_of.configured

  -- its header is that of the record in work
  pub head_is : h m entry s listed kept count on work ≡ head_of s.banks.log (h m entry s listed kept count on work).kind j
  head_is = (in_work m entry s listed kept count on work).head

  pub few : (h m entry s listed kept count on work).length ≤ length s.content
  few =
      let a : j.length ≤ 4096 = few_by j.op j.length job_of.length number.few job_of.fits in
      let b = ap (λ (r : RecHead). r.length) head_is in
      omega (arith, a, b, on.sound.made_for.room)

  pub content_fits : IfSome (work_in s.banks.log.tail) (λ r. r.length ≤ length s.content)
  content_fits = subst (λ (o : Option RecHead). IfSome o (λ r. r.length ≤ length s.content)) (sym (work_is m entry s listed kept count on work)) few

  pub body_is : body m entry s listed kept count on work ≡ take j.length s.content
  body_is = ap (λ (o : Option RecHead). body_of o s.content) (work_is m entry s listed kept count on work) ∙ ap (λ (r : RecHead). take r.length s.content) head_is

  -- with its mark, where it stands open
  pub mark : mark_of j.op (take j.length s.content) ≡ Some (held_written (h m entry s listed kept count on work) (body m entry s listed kept count on work)).mark
  mark =
      mark_is j.op (h m entry s listed kept count on work).kind j.number j.length (head_of s.banks.log (h m entry s listed kept count on work).kind j).count s.content kind_is
      ∙ (λ i. Some (held_written (sym head_is i) (sym body_is i)).mark)

  abbrev at : Option FeeJob → Stand
  at o = stand_of s.content o s.last s.given

  pub something : nothing_open (told_of (device_of m entry s)) ≡ false
  something = subst (λ (o : Option FeeJob). not (is_open (at o)) && not (told_of (device_of m entry s)).switching ≡ false) (sym open_is) refl

  pub no_read : is_read (at s.job) ≡ false
  no_read = subst (λ (o : Option FeeJob). is_read (at o) ≡ false) (sym open_is) (ap (λ (o : Option Mark). is_none o) mark)

  -- and counts one more than its number has
  pub counted : (h m entry s listed kept count on work).count ≡ more_writes 1 (writes_of m.numbers s.banks.log.places (h m entry s listed kept count on work).number.0)
  counted =
      ap (λ (r : RecHead). r.count) head_is
      ∙ counted_by s.banks.log.numbers m.numbers s.banks.log.places j.number.0 on.sound.made_for.numbers
      ∙ ap (λ (r : RecHead). more_writes 1 (writes_of m.numbers s.banks.log.places r.number.0)) (sym head_is)

  pub work_of_job : (done : ℕ) → IsWorkOf m.numbers s.banks.log.places (stand_of s.content s.job s.last s.given) (LogWrites (h m entry s listed kept count on work) (body m entry s listed kept count on work) done)
  work_of_job done =
      subst (λ (o : Option FeeJob). IsWorkOf m.numbers s.banks.log.places (stand_of s.content o s.last s.given) (LogWrites (h m entry s listed kept count on work) (body m entry s listed kept count on work) done)) (sym open_is)
      (ap (λ (r : RecHead). r.number.0) (sym head_is), mark, counted)

  -- its pages
  pub pages : pages_of_head s.banks.geometry.page (h m entry s listed kept count on work) ≡ pages_of_op s.banks.geometry.page j.op j.length
  pages = ap (λ (r : RecHead). pages_of_head s.banks.geometry.page r) head_is ∙ pages_by s.banks.geometry.page j.op (h m entry s listed kept count on work).kind j.number j.length job_of.length (head_of s.banks.log (h m entry s listed kept count on work).kind j).count kind_is job_of.fits

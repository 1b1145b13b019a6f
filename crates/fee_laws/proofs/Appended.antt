-- The figures and the invariant behind a page.
use Rattle.std.specs.Prelude.{IfSome, length, take, is_some}
use Rattle.std.proofs.Common.{◌≡◌, ◌≤◌, ℕ, List, Option, Some, None, refl, sym, subst, arith, ap}
use Rattle.nv_base.specs.Geometry.{sectors_of_bank}
use Rattle.nv_base.specs.Pages.{record_pages_of}
use Rattle.nv_base.specs.declared.geometry.Geometry.{Geometry}
use Rattle.nv_base.specs.declared.instance.DeviceNumber.{DeviceNumber}
use Rattle.nv_base.specs.declared.job.DeviceOp.{DeviceOp}
use Rattle.nv_base.specs.declared.job.DeviceOp.TheVariants.{Read, Write, Invalidate, Erase}
use Rattle.memif.specs.declared.answer.JobResult.{JobResult}
use Rattle.memif.specs.Told.{Ended}
use Rattle.fee_image.specs.RecordList.{pages_of_head}
use Rattle.fee_format.specs.declared.rec_head.RecHead.{RecHead}
use Rattle.fee_switch_laws.specs.fee_log.declared.tail.Tail.{Tail}
use Rattle.fee_switch_laws.specs.fee_log.declared.tail.Tail.TheVariants.{Open, Writes, Owes, Closed}
use Rattle.fee_switch_laws.specs.fee_log.Log.{work_in}
use Rattle.fee_course.specs.declared.course.Course.{Course}
use Rattle.fee_course.specs.Course.{most_turns}
use Rattle.fee_course.proofs.Turns.{turns_are_few}
use Rattle.fee_switch_laws.specs.fee_switch.Banks.{BanksState, index_of, left_of, left_with}
use Rattle.fee_switch_laws.specs.KeepsRoom.{IsRoomy}
use Rattle.promise_device.specs.Making.{Making}
use Rattle.fee_told.specs.Figures.{OpenWork, FitsMark}
use Rattle.fee_told.specs.FigureLaws.{IsWork, IsOfJob}
use Rattle.fee_laws.specs.declared.job.FeeJob.{FeeJob}
use Rattle.fee_laws.specs.Inside.{Parts, mark_of, stand_of, IsActiveOf, IsAtWork, HasSwitch}
use Rattle.fee_laws.specs.Record.{IsInWork, IsJobOf, IsLengthOf, IsReady}
use Rattle.fee_laws.specs.Work.{work_of, pages_of_op, pages_left, switch_turns}
use Rattle.fee_switch_laws.specs.fee_log.Index.{clear_flags}

-- THE SWITCH
-- it is under way where the banks keep room
pub has_switch : (reserve : ℕ) (b : BanksState) (c : Option Course) → (c ≡ None → b.log.flags ≡ clear_flags b.log.numbers) → IfSome c (IsRoomy reserve b) → HasSwitch b c
has_switch reserve b None clear roomy = clear refl
has_switch reserve b (Some c) clear roomy = (roomy.worn, roomy.going)

-- no flag is set where none is open
pub flags_clear : (b : BanksState) (c : Option Course) → HasSwitch b c → c ≡ None → b.log.flags ≡ clear_flags b.log.numbers
flags_clear b None has e = has
flags_clear b (Some c) has e = cc e

-- no more turns are left than the most of a switch
few_by : (b : BanksState) (c : Option Course) → HasSwitch b c → left_with b c ≤ most_turns b.geometry.page (sectors_of_bank b.geometry b.banks) b.log.numbers
few_by b None has = omega arith
few_by b (Some c) has = turns_are_few b.geometry.page (sectors_of_bank b.geometry b.banks) b.log.numbers b.log.places b.log.flags (index_of b.log.numbers (work_in b.log.tail)) c has.1

pub few_left : (b : BanksState) → HasSwitch b b.course → left_of b ≤ most_turns b.geometry.page (sectors_of_bank b.geometry b.banks) b.log.numbers
few_left b has = few_by b b.course has

-- of banks of this shape
pub record IsShaped (m : Making) (b : BanksState) : Type 0 where
  pub geometry : b.geometry ≡ m.geometry
  pub shared : b.banks ≡ m.banks
  pub numbers : b.log.numbers ≡ m.numbers

pub few_shaped : (m : Making) (b : BanksState) → IsShaped m b → HasSwitch b b.course → left_of b ≤ most_turns m.geometry.page (sectors_of_bank m.geometry m.banks) m.numbers
few_shaped m b shape has = subst (λ (n : ℕ). left_of b ≤ n) (λ i. most_turns (shape.geometry i).page (sectors_of_bank (shape.geometry i) (shape.shared i)) (shape.numbers i)) (few_left b has)

-- without a job, an open switch alone has turns left
resting_few : (reserve n : ℕ) (b : BanksState) (c : Option Course) → left_of b ≤ n → switch_turns reserve b None c ≤ n
resting_few reserve n b None few = omega arith
resting_few reserve n b (Some c) few = omega arith

pub resting_work : (m : Making) (b : BanksState) (result : JobResult) (given : List ℕ) → IsShaped m b → HasSwitch b b.course → IsWork m.geometry.page (sectors_of_bank m.geometry m.banks) m.numbers m.reserve (Ended result given) (work_of m.reserve b None)
resting_work m b result given shape has = record { job = tt; few = resting_few m.reserve (most_turns m.geometry.page (sectors_of_bank m.geometry m.banks) m.numbers) b b.course (few_shaped m b shape has) }

-- THE JOB
-- no more pages are left than its record has
pub pages_few : (p wanted : ℕ) (t : Tail) → ((r : RecHead) → work_in t ≡ Some r → pages_of_head p r ≤ wanted) → pages_left p wanted t ≤ wanted
pages_few p wanted Open fits = omega arith
pages_few p wanted (Writes r done) fits = let few = fits r refl in omega arith
pages_few p wanted (Owes r next) fits = omega arith
pages_few p wanted Closed fits = omega arith

mark_fits : (p number length of : ℕ) (op : DeviceOp) (content : List ℕ) (w : OpenWork) → IsLengthOf op length of → w.pages ≤ pages_of_op p op length → FitsMark p of (mark_of op (take length content)) w
mark_fits p number length of Read content w fits few = tt
mark_fits p number length of Write content w fits few = subst (λ (n : ℕ). w.pages ≤ record_pages_of n p) fits few
mark_fits p number length of Invalidate content w fits few = few
mark_fits p number length of Erase content w fits few = few

pub of_job : (p : ℕ) (numbers : List (DeviceNumber × ℕ)) (content : List ℕ) (j : FeeJob) (last : JobResult) (given : ℕ) (w : OpenWork) → IsJobOf numbers j → w.pages ≤ pages_of_op p j.op j.length
    → IsOfJob p numbers (stand_of content (Some j) last given) w
of_job p numbers content j last given w is few = (is.length, is.configured, mark_fits p j.number.0 j.length is.length j.op content w is.fits few)

-- its work, where no more pages than its record has are left, and the turns of the switch
pub open_work : (m : Making) (s : Parts) (j : FeeJob) (b : BanksState) (w : OpenWork) → s.job ≡ Some j → IsJobOf m.numbers j → IsShaped m b → HasSwitch b b.course → w.pages ≤ pages_of_op b.geometry.page j.op j.length → w.switch ≡ left_of b
    → IsWork m.geometry.page (sectors_of_bank m.geometry m.banks) m.numbers m.reserve (stand_of s.content s.job s.last s.given) w
open_work m s j b w job is shape has pages switch = record {
  job = subst (λ (o : Option FeeJob). IsOfJob m.geometry.page m.numbers (stand_of s.content o s.last s.given) w) (sym job)
      (of_job m.geometry.page m.numbers s.content j s.last s.given w is (subst (λ (g : Geometry). w.pages ≤ pages_of_op g.page j.op j.length) shape.geometry pages));
  few = subst (λ (n : ℕ). n ≤ most_turns m.geometry.page (sectors_of_bank m.geometry m.banks) m.numbers) (sym switch) (few_shaped m b shape has);
}

-- WITHOUT A RECORD IN WORK
pub none_in_work : (b : BanksState) (job : Option FeeJob) (o : Option RecHead) → o ≡ None → IfSome o (IsInWork b job)
none_in_work b job None idle = tt
none_in_work b job (Some h) idle = cc idle

pub idle_at_work : (m : Making) (t : Parts) → work_in t.banks.log.tail ≡ None → IsActiveOf t.banks t.banks.active → IfSome t.job (IsJobOf m.numbers) → IfSome t.job (IsReady t.banks) → HasSwitch t.banks t.banks.course → IsAtWork m t
idle_at_work m t idle active job ready switch = record { active = active; job = job; work = none_in_work t.banks t.job (work_in t.banks.log.tail) idle; kept = λ work calm. (let none = ap (λ (o : Option RecHead). is_some o) idle in absurd (cc (work, none))); ready = ready; switch = switch }

-- The figures of a device with an open switch and no record in work.
use Rattle.std.specs.Prelude.{IfSome, ◌&&◌, is_none, take, if◌then◌else◌}
use Rattle.std.proofs.Common.{◌≡◌, ◌≢◌, ◌≤◌, ◌+◌, ◌-◌, ℕ, Bool, true, false, List, Option, Some, None, refl, sym, ap, ◌∙◌, subst, arith}
use Rattle.nv_base.specs.Geometry.{sectors_of_bank}
use Rattle.nv_base.specs.declared.geometry.Geometry.{Geometry}
use Rattle.nv_base.specs.declared.instance.DeviceNumber.{DeviceNumber}
use Rattle.nv_base.specs.declared.job.DeviceOp.{DeviceOp}
use Rattle.nv_base.specs.declared.job.DeviceOp.TheVariants.{Read, Write, Invalidate, Erase}
use Rattle.nv_base.specs.declared.mark.Mark.{Mark}
use Rattle.memif.specs.declared.answer.JobResult.{JobResult}
use Rattle.fee_switch_laws.specs.fee_log.Log.{LogState, work_in}
use Rattle.fee_course.specs.declared.course.Course.{Course}
use Rattle.fee_course.specs.Course.{most_turns}
use Rattle.fee_switch_laws.specs.fee_switch.Banks.{BanksState, left_of, left_beside}
use Rattle.fee_switch_laws.specs.Space.{free_pages}
use Rattle.promise_device.specs.Making.{Making}
use Rattle.fee_told.specs.Figures.{OpenWork, turns_owed, turns_of, left_of as left_in}
use Rattle.fee_told.specs.FigureLaws.{IsWork, IsOfJob}
use Rattle.fee_laws.specs.declared.job.FeeJob.{FeeJob}
use Rattle.fee_laws.specs.Inside.{mark_of, stand_of, HasSwitch}
use Rattle.fee_laws.specs.Record.{IsJobOf}
use Rattle.fee_laws.specs.Work.{work_of, pages_of_op, pages_of_job, pages_left, pages_free, claimed, turns_beside, switch_turns, begins_next, takes_append, is_waiting, fits_in}
use Rattle.fee_laws.proofs.Appended.{IsShaped, few_shaped, pages_few, of_job}

-- A JOB THAT WAITS
-- it doesn't begin later where no more appends are taken
by_takes : (a b u w f : Bool) → (b ≡ true → a ≡ true) → a && u && w && f ≡ false → b && u && w && f ≡ false
by_takes a false u w f more none = refl
by_takes a true u w f more none = subst (λ (x : Bool). x && u && w && f ≡ false) (more refl) none

pub still_behind : (s : BanksState) (c : Course) (flags : List Bool) (copies : LogState) (j : FeeJob) → (takes_append (Some c) ≡ true → takes_append s.course ≡ true) → begins_next s j ≡ false
    → begins_next (record s { course = Some c; log = record s.log { flags = flags }; copies = copies }) j ≡ false
still_behind s c flags copies j more none = by_takes (takes_append s.course) (takes_append (Some c)) j.urgent (is_waiting s j) (fits_in 0 s j) more none

-- NONE BEGINS
abbrev pub NoneBegins : BanksState → Option FeeJob → Type 0
NoneBegins b job = IfSome job (λ j. begins_next b j ≡ false)

no_claim : (b : BanksState) (job : Option FeeJob) → NoneBegins b job → claimed b job ≡ 0
no_claim b None none = refl
no_claim b (Some j) none = ap (λ (x : Bool). if x then pages_of_op b.geometry.page j.op j.length else 0) none

pub free_none : (b : BanksState) (job : Option FeeJob) → NoneBegins b job → pages_free b job ≡ free_pages b
free_none b job none = let h = no_claim b job none in let goal : free_pages b - claimed b job ≡ free_pages b = omega (arith, h) in goal

-- the open switch takes its own turns then
no_beside : (b : BanksState) (job : Option FeeJob) → NoneBegins b job → turns_beside b job ≡ left_of b
no_beside b None none = refl
no_beside b (Some j) none = ap (λ (x : Bool). if x then left_beside b j.number.0 else left_of b) none

pub switch_none : (reserve : ℕ) (b : BanksState) (job : Option FeeJob) (c : Course) → NoneBegins b job → switch_turns reserve b job (Some c) ≡ left_of b
switch_none reserve b job c none = no_beside b job none

-- THE WORK
pub job_part : (p : ℕ) (numbers : List (DeviceNumber × ℕ)) (content : List ℕ) (job : Option FeeJob) (last : JobResult) (given : ℕ) (w : OpenWork) → IfSome job (IsJobOf numbers) → w.pages ≤ pages_of_job p job
    → IsOfJob p numbers (stand_of content job last given) w
job_part p numbers content None last given w is few = tt
job_part p numbers content (Some j) last given w is few = of_job p numbers content j last given w is few

pub work_none : (m : Making) (content : List ℕ) (b : BanksState) (job : Option FeeJob) (last : JobResult) (given : ℕ) (c : Course) → IsShaped m b → b.course ≡ Some c → work_in b.log.tail ≡ None → HasSwitch b b.course
    → NoneBegins b job → IfSome job (IsJobOf m.numbers)
    → IsWork m.geometry.page (sectors_of_bank m.geometry m.banks) m.numbers m.reserve (stand_of content job last given) (work_of m.reserve b job)
work_none m content b job last given c shape at idle has none is =
    let same : switch_turns m.reserve b job b.course ≡ left_of b = ap (switch_turns m.reserve b job) at ∙ switch_none m.reserve b job c none in
    let pages = pages_few b.geometry.page (pages_of_job b.geometry.page job) b.log.tail (λ r some. cc (idle, some)) in
    record {
      job = job_part m.geometry.page m.numbers content job last given (work_of m.reserve b job) is
          (subst (λ (g : Geometry). pages_left b.geometry.page (pages_of_job b.geometry.page job) b.log.tail ≤ pages_of_job g.page job) shape.geometry pages);
      few = subst (λ (n : ℕ). n ≤ most_turns m.geometry.page (sectors_of_bank m.geometry m.banks) m.numbers) (sym same) (few_shaped m b shape has);
    }

-- LEFT
-- a read alone has no mark
pub no_mark : (op : DeviceOp) (content : List ℕ) → mark_of op content ≡ None → op ≡ Read
no_mark Read content none = refl
no_mark Write content none = cc none
no_mark Invalidate content none = cc none
no_mark Erase content none = cc none

pub has_mark : (op : DeviceOp) (content : List ℕ) → op ≢ Read → is_none (mark_of op content) ≡ false
has_mark Read content writes = absurd (writes refl)
has_mark Write content writes = refl
has_mark Invalidate content writes = refl
has_mark Erase content writes = refl

-- one turn less of the switch is left, and as many pages
turns_alike : (mark : Option Mark) (w v : OpenWork) → v.pages ≡ w.pages → v.owed ≡ w.owed → turns_of mark v ≡ turns_of mark w
turns_alike None w v pages owed = refl
turns_alike (Some mark) w v pages owed = λ i. pages i + turns_owed (owed i)

pub left_falls : (content : List ℕ) (job : Option FeeJob) (last : JobResult) (given : ℕ) (w v : OpenWork) → v.pages ≡ w.pages → v.owed ≡ w.owed → v.switch + 1 ≡ w.switch
    → left_in (stand_of content job last given) v + 1 ≡ left_in (stand_of content job last given) w
left_falls content None last given w v pages owed less = less
left_falls content (Some j) last given w v pages owed less = let same = turns_alike (mark_of j.op (take j.length content)) w v pages owed in omega (arith, same, less)

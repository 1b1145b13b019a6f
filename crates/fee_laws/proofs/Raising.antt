-- By how much the start of a job raises the turns that are left.
use Rattle.std.specs.Prelude.{◌&&◌, not, nat_le, is_some}
use Rattle.std.proofs.Common.{◌≡◌, ◌≤◌, ◌<◌, ◌+◌, ◌-◌, ◌*◌, ℕ, Bool, true, false, if◌then◌else◌, List, Option, Some, None, refl, ap, ◌∙◌, arith}
use Rattle.nv_base.specs.Geometry.{sectors_of_bank}
use Rattle.nv_base.specs.Pages.{record_pages_of}
use Rattle.nv_base.specs.declared.job.DeviceOp.{DeviceOp}
use Rattle.nv_base.specs.declared.job.DeviceOp.TheVariants.{Read, Write, Invalidate, Erase}
use Rattle.nv_base.specs.declared.mark.Mark.{Mark}
use Rattle.memif.specs.Told.{Job, Open, figures_at, most_of, op_of}
use Rattle.memif.specs.Calls.{record_pages}
use Rattle.fee_switch_laws.specs.fee_log.declared.tail.Tail.{Tail}
use Rattle.fee_switch_laws.specs.fee_log.declared.tail.Tail.TheVariants as tail
use Rattle.fee_switch_laws.specs.fee_log.Index.{clear_flags}
use Rattle.fee_switch_laws.specs.fee_log.Log.{IsLogState, work_in}
use Rattle.fee_course.specs.declared.course.Course.{Course}
use Rattle.fee_course.specs.declared.course.Course.TheVariants as course
use Rattle.fee_course.specs.Course.{most_turns}
use Rattle.fee_course.proofs.Turns.{turns_are_few}
use Rattle.fee_switch_laws.specs.fee_switch.Banks.{BanksState, begun_again, left_of as switch_left, left_with, left_beside, index_of}
use Rattle.fee_switch_laws.specs.Space.{free_pages}
use Rattle.fee_switch_laws.proofs.Turns.{left_rises, left_rises_few}
use Rattle.fee_told.specs.Figures.{OpenWork, fixed_for, ready_of, left_of, turns_of, FitsMark}
use Rattle.fee_told.proofs.Figures.{starts_raise, starts_beside}
use Rattle.fee_laws.specs.declared.job.FeeJob.{FeeJob}
use Rattle.fee_laws.specs.Inside.{HasSwitch, mark_of}
use Rattle.fee_laws.specs.Record.{IsJobOf, IsLengthOf}
use Rattle.fee_laws.specs.Work.{work_of, claimed, pages_free, seal_turns, takes_append, pages_of_op, pages_left, switch_turns, begins_next, needs_switch, turns_beside, is_waiting, fits_in}
use Rattle.fee_laws.proofs.Beside.{named}
use Rattle.fee_laws.proofs.Bounds.{copy_among, pages_are}
use Rattle.fee_laws.proofs.SwitchFigures.{no_mark}

-- PAGES
pub left_wanted : (p wanted : ℕ) (t : Tail) → work_in t ≡ None → pages_left p wanted t ≡ wanted
left_wanted p wanted tail.Open idle = refl
left_wanted p wanted (tail.Writes head done) idle = cc idle
left_wanted p wanted (tail.Owes head next) idle = refl
left_wanted p wanted tail.Closed idle = refl

pub fits_mark : (p : ℕ) (op : DeviceOp) (length of : ℕ) (bytes : List ℕ) (w : OpenWork) → IsLengthOf op length of → w.pages ≡ pages_of_op p op length → FitsMark p of (mark_of op bytes) w
fits_mark p Read length of bytes w fits is = tt
fits_mark p Write length of bytes w fits is = let same = ap (λ (k : ℕ). record_pages_of k p) fits in omega arith
fits_mark p Invalidate length of bytes w fits is = omega arith
fits_mark p Erase length of bytes w fits is = omega arith

pub turns_same : (mark : Option Mark) (w : OpenWork) (x : ℕ) → turns_of mark (record w { switch = x }) ≡ turns_of mark w
turns_same None w x = refl
turns_same (Some mark) w x = refl

-- TESTS
second_of : (a b c d : Bool) → a && b && c && d ≡ true → b ≡ true
second_of true true c d e = refl
second_of true false c d e = cc
second_of false b c d e = cc

none_of : (a b c d : Bool) → b ≡ false → a && b && c && d ≡ false
none_of true b c d e = rw e refl
none_of false b c d e = refl

-- a job that isn't urgent claims no pages
pub ready_calm : (reserve : ℕ) (b : BanksState) (job : Option FeeJob) (j : FeeJob) → job ≡ Some j → j.urgent ≡ false
    → ready_of reserve (nat_le 1 (seal_turns b.course)) (pages_free b job) ≡ ready_of reserve (nat_le 1 (seal_turns b.course)) (free_pages b - 0)
ready_calm reserve b job j is calm =
    let none : claimed b (Some j) ≡ 0 = ap (λ (x : Bool). if x then pages_of_op b.geometry.page j.op j.length else 0) (none_of (takes_append b.course) j.urgent (is_waiting b j) (fits_in 0 b j) calm) in
    ap (λ (o : Option FeeJob). ready_of reserve (nat_le 1 (seal_turns b.course)) (pages_free b o)) is ∙ ap (λ (k : ℕ). ready_of reserve (nat_le 1 (seal_turns b.course)) (free_pages b - k)) none

pub writes_pages : (p : ℕ) (op : DeviceOp) (length of : ℕ) → op ≡ Write → IsLengthOf op length of → pages_of_op p op length ≡ record_pages_of of p
writes_pages p Read length of is fits = cc
writes_pages p Write length of is fits = ap (λ (k : ℕ). record_pages_of k p) fits
writes_pages p Invalidate length of is fits = cc
writes_pages p Erase length of is fits = cc

module _ (reserve : ℕ) (b : BanksState) (j : FeeJob) (of : IsJobOf b.log.numbers j) (idle : work_in b.log.tail ≡ None) (going : HasSwitch b b.course) (some : 0 < sectors_of_bank b.geometry b.banks) where
  abbrev p : ℕ
  p = b.geometry.page

  abbrev sectors : ℕ
  sectors = sectors_of_bank b.geometry b.banks

  abbrev pub own : ℕ
  own = most_turns p sectors b.log.numbers

  -- no fewer are left than of the open switch alone
  pub rises : (o : Option Course) → switch_turns reserve b None o ≤ switch_turns reserve b (Some j) o
  rises None = omega arith
  rises (Some c) = rises_by (begins_next b j)
    where
      rises_by : (x : Bool) → switch_left b ≤ (if x then left_beside b j.number.0 else switch_left b)
      rises_by true = left_rises b j.number.0 idle
      rises_by false = omega arith

  abbrev whole : ℕ
  whole = switch_left (begun_again b (course.Erase 0))

  whole_few : whole ≤ own
  whole_few = turns_are_few p sectors b.log.numbers b.log.places (clear_flags b.log.numbers) (index_of b.log.numbers (work_in b.log.tail)) (course.Erase 0) (record { short = some; fitting = tt; few = tt })

  no_need : (op : DeviceOp) (length : ℕ) (x y : Bool) → op ≡ Read → (nat_le 1 (pages_of_op p op length) && x) && y ≡ false
  no_need Read length x y e = refl
  no_need Write length x y e = cc
  no_need Invalidate length x y e = cc
  no_need Erase length x y e = cc

  -- of a switch that is open
  pub base_few : (o : Option Course) → HasSwitch b o → b.course ≡ o → switch_turns reserve b None o ≤ own
  base_few (Some c) has e = (let left = turns_are_few p sectors b.log.numbers b.log.places b.log.flags (index_of b.log.numbers (work_in b.log.tail)) c has.1 in let same : switch_left b ≡ left_with b (Some c) = ap (λ (o : Option Course). left_with b o) e in omega arith)
  base_few None has e = omega arith

  module _ (log : IsLogState b.log) where
    -- what is added to the turns of the switch
    pub record Adds (base now : ℕ) : Type 0 where
      pub more : ℕ
      pub is : now ≡ base + more
      pub most_own : more ≤ own
      pub read : j.op ≡ Read → more ≡ 0

    -- beside a switch the number of a write that begins next is copied anew
    beside_few : left_beside b j.number.0 ≤ switch_left b + (record_pages_of of.length p + 1)
    beside_few = let at = named b.log.numbers j.number.0 of.length of.configured in left_rises_few b at.0 (j.number, of.length) log idle at.1

    beside_by : (x : Bool) → begins_next b j ≡ x → Adds (switch_left b) (if x then left_beside b j.number.0 else switch_left b)
    beside_by true e =
        let write = of.urgent (second_of _ j.urgent (is_waiting b j) _ e) in
        let among = copy_among p b.log.numbers j.number.0 of.length of.configured in
        let low = left_rises b j.number.0 idle in
        let high = beside_few in
        record { more = left_beside b j.number.0 - switch_left b; is = omega (arith, low); most_own = omega (arith, high, among); read = λ read. cc (read, write) }
    beside_by false e = record { more = 0; is = omega arith; most_own = omega arith; read = λ read. refl }

    needs_by : (x : Bool) → needs_switch reserve b (Some j) ≡ x → Adds 0 (if x then whole else 0)
    needs_by true e = record { more = whole; is = omega arith; most_own = whole_few; read = λ read. (let none = no_need j.op j.length (not (is_some (work_in b.log.tail))) (not (fits_in reserve b j)) read in cc (none, e)) }
    needs_by false e = record { more = 0; is = omega arith; most_own = omega arith; read = λ read. refl }

    pub adds : (o : Option Course) → Adds (switch_turns reserve b None o) (switch_turns reserve b (Some j) o)
    adds (Some c) = beside_by (begins_next b j) refl
    adds None = needs_by (needs_switch reserve b (Some j)) refl

    -- THE RAISE
    pub raises : (bytes : List ℕ) → let jb : Job = record { number = j.number.0; mark = mark_of j.op bytes; urgent = j.urgent } in
        let fixed = fixed_for p sectors b.log.numbers reserve in
        (switch_turns reserve b None b.course ≤ left_of (Open jb) (work_of reserve b (Some j)))
        × (left_of (Open jb) (work_of reserve b (Some j)) ≤ switch_turns reserve b None b.course + most_of (figures_at fixed jb.number) (op_of jb.mark))
    raises bytes =
        let jb : Job = record { number = j.number.0; mark = mark_of j.op bytes; urgent = j.urgent } in
        let w = work_of reserve b (Some j) in
        let a = adds b.course in
        let next : OpenWork = record w { switch = a.more } in
        let none : OpenWork = record { pages = 0; owed = false; switch = 0 } in
        let wanted = left_wanted p (pages_of_op p j.op j.length) b.log.tail idle in
        let fit = fits_mark p j.op j.length of.length bytes next of.fits wanted in
        let h = starts_raise p sectors reserve b.log.numbers jb none next (record { job = (of.length, of.configured, fit); few = a.most_own }) (omega arith) (λ e. (let zero = a.read (no_mark j.op bytes e) in omega arith)) in
        let same = turns_same (mark_of j.op bytes) w a.more in
        let is = a.is in
        (omega arith, (let high = h.1 in omega arith))

    -- and beside an open switch
    module _ (low : 16 ≤ p) (bytes : List ℕ) where
      abbrev asked : Job
      asked = record { number = j.number.0; mark = mark_of j.op bytes; urgent = j.urgent }

      abbrev pages : ℕ
      pages = record_pages (fixed_for p sectors b.log.numbers reserve) asked

      own_pages : j.op ≡ Write → pages ≡ record_pages_of of.length p
      own_pages write =
          ap (λ (op : DeviceOp). if is_some (mark_of op bytes) then (figures_at (fixed_for p sectors b.log.numbers reserve) j.number.0).pages else 0) write
          ∙ pages_are p own b.log.numbers j.number.0 of.length of.configured

      copied_anew : (x : Bool) → begins_next b j ≡ x → (if x then left_beside b j.number.0 else switch_left b) ≤ switch_left b + (if j.urgent then pages + 1 else 0)
      copied_anew true begins =
          let urgent = second_of _ j.urgent (is_waiting b j) _ begins in
          let same = own_pages (of.urgent urgent) in
          let high = beside_few in
          let all = ap (λ (x : Bool). if x then pages + 1 else 0) urgent in
          omega (arith, same, high, all)
      copied_anew false none = omega arith

      pub raises_beside : (c : Course) → b.course ≡ Some c → left_of (Open asked) (work_of reserve b (Some j)) ≤ switch_turns reserve b None b.course + (if j.urgent then 2 else 1) * (pages + 1)
      raises_beside c is =
          let w = work_of reserve b (Some j) in
          let before : OpenWork = record { pages = 0; owed = false; switch = switch_turns reserve b None b.course } in
          let wanted = left_wanted p (pages_of_op p j.op j.length) b.log.tail idle in
          let fit = fits_mark p j.op j.length of.length bytes w of.fits wanted in
          let then_is : w.switch ≡ turns_beside b (Some j) = ap (switch_turns reserve b (Some j)) is in
          let was_is : switch_turns reserve b None b.course ≡ switch_left b = ap (switch_turns reserve b None) is in
          let anew = copied_anew (begins_next b j) refl in
          starts_beside p sectors reserve b.log.numbers asked before w (omega (arith, low)) (of.length, of.configured, fit) (omega (arith, then_is, was_is, anew))

-- What lies behind the end of a log's records in the bytes, and the pages and the turns of an open job.
use Rattle.std.specs.Prelude.{◌&&◌, is_none, unwrap_or, if◌then◌else◌}
use Rattle.std.specs.Option.{option_map_or}
use Rattle.std.proofs.Common.{◌≡◌, ◌≢◌, ◌⊎◌, inl, inr, ◌≤◌, ◌+◌, ◌-◌, ℕ, suc, Bool, true, false, List, Option, Some, None, refl, sym, ap, ◌∙◌, arith}
use Rattle.std.proofs.lemmas.Bool.{le-leb}
use Rattle.nv_base.specs.Pages.{record_pages_of}
use Rattle.nv_base.specs.declared.job.DeviceOp.{DeviceOp}
use Rattle.nv_base.specs.declared.job.DeviceOp.TheVariants.{Read, Write, Invalidate, Erase}
use Rattle.nv_base.specs.declared.mark.Mark.{Mark}
use Rattle.memif.specs.Told.{length_of}
use Rattle.fee_format.specs.declared.rec_head.RecHead.{RecHead}
use Rattle.fee_image.specs.Bank.{Bank, page_of}
use Rattle.fee_image.specs.RecordList.{IsLog, IsClosed, end_of, pages_of_head, free_pages_of}
use Rattle.fee_image.specs.Append.{Staged}
use Rattle.fee_image.specs.Log.{HasTail}
use Rattle.fee_image.specs.May.{May}
use Rattle.fee_image.proofs.Appends.{appends_leave_one_more, stops_behind}
use Rattle.fee_image.proofs.Records.{logs_compute}
use Rattle.fee_switch_laws.specs.fee_log.declared.tail.Tail.{Tail}
use Rattle.fee_switch_laws.specs.fee_log.declared.tail.Tail.TheVariants as tail
use Rattle.fee_switch_laws.specs.fee_log.Log.{work_in, is_closed, free_behind, tail_with, pages_with}
use Rattle.fee_switch_laws.specs.Space.{has_room}
use Rattle.promise_device.specs.Making.{Making}
use Rattle.promise_device.specs.Room.{mark_pages}
use Rattle.fee_told.specs.Figures.{OpenWork, turns_of, turns_owed}
use Rattle.fee_laws.specs.Inside.{mark_of}
use Rattle.fee_laws.specs.Record.{IsLengthOf}
use Rattle.fee_laws.specs.Work.{pages_of_op, is_owed}
use Rattle.fee_laws.proofs.FollowKnown.{no_header}

-- THE PAGES
-- no gate is owed, and what is free in memory, beside the record in work, is no less than lies behind the log's end
pub record IsFree (b : Bank) (bytes : List ℕ) (t : Tail) (free : ℕ) : Type 0 where
  pub paid : is_owed t ≡ false
  pub least : b.pages ≤ end_of b bytes + (free + pages_with b.page (work_in t))

-- where the log's records end in the bytes, by its tail
module _ (b : Bank) (bytes : List ℕ) (may : May) (big : 16 ≤ b.page) (end : ℕ) (body : List ℕ) (high : end ≤ b.pages) where
  -- where a record is in work
  ends_by : (records : List _) (h : RecHead) (content : List ℕ) (done : ℕ) → Staged b bytes records end h content done → suc done ≤ pages_of_head b.page h → (end ≡ end_of b bytes) ⊎ (end + pages_of_head b.page h ≡ end_of b bytes)
  ends_by records h content done staged left = elim (appends_leave_one_more b bytes bytes records end h content done big staged left (λ q inside other. refl)) [
    | inl none ↦ inl ((logs_compute b bytes records end).0 none.1).1
    | inr more ↦ inr ((logs_compute b bytes _ (end + pages_of_head b.page h)).0 more.log).1
  ]

  -- and where a gate is owed
  ends_owing : (records : List _) (h : RecHead) (content : List ℕ) → Staged b bytes records end h content 1 → end ≡ end_of b bytes
  ends_owing records h content staged =
      let log : IsLog b bytes records end = record { walk = staged.front; stop = stops_behind b bytes end big (λ inside. staged.blank (end + 1) (omega arith) inside) } in
      ((logs_compute b bytes records end).0 log).1

  -- no more is free in memory than lies behind that end
  pub most_free : (t : Tail) → HasTail b bytes may end (tail_with t body) → free_behind b.page b.pages end t ≤ b.pages - end_of b bytes
  most_free tail.Open open' = (let is = open'.is_end in omega (arith, is))
  most_free (tail.Writes h done) at = elim (ends_by at.records h body done at.staged at.left) [ inl is ↦ omega (arith, is) | inr is ↦ omega (arith, is) ]
  most_free (tail.Owes h next) at = (let is = ends_owing at.records h at.body at.staged in omega (arith, is))
  most_free tail.Closed at = omega arith

  -- and no less, where the bank isn't closed in the bytes
  pub least_free : (t : Tail) → HasTail b bytes may end (tail_with t body) → is_closed t ≡ false → IsClosed b bytes (end_of b bytes) ⊎ IsFree b bytes t (free_behind b.page b.pages end t)
  least_free tail.Open open' wide = (let is = open'.is_end in inr (record { paid = refl; least = omega (arith, is) }))
  least_free (tail.Writes h done) at wide =
      let room = at.staged.room in
      inr (record { paid = refl; least = elim (ends_by at.records h body done at.staged at.left) [ inl is ↦ omega (arith, is, room) | inr is ↦ omega (arith, is, room) ] })
  least_free (tail.Owes h next) at wide =
      let is = ends_owing at.records h at.body at.staged in
      let start : end + 0 ≡ end = omega arith in
      let room = at.staged.room in
      let written = at.staged.written 0 (omega arith) in
      inl (inr (λ blank. no_header b.page _ (omega (arith, big)) (sym written ∙ ap (page_of b bytes) start ∙ blank end (omega (arith, is)) (omega (arith, room)))))
  least_free tail.Closed at wide = cc wide

pub few_free : (pages end : ℕ) (shut : Bool) → free_pages_of pages end shut ≤ pages - end
few_free pages end true = omega arith
few_free pages end false = omega arith

pub none_free : (pages end : ℕ) (shut : Bool) → shut ≡ true → free_pages_of pages end shut ≡ 0
none_free pages end true is = refl
none_free pages end false is = cc is

-- THE JOB
pub job_is : (m : Making) (number length of : ℕ) (op : DeviceOp) (bytes : List ℕ) → length_of m.numbers number ≡ Some of → IsLengthOf op length of
    → option_map_or (mark_pages m number) (mark_of op bytes) 0 ≡ pages_of_op m.geometry.page op length
job_is m number length of Read bytes configured fits = refl
job_is m number length of Write bytes configured fits = ap (λ (o : Option ℕ). record_pages_of (unwrap_or o 0) m.geometry.page) configured ∙ ap (λ (n : ℕ). record_pages_of n m.geometry.page) (sym fits)
job_is m number length of Invalidate bytes configured fits = refl
job_is m number length of Erase bytes configured fits = refl

-- a read, or another job, whose mark has a record
pub is_a_read : (op : DeviceOp) → (op ≡ Read) ⊎ (op ≢ Read)
is_a_read Read = inl refl
is_a_read Write = inr (λ e. cc e)
is_a_read Invalidate = inr (λ e. cc e)
is_a_read Erase = inr (λ e. cc e)

pub turns_marked : (m : Making) (number : ℕ) (o : Option Mark) → (o ≡ None → ⊥) → option_map_or (mark_pages m number) o 1 ≡ option_map_or (mark_pages m number) o 0
turns_marked m number None some = absurd (some refl)
turns_marked m number (Some mark) some = refl

pub op_read : (op : DeviceOp) (bytes : List ℕ) → mark_of op bytes ≡ None → op ≡ Read
op_read Read bytes none = refl
op_read Write bytes none = cc none
op_read Invalidate bytes none = cc none
op_read Erase bytes none = cc none

pub none_is : (o : Option Mark) → is_none o ≡ true → o ≡ None
none_is None is = refl
none_is (Some mark) is = cc is

pub turns_written : (o : Option Mark) (w : OpenWork) → (o ≡ None → ⊥) → turns_of o w ≡ w.pages + turns_owed w.owed
turns_written None w some = absurd (some refl)
turns_written (Some mark) w some = refl

-- TESTS
pub not_third : (a b c d : Bool) → c ≡ false → a && b && c && d ≡ false
not_third true true c d is = rw is refl
not_third true false c d is = refl
not_third false b c d is = refl

pub not_second : (a b : Bool) → b ≡ false → a && b ≡ false
not_second true b is = is
not_second false b is = refl

pub none_by : (x : Bool) (n : ℕ) → x ≡ false → (if x then n else 0) ≡ 0
none_by true n is = cc is
none_by false n is = refl

pub at_most : (x : Bool) (n : ℕ) → (if x then n else 0) ≤ n
at_most true n = omega arith
at_most false n = omega arith

pub has_pages : (urgent : Bool) (pages reserve free : ℕ) → pages + (if urgent then 0 else reserve) ≤ free → has_room urgent pages reserve free ≡ true
has_pages true pages reserve free few = le-leb pages free (omega (arith, few))
has_pages false pages reserve free few = le-leb (pages + reserve) free few

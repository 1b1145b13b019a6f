-- What is in order at any time.
use Rattle.std.specs.Prelude.{IfSome, is_some, is_none, ◌&&◌, if◌then◌else◌}
use Rattle.std.proofs.Common.{◌≡◌, inl, inr, ◌<◌, ◌≤◌, ◌+◌, ◌-◌, ◌*◌, ◌/◌, ◌^◌, ℕ, Bool, true, false, List, [], length, take, Option, Some, None, refl, sym, ap, ◌∙◌, subst, arith}
use Rattle.std.proofs.Math.Nat.{div-add-mod, mul_comm, mul-le-mul_right}
use Rattle.std.proofs.lemmas.Bool.{cases_lt}
use Rattle.nv_base.specs.declared.instance.DeviceNumber.{DeviceNumber}
use Rattle.nv_base.specs.declared.job.DeviceOp.{DeviceOp}
use Rattle.nv_base.specs.declared.job.DeviceOp.TheVariants.{Read, Write, Invalidate, Erase}
use Rattle.nv_base.specs.Held.{never_written}
use Rattle.memif.specs.declared.answer.JobResult.{JobResult}
use Rattle.memif.specs.Told.{Part, First, Figures, no_figures, Slot, no_slot, slot_at, Job, Open, figures_at, most_of, most_open, op_of}
use Rattle.memif.specs.Marks.{IsPossible}
use Rattle.memif.specs.Clock.{FindsNow}
use Rattle.memif.specs.Calls.{InOrder, IsOf, FreesReady, RoomIsLeft, urgent_first, is_first, job_first, pages_needed, is_read}
use Rattle.fls_model.specs.Attach.{AreBytesOf}
use Rattle.fls_model.specs.Told.{Told, bytes_now}
use Rattle.fls_told.specs.Device.{FlashDevice, slot_with}
use Rattle.fls_told.specs.Clock.{ImageIsPossible}
use Rattle.fls_told.proofs.Clocks.{clocks_find_now, tells_first}
use Rattle.fee_format.specs.Pages.{body_pages_of}
use Rattle.ea_image.specs.declared.step.SlotStep.{SlotStep}
use Rattle.ea_image.specs.declared.step.SlotStep.TheVariants.{EraseHead, EraseBody, Body, Head, Gate}
use Rattle.ea_image.specs.Slots.{slot_bytes, found_at}
use Rattle.ea_image.specs.Steps.{steps_left}
use Rattle.fls_told.proofs.ToldBytes.{each_told, now_at, told_at}
use Rattle.ea_told.specs.declared.job.EaJob.{EaJob}
use Rattle.ea_told.specs.Making.{Making, HasSlots, entry_of, at_entry}
use Rattle.ea_told.specs.Parts.{Parts}
use Rattle.ea_told.specs.Reading.{held_in}
use Rattle.ea_told.specs.Device.{figures_for, fixed_for, state_at, can_write, mark_of, stand_of, job_left, left_of, wait_of, job_leaves, slot_told, slots_in, flash_device, told_of, clock_of}
use Rattle.ea_told.specs.Inside.{IsLengthOf, IsJob, HoldAll, IsSound}
use Rattle.ea_told.specs.Laws.{PartsOrder}
use Rattle.ea_told.proofs.Bytes.{has_bytes, attached_is}
use Rattle.ea_told.proofs.Lists.{at_listed, at_mapped, entry_length}
use Rattle.ea_told.proofs.Slot.{found_possible}

-- FIGURES
each_part : (p : ℕ) (o : Option (ℕ × (DeviceNumber × ℕ))) → (at_entry no_figures (λ i x. figures_for p x.1) o).part ≡ First
each_part p None = refl
each_part p (Some x) = refl

pub figures_are : (m : Making) (k : ℕ) → figures_at (fixed_for m) k ≡ at_entry no_figures (λ i x. figures_for m.geometry.page x.1) (entry_of m k)
figures_are m k = at_mapped no_figures (λ x. figures_for m.geometry.page x.1) 0 m.numbers k

pub first_of : (m : Making) (k : ℕ) → (figures_at (fixed_for m) k).part ≡ First
first_of m k = ap (λ (x : Figures). x.part) (figures_are m k) ∙ each_part m.geometry.page (entry_of m k)

pub figures_of : (m : Making) (s : Parts) (j : EaJob) (is : IsJob m s j) → figures_at (fixed_for m) j.number.0 ≡ figures_for m.geometry.page is.size
figures_of m s j is = figures_are m j.number.0 ∙ ap (at_entry no_figures (λ i x. figures_for m.geometry.page x.1)) is.entry

-- any job is of the first part
pub is_of_first : (m : Making) (content : List ℕ) (o : Option EaJob) (last : JobResult) (given : ℕ) → IsOf First (fixed_for m) (stand_of content o last given)
is_of_first m content None last given = refl
is_of_first m content (Some j) last given = (tt, sym (first_of m j.number.0))

by_test : (b : Bool) → b && true ≡ b
by_test true = refl
by_test false = refl

pub urgent_is : (m : Making) (j : Job) → urgent_first (fixed_for m) (Open j) ≡ j.urgent
urgent_is m j = ap (λ (p : Part). j.urgent && is_first p) (first_of m j.number) ∙ by_test j.urgent

-- LEFT
few_by : (p q : ℕ) → 1 ≤ p → q ≤ p * q
few_by p q one =
    let le = mul-le-mul_right q one in
    let e : 1 * q ≡ q = omega arith in
    omega (arith, le, e)

pub pages_few : (n p : ℕ) → 1 ≤ p → body_pages_of n p ≤ n + (p - 1)
pages_few n p one =
    let x = n + (p - 1) in
    omega (arith, div-add-mod x p, few_by p (x / p) one)

no_pages : (p : ℕ) → 1 ≤ p → body_pages_of 0 p ≡ 0
no_pages p one =
    let x = 0 + (p - 1) in
    let q = x / p in
    let all = div-add-mod x p in
    let turn : p * q ≡ q * p = mul_comm p q in
    elim (cases_lt q 1) [
      | inl none ↦ omega arith
      | inr some ↦ let le = mul-le-mul_right p some in let e : 1 * p ≡ p = omega arith in absurd (omega (arith, all, turn, le, e))
    ]

steps_few : (pages : ℕ) (step : SlotStep) → steps_left pages step ≤ pages + 4
steps_few pages EraseHead = omega arith
steps_few pages EraseBody = omega arith
steps_few pages (Body i) = omega arith
steps_few pages Head = omega arith
steps_few pages Gate = omega arith

pages_most : (op : DeviceOp) (length size p : ℕ) → 1 ≤ p → IsLengthOf op length size → body_pages_of length p ≤ body_pages_of size p
pages_most Read length size p one is = (let e : body_pages_of length p ≡ body_pages_of size p = ap (λ (x : ℕ). body_pages_of x p) is in omega (arith, e))
pages_most Write length size p one is = (let e : body_pages_of length p ≡ body_pages_of size p = ap (λ (x : ℕ). body_pages_of x p) is in omega (arith, e))
pages_most Invalidate length size p one is = (let e : body_pages_of length p ≡ 0 = ap (λ (x : ℕ). body_pages_of x p) is ∙ no_pages p one in omega (arith, e))
pages_most Erase length size p one is = (let e : body_pages_of length p ≡ 0 = ap (λ (x : ℕ). body_pages_of x p) is ∙ no_pages p one in omega (arith, e))

written_few : (b : Bool) (pages most : ℕ) (step : SlotStep) → pages ≤ most → (if b then steps_left pages step else 1) ≤ most + 4
written_few true pages most step le = omega (arith, steps_few pages step)
written_few false pages most step le = omega arith

pub job_few : (p size : ℕ) (j : EaJob) (content : List ℕ) (op : DeviceOp) (b : Bool) → 1 ≤ p → IsLengthOf op j.length size → job_left p j op b ≤ most_of (figures_for p size) (op_of (mark_of op content))
job_few p size j content Read b one is = omega arith
job_few p size j content Write b one is = written_few b (body_pages_of j.length p) (body_pages_of size p) j.step (pages_most Write j.length size p one is)
job_few p size j content Invalidate b one is = written_few b (body_pages_of j.length p) (body_pages_of size p) j.step (pages_most Invalidate j.length size p one is)
job_few p size j content Erase b one is = written_few b (body_pages_of j.length p) (body_pages_of size p) j.step (pages_most Erase j.length size p one is)

most_few : (p size : ℕ) (content : List ℕ) (op : DeviceOp) → most_of (figures_for p size) (op_of (mark_of op content)) ≤ body_pages_of size p + 4
most_few p size content Read = omega arith
most_few p size content Write = omega arith
most_few p size content Invalidate = omega arith
most_few p size content Erase = omega arith

module _ (m : Making) (entry : Told) (s : Parts) (sound : IsSound m entry s) where
  abbrev d : FlashDevice
  d = flash_device m entry s

  slots : HasSlots m
  slots = sound.made_for.slots

  one : 1 ≤ m.geometry.page
  one = (let low = slots.legal.page_low in omega (arith, low))

  left_bounded : (o : Option EaJob) → IfSome o (IsJob m s) → left_of m.geometry.page s.states o ≤ 0 + most_open (fixed_for m) (stand_of s.content o s.last s.given)
  left_bounded None is = omega arith
  left_bounded (Some j) is =
      let few = job_few m.geometry.page is.size j (take j.length s.content) j.op (can_write (state_at s.states j.place)) one is.fits in
      let e = ap (λ (x : Figures). most_of x (op_of (mark_of j.op (take j.length s.content)))) (figures_of m s j is) in
      omega (arith, few, e)

  left_fits : (o : Option EaJob) → IfSome o (IsJob m s) → left_of m.geometry.page s.states o < 2 ^ 63
  left_fits None is = omega arith
  left_fits (Some j) is =
      let few = job_few m.geometry.page is.size j (take j.length s.content) j.op (can_write (state_at s.states j.place)) one is.fits in
      let most = most_few m.geometry.page is.size (take j.length s.content) j.op in
      let pages = pages_few is.size m.geometry.page one in
      let l = (entry_length 0 0 m.numbers m.geometry.sector j.number.0 j.place (j.number, is.size) slots.lengths slots.fit is.entry).1 in
      let high = slots.legal.page_high in
      omega (arith, few, most, pages, l, high)

  waits : (o : Option EaJob) → urgent_first (fixed_for m) (stand_of s.content o s.last s.given) ≡ false → (w : ℕ) × (wait_of o ≡ Some w) × (w ≤ 2)
  waits None calm = (0, refl, omega arith)
  waits (Some j) calm =
      let none : j.urgent ≡ false = sym (urgent_is m (record { number = j.number.0; mark = mark_of j.op (take j.length s.content); urgent = j.urgent })) ∙ calm in
      (0, ap (λ (b : Bool). if b then None else Some 0) none, omega arith)

  -- FOUND NOW
  pub some : (bytes : List ℕ) → bytes_now s.fls.flash ≡ Some bytes → 0 < length bytes
  some bytes now =
      let are = (now_at s.fls.flash.bytes (AreBytesOf m.geometry) bytes now sound.made_for.bytes).size in
      let more = has_bytes m.geometry slots.legal in
      omega (arith, are, more)

  held_possible : (bytes : List ℕ) (k : ℕ) (o : Option (ℕ × (DeviceNumber × ℕ))) → HoldAll m s bytes → entry_of m k ≡ o
      → IsPossible (at_entry no_slot (λ i x. slot_told (state_at s.states i).memory (slot_bytes m.geometry bytes i) (job_leaves d.stand x.0.0)) o) (at_entry never_written (λ i x. found_at m.geometry bytes i x.1) o)
  held_possible bytes k None holds is = inl refl
  held_possible bytes k (Some x) holds is = found_possible m.geometry.page x.1.1 (state_at s.states x.0).memory (slot_bytes m.geometry bytes x.0) (job_leaves d.stand x.1.0.0) (holds k x.0 x.1 is)

  fresh_possible : (bytes : List ℕ) (o : Option (ℕ × (DeviceNumber × ℕ))) → IsPossible (at_entry no_slot (λ i x. record { settled = found_at m.geometry bytes i x.1; doubts = [] }) o) (at_entry never_written (λ i x. found_at m.geometry bytes i x.1) o)
  fresh_possible bytes None = inl refl
  fresh_possible bytes (Some x) = inl refl

  pub now_possible : (started : Bool) (bytes : List ℕ) (k : ℕ) → (started ≡ true → HoldAll m s bytes) → IsPossible (slot_at m.numbers (slots_in m started s.states d.stand bytes) k) (held_in m bytes k)
  now_possible true bytes k holds = subst (λ (x : Slot). IsPossible x (held_in m bytes k)) (sym (at_listed no_slot (λ i x. slot_told (state_at s.states i).memory (slot_bytes m.geometry bytes i) (job_leaves d.stand x.0.0)) 0 m.numbers k)) (held_possible bytes k (entry_of m k) (holds refl) refl)
  now_possible false bytes k holds = subst (λ (x : Slot). IsPossible x (held_in m bytes k)) (sym (at_listed no_slot (λ i x. record { settled = found_at m.geometry bytes i x.1; doubts = [] }) 0 m.numbers k)) (fresh_possible bytes (entry_of m k))

  pub finds_now : FindsNow (told_of m entry s) (clock_of m entry s)
  finds_now = clocks_find_now d (λ told. each_told s.fls.flash.bytes (λ bytes. ImageIsPossible d bytes bytes) (λ bytes now k.
      subst (λ (b : List ℕ). IsPossible (slot_with d bytes k) (held_in m b k)) (sym (attached_is m.geometry bytes (some bytes now)))
      (now_possible s.started bytes k (λ started. told_at s.fls.flash.bytes (HoldAll m s) bytes now (sound.held started told)))))

  pub order : InOrder (told_of m entry s) (clock_of m entry s)
  order = record {
    bounded = left_bounded s.job sound.job;
    fits = left_fits s.job sound.job;
    ready = omega arith;
    wait = waits s.job;
    second = λ one'. refl;
    now = finds_now;
    told = tells_first d sound.run.alike;
  }

  -- FREE PAGES
  frees_ready : FreesReady (told_of m entry s) (clock_of m entry s)
  frees_ready started on pages spare = omega arith

  needs : (o : Option EaJob) → IfSome o (IsJob m s) → job_first (fixed_for m) (stand_of s.content o s.last s.given) ≡ true → is_read (stand_of s.content o s.last s.given) ≡ false → 1 ≤ pages_needed (fixed_for m) (stand_of s.content o s.last s.given)
  needs None is opened no_read = cc opened
  needs (Some j) is opened no_read = by_op j.op no_read
    where
      e : (figures_at (fixed_for m) j.number.0).pages ≡ body_pages_of is.size m.geometry.page + 4
      e = ap (λ (x : Figures). x.pages) (figures_of m s j is)

      by_op : (op : DeviceOp) → is_none (mark_of op (take j.length s.content)) ≡ false → 1 ≤ (if is_some (mark_of op (take j.length s.content)) then (figures_at (fixed_for m) j.number.0).pages else 0) + (if j.urgent then 0 else 0)
      by_op Read writes = cc writes
      by_op Write writes = omega (arith, e)
      by_op Invalidate writes = omega (arith, e)
      by_op Erase writes = omega (arith, e)

  room_is_left : RoomIsLeft (told_of m entry s) (clock_of m entry s)
  room_is_left started on shut opened no_read pages spare enough =
      let none : pages ≤ 0 = spare.few in
      let some' = needs s.job sound.job opened no_read in
      absurd (omega (arith, none, some', enough))

pub parts_order : PartsOrder
parts_order m entry s sound = record { order = order m entry s sound; ready = frees_ready m entry s sound; room = room_is_left m entry s sound }

-- What the calls of a device in memory do.
use Rattle.std.specs.Prelude.{◌==◌, ◌&&◌, slice_get, is_none, not, is_some}
use Rattle.std.proofs.Common.{◌≡◌, ◌≢◌, ◌⊎◌, inl, inr, ◌<◌, ◌≤◌, ◌+◌, ℕ, zero, suc, Bool, true, false, if◌then◌else◌, List, [], ◌∷◌, get_or, set, map, Option, Some, None, Ok, refl, sym, ap, ◌∙◌, subst, arith, length, All}
use Rattle.std.proofs.lemmas.Bool.{not-true, not-false, cases_Bool, eqb-true}
use Rattle.std.specs.List.{Contains}
use Rattle.nv_base.specs.Lengths.{place_of}
use Rattle.nv_base.specs.declared.instance.DeviceNumber.{DeviceNumber}
use Rattle.nv_base.specs.declared.mark.Mark.{Mark}
use Rattle.memif.specs.declared.answer.JobResult.{JobResult}
use Rattle.memif.specs.declared.answer.JobResult.TheVariants.{JobOk, JobFailed, BlockInconsistent, BlockInvalid}
use Rattle.memif.specs.declared.answer.DeviceTurn.TheVariants.{Worked}
use Rattle.memif.specs.declared.kept.Kept.{Kept}
use Rattle.memif.specs.declared.plain_store.PlainJob.{PlainJob}
use Rattle.memif.specs.Told.{DeviceTold, Slot, Held, held_next, Job, Figures, First, Second, Open, slot_at, length_of, figures_at, no_figures, no_part, part_of, result_of, op_of, most_of, IfElse, given_by, IsConfigured}
use Rattle.memif.specs.Marks.{Keeps, Doubts, DoubtsAt, SettlesAs}
use Rattle.memif.specs.Clock.{FindsNow, Ticks}
use Rattle.memif.specs.Calls.{InOrder, ClockStays, Arms, IsPrompt, Nearer, is_first, StartsUp, PowersUp, Opens, Turns, PartTurns, Reads, Gives, EndsAs, refusal_of, length_refusal, Accepts, IsKind, kind_of}
use Rattle.memif.specs.Plain.{plain_figures, plain_fixed, no_clock}
use Rattle.memif.specs.Kept.{settled, undoubted}
use Rattle.memif.specs.PlainInside.{StartUps, mark_of, held_of, slot_of, next_of, turns_of, job_of, told_with, given_of, AreKept, IsSoundWith, content_of, IsSoundJob, GivesBehind, stand_of, IsSoundGiven}
use Rattle.memif.proofs.Turning.{none_in, same_clock, past_same}
use Rattle.memif.proofs.Plain.{at_same, length_at, length_none, refusal_is, blank, place_within, slot_is, slot_set, get_is, get_set, none_open, kept_length, size_is, room_at, room_set}
use Rattle.memif.specs.declared.answer.DeviceRefusal.{DeviceRefusal}
use Rattle.memif.specs.declared.answer.DeviceRefusal.TheVariants.{Uninit, BadLength}
use Rattle.std.proofs.lemmas.List.{get_or_default}
use Rattle.memif.specs.declared.answer.PlainMark.TheVariants as plain
use Rattle.std.proofs.lemmas.Option.{slice_get-get_or}
use Rattle.nv_base.specs.declared.job.DeviceOp.{DeviceOp}
use Rattle.nv_base.specs.declared.job.DeviceOp.TheVariants.{Read, Write, Invalidate, Erase}
use Rattle.memif.specs.declared.answer.PlainMark.{PlainMark}
use Rattle.memif.specs.declared.kept.Cell.{Cell}

keeps_same : (s : Slot) → Keeps s s
keeps_same s = record { settled = refl; doubts = λ m has. has }

turns_few : (b : Bool) → turns_of b ≤ 2
turns_few true = omega arith
turns_few false = omega arith

most_is : (op : DeviceOp) → 1 ≡ most_of plain_figures op
most_is Read = refl
most_is Write = refl
most_is Invalidate = refl
most_is Erase = refl

-- A START-UP
slots_undoubted : (numbers : List (DeviceNumber × ℕ)) (kept : List Kept) (n : ℕ) → ((slot_at numbers (map slot_of (map undoubted kept)) n).settled ≡ (slot_at numbers (map slot_of kept) n).settled) × ((slot_at numbers (map slot_of (map undoubted kept)) n).doubts ≡ [])
slots_undoubted [] kept n = (refl, refl)
slots_undoubted (x ∷ xs) [] n = (refl, refl)
slots_undoubted (x ∷ xs) (k ∷ ks) n = elim (cases_Bool (x.0.0 == n)) [ inl e ↦ rw e (refl, refl) | inr e ↦ rw e (slots_undoubted xs ks n) ]

-- nothing is told by the clock
finds_now : (d : DeviceTold) → FindsNow d no_clock
finds_now d m finds = absurd finds

-- IN ORDER
pub order_none : (numbers : List (DeviceNumber × ℕ)) (kept : List Kept) (up : StartUps) (last : JobResult) (given : Option ℕ) → InOrder (told_with numbers kept up None last given) no_clock
order_none numbers kept up last given = record {
  bounded = omega arith;
  fits = omega arith;
  ready = omega arith;
  wait = λ h. (0, refl, omega arith);
  second = λ h. refl;
  now = finds_now (told_with numbers kept up None last given);
  told = λ tells none. refl;
}

figures_of : (numbers : List (DeviceNumber × ℕ)) (j : PlainJob) → place_of numbers j.number.0 ≡ Some j.place → figures_at (plain_fixed numbers) j.number.0 ≡ plain_figures
figures_of numbers j at = at_same no_figures numbers plain_figures j.number.0 _ (length_at numbers j.number.0 j.place (record { 0 = 0 }, 0) at)

pub order_open : (numbers : List (DeviceNumber × ℕ)) (kept : List Kept) (up : StartUps) (j : PlainJob) (last : JobResult) (given : Option ℕ) → place_of numbers j.number.0 ≡ Some j.place → InOrder (told_with numbers kept up (Some j) last given) no_clock
order_open numbers kept up j last given at = record {
  bounded = rw (figures_of numbers j at) (omega (arith, most_is (op_of (job_of kept j).mark)));
  fits = omega arith;
  ready = omega arith;
  wait = λ h. (turns_of j.urgent, refl, turns_few j.urgent);
  second = λ h. refl;
  now = finds_now (told_with numbers kept up (Some j) last given);
  told = λ tells none. refl;
}

pub in_order : (numbers : List (DeviceNumber × ℕ)) (kept : List Kept) (up : StartUps) (job : Option PlainJob) (last : JobResult) (given : Option ℕ) (now : DeviceTold) → told_with numbers kept up job last given ≡ now → IsSoundWith numbers kept up job last given → InOrder now no_clock
in_order numbers kept up None last given now view sound = subst (λ (d : DeviceTold). InOrder d no_clock) view (order_none numbers kept up last given)
in_order numbers kept up (Some j) last given now view sound = subst (λ (d : DeviceTold). InOrder d no_clock) view (order_open numbers kept up j last given sound.at)

pub stays : (d : DeviceTold) → InOrder d no_clock → ClockStays no_clock d no_clock
stays d order = record { same = same_clock no_clock; order = order }

not_second : First ≡ Second → ⊥
not_second is = cc

pub ticks : (old new : DeviceTold) → Ticks First Worked old no_clock new no_clock
ticks old new = record {
  past = past_same old.ops no_clock no_clock (same_clock no_clock);
  cut = λ k m le lt h. absurd h;
  off = λ k h. absurd h;
  failed = λ k le lt h. absurd h;
  part = λ k le lt. (λ h. absurd h, λ is. absurd (not_second is));
  kept = λ k le lt h. absurd h;
}

powers_up : PowersUp no_part no_part
powers_up = record { only = refl; faults = record { faults = omega arith; flash = omega arith; tied = inl (omega arith) }; off = λ h. h }

module _ (numbers : List (DeviceNumber × ℕ)) (kept : List Kept) (up : StartUps) (job : Option PlainJob) (last : JobResult) (given : Option ℕ) (starts : ℕ) (counted : starts ≡ up.starts + 1) where
  abbrev again : DeviceTold
  again = told_with numbers (map undoubted kept) (record { started = true; starts = starts }) None JobOk None

  pub starts_up : StartsUp (Ok tt) (told_with numbers kept up job last given) no_clock again no_clock
  starts_up = record {
    only = λ i. told_with numbers (map undoubted kept) (record { started = true; starts = counted i }) None JobOk None;
    comes_to = (refl, refl, refl, λ n. (slots_undoubted numbers kept n).1);
    marks = λ n. record { settled = inl (slots_undoubted numbers kept n).0; doubts = λ m has. absurd (none_in m (subst (λ (l : List Held). Contains l m) (slots_undoubted numbers kept n).1 has)) };
    first = powers_up;
    second = powers_up;
    clock_stays = stays again (order_none numbers (map undoubted kept) (record { started = true; starts = starts }) JobOk None);
  }

module _ (numbers : List (DeviceNumber × ℕ)) (kept : List Kept) (up : StartUps) (last : JobResult) (given : Option ℕ) (j : PlainJob) (room : AreKept numbers kept) (at : place_of numbers j.number.0 ≡ Some j.place) where
  abbrev one : Kept
  one = get_or kept j.place blank

  -- a change of the number at the place; the others keep theirs
  each_set : (P : Slot → Slot → Type 0) (v : Kept) → P (slot_of one) (slot_of v) → (n : ℕ)
      → IfElse (n == j.number.0) (P (slot_at numbers (map slot_of kept) n) (slot_at numbers (map slot_of (set kept j.place v)) n)) (Keeps (slot_at numbers (map slot_of kept) n) (slot_at numbers (map slot_of (set kept j.place v)) n))
  each_set P v holds n = elim (cases_Bool (n == j.number.0)) [
    | inl same ↦
        let now : slot_at numbers (map slot_of (set kept j.place v)) n ≡ slot_of v = slot_set numbers kept j.number.0 j.place room at v n ∙ rw same refl in
        let was : slot_at numbers (map slot_of kept) n ≡ slot_of one = ap (λ (i : ℕ). slot_at numbers (map slot_of kept) i) (eqb-true n j.number.0 same) ∙ slot_is numbers kept j.number.0 j.place room at in
        let here : P (slot_at numbers (map slot_of kept) n) (slot_at numbers (map slot_of (set kept j.place v)) n) = subst (P (slot_at numbers (map slot_of kept) n)) (sym now) (subst (λ (s : Slot). P s (slot_of v)) (sym was) holds) in
        rw same here
    | inr other ↦
        let now : slot_at numbers (map slot_of (set kept j.place v)) n ≡ slot_at numbers (map slot_of kept) n = slot_set numbers kept j.number.0 j.place room at v n ∙ rw other refl in
        let here : Keeps (slot_at numbers (map slot_of kept) n) (slot_at numbers (map slot_of (set kept j.place v)) n) = subst (Keeps (slot_at numbers (map slot_of kept) n)) (sym now) (keeps_same (slot_at numbers (map slot_of kept) n)) in
        rw other here
  ]

  figures_are : figures_at (plain_fixed numbers) j.number.0 ≡ plain_figures
  figures_are = figures_of numbers j at

  -- THE START OF A JOB
  starts_ready : (after : List Kept) (u : Bool) → j.urgent ≡ u → (b : Bool) → IfElse (u && b) (IsPrompt (figures_at (plain_fixed numbers) j.number.0).pages (told_with numbers kept up None last given) (told_with numbers after up (Some j) last None)) ((told_with numbers kept up None last given).ready ≤ (told_with numbers after up (Some j) last None).ready)
  starts_ready after true is true = λ le. (omega arith, (0, 1, refl, ap (λ (b : Bool). Some (turns_of b)) is, rw figures_are (omega arith)))
  starts_ready after true is false = omega arith
  starts_ready after false is b = omega arith

  opens : (after : List Kept) (m : Option Mark) → (if j.reads then None else Some (next_of (slice_get after j.place))) ≡ m → DoubtsAt j.number.0 m (told_with numbers kept up None last given) (told_with numbers after up (Some j) last None)
      → Opens (record { number = j.number.0; mark = m; urgent = j.urgent }) (told_with numbers kept up None last given) (told_with numbers after up (Some j) last None)
  opens after m is marks = record {
    only = λ i. record (told_with numbers after up (Some j) last None) { stand = Open (record { number = j.number.0; mark = is i; urgent = j.urgent }) };
    marks = marks;
    left_low = omega arith;
    left_high = rw figures_are (omega (arith, most_is (op_of m)));
    left_beside = λ one is. cc is;
    ready = starts_ready after j.urgent refl (is_first (figures_at (plain_fixed numbers) j.number.0).part);
  }

  pub read_taken : j.reads ≡ true → Opens (record { number = j.number.0; mark = None; urgent = j.urgent }) (told_with numbers kept up None last given) (told_with numbers kept up (Some j) last None)
  read_taken reads = opens kept None (rw reads refl) (λ n. keeps_same (slot_at numbers (map slot_of kept) n))

  -- what it leaves for certain is as it was, and what it may leave is one more
  takes_for : (v : Kept) → held_of v ≡ held_of one → v.doubted ≡ true → Doubts (mark_of v.next) (slot_of one) (slot_of v)
  takes_for v same doubted = record {
    settled = same;
    doubts = λ h has. last_one h (subst (λ (b : Bool). Contains (if b then next ∷ [] else []) h) doubted has);
    taken = subst (λ (b : Bool). Contains (if b then next ∷ [] else []) (held_next (mark_of v.next) (held_of one))) (sym doubted) (0, omega arith, ap (held_next (mark_of v.next)) same);
  }
    where
      next : Held
      next = held_next (mark_of v.next) (held_of v)

      last_one : (h : Held) → Contains (next ∷ []) h → Contains (slot_of one).doubts h ⊎ (h ≡ held_next (mark_of v.next) (held_of one))
      last_one h (zero, lt, is) = inr (sym is ∙ ap (held_next (mark_of v.next)) same)
      last_one h (suc i, lt, is) = absurd (omega arith)

  pub mark_taken : (v : Kept) → j.reads ≡ false → held_of v ≡ held_of one → v.doubted ≡ true
      → Opens (record { number = j.number.0; mark = Some (mark_of v.next); urgent = j.urgent }) (told_with numbers kept up None last given) (told_with numbers (set kept j.place v) up (Some j) last None)
  mark_taken v reads same doubted = opens (set kept j.place v) (Some (mark_of v.next)) (rw (reads, get_set numbers kept j.number.0 j.place room at v) refl) (each_set (Doubts (mark_of v.next)) v (takes_for v same doubted))

  -- A TURN
  abbrev the_job : Job
  the_job = job_of kept j

  abbrev before : DeviceTold
  before = told_with numbers kept up (Some j) last given

  part_works : PartTurns false 0 0 no_part no_part
  part_works = record { only = refl; on = refl; later = omega arith; one = inl refl; plan = inl (refl, inl refl); faults = record { faults = omega arith; flash = omega arith; tied = inl (omega arith) } }

  of_first : First ≡ part_of (plain_fixed numbers) the_job
  of_first = ap (λ (f : Figures). f.part) (sym figures_are)

  turns_ready : (k : List Kept) (r : JobResult) (g : Option ℕ) → r ≢ JobFailed → (u : Bool) → j.urgent ≡ u → (b : Bool) → IfElse (u && b) (Nearer before (told_with numbers k up None r g)) (before.ready ≤ (told_with numbers k up None r g).ready)
  turns_ready k r g done true is true = λ v was. (omega arith, (0, refl, urgent_waits v j.urgent is was), λ x e. done (ap result_of e))
    where
      urgent_waits : (v : ℕ) (u : Bool) → u ≡ true → Some (turns_of u) ≡ Some v → 0 < v
      urgent_waits v true up was = subst (λ (n : ℕ). 0 < n) (ap (λ (o : Option ℕ). elim o [ Some n ↦ n | None ↦ 0 ]) was) (omega arith)
      urgent_waits v false up was = cc
  turns_ready k r g done true is false = omega arith
  turns_ready k r g done false is b = omega arith

  none_by : (m : Option Mark) → is_none m ≡ true → m ≡ None
  none_by None is = refl
  none_by (Some m) is = cc

  ends : (k : List Kept) (r : JobResult) (g : Option ℕ) → EndsAs the_job.mark j.number.0 r (given_of k g) before (told_with numbers k up None r g) → up.started ≡ true → r ≢ JobFailed
      → (the_job.mark ≡ None → Some (map slot_of k) ≡ Some (map slot_of kept)) → Turns Worked before no_clock (told_with numbers k up None r g) no_clock
  ends k r g so on done reads = (
    (
      refl,
      (
        First,
        record {
          only = refl;
          up = on;
          of = (tt, of_first);
          part = part_works;
          job = (so, λ is. absurd (done is));
          read = λ is. (refl, reads (none_by the_job.mark is));
          nearer = inl (omega arith);
          ready = λ calm. turns_ready k r g done j.urgent refl (is_first (part_of (plain_fixed numbers) the_job));
          seals = λ k ops lt is. absurd is;
        },
        ticks before (told_with numbers k up None r g),
      ),
    ),
    order_none numbers k up r g,
  )

  pub write_turns : up.started ≡ true → j.reads ≡ false → given ≡ None → Turns Worked (told_with numbers kept up (Some j) last given) no_clock (told_with numbers (set kept j.place (settled one)) up None JobOk given) no_clock
  write_turns on reads none =
      let e : the_job.mark ≡ Some (mark_of one.next) = rw (reads, get_is numbers kept j.number.0 j.place room at) refl in
      let after : List Kept = set kept j.place (settled one) in
      ends after JobOk given (subst (λ (m : Option Mark). EndsAs m j.number.0 JobOk (given_of after given) before (told_with numbers after up None JobOk given)) (sym e) (each_set (SettlesAs (mark_of one.next)) (settled one) (record { settled = refl; doubts = refl }), ap (given_of after) none)) on (λ is. cc) (λ is. cc)

  pub read_turns : up.started ≡ true → (r : JobResult) (g : Option ℕ) → j.reads ≡ true → Reads (mark_of one.settled) r (given_of kept g) → Gives r (length_of numbers j.number.0) (given_of kept g) → r ≢ JobFailed → Turns Worked (told_with numbers kept up (Some j) last given) no_clock (told_with numbers kept up None r g) no_clock
  read_turns on r g is_read reads gives done =
      let e : the_job.mark ≡ None = rw is_read refl in
      let was : slot_at numbers (map slot_of kept) j.number.0 ≡ slot_of one = slot_is numbers kept j.number.0 j.place room at in
      let shows : Reads (slot_at numbers (map slot_of kept) j.number.0).settled.mark r (given_of kept g) = subst (λ (s : Slot). Reads s.settled.mark r (given_of kept g)) (sym was) reads in
      ends kept r g (subst (λ (m : Option Mark). EndsAs m j.number.0 r (given_of kept g) before (told_with numbers kept up None r g)) (sym e) (shows, gives)) on done (λ is. refl)

-- a plan isn't taken
unarmed : (a b : Bool) (d : DeviceTold) → d ≡ (if a then d else (if b then d else d))
unarmed true b d = refl
unarmed false true d = refl
unarmed false false d = refl

pub arms : (which nth keep : ℕ) (numbers : List (DeviceNumber × ℕ)) (kept : List Kept) (up : StartUps) (job : Option PlainJob) (last : JobResult) (given : Option ℕ) (now : DeviceTold) → told_with numbers kept up job last given ≡ now → IsSoundWith numbers kept up job last given → Arms which nth keep now no_clock now no_clock
arms which nth keep numbers kept up job last given now view sound =
    let d : DeviceTold = told_with numbers kept up job last given in
    subst (λ (x : DeviceTold). Arms which nth keep x no_clock x no_clock) view (unarmed (which == 0) (which == 1) d, stays d (in_order numbers kept up job last given d refl sound))

-- STARTS
same_size : (given size : ℕ) → length_refusal (Some given) (Some size) ≡ None → given ≡ size
same_size given size none = elim (cases_Bool (given == size)) [
  | inl same ↦ eqb-true given size same
  | inr other ↦ let refused : Some BadLength ≡ None = rw other at none in cc
]

-- the bytes of a mark without content don't count
pub same_mark : (k : PlainMark) (a b : List ℕ) → k ≢ plain.Content → mark_of (record { kind = k; content = a }) ≡ mark_of (record { kind = k; content = b })
same_mark plain.Content a b other = absurd (other refl)
same_mark plain.Invalid a b other = refl
same_mark plain.Erased a b other = refl

module _ (numbers : List (DeviceNumber × ℕ)) (kept : List Kept) (up : StartUps) (job : Option PlainJob) (last : JobResult) (given : Option ℕ) (now : DeviceTold) (view : told_with numbers kept up job last given ≡ now) (number : DeviceNumber) (place : ℕ) (size : Option ℕ) (sound : IsSoundWith numbers kept up job last given) (none : refusal_of now number.0 size ≡ None) (at : place_of now.fixed.numbers number.0 ≡ Some place) where
  abbrev job_with : Bool → Bool → PlainJob
  job_with reads urgent = record { number = number; place = place; reads = reads; urgent = urgent }

  here : place_of numbers number.0 ≡ Some place
  here = subst (λ (d : DeviceTold). place_of d.fixed.numbers number.0 ≡ Some place) (sym view) at

  open_none : job ≡ None
  open_none = none_open numbers kept up job last given number.0 size (subst (λ (d : DeviceTold). refusal_of d number.0 size ≡ None) (sym view) none)

  told_none : told_with numbers kept up None last given ≡ now
  told_none = ap (λ (o : Option PlainJob). told_with numbers kept up o last given) (sym open_none) ∙ view

  opened : (after : List Kept) (reads urgent : Bool) → ClockStays no_clock (told_with numbers after up (Some (job_with reads urgent)) last None) no_clock
  opened after reads urgent =
      let j : PlainJob = job_with reads urgent in
      stays (told_with numbers after up (Some j) last None) (order_open numbers after up j last None here)

  pub within : place < length kept
  within = omega (arith, place_within numbers number.0 place here, kept_length numbers kept sound.room)

  pub read_starts : Accepts (record { job = record { number = number.0; mark = None; urgent = false }; length = size }) (Ok tt) now no_clock (told_with numbers kept up (Some (job_with true false)) last None) no_clock
  read_starts =
      let j : PlainJob = job_with true false in
      ((none, subst (λ (d : DeviceTold). Opens (record { number = number.0; mark = None; urgent = false }) d (told_with numbers kept up (Some j) last None)) told_none (read_taken numbers kept up last given j sound.room here refl)), opened kept true false)

  pub mark_starts : (u : Bool) (v : Kept) (after : List Kept) → after ≡ set kept place v → held_of v ≡ held_of (get_or kept place blank) → v.doubted ≡ true
      → Accepts (record { job = record { number = number.0; mark = Some (mark_of v.next); urgent = u }; length = size }) (Ok tt) now no_clock (told_with numbers after up (Some (job_with false u)) last None) no_clock
  mark_starts u v after is same doubted =
      let j : PlainJob = job_with false u in
      let taken = mark_taken numbers kept up last given j sound.room here v refl same doubted in
      let moved = subst (λ (d : DeviceTold). Opens (record { number = number.0; mark = Some (mark_of v.next); urgent = u }) d (told_with numbers (set kept place v) up (Some j) last None)) told_none taken in
      ((none, subst (λ (l : List Kept). Opens (record { number = number.0; mark = Some (mark_of v.next); urgent = u }) now (told_with numbers l up (Some j) last None)) (sym is) moved), opened after false u)

  -- a content that wasn't refused fits
  pub fits : (n : ℕ) → size ≡ Some n → (d : Kept) → length (get_or kept place d).next.content ≡ n
  fits n is d =
      let first : DeviceNumber × ℕ = (record { 0 = 0 }, 0) in
      let known : length_of numbers number.0 ≡ Some (get_or numbers place first).1 = size_is numbers kept number.0 place sound.room here first in
      let taken = accepted up.started (subst (λ (d : DeviceTold). refusal_of d number.0 size ≡ None) (sym told_none) none) in
      (room_at numbers kept place first d sound.room (place_within numbers number.0 place here)).1 ∙ sym (same_size n _ (rw (is, known) at taken))
    where
      accepted : (s : Bool) → (if s then length_refusal size (length_of numbers number.0) else Some Uninit) ≡ None → length_refusal size (length_of numbers number.0) ≡ None
      accepted true is = is
      accepted false is = cc

  pub sound_after : (u : Bool) (v : Kept) (after : List Kept) → after ≡ set kept place v → length v.settled.content ≡ length (get_or kept place blank).settled.content → length v.next.content ≡ length (get_or kept place blank).next.content → IsSoundWith numbers after up (Some (job_with false u)) last None
  sound_after u v after is one two = record {
    room = subst (AreKept numbers) (sym is) (room_set numbers kept place v sound.room (λ d. (one ∙ (room_at numbers kept place d blank sound.room (place_within numbers number.0 place here)).0, two ∙ (room_at numbers kept place d blank sound.room (place_within numbers number.0 place here)).1)));
    at = here;
    gives = tt;
    behind = tt;
    ended = sound.ended;
    on = λ shut. up_now up.started (subst (λ (d : DeviceTold). refusal_of d number.0 size ≡ None) told_none none);
  }
    where
      told_none : now ≡ told_with numbers kept up None last given
      told_none = sym view ∙ ap (λ (o : Option PlainJob). told_with numbers kept up o last given) open_none

      up_now : (on : Bool) → (if on then length_refusal size (length_of numbers number.0) else Some Uninit) ≡ None → on ≡ true
      up_now true is = refl
      up_now false is = cc is

-- TURNS
behind_none : (j : PlainJob) (given : Option ℕ) → GivesBehind (Some j) given → given ≡ None
behind_none j None behind = refl
behind_none j (Some place) behind = absurd behind

module _ (numbers : List (DeviceNumber × ℕ)) (kept : List Kept) (up : StartUps) (job : Option PlainJob) (last : JobResult) (given : Option ℕ) (now : DeviceTold) (view : told_with numbers kept up job last given ≡ now) (j : PlainJob) (is : job ≡ Some j) (sound : IsSoundWith numbers kept up job last given) where
  stands : place_of numbers j.number.0 ≡ Some j.place
  stands = subst (IsSoundJob numbers) is sound.at

  none_given : given ≡ None
  none_given = behind_none j given (subst (λ (o : Option PlainJob). GivesBehind o given) is sound.behind)

  told_some : told_with numbers kept up (Some j) last given ≡ now
  told_some = ap (λ (o : Option PlainJob). told_with numbers kept up o last given) (sym is) ∙ view

  pub turn_within : j.place < length kept
  turn_within = omega (arith, place_within numbers j.number.0 j.place stands, kept_length numbers kept sound.room)

  first : DeviceNumber × ℕ
  first = (record { 0 = 0 }, 0)

  pub turn_room : (d : Kept) → length (get_or kept j.place d).next.content ≡ length (get_or kept j.place d).settled.content
  turn_room d = (room_at numbers kept j.place first d sound.room (place_within numbers j.number.0 j.place stands)).1 ∙ sym (room_at numbers kept j.place first d sound.room (place_within numbers j.number.0 j.place stands)).0

  pub write_sound : (after : List Kept) → after ≡ set kept j.place (settled (get_or kept j.place blank)) → IsSoundWith numbers after up None JobOk given
  write_sound after same = record {
    room = subst (AreKept numbers) (sym same) (room_set numbers kept j.place (settled (get_or kept j.place blank)) sound.room (λ d. let r = (room_at numbers kept j.place d blank sound.room (place_within numbers j.number.0 j.place stands)).1 in (r, r)));
    at = tt;
    gives = sound.gives;
    behind = tt;
    ended = λ h. cc;
    on = λ shut. cc shut;
  }

  -- the content that was read stands at the job's place
  pub read_sound : IsSoundWith numbers kept up None JobOk (Some j.place)
  read_sound = record {
    room = sound.room;
    at = tt;
    gives = place_within numbers j.number.0 j.place stands;
    behind = tt;
    ended = λ h. cc;
    on = λ shut. cc shut;
  }

  pub write_is : (after : List Kept) → after ≡ set kept j.place (settled (get_or kept j.place blank)) → not j.reads ≡ true → Turns Worked now no_clock (told_with numbers after up None JobOk given) no_clock
  write_is after same writes =
      let turned = write_turns numbers kept up last given j sound.room stands (sound.on (ap is_some is)) (not-true j.reads writes) none_given in
      let moved = subst (λ (d : DeviceTold). Turns Worked d no_clock (told_with numbers (set kept j.place (settled (get_or kept j.place blank))) up None JobOk given) no_clock) told_some turned in
      subst (λ (l : List Kept). Turns Worked now no_clock (told_with numbers l up None JobOk given) no_clock) (sym same) moved

  -- the mark that is read
  module _ (k : Kept) (item : k ≡ get_or kept j.place k) (reads : not j.reads ≡ false) where
    the_one : k ≡ get_or kept j.place blank
    the_one = item ∙ get_or_default kept j.place k blank turn_within

    read_is : (r : JobResult) (g : Option ℕ) → Reads (mark_of k.settled) r (given_of kept g) → Gives r (length_of numbers j.number.0) (given_of kept g) → r ≢ JobFailed → Turns Worked now no_clock (told_with numbers kept up None r g) no_clock
    read_is r g shows gives done =
        let turned = read_turns numbers kept up last given j sound.room stands (sound.on (ap is_some is)) r g (not-false j.reads reads) (subst (λ (x : Kept). Reads (mark_of x.settled) r (given_of kept g)) the_one shows) gives done in
        subst (λ (d : DeviceTold). Turns Worked d no_clock (told_with numbers kept up None r g) no_clock) told_some turned

    pub content_is : k.settled.kind ≡ plain.Content → Turns Worked now no_clock (told_with numbers kept up None JobOk (Some j.place)) no_clock
    content_is kind =
        let lent : given_of kept (Some j.place) ≡ k.settled.content = ap content_of (get_is numbers kept j.number.0 j.place sound.room stands) ∙ ap (λ (x : Kept). x.settled.content) (sym the_one) in
        let size : length_of numbers j.number.0 ≡ Some (get_or numbers j.place first).1 = size_is numbers kept j.number.0 j.place sound.room stands first in
        let long : length k.settled.content ≡ (get_or numbers j.place first).1 = ap (λ (x : Kept). length x.settled.content) the_one ∙ (room_at numbers kept j.place first blank sound.room (place_within numbers j.number.0 j.place stands)).0 in
        read_is JobOk (Some j.place) (rw kind lent) (rw size (ap length lent ∙ long)) (λ h. cc)

    nothing : given_of kept given ≡ []
    nothing = ap (given_of kept) none_given

    pub invalid_is : k.settled.kind ≡ plain.Invalid → Turns Worked now no_clock (told_with numbers kept up None BlockInvalid given) no_clock
    invalid_is kind = read_is BlockInvalid given (rw kind nothing) nothing (λ h. cc)

    pub erased_is : k.settled.kind ≡ plain.Erased → Turns Worked now no_clock (told_with numbers kept up None BlockInconsistent given) no_clock
    erased_is kind = read_is BlockInconsistent given (rw kind nothing) nothing (λ h. cc)

-- WHAT IS TOLD
kind_at : (c : Cell) (k : PlainMark) → c.kind ≡ k → k ≡ kind_of (mark_of c)
kind_at c plain.Content is = rw is refl
kind_at c plain.Invalid is = rw is refl
kind_at c plain.Erased is = rw is refl

module _ (numbers : List (DeviceNumber × ℕ)) (kept : List Kept) (up : StartUps) (job : Option PlainJob) (last : JobResult) (given : Option ℕ) (now : DeviceTold) (view : told_with numbers kept up job last given ≡ now) where
  pub refused_as : (n : ℕ) (size : Option ℕ) (r : Option DeviceRefusal) → is_some job ≡ false → up.started ≡ true → length_refusal size (length_of numbers n) ≡ r → refusal_of now n size ≡ r
  refused_as n size r none on why = subst (λ (d : DeviceTold). refusal_of d n size ≡ r) view (refusal_is numbers kept up job last given n size r none on why)

  pub kind_none : (n : ℕ) → All (λ x. x.0.0 ≢ n) numbers → IsKind now n None
  kind_none n none =
      let at : IsKind (told_with numbers kept up job last given) n None = record { configured = rw (length_none numbers n none) refl; kind = tt } in
      subst (λ (d : DeviceTold). IsKind d n None) view at

  pub kind_some : (n place : ℕ) (k : Kept) → IsSoundWith numbers kept up job last given → place_of numbers n ≡ Some place → k ≡ get_or kept place k → IsKind now n (Some k.settled.kind)
  kind_some n place k sound at item =
      let lt : place < length kept = omega (arith, place_within numbers n place at, kept_length numbers kept sound.room) in
      let one : k ≡ get_or kept place blank = item ∙ get_or_default kept place k blank lt in
      let slot : slot_at numbers (map slot_of kept) n ≡ slot_of k = slot_is numbers kept n place sound.room at ∙ ap slot_of (sym one) in
      let shows : k.settled.kind ≡ kind_of (slot_at numbers (map slot_of kept) n).settled.mark = kind_at k.settled k.settled.kind refl ∙ ap (λ (s : Slot). kind_of s.settled.mark) (sym slot) in
      let size = size_is numbers kept n place sound.room at (record { 0 = 0 }, 0) in
      let told : IsKind (told_with numbers kept up job last given) n (Some k.settled.kind) = record { configured = rw size refl; kind = λ on. shows } in
      subst (λ (d : DeviceTold). IsKind d n (Some k.settled.kind)) view told

  pub most_turns : (n : ℕ) (op : DeviceOp) → IsConfigured now n → 1 ≡ most_of (figures_at now.fixed n) op
  most_turns n op configured =
      let known : is_some (length_of numbers n) ≡ true = subst (λ (d : DeviceTold). is_some (length_of d.fixed.numbers n) ≡ true) (sym view) configured in
      subst (λ (d : DeviceTold). 1 ≡ most_of (figures_at d.fixed n) op) view (most_with (length_of numbers n) refl known)
    where
      most_with : (o : Option ℕ) → length_of numbers n ≡ o → is_some o ≡ true → 1 ≡ most_of (figures_at (plain_fixed numbers) n) op
      most_with (Some size) is known = most_is op ∙ ap (λ f. most_of f op) (sym (at_same no_figures numbers plain_figures n size is))
      most_with None is known = cc

  pub lent_within : (place : ℕ) → IsSoundWith numbers kept up job last given → given ≡ Some place → place < length kept
  lent_within place sound is =
      let at : place < length numbers = subst (IsSoundGiven numbers) is sound.gives in
      omega (arith, kept_length numbers kept sound.room)

  pub lent_is : (place : ℕ) (k : Kept) (bytes : List ℕ) → IsSoundWith numbers kept up job last given → given ≡ Some place → k ≡ get_or kept place k → bytes ≡ k.settled.content → bytes ≡ given_by now.stand
  lent_is place k bytes sound is item same =
      let there : slice_get kept place ≡ Some k = slice_get-get_or kept place k (lent_within place sound is) ∙ ap Some (sym item) in
      let lent : given_of kept given ≡ k.settled.content = ap (given_of kept) is ∙ ap content_of there in
      same ∙ sym lent ∙ shown job given sound.behind is ∙ ap (λ (d : DeviceTold). given_by d.stand) view
    where
      shown : (o : Option PlainJob) (g : Option ℕ) → GivesBehind o g → g ≡ Some place → given_of kept g ≡ given_by (stand_of kept o last g)
      shown None g behind is = refl
      shown (Some x) (Some y) behind is = absurd behind
      shown (Some x) None behind is = cc

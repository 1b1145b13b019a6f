-- The figures of a device.
use Rattle.std.specs.Prelude.{◌==◌, is_some}
use Rattle.std.proofs.Common.{◌≡◌, ◌⊎◌, inl, inr, ℕ, ◌<◌, ◌≤◌, ◌+◌, ◌-◌, ◌*◌, ◌/◌, Bool, true, false, if◌then◌else◌, List, [], ◌∷◌, map, Option, Some, None, refl, sym, ap, subst, arith}
use Rattle.std.proofs.Math.Nat.{div-le_self, div-eq_of_lt-le}
use Rattle.std.proofs.lemmas.Bool.{cases_Bool}
use Rattle.nv_base.specs.declared.instance.DeviceNumber.{DeviceNumber}
use Rattle.nv_base.specs.declared.mark.Mark.{Mark}
use Rattle.nv_base.specs.declared.mark.Mark.TheVariants.{Content, Invalid, Erased}
use Rattle.nv_base.specs.Lengths.{AreLengths}
use Rattle.nv_base.specs.Pages.{record_pages_of}
use Rattle.memif.specs.Told.{Stand, Open, Ended, Figures, at_number, no_figures, length_of, most_of, most_open, op_of}
use Rattle.fee_course.specs.Copies.{copies_most, greatest}
use Rattle.fee_course.specs.Course.{most_turns}
use Rattle.fee_told.specs.Figures.{figures_for, fixed_for, OpenWork, turns_owed, turns_of, left_of, FitsMark, ready_of, Waits, wait_of}
use Rattle.fee_told.specs.FigureLaws.{IsWork, IsNearer, LeftIsBounded, LeftFits, StartsRaise, StartsBeside, TurnsLower, ReadyIsKept, ReadyStays, UrgentStarts, UrgentNears}

-- FIGURES
pub figures_found : (p own : ℕ) (ns : List (DeviceNumber × ℕ)) (n length : ℕ) → length_of ns n ≡ Some length → at_number no_figures ns (map (λ (x : DeviceNumber × ℕ). figures_for p own x.1) ns) n ≡ figures_for p own length
figures_found p own [] n length is = cc
figures_found p own (x ∷ xs) n length is = elim (cases_Bool (x.0.0 == n)) [
  | inl e ↦ (let same : x.1 ≡ length = (let s : Some x.1 ≡ Some length = rw e at is in cc) in rw e (ap (figures_for p own) same))
  | inr e ↦ rw e (figures_found p own xs n length (rw e at is))
]

pub owed_few : (owed : Bool) → turns_owed owed ≤ 1
owed_few true = omega arith
owed_few false = omega arith

-- a job's turns, and a switch, are within its figure
job_few : (p own length : ℕ) (o : Option Mark) (w : OpenWork) → FitsMark p length o w → w.switch ≤ own → turns_of o w + w.switch ≤ own + most_of (figures_for p own length) (op_of o)
job_few p own length None w fits few = omega arith
job_few p own length (Some (Content bytes)) w fits few = omega (arith, owed_few w.owed)
job_few p own length (Some Invalid) w fits few = omega (arith, owed_few w.owed)
job_few p own length (Some Erased) w fits few = omega (arith, owed_few w.owed)

-- also without more of its own
job_alone : (p own length : ℕ) (o : Option Mark) (w : OpenWork) (before : ℕ) → FitsMark p length o w → w.switch ≤ own → (o ≡ None → w.switch ≤ before) → turns_of o w + w.switch ≤ before + most_of (figures_for p own length) (op_of o)
job_alone p own length None w before fits few read = omega (arith, read refl)
job_alone p own length (Some (Content bytes)) w before fits few read = omega (arith, owed_few w.owed)
job_alone p own length (Some Invalid) w before fits few read = omega (arith, owed_few w.owed)
job_alone p own length (Some Erased) w before fits few read = omega (arith, owed_few w.owed)

bounded_by : (p sectors reserve : ℕ) (numbers : List (DeviceNumber × ℕ)) (stand : Stand) (w : OpenWork) → IsWork p sectors numbers reserve stand w → left_of stand w ≤ (fixed_for p sectors numbers reserve).own + most_open (fixed_for p sectors numbers reserve) stand
bounded_by p sectors reserve numbers (Ended result given) w is = omega (arith, is.few)
bounded_by p sectors reserve numbers (Open j) w is =
    let own = most_turns p sectors numbers in
    rw (figures_found p own numbers j.number is.job.0 is.job.1) (job_few p own is.job.0 j.mark w is.job.2 is.few)

pub left_is_bounded : LeftIsBounded
left_is_bounded p sectors reserve numbers stand w is = bounded_by p sectors reserve numbers stand w is

-- SUMS
record_few : (p length : ℕ) → p ≤ 256 → length ≤ 4096 → record_pages_of length p ≤ 4354
record_few p length low few = omega (arith, div-le_self (length + (p - 1)) p)

copies_few : (p low : ℕ) (ns : List (DeviceNumber × ℕ)) → p ≤ 256 → low ≤ 65535 → AreLengths low ns → copies_most p ns ≤ 4355 * (65535 - low)
copies_few p low [] small le all = omega arith
copies_few p low (n ∷ ns) small le all = omega (arith, all.0, all.1, record_few p n.1 small all.3, copies_few p n.0.0 ns small (omega (arith, all.1)) all.4)

greatest_few : (p low : ℕ) (ns : List (DeviceNumber × ℕ)) → p ≤ 256 → AreLengths low ns → greatest p ns ≤ 4354
greatest_few p low [] small all = omega arith
greatest_few p low (n ∷ ns) small all = omega (arith, record_few p n.1 small all.3, greatest_few p n.0.0 ns small all.4)

own_few : (p sectors : ℕ) (ns : List (DeviceNumber × ℕ)) → p ≤ 256 → sectors ≤ 64 → AreLengths 0 ns → most_turns p sectors ns ≤ 300000000
own_few p sectors ns small few all = omega (arith, copies_few p 0 ns small (omega arith) all, greatest_few p 0 ns small all)

pub length_few : (low : ℕ) (ns : List (DeviceNumber × ℕ)) (n length : ℕ) → AreLengths low ns → length_of ns n ≡ Some length → length ≤ 4096
length_few low [] n length all is = cc
length_few low (x ∷ xs) n length all is = elim (cases_Bool (x.0.0 == n)) [
  | inl e ↦ (let same : x.1 ≡ length = (let s : Some x.1 ≡ Some length = rw e at is in cc) in omega (arith, same, all.3))
  | inr e ↦ length_few x.0.0 xs n length all.4 (rw e at is)
]

most_few : (p own length : ℕ) (o : Option Mark) → p ≤ 256 → length ≤ 4096 → own ≤ 300000000 → most_of (figures_for p own length) (op_of o) ≤ 300010000
most_few p own length None small few le = omega arith
most_few p own length (Some (Content bytes)) small few le = omega (arith, record_few p length small few)
most_few p own length (Some Invalid) small few le = omega (arith, record_few p 0 small (omega arith))
most_few p own length (Some Erased) small few le = omega (arith, record_few p 0 small (omega arith))

pub left_fits : LeftFits
left_fits p sectors reserve numbers (Ended result given) w small few all is = omega (arith, is.few, own_few p sectors numbers small few all)
left_fits p sectors reserve numbers (Open j) w small few all is =
    let own = most_turns p sectors numbers in
    let le = own_few p sectors numbers small few all in
    let a = job_few p own is.job.0 j.mark w is.job.2 is.few in
    let b = most_few p own is.job.0 j.mark small (length_few 0 numbers j.number is.job.0 all is.job.1) le in
    omega (arith, a, b, le)

pub starts_raise : StartsRaise
starts_raise p sectors reserve numbers j w next is low read =
    let own = most_turns p sectors numbers in (
      omega (arith, low),
      rw (figures_found p own numbers j.number is.job.0 is.job.1) (job_alone p own is.job.0 j.mark next w.switch is.job.2 is.few read),
    )

-- a mark without content has no more pages than one with
marks_few : (p length : ℕ) → 1 ≤ p → record_pages_of 0 p ≤ record_pages_of length p
marks_few p length some =
    let none : (0 + (p - 1)) / p ≡ 0 = div-eq_of_lt-le p (omega arith) (omega (arith, some)) in
    omega (arith, none)

-- so a job's turns are those of its number's record, and of an owed gate
turns_few : (p own length : ℕ) (o : Option Mark) (w : OpenWork) → 1 ≤ p → FitsMark p length o w → turns_of o w ≤ (if is_some o then (figures_for p own length).pages else 0) + 1
turns_few p own length None w some fits = omega arith
turns_few p own length (Some (Content bytes)) w some fits = omega (arith, owed_few w.owed)
turns_few p own length (Some Invalid) w some fits = omega (arith, owed_few w.owed, marks_few p length some)
turns_few p own length (Some Erased) w some fits = omega (arith, owed_few w.owed, marks_few p length some)

beside_by : (urgent : Bool) (turns switch next pages : ℕ) → turns ≤ pages + 1 → next ≤ switch + (if urgent then pages + 1 else 0) → turns + next ≤ switch + (if urgent then 2 else 1) * (pages + 1)
beside_by true turns switch next pages few more = omega arith
beside_by false turns switch next pages few more = omega arith

pub starts_beside : StartsBeside
starts_beside p sectors reserve numbers j w next some is more =
    let own = most_turns p sectors numbers in
    let few = subst (λ (f : Figures). turns_of j.mark next ≤ (if is_some j.mark then f.pages else 0) + 1) (sym (figures_found p own numbers j.number is.0 is.1)) (turns_few p own is.0 j.mark next some is.2) in
    beside_by j.urgent (turns_of j.mark next) w.switch next.switch _ few more

-- TURNS
lower_by : (o : Option Mark) (w next : OpenWork) → (o ≡ None → ⊥) → IsNearer w next → turns_of o next + next.switch < turns_of o w + w.switch
lower_by None w next other nearer = absurd (other refl)
lower_by (Some mark) w next other (a, b, inl less) = omega arith
lower_by (Some mark) w next other (a, b, inr less) = omega arith

pub turns_lower : TurnsLower
turns_lower j w next other nearer = lower_by j.mark w next other nearer

-- URGENT WRITES
pub ready_is_kept : ReadyIsKept
ready_is_kept reserve free true = omega arith
ready_is_kept reserve free false = omega arith

stays_by : (reserve free next : ℕ) (seals then_seals : Bool) → (then_seals ≡ true) ⊎ (((free ≤ next) × (seals ≡ false)) ⊎ (reserve ≤ next)) → ready_of reserve seals free ≤ ready_of reserve then_seals next
stays_by reserve free next true true why = omega arith
stays_by reserve free next false true why = omega arith
stays_by reserve free next true false (inl is) = cc
stays_by reserve free next true false (inr (inl (le, is))) = cc
stays_by reserve free next true false (inr (inr le)) = omega arith
stays_by reserve free next false false (inl is) = cc
stays_by reserve free next false false (inr (inl (le, is))) = omega arith
stays_by reserve free next false false (inr (inr le)) = omega arith

pub ready_stays : ReadyStays
ready_stays = stays_by

starts_ready : (reserve free next s : ℕ) (seals : Bool) → s ≤ ready_of reserve seals free → free ≤ next + s → ready_of reserve seals free - s ≤ ready_of reserve seals next
starts_ready reserve free next s true le more = omega arith
starts_ready reserve free next s false le more = omega arith

pub urgent_starts : UrgentStarts
urgent_starts reserve free next s seals w calm le more = (starts_ready reserve free next s seals le more, (w.before, w.before + s, rw calm refl, refl, omega arith))

nears : (w next : Waits) (v : ℕ) (p q : Bool) → w.promised ≡ p → next.promised ≡ q → q ≡ p → w.urgent ≡ true → next.urgent ≡ true → next.before + next.pages < w.before + w.pages → wait_of w ≡ Some v → (u : ℕ) × (wait_of next ≡ Some u) × (u < v)
nears w next v true true was now same urgent still less is =
    let e : w.before + w.pages ≡ v = (let s : Some (w.before + w.pages) ≡ Some v = rw (urgent, was) at is in cc) in
    (next.before + next.pages, rw (still, now) refl, omega (arith, e))
nears w next v false q was now same urgent still less is = (let s : None ≡ Some v = rw (urgent, was) at is in cc)
nears w next v true false was now same urgent still less is = cc

pub urgent_nears : UrgentNears
urgent_nears w next v urgent still same less is = nears w next v w.promised next.promised refl refl same urgent still less is

-- What is in order at any time.
use Rattle.std.specs.Prelude.{nat_le, take, ◌&&◌, map, option_map, if◌then◌else◌}
use Rattle.std.proofs.Common.{◌≡◌, ◌≤◌, ◌==◌, ℕ, Bool, true, false, List, [], ◌∷◌, Option, Some, None, refl, sym, ap, ◌∙◌, subst, arith}
use Rattle.std.proofs.lemmas.Bool.{cond_both}
use Rattle.nv_base.specs.Geometry.{IsLegal, sectors_of_bank}
use Rattle.nv_base.specs.Lengths.{AreLengths}
use Rattle.nv_base.specs.declared.instance.DeviceNumber.{DeviceNumber}
use Rattle.memif.specs.Told.{DeviceTold, Part, First, Figures, Fixed, Job, Stand, Open, Slot, figures_at, at_number, no_figures}
use Rattle.memif.specs.declared.answer.JobResult.{JobResult}
use Rattle.memif.specs.Calls.{InOrder, IsOf, urgent_first, is_first}
use Rattle.memif.specs.Clock.{FindsNow, ArePossible}
use Rattle.fls_model.specs.Told.{Told, ToldBytes}
use Rattle.fee_switch_laws.specs.fee_log.declared.tail.Tail.{Tail}
use Rattle.fee_switch_laws.specs.fee_log.declared.tail.Tail.TheVariants as tail
use Rattle.promise_device.specs.Making.{Making, banks_of}
use Rattle.fee_told.specs.Slots.{slots_found}
use Rattle.fee_told.specs.Device.{Device, tells_now, told_of, slots_in, clock_of, flash_device}
use Rattle.fee_told.specs.Figures.{figures_for, wait_of, turns_owed}
use Rattle.fee_told.specs.FigureLaws.{IsWork}
use Rattle.fee_told.proofs.Figures.{left_fits, left_is_bounded, ready_is_kept}
use Rattle.fee_told.proofs.Steps.{places_tell}
use Rattle.fee_told.proofs.Whole.{held_finds_now}
use Rattle.fee_laws.specs.declared.job.FeeJob.{FeeJob}
use Rattle.fee_laws.specs.Inside.{Parts, mark_of, stand_of, device_of, fixed_in, HoldsBehind}
use Rattle.fee_laws.specs.Work.{is_owed, turns_before, seal_turns, waits_of, work_of, pages_free}
use Rattle.fee_laws.proofs.CallOrder.{few_before}
use Rattle.fee_told.proofs.Clocks.{tells_first}
use Rattle.fee_told.specs.fls_told.Clock.{ToldAlike}

-- THE ONE PART
each_first : (p own : ℕ) (all ns : List (DeviceNumber × ℕ)) (n : ℕ) → (at_number no_figures all (map (λ (x : DeviceNumber × ℕ). figures_for p own x.1) ns) n).part ≡ First
each_first p own [] ns n = refl
each_first p own (x ∷ xs) [] n = refl
each_first p own (x ∷ xs) (y ∷ ys) n =
    cond_both (x.0.0 == n) (figures_for p own y.1) (at_number no_figures xs (map (λ (z : DeviceNumber × ℕ). figures_for p own z.1) ys) n) (λ (f : Figures). f.part ≡ First) (λ e. refl) (λ e. each_first p own xs ys n)

pub first_of : (m : Making) (n : ℕ) → (figures_at (fixed_in m) n).part ≡ First
first_of m n = each_first m.geometry.page (fixed_in m).own m.numbers m.numbers n

-- a job of the device is urgent in the first part where it is
pub urgent_is : (m : Making) (j : Job) → urgent_first (fixed_in m) (Open j) ≡ j.urgent
urgent_is m j = ap (λ (p : Part). j.urgent && is_first p) (first_of m j.number) ∙ by_test j.urgent
  where
    by_test : (b : Bool) → b && true ≡ b
    by_test true = refl
    by_test false = refl

-- any job of the device is of the first part
pub is_of_first : (m : Making) (content : List ℕ) (o : Option FeeJob) (last : JobResult) (given : ℕ) → IsOf First (fixed_in m) (stand_of content o last given)
is_of_first m content None last given = refl
is_of_first m content (Some j) last given = (tt, sym (first_of m j.number.0))

-- BEFORE AN URGENT WRITE
owed_one : (t : Tail) → turns_owed (is_owed t) ≤ 1
owed_one tail.Open = omega arith
owed_one (tail.Writes h done) = omega arith
owed_one (tail.Owes h next) = omega arith
owed_one tail.Closed = omega arith

-- FOUND NOW
pub tells_by : (b : Bool) (o : Option ToldBytes) (f g : List ℕ → List Slot) → ((x : List ℕ) → f x ≡ g x)
    → (if b then option_map f (option_map (λ (y : ToldBytes). y.now) o) else None) ≡ (if b then option_map g (option_map (λ (y : ToldBytes). y.now) o) else None)
tells_by false o f g same = refl
tells_by true None f g same = refl
tells_by true (Some y) f g same = ap (λ (x : List Slot). Some x) (same y.now)

possible_so : (old new : DeviceTold) (x y : Option (List Slot)) (m : _) → new.fixed ≡ old.fixed → x ≡ y → ArePossible old x m → ArePossible new y m
possible_so old new x y m fixed same is = subst (λ (f : Fixed). ArePossible (record new { fixed = f }) y m) (sym fixed) (subst (λ (o : Option (List Slot)). ArePossible (record new { fixed = old.fixed }) o m) same is)

-- what the bytes of another memory's banks show is possible by its own, where the places and the job are the same
pub behind_finds : (d : Device) → d.started ≡ true → HoldsBehind d → FindsNow (told_of d) (clock_of d)
behind_finds d started h m found =
    let e : Device = record d { memory = h.behind } in
    let now = held_finds_now e h.copied h.banks m (record { told = found.told; made = found.made; small = found.small; image = found.image; is = found.is; finds = found.finds }) in
    possible_so (told_of e) (told_of d) (told_of e).slots (told_of d).slots m refl (tells_by (tells_now d) d.flash.bytes (slots_in e) (slots_in d) same) now
  where
    same : (x : List ℕ) → slots_in (record d { memory = h.behind }) x ≡ slots_in d x
    same x =
        let l = banks_of d.making in
        ap (λ (z : List Slot). if d.started then z else slots_found l d.making.numbers x) (sym (places_tell l d.making.numbers x h.behind d.memory h.places (sym h.stand)))

-- IN ORDER
module _ (m : Making) (entry : Told) (t : Parts) (shape : IsLegal m.geometry) (lengths : AreLengths 0 m.numbers) where
  abbrev e : Device
  e = device_of m entry t

  abbrev stand : Stand
  stand = stand_of t.content t.job t.last t.given

  abbrev sectors : ℕ
  sectors = sectors_of_bank m.geometry m.banks

  few_sectors : sectors ≤ 64
  few_sectors = let h = shape.sectors_high in omega (arith, h)

  abbrev before : ℕ
  before = turns_before t.banks.log.tail (seal_turns t.banks.course)

  waits_by : (o : Option FeeJob) → urgent_first (fixed_in m) (stand_of t.content o t.last t.given) ≡ false → (w : ℕ) × (wait_of (waits_of t.banks o) ≡ Some w) × (w ≤ 2)
  waits_by None e = (before, refl, few_before t.banks.log.tail t.banks.course)
  waits_by (Some j) e =
      let calm : j.urgent ≡ false = sym (urgent_is m (record { number = j.number.0; mark = mark_of j.op (take j.length t.content); urgent = j.urgent })) ∙ e in
      (before, ap (λ (b : Bool). if b then wait_of (record (waits_of t.banks (Some j)) { urgent = true }) else Some before) calm, few_before t.banks.log.tail t.banks.course)

  pub in_order : IsWork m.geometry.page sectors m.numbers m.reserve stand (work_of m.reserve t.banks t.job) → ToldAlike (flash_device e) → FindsNow (told_of e) (clock_of e) → InOrder (told_of e) (clock_of e)
  in_order work alike now = record {
    bounded = left_is_bounded m.geometry.page sectors m.reserve m.numbers stand (work_of m.reserve t.banks t.job) work;
    fits = left_fits m.geometry.page sectors m.reserve m.numbers stand (work_of m.reserve t.banks t.job) shape.page_high few_sectors lengths work;
    ready = ready_is_kept m.reserve (pages_free t.banks t.job) (nat_le 1 (seal_turns t.banks.course));
    wait = waits_by t.job;
    second = λ one. refl;
    now = now;
    told = tells_first (flash_device e) alike;
  }

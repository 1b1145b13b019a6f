-- Bounds of the turns that are left, and the figures of a number.
use Rattle.std.specs.Prelude.{map, ◌&&◌}
use Rattle.std.proofs.Common.{◌≡◌, ◌≤◌, ◌+◌, ◌*◌, ◌==◌, ℕ, Bool, true, false, if◌then◌else◌, List, [], ◌∷◌, Some, refl, ap, arith}
use Rattle.std.proofs.lemmas.Bool.{cond_both}
use Rattle.nv_base.specs.Pages.{record_pages_of}
use Rattle.nv_base.specs.declared.instance.DeviceNumber.{DeviceNumber}
use Rattle.memif.specs.Told.{Part, First, Figures, at_number, no_figures, length_of}
use Rattle.memif.specs.Calls.{is_first}
use Rattle.fee_course.specs.Copies.{copies_most}
use Rattle.fee_told.specs.Figures.{figures_for, wait_of}
use Rattle.fee_switch_laws.specs.Space.{all_pages}

-- each number is of the first part, with the figures of its length
pub part_is : (p own : ℕ) (ns : List (DeviceNumber × ℕ)) (n : ℕ) → (at_number no_figures ns (map (λ x. figures_for p own x.1) ns) n).part ≡ First
part_is p own [] n = refl
part_is p own (x ∷ xs) n =
    cond_both (x.0.0 == n) (figures_for p own x.1) (at_number no_figures xs (map (λ y. figures_for p own y.1) xs) n) (λ (f : Figures). f.part ≡ First) (λ e. refl) (λ e. part_is p own xs n)

pages_by : (p own : ℕ) (x : DeviceNumber × ℕ) (xs : List (DeviceNumber × ℕ)) (n length : ℕ)
    → (length_of xs n ≡ Some length → (at_number no_figures xs (map (λ y. figures_for p own y.1) xs) n).pages ≡ record_pages_of length p)
    → (b : Bool) → (if b then Some x.1 else length_of xs n) ≡ Some length
    → (if b then figures_for p own x.1 else at_number no_figures xs (map (λ y. figures_for p own y.1) xs) n).pages ≡ record_pages_of length p
pages_by p own x xs n length rest true e = ap (λ (k : ℕ). record_pages_of k p) (cc e)
pages_by p own x xs n length rest false e = rest e

pub pages_are : (p own : ℕ) (ns : List (DeviceNumber × ℕ)) (n length : ℕ) → length_of ns n ≡ Some length → (at_number no_figures ns (map (λ x. figures_for p own x.1) ns) n).pages ≡ record_pages_of length p
pages_are p own [] n length is = cc is
pages_are p own (x ∷ xs) n length is = pages_by p own x xs n length (λ e. pages_are p own xs n length e) (x.0.0 == n) is

-- a copy of a number is among those of all
copy_by : (p : ℕ) (x : DeviceNumber × ℕ) (xs : List (DeviceNumber × ℕ)) (n length : ℕ) → (length_of xs n ≡ Some length → record_pages_of length p + 1 ≤ copies_most p xs)
    → (b : Bool) → (if b then Some x.1 else length_of xs n) ≡ Some length → record_pages_of length p + 1 ≤ record_pages_of x.1 p + 1 + copies_most p xs
copy_by p x xs n length rest true e = (let same : x.1 ≡ length = cc e in let pages : record_pages_of x.1 p ≡ record_pages_of length p = ap (λ (k : ℕ). record_pages_of k p) same in omega arith)
copy_by p x xs n length rest false e = (let less = rest e in omega arith)

pub copy_among : (p : ℕ) (ns : List (DeviceNumber × ℕ)) (n length : ℕ) → length_of ns n ≡ Some length → record_pages_of length p + 1 ≤ copies_most p ns
copy_among p [] n length is = cc is
copy_among p (x ∷ xs) n length is = copy_by p x xs n length (λ e. copy_among p xs n length e) (x.0.0 == n) is

-- all copies take no more turns than twice the pages of all records
pub copies_few : (p : ℕ) (ns : List (DeviceNumber × ℕ)) → copies_most p ns ≤ 2 * all_pages p ns
copies_few p [] = omega arith
copies_few p (x ∷ xs) = let less = copies_few p xs in omega arith

-- with no urgent job of the first part open an urgent write waits for what is before it
pub calm_waits : (before pages : ℕ) (urgent promised : Bool) (part : Part) → part ≡ First → urgent && is_first part ≡ false → before ≤ 2
    → (w : ℕ) × (wait_of (record { before = before; urgent = urgent; promised = promised; pages = pages }) ≡ Some w) × (w ≤ 2)
calm_waits before pages true promised part first calm few = absurd (cc (calm, ap is_first first))
calm_waits before pages false promised part first calm few = (before, refl, few)

-- Looking a number up.
use Rattle.std.specs.Prelude.{option_map}
use Rattle.std.specs.List.{All}
use Rattle.std.proofs.Common.{◌≡◌, ◌≢◌, ◌+◌, ◌==◌, ℕ, suc, Bool, true, false, if◌then◌else◌, List, [], ◌∷◌, get_or, Option, Some, None, refl, sym, ap, ◌∙◌, subst, arith, add-one}
use Rattle.std.proofs.lemmas.Bool.Decides.{nat_tests}
use Rattle.nv_base.specs.Lengths.{place_of}
use Rattle.nv_base.specs.declared.instance.DeviceNumber.{DeviceNumber}
use Rattle.memif.specs.Told.{length_of, figures_at, no_figures}
use Rattle.fls_model.specs.Told.{Told}
use Rattle.ea_told.specs.Making.{Making, entry_from, entry_of, at_entry}
use Rattle.ea_told.specs.Parts.{Parts}
use Rattle.ea_told.specs.Device.{figures_for, fixed_for}
use Rattle.ea_told.specs.Inside.{IsSound}
use Rattle.ea_told.proofs.Lists.{pair, entry_is}
use Rattle.ea_told.proofs.Order.{figures_are}

abbrev Entries : Type 0
Entries = List (DeviceNumber × ℕ)

abbrev Entry : Type 0
Entry = ℕ × (DeviceNumber × ℕ)

abbrev none_of : DeviceNumber × ℕ
none_of = (record { 0 = 0 }, 0)

-- A PLACE
later_at : (x : DeviceNumber × ℕ) (xs : Entries) (n j i : ℕ) (o : Option ℕ) → ((k : ℕ) → o ≡ Some k → entry_from (suc j) xs n ≡ Some (suc j + k, get_or xs k none_of))
    → option_map (λ place. place + 1) o ≡ Some i → entry_from (suc j) xs n ≡ Some (j + i, get_or (x ∷ xs) i none_of)
later_at x xs n j i None rest is = cc is
later_at x xs n j i (Some k) rest is =
    let at : suc k ≡ i = sym (add-one k) ∙ cc is in
    let place : suc j + k ≡ j + suc k = omega arith in
    subst (λ (h : ℕ). entry_from (suc j) xs n ≡ Some (j + h, get_or (x ∷ xs) h none_of)) at
    (subst (λ (h : ℕ). entry_from (suc j) xs n ≡ Some (h, get_or xs k none_of)) place (rest k refl))

at_by : (x : DeviceNumber × ℕ) (xs : Entries) (n j i : ℕ) → ((k : ℕ) → place_of xs n ≡ Some k → entry_from (suc j) xs n ≡ Some (suc j + k, get_or xs k none_of))
    → (b : Bool) → (if b then Some 0 else option_map (λ place. place + 1) (place_of xs n)) ≡ Some i → (if b then Some (j, x) else entry_from (suc j) xs n) ≡ Some (j + i, get_or (x ∷ xs) i none_of)
at_by x xs n j i rest true is =
    let at : 0 ≡ i = cc is in
    let place : j ≡ j + 0 = omega arith in
    subst (λ (h : ℕ). Some (pair j x) ≡ Some (pair (j + h) (get_or (x ∷ xs) h none_of))) at (ap (λ (h : ℕ). Some (pair h x)) place)
at_by x xs n j i rest false is = later_at x xs n j i (place_of xs n) rest is

entry_at : (j : ℕ) (ns : Entries) (n i : ℕ) → place_of ns n ≡ Some i → entry_from j ns n ≡ Some (j + i, get_or ns i none_of)
entry_at j [] n i is = cc is
entry_at j (x ∷ xs) n i is = at_by x xs n j i (λ k at. entry_at (suc j) xs n k at) (x.0.0 == n) is

-- ITS LENGTH
abbrev entry_size : Option Entry → Option ℕ
entry_size None = None
entry_size (Some e) = Some e.1.1

length_is : (j : ℕ) (ns : Entries) (n : ℕ) → length_of ns n ≡ entry_size (entry_from j ns n)
length_is j [] n = refl
length_is j (x ∷ xs) n = by_test (x.0.0 == n) (length_is (suc j) xs n)
  where
    by_test : (b : Bool) → length_of xs n ≡ entry_size (entry_from (suc j) xs n)
        → (if b then Some x.1 else length_of xs n) ≡ entry_size (if b then Some (j, x) else entry_from (suc j) xs n)
    by_test true rest = refl
    by_test false rest = rest

length_none : (ns : Entries) (n : ℕ) → All (λ x. x.0.0 ≢ n) ns → length_of ns n ≡ None
length_none [] n none = refl
length_none (x ∷ xs) n none = grind (arith, nat_tests, none 0 x (omega arith), length_none xs n (λ k d lt. none (suc k) d (omega arith)))

-- THE NUMBER OF A DEVICE
-- as its fields show it, w, of what is known, v
module _ {m : Making} {entry : Told} {w v : Parts} (shown : w ≡ v) (sound : IsSound m entry v) (n : DeviceNumber) where
  own : w.numbers ≡ m.numbers
  own = (subst (IsSound m entry) (sym shown) sound).made_for.numbers

  pub number_at : (i : ℕ) → place_of w.numbers n.0 ≡ Some i → entry_of m n.0 ≡ Some (i, (n, (get_or w.numbers i none_of).1))
  number_at i is =
      let at : entry_from 0 w.numbers n.0 ≡ Some (0 + i, get_or w.numbers i none_of) = entry_at 0 w.numbers n.0 i is in
      let place : 0 + i ≡ i = omega arith in
      let here : entry_from 0 w.numbers n.0 ≡ Some (i, get_or w.numbers i none_of) = at ∙ ap (λ (h : ℕ). Some (pair h (get_or w.numbers i none_of))) place in
      let same = (entry_is 0 w.numbers n.0 i (get_or w.numbers i none_of) here).number in
      let named : get_or w.numbers i none_of ≡ (n, (get_or w.numbers i none_of).1) = (λ k. (record { 0 = same k }, (get_or w.numbers i none_of).1)) in
      ap (λ (ns : Entries). entry_from 0 ns n.0) (sym own) ∙ here ∙ ap (λ (x : DeviceNumber × ℕ). Some (pair i x)) named

  pub size_at : (i : ℕ) → place_of w.numbers n.0 ≡ Some i → length_of m.numbers n.0 ≡ Some (get_or w.numbers i none_of).1
  size_at i is = length_is 0 m.numbers n.0 ∙ ap entry_size (number_at i is)

  pub number_none : All (λ x. x.0.0 ≢ n.0) w.numbers → length_of m.numbers n.0 ≡ None
  number_none none = ap (λ (ns : Entries). length_of ns n.0) (sym own) ∙ length_none w.numbers n.0 none

-- its figures
pub figures_found : (m : Making) (n : DeviceNumber) (i size : ℕ) → entry_of m n.0 ≡ Some (i, (n, size)) → figures_at (fixed_for m) n.0 ≡ figures_for m.geometry.page size
figures_found m n i size is = figures_are m n.0 ∙ ap (at_entry no_figures (λ (k : ℕ) (x : DeviceNumber × ℕ). figures_for m.geometry.page x.1)) is

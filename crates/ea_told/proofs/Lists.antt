-- What is said of each number.
use Rattle.std.specs.Prelude.{◌==◌, if◌then◌else◌, slice_get, map}
use Rattle.std.proofs.Common.{◌≡◌, inl, inr, ◌<◌, ◌≤◌, ◌+◌, ◌-◌, ℕ, suc, Bool, true, false, List, [], ◌∷◌, Some, length, refl, sym, ap, ◌∙◌, subst, arith}
use Rattle.std.proofs.lemmas.Bool.{cases_Bool}
use Rattle.nv_base.specs.declared.instance.DeviceNumber.{DeviceNumber}
use Rattle.nv_base.specs.Lengths.{AreLengths}
use Rattle.memif.specs.Told.{at_number}
use Rattle.fee_format.proofs.Tests.{eq_is}
use Rattle.ea_told.specs.Making.{entry_from, at_entry, listed, AllFit}

abbrev Entries : Type 0
Entries = List (DeviceNumber × ℕ)

-- AT A NUMBER
pub at_listed : {A : Type 0} (none : A) (f : ℕ → DeviceNumber × ℕ → A) (j : ℕ) (numbers : Entries) (n : ℕ) → at_number none numbers (listed f j numbers) n ≡ at_entry none f (entry_from j numbers n)
at_listed none f j [] n = refl
at_listed none f j (x ∷ xs) n = by_test (x.0.0 == n) (at_listed none f (suc j) xs n)
  where
    by_test : (b : Bool) → at_number none xs (listed f (suc j) xs) n ≡ at_entry none f (entry_from (suc j) xs n)
        → (if b then f j x else at_number none xs (listed f (suc j) xs) n) ≡ at_entry none f (if b then Some (j, x) else entry_from (suc j) xs n)
    by_test true rest = refl
    by_test false rest = rest

-- of things that are said by the entry alone
pub at_mapped : {A : Type 0} (none : A) (f : DeviceNumber × ℕ → A) (j : ℕ) (numbers : Entries) (n : ℕ) → at_number none numbers (map f numbers) n ≡ at_entry none (λ i x. f x) (entry_from j numbers n)
at_mapped none f j [] n = refl
at_mapped none f j (x ∷ xs) n = by_test (x.0.0 == n) (at_mapped none f (suc j) xs n)
  where
    by_test : (b : Bool) → at_number none xs (map f xs) n ≡ at_entry none (λ i x. f x) (entry_from (suc j) xs n)
        → (if b then f x else at_number none xs (map f xs) n) ≡ at_entry none (λ i x. f x) (if b then Some (j, x) else entry_from (suc j) xs n)
    by_test true rest = refl
    by_test false rest = rest

-- ENTRIES
abbrev Entry : Type 0
Entry = ℕ × (DeviceNumber × ℕ)

abbrev pub pair : ℕ → DeviceNumber × ℕ → Entry
pair i x = (i, x)

some_entry : (a b : Entry) → Some a ≡ Some b → a ≡ b
some_entry a b e = cc e

pub same_entry : (i k : ℕ) (x y : DeviceNumber × ℕ) → Some (pair i x) ≡ Some (pair k y) → (i ≡ k) × (x ≡ y)
same_entry i k x y e =
    let same = some_entry (pair i x) (pair k y) e in
    (ap (λ (z : Entry). z.0) same, ap (λ (z : Entry). z.1) same)

pub record IsEntry (j : ℕ) (numbers : Entries) (n i : ℕ) (x : DeviceNumber × ℕ) : Type 0 where
  pub low : j ≤ i
  pub high : i < j + length numbers
  pub number : x.0.0 ≡ n
  pub at : slice_get numbers (i - j) ≡ Some x

entry_head : (j : ℕ) (x : DeviceNumber × ℕ) (xs : Entries) (n i : ℕ) (y : DeviceNumber × ℕ) → x.0.0 ≡ n → Some (pair j x) ≡ Some (pair i y) → IsEntry j (x ∷ xs) n i y
entry_head j x xs n i y same e =
    let place = (same_entry j i x y e).0 in
    let is = (same_entry j i x y e).1 in
    subst (λ (k : ℕ). IsEntry j (x ∷ xs) n k y) place
    (subst (λ (z : DeviceNumber × ℕ). IsEntry j (x ∷ xs) n j z) is
    (record { low = omega arith; high = omega arith; number = same; at = ap (slice_get (x ∷ xs)) (let z : j - j ≡ 0 = omega arith in z) }))

entry_tail : (j : ℕ) (x : DeviceNumber × ℕ) (xs : Entries) (n i : ℕ) (y : DeviceNumber × ℕ) → IsEntry (suc j) xs n i y → IsEntry j (x ∷ xs) n i y
entry_tail j x xs n i y is = record {
  low = omega (arith, is.low);
  high = omega (arith, is.high);
  number = is.number;
  at = ap (slice_get (x ∷ xs)) (let low = is.low in let z : i - j ≡ suc (i - suc j) = omega arith in z) ∙ is.at;
}

pub entry_is : (j : ℕ) (numbers : Entries) (n i : ℕ) (x : DeviceNumber × ℕ) → entry_from j numbers n ≡ Some (i, x) → IsEntry j numbers n i x
entry_is j [] n i x e = cc e
entry_is j (y ∷ ys) n i x e = elim (cases_Bool (y.0.0 == n)) [
  | inl t ↦ entry_head j y ys n i x ((eq_is y.0.0 n).0 t) (sym (ap (λ (b : Bool). if b then Some (j, y) else entry_from (suc j) ys n) t) ∙ e)
  | inr f ↦ entry_tail j y ys n i x (entry_is (suc j) ys n i x (sym (ap (λ (b : Bool). if b then Some (j, y) else entry_from (suc j) ys n) f) ∙ e))
]

-- one place has one number
pub same_number : (j : ℕ) (numbers : Entries) (n k i : ℕ) (x y : DeviceNumber × ℕ) → entry_from j numbers n ≡ Some (i, x) → entry_from j numbers k ≡ Some (i, y) → n ≡ k
same_number j numbers n k i x y e f =
    let a = entry_is j numbers n i x e in
    let b = entry_is j numbers k i y f in
    let at = a.at in
    let at' = b.at in
    let same : x ≡ y = cc (at, at') in
    sym a.number ∙ ap (λ (z : DeviceNumber × ℕ). z.0.0) same ∙ b.number

-- and one number one place
pub same_place : (j : ℕ) (numbers : Entries) (n i k : ℕ) (x y : DeviceNumber × ℕ) → entry_from j numbers n ≡ Some (i, x) → entry_from j numbers n ≡ Some (k, y) → (i ≡ k) × (x ≡ y)
same_place j numbers n i k x y e f = same_entry i k x y (sym e ∙ f)

-- LENGTHS
pub entry_length : (low j : ℕ) (numbers : Entries) (sector n i : ℕ) (x : DeviceNumber × ℕ) → AreLengths low numbers → AllFit sector numbers → entry_from j numbers n ≡ Some (i, x) → (1 ≤ x.1) × (x.1 ≤ 4096) × (x.1 ≤ sector)
entry_length low j [] sector n i x lengths fit e = cc e
entry_length low j (y ∷ ys) sector n i x lengths fit e = elim (cases_Bool (y.0.0 == n)) [
  | inl t ↦
      let same = (same_entry j i y x (sym (ap (λ (b : Bool). if b then Some (j, y) else entry_from (suc j) ys n) t) ∙ e)).1 in
      subst (λ (z : DeviceNumber × ℕ). (1 ≤ z.1) × (z.1 ≤ 4096) × (z.1 ≤ sector)) same (lengths.2, lengths.3, fit.0)
  | inr f ↦ entry_length y.0.0 (suc j) ys sector n i x lengths.4 fit.1 (sym (ap (λ (b : Bool). if b then Some (j, y) else entry_from (suc j) ys n) f) ∙ e)
]

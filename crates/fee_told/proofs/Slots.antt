-- What is told of one number, and of each.
use Rattle.std.specs.Prelude.{◌==◌, nat_eq, if◌then◌else◌}
use Rattle.std.specs.Cmp.Lexicographic.{pointwise}
use Rattle.std.specs.List.{Contains}
use Rattle.std.proofs.Common.{◌≡◌, ◌⊎◌, inl, inr, ℕ, zero, suc, ◌<◌, Bool, true, false, List, [], ◌∷◌, length, Option, Some, None, refl, sym, ap, ◌∙◌, subst, arith}
use Rattle.std.proofs.lemmas.Bool.{cases_Bool, and_parts, eqb-true, eq-eqb, false≢true}
use Rattle.nv_base.specs.declared.instance.DeviceNumber.{DeviceNumber}
use Rattle.nv_base.specs.declared.mark.Mark.{Mark}
use Rattle.nv_base.specs.declared.mark.Mark.TheVariants.{Content, Invalid, Erased}
use Rattle.memif.specs.Told.{Held, never_written, Slot, Stand, Open, Ended, at_number, slot_at, no_slot, length_of}
use Rattle.memif.specs.Marks.{IsPossible, Keeps}
use Rattle.fee_image.specs.May.{IsAmong}
use Rattle.fee_told.specs.Slots.{same_mark, same_held, slot_of, left_on, job_leaves, slots_with, may_of, allowed}
use Rattle.fee_told.specs.SlotLaws.{GoesOn}

-- MARKS
list_same : (xs : List ℕ) → pointwise nat_eq xs xs ≡ true
list_same [] = refl
list_same (x ∷ xs) = rw (eq-eqb x x refl, list_same xs) refl

same_list : (xs ys : List ℕ) → pointwise nat_eq xs ys ≡ true → xs ≡ ys
same_list [] [] h = refl
same_list [] (y ∷ ys) h = absurd (false≢true h)
same_list (x ∷ xs) [] h = absurd (false≢true h)
same_list (x ∷ xs) (y ∷ ys) h =
    let parts = and_parts (nat_eq x y) (pointwise nat_eq xs ys) h in
    λ i. eqb-true x y parts.0 i ∷ same_list xs ys parts.1 i

pub mark_same : (m n : Mark) → m ≡ n → same_mark m n ≡ true
mark_same (Content a) n is = subst (λ (x : Mark). same_mark (Content a) x ≡ true) is (list_same a)
mark_same Invalid n is = subst (λ (x : Mark). same_mark Invalid x ≡ true) is refl
mark_same Erased n is = subst (λ (x : Mark). same_mark Erased x ≡ true) is refl

pub same_is : (m n : Mark) → same_mark m n ≡ true → m ≡ n
same_is (Content a) (Content b) h = ap Content (same_list a b h)
same_is (Content a) Invalid h = absurd (false≢true h)
same_is (Content a) Erased h = absurd (false≢true h)
same_is Invalid (Content b) h = absurd (false≢true h)
same_is Invalid Invalid h = refl
same_is Invalid Erased h = absurd (false≢true h)
same_is Erased (Content b) h = absurd (false≢true h)
same_is Erased Invalid h = absurd (false≢true h)
same_is Erased Erased h = refl

pair_same : (m n : Mark) (c d : ℕ) → m ≡ n → c ≡ d → let x : Held = record { mark = m; count = c } in let y : Held = record { mark = n; count = d } in x ≡ y
pair_same m n c d p q = cc

pub held_same : (a b : Held) → a ≡ b → same_held a b ≡ true
held_same a b is = subst (λ (x : Held). same_held a x ≡ true) is (rw (mark_same a.mark a.mark refl, eq-eqb a.count a.count refl) refl)

pub held_is : (a b : Held) → same_held a b ≡ true → a ≡ b
held_is a b h =
    let parts = and_parts (same_mark a.mark b.mark) (a.count == b.count) h in
    pair_same a.mark b.mark a.count b.count (same_is a.mark b.mark parts.0) (eqb-true a.count b.count parts.1)

-- LISTS
pub has_first : {A : Type 0} (x : A) (xs : List A) → Contains (x ∷ xs) x
has_first x xs = (0, (let lt : 0 < suc (length xs) = omega arith in lt), refl)

pub has_more : {A : Type 0} (x y : A) (xs : List A) → Contains xs y → Contains (x ∷ xs) y
has_more x y xs (k, lt, is) = (suc k, (let l : suc k < suc (length xs) = omega arith in l), is)

pub has_cases : {A : Type 0} (x y : A) (xs : List A) → Contains (x ∷ xs) y → (y ≡ x) ⊎ Contains xs y
has_cases x y xs (zero, lt, is) = inl (sym is)
has_cases x y xs (suc k, lt, is) = inr (k, (let l : k < length xs = omega arith in l), is)

pub has_none : {A : Type 0} (y : A) → Contains [] y → ⊥
has_none y (k, lt, is) = absurd (omega arith)

-- ONE NUMBER
beside_more : (c : Bool) (h x : Held) (more : List Held) → Contains more x → Contains (if c then more else h ∷ more) x
beside_more true h x more has = has
beside_more false h x more has = has_more h x more has

pub job_doubted : (settled shown : Held) (more : List Held) (h : Held) → Contains more h → Contains (slot_of settled shown more).doubts h
job_doubted settled shown more h has = beside_more (same_held settled shown) (shown) h more has

shown_by : (c : Bool) (settled shown : Held) (more : List Held) → same_held settled shown ≡ c → (shown ≡ settled) ⊎ Contains (if c then more else shown ∷ more) (shown)
shown_by true settled shown more is = inl (sym (held_is settled shown is))
shown_by false settled shown more is = inr (has_first (shown) more)

pub shown_possible : (settled shown : Held) (more : List Held) → IsPossible (slot_of settled shown more) (shown)
shown_possible settled shown more = shown_by (same_held settled shown) settled shown more refl

-- a doubt is what is shown, where that isn't settled, or what a job may leave
doubt_by : (c : Bool) (settled shown : Held) (more : List Held) (h : Held) → same_held settled shown ≡ c → Contains (if c then more else shown ∷ more) h → ((h ≡ shown) × (shown ≡ settled → ⊥)) ⊎ Contains more h
doubt_by true settled shown more h is has = inr has
doubt_by false settled shown more h is has = elim (has_cases (shown) h more has) [
  | inl same ↦ inl (same, λ e. false≢true (sym is ∙ held_same settled shown (sym e)))
  | inr rest ↦ inr rest
]

pub doubt_cases : (settled shown : Held) (more : List Held) (h : Held) → Contains (slot_of settled shown more).doubts h → ((h ≡ shown) × (shown ≡ settled → ⊥)) ⊎ Contains more h
doubt_cases settled shown more h has = doubt_by (same_held settled shown) settled shown more h refl has

-- no more may be found than before
pub keeps_one : (settled shown shown' : Held) (more more' : List Held) → IsPossible (slot_of settled shown more) (shown') → ((h : Held) → Contains more' h → Contains more h) → Keeps (slot_of settled shown more) (slot_of settled shown' more')
keeps_one settled shown shown' more more' possible fewer = record {
  settled = refl;
  doubts = λ h has. elim (doubt_cases settled shown' more' h has) [
    | inl (is, differs) ↦ elim possible [ inl same ↦ absurd (differs same) | inr old ↦ subst (Contains (slot_of settled shown more).doubts) (sym is) old ]
    | inr left ↦ job_doubted settled shown more h (fewer h left)
  ];
}

-- EACH NUMBER
pub slot_is : (shown : ℕ → ℕ → Held) (more : ℕ → List Mark) (numbers : List (DeviceNumber × ℕ)) (marks : List Held) (n size : ℕ) → length marks ≡ length numbers → length_of numbers n ≡ Some size
    → slot_at numbers (slots_with shown more numbers marks) n ≡ slot_of (at_number never_written numbers marks n) (shown n size) (left_on (at_number never_written numbers marks n) (more n))
slot_is shown more [] marks n size long is = cc
slot_is shown more (x ∷ xs) [] n size long is = absurd (omega arith)
slot_is shown more (x ∷ xs) (m ∷ ms) n size long is = elim (cases_Bool (x.0.0 == n)) [
  | inl e ↦
      let same : x.1 ≡ size = (let s : Some x.1 ≡ Some size = rw e at is in cc) in
      let name : x.0.0 ≡ n = eqb-true x.0.0 n e in
      rw e (λ i. slot_of m (shown (name i) (same i)) (left_on m (more (name i))))
  | inr e ↦ rw e (slot_is shown more xs ms n size (omega arith) (rw e at is))
]

pub slot_none : (numbers : List (DeviceNumber × ℕ)) (slots : List Slot) (n : ℕ) → length_of numbers n ≡ None → slot_at numbers slots n ≡ no_slot
slot_none [] slots n is = refl
slot_none (x ∷ xs) [] n is = refl
slot_none (x ∷ xs) (s ∷ ss) n is = elim (cases_Bool (x.0.0 == n)) [
  | inl e ↦ let s : Some x.1 ≡ None = rw e at is in cc
  | inr e ↦ rw e (slot_none xs ss n (rw e at is))
]

pub keeps_same : (s : Slot) → Keeps s s
keeps_same s = record { settled = refl; doubts = λ m has. has }

-- WHAT MAY BE FOUND
among_here : (size : ℕ) (c : Bool) (s : Slot) (m : Held) → c ≡ true → IsAmong (if c then Some (s.settled ∷ s.doubts) else None) m → IsPossible s m
among_here size c s m is among =
    let has : Contains (s.settled ∷ s.doubts) m = rw is at among in
    has_cases s.settled m s.doubts has

pub possible_from : (numbers : List (DeviceNumber × ℕ)) (slots : List Slot) (n size : ℕ) (m : Held) → length_of numbers n ≡ Some size → IsAmong (may_of numbers slots n size) m → IsPossible (slot_at numbers slots n) m
possible_from numbers slots n size m is among = among_here size (size == size) (slot_at numbers slots n) m (eq-eqb size size refl) (rw is at among)

among_by : (c : Bool) (s : Slot) (m : Held) → IsPossible s m → IsAmong (if c then Some (s.settled ∷ s.doubts) else None) m
among_by false s m possible = tt
among_by true s m (inl same) = subst (Contains (s.settled ∷ s.doubts)) (sym same) (has_first s.settled s.doubts)
among_by true s m (inr more) = has_more s.settled m s.doubts more

allowed_from : (o : Option ℕ) (size : ℕ) (s : Slot) (m : Held) → (o ≡ Some size → IsPossible s m) → IsAmong (allowed o size s) m
allowed_from None size s m possible = tt
allowed_from (Some n) size s m possible = elim (cases_Bool (n == size)) [
  | inl e ↦ among_by (n == size) s m (possible (ap Some (eqb-true n size e)))
  | inr e ↦ rw e tt
]

pub among_from : (numbers : List (DeviceNumber × ℕ)) (slots : List Slot) (n size : ℕ) (m : Held) → (length_of numbers n ≡ Some size → IsPossible (slot_at numbers slots n) m) → IsAmong (may_of numbers slots n size) m
among_from numbers slots n size m possible = allowed_from (length_of numbers n) size (slot_at numbers slots n) m possible

-- JOBS
pub leaves_fewer : (old new : Stand) (n : ℕ) (s h : Held) → GoesOn old new → Contains (left_on s (job_leaves new n)) h → Contains (left_on s (job_leaves old n)) h
leaves_fewer old new n s h (inl same) has = subst (λ (x : Stand). Contains (left_on s (job_leaves x n)) h) same has
leaves_fewer old (Open j) n s h (inr shut) has = cc
leaves_fewer old (Ended result given) n s h (inr shut) has = absurd (has_none h has)

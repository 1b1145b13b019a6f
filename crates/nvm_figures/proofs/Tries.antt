-- The tries of a program that aren't started, whatever a try counts.
use Rattle.std.specs.Prelude.{slice_get}
use Rattle.std.specs.List.{list_any}
use Rattle.std.proofs.Common.{◌≡◌, ◌≢◌, ◌⊎◌, inl, inr, ℕ, zero, suc, ◌+◌, ◌-◌, ◌*◌, ◌≤◌, Bool, true, false, if◌then◌else◌, List, [], ◌∷◌, ◌++◌, length, drop, refl, sym, ap, ◌∙◌, subst, Some, None, arith, length-append}
use Rattle.std.proofs.lemmas.Bool.{cases_Bool}
use Rattle.block_machine.specs.nv_base.declared.job.Outcome.TheVariants.{First}
use Rattle.block_machine.specs.Words.{Outcome}
use Rattle.job_programs.specs.Program.{Program, settles, is_failed, is_again, next_in, after, after_by, tried}
use Rattle.nvm_figures.specs.Left.{ahead, over_tries, over_unstarted}

-- WHAT COMES NEXT
-- where a list has an element, it is followed by those behind it
next_cases : (xs : List ℕ) (n : ℕ) → ((slice_get xs n ≡ None) × (drop n xs ≡ [])) ⊎ ((i : ℕ) × (slice_get xs n ≡ Some i) × (drop n xs ≡ i ∷ drop (suc n) xs))
next_cases [] zero = inl (refl, refl)
next_cases [] (suc n) = inl (refl, refl)
next_cases (x ∷ xs) zero = inr (x, refl, refl)
next_cases (x ∷ xs) (suc n) = next_cases xs n

abbrev ahead_by : Bool → List ℕ → ℕ → List ℕ
ahead_by over indices n = if over then [] else drop n indices

-- the instance that is next, and those that are ahead
pub record IsNext (p : Program) (i : ℕ) : Type 0 where
  pub next : next_in p ≡ Some i
  pub here : list_any (settles p.kind) p.done ≡ false
  pub ahead : ahead p ≡ i ∷ drop (suc (length p.done)) p.indices

pub ahead_cases : (p : Program) → ((next_in p ≡ None) × (ahead p ≡ [])) ⊎ ((i : ℕ) × IsNext p i)
ahead_cases p = elim (cases_Bool (list_any (settles p.kind) p.done)) [
  | inl over ↦ inl (rw over refl, rw over refl)
  | inr going ↦ elim (next_cases p.indices (length p.done)) [
    | inl (none, rest) ↦ inl (rw going none, rw going rest)
    | inr (i, some, rest) ↦ inr (i, record { next = rw going some; here = going; ahead = rw going rest })
  ]
]

pub over_ahead : (p : Program) → next_in p ≡ None → ahead p ≡ []
over_ahead p over = elim (ahead_cases p) [
  | inl (none, rest) ↦ rest
  | inr (i, is) ↦ let clash : None ≡ Some i = sym over ∙ is.next in cc
]

pub next_ahead : (p : Program) (i : ℕ) → next_in p ≡ Some i → IsNext p i
next_ahead p i some = elim (ahead_cases p) [
  | inl (none, rest) ↦ let clash : None ≡ Some i = sym none ∙ some in cc
  | inr (j, is) ↦ let same : j ≡ i = cc in subst (IsNext p) same is
]

-- SUMS
pub unstarted_fresh : (count : ℕ → ℕ) (p : Program) (is : List ℕ) → p.failures ≡ 0 → over_unstarted count p false is ≡ over_tries count p.retries is
unstarted_fresh count p [] none = refl
unstarted_fresh count p (i ∷ is) none = ap (λ n. n * count i + over_tries count p.retries is) (let same : p.retries + 1 - p.failures ≡ p.retries + 1 = omega (arith, none) in same)

-- behind the instance that a program is at
tail_below : (count : ℕ → ℕ) (p : Program) (busy : Bool) (i : ℕ) (is : List ℕ) → over_tries count p.retries is ≤ over_unstarted count p busy (i ∷ is)
tail_below count p busy i is = omega arith

-- at the instance itself
again_same : (count : ℕ → ℕ) (p : Program) (is : List ℕ) → over_unstarted count (record p { failures = p.failures + 1 }) false is ≡ over_unstarted count p true is
again_same count p [] = refl
again_same count p (i ∷ is) = ap (λ n. n * count i + over_tries count p.retries is) (let same : p.retries + 1 - (p.failures + 1) ≡ p.retries - p.failures = omega arith in same)

-- the start of a try takes it from those that aren't started
pub start_takes : (count : ℕ → ℕ) (p : Program) (i : ℕ) (is : List ℕ) → p.failures ≤ p.retries
    → over_unstarted count p true (i ∷ is) + count i ≡ over_unstarted count p false (i ∷ is)
start_takes count p i is few =
    let one : p.retries + 1 - p.failures ≡ (p.retries - p.failures) + 1 = omega (arith, few) in
    rw one (omega arith)

-- AN OUTCOME
abbrev done_more : Program → Outcome → Program
done_more p o = record p { done = p.done ++ o ∷ []; failures = 0 }

ahead_more : (p : Program) (o : Outcome) → (ahead (done_more p o) ≡ []) ⊎ (ahead (done_more p o) ≡ drop (suc (length p.done)) p.indices)
ahead_more p o =
    let one : length (p.done ++ o ∷ []) ≡ suc (length p.done) = omega (arith, length-append p.done (o ∷ [])) in
    by (list_any (settles p.kind) (p.done ++ o ∷ [])) (length (p.done ++ o ∷ [])) one
  where
    by : (over : Bool) (n : ℕ) → n ≡ suc (length p.done) → (ahead_by over p.indices n ≡ []) ⊎ (ahead_by over p.indices n ≡ drop (suc (length p.done)) p.indices)
    by true n e = inl refl
    by false n e = inr (ap (λ k. drop k p.indices) e)

done_less : (count : ℕ → ℕ) (p : Program) (o : Outcome) (i : ℕ) (is : List ℕ) → is ≡ drop (suc (length p.done)) p.indices
    → over_unstarted count (done_more p o) false (ahead (done_more p o)) ≤ over_unstarted count p true (i ∷ is)
done_less count p o i is rest = elim (ahead_more p o) [
  | inl none ↦ rw none (omega arith)
  | inr more ↦
      let sum : over_unstarted count (done_more p o) false (drop (suc (length p.done)) p.indices) ≡ over_tries count p.retries (drop (suc (length p.done)) p.indices)
      = unstarted_fresh count (done_more p o) (drop (suc (length p.done)) p.indices) refl in
      rw (more, sum, ← rest) (tail_below count p true i is)
]

tried_less : (count : ℕ → ℕ) (p : Program) (o : Outcome) (i : ℕ) (is : List ℕ) → ahead p ≡ i ∷ is → is ≡ drop (suc (length p.done)) p.indices
    → over_unstarted count (tried p o) false (ahead (tried p o)) ≤ over_unstarted count p true (i ∷ is)
tried_less count p o i is at rest = elim (cases_Bool (is_again o p.failures p.retries)) [
  | inl again ↦ rw again (
      let same : over_unstarted count (record p { failures = p.failures + 1 }) false (ahead p) ≡ over_unstarted count p true (ahead p) = again_same count p (ahead p) in
      let here : over_unstarted count p true (ahead p) ≡ over_unstarted count p true (i ∷ is) = ap (over_unstarted count p true) at in
      omega (arith, same, here))
  | inr last ↦ rw last (done_less count p o i is rest)
]

tries_on : (p : Program) (i : ℕ) (o : Outcome) → o ≢ First → after_by p (Some i) o ≡ tried p o
tries_on p i First some = absurd (some refl)
tries_on p i o some = refl

-- an outcome leaves no more to start than was left beside the try that it is of
pub after_less : (count : ℕ → ℕ) (p : Program) (o : Outcome) → o ≢ First
    → over_unstarted count (after p o) false (ahead (after p o)) ≤ over_unstarted count p true (ahead p)
after_less count p o some = elim (ahead_cases p) [
  | inl (none, rest) ↦
      let stays : after p o ≡ p = ap (λ n. after_by p n o) none in
      rw (stays, rest) (omega arith)
  | inr (i, is) ↦
      let goes : after p o ≡ tried p o = ap (λ n. after_by p n o) is.next ∙ tries_on p i o some in
      rw (goes, is.ahead) (tried_less count p o i (drop (suc (length p.done)) p.indices) is.ahead refl)
]

-- one that is no failure is done, so that what is ahead is what was behind it, or nothing
pub done_ahead : (p : Program) (o : Outcome) → o ≢ First → is_failed o ≡ false → (ahead (after p o) ≡ []) ⊎ (ahead (after p o) ≡ drop 1 (ahead p))
done_ahead p o some well = elim (ahead_cases p) [
  | inl (none, rest) ↦
      let stays : after p o ≡ p = ap (λ n. after_by p n o) none in
      inl (ap ahead stays ∙ rest)
  | inr (i, is) ↦
      let last : tried p o ≡ done_more p o = rw well refl in
      let goes : after p o ≡ done_more p o = ap (λ n. after_by p n o) is.next ∙ tries_on p i o some ∙ last in
      elim (ahead_more p o) [
        | inl none ↦ inl (ap ahead goes ∙ none)
        | inr more ↦ inr (ap ahead goes ∙ more ∙ sym (ap (drop 1) is.ahead))
      ]
]

-- The failed set that is found is the least.
use Rattle.std.specs.Prelude.{slice_index_or, find, map, unwrap_or, IsSome, Option, Some, None, nat_le}
use Rattle.std.specs.Option.{option_eq}
use Rattle.std.specs.Str.{bytes_eq}
use Rattle.std.proofs.Common.{◌≡◌, ℕ, zero, suc, ◌<◌, ◌≤◌, ◌==◌, Bool, true, List, [], ◌∷◌, length, refl, sym, subst, inl, inr, arith}
use Rattle.std.proofs.lemmas.Bool.{cases_Bool, eqb-false}
use Rattle.block_machine.specs.nv_base.Result.{code_of}
use Rattle.block_machine.specs.Words.{Mark, JobKind, ReadJob, WriteJob, RestoreJob, EraseJob, InvalidateJob, ReadAllJob, WriteAllJob, BlockKind, Native, Redundant, Dataset, Configuration}
use Rattle.block_machine.specs.State.{State, Job}
use Rattle.block_machine.specs.Blocks.{desc_of, block_at, settled_at, indices_by, job_block, kind_of}
use Rattle.block_machine.specs.Results.{Answer, own_of, result_of, sets_of, open_sets, same_answer}
use Rattle.block_laws.specs.Laws.{FailedSetsAreLeast}

-- SAME

eqb_self : (n : ℕ) → (n == n) ≡ true
eqb_self n = elim (cases_Bool (n == n)) [
  | inl same ↦ same
  | inr differs ↦ absurd (eqb-false n n differs refl)
]

bytes_self : (bytes : List ℕ) → bytes_eq bytes bytes ≡ true
bytes_self [] = refl
bytes_self (x ∷ xs) = rw (eqb_self x, bytes_self xs) refl

given_self : (given : Option (List ℕ)) → option_eq bytes_eq given given ≡ true
given_self None = refl
given_self (Some bytes) = bytes_self bytes

same_self : (p : Answer) → same_answer p p ≡ true
same_self p = rw (eqb_self (code_of p.0), given_self p.1) refl

-- FIND

-- each set has so many elements or more
abbrev AtLeast : ℕ → List (List ℕ) → Type 0
AtLeast n [] = Unit {0}
AtLeast n (x ∷ xs) = (n ≤ length x) × AtLeast n xs

-- no set has fewer elements than one before it
abbrev Ascends : List (List ℕ) → Type 0
Ascends [] = Unit {0}
Ascends (x ∷ xs) = AtLeast (length x) xs × Ascends xs

no_index : (k : ℕ) → k < 0 → ⊥
no_index k within = omega arith

at_least : (n : ℕ) (xs : List (List ℕ)) (x : List ℕ) (k : ℕ) → AtLeast n xs → k < length xs → slice_index_or xs k x ≡ x → n ≤ length x
at_least n [] x k least within is = absurd (no_index k within)
at_least n (y ∷ ys) x zero least within is = subst (λ z. n ≤ length z) is least.0
at_least n (y ∷ ys) x (suc k) least within is = at_least n ys x k least.1 (omega arith) is

-- what is found is there, and has no more elements than another that passes
find_least : (test : List ℕ → Bool) (xs : List (List ℕ)) (x : List ℕ) (k : ℕ) → Ascends xs → k < length xs → slice_index_or xs k x ≡ x → test x ≡ true → IsSome (find test xs) × (length (unwrap_or (find test xs) []) ≤ length x)
find_least test [] x k ascends within is passes = absurd (no_index k within)
find_least test (y ∷ ys) x zero ascends within is passes = rw (subst (λ z. test z ≡ true) (sym is) passes) (refl, subst (λ z. length y ≤ length z) is (omega arith))
find_least test (y ∷ ys) x (suc k) ascends within is passes = elim (cases_Bool (test y)) [
  | inl found ↦ rw found (refl, at_least (length y) ys x k ascends.0 (omega arith) is)
  | inr other ↦ rw other (find_least test ys x k ascends.1 (omega arith) is passes)
]

-- THE OPEN SETS

ascending_by : (f : ℕ → Mark) (kind : BlockKind) (nv index : ℕ) → Ascends (sets_of (map (λ (x : ℕ × Mark). x.0) (map (λ n. (n, f n)) (indices_by kind nv index))))
ascending_by f Native nv index = (((omega arith), tt), (tt, tt))
ascending_by f Redundant nv index = ((omega arith, (omega arith, (omega arith, tt))), ((omega arith, (omega arith, tt)), ((omega arith, tt), (tt, tt))))
ascending_by f Dataset nv index = elim (cases_Bool (nat_le nv index)) [
  | inl rom ↦ rw rom (tt, tt)
  | inr stored ↦ rw stored ((omega arith, tt), (tt, tt))
]

ascending_open : (c : Configuration) (s : State) (j : Job) (kind : JobKind) → Ascends (open_sets (own_of c s (job_block j)) j kind)
ascending_open c s j ReadJob = ascending_by (λ n. settled_at s (record { block = job_block j; index = n })) (desc_of c (job_block j)).kind (desc_of c (job_block j)).nv (block_at s (job_block j)).index
ascending_open c s j RestoreJob = (tt, tt)
ascending_open c s j WriteJob = (tt, tt)
ascending_open c s j EraseJob = (tt, tt)
ascending_open c s j InvalidateJob = (tt, tt)
ascending_open c s j ReadAllJob = (tt, tt)
ascending_open c s j WriteAllJob = (tt, tt)

pub failed_sets_are_least : FailedSetsAreLeast
failed_sets_are_least c s j failed open_set =
    let o = own_of c s (job_block j) in
    find_least (λ f. same_answer (result_of o j f) (result_of o j failed)) (open_sets o j (kind_of j)) failed open_set.0 (ascending_open c s j (kind_of j)) open_set.1 open_set.2 (same_self (result_of o j failed))

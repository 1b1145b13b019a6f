-- The failures of a program.
use Rattle.std.specs.Prelude.{Contains, nat_lt, filter, not, slice_get}
use Rattle.std.specs.List.{list_any}
use Rattle.std.proofs.Common.{◌≡◌, ◌≢◌, ℕ, zero, suc, ◌+◌, ◌*◌, ◌≤◌, ◌<◌, ◌&&◌, inl, inr, Bool, true, false, if◌then◌else◌, List, [], ◌∷◌, ◌++◌, length, map, refl, sym, ap, subst, Option, Some, None, arith}
use Rattle.std.proofs.lemmas.Bool.{and_parts, eq-eqb, ltb-true, ltb-false}
use Rattle.std.proofs.lemmas.List.Elements.{Contains-append_left, Contains-append_right}
use Rattle.std.proofs.Math.Nat.{mul-le-mul_right}
use Rattle.block_machine.specs.nv_base.declared.job.Outcome.TheVariants.{First}
use Rattle.block_machine.specs.Words.{JobKind, ReadJob, WriteJob, RestoreJob, EraseJob, InvalidateJob, Outcome}
use Rattle.block_machine.specs.State.{Job}
use Rattle.block_machine.specs.Blocks.{is_in}
use Rattle.block_machine.specs.Results.{Own, own_indices, sets_of, unwritten, open_sets, took_none}
use Rattle.job_programs.specs.Program.{Program, works, settles, is_failed, next_in, is_again, after_by}
use Rattle.job_programs.specs.Laws.{failed_of, Works}
use Rattle.job_programs.specs.Failures.{served_of, FailedAreOpen, failed_tries, TriesAreCounted, TriesArePriced}

-- SETS OF A READ
mapped : (x : ℕ) (sets : List (List ℕ)) (ys : List ℕ) → Contains sets ys → Contains (map (λ zs. x ∷ zs) sets) (x ∷ ys)
mapped x [] ys (k, few, is) = absurd (omega (arith, few))
mapped x (zs ∷ sets) ys (zero, few, is) = (zero, omega arith, ap (λ ws. x ∷ ws) is)
mapped x (zs ∷ sets) ys (suc k, few, is) =
    let (n, less, at) = mapped x sets ys (k, omega (arith, few), is) in
    (suc n, omega (arith, less), at)

none_in : (is : List ℕ) → Contains (sets_of is) []
none_in [] = (zero, omega arith, refl)
none_in (i ∷ is) = Contains-append_left (sets_of is) (map (λ ys. i ∷ ys) (sets_of is)) [] (none_in is)

failed_by : (t : Bool) (i : ℕ) (is failed : List ℕ) → Contains (sets_of is) failed → Contains (sets_of (i ∷ is)) (if t then i ∷ failed else failed)
failed_by true i is failed has = Contains-append_right (sets_of is) (map (λ ys. i ∷ ys) (sets_of is)) (i ∷ failed) (mapped i (sets_of is) failed has)
failed_by false i is failed has = Contains-append_left (sets_of is) (map (λ ys. i ∷ ys) (sets_of is)) failed has

failed_in : (is : List ℕ) (os : List Outcome) → Contains (sets_of is) (failed_of is os)
failed_in [] os = (zero, omega arith, refl)
failed_in (i ∷ is) [] = none_in (i ∷ is)
failed_in (i ∷ is) (o ∷ os) = failed_by (is_failed o) i is (failed_of is os) (failed_in is os)

-- where a job got no content none need have failed
pub open_none : (o : Own) (j : Job) (kind : JobKind) → took_none j.taken ≡ true → Contains (open_sets o j kind) []
open_none o j ReadJob none = none_in (own_indices o)
open_none o j RestoreJob none = (0, omega arith, refl)
open_none o j kind none = (0, omega arith, ap (λ (t : Bool). if t then [] else unwritten o j) none)

-- TRIES
length_by : (t : Bool) (i n : ℕ) (failed more : List ℕ) → length more ≤ length failed + n
    → length (if t then i ∷ more else more) ≤ length (if t then i ∷ failed else failed) + n
length_by true i n failed more le = omega (arith, le)
length_by false i n failed more le = le

one_by : (t : Bool) (i : ℕ) → length (if t then i ∷ [] else []) ≤ 0 + (if t then 1 else 0)
one_by true i = omega arith
one_by false i = omega arith

one_more : (is : List ℕ) (os : List Outcome) (o : Outcome)
    → length (failed_of is (os ++ o ∷ [])) ≤ length (failed_of is os) + (if is_failed o then 1 else 0)
one_more [] os o = omega arith
one_more (i ∷ []) [] o = one_by (is_failed o) i
one_more (i ∷ j ∷ is) [] o = one_by (is_failed o) i
one_more (i ∷ is) (x ∷ os) o = length_by (is_failed x) i (if is_failed o then 1 else 0) (failed_of is os) (failed_of is (os ++ o ∷ [])) (one_more is os o)

more_tries : (r f a b : ℕ) → r ≤ f → b ≤ a + 1 → (r + 1) * b + 0 ≤ (r + 1) * a + f + 1
more_tries r f a b le few = let times = mul-le-mul_right (r + 1) few in omega (arith, le, times)

no_more_tries : (r f a b : ℕ) → b ≤ a + 0 → (r + 1) * b + 0 ≤ (r + 1) * a + f + 0
no_more_tries r f a b few = let times = mul-le-mul_right (r + 1) few in omega (arith, times)

last_by : (failed less : Bool) (r f a b : ℕ) → (less ≡ false → r ≤ f) → (failed && less) ≡ false → b ≤ a + (if failed then 1 else 0)
    → (r + 1) * b + 0 ≤ (r + 1) * a + f + (if failed then 1 else 0)
last_by true less r f a b le e few = more_tries r f a b (le e) few
last_by false less r f a b le e few = no_more_tries r f a b few

again_by : (p : Program) (o : Outcome) (again : Bool) → is_again o p.failures p.retries ≡ again → p.failures ≤ p.retries
    → let q = if again then record p { failures = p.failures + 1 } else record p { done = p.done ++ o ∷ []; failures = 0 } in
    (q.failures ≤ p.retries) × (failed_tries q ≤ failed_tries p + (if is_failed o then 1 else 0))
again_by p o true e le =
    let both = and_parts (is_failed o) (nat_lt p.failures p.retries) e in
    rw both.0 (let less : p.failures < p.retries = ltb-true p.failures p.retries both.1 in omega (arith, less), omega arith)
again_by p o false e le = (
  omega arith,
  last_by (is_failed o) (nat_lt p.failures p.retries) p.retries p.failures (length (failed_of p.indices p.done))
      (length (failed_of p.indices (p.done ++ o ∷ [])))
      (ltb-false p.failures p.retries) e (one_more p.indices p.done o),
)

counted_by : (p : Program) (next : Option ℕ) (o : Outcome) → p.failures ≤ p.retries
    → ((after_by p next o).failures ≤ p.retries) × (failed_tries (after_by p next o) ≤ failed_tries p + (if is_failed o then 1 else 0))
counted_by p None o le = (le, omega arith)
counted_by p (Some i) First le = (le, omega arith)
counted_by p (Some i) o le = again_by p o (is_again o p.failures p.retries) refl le

pub tries_are_counted : TriesAreCounted
tries_are_counted p outcome le = counted_by p (next_in p) outcome le

pub tries_are_priced : TriesArePriced
tries_are_priced d ReadJob = refl
tries_are_priced d kind = refl

-- THE SET OF A WRITE
none_settles : (kind : JobKind) (os : List Outcome) → kind ≢ ReadJob → list_any (settles kind) os ≡ false
none_settles ReadJob os n = absurd (n refl)
none_settles kind [] n = refl
none_settles kind (o ∷ os) n = none_settles kind os n

one_left : (t : Bool) (i : ℕ) → filter (λ index. not (is_in (if t then [] else i ∷ []) index)) (i ∷ []) ≡ (if t then i ∷ [] else [])
one_left true i = refl
one_left false i = rw (eq-eqb i i refl) refl

two_left : (t u : Bool) → let rest : List ℕ = if u then [] else 1 ∷ [] in let failed : List ℕ = if u then 1 ∷ [] else [] in
    filter (λ index. not (is_in (if t then rest else 0 ∷ rest) index)) (0 ∷ 1 ∷ []) ≡ (if t then 0 ∷ failed else failed)
two_left true true = refl
two_left true false = refl
two_left false true = refl
two_left false false = refl

left_by : (is : List ℕ) (os : List Outcome) → Works is → slice_get is (length os) ≡ None
    → filter (λ index. not (is_in (served_of is os) index)) is ≡ failed_of is os
left_by [] os w n = refl
left_by (i ∷ []) [] w n = cc
left_by (i ∷ []) (o ∷ os) w n = one_left (is_failed o) i
left_by (i ∷ j ∷ is) [] w n = cc
left_by (i ∷ j ∷ is) (o ∷ []) w n = cc
left_by (i ∷ j ∷ is) (o ∷ p ∷ os) (inl e) n = cc
left_by (i ∷ j ∷ is) (o ∷ p ∷ os) (inr (inl (k, e))) n = cc
left_by (i ∷ j ∷ is) (o ∷ p ∷ os) (inr (inr e)) n =
    subst (λ xs. filter (λ index. not (is_in (served_of xs (o ∷ p ∷ os)) index)) xs ≡ failed_of xs (o ∷ p ∷ os)) (sym e) (two_left (is_failed o) (is_failed p))

next_left : (kind : JobKind) (is : List ℕ) (os : List Outcome) → kind ≢ ReadJob
    → (if list_any (settles kind) os then None else slice_get is (length os)) ≡ None → slice_get is (length os) ≡ None
next_left kind is os n e = rw (none_settles kind os n) at e

-- of a job that writes, one set is left open
written_left : (o : Own) (j : Job) (kind : JobKind) (os : List Outcome) → kind ≢ ReadJob → Works (own_indices o)
    → (if list_any (settles kind) os then None else slice_get (own_indices o) (length os)) ≡ None → took_none j.taken ≡ false
    → (kind ≢ ReadJob → j.written ≡ served_of (own_indices o) os)
    → (if took_none j.taken then [] else unwritten o j) ≡ failed_of (own_indices o) os
written_left o j kind os n w over took written = rw (took, written n) (left_by (own_indices o) os w (next_left kind (own_indices o) os n over))

open_by : (o : Own) (j : Job) (kind : JobKind) (os : List Outcome) → works kind ≡ true → Works (own_indices o)
    → (if list_any (settles kind) os then None else slice_get (own_indices o) (length os)) ≡ None → took_none j.taken ≡ false
    → (kind ≢ ReadJob → j.written ≡ served_of (own_indices o) os)
    → Contains (open_sets o j kind) (failed_of (own_indices o) os)
open_by o j ReadJob os at w over took written = failed_in (own_indices o) os
open_by o j WriteJob os at w over took written = (zero, omega arith, written_left o j WriteJob os (λ e. cc e) w over took written)
open_by o j EraseJob os at w over took written = (zero, omega arith, written_left o j EraseJob os (λ e. cc e) w over took written)
open_by o j InvalidateJob os at w over took written = (zero, omega arith, written_left o j InvalidateJob os (λ e. cc e) w over took written)
open_by o j kind os at w over took written = cc at

pub failed_are_open : FailedAreOpen
failed_are_open o j p same works kind at fit over took written =
    rw (kind, ← same) (open_by o j p.kind p.done at (subst Works (sym same) works) (rw (← same) at over) took (λ n. rw (← same) at (written n)))

-- How many operations moves make, and how many tries begin in them.
use Rattle.std.specs.Prelude.{if◌then◌else◌, ◌||◌}
use Rattle.std.proofs.Common.{◌≡◌, ◌⊎◌, ◌≤◌, ◌+◌, ℕ, Bool, true, false, IsTrue, List, [], ◌∷◌, is_some, Option, Some, None, refl, inl, inr, arith}
use Rattle.block_machine.specs.Words.{Entry, Ask, Pick, Wrote, Post, Off, Found, Configuration}
use Rattle.block_machine.specs.State.{State}
use Rattle.block_machine.specs.Steps.{after_from}
use Rattle.promise_blocks.specs.Payment.{Worn}
use Rattle.promise_blocks.specs.Moves.{Moment, Move, entry_list, moment_behind, is_found, is_picked}
use Rattle.promise_blocks.specs.Work.{Costs, Work, Effort, work_behind, AreWorked, EndsTry, operations_at_most, has_risen, is_written, is_wrote, may_end, ends_most, tries_begun, tries_of}
use Rattle.promise_run.specs.Operations.{WorkIsBounded, TriesAreFew, TriesAreConfigured, tries_picked}

-- THE OPERATIONS
bounded_from : (f : Costs) (room : ℕ → ℕ → Type 0) (worn : Worn) (c : Configuration) (before : Moment) (s : State) (w : Work) (ms : List Move) (es : List Effort) (test : ℕ → ℕ → Bool)
    → ((k n : ℕ) → test k n ≡ true → room k n) → AreWorked f room worn c before s w ms es → (moment_behind before ms).ops + (work_behind w es).left ≤ before.ops + w.left + operations_at_most f test c before s ms es
bounded_from f room worn c before s w [] [] test has are = omega arith
bounded_from f room worn c before s w [] (e ∷ es) test has are = absurd are
bounded_from f room worn c before s w (m ∷ ms) [] test has are = absurd are
bounded_from f room worn c before s w (m ∷ ms) (e ∷ es) test has (one, rest) =
    let here = one.adds (test before.ops) (has before.ops) in
    let more = bounded_from f room worn c m.behind (after_from c s (entry_list m.entry)) e.behind ms es test has rest in omega (arith, here, more)

pub work_is_bounded : WorkIsBounded
work_is_bounded f room worn c first s moves has test free =
    let all = bounded_from f room worn c first s (record { left = has.left; trying = None; tries = 0 }) moves has.efforts test free has.are in
    let few = has.few in omega (arith, all, few)

-- THE TRIES
abbrev one_if : Bool → ℕ
one_if b = if b then 1 else 0

written_is : (n : ℕ) (e : Option Entry) (rest : Bool) → IsTrue (is_written n e || rest) → is_wrote e || rest ≡ true
written_is n (Some (Wrote i mark ops)) rest is = refl
written_is n (Some (Ask caller r reply)) rest is = is
written_is n (Some (Pick block kind t ops)) rest is = is
written_is n (Some (Post block r given refused ops)) rest is = is
written_is n (Some (Off ops)) rest is = is
written_is n (Some (Found marks ops)) rest is = is
written_is n None rest is = is

counts_one : (b : Bool) → b ≡ true → one_if b ≡ 1
counts_one b is = rw is refl

-- at each move the tries that began and weren't open, and one that is, are at most those that ended before it, and one that was
step_few : (begins was behind : Option ℕ) (ended : Bool) → ((n : ℕ) → begins ≡ Some n → was ≡ None) → ((n : ℕ) → (if is_some begins then begins else was) ≡ Some n → (behind ≡ Some n) ⊎ ((behind ≡ None) × (ended ≡ true)))
    → ((if is_some begins then begins else was) ≡ None → behind ≡ None) → one_if (is_some begins) + one_if (is_some was) ≤ one_if ended + one_if (is_some behind)
step_few None None behind ended alone ends none = omega arith
step_few None (Some n) behind ended alone ends none = elim (ends n refl) [
  | inl on ↦ rw on (omega arith)
  | inr over ↦ let one = counts_one ended over.1 in omega (arith, one)
]
step_few (Some n) (Some k) behind ended alone ends none = let never = alone n refl in cc
step_few (Some n) None behind ended alone ends none = elim (ends n refl) [
  | inl on ↦ rw on (omega arith)
  | inr over ↦ let one = counts_one ended over.1 in omega (arith, one)
]

few_from : (f : Costs) (room : ℕ → ℕ → Type 0) (worn : Worn) (c : Configuration) (before : Moment) (s : State) (w : Work) (ms : List Move) (es : List Effort) → ((k n : ℕ) (urgent : Bool) → worn k n urgent → ⊥)
    → AreWorked f room worn c before s w ms es → tries_begun es + one_if (is_some w.trying) ≤ ends_most before ms + one_if (is_some (work_behind w es).trying)
few_from f room worn c before s w [] [] never are = omega arith
few_from f room worn c before s w [] (e ∷ es) never are = absurd are
few_from f room worn c before s w (m ∷ ms) [] never are = absurd are
few_from f room worn c before s w (m ∷ ms) (e ∷ es) never (one, rest) =
    let here = step_few e.begins w.trying e.behind.trying (may_end before m) (λ n is. (one.begins n is).none) (λ n is. ended n (one.ends n is)) one.none in
    let more = few_from f room worn c m.behind (after_from c s (entry_list m.entry)) e.behind ms es never rest in omega (arith, here, more)
  where
    ended : (n : ℕ) → (e.behind.trying ≡ Some n) ⊎ ((e.behind.trying ≡ None) × EndsTry worn c s n before m) → (e.behind.trying ≡ Some n) ⊎ ((e.behind.trying ≡ None) × (may_end before m ≡ true))
    ended n (inl on) = inl on
    ended n (inr (over, inl why)) = inr (over, written_is n m.entry (has_risen before.faults m.behind.faults || (is_picked m.entry || is_found m.entry)) why)
    ended n (inr (over, inr worn_out)) = absurd (never m.behind.ops n _ worn_out.2)

at_most_one : (o : Option ℕ) → one_if (is_some o) ≤ 1
at_most_one None = omega arith
at_most_one (Some n) = omega arith

pub tries_are_few : TriesAreFew
tries_are_few f room worn c first s moves has never =
    let all = few_from f room worn c first s (record { left = has.left; trying = None; tries = 0 }) moves has.efforts never has.are in
    let last = at_most_one (work_behind (record { left = has.left; trying = None; tries = 0 }) has.efforts).trying in omega (arith, all, last)

-- those that are configured
given_by : (picked : Bool) (given had : ℕ) → (if picked then given else had) ≤ had + (if picked then given else 0)
given_by true given had = omega arith
given_by false given had = omega arith

pub begun_from : (f : Costs) (room : ℕ → ℕ → Type 0) (worn : Worn) (c : Configuration) (before : Moment) (s : State) (w : Work) (ms : List Move) (es : List Effort)
    → AreWorked f room worn c before s w ms es → tries_begun es ≤ w.tries + tries_picked c s ms
begun_from f room worn c before s w [] [] are = omega arith
begun_from f room worn c before s w [] (e ∷ es) are = absurd are
begun_from f room worn c before s w (m ∷ ms) [] are = absurd are
begun_from f room worn c before s w (m ∷ ms) (e ∷ es) (one, rest) =
    let here = one.tries in
    let given = given_by (is_picked m.entry) (tries_of c (after_from c s (entry_list m.entry))) w.tries in
    let more = begun_from f room worn c m.behind (after_from c s (entry_list m.entry)) e.behind ms es rest in omega (arith, here, given, more)

pub tries_are_configured : TriesAreConfigured
tries_are_configured f room worn c first s moves has =
    let few = begun_from f room worn c first s (record { left = has.left; trying = None; tries = 0 }) moves has.efforts has.are in omega (arith, few)

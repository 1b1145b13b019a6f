-- The turns of a driver beside callers, one by one.
use Rattle.std.specs.Prelude.{IfSome, not, ◌||◌}
use Rattle.std.proofs.Common.{◌≡◌, inl, inr, true, ℕ, ◌+◌, ◌≤◌, List, [], ◌∷◌, ◌++◌, Option, Some, None, refl, sym, ap, ◌∙◌, subst, arith, IsTrue}
use Rattle.block_machine.specs.nv_base.Entry.{ops_of}
use Rattle.block_machine.specs.State.{State}
use Rattle.script_walks.specs.Walk.{begins_with_pick_or_post, is_due}
use Rattle.block_machine.specs.Words.{Entry, Ask, Pick, Wrote, Post, Off, Found}
use Rattle.promise_run.specs.Cases.{PassesBy, ahead, always, picks_one, six_beside}
use Rattle.promise_run.specs.Turns.{Moment, Move, IsMoveMade, AreMovesMade, Among, KeepsTurns, entry_list, entries_of, is_asked, moment_behind}
use Rattle.promise_run.proofs.OneByOne.{asked, asked_one, at_ops, at_work, free, no_page, no_sweep, none_fails, none_urgent, six_moves, six_posts, six_serve, six_work, wrote_one}

-- SIX TURNS
made : (n m : ℕ) (o : Option Entry) → n ≤ m → m ≤ n + 1 → IfSome o (λ e. ops_of e ≡ Some m) → IsMoveMade (at_ops n) (record { entry = o; behind = at_ops m })
made n m o later one told = inr (record { faults = omega arith; ops = later; one = one; told = told })

pub beside_kept : KeepsTurns (always 8) six_beside six_beside.course
beside_kept = record {
  first = at_ops 0;
  last = at_ops 4;
  moves = six_moves;
  made = record {
    tell = refl;
    are = (
      inl (refl, refl),
      (
        made 0 0 (Some picks_one) (omega arith) (omega arith) refl,
        (
          made 0 1 None (omega arith) (omega arith) tt,
          (made 1 2 None (omega arith) (omega arith) tt, (made 2 3 None (omega arith) (omega arith) tt, (made 3 4 (Some wrote_one) (omega arith) (omega arith) refl, (made 4 4 _ (omega arith) (omega arith) refl, tt)))),
        ),
      ),
    );
    behind = refl;
  };
  begins = refl;
  operations = refl;
  failed = (none_fails 0 0 (omega arith), (none_fails 0 0 (omega arith), (none_fails 0 1 (omega arith), (none_fails 1 2 (omega arith), (none_fails 2 3 (omega arith), (none_fails 3 4 (omega arith), (none_fails 4 4 (omega arith), tt)))))));
  counted = inl (omega arith);
  ends = tt;
  serves = six_serve true;
  posts = six_posts;
  rests = (λ rest idle no_ask. absurd (cc no_ask), (at_work, (at_work, (at_work, (at_work, (at_work, (at_work, tt)))))));
  work = six_work;
  kept = (no_page, (no_page, (no_page, (no_page, (no_page, (no_page, (no_page, tt)))))));
  urgent = λ told sound. (λ id is. absurd (none_urgent id is), (λ id is. absurd (none_urgent id is), (λ id is. absurd (none_urgent id is), (λ id is. absurd (none_urgent id is), (λ id is. absurd (none_urgent id is), (λ id is. absurd (none_urgent id is), (λ id is. absurd (none_urgent id is), tt)))))));
  paid = λ told sound. (free, (free, (free, (free, (free, (free, (free, tt)))))));
}

-- A REQUEST WITHIN A TURN
pub one_passes : PassesBy 1
one_passes = (λ no_ask no_found. absurd (cc no_ask), (λ no_ask no_found. (_, inr (inl refl), (refl, λ sw is. absurd (no_sweep sw is))), tt))

pub two_pass_not : PassesBy 2 → ⊥
two_pass_not has = let (t, among, is) = has.1.1.0 refl refl in saw t among is.0
  where
    saw : (t : State) → Among t (asked ∷ []) → IsTrue (not (is_due t) || begins_with_pick_or_post []) → ⊥
    saw t (inl same) is = cc (subst (λ (x : State). IsTrue (not (is_due x) || begins_with_pick_or_post [])) (sym same) is)
    saw t (inr never) is = absurd never

-- AHEAD OF THE FLASH
-- no move takes an operation back
later : (before : Moment) (m : Move) → IsMoveMade before m → before.ops ≤ m.behind.ops
later before m (inl asks) = let same = ap (λ (n : Moment). n.ops) asks.1 in omega (arith, same)
later before m (inr turns) = turns.ops

all_later : (before : Moment) (ms : List Move) → AreMovesMade before ms → before.ops ≤ (moment_behind before ms).ops
all_later before [] are = omega arith
all_later before (m ∷ ms) are = let one = later before m are.0 in let rest = all_later m.behind ms are.1 in omega (arith, one, rest)

-- an entry tells at most so many operations
abbrev TellsAtMost : ℕ → Entry → Type 0
TellsAtMost n e = IfSome (ops_of e) (λ k. k ≤ n)

abbrev TellAtMost : ℕ → List Entry → Type 0
TellAtMost n [] = Unit {0}
TellAtMost n (e ∷ es) = TellsAtMost n e × TellAtMost n es

asks_none : (n : ℕ) (e : Entry) → IsTrue (is_asked (Some e)) → TellsAtMost n e
asks_none n (Ask caller r reply) is = tt
asks_none n (Pick block kind t ops) is = cc is
asks_none n (Wrote i mark ops) is = cc is
asks_none n (Post block r given refused ops) is = cc is
asks_none n (Off ops) is = cc is
asks_none n (Found marks ops) is = cc is

tells_own : (n : ℕ) (before : Moment) (m : Move) (e : Entry) → m.entry ≡ Some e → m.behind.ops ≤ n → IsMoveMade before m → TellsAtMost n e
tells_own n before m e is few (inl asks) = asks_none n e (ap is_asked (sym is) ∙ asks.0)
tells_own n before m e is few (inr turns) =
    let told : ops_of e ≡ Some m.behind.ops = subst (λ (o : Option Entry). IfSome o (λ x. ops_of x ≡ Some m.behind.ops)) is turns.told in subst (λ (o : Option ℕ). IfSome o (λ k. k ≤ n)) (sym told) few

-- so does each of these moves tell those that were made by then
tell_made : (before : Moment) (ms : List Move) → AreMovesMade before ms → TellAtMost (moment_behind before ms).ops (entries_of ms)
tell_made before [] are = tt
tell_made before (m ∷ ms) are = by m.entry refl (tell_made m.behind ms are.1)
  where
    by : (o : Option Entry) → m.entry ≡ o → TellAtMost (moment_behind m.behind ms).ops (entries_of ms) → TellAtMost (moment_behind m.behind ms).ops (entry_list o ++ entries_of ms)
    by None is rest = rest
    by (Some e) is rest = (tells_own (moment_behind m.behind ms).ops before m e is (all_later m.behind ms are.1) are.0, rest)

pub not_ahead : KeepsTurns (always 8) ahead ahead.course → ⊥
not_ahead has =
    let told : entries_of has.moves ≡ asked_one ∷ picks_one ∷ wrote_one ∷ [] = cc has.made.tell in
    let all = subst (λ (es : List Entry). TellAtMost (moment_behind has.first has.moves).ops es) told (tell_made has.first has.moves has.made.are) in
    let four : 4 ≤ (moment_behind has.first has.moves).ops = all.1.1.0 in
    let none : has.last.ops ≡ 0 = has.operations in
    let same = ap (λ (m : Moment). m.ops) has.made.behind in omega (arith, four, none, same)

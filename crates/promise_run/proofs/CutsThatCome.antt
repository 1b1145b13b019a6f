-- A planned cut that comes, and one that is missed.
use Rattle.std.specs.Prelude.{map}
use Rattle.std.proofs.Common.{◌≡◌, ◌≤◌, ◌<◌, ◌+◌, ℕ, zero, suc, true, List, [], ◌∷◌, Option, Some, None, refl, sym, ap, ◌∙◌, subst, inl, inr, arith, rules}
use Rattle.script_walks.specs.Words.{Step, Cut, Turn}
use Rattle.block_machine.specs.Words.{Entry, Off, Found, Configuration}
use Rattle.block_machine.specs.State.{State}
use Rattle.block_machine.specs.Steps.{after, after_from}
use Rattle.memif.specs.Clock.{TakesKept}
use Rattle.promise_device.specs.FlashRun.{HasFailed}
use Rattle.promise_device.specs.Bridge.{IsSuch, IsWornOut, reading_of}
use Rattle.promise_run.specs.Promise.{making_of}
use Rattle.promise_run.specs.Operations.{HadFreePages, HasWork, costs_of}
use Rattle.promise_run.specs.Turns.{Moment, Move, Planned, entry_list, entries_of, moment_behind, moment_after, AreMoves, CountsOwn, IsInTime, AreInTime, CutsCome, KeepsTurns}
use Rattle.promise_run.specs.Cases.{small, picks_one, written_at, always, cut_comes, cut_missed}
use Rattle.promise_run.proofs.PlannedCuts.{from_more}
use Rattle.promise_run.proofs.OneByOne.{asked_one, asks_step, at_ops, no_count, no_sweep, at_work, some_same, none_urgent, none_kept, may_try, one_adds}
use Rattle.promise_run.proofs.Efforts.{may_begin, none_began, began, waits, rests, goes, begins}

-- IT COMES
none_failed : (k : ℕ) → HasFailed cut_comes.flash k → ⊥
none_failed zero (x, at, is) = cc (at, is)
none_failed (suc zero) (x, at, is) = cc (at, is)
none_failed (suc (suc k)) (x, at, is) = cc at

none_fails : (n m : ℕ) {o : Option Entry} → n ≤ m → CountsOwn (HasFailed cut_comes.flash) (at_ops n) (record { entry = o; behind = at_ops m })
none_fails n m more = record { later = more; own = λ k le lt failed. absurd (none_failed k failed) }

no_page : {P : Type 0} {from to : ℕ} → (k : ℕ) → from ≤ k → k < to → IsSuch (reading_of (making_of small)) cut_comes.flash TakesKept k → P
no_page k le lt kept = absurd (none_kept cut_comes.flash k kept)

abbrev comes_moves : List Move
comes_moves = record { entry = Some asked_one; behind = at_ops 0 } ∷ record { entry = Some picks_one; behind = at_ops 0 } ∷ record { entry = None; behind = at_ops 1 } ∷ record { entry = Some (Off 2); behind = at_ops 2 } ∷ []

comes_work : HasWork (costs_of small) (HadFreePages (making_of small) cut_comes.flash) (IsWornOut (making_of small) cut_comes.flash) small (at_ops 0) (after small (Found [] 0 ∷ [])) comes_moves
comes_work = record {
  left = 0;
  few = omega arith;
  efforts = none_began 0 None ∷ may_begin 0 1 ∷ began 128 3 ∷ none_began 0 (Some 128) ∷ [];
  are = (rests _ _ _ _ _ _ _ _ _ refl (omega arith), (waits _ _ _ _ _ _ _ _ _ 1 (omega arith) refl (omega arith), (begins _ _ _ _ _ _ _ _ _ 128 refl (omega arith) may_try (λ test. one_adds (test 4)), (goes _ _ _ _ _ _ _ _ _ 128 refl refl (omega arith), tt))));
}

pub comes_kept : KeepsTurns (always 8) cut_comes cut_comes.course
comes_kept = record {
  first = at_ops 0;
  last = at_ops 2;
  moves = comes_moves;
  made = record {
    steps = record {
      moves = [] ∷ (record { entry = Some asked_one; behind = at_ops 0 } ∷ []) ∷ (record { entry = Some picks_one; behind = at_ops 0 } ∷ record { entry = None; behind = at_ops 1 } ∷ record { entry = Some (Off 2); behind = at_ops 2 } ∷ []) ∷ [];
      are = (refl, (refl, ((refl, search rules), tt)));
      tell = refl;
      behind = refl;
    };
    all = refl;
    drains = λ calm. (λ drain. absurd (cc drain), (λ drain. absurd (cc drain), (λ drain. absurd (cc drain), tt)));
    finds = (λ drain. absurd (cc drain), (λ drain. absurd (cc drain), (λ drain. absurd (cc drain), tt)));
    cuts = (tt, ((inl (omega arith), tt), ((inl (omega arith), (inl (omega arith), (inr (inl refl), tt))), tt)));
  };
  begins = refl;
  operations = refl;
  failed = (none_fails 0 0 (omega arith), (none_fails 0 0 (omega arith), (none_fails 0 1 (omega arith), (none_fails 1 2 (omega arith), tt))));
  counted = inl (omega arith);
  ends = tt;
  serves = (
    λ no_ask no_found. absurd (cc no_ask),
    (
      λ no_ask no_found. (_, inl refl, (refl, λ sw is. absurd (no_sweep sw is))),
      (λ no_ask no_found. (_, inl refl, (refl, λ sw is. absurd (no_sweep sw is))), (λ no_ask no_found. (_, inl refl, (refl, λ sw is. absurd (no_sweep sw is))), tt)),
    ),
  );
  posts = (λ is. absurd (cc is), (λ is j hand. inr (inr (inr (inr (inr (omega arith, omega arith, inr (inr (inr (inl refl)))))))), (λ is. absurd (cc is), (λ is. absurd (cc is), tt))));
  rests = (λ rest idle no_ask. absurd (cc no_ask), (at_work, (at_work, (at_work, tt))));
  work = comes_work;
  kept = (no_page, (no_page, (no_page, (no_page, tt))));
  urgent = λ told sound. (λ id is. absurd (none_urgent id is), (λ id is. absurd (none_urgent id is), (λ id is. absurd (none_urgent id is), (λ id is. absurd (none_urgent id is), tt))));
  paid = λ told sound. (inl (inl (omega arith)), (inl (inl (omega arith)), (inl (inl (omega arith)), (inl (inl (omega arith)), tt))));
}

-- IT IS MISSED
last_in_time : (c : Configuration) (plan : Option Planned) (before : Moment) (s : State) (m : Move) (ms : List Move) → AreInTime c plan s (m ∷ ms)
    → IsInTime plan (moment_behind before (m ∷ ms)) (after_from c s (entries_of (m ∷ ms)))
last_in_time c plan before s m [] are = subst (λ (t : State). IsInTime plan m.behind t) (sym (from_more c s (entry_list m.entry) [])) are.0
last_in_time c plan before s m (n ∷ ns) are =
    subst (λ (t : State). IsInTime plan (moment_behind m.behind (n ∷ ns)) t) (sym (from_more c s (entry_list m.entry) (entries_of (n ∷ ns))))
    (last_in_time c plan m.behind (after_from c s (entry_list m.entry)) n ns are.1)

three_lists : {X : Type 0} (a b c x y z : X) → a ∷ b ∷ c ∷ [] ≡ x ∷ y ∷ z ∷ [] → (b ≡ y) × (c ≡ z)
three_lists a b c x y z is = (cc is, cc is)

abbrev begun : State
begun = after small (Found [] 0 ∷ [])

abbrev all_steps : List Step
all_steps = record { line = 0; caller = 0; kind = Cut 1 0 } ∷ asks_step ∷ record { line = 0; caller = 0; kind = Turn 6 } ∷ []

still_on : (asked turned : List Entry) → asked_one ∷ [] ≡ asked → picks_one ∷ written_at 4 ≡ turned → (after_from small (after_from small begun asked) turned).off ≡ true → ⊥
still_on asked turned one two =
    subst (λ (es : List Entry). (after_from small (after_from small begun es) turned).off ≡ true → ⊥) one
    (subst (λ (es : List Entry). (after_from small (after_from small begun (asked_one ∷ [])) es).off ≡ true → ⊥) two (λ off. cc off))

late : (first end : Moment) (s : State) → first.ops ≡ 0 → end.ops ≡ 4 → end.faults ≤ 0 → (s.off ≡ true → ⊥) → IsInTime (Some (record { due = first.ops + 1; since = first.faults })) end s → ⊥
late first end s start ops few on (inl less) = omega (arith, start, ops, few, less)
late first end s start ops few on (inr (inl off)) = on off
late first end s start ops few on (inr (inr full)) = omega (arith, few, full)

missed : (first : Moment) (mss : List (List Move)) → first.ops ≡ 0 → AreMoves first all_steps mss → [] ∷ (asked_one ∷ []) ∷ (picks_one ∷ written_at 4) ∷ [] ≡ map entries_of mss
    → (moment_after first mss).ops ≡ 4 → (moment_after first mss).faults ≤ 0 → CutsCome small None first begun all_steps mss → ⊥
missed first [] start are tell ops few cuts = are
missed first (cs ∷ []) start are tell ops few cuts = are.1
missed first (cs ∷ xs ∷ []) start are tell ops few cuts = are.1.1
missed first (cs ∷ xs ∷ ts ∷ us ∷ mss) start are tell ops few cuts = are.1.1.1
missed first ((a ∷ cs) ∷ xs ∷ ts ∷ []) start are tell ops few cuts = cc are.0
missed first ([] ∷ xs ∷ [] ∷ []) start are tell ops few cuts = let none = are.1.1.0.0 in omega (arith, none)
missed first ([] ∷ xs ∷ (t ∷ ts) ∷ []) start are tell ops few cuts =
    let (asks, turns) = three_lists [] (asked_one ∷ []) (picks_one ∷ written_at 4) [] (entries_of xs) (entries_of (t ∷ ts)) tell in
    late first (moment_behind (moment_behind first xs) (t ∷ ts)) (after_from small (after_from small begun (entries_of xs)) (entries_of (t ∷ ts))) start ops few (still_on (entries_of xs) (entries_of (t ∷ ts)) asks turns)
    (last_in_time small (Some (record { due = first.ops + 1; since = first.faults })) (moment_behind first xs) (after_from small begun (entries_of xs)) t ts cuts.1.1.0)

pub not_missed : KeepsTurns (always 8) cut_missed cut_missed.course → ⊥
not_missed has =
    let steps = has.made.steps in
    let end = steps.behind in
    missed has.first steps.moves (sym (some_same 0 has.first.ops has.begins)) steps.are steps.tell
    (ap (λ (m : Moment). m.ops) end ∙ has.operations) (let few = no_count has.last.faults has.counted in let same = ap (λ (m : Moment). m.faults) end in omega (arith, few, same)) has.made.cuts

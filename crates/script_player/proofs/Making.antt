-- Each kind of step is made.
use Rattle.script_player.proofs.Common.{none_moves, ◌≡◌, ◌<◌, ◌≤◌, ◌+◌, ◌^◌, ℕ, zero, suc, Bool, true, false, IsTrue, List, [], ◌∷◌, ◌++◌, length, get_or, refl, sym, ap, ◌∙◌, subst, arith, Option, append-nil, length-set, not, slice_set, Instance, Mark, Request, Reply, Entry, Ask, Found, Configuration, State, desc_of, is_synchronized, next_of, fits, step, after, next_number, Step, StepKind, AskStep, Store, Turn, Drain, Restart, Cut, CutSecond, Refuse, HasNoRoom, DueCut, plan_after, is_drain, stores_of, request_after, CanBePlayed, AreNewest, JobsTookStored, is_store, histories_step, starts_keep_stored, StackTold, state_of, moment_of, Arms, Stores, Refuses, StaysCalm, HasTurned, AreMade, MakesTurns, Drains, PlansCuts, cuts_in, IsMade, Makes, IsAsked, IsExplained, Moment, Move, Planned, planned_by, AreMovesOf, FindsWork, Seen, MovesBy, AskMoves, asked_by, Rose, HasLastStores, OnOk, IfErr, min-eq_left, copies_by, TakesStore, IsPieceBy, others_keep_newest, stores_are_newest, stores_are_few, steps_keep_stored, asks_keep_stored, StartsAgain, StartsAnew, at_first}
use Rattle.std.specs.Prelude.{Result, Ok, Err}
use Rattle.script_player.specs.Kept.{IsKept}
use Rattle.script_player.proofs.Coming.{pending_same, refuse_cuts, ask_cuts, turns_cuts}
use Rattle.script_player.proofs.Moves.{move_to}
use Rattle.script_player.proofs.Explained.{by_cut, by_entries, by_nothing, by_refuse, by_restart}
use Rattle.uds_gateway.proofs.Power.{is_on}
use Rattle.script_player.proofs.Table.{same_table}

-- a step of this kind
pub at_kind : (P : Step → Type 0) (x : Step) (kind : StepKind) → x.kind ≡ kind → P (record { line = x.line; caller = x.caller; kind = kind }) → P x
at_kind P x kind is at = subst (λ (k : StepKind). P (record { line = x.line; caller = x.caller; kind = k })) (sym is) at

-- a step of this kind that stores nothing is made, and the table stays
pub step_made : (p q : Seen) (x : Step) (kind : StepKind) (table : List ℕ) (old new : StackTold) → x.kind ≡ kind → is_store kind ≡ false
    → ((before : List Step) → HasLastStores old.configuration before table → IsKept before old → IsMade p q before (record { line = x.line; caller = x.caller; kind = kind }) old new) → Makes p q x table table old new
step_made p q x kind table old new is none made =
    at_kind (λ (y : Step). Makes p q y table table old new) x kind is
    (λ before few kept has. (made before has kept, same_table old.configuration before (record { line = x.line; caller = x.caller; kind = kind }) table none has))

-- a step that stores nothing keeps what is kept
pub kept_more : (before : List Step) (x : Step) (t : StackTold) → is_store x.kind ≡ false → IsKept before t → IsKept (before ++ x ∷ []) t
kept_more before x t none kept = record {
  ready = kept.ready;
  places = kept.places;
  stores = others_keep_newest t.configuration before t.stores x none kept.stores;
  jobs = steps_keep_stored t.configuration before (state_of t) x kept.jobs;
}

-- a step that adds nothing, and changes the causes at most
nothing_made : (p q : Seen) (before : List Step) (line caller : ℕ) (kind : StepKind) (old new : StackTold) → is_store kind ≡ false → ¬ HasNoRoom old.configuration old.cap (state_of old) kind → is_drain kind ≡ false → AreMovesOf kind (moment_of old) [] → IsPieceBy old.configuration before (state_of old) caller kind []
    → new ≡ record old { causes = new.causes } → IsExplained kind [] old new → MovesBy false [] p q → (cuts_in kind ≤ old.causes.takes → PlansCuts kind [] old new) → IsKept before old
    → IsMade p q before (record { line = line; caller = caller; kind = kind }) old new
nothing_made p q before line caller kind old new none room no_drain rests is same explained moves cuts kept =
    let x : Step = record { line = line; caller = caller; kind = kind } in
    record {
      piece = [];
      configuration = ap (λ t. t.configuration) same;
      cap = ap (λ t. t.cap) same;
      entries = ap (λ t. t.entries) same ∙ sym (append-nil old.entries);
      counted = let n : new.faults ≡ old.faults = ap (λ t. t.faults) same in omega (arith, n);
      is = (is, tt, tt);
      room = room;
      explained = explained;
      closes = λ calm drain. absurd (cc (drain, no_drain));
      moves = [];
      moved = rests;
      finds = λ drain. absurd (cc (drain, no_drain));
      tell = refl;
      behind = sym (ap moment_of same);
      by_law = moves;
      one = ap (λ t. t.one) same;
      cuts = cuts;
      kept = subst (λ (t : StackTold). IsKept (before ++ x ∷ []) t) (sym same) (moved (kept_more before x old none kept));
    }
  where
    moved : {xs : List Step} → IsKept xs old → IsKept xs (record old { causes = new.causes })
    moved kept = record { ready = kept.ready; places = kept.places; stores = kept.stores; jobs = kept.jobs }

-- a step that adds nothing, where the causes alone change
causes_made : (p q : Seen) (x : Step) (kind : StepKind) (table : List ℕ) (old new : StackTold) → x.kind ≡ kind → is_store kind ≡ false → ¬ HasNoRoom old.configuration old.cap (state_of old) kind → is_drain kind ≡ false → AreMovesOf kind (moment_of old) []
    → ((before : List Step) → IsPieceBy old.configuration before (state_of old) x.caller kind []) → new ≡ record old { causes = new.causes } → IsExplained kind [] old new → MovesBy false [] p q → (cuts_in kind ≤ old.causes.takes → PlansCuts kind [] old new)
    → Makes p q x table table old new
causes_made p q x kind table old new is none room no_drain rests piece same explained moves cuts =
    step_made p q x kind table old new is none (λ before has kept. nothing_made p q before x.line x.caller kind old new none room no_drain rests (piece before) same explained moves cuts kept)

-- an arm, and a refusal
pub arm_made : (p q : Seen) (x : Step) (nth keep : ℕ) (table : List ℕ) (old new : StackTold) → x.kind ≡ Cut nth keep → Arms nth keep old new → MovesBy false [] p q → Makes p q x table table old new
arm_made p q x nth keep table old new is arms moves =
    causes_made p q x (Cut nth keep) table old new is refl (λ no. no) refl refl (λ before. refl) (arms.only ∙ ap (λ y. record old { causes = y }) (sym (ap (λ t. t.causes) arms.only))) (by_cut nth keep old new arms) moves arms.comes

pub refuse_made : (p q : Seen) (x : Step) (block count : ℕ) (table : List ℕ) (old new : StackTold) → x.kind ≡ Refuse block count → Refuses block count old new → MovesBy false [] p q → Makes p q x table table old new
refuse_made p q x block count table old new is refuses moves =
    causes_made p q x (Refuse block count) table old new is refl (λ no. no) refl refl (λ before. refl) (refuses.only ∙ ap (λ y. record old { causes = y }) (sym (ap (λ t. t.causes) refuses.only))) (by_refuse block count old new refuses) moves (λ few. refuse_cuts block count old new refuses)

-- a cut of a second flash plans nothing over one
pub second_made : (p : Seen) (x : Step) (nth keep : ℕ) (table : List ℕ) (t : StackTold) → x.kind ≡ CutSecond nth keep → Makes p p x table table t t
second_made p x nth keep table t is =
    causes_made p p x (CutSecond nth keep) table t t is refl (λ no. no) refl refl (λ before. refl) refl
    (by_nothing (CutSecond nth keep) t t (λ plan ops. refl) (λ id left. refl) refl refl) (none_moves false p) (λ few one plan pending. (tt, pending))

ask_takes : (c : Configuration) (before : List Step) (copies : Bool) (e : Entry) (caller : ℕ) (r : Request) (reply : Reply) → TakesStore c before copies (Ask caller r reply)
ask_takes c before true e caller r reply = tt
ask_takes c before false e caller r reply = tt

found_takes : (c : Configuration) (before : List Step) (copies : Bool) (marks : List (Instance × Mark)) (ops : ℕ) → TakesStore c before copies (Found marks ops)
found_takes c before true marks ops = tt
found_takes c before false marks ops = tt

not_both : (b : Bool) → IsTrue b → ¬ IsTrue (not b)
not_both true is none = cc none
not_both false is none = cc is

-- a request
pub ask_made : (p q : Seen) (before : List Step) (line caller : ℕ) (r : Request) (table : List ℕ) (old new : StackTold) → CanBePlayed old.configuration (AskStep r)
    → IsAsked caller r table old new → AskMoves p q old new → HasLastStores old.configuration before table → IsKept before old → IsMade p q before (record { line = line; caller = caller; kind = AskStep r }) old new
ask_made p q before line caller r table old new can asked moves has kept =
    let x : Step = record { line = line; caller = caller; kind = AskStep r } in
    let (reply, adds) = asked before has in
    let e : Entry = Ask caller (request_after old.configuration before caller r) reply in
    record {
      piece = e ∷ [];
      configuration = ap (λ t. t.configuration) adds.adds;
      cap = ap (λ t. t.cap) adds.adds;
      entries = ap (λ t. t.entries) adds.adds;
      counted = let n : new.faults ≡ old.faults = ap (λ t. t.faults) adds.adds in omega (arith, n);
      room = not_both (fits old.configuration old.cap (state_of old) 1) adds.room;
      explained = by_entries (AskStep r) (e ∷ []) old new (λ plan ops. refl) (λ id left. refl) adds.explained;
      closes = λ calm drain. absurd (cc drain);
      moves = move_to (e ∷ []) old ∷ [];
      moved = refl;
      finds = λ drain. absurd (cc drain);
      tell = refl;
      behind = sym (ap moment_of adds.adds);
      by_law = moves e (ap (λ t. t.entries) adds.adds);
      one = ap (λ t. t.one) adds.adds;
      cuts = λ few. ask_cuts caller r (request_after old.configuration before caller r) reply old new adds;
      is = ((refl, refl), (ask_takes old.configuration before (copies_by old.configuration (next_of old.configuration (state_of old))) e caller (request_after old.configuration before caller r) reply, tt), (tt, tt));
      kept = subst (λ (t : StackTold). IsKept (before ++ x ∷ []) t) (sym adds.adds) (record {
        ready = kept.ready;
        places = kept.places;
        stores = others_keep_newest old.configuration before old.stores x refl kept.stores;
        jobs = subst (λ (s : State). JobsTookStored old.configuration (before ++ x ∷ []) s) (sym (histories_step old.configuration old.entries e))
            (steps_keep_stored old.configuration before (step old.configuration (state_of old) e) x (asks_keep_stored old.configuration before (state_of old) caller r reply can kept.jobs));
      });
    }

-- a start-up
pub restart_made : (p q : Seen) (before : List Step) (line caller : ℕ) (old new : StackTold)
    → StartsAgain old new → StartsAnew p q old new → IsKept before old → IsMade p q before (record { line = line; caller = caller; kind = Restart }) old new
restart_made p q before line caller old new starts_again moves kept =
    let x : Step = record { line = line; caller = caller; kind = Restart } in
    let marks = starts_again.marks in
    let ops = new.ops in
    let same = starts_again.grows in
    let e : Entry = Found marks ops in
    let after_is : after old.configuration (old.entries ++ e ∷ []) ≡ step old.configuration (state_of old) e = histories_step old.configuration old.entries e in
    record {
      piece = e ∷ [];
      configuration = ap (λ t. t.configuration) same;
      cap = ap (λ t. t.cap) same;
      entries = ap (λ t. t.entries) same;
      counted = starts_again.counted;
      room = starts_again.room;
      explained = by_restart (e ∷ []) old new starts_again.explained;
      closes = λ calm drain. absurd (cc drain);
      moves = move_to (e ∷ []) new ∷ [];
      moved = (starts_again.counted, starts_again.operations, refl);
      finds = λ drain. absurd (cc drain);
      tell = refl;
      behind = refl;
      by_law = moves e (ap (λ t. t.entries) same);
      one = ap (λ t. t.one) same;
      cuts = λ few one plan pending. ((tt, tt), tt);
      is = (tt, (found_takes old.configuration before (copies_by old.configuration (next_of old.configuration (state_of old))) marks ops, tt), (tt, tt));
      kept = subst (λ (t : StackTold). IsKept (before ++ x ∷ []) t) (sym same) (record {
        ready = refl;
        places = kept.places;
        stores = others_keep_newest old.configuration before old.stores x refl kept.stores;
        jobs = subst (λ (s : State). JobsTookStored old.configuration (before ++ x ∷ []) s) (sym after_is)
            (steps_keep_stored old.configuration before (step old.configuration (state_of old) e) x (starts_keep_stored old.configuration before (state_of old) marks ops));
      });
    }

-- turns, with the piece that they added
turned_made : (p q : Seen) (before : List Step) (line caller : ℕ) (kind : StepKind) (old new : StackTold) (es : List Entry) (ms : List Move) → AreMovesOf kind (moment_of old) ms → AreMade p q es ms old new → is_store kind ≡ false → ¬ HasNoRoom old.configuration old.cap (state_of old) kind → ((plan : Option DueCut) (ops : ℕ) → plan_after kind plan ops ≡ plan) → ((id left : ℕ) → asked_by id kind left ≡ left)
    → ((plan : Option Planned) (now : Moment) → planned_by kind now plan ≡ plan) → HasTurned before old new es → (StaysCalm old new → is_drain kind ≡ true → new.busy ≡ false) → (is_drain kind ≡ true → FindsWork old.configuration (moment_of old) (state_of old) ms) → IsPieceBy old.configuration before (state_of old) caller kind es → IsKept before new → IsMade p q before (record { line = line; caller = caller; kind = kind }) old new
turned_made p q before line caller kind old new es ms own moved none room plans asks planned turned closes finds is kept =
    let x : Step = record { line = line; caller = caller; kind = kind } in
    record {
      piece = es;
      configuration = ap (λ t. t.configuration) turned.grows;
      cap = ap (λ t. t.cap) turned.grows;
      entries = ap (λ t. t.entries) turned.grows;
      counted = turned.counted;
      room = room;
      explained = by_entries kind es old new plans asks turned.explained;
      closes = closes;
      moves = ms;
      moved = own;
      finds = finds;
      tell = moved.tell;
      behind = moved.behind;
      by_law = moved.moved;
      one = ap (λ t. t.one) turned.grows;
      cuts = λ few. turns_cuts kind ms old new planned moved.cuts;
      is = (is, turned.keeps.stores, turned.keeps.last);
      kept = kept_more before x new none kept;
    }

pub turns_made : (p q : Seen) (before : List Step) (line caller count : ℕ) (old new : StackTold) → 1 ≤ count → MakesTurns p q count before old new → IsKept before new
    → IsMade p q before (record { line = line; caller = caller; kind = Turn count }) old new
turns_made p q before line caller zero old new some made kept = absurd (let none : 1 ≤ 0 = some in omega (arith, none))
turns_made p q before line caller (suc n) old new some (es, turned, is, (ms, many, moved)) kept = turned_made p q before line caller (Turn (suc n)) old new es ms (many, moved.turns) moved refl (λ no. no) (λ plan ops. refl) (λ id left. refl) (λ plan now. refl) turned (λ calm no_. absurd (cc no_)) (λ no_. absurd (cc no_)) is kept

pub drain_made : (p q : Seen) (before : List Step) (line caller : ℕ) (old new : StackTold) → Drains p q before old new → (¬ Rose old.faults new.faults → (state_of new).off ≡ false → new.busy ≡ false) → IsKept before new
    → IsMade p q before (record { line = line; caller = caller; kind = Drain }) old new
drain_made p q before line caller old new (es, turned, is, (ms, few, finds, moved)) closes kept =
    turned_made p q before line caller Drain old new es ms moved.turns moved refl (λ no. no) (λ plan ops. refl) (λ id left. refl) (λ plan now. refl) turned
    (λ calm drain. closes calm.no_fault (is_on new.configuration at_first new.entries calm.entries refl)) (λ drain. finds) is kept

-- a store
pub next_store : (c : Configuration) (before : List Step) (block n : ℕ) → length before < 2 ^ 32 → n ≡ length (stores_of block before) → next_number n ≡ length (stores_of block before) + 1
next_store c before block n small is =
    let fewer = stores_are_few block before in
    let less : n + 1 ≤ 2 ^ 60 = omega (arith, fewer, small, is) in
    min-eq_left less ∙ ap (λ m. m + 1) is

pub store_made : (p q : Seen) (before : List Step) (line caller block number : ℕ) (content : List ℕ) (old new : StackTold) → is_synchronized (desc_of old.configuration block).ram ≡ true
    → block < length old.configuration.blocks + 1 → length before < 2 ^ 32 → Stores block content number old new → MovesBy false [] p q → IsKept before old → IsMade p q before (record { line = line; caller = caller; kind = Store block content }) old new
store_made p q before line caller block number content old new sync within small stored moves kept =
    let x : Step = record { line = line; caller = caller; kind = Store block content } in
    let inside : block < length old.stores = let places = kept.places in omega (arith, places, within) in
    let is : number ≡ length (stores_of block before) + 1 = stored.numbered ∙ next_store old.configuration before block (get_or old.stores block (0, [])).0 small (kept.stores block sync).number in
    subst (λ (t : StackTold). IsMade p q before x old t) (sym stored.stored) (record {
      piece = [];
      configuration = refl;
      cap = refl;
      entries = sym (append-nil old.entries);
      counted = omega arith;
      room = λ no. no;
      explained = by_nothing (Store block content) old (record old { stores = slice_set old.stores block (number, content) }) (λ plan ops. refl) (λ id left. refl) refl refl;
      closes = λ calm drain. absurd (cc drain);
      moves = [];
      moved = refl;
      finds = λ drain. absurd (cc drain);
      tell = refl;
      behind = refl;
      by_law = moves;
      one = refl;
      cuts = λ few one plan pending. (tt, pending_same plan old (record old { stores = slice_set old.stores block (number, content) }) refl refl refl (λ off. off) pending);
      is = (refl, tt, tt);
      kept = record {
        ready = kept.ready;
        places = simp length-set kept.places;
        stores = subst (λ (n : ℕ). AreNewest old.configuration (before ++ x ∷ []) (slice_set old.stores block (n, content))) (sym is) (stores_are_newest old.configuration before old.stores line caller block content inside kept.stores);
        jobs = steps_keep_stored old.configuration before (state_of old) x kept.jobs;
      };
    })

-- ANSWERS

pub on_ok : {X E : Type 0} {P Q : Type 0} (r : Result X E) → OnOk r P → (P → Q) → OnOk r Q
on_ok (Ok x) has from = from has
on_ok (Err e) has from = tt

pub if_err : {X E : Type 0} {P Q : E → Type 0} (r : Result X E) → IfErr r P → ((e : E) → P e → Q e) → IfErr r Q
if_err (Ok x) has from = tt
if_err (Err e) has from = from e has

-- Operations that failed, in their moves.
use Rattle.std.specs.Prelude.{map, IfSome}
use Rattle.std.proofs.Common.{◌≡◌, ◌⊎◌, ◌≤◌, ◌<◌, ◌+◌, ℕ, Bool, zero, suc, true, false, List, [], ◌∷◌, ◌++◌, Option, Some, None, if◌then◌else◌, refl, sym, ap, ◌∙◌, subst, inl, inr, arith, append-nil, append_assoc, rules}
use Rattle.std.proofs.lemmas.Bool.{cases_lt}
use Rattle.block_machine.specs.nv_base.Count.{Rose, WereCounted}
use Rattle.block_machine.specs.nv_base.Entry.{ops_of}
use Rattle.memif.specs.Clock.{TakesKept}
use Rattle.memif.proofs.Turning.{rose_before, rose_since}
use Rattle.fee_image.specs.Laws.{SoundImagesCompute}
use Rattle.script_walks.specs.Words.{Step, StepKind, AskStep, Store, Turn, Drain, Cut, CutSecond, Refuse, Restart, Await}
use Rattle.block_machine.specs.Words.{Fine, NotOk, Content, Write, WriteJob, TookContent, Entry, Pick, Wrote, Post, Found, Configuration}
use Rattle.block_machine.specs.State.{State}
use Rattle.block_machine.specs.Steps.{step, after, after_from}
use Rattle.promise_blocks.specs.Payment.{Worn}
use Rattle.promise_device.specs.Making.{banks_of}
use Rattle.promise_device.specs.FlashRun.{HasFailed, StartsSound}
use Rattle.promise_device.specs.Bridge.{IsWornOut, IsSuch, reading_of}
use Rattle.promise_run.specs.Promise.{making_of}
use Rattle.promise_run.specs.Operations.{HadFreePages, HasWork, costs_of}
use Rattle.promise_run.specs.Turns.{Moment, Move, entry_list, entries_of, moment_behind, moment_after, AreTurnsMade, AreMovesOf, AreMoves, CountsOwn, CountFailed, IsPaidSince, ArePaidSince, IsPostedWithin, KeepsTurns, is_picked, all_moves}
use Rattle.promise_run.specs.Cases.{small, one, blank, picks_one, always, CountsFailed, mended, posts_on_credit, starts_on_credit, untold}
use Rattle.promise_run.proofs.Counted.{behind_more, all_behind}
use Rattle.promise_run.proofs.OneByOne.{two_lists, asked_one, asks_step, at_ops, no_sweep, at_work, none_urgent, none_kept, may_try, picked_block}
use Rattle.promise_run.proofs.Efforts.{may_begin, none_began, began, waits, rests, goes, ends, begins}

-- A FAULT THAT WAS COUNTED
-- no move takes a fault back
abbrev NoneFall : Moment → List Move → Type 0
NoneFall before [] = Unit {0}
NoneFall before (m ∷ ms) = (before.faults ≤ m.behind.faults) × NoneFall m.behind ms

fall_more : (before : Moment) (xs ys : List Move) → NoneFall before xs → NoneFall (moment_behind before xs) ys → NoneFall before (xs ++ ys)
fall_more before [] ys one two = two
fall_more before (m ∷ ms) ys (here, rest) two = (here, fall_more m.behind ms ys rest two)

no_less : (before : Moment) (ms : List Move) → NoneFall before ms → before.faults ≤ (moment_behind before ms).faults
no_less before [] none = omega arith
no_less before (m ∷ ms) (here, rest) = let more = no_less m.behind ms rest in omega (arith, here, more)

turns_fall : (before : Moment) (ms : List Move) → AreTurnsMade before ms → NoneFall before ms
turns_fall before [] made = tt
turns_fall before (m ∷ ms) (here, rest) = (here.faults, turns_fall m.behind ms rest)

same_fall : (before : Moment) (m : Move) → m.behind ≡ before → before.faults ≤ m.behind.faults
same_fall before m is = let same = ap (λ (x : Moment). x.faults) is in omega (arith, same)

none_made : (before : Moment) (ms : List Move) → ms ≡ [] → NoneFall before ms
none_made before [] is = tt
none_made before (m ∷ ms) is = absurd (cc is)

step_falls : (kind : StepKind) (before : Moment) (ms : List Move) → AreMovesOf kind before ms → NoneFall before ms
step_falls (Turn count) before ms are = turns_fall before ms are.1
step_falls Drain before ms are = turns_fall before ms are
step_falls (AskStep r) before (m ∷ []) are = (same_fall before m are, tt)
step_falls (AskStep r) before [] are = absurd are
step_falls (AskStep r) before (m ∷ n ∷ ms) are = absurd are
step_falls Restart before (m ∷ []) are = (are.0, tt)
step_falls Restart before [] are = absurd are
step_falls Restart before (m ∷ n ∷ ms) are = absurd are
step_falls (Store block content) before ms are = none_made before ms are
step_falls (Cut nth keep) before ms are = none_made before ms are
step_falls (CutSecond nth keep) before ms are = none_made before ms are
step_falls (Refuse block count) before ms are = none_made before ms are
step_falls (Await block) before ms are = none_made before ms are

all_fall : (before : Moment) (xs : List Step) (mss : List (List Move)) → AreMoves before xs mss → NoneFall before (all_moves mss)
all_fall before [] [] are = tt
all_fall before [] (ms ∷ mss) are = absurd are
all_fall before (x ∷ xs) [] are = absurd are
all_fall before (x ∷ xs) (ms ∷ mss) are = fall_more before ms (all_moves mss) (step_falls x.kind before ms are.0) (all_fall (moment_behind before ms) xs mss are.1)

-- an operation that failed was counted by then
rose_by_then : (failed : ℕ → Type 0) (before : Moment) (ms : List Move) → NoneFall before ms → CountFailed failed before ms → (k : ℕ) → before.ops ≤ k → k < (moment_behind before ms).ops → failed k
    → Rose before.faults (moment_behind before ms).faults
rose_by_then failed before [] none counts k le lt is = absurd (omega (arith, le, lt))
rose_by_then failed before (m ∷ ms) (here, none) (one, rest) k le lt is = elim (cases_lt k m.behind.ops) [
  | inl own ↦ rose_before before.faults m.behind.faults (moment_behind m.behind ms).faults (one.own k le own is) (no_less m.behind ms none)
  | inr late ↦ rose_since before.faults m.behind.faults (moment_behind m.behind ms).faults here (rose_by_then failed m.behind ms none rest k late lt is)
]

never_rose : (a b : ℕ) → b ≤ a → b ≤ 1 → Rose a b → ⊥
never_rose a b few small (inl lt) = omega (arith, few, lt)
never_rose a b few small (inr end) = let full = end.0 in let more = end.1 in omega (arith, full, more, small)

some_same : {X : Type 0} (x y : X) → Some x ≡ Some y → x ≡ y
some_same x y is = cc is

-- ONE MOVE LATER
pub counts_own : CountsFailed 1 1
counts_own = (
  record { later = omega arith; own = λ k le lt failed. absurd (omega (arith, le, lt)) },
  (
    record { later = omega arith; own = λ k le lt failed. inl (omega arith) },
    (record { later = omega arith; own = λ k le lt failed. absurd (omega (arith, le, lt)) }, tt),
  ),
)

pub not_late : CountsFailed 0 1 → ⊥
not_late counts = never_rose 0 0 (omega arith) (omega arith) (counts.1.0.own 0 (omega arith) (omega arith) (_, refl, refl))

-- NO OPERATION IS LEFT OUT
first_ops : (n : ℕ) → Some 0 ≡ Some n → n ≡ 0
first_ops n is = sym (some_same 0 n is)

pub not_untold : KeepsTurns (always 8) untold untold.course → ⊥
not_untold has = by has.made.steps.moves has.made.steps.are has.made.steps.behind
  where
    by : (mss : List (List Move)) → AreMoves has.first [] mss → moment_after has.first mss ≡ has.last → ⊥
    by [] are behind =
        let start = first_ops has.first.ops has.begins in
        let end = ap (λ (m : Moment). m.ops) behind in
        let all : has.last.ops ≡ 1 = has.operations in omega (arith, start, end, all)
    by (ms ∷ mss) are behind = are

-- A START-UP THAT FAILS
abbrev turns : ℕ → Step
turns n = record { line = 0; caller = 0; kind = Turn n }

no_more : (n : ℕ) → WereCounted (n + 1) 0 1 → n ≤ 0
no_more n (inl few) = omega (arith, few)
no_more n (inr full) = omega (arith, full)

pub not_on_credit : KeepsTurns (always 8) starts_on_credit starts_on_credit.course → ⊥
not_on_credit has =
    let start = first_ops has.first.ops has.begins in
    let all : has.last.ops ≡ 1 = has.operations in
    let steps = has.made.steps in
    let behind = all_behind has.first steps.moves ∙ steps.behind in
    let ops = ap (λ (m : Moment). m.ops) behind in
    let faults = ap (λ (m : Moment). m.faults) behind in
    let few = no_more has.last.faults has.ends in
    never_rose has.first.faults (moment_behind has.first (all_moves steps.moves)).faults (omega (arith, few, faults)) (omega (arith, few, faults))
    (rose_by_then (HasFailed starts_on_credit.flash) has.first (all_moves steps.moves) (all_fall has.first (asks_step ∷ turns 2 ∷ []) steps.moves steps.are)
    (subst (λ (ms : List Move). CountFailed (HasFailed starts_on_credit.flash) has.first ms) (sym has.made.all) has.failed) 0 (omega (arith, start)) (omega (arith, ops, all)) (_, refl, refl))

-- A WRITE THAT A RETRY MENDS
-- one fault, behind so many operations
abbrev after_fault : ℕ → Moment
after_fault n = record { faults = 1; ops = n; busy = false }

abbrev wrote_five : Entry
wrote_five = Wrote (record { block = 2; index = 0 }) (Content one) 5

abbrev posted_five : Entry
posted_five = Post 2 Fine None 0 5

-- behind the first operation none fails
only_first : (k : ℕ) → HasFailed mended.flash k → k ≡ 0
only_first zero failed = refl
only_first (suc zero) (x, at, is) = absurd (cc (at, is))
only_first (suc (suc zero)) (x, at, is) = absurd (cc (at, is))
only_first (suc (suc (suc zero))) (x, at, is) = absurd (cc (at, is))
only_first (suc (suc (suc (suc zero)))) (x, at, is) = absurd (cc (at, is))
only_first (suc (suc (suc (suc (suc k))))) (x, at, is) = absurd (cc at)

none_later : (n m : ℕ) {o : Option Entry} → 0 < n → n ≤ m → CountsOwn (HasFailed mended.flash) (after_fault n) (record { entry = o; behind = after_fault m })
none_later n m some more = record { later = more; own = λ k le lt failed. let first = only_first k failed in absurd (omega (arith, some, le, first)) }

-- no fault is due
free : {E : Type 0} → WereCounted 0 0 0 ⊎ E
free = inl (inl (omega arith))

free_behind : {E : Type 0} → WereCounted 0 0 1 ⊎ E
free_behind = inl (inl (omega arith))

abbrev asks_move : Move
asks_move = record { entry = Some asked_one; behind = at_ops 0 }

abbrev picks_move : Move
picks_move = record { entry = Some picks_one; behind = at_ops 0 }

abbrev to : ℕ → Option Entry → Move
to n o = record { entry = o; behind = after_fault n }

abbrev behind_pick : List Move
behind_pick = to 1 None ∷ to 2 None ∷ to 3 None ∷ to 4 None ∷ to 5 (Some wrote_five) ∷ to 5 (Some posted_five) ∷ []

posted_there : IsPostedWithin 2 8 13 4 1 (to 5 (Some posted_five) ∷ [])
posted_there = inr (inr (inr (inr (inl refl))))

written_there : IsPostedWithin 2 8 14 5 1 (to 5 (Some wrote_five) ∷ to 5 (Some posted_five) ∷ [])
written_there = inr (inr (inr (inr (inr (omega arith, omega arith, posted_there)))))

-- the fault gives it its turns anew
in_time_anew : IsPostedWithin 2 8 18 8 0 behind_pick
in_time_anew = inr (inr (inl (inl (omega arith), omega arith, inr (inr (inr (inr (inr (omega arith, omega arith, inr (inr (inr (inr (inr (omega arith, omega arith, inr (inr (inr (inr (inr (omega arith, omega arith, written_there))))))))))))))))))

no_page : {P : Type 0} {from to : ℕ} → (k : ℕ) → from ≤ k → k < to → IsSuch (reading_of (making_of small)) mended.flash TakesKept k → P
no_page k le lt kept = absurd (none_kept mended.flash k kept)

-- with a fault it may need a switch more
fault_adds : (room : Bool) → 5 ≤ 0 + ((if room then 4 else 27) + 23)
fault_adds true = omega arith
fault_adds false = omega arith

mended_work : HasWork (costs_of small) (HadFreePages (making_of small) mended.flash) (IsWornOut (making_of small) mended.flash) small (at_ops 0) (after small (Found [] 0 ∷ [])) (asks_move ∷ picks_move ∷ behind_pick)
mended_work = record {
  left = 0;
  few = omega arith;
  efforts = none_began 0 None ∷ may_begin 0 1 ∷ began 128 4 ∷ none_began 3 (Some 128) ∷ none_began 2 (Some 128) ∷ none_began 1 (Some 128) ∷ none_began 0 None ∷ none_began 0 None ∷ [];
  are = (rests _ _ _ _ _ _ _ _ _ refl (omega arith), (waits _ _ _ _ _ _ _ _ _ 1 (omega arith) refl (omega arith), (begins _ _ _ _ _ _ _ _ _ 128 refl (omega arith) may_try (λ test. fault_adds (test 4)), (goes _ _ _ _ _ _ _ _ _ 128 refl refl (omega arith), (goes _ _ _ _ _ _ _ _ _ 128 refl refl (omega arith), (goes _ _ _ _ _ _ _ _ _ 128 refl refl (omega arith), (ends _ _ _ _ _ _ _ _ _ 128 refl refl (omega arith) (inl refl), (rests _ _ _ _ _ _ _ _ _ refl (omega arith), tt))))))));
}

pub mended_kept : KeepsTurns (always 8) mended mended.course
mended_kept = record {
  first = at_ops 0;
  last = after_fault 5;
  moves = asks_move ∷ picks_move ∷ behind_pick;
  made = record {
    steps = record {
      moves = (asks_move ∷ []) ∷ (picks_move ∷ behind_pick) ∷ [];
      are = (refl, ((refl, search rules), tt));
      tell = refl;
      behind = refl;
    };
    all = refl;
    drains = λ calm. (λ drain. absurd (cc drain), (λ drain. absurd (cc drain), tt));
    finds = (λ drain. absurd (cc drain), (λ drain. absurd (cc drain), tt));
    cuts = ((tt, tt), ((tt, (tt, (tt, (tt, (tt, (tt, (tt, tt))))))), tt));
  };
  begins = refl;
  operations = refl;
  failed = (
    record { later = omega arith; own = λ k le lt failed. absurd (omega (arith, le, lt)) },
    (
      record { later = omega arith; own = λ k le lt failed. absurd (omega (arith, le, lt)) },
      (
        record { later = omega arith; own = λ k le lt failed. inl (omega arith) },
        (
          none_later 1 2 (omega arith) (omega arith),
          (
            none_later 2 3 (omega arith) (omega arith),
            (none_later 3 4 (omega arith) (omega arith), (none_later 4 5 (omega arith) (omega arith), (none_later 5 5 (omega arith) (omega arith), tt))),
          ),
        ),
      ),
    ),
  );
  counted = inl (omega arith);
  ends = tt;
  serves = (
    λ no_ask no_found. absurd (cc no_ask),
    (
      λ no_ask no_found. (_, inl refl, (refl, λ sw is. absurd (no_sweep sw is))),
      (
        λ no_ask no_found. (_, inl refl, (refl, λ sw is. absurd (no_sweep sw is))),
        (
          λ no_ask no_found. (_, inl refl, (refl, λ sw is. absurd (no_sweep sw is))),
          (
            λ no_ask no_found. (_, inl refl, (refl, λ sw is. absurd (no_sweep sw is))),
            (λ no_ask no_found. (_, inl refl, (refl, λ sw is. absurd (no_sweep sw is))), (λ no_ask no_found. (_, inl refl, (refl, λ sw is. absurd (no_sweep sw is))), (λ no_ask no_found. (_, inl refl, (refl, λ sw is. absurd (no_sweep sw is))), tt))),
          ),
        ),
      ),
    ),
  );
  posts = (
    λ is. absurd (cc is),
    (
      λ is j hand. subst (λ (id : ℕ). IsPostedWithin id 8 18 8 0 behind_pick) (sym (picked_block j hand)) in_time_anew,
      (λ is. absurd (cc is), (λ is. absurd (cc is), (λ is. absurd (cc is), (λ is. absurd (cc is), (λ is. absurd (cc is), (λ is. absurd (cc is), tt)))))),
    ),
  );
  rests = (λ rest idle no_ask. absurd (cc no_ask), (at_work, (at_work, (at_work, (at_work, (at_work, (at_work, (at_work, tt))))))));
  work = mended_work;
  kept = (no_page, (no_page, (no_page, (no_page, (no_page, (no_page, (no_page, (no_page, tt))))))));
  urgent = λ told sound. (λ id is. absurd (none_urgent id is), (λ id is. absurd (none_urgent id is), (λ id is. absurd (none_urgent id is), (λ id is. absurd (none_urgent id is), (λ id is. absurd (none_urgent id is), (λ id is. absurd (none_urgent id is), (λ id is. absurd (none_urgent id is), (λ id is. absurd (none_urgent id is), tt))))))));
  paid = λ told sound. (free, (free, (free_behind, (free_behind, (free_behind, (free_behind, (free_behind, (free_behind, tt))))))));
}

-- A WRITE THAT IS POSTED AS FAILED
abbrev picks_again : Entry
picks_again = Pick 2 WriteJob (TookContent one 0) 5

abbrev posts_failed : Entry
posts_failed = Post 2 NotOk None 0 5

-- the state in which it is picked, and that of its Post
abbrev asked_again : State
asked_again = after small (Found [] 0 ∷ asked_one ∷ picks_one ∷ wrote_five ∷ posted_five ∷ asked_one ∷ [])

abbrev picked_again : State
picked_again = after_from small asked_again (picks_again ∷ [])

from_more : (c : Configuration) (s : State) (xs ys : List Entry) → after_from c s (xs ++ ys) ≡ after_from c (after_from c s xs) ys
from_more c s [] ys = refl
from_more c s (x ∷ xs) ys = from_more c (step c s x) xs ys

entries_in : (xs ys : List Move) (a b : List Entry) → a ≡ entries_of xs → b ≡ entries_of ys → a ++ b ≡ entries_of (xs ++ ys)
entries_in [] ys a b one two = ap (λ (es : List Entry). es ++ b) one ∙ two
entries_in (x ∷ xs) ys a b one two = ap (λ (es : List Entry). es ++ b) one ∙ further (entry_list x.entry) (entries_of xs) b ∙ ap (λ (es : List Entry). entry_list x.entry ++ es) (entries_in xs ys (entries_of xs) b refl two)
  where
    further : (u v w : List Entry) → (u ++ v) ++ w ≡ u ++ (v ++ w)
    further [] v w = refl
    further (e ∷ u) v w = ap (λ (es : List Entry). e ∷ es) (further u v w)

-- what the last moves count and pay
counts_last : (failed : ℕ → Type 0) (before : Moment) (xs ys : List Move) → CountFailed failed before (xs ++ ys) → CountFailed failed before xs
counts_last failed before [] ys counts = tt
counts_last failed before (m ∷ ms) ys (here, rest) = (here, counts_last failed m.behind ms ys rest)

pays_last : (c : Configuration) (worn : Worn) (since : ℕ) (before : Moment) (s : State) (xs ys : List Move) → ArePaidSince c worn since before s (xs ++ ys)
    → (n : ℕ) × ArePaidSince c worn n (moment_behind before xs) (after_from c s (entries_of xs)) ys
pays_last c worn since before s [] ys paid = (since, paid)
pays_last c worn since before s (m ∷ ms) ys (here, rest) =
    let (n, more) = pays_last c worn (if is_picked m.entry then before.faults else since) m.behind (after_from c s (entry_list m.entry)) ms ys rest in
    (n, subst (λ (t : State). ArePaidSince c worn n (moment_behind m.behind ms) t ys) (sym (from_more c s (entry_list m.entry) (entries_of ms))) more)

both_told : (e f : Entry) (o p : Option Entry) → e ∷ f ∷ [] ≡ entry_list o ++ (entry_list p ++ []) → (o ≡ Some e) × (p ≡ Some f)
both_told e f None None is = absurd (cc is)
both_told e f None (Some x) is = absurd (cc is)
both_told e f (Some x) None is = absurd (cc is)
both_told e f (Some x) (Some y) is = let (first, second) = two_lists e f x y is in (ap (λ (z : Entry). Some z) (sym first), ap (λ (z : Entry). Some z) (sym second))

-- a blank flash isn't worn out
not_worn : (k n : ℕ) (urgent : Bool) → IsWornOut (making_of small) posts_on_credit.flash k n urgent → ⊥
not_worn k n urgent worn = let (b, h, active, last) = worn.last in cc active

-- the Post has a price, and no fault was counted since its Pick
unpaid : (n m : ℕ) → n ≤ m → 1 ≤ n → m ≤ 1 → (q : Move) → q.entry ≡ Some posts_failed → q.behind.faults ≡ m → IsPaidSince small (IsWornOut (making_of small) posts_on_credit.flash) n picked_again q → ⊥
unpaid n m up some few q is at paid = by (subst (λ (o : Option Entry). IsPaidSince small (IsWornOut (making_of small) posts_on_credit.flash) n picked_again (record { entry = o; behind = q.behind })) is paid)
  where
    by : IsPaidSince small (IsWornOut (making_of small) posts_on_credit.flash) n picked_again (record { entry = Some posts_failed; behind = q.behind }) → ⊥
    by (inl (inl counted)) = let more : n + 1 ≤ q.behind.faults = counted in omega (arith, more, some, at, few)
    by (inl (inr full)) = omega (arith, full, at, few)
    by (inr (j, hand, mark, was)) = not_worn was.moment _ _ was.is

-- a write's Post tells five operations, so behind four of them the first was counted
module _ (computes : SoundImagesCompute) (has : KeepsTurns (always 8) posts_on_credit posts_on_credit.course) where
  start : has.first.ops ≡ 0
  start = first_ops has.first.ops has.begins

  few : has.last.faults ≤ 1
  few = at_most has.last.faults has.counted
    where
      at_most : (n : ℕ) → WereCounted n 0 1 → n ≤ 1
      at_most n (inl is) = omega (arith, is)
      at_most n (inr full) = omega (arith, full)

  sound : StartsSound (making_of small) posts_on_credit.flash
  sound = (computes (banks_of (making_of small)) blank).0 refl

  module _ (ms : List Move) (p q : Move) (none : NoneFall has.first ms) (all : has.moves ≡ ms ++ p ∷ q ∷ []) (tell : Found [] 0 ∷ entries_of ms ≡ Found [] 0 ∷ asked_one ∷ picks_one ∷ wrote_five ∷ posted_five ∷ asked_one ∷ [])
      (made : AreTurnsMade (moment_behind has.first ms) (p ∷ q ∷ [])) (told : picks_again ∷ posts_failed ∷ [] ≡ entries_of (p ∷ q ∷ [])) (end : q.behind ≡ has.last) where
    abbrev before : Moment
    before = moment_behind has.first ms

    last_told : (p.entry ≡ Some picks_again) × (q.entry ≡ Some posts_failed)
    last_told = both_told picks_again posts_failed p.entry q.entry told

    four : 4 ≤ before.ops
    four =
        let five : Some 5 ≡ Some p.behind.ops = subst (λ (o : Option Entry). IfSome o (λ e. ops_of e ≡ Some p.behind.ops)) last_told.0 made.0.told in
        let is = some_same 5 p.behind.ops five in
        let one = made.0.one in omega (arith, is, one)

    rose : Rose has.first.faults before.faults
    rose =
        rose_by_then (HasFailed posts_on_credit.flash) has.first ms none
        (counts_last (HasFailed posts_on_credit.flash) has.first ms (p ∷ q ∷ []) (subst (λ (xs : List Move). CountFailed (HasFailed posts_on_credit.flash) has.first xs) all has.failed)) 0 (omega (arith, start))
        (omega (arith, four)) (_, refl, refl)

    up : before.faults ≤ q.behind.faults
    up = let one = made.0.faults in let two = made.1.0.faults in omega (arith, one, two)

    last_few : q.behind.faults ≤ 1
    last_few = let same = ap (λ (m : Moment). m.faults) end in omega (arith, same, few)

    some_counted : (a b : ℕ) → b ≤ 1 → Rose a b → 1 ≤ b
    some_counted a b small (inl lt) = omega (arith, lt)
    some_counted a b small (inr full) = let long = full.0 in let more = full.1 in absurd (omega (arith, long, more, small))

    state : after_from small (after small (Found [] 0 ∷ [])) (entries_of ms) ≡ asked_again
    state = ap (after small) tell

    pub no_pay : ⊥
    no_pay =
        let paid = subst (λ (xs : List Move). ArePaidSince small (IsWornOut (making_of small) posts_on_credit.flash) has.first.faults has.first (after small (Found [] 0 ∷ [])) xs) all (has.paid (record { first = _; entry = refl; last = _; exit = refl }) sound) in
        let (n, last) = pays_last small (IsWornOut (making_of small) posts_on_credit.flash) has.first.faults has.first (after small (Found [] 0 ∷ [])) ms (p ∷ q ∷ []) paid in
        let at_pick = subst (λ (o : Option Entry). IsPaidSince small (IsWornOut (making_of small) posts_on_credit.flash) (if is_picked o then before.faults else n) (after_from small (after_from small (after small (Found [] 0 ∷ [])) (entries_of ms)) (entry_list o)) q) last_told.0 last.1.0 in
        unpaid before.faults q.behind.faults up (some_counted has.first.faults before.faults (omega (arith, up, last_few)) rose) last_few q last_told.1 refl
        (subst (λ (s : State). IsPaidSince small (IsWornOut (making_of small) posts_on_credit.flash) before.faults (after_from small s (picks_again ∷ [])) q) state at_pick)

  by_moves : (mss : List (List Move)) → AreMoves has.first (asks_step ∷ turns 7 ∷ asks_step ∷ turns 2 ∷ []) mss
      → (asked_one ∷ []) ∷ (picks_one ∷ wrote_five ∷ posted_five ∷ []) ∷ (asked_one ∷ []) ∷ (picks_again ∷ posts_failed ∷ []) ∷ [] ≡ map entries_of mss → moment_after has.first mss ≡ has.last → has.made.steps.moves ≡ mss → ⊥
  by_moves [] are tell behind is = are
  by_moves (xs ∷ []) are tell behind is = are.1
  by_moves (xs ∷ ts ∷ []) are tell behind is = are.1.1
  by_moves (xs ∷ ts ∷ ys ∷ []) are tell behind is = are.1.1.1
  by_moves (xs ∷ ts ∷ ys ∷ us ∷ vs ∷ mss) are tell behind is = are.1.1.1.1
  by_moves (xs ∷ ts ∷ ys ∷ [] ∷ []) are tell behind is = let two = are.1.1.1.0.0 in omega (arith, two)
  by_moves (xs ∷ ts ∷ ys ∷ (p ∷ []) ∷ []) are tell behind is = let two = are.1.1.1.0.0 in omega (arith, two)
  by_moves (xs ∷ ts ∷ ys ∷ (p ∷ q ∷ r ∷ us) ∷ []) are tell behind is = let two = are.1.1.1.0.0 in omega (arith, two)
  by_moves (xs ∷ ts ∷ ys ∷ (p ∷ q ∷ []) ∷ []) are tell behind is =
      let (t1, t2, t3, t4) = four_lists (asked_one ∷ []) (picks_one ∷ wrote_five ∷ posted_five ∷ []) (asked_one ∷ []) (picks_again ∷ posts_failed ∷ []) (entries_of xs) (entries_of ts) (entries_of ys) (entries_of (p ∷ q ∷ [])) tell in
      let ms = xs ++ (ts ++ ys) in
      let middle = behind_more (moment_behind has.first xs) ts ys in
      let to_end = behind_more has.first xs (ts ++ ys) ∙ middle in
      no_pay ms p q
      (fall_more has.first xs (ts ++ ys) (step_falls (AskStep (Write 2 (Some one) 0)) has.first xs are.0)
      (fall_more (moment_behind has.first xs) ts ys (step_falls (Turn 7) (moment_behind has.first xs) ts are.1.0) (step_falls (AskStep (Write 2 (Some one) 0)) (moment_behind (moment_behind has.first xs) ts) ys are.1.1.0)))
      (sym has.made.all ∙ ap all_moves is ∙ in_one xs ts ys (p ∷ q ∷ []))
      (ap (λ (es : List Entry). Found [] 0 ∷ es) (sym (entries_in xs (ts ++ ys) (asked_one ∷ []) (picks_one ∷ wrote_five ∷ posted_five ∷ asked_one ∷ []) t1 (entries_in ts ys (picks_one ∷ wrote_five ∷ posted_five ∷ []) (asked_one ∷ []) t2 t3))))
      (subst (λ (m : Moment). AreTurnsMade m (p ∷ q ∷ [])) (sym to_end) are.1.1.1.0.1) t4 behind
    where
      four_lists : {X : Type 0} (a b c d x y z w : X) → a ∷ b ∷ c ∷ d ∷ [] ≡ x ∷ y ∷ z ∷ w ∷ [] → (a ≡ x) × (b ≡ y) × (c ≡ z) × (d ≡ w)
      four_lists a b c d x y z w same = (cc same, cc same, cc same, cc same)

      in_one : (ws bs cs ds : List Move) → ws ++ (bs ++ (cs ++ (ds ++ []))) ≡ (ws ++ (bs ++ cs)) ++ ds
      in_one ws bs cs ds =
          ap (λ (zs : List Move). ws ++ (bs ++ (cs ++ zs))) (append-nil ds) ∙ ap (λ (zs : List Move). ws ++ zs) (sym (append_assoc bs cs ds)) ∙ sym (append_assoc ws (bs ++ cs) ds)

  pub not_posted_on_credit : ⊥
  not_posted_on_credit = by_moves has.made.steps.moves has.made.steps.are has.made.steps.tell has.made.steps.behind refl

-- Turns, one by one.
use Rattle.std.specs.Prelude.{map, IfSome, nat_le, if◌then◌else◌, Bool, drop, not, ◌&&◌, ◌||◌}
use Rattle.std.proofs.lemmas.Bool.{and_parts, leb-true}
use Rattle.std.proofs.Common.{◌≡◌, ◌⊎◌, ◌≤◌, ◌<◌, ◌+◌, ◌-◌, ℕ, zero, suc, true, false, IsTrue, List, [], ◌∷◌, ◌++◌, length, Option, Some, None, refl, sym, ap, ◌∙◌, subst, inl, inr, arith, append-nil, rules}
use Rattle.block_machine.specs.nv_base.Count.{Rose, WereCounted}
use Rattle.block_machine.specs.nv_base.Entry.{ops_of}
use Rattle.block_machine.specs.nv_base.Geometry.{pages_of_bank}
use Rattle.memif.specs.Clock.{TakesKept}
use Rattle.fls_model.specs.Op.{Op, Program, Erase}
use Rattle.script_walks.specs.Words.{Step, AskStep, Turn}
use Rattle.script_walks.specs.Walk.{begins_with_pick_or_post, is_due}
use Rattle.block_machine.specs.Words.{Fine, Content, Write, Accepted, Entry, Ask, Wrote, Post, Found}
use Rattle.block_machine.specs.State.{State, Job, Sweep}
use Rattle.block_machine.specs.Blocks.{job_block}
use Rattle.block_machine.specs.Steps.{after, after_from}
use Rattle.promise_run.specs.Turns.{Moment, Move, entry_list, entries_of, moment_behind, moment_after, AreTurnsMade, AreMoves, IsPostedWithin, EachMove, PostsPicked, Among, BeginWhatIsDue, CountsOwn, KeepsTurns, is_asked, is_found, is_picked, all_moves, turns_in_all}
use Rattle.promise_device.specs.FlashRun.{FlashRun, HasFailed}
use Rattle.promise_device.specs.Making.{Making}
use Rattle.promise_device.specs.Traits.{page_in_bank, is_kept_page, is_such_op}
use Rattle.promise_device.specs.Bridge.{IsSuch, IsWornOut, reading_of}
use Rattle.promise_run.specs.Promise.{making_of}
use Rattle.promise_blocks.specs.Work.{MayBegin}
use Rattle.promise_run.specs.Operations.{HadFreePages, HasWork, costs_of}
use Rattle.promise_run.proofs.Efforts.{may_begin, none_began, began, waits, rests, goes, ends, begins}
use Rattle.promise_run.specs.Cases.{small, one, picks_one, always, six_turns, lazy, leaps}
use Rattle.promise_run.specs.UrgentCases.{at, fault_at, idle, writes}

-- LISTS

pub two_lists : {X : Type 0} (a b x y : X) → a ∷ b ∷ [] ≡ x ∷ y ∷ [] → (a ≡ x) × (b ≡ y)
two_lists a b x y is = (cc is, cc is)

one_list : {X : Type 0} (a x : X) (xs ys : List X) → a ∷ xs ≡ x ∷ ys → (a ≡ x) × (xs ≡ ys)
one_list a x xs ys is = (cc is, cc is)

pub some_same : {X : Type 0} (x y : X) → Some x ≡ Some y → x ≡ y
some_same x y is = cc is

none_in : (e : Option Entry) (es : List Entry) → entry_list e ++ es ≡ [] → (e ≡ None) × (es ≡ [])
none_in None es is = (refl, is)
none_in (Some e) es is = absurd (cc is)

only_in : (o : Option Entry) (e : Entry) → e ∷ [] ≡ entry_list o ++ [] → o ≡ Some e
only_in None e is = absurd (cc is)
only_in (Some x) e is = ap (λ (y : Entry). Some y) (sym (one_list e x [] [] is).0)

-- NO TURN POSTS

no_less : (before : Moment) (ms : List Move) → AreTurnsMade before ms → before.faults ≤ (moment_behind before ms).faults
no_less before [] made = omega arith
no_less before (m ∷ ms) made = let more = made.0.faults in let rest = no_less m.behind ms made.1 in omega (arith, more, rest)

no_rise : (a b : ℕ) → b ≤ a → a ≤ 1 → Rose a b → ⊥
no_rise a b less few (inl rose) = omega (arith, rose, less)
no_rise a b less few (inr full) = let end = full.0 in omega (arith, end, few)

-- one that adds nothing and counts no fault takes one of the turns
takes_one : (id most all turns faults : ℕ) (m : Move) (ms : List Move) → m.entry ≡ None → (Rose faults m.behind.faults → ⊥) → IsPostedWithin id most all turns faults (m ∷ ms)
    → (1 < turns) × (1 < all) × IsPostedWithin id most (all - 1) (turns - 1) m.behind.faults ms
takes_one id most all turns faults m ms none calm (inl found) = absurd (cc (found, none))
takes_one id most all turns faults m ms none calm (inr (inl (asked, rest))) = absurd (cc (asked, none))
takes_one id most all turns faults m ms none calm (inr (inr (inl (rose, more, rest)))) = absurd (calm rose)
takes_one id most all turns faults m ms none calm (inr (inr (inr (inl failed)))) = absurd (cc (failed, none))
takes_one id most all turns faults m ms none calm (inr (inr (inr (inr (inl ended))))) = absurd (cc (ended, none))
takes_one id most all turns faults m ms none calm (inr (inr (inr (inr (inr goes))))) = goes

no_post : (id most all n : ℕ) (before : Moment) (ms : List Move) → length ms ≡ n → 0 < n → entries_of ms ≡ [] → AreTurnsMade before ms → (moment_behind before ms).faults ≤ 0 → IsPostedWithin id most all n before.faults ms → ⊥
no_post id most all n before [] many some none made few posted = omega (arith, many, some)
no_post id most all n before (m ∷ ms) many some none made few posted =
    let (entry, rest) = none_in m.entry (entries_of ms) none in
    let more = made.0.faults in
    let least = no_less m.behind ms made.1 in
    let (fewer, some_left, later) = takes_one id most all n before.faults m ms entry (no_rise before.faults m.behind.faults (omega (arith, least, few)) (omega (arith, more, least, few))) posted in
    no_post id most (all - 1) (n - 1) m.behind ms (omega (arith, many)) (omega (arith, fewer)) rest made.1 few later

pub no_count : (n : ℕ) → WereCounted n 0 0 → n ≤ 0
no_count n (inl few) = omega (arith, few)
no_count n (inr full) = omega (arith, full)

-- SIX TURNS

-- no WriteAll is pending
pub no_sweep : (sw : Sweep) → None ≡ Some sw → ⊥
no_sweep sw is = cc is

-- something is pending
pub at_work : {P Q R T : Type 0} → false ≡ true → P → Q → R → T
at_work rest = absurd (cc rest)

abbrev pub at_ops : ℕ → Moment
at_ops n = record { faults = 0; ops = n; busy = false }

-- a turn that adds nothing
passes : (id most all n : ℕ) (ops : ℕ) (ms : List Move) → 1 < n → 1 < all → IsPostedWithin id most (all - 1) (n - 1) 0 ms → IsPostedWithin id most all n 0 (record { entry = None; behind = at_ops ops } ∷ ms)
passes id most all n ops ms some more later = inr (inr (inr (inr (inr (some, more, later)))))

abbrev pub asked_one : Entry
asked_one = Ask 0 (Write 2 (Some one) 0) Accepted

abbrev pub wrote_one : Entry
wrote_one = Wrote (record { block = 2; index = 0 }) (Content one) 4

abbrev posted_one : Entry
posted_one = Post 2 Fine None 0 4

abbrev no_entry : ℕ → Move
no_entry n = record { entry = None; behind = at_ops n }

abbrev pub behind_pick : List Move
behind_pick = no_entry 1 ∷ no_entry 2 ∷ no_entry 3 ∷ record { entry = Some wrote_one; behind = at_ops 4 } ∷ record { entry = Some posted_one; behind = at_ops 4 } ∷ []

abbrev wrote_move : Move
wrote_move = record { entry = Some wrote_one; behind = at_ops 4 }

abbrev posted_move : Move
posted_move = record { entry = Some posted_one; behind = at_ops 4 }

ends_there : IsPostedWithin 2 8 14 4 0 (posted_move ∷ [])
ends_there = inr (inr (inr (inr (inl refl))))

wrote_there : IsPostedWithin 2 8 15 5 0 (wrote_move ∷ posted_move ∷ [])
wrote_there = inr (inr (inr (inr (inr (omega arith, omega arith, ends_there)))))

pub in_time : IsPostedWithin 2 8 18 8 0 behind_pick
in_time =
    passes 2 8 18 8 1 (no_entry 2 ∷ no_entry 3 ∷ wrote_move ∷ posted_move ∷ []) (omega arith) (omega arith)
    (passes 2 8 17 7 2 (no_entry 3 ∷ wrote_move ∷ posted_move ∷ []) (omega arith) (omega arith) (passes 2 8 16 6 3 (wrote_move ∷ posted_move ∷ []) (omega arith) (omega arith) wrote_there))

-- BEHIND A FAULT
-- it has its turns anew, also with the last one of them
pub renewed : IsPostedWithin 2 2 9 1 0 (idle 1 2 (drop 4 (writes 1)))
renewed = inr (inr (inl (inl (omega arith), omega arith, inr (inr (inr (inr (inr (omega arith, omega arith, inr (inr (inr (inr (inl refl))))))))))))

two_pass : (turns : ℕ) → turns ≤ 2 → IsPostedWithin 2 2 8 turns 1 (idle 1 2 (drop 4 (writes 1))) → ⊥
two_pass turns few all =
    let (one, some, rest) = takes_one 2 2 8 turns 1 (record { entry = None; behind = at 1 0 }) (idle 1 1 (drop 4 (writes 1))) refl (no_rise 1 1 (omega arith) (omega arith)) all in
    let (two, more, last) = takes_one 2 2 7 (turns - 1) 1 (record { entry = None; behind = at 1 0 }) (drop 4 (writes 1)) refl (no_rise 1 1 (omega arith) (omega arith)) rest in omega (arith, few, two)

-- and no more than these
pub not_renewed_again : IsPostedWithin 2 2 9 2 0 (idle 1 3 (drop 4 (writes 1))) → ⊥
not_renewed_again (inl found) = absurd (cc found)
not_renewed_again (inr (inl (asked, rest))) = absurd (cc asked)
not_renewed_again (inr (inr (inl (rose, some, rest)))) = two_pass 2 (omega arith) rest
not_renewed_again (inr (inr (inr (inl failed)))) = absurd (cc failed)
not_renewed_again (inr (inr (inr (inr (inl ended))))) = absurd (cc ended)
not_renewed_again (inr (inr (inr (inr (inr (few, some, rest)))))) = two_pass 1 (omega arith) rest

-- each turn, with its fault, takes one of those that it has in all
pub in_all : IsPostedWithin 2 2 3 2 0 (fault_at 1 ∷ fault_at 2 ∷ [])
in_all = inr (inr (inl (inl (omega arith), omega arith, inr (inr (inl (inl (omega arith), omega arith, tt))))))

takes_of_all : (turns faults : ℕ) (m : Move) (ms : List Move) → m.entry ≡ None → IsPostedWithin 2 2 1 turns faults (m ∷ ms) → ⊥
takes_of_all turns faults m ms none (inl found) = absurd (cc (found, none))
takes_of_all turns faults m ms none (inr (inl (asked, rest))) = absurd (cc (asked, none))
takes_of_all turns faults m ms none (inr (inr (inl (rose, some, rest)))) = omega (arith, some)
takes_of_all turns faults m ms none (inr (inr (inr (inl failed)))) = absurd (cc (failed, none))
takes_of_all turns faults m ms none (inr (inr (inr (inr (inl ended))))) = absurd (cc (ended, none))
takes_of_all turns faults m ms none (inr (inr (inr (inr (inr (few, some, rest)))))) = omega (arith, some)

pub not_for_ever : IsPostedWithin 2 2 2 2 0 (fault_at 1 ∷ fault_at 2 ∷ []) → ⊥
not_for_ever (inl found) = absurd (cc found)
not_for_ever (inr (inl (asked, rest))) = absurd (cc asked)
not_for_ever (inr (inr (inl (rose, some, rest)))) = takes_of_all 2 1 (fault_at 2) [] refl rest
not_for_ever (inr (inr (inr (inl failed)))) = absurd (cc failed)
not_for_ever (inr (inr (inr (inr (inl ended))))) = absurd (cc ended)
not_for_ever (inr (inr (inr (inr (inr (few, some, rest)))))) = takes_of_all 1 1 (fault_at 2) [] refl rest

abbrev pub asked : State
asked = after small (Found [] 0 ∷ asked_one ∷ [])

abbrev picked : State
picked = after_from small asked (picks_one ∷ [])

pub picked_block : (j : Job) → picked.hand ≡ Some j → job_block j ≡ 2
picked_block j hand = sym (ap job_block (some_same _ j hand))

-- no urgent write is accepted
pub none_urgent : (id : ℕ) → None ≡ Some id → ⊥
none_urgent id is = cc is

-- none of its pages is kept
no_reserve : (m : Making) → m.reserve ≡ 0 → (page : ℕ) → is_kept_page m page ≡ true → ⊥
no_reserve m none page kept =
    let n = pages_of_bank m.geometry m.banks in
    let (from, to) = and_parts (nat_le (n - m.reserve) page) (nat_le (page + 1) n) kept in
    let low = leb-true (n - m.reserve) page from in
    let high = leb-true (page + 1) n to in omega (arith, none, low, high)

pub none_kept : (f : FlashRun) (k : ℕ) → IsSuch (reading_of (making_of small)) f TakesKept k → ⊥
none_kept f k (x, at, is) = by x.op is
  where
    by : (op : Op) → IsTrue (is_such_op (making_of small) TakesKept op x.answer) → ⊥
    by (Program address page) is = no_reserve (making_of small) refl (page_in_bank small.geometry (making_of small).banks address) is
    by (Erase address n) is = cc is

-- no fault is due, and none was counted
pub free : {E : Type 0} → WereCounted 0 0 0 ⊎ E
free = inl (inl (omega arith))

all_done : (k : ℕ) → HasFailed six_turns.flash k → ⊥
all_done zero (x, at, is) = cc (at, is)
all_done (suc zero) (x, at, is) = cc (at, is)
all_done (suc (suc zero)) (x, at, is) = cc (at, is)
all_done (suc (suc (suc zero))) (x, at, is) = cc (at, is)
all_done (suc (suc (suc (suc k)))) (x, at, is) = cc at

pub none_fails : (n m : ℕ) {o : Option Entry} → n ≤ m → CountsOwn (HasFailed six_turns.flash) (at_ops n) (record { entry = o; behind = at_ops m })
none_fails n m more = record { later = more; own = λ k le lt failed. absurd (all_done k failed) }

pub no_page : {P : Type 0} {from to : ℕ} → (k : ℕ) → from ≤ k → k < to → IsSuch (reading_of (making_of small)) six_turns.flash TakesKept k → P
no_page k le lt kept = absurd (none_kept six_turns.flash k kept)

-- the try of its record adds its pages, and a switch where these are not free
pub may_try : MayBegin small picked (record { left = 0; trying = None; tries = 1 }) 128
may_try = record { none = refl; job = _; hand = refl; writes = λ is. cc is; index = 0; one = (0, omega arith, refl); number_is = refl }

pub one_adds : (room : Bool) → 4 ≤ 0 + ((if room then 4 else 27) + 0)
one_adds true = omega arith
one_adds false = omega arith

abbrev pub six_moves : List Move
six_moves = record { entry = Some asked_one; behind = at_ops 0 } ∷ record { entry = Some picks_one; behind = at_ops 0 } ∷ behind_pick

pub six_work : HasWork (costs_of small) (HadFreePages (making_of small) six_turns.flash) (IsWornOut (making_of small) six_turns.flash) small (at_ops 0) (after small (Found [] 0 ∷ [])) six_moves
six_work = record {
  left = 0;
  few = omega arith;
  efforts = none_began 0 None ∷ may_begin 0 1 ∷ began 128 3 ∷ none_began 2 (Some 128) ∷ none_began 1 (Some 128) ∷ none_began 0 None ∷ none_began 0 None ∷ [];
  are = (rests _ _ _ _ _ _ _ _ _ refl (omega arith), (waits _ _ _ _ _ _ _ _ _ 1 (omega arith) refl (omega arith), (begins _ _ _ _ _ _ _ _ _ 128 refl (omega arith) may_try (λ test. one_adds (test 4)), (goes _ _ _ _ _ _ _ _ _ 128 refl refl (omega arith), (goes _ _ _ _ _ _ _ _ _ 128 refl refl (omega arith), (ends _ _ _ _ _ _ _ _ _ 128 refl refl (omega arith) (inl refl), (rests _ _ _ _ _ _ _ _ _ refl (omega arith), tt)))))));
}

-- each turn saw the state before it
pub six_serve : (within : Bool) → BeginWhatIsDue within small (after small (Found [] 0 ∷ []) ∷ []) (after small (Found [] 0 ∷ [])) six_moves
six_serve within = (
  λ no_ask no_found. absurd (cc no_ask),
  (
    λ no_ask no_found. (_, inl refl, (refl, λ sw is. absurd (no_sweep sw is))),
    (
      λ no_ask no_found. (_, inl refl, (refl, λ sw is. absurd (no_sweep sw is))),
      (
        λ no_ask no_found. (_, inl refl, (refl, λ sw is. absurd (no_sweep sw is))),
        (
          λ no_ask no_found. (_, inl refl, (refl, λ sw is. absurd (no_sweep sw is))),
          (λ no_ask no_found. (_, inl refl, (refl, λ sw is. absurd (no_sweep sw is))), (λ no_ask no_found. (_, inl refl, (refl, λ sw is. absurd (no_sweep sw is))), tt)),
        ),
      ),
    ),
  ),
)

pub six_posts : EachMove small (PostsPicked small (always 8)) (after small (Found [] 0 ∷ [])) six_moves
six_posts = (
  λ is. absurd (cc is),
  (
    λ is j hand. subst (λ (id : ℕ). IsPostedWithin id 8 18 8 0 behind_pick) (sym (picked_block j hand)) in_time,
    (λ is. absurd (cc is), (λ is. absurd (cc is), (λ is. absurd (cc is), (λ is. absurd (cc is), (λ is. absurd (cc is), tt))))),
  ),
)

pub six_kept : KeepsTurns (always 8) six_turns six_turns.course
six_kept = record {
  first = at_ops 0;
  last = at_ops 4;
  moves = six_moves;
  made = record {
    steps = record {
      moves = (record { entry = Some asked_one; behind = at_ops 0 } ∷ []) ∷ (record { entry = Some picks_one; behind = at_ops 0 } ∷ behind_pick) ∷ [];
      are = (refl, ((refl, search rules), tt));
      tell = refl;
      behind = refl;
    };
    all = refl;
    drains = λ calm. (λ drain. absurd (cc drain), (λ drain. absurd (cc drain), tt));
    finds = (λ drain. absurd (cc drain), (λ drain. absurd (cc drain), tt));
    cuts = ((tt, tt), ((tt, (tt, (tt, (tt, (tt, (tt, tt)))))), tt));
  };
  begins = refl;
  operations = refl;
  failed = (none_fails 0 0 (omega arith), (none_fails 0 0 (omega arith), (none_fails 0 1 (omega arith), (none_fails 1 2 (omega arith), (none_fails 2 3 (omega arith), (none_fails 3 4 (omega arith), (none_fails 4 4 (omega arith), tt)))))));
  counted = inl (omega arith);
  ends = tt;
  serves = six_serve false;
  posts = six_posts;
  rests = (λ rest idle no_ask. absurd (cc no_ask), (at_work, (at_work, (at_work, (at_work, (at_work, (at_work, tt)))))));
  work = six_work;
  kept = (no_page, (no_page, (no_page, (no_page, (no_page, (no_page, (no_page, tt)))))));
  urgent = λ told sound. (λ id is. absurd (none_urgent id is), (λ id is. absurd (none_urgent id is), (λ id is. absurd (none_urgent id is), (λ id is. absurd (none_urgent id is), (λ id is. absurd (none_urgent id is), (λ id is. absurd (none_urgent id is), (λ id is. absurd (none_urgent id is), tt)))))));
  paid = λ told sound. (free, (free, (free, (free, (free, (free, (free, tt)))))));
}

-- NINE TURNS

abbrev pub asks_step : Step
asks_step = record { line = 0; caller = 0; kind = AskStep (Write 2 (Some one) 0) }

-- a turn goes by no job that is due
no_wait : (m : Move) (ms : List Move) → BeginWhatIsDue false small (asked ∷ []) asked (m ∷ ms) → m.entry ≡ None → ⊥
no_wait m ms serves none = let (t, among, is) = serves.0 (ap is_asked none) (ap is_found none) in saw t among is.0
  where
    saw : (t : State) → Among t (asked ∷ []) → IsTrue (not (is_due t) || begins_with_pick_or_post (entry_list m.entry)) → ⊥
    saw t (inl same) is =
        cc (subst (λ (o : Option Entry). IsTrue (begins_with_pick_or_post (entry_list o))) none (subst (λ (x : State). IsTrue (not (is_due x) || begins_with_pick_or_post (entry_list m.entry))) (sym same) is))
    saw t (inr never) is = absurd never

-- so its first turn picks it, and the others add nothing
lazy_turns : (before : Moment) (ts : List Move) → length ts ≡ 9 → AreTurnsMade before ts → picks_one ∷ [] ≡ entries_of ts → (moment_behind before ts).faults ≤ 0 → BeginWhatIsDue false small (asked ∷ []) asked ts
    → EachMove small (PostsPicked small (always 8)) asked ts → ⊥
lazy_turns before [] many made tell few serves posts = omega (arith, many)
lazy_turns before (t ∷ ts) many made tell few serves posts = by t.entry refl
  where
    by : (o : Option Entry) → t.entry ≡ o → ⊥
    by None is = no_wait t ts serves is
    by (Some e) is =
        let shown : picks_one ∷ [] ≡ e ∷ entries_of ts = tell ∙ ap (λ (o : Option Entry). entry_list o ++ entries_of ts) is in
        let (same, rest) = one_list picks_one e [] (entries_of ts) shown in
        let picks : t.entry ≡ Some picks_one = is ∙ ap (λ (x : Entry). Some x) (sym same) in
        let state : after_from small asked (entry_list t.entry) ≡ picked = ap (λ (o : Option Entry). after_from small asked (entry_list o)) picks in
        no_post 2 8 (turns_in_all small (after_from small asked (entry_list t.entry)) 8) 8 t.behind ts (omega (arith, many)) (omega arith) (sym rest) made.1 few
        (posts.0 (ap is_picked picks) _ (ap (λ (s : State). s.hand) state))

-- the state and the states behind its request
abbrev begins_behind : Option Entry → List Move → Type 0
begins_behind o ts =
    BeginWhatIsDue false small (after_from small (after small (Found [] 0 ∷ [])) (entry_list o) ∷ (if is_asked o && false then after small (Found [] 0 ∷ []) ∷ [] else []))
    (after_from small (after small (Found [] 0 ∷ [])) (entry_list o)) ts

lazy_moves : (first : Moment) (mss : List (List Move)) → AreMoves first (asks_step ∷ record { line = 0; caller = 0; kind = Turn 9 } ∷ []) mss → (asked_one ∷ []) ∷ (picks_one ∷ []) ∷ [] ≡ map entries_of mss → (moment_after first mss).faults ≤ 0
    → BeginWhatIsDue false small (after small (Found [] 0 ∷ []) ∷ []) (after small (Found [] 0 ∷ [])) (all_moves mss) → EachMove small (PostsPicked small (always 8)) (after small (Found [] 0 ∷ [])) (all_moves mss) → ⊥
lazy_moves first [] are tell few serves posts = are
lazy_moves first (xs ∷ []) are tell few serves posts = are.1
lazy_moves first (xs ∷ ts ∷ us ∷ mss) are tell few serves posts = are.1.1
lazy_moves first ([] ∷ ts ∷ []) are tell few serves posts = are.0
lazy_moves first ((a ∷ b ∷ xs) ∷ ts ∷ []) are tell few serves posts = are.0
lazy_moves first ((a ∷ []) ∷ ts ∷ []) are tell few serves posts =
    let (one_ask, turns) = two_lists (asked_one ∷ []) (picks_one ∷ []) (entries_of (a ∷ [])) (entries_of ts) tell in
    let asks = only_in a.entry asked_one one_ask in
    let state : after_from small (after small (Found [] 0 ∷ [])) (entry_list a.entry) ≡ asked = ap (λ (o : Option Entry). after_from small (after small (Found [] 0 ∷ [])) (entry_list o)) asks in
    lazy_turns a.behind ts are.1.0.0 are.1.0.1 turns few
    (subst (λ (ms : List Move). BeginWhatIsDue false small (asked ∷ []) asked ms) (append-nil ts) (subst (λ (o : Option Entry). begins_behind o (ts ++ [])) asks serves.1))
    (subst (λ (ms : List Move). EachMove small (PostsPicked small (always 8)) asked ms) (append-nil ts) (subst (λ (s : State). EachMove small (PostsPicked small (always 8)) s (ts ++ [])) state posts.1))

pub not_lazy : KeepsTurns (always 8) lazy lazy.course → ⊥
not_lazy has =
    let steps = has.made.steps in
    lazy_moves has.first steps.moves steps.are steps.tell
    (let few = no_count has.last.faults has.counted in let same = ap (λ (m : Moment). m.faults) steps.behind in omega (arith, few, same))
    (subst (λ (ms : List Move). BeginWhatIsDue false small (after small (Found [] 0 ∷ []) ∷ []) (after small (Found [] 0 ∷ [])) ms) (sym has.made.all) has.serves)
    (subst (λ (ms : List Move). EachMove small (PostsPicked small (always 8)) (after small (Found [] 0 ∷ [])) ms) (sym has.made.all) has.posts)

-- TWO TURNS

leap : (before : Moment) (ts : List Move) → length ts ≡ 2 → AreTurnsMade before ts → picks_one ∷ wrote_one ∷ [] ≡ entries_of ts → ⊥
leap before [] many made tell = omega (arith, many)
leap before (t ∷ []) many made tell = omega (arith, many)
leap before (t ∷ u ∷ v ∷ ts) many made tell = omega (arith, many)
leap before (t ∷ u ∷ []) many made tell = by t.entry u.entry made.0.told made.1.0.told tell
  where
    by : (o p : Option Entry) → IfSome o (λ e. ops_of e ≡ Some t.behind.ops) → IfSome p (λ e. ops_of e ≡ Some u.behind.ops) → picks_one ∷ wrote_one ∷ [] ≡ entry_list o ++ (entry_list p ++ []) → ⊥
    by None None one two is = cc is
    by None (Some e) one two is = cc is
    by (Some e) None one two is = cc is
    by (Some e) (Some f) told then_told is =
        let (first, second) = two_lists picks_one wrote_one e f is in
        let a : 0 ≡ t.behind.ops = some_same 0 t.behind.ops (ap ops_of first ∙ told) in
        let b : 4 ≡ u.behind.ops = some_same 4 u.behind.ops (ap ops_of second ∙ then_told) in
        let few = made.1.0.one in omega (arith, a, b, few)

leap_moves : (first : Moment) (mss : List (List Move)) → AreMoves first (asks_step ∷ record { line = 0; caller = 0; kind = Turn 2 } ∷ []) mss → (asked_one ∷ []) ∷ (picks_one ∷ wrote_one ∷ []) ∷ [] ≡ map entries_of mss → ⊥
leap_moves first [] are tell = are
leap_moves first (xs ∷ []) are tell = are.1
leap_moves first (xs ∷ ts ∷ us ∷ mss) are tell = are.1.1
leap_moves first (xs ∷ ts ∷ []) are tell =
    let (one_ask, turns) = two_lists (asked_one ∷ []) (picks_one ∷ wrote_one ∷ []) (entries_of xs) (entries_of ts) tell in leap (moment_behind first xs) ts are.1.0.0 are.1.0.1 turns

pub no_leap : KeepsTurns (always 8) leaps leaps.course → ⊥
no_leap has = leap_moves has.first has.made.steps.moves has.made.steps.are has.made.steps.tell

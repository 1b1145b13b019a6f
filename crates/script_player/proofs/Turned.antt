-- Turn after turn.
use Rattle.script_player.proofs.Common.{list_all, ◌≡◌, ◌<◌, ◌≤◌, ◌+◌, ℕ, zero, suc, Bool, true, false, IsTrue, List, [], ◌∷◌, ◌++◌, length, Option, Some, None, refl, sym, ap, ◌∙◌, subst, inl, inr, arith, append-nil, length-append, not, Rose, Turned, Entry, Configuration, State, Job, after, after_from, Step, is_at_rest, IsTurn, JobsTookStored, StackTold, state_of, moment_of, IsGrown, MakesTurn, Turns, HasTurned, AreMade, AllFindWork, MakesTurns, Drains, TurnMoves, Seen, moves_more, Moment, Move, FindsWork, entry_list, entries_of, moment_behind, from_more, rests_next, rest_ends, off_ends, or_left, or_right, is_played, AreTurns, KeepsStored, turns_keep_stored, keeping_goes_on, turns_grow, is_last, has_work}
use Rattle.std.specs.Option.{is_some}
use Rattle.std.proofs.Common.{◌||◌}
use Rattle.uds_gateway.specs.nvm_laws.declared.turned.Turned.TheVariants as turned
use Rattle.script_player.specs.Kept.{IsKept}
use Rattle.script_player.proofs.Explained.{explained_more, none_explained}
use Rattle.script_player.proofs.Grown.{state_more, state_grown, grown_more}
use Rattle.script_player.proofs.Moves.{made_more, move_to, turn_moved}
use Rattle.script_player.proofs.PlainHalves.{not_so}

-- what a turn adds keeps what is kept
pub turn_kept : (before : List Step) (old new : StackTold) (turn : MakesTurn old new) → IsKept before old → HasTurned before old new turn.entries × IsKept before new
turn_kept before old new turn kept =
    let keeps = turns_keep_stored old.configuration before (state_of old) old.stores turn.entries kept.stores kept.jobs turn.turn in (
      record { grows = turn.grows; counted = turn.counted; explained = turn.explained; keeps = keeps },
      subst (λ (t : StackTold). IsKept before t) (sym turn.grows) (record {
        ready = kept.ready;
        places = kept.places;
        stores = kept.stores;
        jobs = subst (λ (s : State). JobsTookStored old.configuration before s) (sym (state_more old.configuration old.entries turn.entries)) keeps.jobs;
      }),
    )

pub turned_more : (before : List Step) (old mid new : StackTold) (es more : List Entry) → HasTurned before old mid es → HasTurned before mid new more → HasTurned before old new (es ++ more)
turned_more before old mid new es more one two = record {
  grows = grown_more old mid new es more one.grows two.grows;
  counted = let a = one.counted in let b = two.counted in omega (arith, a, b);
  explained = explained_more old.causes.plan old mid new es more one.grows one.explained two.explained;
  keeps = keeping_goes_on old.configuration before (state_of old) es more one.keeps (later one.grows two.keeps);
}
  where
    later : IsGrown es old mid → KeepsStored mid.configuration before (state_of mid) more → KeepsStored old.configuration before (after_from old.configuration (state_of old) es) more
    later is keeps =
        subst (λ (s : State). KeepsStored old.configuration before s more) (state_more old.configuration old.entries es)
        (subst (λ (t : StackTold). KeepsStored t.configuration before (state_of t) more) is keeps)

pub none_turned : (before : List Step) (t : StackTold) → IsKept before t → HasTurned before t t []
none_turned before t kept = record {
  grows = ap (λ (h : List Entry). record t { entries = h }) (sym (append-nil t.entries));
  counted = omega arith;
  explained = none_explained t;
  keeps = record { played = refl; stores = tt; last = tt; jobs = kept.jobs };
}

-- SO MANY TURNS

first_turns : (c : Configuration) (s : State) (stores : List (ℕ × List ℕ)) (es : List Entry) → IsTurn c s stores es → IsTrue (list_all is_played es) → AreTurns s 1 es
first_turns c s stores (e ∷ f ∷ es) turn played = absurd turn.entry
first_turns c s stores es turn played = record { played = played; few = omega arith; begins = turn.begins }

-- a turn behind these entries
later_turn : (old mid : StackTold) (es more : List Entry) → IsGrown es old mid → IsTurn mid.configuration (state_of mid) mid.stores more → IsTurn old.configuration (after_from old.configuration (state_of old) es) old.stores more
later_turn old mid es more grows turn =
    subst (λ (s : State). IsTurn old.configuration s old.stores more) (state_more old.configuration old.entries es)
    (subst (λ (t : StackTold). IsTurn t.configuration (state_of t) t.stores more) grows turn)

one_longer : (n : ℕ) (ms : List Move) (m : Move) → length ms ≡ n → length (ms ++ m ∷ []) ≡ suc n
one_longer n ms m is = let all = length-append ms (m ∷ []) in omega (arith, all, is)

pub one_turn_more : (p q r : Seen) (n : ℕ) (before : List Step) (old mid new : StackTold) → MakesTurns p q n before old mid → IsKept before mid → MakesTurn mid new → TurnMoves q r mid new
    → MakesTurns p r (n + 1) before old new × IsKept before new
one_turn_more p q r zero before old mid new (made, paid) kept turn pays =
    let (turned, after) = turn_kept before mid new turn kept in
    let one = first_turns mid.configuration (state_of mid) mid.stores turn.entries turn.turn turned.keeps.played in
    let here = turn_moved q r mid new turn pays in (
      subst (λ (t : StackTold). MakesTurns p r 1 before t new) made (
        turn.entries,
        turned,
        one,
        (
          move_to turn.entries new ∷ [],
          refl,
          record {
            turns = here.turns;
            tell = here.tell;
            behind = here.behind;
            moved = moves_more false [] (move_to turn.entries new ∷ []) p q r paid here.moved;
            cuts = here.cuts;
          },
        ),
      ),
      after,
    )
one_turn_more p q r (suc n) before old mid new (es, was, are, (ms, many, moved)) kept turn pays =
    let (turned, after) = turn_kept before mid new turn kept in
    let more = turns_grow old.configuration (state_of old) old.stores (suc n) es turn.entries are (omega arith) (later_turn old mid es turn.entries was.grows turn.turn) turned.keeps.played in
    let count : suc n + 1 ≡ suc (suc n) = omega arith in (
      subst (λ (m : ℕ). MakesTurns p r m before old new) (sym count) (
        es ++ turn.entries,
        turned_more before old mid new es turn.entries was turned,
        subst (λ (m : ℕ). AreTurns (state_of old) m (es ++ turn.entries)) count more,
        (ms ++ move_to turn.entries new ∷ [], one_longer (suc n) ms (move_to turn.entries new) many, made_more p q r old mid new es turn.entries ms (move_to turn.entries new ∷ []) was.grows moved (turn_moved q r mid new turn pays)),
      ),
      after,
    )

-- A DRAIN

-- it ends
pub drained : (p q : Seen) (before : List Step) (old new : StackTold) (es : List Entry) (ms : List Move) → HasTurned before old new es → length ms ≤ old.work + 1 → FindsWork old.configuration (moment_of old) (state_of old) ms → AreMade p q es ms old new → IsTrue (is_at_rest (state_of new) || (state_of new).off) → Drains p q before old new
drained p q before old new es ms turned few finds moved ends =
    (es, turned, record { played = turned.keeps.played; ends = subst (λ (s : State). IsTrue (is_at_rest s || s.off)) (state_grown old new es turned.grows) ends }, (ms, few, finds, moved))

none_in : (hand : Option Job) → is_some hand ≡ false → hand ≡ None
none_in None none = refl
none_in (Some j) none = cc

-- the state behind a turn that added nothing
same_state : (old new : StackTold) (es : List Entry) → IsGrown es old new → es ≡ [] → state_of new ≡ state_of old
same_state old new es grows none = state_grown old new es grows ∙ ap (after_from old.configuration (state_of old)) none

pub last_ends : (a : Turned) (in_hand risen : Bool) (old new : StackTold) → Turns a old new → in_hand ≡ is_some (state_of old).hand → is_last a in_hand risen ≡ true → IsTrue (is_at_rest (state_of new) || (state_of new).off)
last_ends turned.Idle in_hand risen old new turn hand last =
    rest_ends (state_of new) (subst (λ (s : State). is_at_rest s ≡ true) (sym (same_state old new turn.made.entries turn.made.grows turn.answers.0)) turn.answers.1)
last_ends turned.Off in_hand risen old new turn hand last = off_ends (state_of new) (ap (λ s. s.off) (state_grown old new turn.made.entries turn.made.grows) ∙ turn.answers)
last_ends turned.Worked true risen old new turn hand last = absurd (cc last)
last_ends turned.Worked false risen old new turn hand last =
    let (none, rest, busy) = turn.answers (none_in (state_of old).hand (sym hand)) in
    rest_ends (state_of new) (subst (λ (s : State). is_at_rest s ≡ true) (sym (same_state old new turn.made.entries turn.made.grows none)) rest)
last_ends turned.Picked in_hand risen old new turn hand last = absurd (cc last)
last_ends turned.Posted in_hand risen old new turn hand last = absurd (cc last)

some_hand : (hand : Option Job) → hand ≡ None → true ≡ is_some hand → ⊥
some_hand None is same = cc
some_hand (Some j) is same = cc

-- behind it nothing is open at the device, where no fault was counted and the power is on
pub last_closes : (a : Turned) (in_hand risen : Bool) (old new : StackTold) → Turns a old new → (risen ≡ true → Rose old.faults new.faults) → is_last a in_hand risen ≡ true → ¬ Rose old.faults new.faults
    → (state_of new).off ≡ false → new.busy ≡ false
last_closes turned.Idle in_hand risen old new turn count last none on = turn.answers.2
last_closes turned.Off in_hand risen old new turn count last none on =
    let off : (state_of new).off ≡ true = ap (λ s. s.off) (state_grown old new turn.made.entries turn.made.grows) ∙ turn.answers in absurd (cc (off, on))
last_closes turned.Worked false risen old new turn count last none on = absurd (none (count last))
last_closes a in_hand risen old new turn count last none on = absurd (cc last)

pub others_lower : (a : Turned) (in_hand risen : Bool) (old new : StackTold) → Turns a old new → in_hand ≡ is_some (state_of old).hand → (risen ≡ false → Rose old.faults new.faults → ⊥) → is_last a in_hand risen ≡ false → new.work < old.work
others_lower turned.Picked in_hand risen old new turn hand count last = turn.lowers
others_lower turned.Posted in_hand risen old new turn hand count last = turn.lowers
others_lower turned.Worked true risen old new turn hand count last = elim turn.lowers [ inl less ↦ less | inr rose ↦ absurd (some_hand (state_of old).hand rose.0 hand) ]
others_lower turned.Worked false false old new turn hand count last = elim turn.lowers [ inl less ↦ less | inr rose ↦ absurd (count refl rose.1) ]
others_lower a in_hand risen old new turn hand count last = absurd (cc last)

-- where it isn't the last one something was pending, or open at the device
pub others_find : (a : Turned) (in_hand risen : Bool) (old new : StackTold) → Turns a old new → in_hand ≡ is_some (state_of old).hand → is_last a in_hand risen ≡ false → IsTrue (has_work (state_of old) (moment_of old))
others_find turned.Idle in_hand risen old new turn hand last = absurd (cc last)
others_find turned.Off in_hand risen old new turn hand last = absurd (cc last)
others_find turned.Picked in_hand risen old new turn hand last = or_left (not (is_at_rest (state_of old))) old.busy turn.answers
others_find turned.Posted in_hand risen old new turn hand last = or_left (not (is_at_rest (state_of old))) old.busy turn.answers
others_find turned.Worked true risen old new turn hand last =
    or_left (not (is_at_rest (state_of old))) old.busy (not_so (is_at_rest (state_of old)) (λ rest. some_hand (state_of old).hand (rests_next old.configuration (state_of old) rest).0 hand))
others_find turned.Worked false true old new turn hand last = absurd (cc last)
others_find turned.Worked false false old new turn hand last = or_right (not (is_at_rest (state_of old))) old.busy (turn.answers (none_in (state_of old).hand (sym hand))).2

-- moves that find work, and one behind them that does
pub find_more : (c : Configuration) (m : Moment) (s : State) (ms : List Move) (x : Move) → AllFindWork c m s ms → IsTrue (has_work (after_from c s (entries_of ms)) (moment_behind m ms)) → AllFindWork c m s (ms ++ x ∷ [])
find_more c m s [] x all here = (here, tt)
find_more c m s (y ∷ ys) x all here =
    (all.0, find_more c y.behind (after_from c s (entry_list y.entry)) ys x all.1 (subst (λ (t : State). IsTrue (has_work t (moment_behind y.behind ys))) (from_more c s (entry_list y.entry) (entries_of ys)) here))

-- or one that doesn't
pub find_but_last : (c : Configuration) (m : Moment) (s : State) (ms : List Move) (x : Move) → AllFindWork c m s ms → FindsWork c m s (ms ++ x ∷ [])
find_but_last c m s [] x all = tt
find_but_last c m s (y ∷ []) x all = (all.0, tt)
find_but_last c m s (y ∷ z ∷ zs) x all = (all.0, find_but_last c y.behind (after_from c s (entry_list y.entry)) (z ∷ zs) x all.1)

-- what is so where a drain came so far is so of its moves
pub find_here : (p q : Seen) (old mid : StackTold) (es : List Entry) (ms : List Move) → IsGrown es old mid → AreMade p q es ms old mid → IsTrue (has_work (state_of mid) (moment_of mid))
    → IsTrue (has_work (after_from old.configuration (state_of old) (entries_of ms)) (moment_behind (moment_of old) ms))
find_here p q old mid es ms grows made here =
    subst (λ (m : Moment). IsTrue (has_work (after_from old.configuration (state_of old) (entries_of ms)) m)) (sym made.behind)
    (subst (λ (s : State). IsTrue (has_work s (moment_of mid))) (state_grown old mid es grows ∙ ap (after_from old.configuration (state_of old)) made.tell) here)

-- Moves, one after another.
use Rattle.script_player.proofs.Common.{◌≡◌, ℕ, false, Option, None, List, [], ◌∷◌, ◌++◌, Some, refl, sym, ap, ◌∙◌, subst, append_assoc, append-nil, append_cancel_left, map-append, Entry, Configuration, State, Step, Drain, IsTurn, Moment, Move, entry_list, entries_of, entries_more, moment_behind, moment_after, AreMovesOf, AreMoves, FindsWork, all_moves, IsInTime, AreInTime, after_from, StackTold, state_of, moment_of, IsGrown, Seen, MovesBy, moves_more, none_moves, TurnMoves, AllTell, MakesTurn, from_more, AreMade, IfSome, AreTurnsMade, HasMoves, ClosesAtDrains, FindWorkAtDrains, behind_more, entry_is, entry_none, in_time_more}
use Rattle.std.proofs.Common.{map}
use Rattle.uds_gateway.specs.nv_base.Entry.{ops_of}
use Rattle.script_player.proofs.Grown.{state_grown}
use Rattle.script_player.proofs.Coming.{in_time, turn_coming}

-- TURNS

pub turns_more : (m : Moment) (xs ys : List Move) → AreTurnsMade m xs → AreTurnsMade (moment_behind m xs) ys → AreTurnsMade m (xs ++ ys)
turns_more m [] ys one two = two
turns_more m (x ∷ xs) ys one two = (one.0, turns_more x.behind xs ys one.1 two)

-- no turn
pub none_moved : (p : Seen) (t : StackTold) → AreMade p p [] [] t t
none_moved p t = record { turns = tt; tell = refl; behind = refl; moved = none_moves false p; cuts = λ one plan coming. (tt, coming) }

pub made_more : (p q r : Seen) (old mid new : StackTold) (es more : List Entry) (xs ys : List Move) → IsGrown es old mid → AreMade p q es xs old mid → AreMade q r more ys mid new → AreMade p r (es ++ more) (xs ++ ys) old new
made_more p q r old mid new es more xs ys grows one two = record {
  turns = turns_more (moment_of old) xs ys one.turns (subst (λ (m : Moment). AreTurnsMade m ys) (sym one.behind) two.turns);
  tell = ap (λ (a : List Entry). a ++ more) one.tell ∙ ap (λ (a : List Entry). entries_of xs ++ a) two.tell ∙ sym (entries_more xs ys);
  behind = behind_more (moment_of old) xs ys ∙ ap (λ (m : Moment). moment_behind m ys) one.behind ∙ two.behind;
  moved = moves_more false xs ys p q r one.moved two.moved;
  cuts = λ alone plan coming.
      let (here, now) = one.cuts alone plan coming in
      let (later, end) = two.cuts (ap (λ (t : StackTold). t.one) grows ∙ alone) plan now in (
        in_time_more old.configuration (Some plan) (state_of old) xs ys here
            (subst (λ (s : State). AreInTime old.configuration (Some plan) s ys) (state_grown old mid es grows ∙ ap (after_from old.configuration (state_of old)) one.tell)
            (subst (λ (c : Configuration). AreInTime c (Some plan) (state_of mid) ys) (ap (λ (t : StackTold). t.configuration) grows) later)),
        end,
      );
}

pub all_more : (xs : List (List Move)) (y : List Move) → all_moves (xs ++ y ∷ []) ≡ all_moves xs ++ y
all_more [] y = append-nil y
all_more (x ∷ xs) y = ap (λ (ms : List Move). x ++ ms) (all_more xs y) ∙ sym (append_assoc x (all_moves xs) y)

-- the entry of a turn, if it added one
abbrev pub first_of : List Entry → Option Entry
first_of [] = None
first_of (e ∷ es) = Some e

-- one turn
abbrev pub move_to : List Entry → StackTold → Move
move_to es new = record { entry = first_of es; behind = moment_of new }

is_one : (c : Configuration) (s : State) (stores : List (ℕ × List ℕ)) (es : List Entry) (t : StackTold) → IsTurn c s stores es → es ≡ entries_of (move_to es t ∷ [])
is_one c s stores (e ∷ f ∷ es) t turn = absurd turn.entry
is_one c s stores es t turn = refl

first_tells : (ops : ℕ) (es : List Entry) → AllTell ops es → IfSome (first_of es) (λ e. ops_of e ≡ Some ops)
first_tells ops [] all = tt
first_tells ops (e ∷ es) all = all.0

-- its entries, in the form of a move
all_first : (c : Configuration) (s : State) (stores : List (ℕ × List ℕ)) (es : List Entry) → IsTurn c s stores es → es ≡ entry_list (first_of es)
all_first c s stores (e ∷ f ∷ es) turn = absurd turn.entry
all_first c s stores es turn = refl

entry_same : (o e : Option Entry) → entry_list e ≡ entry_list o → e ≡ o
entry_same None e is = entry_none e is
entry_same (Some x) e is = entry_is e x is

pub turn_moved : (p q : Seen) (old new : StackTold) (turn : MakesTurn old new) → TurnMoves p q old new → AreMade p q turn.entries (move_to turn.entries new ∷ []) old new
turn_moved p q old new turn (e, adds, moved) = record {
  turns = (record { faults = turn.counted; ops = turn.operations.later; one = turn.operations.one; told = first_tells new.ops turn.entries turn.operations.told }, tt);
  tell = is_one old.configuration (state_of old) old.stores turn.entries new turn.turn;
  behind = refl;
  moved =
      let first = all_first old.configuration (state_of old) old.stores turn.entries turn.turn in
      subst (λ (o : Option Entry). MovesBy false (record { entry = o; behind = moment_of new } ∷ []) p q)
      (entry_same (first_of turn.entries) e (append_cancel_left old.entries (entry_list e) turn.entries (sym adds ∙ ap (λ t. t.entries) turn.grows) ∙ first)) moved;
  cuts = λ alone plan coming.
      let now = turn_coming old new turn alone plan coming in
      let first = all_first old.configuration (state_of old) old.stores turn.entries turn.turn in (
        (subst (λ (s : State). IsInTime (Some plan) (moment_of new) s) (state_grown old new turn.entries turn.grows ∙ ap (after_from old.configuration (state_of old)) first) (in_time plan new now), tt),
        now,
      );
}

-- STEPS

pub steps_more : (m : Moment) (xs : List Step) (x : Step) (mss : List (List Move)) (ms : List Move) → AreMoves m xs mss → AreMovesOf x.kind (moment_after m mss) ms → AreMoves m (xs ++ x ∷ []) (mss ++ ms ∷ [])
steps_more m [] x [] ms all own = (own, tt)
steps_more m (y ∷ ys) x (ns ∷ nss) ms all own = (all.0, steps_more (moment_behind m ns) ys x nss ms all.1 own)
steps_more m xs x mss ms all own = absurd all

-- a drain more that leaves nothing open
pub closes_more : (m : Moment) (xs : List Step) (x : Step) (mss : List (List Move)) (ms : List Move) → AreMoves m xs mss → ClosesAtDrains m xs mss → (x.kind ≡ Drain → (moment_behind (moment_after m mss) ms).busy ≡ false)
    → ClosesAtDrains m (xs ++ x ∷ []) (mss ++ ms ∷ [])
closes_more m [] x [] ms are all own = (own, tt)
closes_more m (y ∷ ys) x (ns ∷ nss) ms are all own = (all.0, closes_more (moment_behind m ns) ys x nss ms are.1 all.1 own)
closes_more m xs x mss ms are all own = absurd are

-- a drain more of which each turn but the last one finds work
pub finds_more : (c : Configuration) (m : Moment) (s : State) (xs : List Step) (x : Step) (mss : List (List Move)) (ms : List Move) → AreMoves m xs mss → FindWorkAtDrains c m s xs mss
    → (x.kind ≡ Drain → FindsWork c (moment_after m mss) (after_from c s (entries_of (all_moves mss))) ms) → FindWorkAtDrains c m s (xs ++ x ∷ []) (mss ++ ms ∷ [])
finds_more c m s [] x [] ms are all own = (own, tt)
finds_more c m s (y ∷ ys) x (ns ∷ nss) ms are all own = (
  all.0,
  finds_more c (moment_behind m ns) (after_from c s (entries_of ns)) ys x nss ms are.1 all.1
      (λ drain. subst (λ (t : State). FindsWork c (moment_after (moment_behind m ns) nss) t ms) (ap (after_from c s) (entries_more ns (all_moves nss)) ∙ from_more c s (entries_of ns) (entries_of (all_moves nss))) (own drain)),
)
finds_more c m s [] x (ns ∷ nss) ms are all own = absurd are
finds_more c m s (y ∷ ys) x [] ms are all own = absurd are

pub after_more : (m : Moment) (mss : List (List Move)) (ms : List Move) → moment_after m (mss ++ ms ∷ []) ≡ moment_behind (moment_after m mss) ms
after_more m [] ms = refl
after_more m (ns ∷ nss) ms = after_more (moment_behind m ns) nss ms

-- one more step
abbrev pub has_more : (made : List Step) (x : Step) (pieces : List (List Entry)) (piece : List Entry) (ms : List Move) (first mid last : Moment) → HasMoves made pieces first mid
    → AreMovesOf x.kind mid ms → piece ≡ entries_of ms → moment_behind mid ms ≡ last → HasMoves (made ++ x ∷ []) (pieces ++ piece ∷ []) first last
has_more made x pieces piece ms first mid last has own tell behind = record {
  moves = has.moves ++ ms ∷ [];
  are = steps_more first made x has.moves ms has.are (subst (λ (m : Moment). AreMovesOf x.kind m ms) (sym has.behind) own);
  tell = ap (λ (ps : List (List Entry)). ps ++ piece ∷ []) has.tell ∙ ap (λ (p : List Entry). map entries_of has.moves ++ p ∷ []) tell ∙ sym (map-append entries_of has.moves (ms ∷ []));
  behind = after_more first has.moves ms ∙ ap (λ (m : Moment). moment_behind m ms) has.behind ∙ behind;
}

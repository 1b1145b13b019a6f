-- Step after step.
use Rattle.std.specs.Prelude.{take}
use Rattle.script_player.proofs.Common.{◌≡◌, ◌<◌, ◌≤◌, ◌+◌, ◌*◌, ◌^◌, ℕ, false, List, [], ◌∷◌, ◌++◌, Option, None, length, replicate, refl, sym, ap, ◌∙◌, subst, arith, add-one, length-append, append_assoc, append-nil, length-map, sum_by_push, WereCounted, ops_behind, Entry, Found, Configuration, State, at_first, after, after_from, Step, joined, ArePlayed, AreNewest, JobsTookStored, store_of, plain_blocks_of, EachPiece, HasNoRoom, DueCut, Event, Made, Added, events_of, AreAsAsked, asked_by, is_drain, starts_keep_stored, StackTold, state_of, moment_of, IsNoEarlier, AreCut, TellsOff, plan_behind, ops_at, cuts_in, cuts_of, IsExplained, IsMade, IsLeft, IsFresh, Makes, HasWalked, AreUnderWay, planned_behind, HasLastStores, Moment, Move, entries_of, entries_more, moment_behind, moment_after, Planned, planned_by, AreInTime, FindsWork, all_moves, Seen, MovesBy, moves_more, none_moves, IsSeen, LastsOn, IsPending, sum_by-append, sum_by-cons, get_or-append_seam, IsPiece, IsWalkOf, IsPlayed, Played, HadRoom, RefusesAsAsked, first_are_newest, walks_grow, StepFault, Flash, HistoryFull, Memory, WereLeft, WasBroken, IsWalking}
use Rattle.std.proofs.Common.{map}
use Rattle.script_player.specs.Kept.{IsKept}
use Rattle.script_player.proofs.Paying.{came_by, none_last}
use Rattle.script_player.proofs.Coming.{come_more, planned_more}
use Rattle.script_player.proofs.Moves.{all_more, closes_more, finds_more, has_more}
use Rattle.script_player.proofs.Grown.{state_more}
use Rattle.script_player.proofs.Table.{first_table}
use Rattle.script_player.proofs.Offs.{counted_more, none_counted, none_cut_same, are_more}
use Rattle.script_player.proofs.Serving.{calm_until, calm_from}
use Rattle.script_player.proofs.EachPiece.{each_more}
use Rattle.script_player.proofs.Causes.{events_more, events_tell, ops_in_all, joined_more, refuses_more}

-- a step of the script can be played
pub is_played : (c : Configuration) (made left : List Step) (x : Step) → ArePlayed c (made ++ x ∷ left) → IsPlayed c x
is_played c made left x all =
    let many = length-append made (x ∷ left) in
    subst (λ (y : Step). IsPlayed c y) (get_or-append_seam made x left x) (all (length made) x (omega (arith, many)))

-- THE WALK

-- a fact on the state behind steps, by the configuration and the cap before them
behind : (P : Configuration → ℕ → State → Type 0) (old mid : StackTold) → mid.configuration ≡ old.configuration → mid.cap ≡ old.cap → P mid.configuration mid.cap (state_of mid) → P old.configuration old.cap (after old.configuration mid.entries)
behind P old mid same cap is = subst (λ (n : ℕ). P old.configuration n (after old.configuration mid.entries)) cap (subst (λ (c : Configuration). P c mid.cap (after c mid.entries)) same is)

-- one more step
pub walks_on : (p q r : Seen) (made : List Step) (x : Step) (old mid new : StackTold) → mid.configuration ≡ old.configuration → mid.cap ≡ old.cap → old.faults ≤ mid.faults → IsWalking p q made old mid
    → IsMade q r made x mid new → cuts_in x.kind ≤ mid.causes.takes → mid.one ≡ old.one → IsWalking p r (made ++ x ∷ []) old new
walks_on p q r made x old mid new same cap counted walking step planned one_part = record {
  marks = walking.marks;
  ops = walking.ops;
  pieces = walking.pieces ++ piece ∷ [];
  more = walking.more ++ piece;
  grows = adds ∙ ap (λ (es : List Entry). es ++ piece) walking.grows ∙ append_assoc old.entries walking.more piece;
  at = adds ∙ ap (λ (es : List Entry). es ++ piece) walking.at ∙ ap (λ (es : List Entry). first ∷ es) (sym (joined_more walking.pieces piece));
  walk = subst (λ (es : List Entry). IsWalkOf old.configuration (made ++ x ∷ []) (walking.pieces ++ piece ∷ []) (first ∷ es)) (sym (joined_more walking.pieces piece))
      (walks_grow old.configuration made walking.pieces first (joined walking.pieces) x piece walking.walk
      (subst (λ (s : State). IsPiece old.configuration made s x piece) state (subst (λ (c : Configuration). IsPiece c made (after c mid.entries) x piece) same is)));
  as_many =
      let a = length-append walking.pieces (piece ∷ []) in
      let b = length-append made (x ∷ []) in
      let n = walking.as_many in omega (arith, a, b, n);
  room = each_more old.configuration (HadRoom old.configuration old.cap) (HadRoom old.configuration old.cap) x piece (after old.configuration (first ∷ joined walking.pieces)) (λ s y q ys qs had. had) room
      (after old.configuration (first ∷ [])) made walking.pieces walking.as_many refl walking.room;
  refusals = λ id.
      refuses_more old.configuration id (after old.configuration (first ∷ [])) made walking.pieces x piece 0 (mid.causes.to_refuse id) (new.causes.to_refuse id)
      walking.as_many (walking.refusals id) (own id);
  off = subst (λ (es : List Event). AreCut None 0 es old new) (sym (events_more made walking.pieces x piece walking.as_many))
      (are_more None 0 (events_of made walking.pieces) (Made x.kind ∷ map Added piece) old mid new walking.off paid);
  takes =
      let cuts = sum_by_push (λ (y : Step). cuts_in y.kind) made x in
      let a = walking.takes in
      let b = explained.takes in omega (arith, cuts, a, b);
  moves = has_more made x walking.pieces piece step.moves (moment_of old) (moment_of mid) (moment_of new) walking.moves step.moved step.tell step.behind;
  closes = λ calm. closes_more (moment_of old) made x walking.moves.moves step.moves walking.moves.are (walking.closes (calm_until old mid new piece adds step.counted calm))
      (λ drain. ap (λ (m : Moment). m.busy) (ap (λ (m : Moment). moment_behind m step.moves) walking.moves.behind ∙ step.behind) ∙ step.closes (calm_from old mid new counted calm) (ap is_drain drain));
  finds = finds_more old.configuration (moment_of old) (state_of old) made x walking.moves.moves step.moves walking.moves.are walking.finds
      (λ drain. subst (λ (m : Moment). FindsWork old.configuration m (after_from old.configuration (state_of old) (entries_of (all_moves walking.moves.moves))) step.moves) (sym walking.moves.behind)
      (subst (λ (s : State). FindsWork old.configuration (moment_of mid) s step.moves) walked_state
      (subst (λ (c : Configuration). FindsWork c (moment_of mid) (state_of mid) step.moves) same (step.finds (ap is_drain drain)))));
  tell = adds ∙ ap (λ (es : List Entry). es ++ piece) walking.tell ∙ append_assoc old.entries (entries_of (all_moves walking.moves.moves)) piece
      ∙ ap (λ (es : List Entry). old.entries ++ es)
      (ap (λ (es : List Entry). entries_of (all_moves walking.moves.moves) ++ es) step.tell ∙ sym (entries_more (all_moves walking.moves.moves) step.moves) ∙ ap entries_of (sym (all_more walking.moves.moves step.moves)));
  by_law = subst (λ (ms : List Move). MovesBy false ms p r) (sym (all_more walking.moves.moves step.moves)) (moves_more false (all_moves walking.moves.moves) step.moves p q r walking.by_law step.by_law);
  cuts = λ one.
      let (were, pending) = walking.cuts one in
      let (here, now) = step.cuts planned (one_part ∙ one) (planned_behind None (moment_of old) made walking.moves.moves) pending in
      let plan = planned_by x.kind (moment_of mid) (planned_behind None (moment_of old) made walking.moves.moves) in
      let behind : moment_of mid ≡ moment_after (moment_of old) walking.moves.moves = sym walking.moves.behind in (
        come_more old.configuration None (moment_of old) (state_of old) made x walking.moves.moves step.moves walking.moves.are were
            (subst (λ (m : Moment). AreInTime old.configuration (planned_by x.kind m (planned_behind None (moment_of old) made walking.moves.moves)) (after_from old.configuration (state_of old) (entries_of (all_moves walking.moves.moves))) step.moves) behind
            (subst (λ (s : State). AreInTime old.configuration plan s step.moves) walked_state (subst (λ (c : Configuration). AreInTime c plan (state_of mid) step.moves) same here))),
        subst (λ (q : Option Planned). IsPending q new) (sym (planned_more None (moment_of old) made x walking.moves.moves step.moves walking.moves.are))
            (subst (λ (m : Moment). IsPending (planned_by x.kind m (planned_behind None (moment_of old) made walking.moves.moves)) new) behind now),
      );
}
  where
    piece : List Entry
    piece = step.piece

    adds : new.entries ≡ mid.entries ++ piece
    adds = step.entries

    -- the state behind the moves so far
    walked_state : state_of mid ≡ after_from old.configuration (state_of old) (entries_of (all_moves walking.moves.moves))
    walked_state =
        ap (λ (c : Configuration). after c mid.entries) same
        ∙ ap (after old.configuration) walking.tell
        ∙ state_more old.configuration old.entries (entries_of (all_moves walking.moves.moves))

    is : IsPiece mid.configuration made (state_of mid) x piece
    is = step.is

    explained : IsExplained x.kind piece mid new
    explained = step.explained

    first : Entry
    first = Found walking.marks walking.ops

    state : after old.configuration mid.entries ≡ after old.configuration (first ∷ joined walking.pieces)
    state = ap (after old.configuration) walking.at

    room : ¬ HasNoRoom old.configuration old.cap (after old.configuration (first ∷ joined walking.pieces)) x.kind
    room = subst (λ (s : State). ¬ HasNoRoom old.configuration old.cap s x.kind) state (behind (λ c n s. ¬ HasNoRoom c n s x.kind) old mid same cap step.room)

    -- the copies of the piece
    own : (id : ℕ) → AreAsAsked old.configuration id (after old.configuration (first ∷ joined walking.pieces)) (asked_by id x.kind (mid.causes.to_refuse id)) piece (new.causes.to_refuse id)
    own id =
        subst (λ (s : State). AreAsAsked old.configuration id s (asked_by id x.kind (mid.causes.to_refuse id)) piece (new.causes.to_refuse id)) state
        (subst (λ (c : Configuration). AreAsAsked c id (after c mid.entries) (asked_by id x.kind (mid.causes.to_refuse id)) piece (new.causes.to_refuse id)) same (explained.refusals id))

    few : ops_behind 0 (joined walking.pieces) ≤ ops_behind 0 mid.entries
    few = subst (λ (es : List Entry). ops_behind 0 (joined walking.pieces) ≤ ops_behind 0 es) (sym walking.at) (ops_in_all walking.marks walking.ops (joined walking.pieces))

    tell : ops_at 0 (events_of made walking.pieces) ≡ ops_behind 0 (joined walking.pieces)
    tell = events_tell 0 made walking.pieces walking.as_many

    paid : AreCut (plan_behind None 0 (events_of made walking.pieces)) (ops_at 0 (events_of made walking.pieces)) (Made x.kind ∷ map Added piece) mid new
    paid =
        explained.offs (plan_behind None 0 (events_of made walking.pieces)) (ops_at 0 (events_of made walking.pieces)) planned (omega (arith, tell, few)) walking.off.plan_stays

pub has_walked : (p q r : Seen) (made : List Step) (old mid new : StackTold) → new.entries ≡ mid.entries → mid.faults ≤ new.faults → WereCounted 0 mid.causes.unplanned new.causes.unplanned → new.causes.came ≡ mid.causes.came → (TellsOff mid → TellsOff new)
    → LastsOn q r → IsWalking p q made old mid → HasWalked p r made old new
has_walked p q r made old mid new same counted cuts came power last walking = record {
  more = walking.more;
  grows = same ∙ walking.grows;
  pieces = walking.pieces;
  walk = subst (λ (es : List Entry). IsWalkOf old.configuration made walking.pieces es) (sym (same ∙ walking.at)) walking.walk;
  room = subst (λ (es : List Entry). EachPiece old.configuration (HadRoom old.configuration old.cap) (after old.configuration (take 1 es)) made walking.pieces) (sym (same ∙ walking.at)) walking.room;
  refusals = λ id.
      subst (λ (es : List Entry). RefusesAsAsked old.configuration (Played made walking.pieces []) es id) (sym (same ∙ walking.at)) (mid.causes.to_refuse id, walking.refusals id);
  came = walking.off.cuts;
  more_came = came ∙ walking.off.came;
  power = λ tells. power (walking.off.power tells);
  off = (
    walking.off.others,
    walking.off.are,
    subst (λ (n : ℕ). WereCounted n old.causes.unplanned new.causes.unplanned) (nothing_more walking.off.others)
        (counted_more walking.off.others 0 old.causes.unplanned mid.causes.unplanned new.causes.unplanned walking.off.counted cuts),
  );
  last = moment_of mid;
  closes = λ calm. walking.closes (calm_until old mid new [] (same ∙ sym (append-nil mid.entries)) counted calm);
  finds = walking.finds;
  moves = walking.moves;
  tell = same ∙ walking.tell;
  by_law = came_by p q r (all_moves walking.moves.moves) walking.by_law last;
  cuts = λ one. (walking.cuts one).0;
}
  where
    nothing_more : (n : ℕ) → n + 0 ≡ n
    nothing_more n = omega arith

-- a fresh stack has walked no step
pub fresh_walking : (p : Seen) (t : StackTold) → IsFresh t → IsWalking p p [] t t
fresh_walking p t fresh = record {
  marks = fresh.marks;
  ops = fresh.ops;
  pieces = [];
  more = [];
  grows = sym (append-nil t.entries);
  at = fresh.entries;
  walk = (refl, tt);
  as_many = refl;
  room = tt;
  refusals = fresh.none_to_refuse;
  off = none_cut_same None 0 t t refl refl (subst (λ (p : Option DueCut). IsNoEarlier None p) (sym fresh.none_planned) tt) refl refl;
  takes = omega arith;
  moves = record { moves = []; are = tt; tell = refl; behind = refl };
  closes = λ calm. tt;
  finds = tt;
  tell = sym (append-nil t.entries);
  by_law = none_moves false p;
  cuts = λ one. (tt, tt);
}

length_mapped : (c : Configuration) → length (map store_of (plain_blocks_of c)) ≡ length c.blocks + 1
length_mapped c = simp length-map (sym (add-one (length c.blocks)))

pub fresh_kept : (t : StackTold) → IsFresh t → IsKept [] t
fresh_kept t fresh = record {
  ready = fresh.ready;
  places = ap length fresh.stores ∙ length_mapped t.configuration;
  stores = subst (λ (s : List (ℕ × List ℕ)). AreNewest t.configuration [] s) (sym fresh.stores) (first_are_newest t.configuration);
  jobs = subst (λ (h : List Entry). JobsTookStored t.configuration [] (after t.configuration h)) (sym fresh.entries) (starts_keep_stored t.configuration [] at_first fresh.marks fresh.ops);
}

-- WHAT IS LEFT

were_left : (fault : StepFault) (x : Step) (xs : List Step) (old mid new : StackTold) → mid.configuration ≡ old.configuration → mid.cap ≡ old.cap → IsLeft fault x mid new → WereLeft fault (x ∷ xs) (moment_of mid) old new
were_left Flash x xs old mid new configuration cap left =
    (left.why.0, left.why.1, subst (λ (h : List Entry). ¬ HasNoRoom old.configuration old.cap (after old.configuration h) x.kind) (sym left.entries) (behind (λ c n s. ¬ HasNoRoom c n s x.kind) old mid configuration cap left.why.2))
were_left Memory x xs old mid new configuration cap left = tt
were_left HistoryFull x xs old mid new configuration cap left =
    subst (λ (h : List Entry). HasNoRoom old.configuration old.cap (after old.configuration h) x.kind) (sym left.entries) (behind (λ c n s. HasNoRoom c n s x.kind) old mid configuration cap left.why)

-- nothing was made for want of memory
pub none_made : (p : Seen) (steps : List Step) (t : StackTold) → IsSeen t p → IsFresh t → WasBroken p p Memory steps t t
none_made p steps t seen fresh = record { made = []; left = steps; order = refl; walked = has_walked p p p [] t t t refl (omega arith) (none_counted t.causes.unplanned) refl (λ tells. tells) (none_last p) (fresh_walking p t fresh); why = tt }

-- UNDER WAY

pub begin : (p : Seen) (blocks : ℕ) (table : List ℕ) (t : StackTold) → IsSeen t p → IsFresh t → blocks ≡ length t.configuration.blocks → table ≡ replicate (16 * (blocks + 1)) 0 → AreUnderWay p p [] table t t
begin p blocks table t seen fresh count is = record {
  configuration = refl;
  cap = refl;
  one = refl;
  counted = omega arith;
  kept = fresh_kept t fresh;
  table_kept = subst (λ (xs : List ℕ). HasLastStores t.configuration [] xs) (sym (is ∙ ap (λ n. replicate (16 * (n + 1)) 0) count)) (first_table t.configuration);
  ready = fresh.ready;
  seen = seen;
  walking = fresh_walking p t fresh;
}

-- the plans that the next step may need are taken yet
takes_enough : (made left : List Step) (x : Step) (old mid : StackTold) → cuts_of (made ++ x ∷ left) ≤ old.causes.takes → old.causes.takes ≤ mid.causes.takes + cuts_of made → cuts_in x.kind ≤ mid.causes.takes
takes_enough made left x old mid all are =
    let both = sum_by-append (λ (y : Step). cuts_in y.kind) made (x ∷ left) in
    let first = sum_by-cons (λ (y : Step). cuts_in y.kind) x left in omega (arith, both, first, all, are)

-- one step more
pub walk_on : (p q r : Seen) (made : List Step) (x : Step) (table table' : List ℕ) (old mid new : StackTold) → AreUnderWay p q made table old mid → IsMade q r made x mid new → HasLastStores mid.configuration (made ++ x ∷ []) table' → cuts_in x.kind ≤ mid.causes.takes
    → AreUnderWay p r (made ++ x ∷ []) table' old new
walk_on p q r made x table table' old mid new way step has planned = record {
  configuration = step.configuration ∙ way.configuration;
  cap = step.cap ∙ way.cap;
  one = step.one ∙ way.one;
  counted = let a = way.counted in let b = step.counted in omega (arith, a, b);
  kept = step.kept;
  table_kept = subst (λ (c : Configuration). HasLastStores c (made ++ x ∷ []) table') (sym step.configuration) has;
  ready = way.ready;
  seen = way.seen;
  walking = walks_on p q r made x old mid new way.configuration way.cap way.counted way.walking step planned way.one;
}

-- of those that are to be made
pub go_on : (p q r : Seen) (steps made left : List Step) (x : Step) (table table' : List ℕ) (old mid new : StackTold) → steps ≡ made ++ x ∷ left → length steps < 2 ^ 32 → cuts_of steps ≤ old.causes.takes → AreUnderWay p q made table old mid
    → Makes q r x table table' mid new → AreUnderWay p r (made ++ x ∷ []) table' old new
go_on p q r steps made left x table table' old mid new order few planned way makes =
    let many = ap length order ∙ length-append made (x ∷ left) in
    let (step, has) = makes made (omega (arith, many, few)) way.kept way.table_kept in
    walk_on p q r made x table table' old mid new way step has
    (takes_enough made left x old mid (subst (λ (xs : List Step). cuts_of xs ≤ old.causes.takes) order planned) way.walking.takes)

-- all of them
pub all_made : (p q : Seen) (steps made : List Step) (table : List ℕ) (old now : StackTold) → made ≡ steps → AreUnderWay p q made table old now → HasWalked p q steps old now
all_made p q steps made table old now all way =
    subst (λ (xs : List Step). HasWalked p q xs old now) all (has_walked p q q made old now now refl (omega arith) (none_counted now.causes.unplanned) refl (λ tells. tells) (none_last q) way.walking)

pub some_made : (p q r : Seen) (fault : StepFault) (steps made left : List Step) (x : Step) (table : List ℕ) (old mid new : StackTold) → steps ≡ made ++ x ∷ left → AreUnderWay p q made table old mid → IsLeft fault x mid new → LastsOn q r
    → WasBroken p r fault steps old new
unfolding has_walked
some_made p q r fault steps made left x table old mid new order way leaves last = record {
  made = made;
  left = x ∷ left;
  order = order;
  walked = has_walked p q r made old mid new leaves.entries leaves.counted leaves.cuts leaves.came leaves.power last way.walking;
  why = were_left fault x left old mid new way.configuration way.cap leaves;
}

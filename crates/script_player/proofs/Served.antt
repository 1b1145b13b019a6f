-- Requests of a UDS gateway, one after another.
use Rattle.script_player.proofs.Common.{not, ◌≡◌, ◌<◌, ◌≤◌, ◌+◌, length-append, ℕ, IsTrue, List, [], ◌∷◌, ◌++◌, length, take, drop, get_or, zero, suc, Result, Ok, Err, refl, sym, ap, ◌∙◌, subst, arith, append-nil, append_assoc, map-append, take_more, list_all-append, Instance, Mark, Request, Reply, Entry, Ask, Found, Configuration, fits, after, step, histories_step, ServeStop, Step, AskStep, Turn, request_after, joined, CanBePlayed, StackTold, state_of, AddsAsk, MakesTurns, IsAsked, IsFresh, HasWalked, Seen, AskMoves, IsSeen, LastsOn, EndsRequest, AreServedSoFar, HasServed, Accepted, NegativeCode, HasNone, IsOwn, served_more, own_cases, is_of_request, AreOfRequests, no_stores, IsServing, ServesMore, ServesNoMore, LeavesRequests}
use Rattle.std.proofs.Common.{◌-◌}
use Rattle.uds_gateway.specs.declared.stop.ServeStop.TheVariants as stop
use Rattle.uds_gateway.specs.Services.{asked_by}
use Rattle.script_player.specs.Kept.{IsKept}
use Rattle.script_player.proofs.Causes.{joined_more}
use Rattle.script_player.proofs.Making.{ask_made, turns_made}
use Rattle.script_player.proofs.Offs.{none_counted}
use Rattle.script_player.proofs.Paying.{none_last}
use Rattle.script_player.proofs.Table.{same_table}
use Rattle.script_player.proofs.Walking.{begin, walk_on, has_walked}

-- TURNS

abbrev pub TurnsSome : Seen → Seen → List Step → StackTold → StackTold → Type 0
TurnsSome p q before old new = (n : ℕ) × (1 ≤ n) × MakesTurns p q n before old new × IsKept before new

-- A REQUEST

own_played : (c : Configuration) (asked : Request) → IsOwn asked → CanBePlayed c (AskStep asked)
own_played c = own_cases (λ r. CanBePlayed c (AskStep r)) (λ block. tt) (λ block content. refl)

own_request : (c : Configuration) (before : List Step) (asked : Request) → IsOwn asked → request_after c before 0 asked ≡ asked
own_request c before = own_cases (λ r. request_after c before 0 r ≡ r) (λ block. refl) (λ block content. refl)

ask_step : Request → Step
ask_step asked = record { line = 0; caller = 0; kind = AskStep asked }

turn_step : ℕ → Step
turn_step n = record { line = 0; caller = 0; kind = Turn n }

pub only_more : (made more : List Step) → AreOfRequests made → AreOfRequests more → AreOfRequests (made ++ more)
only_more made more one two = list_all-append (λ (y : Step). is_of_request y.kind) made more ∙ rw (one, two) refl

-- it is asked
pub asks_on : (p q r : Seen) (asked : Request) (reply : Reply) (old mid new : StackTold) → IsOwn asked → IsServing p q old mid → AddsAsk (Ask 0 asked reply) mid new → AskMoves q r mid new → IsServing p r old new
unfolding ask_step
asks_on p q r asked reply old mid new own serving adds pays = record {
  made = serving.made ++ ask_step asked ∷ [];
  only = only_more serving.made (ask_step asked ∷ []) serving.only refl;
  way =
      walk_on p q r serving.made (ask_step asked) (no_stores old.configuration) (no_stores old.configuration) old mid new serving.way
      (ask_made q r serving.made 0 0 asked (no_stores old.configuration) mid new (own_played mid.configuration asked own) is pays serving.way.table_kept serving.way.kept)
      (same_table mid.configuration serving.made (ask_step asked) (no_stores old.configuration) refl serving.way.table_kept) (omega arith);
}
  where
    is : IsAsked 0 asked (no_stores old.configuration) mid new
    is before has = (reply, subst (λ (x : Request). AddsAsk (Ask 0 x reply) mid new) (sym (own_request mid.configuration before asked own)) adds)

-- and its turns are made
pub turns_on : (p q r : Seen) (old mid new : StackTold) → (serving : IsServing p q old mid) → TurnsSome q r serving.made mid new → IsServing p r old new
unfolding turn_step
turns_on p q r old mid new serving (n, some, made, kept) = record {
  made = serving.made ++ turn_step n ∷ [];
  only = only_more serving.made (turn_step n ∷ []) serving.only refl;
  way =
      walk_on p q r serving.made (turn_step n) (no_stores old.configuration) (no_stores old.configuration) old mid new serving.way
      (turns_made q r serving.made 0 0 n mid new some made kept)
      (same_table mid.configuration serving.made (turn_step n) (no_stores old.configuration) refl serving.way.table_kept) (omega arith);
}

-- nothing more is made
pub no_more : (p q r : Seen) (old mid new : StackTold) → new ≡ mid → LastsOn q r → IsServing p q old mid → ServesNoMore p r old mid new
no_more p q r old mid new same last serving = record {
  made = serving.made;
  only = serving.only;
  walked = subst (λ (t : StackTold). HasWalked p r serving.made old t) (sym same)
      (has_walked p q r serving.made old mid mid refl (omega arith) (none_counted mid.causes.unplanned) refl (λ tells. tells) last serving.way.walking);
  adds = ap (λ (t : StackTold). t.entries) same;
  configuration = ap (λ (t : StackTold). t.configuration) same;
  cap = ap (λ (t : StackTold). t.cap) same;
  counted = let n : new.faults ≡ mid.faults = ap (λ (t : StackTold). t.faults) same in omega (arith, n);
}

-- THE STATE BEHIND AN ASK

pub asked_state : (asked : Request) (reply : Reply) (old new : StackTold) → AddsAsk (Ask 0 asked reply) old new → state_of new ≡ step old.configuration (state_of old) (Ask 0 asked reply)
asked_state asked reply old new adds = ap state_of adds.adds ∙ histories_step old.configuration old.entries (Ask 0 asked reply)

-- WHAT IT COMES TO

pub entries_asked : (asked : Request) (reply : Reply) (old new : StackTold) → AddsAsk (Ask 0 asked reply) old new → new.entries ≡ old.entries ++ Ask 0 asked reply ∷ []
entries_asked asked reply old new adds = ap (λ (t : StackTold). t.entries) adds.adds

more_entries : (a b d : List Entry) (e : Entry) (es : List Entry) → b ≡ a ++ e ∷ [] → d ≡ b ++ es → d ≡ a ++ e ∷ es
more_entries a b d e es one two = two ∙ ap (λ (h : List Entry). h ++ es) one ∙ append_assoc a (e ∷ []) es

-- it is accepted, and turns added these entries
pub job_made : (p q r s : Seen) (asked : Request) (piece : List Entry) (old mid between new : StackTold) → IsOwn asked → (serving : IsServing p q old mid) → AddsAsk (Ask 0 asked Accepted) mid between → AskMoves q r mid between
    → ((before : List Step) → IsKept before between → TurnsSome r s before between new) → new.entries ≡ between.entries ++ piece → ServesMore p s (Ask 0 asked Accepted ∷ piece) old mid new
job_made p q r s asked piece old mid between new own serving adds pays turns more =
    let asks = asks_on p q r asked Accepted old mid between own serving adds pays in record {
      serving = turns_on p r s old between new asks (turns asks.made asks.way.kept);
      adds = more_entries mid.entries between.entries new.entries (Ask 0 asked Accepted) piece (entries_asked asked Accepted mid between adds) more;
    }

-- A REQUEST OF THE GATEWAY

pub request_refused : (c : Configuration) (request : List ℕ) (code : NegativeCode) (p q : Seen) (old now : StackTold) → asked_by c request ≡ Err code → HasNone (state_of now) → IsServing p q old now → EndsRequest c request p q (Ok tt) old now now
request_refused c request code p q old now is none serving = ([], record { serving = serving; adds = sym (append-nil now.entries) }, rw is refl, none)

-- nothing was done
pub stays : (p q : Seen) (old now : StackTold) → IsServing p q old now → ServesNoMore p q old now now
stays p q old now serving = record {
  made = serving.made;
  only = serving.only;
  walked = has_walked p q q serving.made old now now refl (omega arith) (none_counted now.causes.unplanned) refl (λ tells. tells) (none_last q) serving.way.walking;
  adds = refl;
  configuration = refl;
  cap = refl;
  counted = omega arith;
}

-- ALL OF THEM

found_none : (c : Configuration) (marks : List (Instance × Mark)) (ops : ℕ) → HasNone (after c (Found marks ops ∷ []))
found_none c marks ops = record { hand = refl; waiting = refl; sweep = refl }

-- none yet
pub serves_none : (p : Seen) (t : StackTold) → IsSeen t p → IsFresh t → AreServedSoFar p p [] [] t t
serves_none p t seen fresh = record {
  serving = record { made = []; only = refl; way = begin p (length t.configuration.blocks) (no_stores t.configuration) t seen fresh refl refl };
  pieces = [];
  more = sym (append-nil t.entries);
  counts = refl;
  served = tt;
  none = subst (λ (h : List Entry). HasNone (after t.configuration h)) (sym fresh.entries) (found_none t.configuration fresh.marks fresh.ops);
}

length_added : (a b p : List Entry) → b ≡ a ++ p → length b - length a ≡ length p
length_added a b p is = let all = ap length is ∙ length-append a p in omega (arith, all)

-- one more
pub serves_one : (p q r : Seen) (requests : List (List ℕ)) (request : List ℕ) (counts : List ℕ) (old mid new : StackTold) → AreServedSoFar p q requests counts old mid → EndsRequest old.configuration request p r (Ok tt) old mid new
    → AreServedSoFar p r (requests ++ request ∷ []) (counts ++ (length new.entries - length mid.entries) ∷ []) old new
serves_one p q r requests request counts old mid new so_far (piece, more, has, none) = record {
  serving = more.serving;
  pieces = so_far.pieces ++ piece ∷ [];
  more = more.adds ∙ ap (λ (h : List Entry). h ++ piece) so_far.more ∙ append_assoc old.entries (joined so_far.pieces) piece ∙ ap (λ (h : List Entry). old.entries ++ h) (sym (joined_more so_far.pieces piece));
  counts =
      ap (λ (n : ℕ). counts ++ n ∷ []) (length_added mid.entries new.entries piece more.adds) ∙ ap (λ (ns : List ℕ). ns ++ length piece ∷ []) so_far.counts
      ∙ sym (map-append (λ (es : List Entry). length es) so_far.pieces (piece ∷ []));
  served = served_more old.configuration requests request so_far.pieces piece so_far.served has;
  none = none;
}

-- the first ones, and the others left for a reason
serves_so : (p q r : Seen) (end : Result (Unit {0}) ServeStop) (requests first left : List (List ℕ)) (rest : List Entry) (counts : List ℕ) (old mid at new : StackTold) → requests ≡ first ++ left → (so_far : AreServedSoFar p q first counts old mid)
    → ServesNoMore p r old at new → new.entries ≡ mid.entries ++ rest → LeavesRequests old.configuration old.cap (state_of new) end left rest → HasServed p r requests counts end old new
serves_so p q r end requests first left rest counts old mid at new order so_far none adds leaves = record {
  made = none.made;
  only = none.only;
  walked = none.walked;
  more = joined so_far.pieces ++ rest;
  adds = adds ∙ ap (λ (h : List Entry). h ++ rest) so_far.more ∙ append_assoc old.entries (joined so_far.pieces) rest;
  serves = record { first = first; left = left; order = order; pieces = so_far.pieces; rest = rest; parts = refl; served = so_far.served; leaves = leaves };
  counts = so_far.counts;
}

-- all
pub serves_all : (p q : Seen) (requests : List (List ℕ)) (counts : List ℕ) (old now : StackTold) → AreServedSoFar p q requests counts old now → HasServed p q requests counts (Ok tt) old now
serves_all p q requests counts old now so_far =
    serves_so p q q (Ok tt) requests requests [] [] counts old now now now (sym (append-nil requests)) so_far (stays p q old now so_far.serving) (sym (append-nil now.entries)) (refl, refl)

-- or not all
pub serves_first : (p q r : Seen) (why : ServeStop) (requests first left : List (List ℕ)) (request : List ℕ) (counts : List ℕ) (old mid new : StackTold) → requests ≡ first ++ request ∷ left → AreServedSoFar p q first counts old mid → EndsRequest old.configuration request p r (Err why) old mid new
    → HasServed p r requests counts (Err why) old new
serves_first p q r stop.Off requests first left request counts old mid new order so_far (piece, more, off) =
    serves_so p q r (Err stop.Off) requests first (request ∷ left) piece counts old mid new new order so_far (stays p r old new more.serving) more.adds off
serves_first p q r stop.NoRoom requests first left request counts old mid new order so_far (none, (asked, is, full)) =
    serves_so p q r (Err stop.NoRoom) requests first (request ∷ left) [] counts old mid mid new order so_far none (none.adds ∙ sym (append-nil mid.entries)) ((asked, is, no_room), refl)
  where
    no_room : IsTrue (not (fits old.configuration old.cap (state_of new) 1))
    no_room =
        subst (λ (h : List Entry). IsTrue (not (fits old.configuration old.cap (after new.configuration h) 1))) (sym none.adds)
        (subst (λ (x : Configuration). IsTrue (not (fits old.configuration old.cap (after x mid.entries) 1))) (sym none.configuration)
        (subst (λ (n : ℕ). IsTrue (not (fits old.configuration n (state_of mid) 1))) so_far.serving.way.cap
        (subst (λ (x : Configuration). IsTrue (not (fits x mid.cap (state_of mid) 1))) so_far.serving.way.configuration full)))
serves_first p q r stop.Memory requests first left request counts old mid new order so_far none =
    serves_so p q r (Err stop.Memory) requests first (request ∷ left) [] counts old mid mid new order so_far none (none.adds ∙ sym (append-nil mid.entries)) refl

-- memory was wanting before the next one
pub serves_some : (p q : Seen) (requests first left : List (List ℕ)) (counts : List ℕ) (old now : StackTold) → requests ≡ first ++ left → AreServedSoFar p q first counts old now → HasServed p q requests counts (Err stop.Memory) old now
serves_some p q requests first left counts old now order so_far =
    serves_so p q q (Err stop.Memory) requests first left [] counts old now now now order so_far (stays p q old now so_far.serving) (sym (append-nil now.entries)) refl

-- the next request stands between those that are served and those that are left
next_behind : (xs : List (List ℕ)) (i : ℕ) (x d : List ℕ) → i < length xs → x ≡ get_or xs i d → xs ≡ take i xs ++ x ∷ drop (suc i) xs
next_behind [] i x d less is = absurd (omega (arith, less))
next_behind (y ∷ ys) zero x d less is = ap (λ (z : List ℕ). z ∷ ys) (sym is)
next_behind (y ∷ ys) (suc i) x d less is = ap (λ (zs : List (List ℕ)). y ∷ zs) (next_behind ys i x d (omega (arith, less)) is)

pub next_request : (xs : List (List ℕ)) (i : ℕ) (x d : List ℕ) → i < length xs → x ≡ get_or xs i d → xs ≡ take i xs ++ x ∷ drop (i + 1) xs
next_request xs i x d less is = let next : suc i ≡ i + 1 = omega arith in next_behind xs i x d less is ∙ ap (λ (k : ℕ). take i xs ++ x ∷ drop k xs) next

pub one_more : (xs : List (List ℕ)) (i : ℕ) (x d : List ℕ) → i < length xs → x ≡ get_or xs i d → take i xs ++ x ∷ [] ≡ take (i + 1) xs
one_more xs i x d less is = sym (take_more xs i d less ∙ ap (λ (z : List ℕ). take i xs ++ z ∷ []) (sym is))

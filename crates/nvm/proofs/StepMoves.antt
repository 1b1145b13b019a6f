-- The calls of a unit as steps, each with its one move.
use Rattle.std.specs.Prelude.{map}
use Rattle.std.proofs.Common.{◌≡◌, true, false, List, [], ◌∷◌, ◌++◌, Option, Some, None, refl, sym, ap, subst}
use Rattle.nvm_flash.specs.block_machine.Words.{Entry, Ask, Pick, Wrote, Post, Off, Found, Configuration}
use Rattle.nvm_flash.specs.block_machine.State.{State}
use Rattle.nvm_flash.specs.block_machine.Steps.{after_from}
use Rattle.nvm_flash.specs.promise_run.Turns.{Moment, Move, Planned, AreInTime, AreMoves, AreMovesOf, ClosesAtDrains, FindWorkAtDrains, CutsCome, IsTurnMade, all_moves, entries_of, is_asked, is_found, moment_after, moment_behind, planned_by}
use Rattle.nvm_moves.specs.script_walks.Words.{StepKind, Turn, Drain}
use Rattle.nvm.specs.Steps.{kind_of, step_of, one_each}

-- ONE EACH
pub all_each : (ms : List Move) → all_moves (one_each ms) ≡ ms
all_each [] = refl
all_each (m ∷ ms) = ap (λ (l : List Move). m ∷ l) (all_each ms)

pub behind_each : (before : Moment) (ms : List Move) → moment_after before (one_each ms) ≡ moment_behind before ms
behind_each before [] = refl
behind_each before (m ∷ ms) = behind_each m.behind ms

-- calls behind calls
pub calls_more : (before : Moment) (a b : List Move) → AreMoves before (map step_of a) (one_each a) → AreMoves (moment_behind before a) (map step_of b) (one_each b) → AreMoves before (map step_of (a ++ b)) (one_each (a ++ b))
calls_more before [] b one two = two
calls_more before (m ∷ ms) b one two = (one.0, calls_more m.behind ms b one.1 two)

-- A TURN
turn_kind : (e : Option Entry) → is_asked e ≡ false → is_found e ≡ false → kind_of e ≡ Turn 1
turn_kind None asked found = refl
turn_kind (Some (Ask caller r reply)) asked found = absurd (let no_ : true ≡ false = asked in cc no_)
turn_kind (Some (Pick block kind t ops)) asked found = refl
turn_kind (Some (Wrote i mark ops)) asked found = refl
turn_kind (Some (Post block r given refused ops)) asked found = refl
turn_kind (Some (Off ops)) asked found = refl
turn_kind (Some (Found marks ops)) asked found = absurd (let no_ : true ≡ false = found in cc no_)

pub turn_call : (before : Moment) (m : Move) → is_asked m.entry ≡ false → is_found m.entry ≡ false → IsTurnMade before m → AreMoves before (map step_of (m ∷ [])) (one_each (m ∷ []))
turn_call before m asked found made = (subst (λ (k : StepKind). AreMovesOf k before (m ∷ [])) (sym (turn_kind m.entry asked found)) (refl, (made, tt)), tt)

-- WHAT A UNIT HAS NO STEPS OF
never_drains : (e : Option Entry) → kind_of e ≡ Drain → ⊥
never_drains None is = cc is
never_drains (Some (Ask caller r reply)) is = cc is
never_drains (Some (Pick block kind t ops)) is = cc is
never_drains (Some (Wrote i mark ops)) is = cc is
never_drains (Some (Post block r given refused ops)) is = cc is
never_drains (Some (Off ops)) is = cc is
never_drains (Some (Found marks ops)) is = cc is

pub no_drains : (before : Moment) (ms : List Move) → ClosesAtDrains before (map step_of ms) (one_each ms)
no_drains before [] = tt
no_drains before (m ∷ ms) = (λ is. absurd (never_drains m.entry is), no_drains m.behind ms)

pub none_to_find : (c : Configuration) (before : Moment) (s : State) (ms : List Move) → FindWorkAtDrains c before s (map step_of ms) (one_each ms)
none_to_find c before s [] = tt
none_to_find c before s (m ∷ ms) = (λ is. absurd (never_drains m.entry is), none_to_find c m.behind (after_from c s (entries_of (m ∷ []))) ms)

none_planned : (e : Option Entry) (now : Moment) → planned_by (kind_of e) now None ≡ None
none_planned None now = refl
none_planned (Some (Ask caller r reply)) now = refl
none_planned (Some (Pick block kind t ops)) now = refl
none_planned (Some (Wrote i mark ops)) now = refl
none_planned (Some (Post block r given refused ops)) now = refl
none_planned (Some (Off ops)) now = refl
none_planned (Some (Found marks ops)) now = refl

pub no_cuts : (c : Configuration) (now : Moment) (s : State) (ms : List Move) → CutsCome c None now s (map step_of ms) (one_each ms)
no_cuts c now s [] = tt
no_cuts c now s (m ∷ ms) =
    subst (λ (p : Option Planned). AreInTime c p s (m ∷ []) × CutsCome c p m.behind (after_from c s (entries_of (m ∷ []))) (map step_of ms) (one_each ms)) (sym (none_planned m.entry now))
    ((tt, tt), no_cuts c m.behind (after_from c s (entries_of (m ∷ []))) ms)

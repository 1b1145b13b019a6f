-- The passes of a shared stack.
use Rattle.std.specs.Prelude.{◌≡◌, ◌⊎◌, ℕ, ◌^◌, true, false, List, [], ◌∷◌, ◌++◌, length, Some}
use mathlib.Core.Option.{some}
use lib.ListN.{get_elem?}
use Rattle.atomic_table.specs.declared.shared.Seat.{Seat}
use Rattle.turn_gate.specs.declared.pass.View.{View}
use Rattle.turn_gate.specs.declared.pass.Place.{Place}
use Rattle.turn_gate.specs.Entries.{StartsWith, AllAgree}
use Rattle.turn_gate.specs.Pass.{Has, GateValue, IsPassOf, IsOutside, knows}
use Rattle.nvm_core.specs.block_machine.Words.{Entry}
use Rattle.nvm_shared.specs.StatusWords.{gives, is_ask, is_found}
use Rattle.nvm_shared.specs.Behind.{AreAsks}
use Rattle.nvm_shared.specs.declared.terms.Terms.{Terms}
use Rattle.nvm_shared.specs.Locked.{LockedState}

-- the lock, and what never changes of the value under it
pub record SharedState : Type 0 where
  pub gate : GateValue
  pub terms : Terms

abbrev pub PassValue : Type 0
PassValue = Seat (Place LockedState) (View Entry Terms)

-- A pass of this stack, outside the lock.
pub record IsUserOf (s : SharedState) (p : PassValue) : Type 0 where
  pub own : IsPassOf s.gate p
  pub outside : IsOutside p
  pub root : (knows p).root ≡ Some s.terms

-- entry n of the list
abbrev pub IsEntry : List Entry → ℕ → Entry → Type 0
IsEntry seen n e = get_elem? seen n ≡ some e

-- The list is the one that was seen, or has one entry more, which is no start-up, and a request where the pass lacks the mark.
abbrev pub IsExtended : View Entry Terms → List Entry → Type 0
IsExtended v log = (log ≡ v.seen) ⊎ ((e : Entry) × (log ≡ v.seen ++ e ∷ []) × (v.mark ≡ false → is_ask e ≡ true) × (is_found e ≡ false))

-- What a pass learns that adds nothing: the list goes on, by requests alone where the pass has the mark.
pub record LearnsMore (v w : View Entry Terms) : Type 0 where
  pub starts : StartsWith w.seen v.seen
  pub open_since : v.mark ≡ true → (more : List Entry) × AreAsks more × (w.seen ≡ v.seen ++ more)
  pub own : w.own ≡ v.own
  pub notes : w.notes ≡ v.notes
  pub heard : w.heard ≡ v.heard
  pub mark : w.mark ≡ v.mark
  pub parts : w.parts ≡ v.parts

-- the entry of this number is the driver's: no request, and no start-up
abbrev pub IsDriven : List Entry → ℕ → Type 0
IsDriven seen k = (e : Entry) × IsEntry seen k e × (is_ask e ≡ false) × (is_found e ≡ false)

-- the list is the one before, or has an entry of the driver more
abbrev pub IsDrivenOn : (seen seen_new : List Entry) → Type 0
IsDrivenOn seen seen_new = (seen_new ≡ seen) ⊎ ((e : Entry) × (seen_new ≡ seen ++ e ∷ []) × (is_ask e ≡ false))

-- A pass was told what callers knew, or nothing. Else it knows what it knew.
pub record IsInformed (v w : View Entry Terms) : Type 0 where
  pub root : w.root ≡ v.root
  pub seen : w.seen ≡ v.seen
  pub own : w.own ≡ v.own
  pub notes : StartsWith w.notes v.notes
  pub heard : StartsWith w.heard v.heard
  pub mark : w.mark ≡ v.mark
  pub parts : w.parts ≡ v.parts

-- What a half of a turn tells its pass: the list goes on, and an entry that it added is the driver's. Where the pass has all parts,
-- nothing of others comes between. What callers knew may come to what it was told.
pub record LearnsHalf (v w : View Entry Terms) : Type 0 where
  pub starts : StartsWith w.seen v.seen
  pub agree : AllAgree gives w.seen v.notes
  pub own : (w.own ≡ v.own) ⊎ ((k : ℕ) × (w.own ≡ v.own ++ k ∷ []) × IsDriven w.seen k)
  pub alone : v.parts ≡ 2 ^ 64 → IsDrivenOn v.seen w.seen
  pub notes : StartsWith w.notes v.notes
  pub heard : StartsWith w.heard v.heard
  pub mark : w.mark ≡ v.mark
  pub parts : w.parts ≡ v.parts

-- what a whole turn tells its pass: the list goes on, and what it added is the driver's; what callers knew may come to what it was
-- told
pub record LearnsTurn (v w : View Entry Terms) : Type 0 where
  pub starts : StartsWith w.seen v.seen
  pub notes : StartsWith w.notes v.notes
  pub heard : StartsWith w.heard v.heard
  pub own : (k : ℕ) → Has w.own k → Has v.own k ⊎ IsDriven w.seen k

-- A request was made: its entry stands behind a list that begins with all that was seen, and that agrees with all that polls
-- told; its number is the pass's own.
pub record Asked (v w : View Entry Terms) (n : ℕ) (e : Entry) : Type 0 where
  pub before : List Entry
  pub seen : w.seen ≡ before ++ e ∷ []
  pub number : n ≡ length before
  pub starts : StartsWith before v.seen
  pub agree : AllAgree gives before v.notes
  pub own : w.own ≡ v.own ++ n ∷ []

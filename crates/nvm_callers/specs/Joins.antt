-- What a pass that took in others knows of what they knew.
use Rattle.std.specs.Prelude.{◌≡◌, ◌⊎◌, ◌<◌, ℕ, List, [], ◌∷◌, length, Contains}
use Rattle.driver_moves.specs.block_machine.Words.{Entry, Configuration}
use Rattle.turn_gate.specs.Entries.{StartsWith, AllAgree, AllHeard}
use Rattle.turn_gate.specs.Pass.{Has, both}
use Rattle.turn_gate.specs.declared.pass.View.{View}
use Rattle.driver_moves.specs.nvm_shared.declared.terms.Terms.{Terms}
use Rattle.driver_moves.specs.nvm_shared.StatusWords.{gives}
use Rattle.driver_moves.specs.nvm_shared.Passes.{IsDriven, LearnsTurn}
use Rattle.nvm_callers.specs.Deeds.{HasDone}
use Rattle.nvm_callers.specs.Shares.{Share, BeginsUnasked, IsOfShares}

-- in each history that goes on from what the pass saw and heard, the entry of this number is the driver's
abbrev pub IsDrivenIn : View Entry Terms → ℕ → Type 0
IsDrivenIn v k = (h : List Entry) → StartsWith h v.seen → AllHeard h v.heard → IsDriven h k

-- Its own entries are the driver's and theirs, and what they saw and were told is among what it heard and was told.
pub record Collects (shares : List Share) (v : View Entry Terms) : Type 0 where
  pub owns : (k : ℕ) → Has v.own k → IsDrivenIn v k ⊎ ((s : Share) × Contains shares s × Has s.own k)
  pub told : (s : Share) → Contains shares s → (h : List Entry) → AllAgree gives h v.notes → AllAgree gives h s.notes
  pub began : (s : Share) → Contains shares s → (h : List Entry) → AllHeard h v.heard → StartsWith h s.seen

-- a driver that added nothing but its own took in none
abbrev pub NoneIsJoined : Type 0
NoneIsJoined = (v : View Entry Terms) → ((k : ℕ) → Has v.own k → IsDriven v.seen k) → Collects [] v

-- a turn of the driver leaves it so
abbrev pub TurnsCollect : Type 0
TurnsCollect = (shares : List Share) (v w : View Entry Terms) → LearnsTurn v w → Collects shares v → Collects shares w

-- one pass more, which knows this of its caller
abbrev pub JoinsCollect : Type 0
JoinsCollect =
    (shares : List Share) (v w : View Entry Terms) (s : Share) → s.own ≡ w.own → s.seen ≡ w.seen → s.notes ≡ w.notes
    → Collects shares v → Collects (s ∷ shares) (both v w)

-- who did nothing, and knows nothing, may stand among them
abbrev pub NothingIsCollected : Type 0
NothingIsCollected =
    (shares : List Share) (v : View Entry Terms) (s : Share) → s.own ≡ [] → s.seen ≡ [] → s.notes ≡ [] → Collects shares v → Collects (s ∷ shares) v

-- at the end the history is the driver's and theirs
abbrev pub CollectedAreAll : Type 0
CollectedAreAll =
    (c : Configuration) (cap : ℕ) (h : List Entry) (shares : List Share) (v : View Entry Terms) → Collects shares v → BeginsUnasked h
    → v.seen ≡ h → ((k : ℕ) → 0 < k → k < length h → Has v.own k) → AllAgree gives h v.notes → AllHeard h v.heard
    → ((s : Share) → Contains shares s → HasDone c cap s.own s.seen s.notes s.caller s.deeds)
    → ((s t : Share) → Contains shares s → Contains shares t → s.caller ≡ t.caller → s ≡ t) → IsOfShares c cap h shares

-- What the callers of a run did, once their passes are joined.
use Rattle.std.specs.Prelude.{◌≡◌, ◌≢◌, ◌⊎◌, ◌<◌, ℕ, List, [], length, Contains}
use Rattle.driver_moves.specs.block_machine.Words.{Request, Reply, Entry, Ask, Configuration}
use Rattle.turn_gate.specs.Entries.{Note, StartsWith, AllAgree}
use Rattle.turn_gate.specs.Pass.{Has}
use Rattle.driver_moves.specs.nvm_moves.script_walks.Callers.{asks_of}
use Rattle.driver_moves.specs.nvm_shared.StatusWords.{gives}
use Rattle.driver_moves.specs.nvm_shared.Numbers.{IsEntry, AreAll}
use Rattle.driver_moves.specs.nvm_shared.Passes.{IsDriven}
use Rattle.script_callers.specs.declared.deed.Deed.{Deed}
use Rattle.script_callers.specs.Deeds.{requests_in}
use Rattle.nvm_callers.specs.Deeds.{HasDone, Shows}

-- what a caller did, and what its pass knew of it when it was joined
pub record Share : Type 0 where
  pub caller : ℕ
  pub deeds : List Deed
  pub own : List ℕ
  pub seen : List Entry
  pub notes : List Note

-- the whole history goes on from what it saw, and agrees with what it was told
pub record IsShareOf (c : Configuration) (cap : ℕ) (h : List Entry) (s : Share) : Type 0 where
  pub done : HasDone c cap s.own s.seen s.notes s.caller s.deeds
  pub starts : StartsWith h s.seen
  pub agree : AllAgree gives h s.notes

-- behind its start-up the history was written by the driver and by these callers alone
abbrev pub AreWrittenBy : List Entry → List Share → Type 0
AreWrittenBy h shares = (k : ℕ) → 0 < k → k < length h → IsDriven h k ⊎ ((s : Share) × Contains shares s × Has s.own k)

-- the first entry is no request
abbrev pub BeginsUnasked : List Entry → Type 0
BeginsUnasked h = (caller : ℕ) (r : Request) (reply : Reply) → ¬ IsEntry h 0 (Ask caller r reply)

-- It was, and no two of them have one number.
pub record IsOfShares (c : Configuration) (cap : ℕ) (h : List Entry) (shares : List Share) : Type 0 where
  pub first : BeginsUnasked h
  pub are : (s : Share) → Contains shares s → IsShareOf c cap h s
  pub all : AreWrittenBy h shares
  pub apart : (s t : Share) → Contains shares s → Contains shares t → s.caller ≡ t.caller → s ≡ t

-- then each request of a caller is an own one of its share
abbrev pub SharesHaveAll : Type 0
SharesHaveAll = (c : Configuration) (cap : ℕ) (h : List Entry) (shares : List Share) → IsOfShares c cap h shares → (s : Share) → Contains shares s → AreAll h s.caller s.own

-- so it tells what each caller asked for
abbrev pub SharesAsk : Type 0
SharesAsk =
    (c : Configuration) (cap : ℕ) (h : List Entry) (shares : List Share) → IsOfShares c cap h shares → (s : Share) → Contains shares s
    → asks_of s.caller h ≡ requests_in s.deeds

-- and what each did
abbrev pub SharesHold : Type 0
SharesHold =
    (c : Configuration) (cap : ℕ) (h : List Entry) (shares : List Share) → IsOfShares c cap h shares → (s : Share) → Contains shares s
    → Shows s.caller s.deeds h

-- and nobody else asked
abbrev pub NobodyElseAsks : Type 0
NobodyElseAsks =
    (c : Configuration) (cap : ℕ) (h : List Entry) (shares : List Share) → IsOfShares c cap h shares
    → (caller : ℕ) → ((s : Share) → Contains shares s → s.caller ≢ caller) → asks_of caller h ≡ []

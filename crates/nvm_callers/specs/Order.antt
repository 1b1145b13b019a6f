-- What a caller did, against its program.
use Rattle.std.specs.Prelude.{◌≡◌, ℕ, false, List, ◌∷◌, ◌++◌, length, take}
use Rattle.driver_moves.specs.block_machine.Words.{Request, Entry, Configuration}
use Rattle.driver_moves.specs.block_machine.Reply.{fits}
use Rattle.driver_moves.specs.block_machine.Steps.{after}
use Rattle.turn_gate.specs.Entries.{Note, StartsWith, AllAgree}
use Rattle.driver_moves.specs.nvm_moves.script_walks.Words.{Step}
use Rattle.driver_moves.specs.nvm_moves.script_walks.Callers.{IsInOrder, asks_of, program_of, requests_of}
use Rattle.driver_moves.specs.nvm_moves.script_walks.Looks.{CanBeMade}
use Rattle.driver_moves.specs.nvm_moves.script_walks.Runs.{AskedAll, HadNoRoom}
use Rattle.driver_moves.specs.nvm_shared.StatusWords.{gives}
use Rattle.driver_moves.specs.nvm_shared.Numbers.{AreAll}
use Rattle.script_callers.specs.declared.deed.Deed.{Deed}
use Rattle.script_callers.specs.declared.deed.Deed.TheVariants.{Ask as AskDeed}
use Rattle.script_callers.specs.Deeds.{deeds_of, requests_in}
use Rattle.nvm_callers.specs.Deeds.{HasDone, Shows}

-- a caller that did the first deeds of its program keeps to it
abbrev pub BeginningsKeepOrder : Type 0
BeginningsKeepOrder =
    (c : Configuration) (caller : ℕ) (program : List Step) (done rest : List Deed) (h : List Entry) → deeds_of c program ≡ done ++ rest → Shows caller done h
    → IsInOrder c caller program h

-- and asked for the first requests of its program, in order
abbrev pub BeginningsAsk : Type 0
BeginningsAsk =
    (c : Configuration) (caller : ℕ) (program : List Step) (done rest : List Deed) (h : List Entry) → deeds_of c program ≡ done ++ rest → asks_of caller h ≡ requests_in done
    → asks_of caller h ≡ take (length (asks_of caller h)) (requests_of c program)

-- what it did it can have done
abbrev pub DeedsCanBeMade : Type 0
DeedsCanBeMade = (c : Configuration) (caller : ℕ) (program : List Step) (h : List Entry) → Shows caller (deeds_of c program) h → CanBeMade c caller program h

-- one that did all asked for all
abbrev pub AllIsAsked : Type 0
AllIsAsked = (c : Configuration) (steps : List Step) (caller : ℕ) (h : List Entry) → Shows caller (deeds_of c (program_of caller steps)) h → AskedAll c steps h caller

-- Behind these deeds a request found no room, behind all that was seen, which agrees with all that was told.
pub record FoundNoRoom (c : Configuration) (cap : ℕ) (own : List ℕ) (seen : List Entry) (notes : List Note) (caller : ℕ) (deeds : List Deed) : Type 0 where
  pub done : HasDone c cap own seen notes caller deeds
  pub agree : AllAgree gives seen notes
  pub full : fits c cap (after c seen) 1 ≡ false

-- then its caller had no room in a history that goes on from there and has no other request of it
abbrev pub NoRoomIsHad : Type 0
NoRoomIsHad =
    (c : Configuration) (cap : ℕ) (own : List ℕ) (seen : List Entry) (notes : List Note) (steps : List Step) (caller : ℕ) (done rest : List Deed) (line : ℕ) (r : Request) (h : List Entry)
    → deeds_of c (program_of caller steps) ≡ done ++ AskDeed line r ∷ rest → FoundNoRoom c cap own seen notes caller done → StartsWith h seen
    → AreAll h caller own → HadNoRoom cap c steps h caller

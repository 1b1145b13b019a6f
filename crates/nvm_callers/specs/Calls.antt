-- What a caller of a shared stack did so far, as its pass knows it.
use Rattle.std.specs.Prelude.{◌≡◌, ◌≤◌, ℕ, List, [], ◌++◌, length, All, Option, Some}
use Rattle.turn_gate.specs.declared.pass.View.{View}
use Rattle.turn_gate.specs.Entries.{Note, StartsWith}
use Rattle.driver_moves.specs.block_machine.Words.{Entry, Configuration}
use Rattle.driver_moves.specs.block_machine.Legal.{HasStore}
use Rattle.driver_moves.specs.nvm_shared.declared.terms.Terms.{Terms}
use Rattle.script_callers.specs.declared.deed.Deed.{Deed}
use Rattle.script_callers.specs.declared.deed.Deed.TheVariants.{Ask, Store, Await}
use Rattle.nvm_callers.specs.Waits.{EndsWait}
use Rattle.nvm_callers.specs.Deeds.{HasDone}
use Rattle.nvm_callers.specs.Stored.{Stored, HasStored, AreAsMany}

-- polls alone: the pass has more notes, and stands where it stood
abbrev pub HasPolled : View Entry Terms → View Entry Terms → Type 0
HasPolled v w = (more : List Note) × (w ≡ record v { notes = v.notes ++ more })

-- the wait on a block is over
abbrev pub IsOver : Terms → ℕ → View Entry Terms → Type 0
IsOver t block v = EndsWait t.config t.cap block v.seen v.notes

-- a request, with its store, a wait on a block that is there, or any store
abbrev pub MayMake : Configuration → Deed → Type 0
MayMake c (Ask line r) = HasStore c r
MayMake c (Store line block number content) = Unit {0}
MayMake c (Await line block) = (block ≤ length c.blocks) × (block ≤ 512)

-- a store is of as many bytes as its block takes
abbrev pub MayStore : (bytes : ℕ → Option ℕ) → Deed → Type 0
MayStore bytes (Ask line r) = Unit {0}
MayStore bytes (Store line block number content) = bytes block ≡ Some (length content)
MayStore bytes (Await line block) = Unit {0}

abbrev pub IsAsk : Deed → Type 0
IsAsk (Ask line r) = Unit {0}
IsAsk d = ⊥

abbrev pub IsAwait : Deed → Type 0
IsAwait (Await line block) = Unit {0}
IsAwait d = ⊥

-- these are its stores, each with what it knew then, and no more
pub record DidStore (t : Terms) (caller : ℕ) (deeds : List Deed) (v : View Entry Terms) (made : ℕ → List Stored) : Type 0 where
  pub each : HasStored t.config t.cap v.own v.seen v.notes caller deeds made
  pub many : AreAsMany deeds made

-- The caller made these deeds, each request behind the end of each wait before it, and each store, where none was made before and all
-- are of as many bytes as their blocks take.
pub record Did (t : Terms) (caller : ℕ) (deeds : List Deed) (v : View Entry Terms) (bytes : ℕ → Option ℕ) (began made : ℕ → List Stored) : Type 0 where
  pub done : HasDone t.config t.cap v.own v.seen v.notes caller deeds
  pub stored : ((block : ℕ) → began block ≡ []) → All (MayStore bytes) deeds → DidStore t caller deeds v made

-- what its calls leave of its pass
pub record KeepsPass (v w : View Entry Terms) : Type 0 where
  pub starts : StartsWith w.seen v.seen
  pub heard : w.heard ≡ v.heard
  pub mark : w.mark ≡ v.mark
  pub parts : w.parts ≡ v.parts

-- What came along with the stores that a Pick's looks showed.
use Rattle.std.specs.Prelude.{◌≡◌, ◌<◌, ◌≤◌, ℕ, true, List, [], ◌∷◌, ◌++◌, map, Option, IfSome}
use Rattle.turn_gate.specs.declared.pass.View.{View}
use Rattle.turn_gate.specs.Pass.{IsWithin}
use Rattle.nvm_core.specs.block_machine.Words.{Entry, Pick, JobKind, Taken, TookContent, TookStale, Configuration}
use Rattle.nvm_core.specs.block_machine.Next.{next_of}
use Rattle.nvm_core.specs.block_machine.Steps.{after}
use Rattle.nvm_core.specs.ram_blocks.Told.{Told, IsSynchronized}
use Rattle.ram_mirrors_sync.specs.Blocks.{SyncValue, IsStore, IsOver, HasLooked, told_by}
use Rattle.script_walks.specs.Walk.{copies_next}
use Rattle.nvm_shared.specs.StatusWords.{gives}
use Rattle.nvm_shared.specs.declared.terms.Terms.{Terms}

-- what came along, if anything did, stands in these entries
abbrev pub StandsIn : List Entry → Option (View Entry Terms) → Type 0
StandsIn entries note = IfSome note (λ w. IsWithin gives entries w)

-- WHAT WAS ASKED FOR
-- between these two values a look at the block showed this store, or a later one
abbrev pub HasSeen : {C : Type 0} → (looked : C → C → ℕ → ℕ → Type 0) → (block number : ℕ) → (old new : C) → Type 0
HasSeen looked block number old new = (n : ℕ) × (number ≤ n) × looked old new block n

-- The copies go on: nothing is told otherwise of them, stores stay, they are over what they were over, and what is shown behind is
-- shown behind what was before.
pub record GoOn {C : Type 0} (told : C → List Told) (is_store : C → ℕ → ℕ → List ℕ → Type 0) (looked : C → C → ℕ → ℕ → Type 0)
    (over : C → C → Type 0) (old new : C) : Type 0 where
  pub same : told new ≡ told old
  pub stores_stay : (b n : ℕ) (x : List ℕ) → is_store old b n x → is_store new b n x
  pub stays_over : (first : C) → over first old → over first new
  pub earlier : (until : C) (b n : ℕ) → looked new until b n → looked old until b n

-- of mirrors
abbrev pub MirrorsGoOn : {N : Type 0} → (old new : SyncValue N) → Type 0
MirrorsGoOn = GoOn (λ s. map told_by s.ends) (λ s. IsStore s.ends) (λ s t. HasLooked s.ends t.ends) IsOver

-- a block that is synchronized was seen so
abbrev pub SeesBlock : {C : Type 0} → (told : C → List Told) → (looked : C → C → ℕ → ℕ → Type 0) → (block number : ℕ) → (old new : C) → Type 0
SeesBlock told looked block number old new = (bytes : ℕ) → IsSynchronized (told old) block bytes → HasSeen looked block number old new

-- A PICK
module _ {C : Type 0} (is_store : C → ℕ → ℕ → List ℕ → Type 0) (looked : C → C → ℕ → ℕ → Type 0) (over : C → C → Type 0)
    (stands : C → ℕ → ℕ → List Entry → Type 0) (c : Configuration) where
  -- The Pick behind these entries, between these two values of the copies: a content that it copied is the store that a look showed;
  -- one that was too old came behind a look that had shown a later one; and with what a look showed came what stands in these entries.
  pub record IsPickShown (before : List Entry) (block : ℕ) (t : Taken) (old new : C) : Type 0 where
    pub content : (bytes : List ℕ) (number : ℕ) → t ≡ TookContent bytes number → copies_next c (next_of c (after c before)) ≡ true
        → is_store new block number bytes × looked old new block number
    pub stale : (wanted got count : ℕ) → t ≡ TookStale wanted got count → (between : C) × (n : ℕ) × looked old between block n × looked between new block got × (got < n)
    pub stands_in : (number : ℕ) → looked old new block number → stands new block number before
    pub over_itself : over new new

  -- where the last entry is a Pick, it is
  abbrev pub PickIsShown : List Entry → (old new : C) → Type 0
  PickIsShown entries old new =
      (before : List Entry) (block ops : ℕ) (kind : JobKind) (t : Taken) → entries ≡ before ++ Pick block kind t ops ∷ [] → IsPickShown before block t old new

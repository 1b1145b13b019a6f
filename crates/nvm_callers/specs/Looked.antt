-- What a driver's looks at the application's stores showed in its turns.
use Rattle.std.specs.Prelude.{◌≡◌, ◌<◌, ◌≤◌, ℕ, Bool, true, List, [], ◌∷◌, ◌++◌, length, take, Contains}
use Rattle.driver_moves.specs.memif.Told.{DeviceTold}
use Rattle.driver_moves.specs.memif.Clock.{Clock}
use Rattle.driver_moves.specs.block_machine.Words.{TookContent, TookStale, Entry, Pick, Configuration}
use Rattle.driver_moves.specs.block_machine.Next.{next_of}
use Rattle.driver_moves.specs.block_machine.Steps.{after}
use Rattle.driver_moves.specs.ram_blocks.Told.{Told}
use Rattle.driver_moves.specs.nvm_moves.script_walks.Looks.{Look, AreInOrder}
use Rattle.driver_moves.specs.nvm_moves.script_walks.Walk.{copies_next}
use Rattle.driver_moves.specs.nvm_shared.declared.terms.Terms.{Terms}
use Rattle.driver_moves.specs.nvm_shared.Driving.{DriverState}
use Rattle.nvm_callers.specs.Driven.{HasDriven}

-- What is known of looks at copies: what lies between two values is between earlier and later ones too, and no look shows an older
-- store than one before it.
pub record LooksAreOrdered {C : Type 0} (looked : C → C → ℕ → ℕ → Type 0) (over : C → C → Type 0) : Type 0 where
  pub itself : (a : C) → over a a
  pub later : (a b c : C) (block n : ℕ) → looked a b block n → over b c → looked a c block n
  pub earlier : (a b c : C) (block n : ℕ) → over a b → looked b c block n → looked a c block n
  pub ascend : (a b c : C) (block n m : ℕ) → looked a b block n → looked b c block m → n ≤ m

-- the look of a Pick behind these entries
abbrev pub look_behind : List Entry → (block shown : ℕ) → Look
look_behind before block shown = record { entry = length before; block = block; shown = shown }

module _ (looks : List Look) (IsStore : (block number : ℕ) → List ℕ → Type 0) where
  -- the Pick behind these entries took the store that a look of it showed, and none that is too old
  abbrev pub TookShown : (before : List Entry) → Entry → (copies : Bool) → Type 0
  TookShown before (Pick block kind (TookStale asked got count) ops) copies = ⊥
  TookShown before (Pick block kind (TookContent bytes number) ops) true = Contains looks (look_behind before block number) × IsStore block number bytes
  TookShown before e copies = Unit {0}

  -- so did each of these
  abbrev pub AllTookShown : Configuration → (before more : List Entry) → Type 0
  AllTookShown c before [] = Unit {0}
  AllTookShown c before (e ∷ es) = TookShown before e (copies_next c (next_of c (after c before))) × AllTookShown c (before ++ e ∷ []) es

module _ {D C : Type 0} (told : D → DeviceTold) (clock : D → Clock) (copies : C → List Told)
    (is_store : C → ℕ → ℕ → List ℕ → Type 0) (looked : C → C → ℕ → ℕ → Type 0) (over : C → C → Type 0)
    (stands : C → ℕ → ℕ → List Entry → Type 0) (t : Terms) where
  -- A look in the Pick behind a beginning of the list: between these two, and what came along with what it showed stands in that
  -- beginning.
  pub record IsLookOf (seen : List Entry) (old new : C) (l : Look) : Type 0 where
    pub within : l.entry < length seen
    pub between : looked old new l.block l.shown
    pub by_then : C
    pub since : over by_then new
    pub stands_in : stands by_then l.block l.shown (take l.entry seen)

  -- Its looks, in order, each in a Pick that was added, and what these took.
  pub record HasLooked (seen seen_new : List Entry) (old new : DriverState D C) : Type 0 where
    pub more : List Entry
    pub grows : seen_new ≡ seen ++ more
    pub looks : List Look
    pub in_order : AreInOrder looks
    pub are : (l : Look) → Contains looks l → IsLookOf seen_new old.copies new.copies l
    pub took : AllTookShown looks (is_store new.copies) t.config seen more

  abbrev pub DrivingLooks : Type 0
  DrivingLooks =
      LooksAreOrdered looked over → (seen seen_new : List Entry) (old new : DriverState D C) → HasDriven told clock copies is_store looked over stands t seen seen_new old new
      → HasLooked seen seen_new old new

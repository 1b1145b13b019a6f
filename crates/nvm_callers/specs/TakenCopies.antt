-- What a history takes of synchronized RAM.
use Rattle.std.specs.Prelude.{◌≡◌, ℕ, List, [], ◌∷◌, take, Contains, Some}
use Rattle.driver_moves.specs.block_machine.Words.{Instance, Mark, Entry, Found, Configuration}
use Rattle.driver_moves.specs.block_machine.StartUp.{at_first}
use Rattle.driver_moves.specs.block_machine.Legal.{IsLegal}
use Rattle.driver_moves.specs.nvm_moves.script_walks.Words.{Step}
use Rattle.driver_moves.specs.nvm_moves.script_walks.Walk.{TakesStores, store_content}
use Rattle.driver_moves.specs.nvm_moves.script_walks.Looks.{Look, CanBeStored, CopiesAreShown}
use Rattle.nvm_callers.specs.Looked.{AllTookShown}

-- Where each copy of a legal history is shown, all that is taken of synchronized RAM is a store of the script with its number: so is
-- what a job took before it was interrupted.
abbrev pub CopiesAreStores : Type 0
CopiesAreStores =
    (c : Configuration) (cap : ℕ) (steps : List Step) (looks : List Look) (h : List Entry) → IsLegal c cap h → CopiesAreShown c steps looks [] h → TakesStores c steps at_first h

-- Where each Pick that copies took a store, each of these is a store of the script with its number, and the store that each look showed
-- can have been made by then, each copy is shown.
abbrev pub CopiesHaveLooks : Type 1
CopiesHaveLooks =
    (c : Configuration) (steps : List Step) (looks : List Look) (IsStore : (block number : ℕ) → List ℕ → Type 0) (marks : List (Instance × Mark)) (ops : ℕ) (more : List Entry)
    → ((block number : ℕ) (x : List ℕ) → IsStore block number x → store_content c steps block number ≡ Some x)
    → ((l : Look) → Contains looks l → CanBeStored c steps l.block l.shown (take l.entry (Found marks ops ∷ more)))
    → AllTookShown looks IsStore c (Found marks ops ∷ []) more → CopiesAreShown c steps looks [] (Found marks ops ∷ more)

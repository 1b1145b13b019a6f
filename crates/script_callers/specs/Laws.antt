-- What callers can rely on.
use Rattle.std.specs.Prelude.{◌≡◌, ◌<◌, ℕ, List, [], ◌∷◌, ◌++◌, length, take, slice_get, All, AllPairs, Contains, Some}
use Rattle.nvm_script.specs.declared.script.Mode.TheVariants.{Run}
use Rattle.nvm_script.specs.Script.{IsScript}
use Rattle.script_walks.specs.Words.{Step, Store as StoreStep}
use Rattle.script_walks.specs.Walk.{stores_of, last_store}
use Rattle.script_walks.specs.Callers.{program_of, requests_of}
use Rattle.block_machine.specs.Words.{Configuration}
use Rattle.script_callers.specs.declared.program.Program.{Program}
use Rattle.script_callers.specs.Deeds.{requests_in, deeds_by, deeds_of, MayDo}
use Rattle.script_callers.specs.Programs.{program_by, programs_of}
use Rattle.script_callers.specs.RunScripts.{AreRun}

-- the steps of a script of `run`
abbrev pub ScriptsAreRun : Type 0
ScriptsAreRun = (c : Configuration) (n : ℕ) (lines : List (List ℕ)) (steps : List Step) → IsScript c Run n [] lines steps → AreRun c steps

-- what is asked in them are the requests of the steps
abbrev pub DeedsHaveTheRequests : Type 0
DeedsHaveTheRequests = (c : Configuration) (steps : List Step) → requests_in (deeds_of c steps) ≡ requests_of c steps

-- one step more
abbrev pub DeedsGrow : Type 0
DeedsGrow = (c : Configuration) (before : List Step) (x : Step) → deeds_of c (before ++ x ∷ []) ≡ deeds_of c before ++ deeds_by c before x.line x.caller x.kind

-- each may be done
abbrev pub DeedsMayBeDone : Type 0
DeedsMayBeDone = (c : Configuration) (steps : List Step) (caller : ℕ) → AreRun c steps → All (MayDo c) (deeds_of c (program_of caller steps))

-- each program is that of its caller, by number, and a caller that has none does nothing
pub record ArePrograms (c : Configuration) (steps : List Step) (programs : List Program) : Type 0 where
  pub each : All (λ p. p ≡ program_by c steps p.caller) programs
  pub apart : AllPairs (λ p q. p.caller < q.caller) programs
  pub others : (caller : ℕ) → ((p : Program) → Contains programs p → p.caller ≡ caller → ⊥) → deeds_of c (program_of caller steps) ≡ []

abbrev pub ProgramsAreApart : Type 0
ProgramsAreApart = (c : Configuration) (steps : List Step) → AreRun c steps → ArePrograms c steps (programs_of c steps)

-- the stores of a synchronized block are those of its owner's program, under the same numbers
abbrev pub StoresAreOfOne : Type 0
StoresAreOfOne =
    (c : Configuration) (steps : List Step) (place : ℕ) (x : Step) (block : ℕ) (content : List ℕ) → AreRun c steps → slice_get steps place ≡ Some x
    → x.kind ≡ StoreStep block content
    → (stores_of block (program_of x.caller steps) ≡ stores_of block steps)
    × (stores_of block (program_of x.caller (take place steps)) ≡ stores_of block (take place steps))

-- the last store of a caller is its program's newest one
abbrev pub LastStoresAreNewest : Type 0
LastStoresAreNewest = (caller block : ℕ) (steps : List Step) → last_store caller block (program_of caller steps) ≡ length (stores_of block (program_of caller steps))

-- What a history tells of callers that ran.
use Rattle.std.specs.Prelude.{◌⊎◌, ℕ, List, Option}
use Rattle.turn_gate.specs.declared.pass.View.{View}
use Rattle.turn_gate.specs.Entries.{AllAgree, AllHeard}
use Rattle.turn_gate.specs.Pass.{OwnsAll}
use Rattle.driver_moves.specs.block_machine.Words.{Entry, Configuration}
use Rattle.driver_moves.specs.nvm_moves.script_walks.Words.{Step}
use Rattle.driver_moves.specs.nvm_moves.script_walks.Callers.{IsInOrder, program_of}
use Rattle.driver_moves.specs.nvm_moves.script_walks.Runs.{AskedAll, HadNoRoom}
use Rattle.driver_moves.specs.nvm_shared.declared.terms.Terms.{Terms}
use Rattle.driver_moves.specs.nvm_shared.StatusWords.{gives}
use Rattle.script_callers.specs.Programs.{programs_of}
use Rattle.script_callers.specs.RunScripts.{AreRun}
use Rattle.nvm_callers.specs.Shares.{BeginsUnasked}
use Rattle.nvm_callers.specs.Stored.{Stored}
use Rattle.nvm_callers.specs.Callers.{HaveRun}
use Rattle.ram_mirrors_sync.specs.Blocks.{Pairs}
use Rattle.nvm_callers.specs.declared.ending.Ending.{Ending}
use Rattle.nvm_callers.specs.declared.ending.Ending.TheVariants.{All as EndsAll, NoRoom, Memory}

-- the list of a lock that was closed by this pass
pub record IsClosedBy (v : View Entry Terms) (h : List Entry) : Type 0 where
  pub all : OwnsAll v h
  pub agree : AllAgree gives h v.notes
  pub heard : AllHeard h v.heard

-- how callers ended who asked so: each for all of its requests; or one met a full history, and each other one too or it asked for all
abbrev pub EndSo : Configuration → (cap : ℕ) → List Step → List Entry → Ending → Type 0
EndSo c cap steps h EndsAll = (caller : ℕ) → AskedAll c steps h caller
EndSo c cap steps h NoRoom = (caller : ℕ) × HadNoRoom cap c steps h caller × ((other : ℕ) → AskedAll c steps h other ⊎ HadNoRoom cap c steps h other)
EndSo c cap steps h Memory = Unit {0}

-- Each caller kept to its steps, and they ended so.
pub record KeepSteps (c : Configuration) (cap : ℕ) (steps : List Step) (ending : Ending) (h : List Entry) : Type 0 where
  pub order : (caller : ℕ) → IsInOrder c caller (program_of caller steps) h
  pub ends : EndSo c cap steps h ending

-- so it is over any device
abbrev pub CallersKeepSteps : {S : Type 0} → (bytes : S → ℕ → Option ℕ) → (stored : S → ℕ → List Stored) → (mirrors : S → Pairs) → Type 0
CallersKeepSteps {S} bytes stored mirrors =
    (t : Terms) (steps : List Step) (firsts nows : List S) (ending : Ending) (v : View Entry Terms) (h : List Entry) → AreRun t.config steps
    → HaveRun bytes stored mirrors t (programs_of t.config steps) firsts nows ending v
    → IsClosedBy v h → BeginsUnasked h → KeepSteps t.config t.cap steps ending h

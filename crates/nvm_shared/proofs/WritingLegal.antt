-- Histories as they are written.
use Rattle.std.proofs.Common.{ℕ, Bool, true, List, [], ◌∷◌, ◌++◌, refl}
use Rattle.nvm_core.specs.block_machine.Words.{Entry, Ask, Pick, Wrote, Post, Off, Found, Configuration}
use Rattle.nvm_core.specs.block_machine.State.{State}
use Rattle.nvm_core.specs.block_machine.StartUp.{at_first}
use Rattle.nvm_core.specs.block_machine.Steps.{step, after}
use Rattle.nvm_core.specs.block_machine.Legal.{IsAllowed, IsLegal, IsLegalFrom}
use Rattle.nvm_shared.specs.Written.{IsWritten, AreWritten, HistoriesAreWrittenOn, RestsAreWritten, WrittenAreLegal, LegalAreWritten}

pub histories_are_written_on : HistoriesAreWrittenOn
histories_are_written_on tells c cap s [] e are is = (is, tt)
histories_are_written_on tells c cap s (x ∷ xs) e are is = (are.0, histories_are_written_on tells c cap (step c s x) xs e are.1 is)

pub rests_are_written : RestsAreWritten
rests_are_written tells c cap s [] more are = are
rests_are_written tells c cap s (x ∷ xs) more are = rests_are_written tells c cap (step c s x) xs more are.1

allowed : (c : Configuration) (cap : ℕ) (s : State) (e : Entry) → IsWritten true c cap s e → IsAllowed c cap s e
allowed c cap s (Ask caller r reply) is = is
allowed c cap s (Pick block kind t ops) is = is refl
allowed c cap s (Wrote i mark ops) is = is refl
allowed c cap s (Post block r given refused ops) is = is refl
allowed c cap s (Off ops) is = is refl
allowed c cap s (Found marks ops) is = is refl

legal_from : (c : Configuration) (cap : ℕ) (s : State) (h : List Entry) → AreWritten true c cap s h → IsLegalFrom c cap s h
legal_from c cap s [] are = tt
legal_from c cap s (e ∷ es) are = (allowed c cap s e are.0, legal_from c cap (step c s e) es are.1)

pub written_are_legal : WrittenAreLegal
written_are_legal c cap h are = legal_from c cap at_first h are

pub written_by : (tells : Bool) (c : Configuration) (cap : ℕ) (s : State) (e : Entry) → IsAllowed c cap s e → IsWritten tells c cap s e
written_by tells c cap s (Ask caller r reply) is = is
written_by tells c cap s (Pick block kind t ops) is = λ told. is
written_by tells c cap s (Wrote i mark ops) is = λ told. is
written_by tells c cap s (Post block r given refused ops) is = λ told. is
written_by tells c cap s (Off ops) is = λ told. is
written_by tells c cap s (Found marks ops) is = λ told. is

written_from : (tells : Bool) (c : Configuration) (cap : ℕ) (s : State) (h : List Entry) → IsLegalFrom c cap s h → AreWritten tells c cap s h
written_from tells c cap s [] are = tt
written_from tells c cap s (e ∷ es) are = (written_by tells c cap s e are.0, written_from tells c cap (step c s e) es are.1)

pub legal_are_written : LegalAreWritten
legal_are_written tells c cap h are = written_from tells c cap at_first h are

-- the last entry of a legal history is allowed by the state before it
pub allowed_behind : (c : Configuration) (cap : ℕ) (h : List Entry) (e : Entry) → IsLegal c cap (h ++ e ∷ []) → IsAllowed c cap (after c h) e
allowed_behind c cap h e legal = allowed c cap (after c h) e (rests_are_written true c cap at_first h (e ∷ []) (written_from true c cap at_first (h ++ e ∷ []) legal)).0

-- The requests of a caller, by the numbers of their entries.
use Rattle.std.specs.Prelude.{◌≡◌, ℕ, List, [], ◌∷◌}
use mathlib.Core.Option.{some}
use lib.ListN.{get_elem?}
use Rattle.nvm_core.specs.block_machine.Words.{Request, Reply, Entry, Ask}
use Rattle.nvm_core.specs.block_laws.Consistent.{Ascend}
use Rattle.turn_gate.specs.Pass.{Has}
use Rattle.script_walks.specs.Callers.{asks_of}

-- entry n of a list
abbrev pub IsEntry : List Entry → ℕ → Entry → Type 0
IsEntry h n e = get_elem? h n ≡ some e

-- each of these entries is the caller's request
abbrev pub AreAt : List Entry → ℕ → List ℕ → List Request → Type 0
AreAt h caller [] [] = Unit {0}
AreAt h caller (k ∷ ks) (r ∷ rs) = ((reply : Reply) × IsEntry h k (Ask caller r reply)) × AreAt h caller ks rs
AreAt h caller ks rs = ⊥

-- each request of the caller is one of these entries
abbrev pub AreAll : List Entry → ℕ → List ℕ → Type 0
AreAll h caller ks = (k : ℕ) (r : Request) (reply : Reply) → IsEntry h k (Ask caller r reply) → Has ks k

-- these entries, ascending, are the requests of the caller
pub record AreTheAsks (h : List Entry) (caller : ℕ) (ks : List ℕ) (rs : List Request) : Type 0 where
  pub ascend : Ascend ks
  pub at : AreAt h caller ks rs
  pub all : AreAll h caller ks

-- then the caller asked for just that, in that order
abbrev pub AsksByNumber : Type 0
AsksByNumber = (h : List Entry) (caller : ℕ) (ks : List ℕ) (rs : List Request) → AreTheAsks h caller ks rs → asks_of caller h ≡ rs

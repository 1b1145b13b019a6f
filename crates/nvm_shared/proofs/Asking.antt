-- What a call under the lock tells its pass.
use Rattle.std.proofs.Common.{◌≡◌, ℕ, List, [], ◌∷◌, ◌++◌, length, sym, ap, ◌∙◌, append_assoc}
use Rattle.turn_gate.specs.declared.pass.View.{View}
use Rattle.turn_gate.specs.Entries.{StartsWith, AllAgree}
use Rattle.turn_gate.specs.Pass.{IsKin, grown, went_out}
use Rattle.nvm_core.specs.block_machine.Words.{Entry}
use Rattle.nvm_shared.specs.StatusWords.{gives}
use Rattle.nvm_shared.specs.declared.terms.Terms.{Terms}
use Rattle.nvm_shared.specs.Passes.{Asked}

abbrev pub V : Type 0
V = View Entry Terms

pub starts_on : (log seen : List Entry) (e : Entry) → StartsWith log seen → StartsWith (log ++ e ∷ []) seen
starts_on log seen e (rest, is) = (rest ++ e ∷ [], ap (λ (l : List Entry). l ++ e ∷ []) is ∙ append_assoc seen rest (e ∷ []))

module _ (v u w : V) (log : List Entry) (seen : u.seen ≡ log) (starts : StartsWith log v.seen) (agree : AllAgree gives log v.notes) (kin : IsKin v u) where
  pub asked_by : (log_new : List Entry) (e : Entry) (n : ℕ) → log_new ≡ log ++ e ∷ [] → n ≡ length log → (log_new ≡ u.seen ++ e ∷ [] → w ≡ went_out (grown u log_new)) → Asked v w n e
  asked_by log_new e n adds count left =
      let is = left (adds ∙ ap (λ (l : List Entry). l ++ e ∷ []) (sym seen)) in record {
        before = log;
        seen = ap (λ (z : V). z.seen) is ∙ adds;
        number = count;
        starts = starts;
        agree = agree;
        own = ap (λ (z : V). z.own) is ∙ ap (λ (l : List ℕ). l ++ length u.seen ∷ []) kin.1 ∙ ap (λ (k : ℕ). v.own ++ k ∷ []) (ap length seen ∙ sym count);
      }

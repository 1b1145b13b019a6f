-- How a pass leaves the lock.
use Rattle.std.proofs.Common.{◌≡◌, ◌⊎◌, inl, inr, ℕ, ◌<◌, List, [], ◌∷◌, ◌++◌, length, Option, Some, None, sym, ap, ◌∙◌}
use Rattle.turn_gate.specs.declared.pass.View.{View}
use Rattle.turn_gate.specs.Entries.{OnlyGives, GivesNone}
use Rattle.turn_gate.specs.Pass.{AddsOne}
use Rattle.nvm_core.specs.block_machine.Words.{Entry}
use Rattle.nvm_shared.specs.StatusWords.{gives, is_ask, told_by, word_count}
use Rattle.nvm_shared.specs.declared.terms.Terms.{Terms}
use Rattle.nvm_shared.specs.Locked.{LockedState}
use Rattle.nvm_shared.specs.Passes.{IsExtended}
use Rattle.nvm_shared.proofs.WordsTold.{entries_change_one_word}

-- what a look at the entry behind those that were seen told
pub record Looked (log : List Entry) (seen : ℕ) (told : Option (ℕ × ℕ)) : Type 0 where
  pub none : length log ≡ seen → told ≡ None
  pub some : (h : List Entry) (e : Entry) → log ≡ h ++ e ∷ [] → length h ≡ seen → told ≡ told_by e

module _ (v : View Entry Terms) (x : LockedState) (seen : ℕ) (count : seen ≡ length v.seen) where
  pub adds_word : (told : Option (ℕ × ℕ)) (word status : ℕ) → IsExtended v x.desk.entries → Looked x.desk.entries seen told → told ≡ Some (word, status)
      → AddsOne (λ (l : LockedState). l.desk.entries) is_ask v x (OnlyGives gives word status) × (word < word_count)
  adds_word told word status (inl same) looked is = let none : told ≡ None = looked.none (ap length same ∙ sym count) in cc
  adds_word told word status (inr (e, adds, open_now, no_start)) looked is =
      let one = (entries_change_one_word e no_start).one word status (sym (looked.some v.seen e adds (sym count)) ∙ is) in ((e, adds, open_now, one.0), one.1)

  pub adds_none : (told : Option (ℕ × ℕ)) → IsExtended v x.desk.entries → Looked x.desk.entries seen told → told ≡ None
      → (x.desk.entries ≡ v.seen) ⊎ AddsOne (λ (l : LockedState). l.desk.entries) is_ask v x (GivesNone gives)
  adds_none told (inl same) looked is = inl same
  adds_none told (inr (e, adds, open_now, no_start)) looked is = inr (e, adds, open_now, (entries_change_one_word e no_start).none (sym (looked.some v.seen e adds (sym count)) ∙ is))

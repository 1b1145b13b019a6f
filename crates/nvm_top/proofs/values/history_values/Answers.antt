use Rattle.std.proofs.Common.{◌≡◌, ◌+◌, ℕ, List, [], ◌∷◌, ◌++◌, slice_get, take, Some, arith}
use Rattle.std.proofs.lemmas.List.{take_more}
use Rattle.std.proofs.lemmas.Option.{slice_get_within, get_or_from_slice_get}
use Rattle.nvm_flash.specs.block_machine.Words.{Entry}
use Rattle.nvm_script.specs.Values.{IsEntryValue}
use Rattle.script_player.specs.script_walks.Texts.{AreValues}
use Rattle.nvm_top.proofs.values.history_values.Goals as goal
use Rattle.nvm_top.proofs.values.history_values.Goals.{in-Some, in_default}

values-append : (es : List Entry) (e : Entry) → AreValues es → IsEntryValue e → AreValues (es ++ e ∷ [])
values-append [] e are value = (value, tt)
values-append (x ∷ es) e are value = (are.0, values-append es e are.1 value)

values_more : (es : List Entry) (i : ℕ) (e : Entry) → slice_get es i ≡ Some e → AreValues (take i es) → IsEntryValue e → AreValues (take (i + 1) es)
values_more es i e at_i are value = rw (take_more es i e (slice_get_within es i e at_i), get_or_from_slice_get es i e e at_i) (values-append (take i es) e are value)

pub loop-i-preserved : goal.loop-i-preserved
loop-i-preserved c = elim c.match-entry.branch [
  | in-Some w ↦ values_more c.args.history.now.entries c.loop-i.i w.in-Some.entry.now w.in-Some.ensures c.loop-i.invariant w.entry_value.ensures
  | in_default w ↦ absurd (omega arith)
]

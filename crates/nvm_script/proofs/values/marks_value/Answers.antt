use Rattle.std.proofs.Common.{◌≡◌, ◌+◌, ℕ, List, [], ◌∷◌, ◌++◌, slice_get, take, Some, arith}
use Rattle.std.proofs.lemmas.List.{take_more}
use Rattle.std.proofs.lemmas.Option.{slice_get_within, get_or_from_slice_get}
use Rattle.nv_base.specs.declared.instance.Instance.{Instance}
use Rattle.nv_base.specs.declared.mark.Mark.{Mark}
use Rattle.nvm_script.specs.Values.{AreMarkValues, IsInstanceValue, IsMarkValue}
use Rattle.nvm_script.proofs.values.marks_value.Goals as goal
use Rattle.nvm_script.proofs.values.marks_value.Goals.{in-Some, in_default}

values-append : (xs : List (Instance × Mark)) (x : Instance × Mark) → AreMarkValues xs → IsInstanceValue x.0 → IsMarkValue x.1 → AreMarkValues (xs ++ x ∷ [])
values-append [] x are instance mark = (instance, mark, tt)
values-append (y ∷ xs) x are instance mark = (are.0, are.1, values-append xs x are.2 instance mark)

values_more : (xs : List (Instance × Mark)) (i : ℕ) (x : Instance × Mark) → slice_get xs i ≡ Some x → AreMarkValues (take i xs) → IsInstanceValue x.0 → IsMarkValue x.1 → AreMarkValues (take (i + 1) xs)
values_more xs i x at_i are instance mark =
    rw (take_more xs i x (slice_get_within xs i x at_i), get_or_from_slice_get xs i x x at_i) (values-append (take i xs) x are instance mark)

pub loop-i-preserved : goal.loop-i-preserved
loop-i-preserved c = elim c.match-get.branch [
  | in-Some w ↦ values_more c.args.marks.now c.loop-i.i (w.in-Some.instance, w.in-Some.mark.now) w.in-Some.ensures c.loop-i.invariant w.instance_value.ensures w.mark_value.ensures
  | in_default w ↦ absurd (omega arith)
]

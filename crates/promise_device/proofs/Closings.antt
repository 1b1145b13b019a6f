-- Programs that failed since the last erase.
use Rattle.std.specs.Prelude.{◌&&◌, ◌||◌}
use Rattle.std.proofs.Common.{◌⊎◌, inl, inr, Bool, true, false, IsTrue, List, [], ◌∷◌, refl}
use Rattle.std.proofs.lemmas.Bool.{false≢true}
use Rattle.fls_model.specs.Told.{Change}
use Rattle.promise_device.specs.Bridge.{is_program, is_failed, has_failed, failed_from}
use Rattle.promise_device.specs.Laws.{ClosingsFailed}

or_left : (a b : Bool) → IsTrue a → IsTrue (a || b)
or_left true b is = refl
or_left false b is = cc is

or_right : (a b : Bool) → IsTrue b → IsTrue (a || b)
or_right true b is = refl
or_right false b is = is

or_by : (before now program : Bool) → IsTrue (program && (before || now)) → IsTrue before ⊎ IsTrue now
or_by true now program is = inl refl
or_by false now true is = inr is
or_by false now false is = cc is

failed_once : (before : Bool) (xs : List Change) → IsTrue (failed_from before xs) → IsTrue before ⊎ IsTrue (has_failed xs)
failed_once before [] is = inl is
failed_once before (x ∷ xs) is = elim (failed_once (is_program x.op && (before || is_failed x.answer)) xs is) [
  | inl now ↦ elim (or_by before (is_failed x.answer) (is_program x.op) now) [ inl was ↦ inl was | inr failed ↦ inr (or_left (is_failed x.answer) (has_failed xs) failed) ]
  | inr failed ↦ inr (or_right (is_failed x.answer) (has_failed xs) failed)
]

pub closings_failed : ClosingsFailed
closings_failed operations is = elim (failed_once false operations is) [ inl never ↦ absurd (false≢true never) | inr failed ↦ failed ]

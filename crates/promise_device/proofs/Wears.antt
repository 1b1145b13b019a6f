-- Operations that are due, and those that came before them.
use Rattle.std.specs.Prelude.{◌&&◌, ◌||◌, ◌==◌, not, if◌then◌else◌}
use Rattle.std.specs.Option.{option_map_or}
use Rattle.std.proofs.Common.{◌≡◌, ◌⊎◌, inl, inr, ◌-◌, ◌++◌, ℕ, Bool, true, false, IsTrue, List, [], ◌∷◌, Option, Some, None, refl, sym, ap, ◌∙◌, subst, arith}
use Rattle.std.proofs.lemmas.List.{append_assoc, append-nil}
use Rattle.nv_base.specs.Geometry.{pages_of_bank}
use Rattle.nv_base.specs.declared.geometry.Geometry.{Geometry}
use Rattle.fls_model.specs.declared.flash.FlashAnswer.TheVariants.{Failed}
use Rattle.fls_model.specs.Op.{Op, Program, Erase}
use Rattle.fls_model.specs.Told.{Change}
use Rattle.fee_format.specs.declared.bank_head.BankHead.{BankHead}
use Rattle.fee_format.specs.BankHead.{last_generation}
use Rattle.fee_format.specs.Formats.{new_format}
use Rattle.fee_format.proofs.Tests.{eq_is, bytes_are}
use Rattle.fee_image.specs.Image.{bank_in, active_of}
use Rattle.promise_device.specs.Making.{banks_of}
use Rattle.promise_device.specs.Image.{lacks_pages}
use Rattle.promise_device.specs.Bridge.{is_program, is_failed}
use Rattle.promise_device.specs.Wear.{bank_of_op, last_in, failed_in, same_op, repeats, is_repeated, most_wanted, most_copied, bank_behind, may_leave, is_due, are_due}
use Rattle.promise_device.specs.Laws.{LatestIs, LastsGoOn, FailuresGoOn, FailedAreRepeated, MayErases, RoomsCompute, DueGoOn}
use Rattle.promise_device.proofs.Readings.{lacks_is}

-- TESTS
pub denied : (b : Bool) → (IsTrue b → ⊥) → IsTrue (not b)
denied true never = absurd (never refl)
denied false never = refl

pub unlike : (n k : ℕ) → (n ≡ k → ⊥) → IsTrue (not (n == k))
unlike n k never = denied (n == k) (λ e. never ((eq_is n k).0 e))

pub all_two : (a b : Bool) → IsTrue a → IsTrue b → IsTrue (a && b)
all_two true b is holds = holds
all_two false b is holds = cc is

pub one_of : (a b : Bool) → IsTrue a ⊎ IsTrue b → IsTrue (a || b)
one_of true b is = refl
one_of false b (inl is) = cc is
one_of false b (inr is) = is

pub first_of : (a b : Bool) → IsTrue (a && b) → IsTrue a
first_of true b is = refl
first_of false b is = cc is

pub second_of : (a b : Bool) → IsTrue (a && b) → IsTrue b
second_of true b is = is
second_of false b is = cc is

-- OPERATIONS BEFORE
pub lasts_go_on : LastsGoOn
lasts_go_on g banks k last [] x = refl
lasts_go_on g banks k last (y ∷ ys) x = lasts_go_on g banks k (if bank_of_op g banks y.op == k then Some y else last) ys x

pub failures_go_on : FailuresGoOn
failures_go_on g banks k failed [] x = refl
failures_go_on g banks k failed (y ∷ ys) x = failures_go_on g banks k (if bank_of_op g banks y.op == k then is_program y.op && (failed || is_failed y.answer) else failed) ys x

-- the last one in its own bank
pub last_here : (g : Geometry) (banks : ℕ) (xs : List Change) (x : Change) → last_in g banks (bank_of_op g banks x.op) None (xs ++ x ∷ []) ≡ Some x
last_here g banks xs x =
    let k = bank_of_op g banks x.op in
    lasts_go_on g banks k None xs x ∙ ap (λ (b : Bool). if b then Some x else last_in g banks k None xs) ((eq_is k k).1 refl)

pub same_once : (op : Op) → IsTrue (same_op op op)
same_once (Program a page) = all_two (a == a) _ ((eq_is a a).1 refl) ((bytes_are page page).1 refl)
same_once (Erase a n) = all_two (a == a) (n == n) ((eq_is a a).1 refl) ((eq_is n n).1 refl)

repeats_last : (g : Geometry) (banks : ℕ) (xs : List Change) (x : Change) → x.answer ≡ Failed → IsTrue (is_repeated g banks (xs ++ x ∷ []) x.op)
repeats_last g banks xs x failed =
    subst (λ (o : Option Change). IsTrue (option_map_or (repeats x.op) o false)) (sym (last_here g banks xs x))
    (all_two (is_failed x.answer) (same_op x.op x.op) (ap is_failed failed) (same_once x.op))

pub failed_are_repeated : FailedAreRepeated
failed_are_repeated g banks xs x op is failed = subst (λ (y : Op). IsTrue (is_repeated g banks (xs ++ x ∷ []) y)) is (repeats_last g banks xs x failed)

pub latest_is : LatestIs
latest_is last [] x = refl
latest_is last (y ∷ ys) x = latest_is (Some y) ys x

-- ERASES
pub may_erases : MayErases
may_erases m earlier t image next (inl none) =
    all_two (t == bank_behind m.banks (active_of (banks_of m) image)) _ ((eq_is _ _).1 next)
    (subst (λ (o : Option (ℕ × BankHead)). IsTrue (option_map_or (may_leave m earlier image) o true)) (sym none) refl)
may_erases m earlier t image next (inr (k, h, at, fresh, why)) =
    let b = bank_in (banks_of m) h.format k in
    let failed = failed_in m.geometry m.banks k false earlier in
    let lacks : IsTrue failed ⊎ IsTrue (lacks_pages (most_wanted m) b image) = elim why [ inl is ↦ inl is | inr few ↦ inr ((lacks_is (most_wanted m) image b).1 few) ] in
    all_two (t == bank_behind m.banks (active_of (banks_of m) image)) _ ((eq_is _ _).1 next)
    (subst (λ (o : Option (ℕ × BankHead)). IsTrue (option_map_or (may_leave m earlier image) o true)) (sym at)
    (all_two (not (h.generation == last_generation)) (failed || lacks_pages (most_wanted m) b image) (unlike h.generation last_generation fresh) (one_of failed (lacks_pages (most_wanted m) b image) lacks)))

-- GATES
pub rooms_compute : RoomsCompute
rooms_compute m k image wide inside few =
    let b = bank_in (banks_of m) new_format k in
    let pages = pages_of_bank m.geometry m.banks - most_copied m in
    denied (lacks_pages pages b image) (λ lacks. elim ((lacks_is pages image b).0 lacks) [ inl closed ↦ wide closed | inr more ↦ absurd (omega (arith, inside, few, more)) ])

-- ALL OPERATIONS
pub due_go_on : DueGoOn
due_go_on m earlier [] x due is = all_two (is_due m earlier x) true (subst (λ (ys : List Change). IsTrue (is_due m ys x)) (append-nil earlier) is) refl
due_go_on m earlier (y ∷ ys) x due is =
    let first = is_due m earlier y in
    let later = are_due m (earlier ++ y ∷ []) ys in
    all_two first (are_due m (earlier ++ y ∷ []) (ys ++ x ∷ [])) (first_of first later due)
    (due_go_on m (earlier ++ y ∷ []) ys x (second_of first later due) (subst (λ (zs : List Change). IsTrue (is_due m zs x)) (sym (append_assoc earlier (y ∷ []) ys)) is))

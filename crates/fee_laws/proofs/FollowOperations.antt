-- Operations, and the bank of each.
use Rattle.std.specs.Prelude.{IsTrue, ◌&&◌, ◌||◌, ◌==◌, if◌then◌else◌}
use Rattle.std.specs.Option.{option_map_or}
use Rattle.std.proofs.Common.{◌≡◌, inl, ◌<◌, ◌+◌, ◌-◌, ◌*◌, ◌/◌, ◌++◌, ◌∷◌, ℕ, suc, Bool, true, false, List, [], Option, Some, None, refl, sym, ap, ◌∙◌, subst, arith}
use Rattle.nv_base.specs.Geometry.{pages_of_bank, sectors_of_bank, size_of_bank, address_of_page}
use Rattle.nv_base.specs.declared.geometry.Geometry.{Geometry}
use Rattle.fls_model.specs.declared.flash.FlashAnswer.TheVariants.{Done, Failed}
use Rattle.fls_model.specs.Op.{Op}
use Rattle.fls_model.specs.Step.{programs}
use Rattle.fls_model.specs.Told.{Change}
use Rattle.fee_format.specs.Pages.{page_at, blank_page}
use Rattle.fee_format.proofs.Tests.{eq_is, bytes_are}
use Rattle.fee_image.specs.BankLaws.{erase_of}
use Rattle.fee_image.specs.Laws.{place_of_sector}
use Rattle.promise_device.specs.Bridge.{is_program, is_failed, failed_from}
use Rattle.promise_device.specs.Traits.{is_done}
use Rattle.promise_device.specs.Wear.{bank_of_op, last_in, failed_in, same_op, repeats, erases_before, leads_to, is_in_order, finds_blank, programs_at, leads_to_gate, comes_behind}
use Rattle.promise_device.proofs.Wears.{all_two, one_of, same_once, latest_is, last_here, failures_go_on, failed_are_repeated}
use Rattle.promise_device.proofs.Places.{page_number, bank_of_erase}

-- TESTS
pub unlike : (a b : ℕ) → (a ≡ b → ⊥) → (a == b) ≡ false
unlike a b never = by (a == b) (λ e. never ((eq_is a b).0 e))
  where
    by : (t : Bool) → (IsTrue t → ⊥) → t ≡ false
    by true never' = absurd (never' refl)
    by false never' = refl

or_right : (a b : Bool) → IsTrue b → IsTrue (a || b)
or_right true b is = refl
or_right false b is = is

-- THE BANK
-- a program's page is blank where the bank's page is
pub page_is_blank : (g : Geometry) (banks k q : ℕ) (bytes : List ℕ) → 0 < g.page → page_at g.page bytes (k * pages_of_bank g banks + q) ≡ blank_page g.page → IsTrue (finds_blank g.page (address_of_page g banks k q) bytes)
page_is_blank g banks k q bytes some blank = (bytes_are _ _).1 (ap (page_at g.page bytes) (page_number g banks k q some) ∙ blank)

-- OPERATIONS OF OTHER BANKS
-- all of these change bank t
abbrev pub AreOf : Geometry → (banks t : ℕ) → List Change → Type 0
AreOf g banks t [] = Unit {0}
AreOf g banks t (x ∷ xs) = (bank_of_op g banks x.op ≡ t) × AreOf g banks t xs

module _ (g : Geometry) (banks k t : ℕ) (differs : t ≡ k → ⊥) where
  elsewhere : (x : Change) → bank_of_op g banks x.op ≡ t → (bank_of_op g banks x.op == k) ≡ false
  elsewhere x of = unlike (bank_of_op g banks x.op) k (λ same. differs (sym of ∙ same))

  none_failed : (failed : Bool) (more : List Change) → AreOf g banks t more → failed_in g banks k failed more ≡ failed
  none_failed failed [] of = refl
  none_failed failed (x ∷ more) of =
      ap (λ (b : Bool). failed_in g banks k (if b then is_program x.op && (failed || is_failed x.answer) else failed) more) (elsewhere x of.0) ∙ none_failed failed more of.1

  -- what failed in bank k is as it was
  pub failed_behind : (failed : Bool) (xs more : List Change) → AreOf g banks t more → failed_in g banks k failed (xs ++ more) ≡ failed_in g banks k failed xs
  failed_behind failed [] more of = none_failed failed more of
  failed_behind failed (y ∷ ys) more of = failed_behind (if bank_of_op g banks y.op == k then is_program y.op && (failed || is_failed y.answer) else failed) ys more of

  none_last : (last : Option Change) (more : List Change) → AreOf g banks t more → last_in g banks k last more ≡ last
  none_last last [] of = refl
  none_last last (x ∷ more) of = ap (λ (b : Bool). last_in g banks k (if b then Some x else last) more) (elsewhere x of.0) ∙ none_last last more of.1

  -- and so is its last operation
  pub last_behind : (last : Option Change) (xs more : List Change) → AreOf g banks t more → last_in g banks k last (xs ++ more) ≡ last_in g banks k last xs
  last_behind last [] more of = none_last last more of
  last_behind last (y ∷ ys) more of = last_behind (if bank_of_op g banks y.op == k then Some y else last) ys more of

-- so the next erase stays so
pub order_behind : (g : Geometry) (banks t k n : ℕ) (xs more : List Change) → (t ≡ bank_of_op g banks (erase_of g banks k n) → ⊥) → AreOf g banks t more → IsTrue (is_in_order g banks xs (place_of_sector g banks k n) g.sector) → IsTrue (is_in_order g banks (xs ++ more) (place_of_sector g banks k n) g.sector)
order_behind g banks t k n xs more differs of is =
    let address = place_of_sector g banks k n in
    subst (λ (o : Option Change). IsTrue ((address == address / g.sector / sectors_of_bank g banks * size_of_bank g banks) || (option_map_or (leads_to (place_of_sector g banks k n)) o false || option_map_or (repeats (erase_of g banks k n)) o false)))
    (sym (last_behind g banks (bank_of_op g banks (erase_of g banks k n)) t differs None xs more of)) is

-- THE LAST OPERATION
and_both : (a b : Bool) → a ≡ true → b ≡ true → a && b ≡ true
and_both true b is holds = holds
and_both false b is holds = cc is

-- a program that failed last may have closed its bank
pub failed_last : (before : Bool) (xs : List Change) (x : Change) → is_program x.op ≡ true → x.answer ≡ Failed → IsTrue (failed_from before (xs ++ x ∷ []))
failed_last before [] x program is = and_both (is_program x.op) (before || is_failed x.answer) program (or_right before (is_failed x.answer) (ap is_failed is))
failed_last before (y ∷ ys) x program is = failed_last (is_program y.op && (before || is_failed y.answer)) ys x program is

pub failed_here : (g : Geometry) (banks k : ℕ) (xs : List Change) (x : Change) → bank_of_op g banks x.op ≡ k → is_program x.op ≡ true → x.answer ≡ Failed → IsTrue (failed_in g banks k false (xs ++ x ∷ []))
failed_here g banks k xs x of program is =
    let before = failed_in g banks k false xs in
    let now = is_program x.op && (before || is_failed x.answer) in
    subst (λ (b : Bool). IsTrue b) (sym (failures_go_on g banks k false xs x ∙ ap (λ (b : Bool). if b then now else before) ((eq_is (bank_of_op g banks x.op) k).1 of)))
    (and_both (is_program x.op) (before || is_failed x.answer) program (or_right before (is_failed x.answer) (ap is_failed is)))

-- and so may one that failed before a program
pub failed_once : (before : Bool) (xs : List Change) (x : Change) → is_program x.op ≡ true → IsTrue (failed_from before xs) → IsTrue (failed_from before (xs ++ x ∷ []))
failed_once before [] x program is = and_both (is_program x.op) (before || is_failed x.answer) program (one_of before (is_failed x.answer) (inl is))
failed_once before (y ∷ ys) x program is = failed_once (is_program y.op && (before || is_failed y.answer)) ys x program is

pub failed_on : (g : Geometry) (banks k : ℕ) (xs : List Change) (x : Change) → bank_of_op g banks x.op ≡ k → is_program x.op ≡ true → IsTrue (failed_in g banks k false xs) → IsTrue (failed_in g banks k false (xs ++ x ∷ []))
failed_on g banks k xs x of program is =
    let before = failed_in g banks k false xs in
    let now = is_program x.op && (before || is_failed x.answer) in
    subst (λ (b : Bool). IsTrue b) (sym (failures_go_on g banks k false xs x ∙ ap (λ (b : Bool). if b then now else before) ((eq_is (bank_of_op g banks x.op) k).1 of)))
    (and_both (is_program x.op) (before || is_failed x.answer) program (one_of before (is_failed x.answer) (inl is)))

-- behind an erase that is done the next sector comes
ends : (k sectors n sector : ℕ) → (k * sectors + n) * sector + sector ≡ (k * sectors + suc n) * sector
ends k sectors n sector = omega arith

pub next_in_order : (g : Geometry) (banks k n : ℕ) (xs : List Change) (x : Change) → 0 < g.sector → suc n < sectors_of_bank g banks → x.op ≡ erase_of g banks k n → x.answer ≡ Done
    → IsTrue (is_in_order g banks (xs ++ x ∷ []) (place_of_sector g banks k (suc n)) g.sector)
next_in_order g banks k n xs x some inside op done =
    let address = place_of_sector g banks k (suc n) in
    let here : bank_of_op g banks x.op ≡ bank_of_op g banks (erase_of g banks k (suc n)) =
    ap (bank_of_op g banks) op ∙ bank_of_erase g banks k n some (omega (arith, inside)) ∙ sym (bank_of_erase g banks k (suc n) some inside) in
    let last : last_in g banks (bank_of_op g banks (erase_of g banks k (suc n))) None (xs ++ x ∷ []) ≡ Some x = subst (λ (b : ℕ). last_in g banks b None (xs ++ x ∷ []) ≡ Some x) here (last_here g banks xs x) in
    let leads : IsTrue (leads_to address x) = all_two (is_done x.answer) _ (ap is_done done) (subst (λ (o : Op). IsTrue (erases_before address o)) (sym op) ((eq_is _ _).1 (ends k (sectors_of_bank g banks) n g.sector))) in
    or_right _ _ (one_of _ _ (inl (subst (λ (o : Option Change). IsTrue (option_map_or (leads_to address) o false)) (sym last) leads)))

-- THE GATE
-- behind the head, which was done
before : (n p : ℕ) → (n + 0) * p ≡ (n + 1) * p - p
before n p = omega arith

pub gate_behind_head : (g : Geometry) (banks k : ℕ) (head gate : List ℕ) (xs : List Change) (x : Change) → x.op ≡ programs (address_of_page g banks k 0) head → x.answer ≡ Done
    → IsTrue (comes_behind g (programs (address_of_page g banks k 1) gate) (xs ++ x ∷ []))
gate_behind_head g banks k head gate xs x op done =
    let address = address_of_page g banks k 1 in
    let place : address_of_page g banks k 0 ≡ address - g.page = before (k * pages_of_bank g banks) g.page in
    let at : IsTrue (programs_at (address - g.page) x.op) = subst (λ (o : Op). IsTrue (programs_at (address - g.page) o)) (sym op) ((eq_is _ _).1 place) in
    subst (λ (o : Option Change). IsTrue (option_map_or (leads_to_gate g (programs address gate)) o false)) (sym (latest_is None xs x))
    (one_of (is_done x.answer && programs_at (address - g.page) x.op) _ (inl (all_two (is_done x.answer) _ (ap is_done done) at)))

-- and behind itself, which failed
pub gate_behind_gate : (g : Geometry) (address : ℕ) (gate : List ℕ) (xs : List Change) (x : Change) → x.op ≡ programs address gate → x.answer ≡ Failed → IsTrue (comes_behind g (programs address gate) (xs ++ x ∷ []))
gate_behind_gate g address gate xs x op failed =
    let same : IsTrue (same_op (programs address gate) x.op) = subst (λ (o : Op). IsTrue (same_op (programs address gate) o)) (sym op) (same_once (programs address gate)) in
    subst (λ (o : Option Change). IsTrue (option_map_or (leads_to_gate g (programs address gate)) o false)) (sym (latest_is None xs x))
    (or_right (is_done x.answer && programs_at (address - g.page) x.op) _ (all_two (is_failed x.answer) _ (ap is_failed failed) same))

-- and behind one that failed the same one
pub same_in_order : (g : Geometry) (banks k n : ℕ) (xs : List Change) (x : Change) → x.op ≡ erase_of g banks k n → x.answer ≡ Failed → IsTrue (is_in_order g banks (xs ++ x ∷ []) (place_of_sector g banks k n) g.sector)
same_in_order g banks k n xs x op failed = or_right _ _ (or_right _ _ (failed_are_repeated g banks xs x (erase_of g banks k n) op failed))

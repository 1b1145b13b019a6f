-- No sector of a bank is erased more often than the one before it, and so than the first.
use Rattle.std.specs.Prelude.{◌&&◌, ◌||◌, ◌==◌, nat_lt, if◌then◌else◌, count_by}
use Rattle.std.specs.Option.{option_map_or}
use Rattle.std.proofs.Common.{◌≡◌, ◌⊎◌, inl, inr, ◌<◌, ◌≤◌, ◌+◌, ◌*◌, ◌/◌, ◌%◌, ◌++◌, ℕ, zero, suc, Bool, true, false, IsTrue, List, [], ◌∷◌, Option, Some, None, refl, sym, ap, ◌∙◌, subst, arith}
use Rattle.std.proofs.lemmas.Nat.{div-mul-add}
use Rattle.std.proofs.lemmas.List.Sums.{sum_by-cons}
use Rattle.block_machine.specs.nv_base.Geometry.{sectors_of_bank, size_of_bank}
use Rattle.block_machine.specs.nv_base.declared.geometry.Geometry.{Geometry}
use Rattle.fls_model.specs.declared.flash.FlashAnswer.{FlashAnswer}
use Rattle.fls_model.specs.declared.flash.FlashAnswer.TheVariants.{Done, Failed, Off}
use Rattle.fls_model.specs.Op.{Op, Program, Erase}
use Rattle.fls_model.specs.Told.{Change}
use Rattle.fee_format.proofs.Tests.{eq_is}
use Rattle.fee_image.specs.Laws.{place_of_sector}
use Rattle.promise_device.specs.Making.{Making}
use Rattle.promise_device.specs.Bridge.{is_failed}
use Rattle.promise_device.specs.Traits.{is_done}
use Rattle.promise_device.specs.Wear.{bank_of_op, last_in, same_op, repeats, erases_before, leads_to, is_in_order, may_erase, is_whole, has_place, is_due_there, is_due_by, is_due, are_due}
use Rattle.promise_device.proofs.Wears.{first_of, second_of, lasts_go_on}
use Rattle.promise_run.specs.SectorErases.{erases_at, is_erase_done, erases_done, FirstSectorsLead}

-- TESTS
either : (a b : Bool) → IsTrue (a || b) → IsTrue a ⊎ IsTrue b
either true b is = inl refl
either false b is = inr is

test : (b : Bool) → (b ≡ true) ⊎ (b ≡ false)
test true = inl refl
test false = inr refl

abbrev one_if : Bool → ℕ
one_if t = if t then 1 else 0

counts : (p : Change → Bool) (x : Change) (xs : List Change) → count_by p (x ∷ xs) ≡ one_if (p x) + count_by p xs
counts p x xs = sum_by-cons (λ (y : Change). one_if (p y)) x xs

-- PLACES
module _ (m : Making) (k n : ℕ) (some : 0 < m.geometry.sector) (inside : suc n < sectors_of_bank m.geometry m.banks) where
  abbrev g : Geometry
  g = m.geometry

  abbrev s : ℕ
  s = g.sector

  -- a sector, and the one behind it
  abbrev a : ℕ
  a = place_of_sector g m.banks k n

  abbrev b : ℕ
  b = place_of_sector g m.banks k (suc n)

  next : a + s ≡ b
  next = by (k * sectors_of_bank g m.banks) s
    where
      by : (x s : ℕ) → (x + n) * s + s ≡ (x + suc n) * s
      by x s = omega arith

  bank_at : (i : ℕ) → i < sectors_of_bank g m.banks → place_of_sector g m.banks k i / s / sectors_of_bank g m.banks ≡ k
  bank_at i low =
      let x = k * sectors_of_bank g m.banks + i in
      let none : x * s ≡ x * s + 0 = omega arith in
      ap (λ (y : ℕ). y / s / sectors_of_bank g m.banks) none ∙ ap (λ (y : ℕ). y / sectors_of_bank g m.banks) (div-mul-add x s 0 some) ∙ div-mul-add k (sectors_of_bank g m.banks) i low

  -- it isn't the first one
  not_first : b ≡ k * size_of_bank g m.banks → ⊥
  not_first same = by k (sectors_of_bank g m.banks) s some same
    where
      by : (k S s : ℕ) → 0 < s → (k * S + suc n) * s ≡ k * (S * s) → ⊥
      by k S s some same = omega (arith, some, same)

  -- AHEAD
  -- the last operation of the bank leads to the sector behind, or is its erase, which failed
  abbrev goes : Op → FlashAnswer → Bool
  goes op answer = (is_done answer && erases_before b op) || (is_failed answer && same_op (Erase b s) op)

  abbrev ahead : Option Change → Bool
  ahead o = option_map_or (leads_to b) o false || option_map_or (repeats (Erase b s)) o false

  -- so often the sector was erased, and the one behind it
  record Stands (o : Option Change) (first second : ℕ) : Type 0 where
    behind : second ≤ first
    less : IsTrue (ahead o) → second < first

  -- what an operation adds
  adds : (op : Op) (answer : FlashAnswer) (o : Option Change) (first second : ℕ) → Stands o first second
      → ((x : ℕ) (y : ℕ) → op ≡ Erase x y → (y ≡ s) × (x ≡ b → IsTrue (ahead o)))
      → (second + one_if (is_done answer && erases_at b op) ≤ first + one_if (is_done answer && erases_at a op))
      × (IsTrue (goes op answer) → second + one_if (is_done answer && erases_at b op) < first + one_if (is_done answer && erases_at a op))
  adds (Program x page) Done o first second stands due = (let less = stands.behind in omega (arith, less), λ is. cc is)
  adds (Program x page) Failed o first second stands due = (let less = stands.behind in omega (arith, less), λ is. cc is)
  adds (Program x page) Off o first second stands due = (let less = stands.behind in omega (arith, less), λ is. cc is)
  adds (Erase x y) Off o first second stands due = (let less = stands.behind in omega (arith, less), λ is. cc is)
  adds (Erase x y) Failed o first second stands due = (
    let less = stands.behind in omega (arith, less),
    λ is. (let same : b ≡ x = (eq_is b x).0 (first_of (b == x) (s == y) is) in let less = stands.less ((due x y refl).1 (sym same)) in omega (arith, less)),
  )
  adds (Erase x y) Done o first second stands due = elim (test (x == b)) [
    | inl own ↦
        let same : x ≡ b = (eq_is x b).0 own in
        let less = stands.less ((due x y refl).1 same) in
        let behind : (x + y == b) ≡ true → ⊥ = λ e. (let end = (eq_is (x + y) b).0 e in let size = (due x y refl).0 in omega (arith, some, same, size, end)) in
        (rw own omega (arith, less), λ is. elim (either (x + y == b) false is) [ inl e ↦ absurd (behind e) | inr e ↦ cc e ])
    | inr other ↦ (
      let less = stands.behind in rw other omega (arith, less),
      λ is. elim (either (x + y == b) false is) [
        | inl e ↦ (
            let end = (eq_is (x + y) b).0 e in
            let size = (due x y refl).0 in
            let at : (x == a) ≡ true = (eq_is x a).1 (let n' = next in omega (arith, n', end, size)) in
            let less = stands.behind in rw (other, at) omega (arith, less))
        | inr e ↦ cc e
      ],
    )
  ]

  -- ONE OPERATION
  -- a sector's erase is of its bank
  own_bank : (i : ℕ) → i < sectors_of_bank g m.banks → (op : Op) → IsTrue (erases_at (place_of_sector g m.banks k i) op) → bank_of_op g m.banks op ≡ k
  own_bank i low (Program x page) is = cc is
  own_bank i low (Erase x y) is = ap (λ (z : ℕ). z / s / sectors_of_bank g m.banks) ((eq_is x (place_of_sector g m.banks k i)).0 is) ∙ bank_at i low

  none_of : (i : ℕ) → i < sectors_of_bank g m.banks → (x : Change) → (bank_of_op g m.banks x.op == k) ≡ false → is_erase_done (place_of_sector g m.banks k i) x ≡ false
  none_of i low x other = elim (test (is_erase_done (place_of_sector g m.banks k i) x)) [
    | inr none ↦ none
    | inl is ↦ (
        let here = own_bank i low x.op (second_of (is_done x.answer) (erases_at (place_of_sector g m.banks k i) x.op) is) in
        let own : (bank_of_op g m.banks x.op == k) ≡ true = (eq_is (bank_of_op g m.banks x.op) k).1 here in cc (own, other))
  ]

  -- why an erase of the sector behind is due
  order_is : (earlier : List Change) (y : ℕ) → y ≡ s → IsTrue (is_in_order g m.banks earlier b y) → IsTrue (ahead (last_in g m.banks k None earlier))
  order_is earlier y size order =
      let at = bank_at (suc n) inside in
      let here : IsTrue ((b == k * size_of_bank g m.banks) || (option_map_or (leads_to b) (last_in g m.banks k None earlier) false || option_map_or (repeats (Erase b s)) (last_in g m.banks k None earlier) false)) =
      subst (λ (j : ℕ). IsTrue ((b == j * size_of_bank g m.banks) || (option_map_or (leads_to b) (last_in g m.banks j None earlier) false || option_map_or (repeats (Erase b s)) (last_in g m.banks j None earlier) false))) at
      (subst (λ (z : ℕ). IsTrue (is_in_order g m.banks earlier b z)) size order) in
      elim (either (b == k * size_of_bank g m.banks) _ here) [ inl first ↦ absurd (not_first ((eq_is b (k * size_of_bank g m.banks)).0 first)) | inr is ↦ is ]

  erase_is : (earlier : List Change) (before : List ℕ) (op : Op) → IsTrue (is_due_by m earlier before op) → (x y : ℕ) → op ≡ Erase x y → (y ≡ s) × (x ≡ b → IsTrue (ahead (last_in g m.banks k None earlier)))
  erase_is earlier before op due x y is =
      let here : IsTrue (is_due_by m earlier before (Erase x y)) = subst (λ (o : Op). IsTrue (is_due_by m earlier before o)) is due in
      let placed = first_of (has_place m (Erase x y)) (is_due_there m earlier before (Erase x y)) here in
      let there = second_of (has_place m (Erase x y)) (is_due_there m earlier before (Erase x y)) here in
      let size : y ≡ s = (eq_is y s).0 (second_of (x % s == 0) (y == s) (second_of (nat_lt (bank_of_op g m.banks (Erase x y)) m.banks) (is_whole g (Erase x y)) placed)) in
      let order = second_of (may_erase m earlier (bank_of_op g m.banks (Erase x y)) before) (is_in_order g m.banks earlier x y) there in
      (size, λ same. order_is earlier y size (subst (λ (z : ℕ). IsTrue (is_in_order g m.banks earlier z y)) same order))

  one_more : (earlier : List Change) (x : Change) (first second : ℕ) → Stands (last_in g m.banks k None earlier) first second → IsTrue (is_due m earlier x)
      → Stands (last_in g m.banks k None (earlier ++ x ∷ [])) (first + one_if (is_erase_done a x)) (second + one_if (is_erase_done b x))
  one_more earlier x first second stands due =
      let last = last_in g m.banks k None earlier in
      let goes_on = lasts_go_on g m.banks k None earlier x in
      elim (test (bank_of_op g m.banks x.op == k)) [
        | inl own ↦ (
            let now : last_in g m.banks k None (earlier ++ x ∷ []) ≡ Some x = goes_on ∙ ap (λ (t : Bool). if t then Some x else last) own in
            let more = adds x.op x.answer last first second stands (erase_is earlier x.before x.op due) in
            subst (λ (o : Option Change). Stands o (first + one_if (is_erase_done a x)) (second + one_if (is_erase_done b x))) (sym now) (record { behind = more.0; less = more.1 }))
        | inr other ↦ (
            let now : last_in g m.banks k None (earlier ++ x ∷ []) ≡ last = goes_on ∙ ap (λ (t : Bool). if t then Some x else last) other in
            let low : n < sectors_of_bank g m.banks = omega (arith, inside) in
            let none_a : one_if (is_erase_done a x) ≡ 0 = ap one_if (none_of n low x other) in
            let none_b : one_if (is_erase_done b x) ≡ 0 = ap one_if (none_of (suc n) inside x other) in
            subst (λ (o : Option Change). Stands o (first + one_if (is_erase_done a x)) (second + one_if (is_erase_done b x))) (sym now)
            (record { behind = (let less = stands.behind in omega (arith, less, none_a, none_b)); less = λ is. (let less = stands.less is in omega (arith, less, none_a, none_b)) }))
      ]

  -- ALL OPERATIONS
  all : (operations earlier : List Change) (first second : ℕ) → Stands (last_in g m.banks k None earlier) first second → IsTrue (are_due m earlier operations)
      → second + erases_done b operations ≤ first + erases_done a operations
  all [] earlier first second stands due = let less = stands.behind in omega (arith, less)
  all (x ∷ xs) earlier first second stands due =
      let rest = all xs (earlier ++ x ∷ []) (first + one_if (is_erase_done a x)) (second + one_if (is_erase_done b x))
      (one_more earlier x first second stands (first_of (is_due m earlier x) _ due)) (second_of (is_due m earlier x) _ due) in
      let of_a = counts (is_erase_done a) x xs in
      let of_b = counts (is_erase_done b) x xs in
      omega (arith, rest, of_a, of_b)

  pub keeps_up : (operations : List Change) → IsTrue (are_due m [] operations) → erases_done b operations ≤ erases_done a operations
  keeps_up operations due = (let few = all operations [] 0 0 (record { behind = omega arith; less = λ is. cc is }) due in omega (arith, few))

pub first_sectors_lead : FirstSectorsLead
first_sectors_lead m operations k zero some inside due = omega arith
first_sectors_lead m operations k (suc n) some inside due =
    let step = keeps_up m k n some inside operations due in
    let rest = first_sectors_lead m operations k n some (omega (arith, inside)) due in
    omega (arith, step, rest)

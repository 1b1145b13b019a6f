-- The banks take turns: an erase keeps it.
use Rattle.std.specs.Prelude.{IsTrue, IfSome, ◌==◌}
use Rattle.std.specs.Option.{option_map_or}
use Rattle.std.proofs.Common.{◌≡◌, inl, inr, ◌<◌, ◌+◌, ◌-◌, ◌*◌, ◌/◌, ◌%◌, ◌++◌, ◌∷◌, ℕ, true, false, List, [], Option, Some, None, take, refl, sym, ap, ◌∙◌, subst, arith}
use Rattle.nv_base.specs.Geometry.{IsLegal, HasBanks, sectors_of_bank}
use Rattle.fls_model.specs.Op.{Op, Erase, MayLeave}
use Rattle.fls_model.specs.Step.{Leaves}
use Rattle.fls_model.specs.Told.{Change}
use Rattle.fls_model.proofs.Kept.{leaves_bytes}
use Rattle.fee_format.specs.declared.bank_head.BankHead.{BankHead}
use Rattle.fee_format.proofs.Tests.{eq_is}
use Rattle.fee_image.specs.Image.{Layout, BankStands, active_of}
use Rattle.fee_image.specs.BankLaws.{erase_of}
use Rattle.fee_image.proofs.Erases.{erased_others, erases_keep_sound}
use Rattle.fee_image.proofs.Frames.{SameOthers, stands_same}
use Rattle.fee_image.proofs.Soundness.{torn_erases_set_bits, torn_erases_make_no_bank}
use Rattle.promise_device.specs.Making.{Making, banks_of}
use Rattle.promise_device.specs.Wear.{bank_of_op, bank_behind, may_leave, may_erase, is_in_order, has_place, is_due_there, is_due_by}
use Rattle.promise_device.specs.Generations.{IsInTurn, generation_of}
use Rattle.promise_device.proofs.Wears.{first_of, second_of}
use Rattle.promise_device.specs.SwitchErases.{begins_switch, ends_switch}
use Rattle.promise_device.proofs.SwitchErases.{test, AreFew, goes_few, begins_few}
use Rattle.promise_device.proofs.Operations.{IsEraseOf, erase_has, leaves_within}
use Rattle.promise_device.proofs.GenerationsKept.{turn_behind, some_banks, four_pages, still_active, other_behind, Inv, led, no_erase, stays, active_turn, first_own}

module _ (m : Making) (legal : IsLegal m.geometry) (shared : HasBanks m.geometry m.banks) where
  abbrev l : Layout
  l = banks_of m

  -- AN ERASE
  module _ (earlier : List Change) (x : Change) (image new : List ℕ) (inv : Inv m legal shared earlier image) (address n : ℕ) (op : x.op ≡ Erase address n) (due : IsTrue (is_due_by m earlier image (Erase address n))) (left : Leaves (Erase address n) x.answer image new) where
    abbrev bank : ℕ
    bank = bank_of_op m.geometry m.banks (Erase address n)

    abbrev sector : ℕ
    sector = address / m.geometry.sector - bank * sectors_of_bank m.geometry m.banks

    erase_placed : IsTrue (has_place m (Erase address n))
    erase_placed = first_of (has_place m (Erase address n)) (is_due_there m earlier image (Erase address n)) due

    erase_has_place : IsEraseOf m legal shared bank sector (Erase address n)
    erase_has_place = erase_has m legal shared address n erase_placed

    erase_leaves : MayLeave (erase_of m.geometry m.banks bank sector) image new
    erase_leaves = subst (λ (o : Op). MayLeave o image new) erase_has_place.op_is (leaves_within m legal shared (Erase address n) x.answer image new erase_placed inv.bytes left)

    erase_next : bank ≡ bank_behind m.banks (active_of l image)
    erase_next =
        let there = second_of (has_place m (Erase address n)) (is_due_there m earlier image (Erase address n)) due in
        let may = first_of (may_erase m earlier bank image) (is_in_order m.geometry m.banks earlier address n) there in
        (eq_is _ _).0 (first_of (bank == bank_behind m.banks (active_of l image)) (option_map_or (may_leave m earlier image) (active_of l image) true) may)

    erase_others : SameOthers l image new bank
    erase_others = erased_others m.geometry m.banks bank sector image new legal shared erase_has_place.inside erase_leaves

    erase_stood : (i : ℕ) (h : BankHead) → i < l.banks → BankStands l new i h → BankStands l image i h
    erase_stood i h lt stands = torn_erases_make_no_bank l image new i h legal.page_low inv.sound (torn_erases_set_bits _ _ image new erase_leaves) lt stands

    erase_still : (o : Option (ℕ × BankHead)) → active_of l image ≡ o → IfSome o (λ y. BankStands l image y.0 y.1 → BankStands l new y.0 y.1)
    erase_still None at = tt
    erase_still (Some y) at = λ stands.
        let apart : y.0 ≡ bank → ⊥ = λ same. other_behind m legal shared (Some y) (same ∙ erase_next ∙ ap (bank_behind m.banks) at) in
        stands_same l image new y.0 y.1 (erase_others y.0 apart 0 (let four = four_pages m legal shared in omega (arith, four))) (erase_others y.0 apart 1 (let four = four_pages m legal shared in omega (arith, four))) stands

    ends_none : ends_switch m x.op x.answer ≡ false
    ends_none = ap (λ (o : Op). ends_switch m o x.answer) op

    -- it is erase_has_place the bank that comes erase_next
    next_turn : bank ≡ generation_of m image % m.banks
    next_turn =
        let turn = turn_behind m.banks (some_banks m legal shared) (active_of l image) (active_turn m legal shared earlier image inv (active_of l image) refl) in
        let same : generation_of m image + 1 - 1 ≡ generation_of m image = omega arith in
        erase_next ∙ turn.1 ∙ ap (λ (t : ℕ). t % m.banks) same

    erase_few : (j : ℕ) → j < m.banks → AreFew m (earlier ++ x ∷ []) j (generation_of m image)
    erase_few j lt = elim (test (begins_switch m x.op)) [
      | inl begins ↦ begins_few m earlier x j (generation_of m image) begins ends_none
          (λ first. (eq_is _ _).1 (sym (first_own m legal shared j x.op first) ∙ ap (bank_of_op m.geometry m.banks) op ∙ next_turn)) (inv.few j lt)
      | inr none ↦ goes_few m earlier x j (generation_of m image) none ends_none (first_own m legal shared j x.op) (inv.few j lt)
    ]

    pub erased : Inv m legal shared (earlier ++ x ∷ []) new
    erased =
        stays m legal shared earlier x image new inv (leaves_bytes m.geometry (erase_of m.geometry m.banks bank sector) image new erase_leaves inv.bytes) (erases_keep_sound m.geometry m.banks image new bank sector erase_leaves inv.sound) erase_stood
        (still_active m legal shared image new (active_of l image) refl erase_stood (erase_still (active_of l image) refl)) (subst (IsInTurn m (generation_of m image + 1)) (sym op) tt) erase_few
        (λ j page lt behind. absurd (no_erase m legal shared j page x address n op (led m legal shared earlier x j page behind)))

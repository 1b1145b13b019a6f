-- The found map, computed.
use Rattle.std.proofs.Common.{◌≡◌, inl, inr, ◌<◌, ◌≤◌, ℕ, ◌+◌, ◌*◌, List, [], ◌∷◌, Option, Some, None, refl, sym, ap, ◌∙◌, subst, arith}
use Rattle.nv_base.specs.declared.instance.DeviceNumber.{DeviceNumber}
use Rattle.nv_base.specs.declared.instance.Instance.{Instance}
use Rattle.nv_base.specs.declared.mark.Mark.{Mark}
use Rattle.nv_base.specs.declared.mark.Mark.TheVariants.{Content, Invalid, Erased}
use Rattle.nv_base.specs.Lengths.{AreLengths}
use Rattle.nv_base.specs.Marks.{number_of, instance_of, listed, AreMarks}
use Rattle.fee_format.specs.declared.bank_head.BankHead.{BankHead}
use Rattle.fee_image.specs.Image.{Layout, bank_in, IsActive, IsFoundIn, active_of, held_of_bank, found_held, found_list}
use Rattle.fee_image.specs.Laws.{FoundComputes, FoundListsCompute, FoundListsAreMarks, FoundOfActive, FoundMapStays}
use Rattle.fee_image.proofs.Reading.{records_same}
use Rattle.fee_image.proofs.Stored.{HasBytes, mark_some}
use Rattle.fee_image.specs.RecordList.{records_of, end_of}
use Rattle.fee_image.specs.Found.{last_held}
use Rattle.nv_base.specs.Held.{Held}
use Rattle.fee_image.proofs.Banks.{active_computes, no_active_computes}
use Rattle.fee_image.proofs.Records.{logs_compute, marks_compute}

pub found_of_active : FoundOfActive
found_of_active l bytes k h active number length = ap (held_of_bank l bytes number length) ((active_computes l bytes k h).0 active)

found_pick : (l : Layout) (bytes : List ℕ) (number length : ℕ) (m : Held) (o : Option (ℕ × BankHead)) → active_of l bytes ≡ o → m ≡ held_of_bank l bytes number length o → IsFoundIn l bytes number length m
found_pick l bytes number length m None is e = inr ((no_active_computes l bytes).1 is, e)
found_pick l bytes number length m (Some x) is e = inl (x.0, x.1, (active_computes l bytes x.0 x.1).1 is, (marks_compute (bank_in l x.1.format x.0) bytes number length m).1 e)

found_is : (l : Layout) (bytes : List ℕ) (number length : ℕ) (m : Held) → IsFoundIn l bytes number length m → m ≡ found_held l bytes number length
found_is l bytes number length m (inl (k, h, active, found)) = (marks_compute (bank_in l h.format k) bytes number length m).0 found ∙ sym (found_of_active l bytes k h active number length)
found_is l bytes number length m (inr (none, e)) = e ∙ ap (held_of_bank l bytes number length) (sym ((no_active_computes l bytes).0 none))

pub found_computes : FoundComputes
found_computes l bytes number length m = (found_is l bytes number length m, found_pick l bytes number length m (active_of l bytes) refl)

pub found_lists_compute : FoundListsCompute
found_lists_compute l [] bytes ms = (λ e. e, λ e. e)
found_lists_compute l (x ∷ xs) bytes ms = (
  λ found.
      let held : found.0 ≡ found_held l bytes x.0.0 x.1 = found_is l bytes x.0.0 x.1 found.0 found.2 in
      let rest : found.1 ≡ found_list l xs bytes = (found_lists_compute l xs bytes found.1).0 found.3 in
      found.4 ∙ (λ i. listed (instance_of x.0) (held i).mark (rest i)),
  λ e. (found_held l bytes x.0.0 x.1, found_list l xs bytes, found_pick l bytes x.0.0 x.1 (found_held l bytes x.0.0 x.1) (active_of l bytes) refl refl, (found_lists_compute l xs bytes (found_list l xs bytes)).1 refl, e),
)

-- LISTS OF MARKS
lower : (a b : ℕ) (ms : List (Instance × Mark)) → b ≤ a → AreMarks a ms → AreMarks b ms
lower a b [] le marks = tt
lower a b (x ∷ xs) le marks = (omega (arith, marks.0), marks.1, marks.2, marks.3, marks.4)

number_is : (n : DeviceNumber) → number_of (instance_of n) ≡ n.0
number_is n = omega arith

listed_ascends : (low : ℕ) (n : DeviceNumber) (m : Mark) (rest : List (Instance × Mark)) → HasBytes m → low < n.0 → n.0 < 65535 → AreMarks (n.0 + 1) rest → AreMarks (low + 1) (listed (instance_of n) m rest)
listed_ascends low n Erased rest has above below marks = lower (n.0 + 1) (low + 1) rest (omega arith) marks
listed_ascends low n Invalid rest has above below marks = (omega (arith, number_is n), omega arith, omega arith, tt, subst (λ k. AreMarks (k + 1) rest) (sym (number_is n)) marks)
listed_ascends low n (Content bytes) rest has above below marks = (omega (arith, number_is n), omega arith, omega arith, has, subst (λ k. AreMarks (k + 1) rest) (sym (number_is n)) marks)

found_some : (l : Layout) (bytes : List ℕ) (number length : ℕ) (o : Option (ℕ × BankHead)) → HasBytes (held_of_bank l bytes number length o).mark
found_some l bytes number length None = tt
found_some l bytes number length (Some x) =
    let b = bank_in l x.1.format x.0 in
    mark_some b bytes number length (end_of b bytes) (records_of b bytes) ((logs_compute b bytes (records_of b bytes) (end_of b bytes)).1 (refl, refl)).walk

found_ascends : (l : Layout) (low : ℕ) (numbers : List (DeviceNumber × ℕ)) (bytes : List ℕ) → AreLengths low numbers → AreMarks (low + 1) (found_list l numbers bytes)
found_ascends l low [] bytes numbers = tt
found_ascends l low (x ∷ xs) bytes numbers = listed_ascends low x.0 (found_held l bytes x.0.0 x.1).mark (found_list l xs bytes) (found_some l bytes x.0.0 x.1 (active_of l bytes)) numbers.0 numbers.1 (found_ascends l x.0.0 xs bytes numbers.4)

pub found_lists_are_marks : FoundListsAreMarks
found_lists_are_marks l numbers bytes all = lower 1 0 (found_list l numbers bytes) (omega arith) (found_ascends l 0 numbers bytes all)

-- WHAT THE FOUND MAP READS
pub found_map_stays : FoundMapStays
found_map_stays l old new k h two active same stood number length =
    let still : IsActive l new k h = record {
      bank = active.bank;
      stands = record {
        head = record { legal = active.stands.head.legal; page_is = same 0 (omega arith) ∙ active.stands.head.page_is };
        gate = same 1 (omega arith) ∙ active.stands.gate;
      };
      first = λ j other lt ne stands. active.first j other lt ne (stood j other lt ne stands);
    } in
    found_of_active l new k h still number length
    ∙ ap (last_held number length) (records_same (bank_in l h.format k) old new (k * l.pages) (λ q low lt. same q lt))
    ∙ sym (found_of_active l old k h active number length)

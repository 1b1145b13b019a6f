-- The banks take turns.
use Rattle.std.specs.Prelude.{IsTrue, replicate, length}
use Rattle.std.proofs.Common.{◌≡◌, ◌<◌, ◌≤◌, ◌+◌, ◌-◌, ◌*◌, ◌++◌, ◌∷◌, ℕ, zero, suc, true, false, List, [], take, get_or, refl, sym, ap, ◌∙◌, subst, arith}
use Rattle.std.proofs.lemmas.List.{append_assoc, append-nil, drop-replicate, length-replicate}
use Rattle.nv_base.specs.Geometry.{IsLegal, HasBanks, size_of}
use Rattle.fls_model.specs.Op.{Op, Program, Erase}
use Rattle.fls_model.specs.Step.{Leaves}
use Rattle.fls_model.specs.Told.{Change}
use Rattle.fee_image.specs.Image.{Layout, active_of}
use Rattle.fee_image.proofs.Banks.{no_active_computes}
use Rattle.fee_image.proofs.Soundness.{blank_is_sound}
use Rattle.promise_device.specs.Making.{Making, banks_of}
use Rattle.promise_device.specs.FlashRun.{IsChain}
use Rattle.promise_device.specs.Traits.{page_in_bank}
use Rattle.promise_device.specs.Wear.{generation_in, is_due_by, is_due, are_due}
use Rattle.promise_device.specs.Generations.{generation_of, TakeTurns, IsUnused, BlankIsUnused, BanksTakeTurns}
use Rattle.promise_device.proofs.Wears.{first_of, second_of}
use Rattle.promise_device.specs.SwitchErases.{FirstErasesAreFew}
use Rattle.promise_device.proofs.SwitchErases.{begins_none, few_at_end}
use Rattle.promise_device.proofs.GenerationsKept.{greatest, Inv}
use Rattle.promise_device.proofs.GenerationErases.{erased}
use Rattle.promise_device.proofs.GenerationPrograms.{programmed}

module _ (m : Making) (legal : IsLegal m.geometry) (shared : HasBanks m.geometry m.banks) where
  abbrev l : Layout
  l = banks_of m

  -- ALL OPERATIONS
  one_more : (op : Op) (earlier : List Change) (x : Change) (image new : List ℕ) → x.op ≡ op → Inv m legal shared earlier image → IsTrue (is_due_by m earlier image op) → Leaves op x.answer image new → Inv m legal shared (earlier ++ x ∷ []) new
  one_more (Program address page) earlier x image new op inv due left = programmed m legal shared earlier x image new inv address page op due left (page_in_bank m.geometry m.banks address) refl
  one_more (Erase address n) earlier x image new op inv due left = erased m legal shared earlier x image new inv address n op due left

  goes_on : (earlier operations : List Change) (image last : List ℕ) → Inv m legal shared earlier image → IsChain image operations last → IsTrue (are_due m earlier operations) → Inv m legal shared (earlier ++ operations) last
  goes_on earlier [] image last inv chain due = subst (λ (xs : List Change). Inv m legal shared xs last) (sym (append-nil earlier)) (subst (Inv m legal shared earlier) (sym chain) inv)
  goes_on earlier (x ∷ xs) image last inv chain due =
      let here : IsTrue (is_due m earlier x) = first_of (is_due m earlier x) (are_due m (earlier ++ x ∷ []) xs) due in
      let later : IsTrue (are_due m (earlier ++ x ∷ []) xs) = second_of (is_due m earlier x) (are_due m (earlier ++ x ∷ []) xs) due in
      let inv' : Inv m legal shared earlier x.before = subst (Inv m legal shared earlier) (sym chain.0) inv in
      subst (λ (ys : List Change). Inv m legal shared ys last) (append_assoc earlier (x ∷ []) xs)
      (goes_on (earlier ++ x ∷ []) xs chain.1.0 last (one_more x.op earlier x x.before chain.1.0 refl inv' here chain.1.1) chain.1.2 later)

  begins : (first : List ℕ) → IsUnused m first → Inv m legal shared [] first
  begins first unused = record {
    bytes = unused.bytes;
    sound = unused.sound;
    turns = λ k h lt stands. absurd ((no_active_computes l first).1 unused.none k h lt stands);
    set = λ t one high. (let none : generation_of m first ≡ 0 = ap generation_in unused.none in absurd (omega (arith, one, high, none)));
    asked = λ i d lt. absurd (omega arith);
    few = λ j lt. begins_none m j (generation_of m first) (ap generation_in unused.none) lt;
    gate = λ k page lt behind. (let e : false ≡ true = behind in cc e);
  }

  turns_of : (operations : List Change) (last : List ℕ) → Inv m legal shared operations last → TakeTurns m operations last
  turns_of operations last inv = record {
    stand = λ k h lt stands. (inv.turns k h lt stands, greatest m legal shared last (active_of l last) refl k h lt stands);
    set = inv.set;
    asked = inv.asked;
  }

pub first_erases_are_few : FirstErasesAreFew
first_erases_are_few m operations first last k legal shared unused chain due inside =
    let inv = goes_on m legal shared [] operations first last (begins m legal shared first unused) chain due in
    few_at_end m operations k (generation_of m last) (inv.few k inside)

pub banks_take_turns : BanksTakeTurns
banks_take_turns m operations first last legal shared unused chain due = turns_of m legal shared operations last (goes_on m legal shared [] operations first last (begins m legal shared first unused) chain due)

-- A BLANK FLASH
blank_bytes : (n k : ℕ) → get_or (replicate n 255) k 0 < 256
blank_bytes zero k = omega arith
blank_bytes (suc n) zero = omega arith
blank_bytes (suc n) (suc k) = blank_bytes n k

-- no part of it is a gate
no_gate : (p a n : ℕ) → 16 ≤ p → (d : List ℕ) → d ≡ replicate a 255 → take p d ≡ replicate p 0 → ⊥
no_gate p zero n big d is gate = (let none : length (take p d) ≡ 0 = ap (λ (x : List ℕ). length (take p x)) is ∙ empty p in let some : length (take p d) ≡ p = ap length gate ∙ length-replicate p 0 in omega (arith, none, some, big))
  where
    empty : (i : ℕ) → length {A = ℕ} (take i (replicate 0 255)) ≡ 0
    empty zero = refl
    empty (suc i) = refl
no_gate zero (suc a) n big d is gate = omega (arith, big)
no_gate (suc p) (suc a) n big d is gate = (let e : take (suc p) (replicate (suc a) 255) ≡ replicate (suc p) 0 = subst (λ (x : List ℕ). take (suc p) x ≡ replicate (suc p) 0) is gate in cc e)

pub blank_is_unused : BlankIsUnused
blank_is_unused m legal =
    let n = size_of m.geometry in
    let l = banks_of m in record {
      bytes = record { size = length-replicate n 255; bytes = blank_bytes n };
      sound = blank_is_sound l n;
      none = (no_active_computes l (replicate n 255)).0 (λ k h lt stands. no_gate m.geometry.page (n - (k * l.pages + 1) * m.geometry.page) 0 legal.page_low _ (drop-replicate ((k * l.pages + 1) * m.geometry.page) n 255) stands.gate);
    }

-- Slots that stand, by their gates.
use Rattle.std.specs.Prelude.{if◌then◌else◌, ◌++◌, ◌-◌, take, drop, replicate}
use Rattle.std.specs.Option.{MatchOption}
use Rattle.std.proofs.Common.{◌≡◌, inl, inr, ◌≤◌, ℕ, Bool, List, Option, Some, None, length, refl, sym, ap, ◌∙◌, arith}
use Rattle.std.proofs.lemmas.Bool.{cases_Bool}
use Rattle.std.proofs.lemmas.List.{take-append-drop, take_all, take_at, drop_at, length-drop}
use Rattle.fee_format.specs.Gate.{IsGate, is_gate}
use Rattle.fee_format.proofs.Tests.{gates_compute}
use Rattle.ea_image.specs.declared.slot_head.SlotHead.{SlotHead}
use Rattle.ea_image.specs.SlotHead.{IsSlotHead, IsNoSlotHead, slot_head_of}
use Rattle.ea_image.specs.Slots.{SlotBytes, standing, fitting}
use Rattle.ea_image.proofs.Heads.{slot_heads_compute}

pub standing_open : (p size : ℕ) (b : SlotBytes) → IsGate p b.gate → standing p size b ≡ fitting size (slot_head_of p b.head)
standing_open p size b gate = ap (λ (t : Bool). if t then fitting size (slot_head_of p b.head) else None) ((gates_compute p b.gate).1 gate)

pub standing_shut : (p size : ℕ) (b : SlotBytes) → (IsGate p b.gate → ⊥) → standing p size b ≡ None
standing_shut p size b shut = elim (cases_Bool (is_gate p b.gate)) [
  | inl t ↦ absurd (shut ((gates_compute p b.gate).0 t))
  | inr f ↦ ap (λ (t : Bool). if t then fitting size (slot_head_of p b.head) else None) f
]

-- what was read is what computes
read_at : (p : ℕ) (page : List ℕ) (o : Option SlotHead) → slot_head_of p page ≡ o → IsNoSlotHead p page → None ≡ o
read_at p page None e none = refl
read_at p page (Some h) e none = absurd (none h ((slot_heads_compute p page h).1 e))

pub read_as : (p : ℕ) (page : List ℕ) (r : Option SlotHead) → MatchOption r (IsNoSlotHead p page) (λ h. IsSlotHead p page h) → r ≡ slot_head_of p page
read_as p page None none = read_at p page (slot_head_of p page) refl none
read_as p page (Some h) is = sym ((slot_heads_compute p page h).0 is)

-- A FRONT AND BLANK BYTES BEHIND IT
pub front_is : (n : ℕ) (page bytes : List ℕ) → n ≤ length page → take n page ≡ bytes → take (length page - n) (drop n page) ≡ replicate (length (take (length page - n) (drop n page))) 255 → page ≡ bytes ++ replicate (length page - n) 255
front_is n page bytes le front back =
    let size : length (drop n page) ≡ length page - n = length-drop n page in
    let whole : take (length page - n) (drop n page) ≡ drop n page = take_all (length page - n) (drop n page) (omega (arith, size)) in
    let back' : drop n page ≡ replicate (length page - n) 255 = sym whole ∙ back ∙ ap (λ (k : ℕ). replicate k 255) (ap length whole ∙ size) in
    sym (take-append-drop n page) ∙ (λ i. front i ++ back' i)

pub front_take : (n : ℕ) (page bytes : List ℕ) → length bytes ≡ n → page ≡ bytes ++ replicate (length page - n) 255 → take n page ≡ bytes
front_take n page bytes size is = ap (take n) is ∙ take_at bytes (replicate (length page - n) 255) n size

pub front_back : (n : ℕ) (page bytes : List ℕ) → n ≤ length page → length bytes ≡ n → page ≡ bytes ++ replicate (length page - n) 255 → take (length page - n) (drop n page) ≡ replicate (length (take (length page - n) (drop n page))) 255
front_back n page bytes le size is =
    let rest : drop n page ≡ replicate (length page - n) 255 = ap (drop n) is ∙ drop_at bytes (replicate (length page - n) 255) n size in
    let whole : take (length page - n) (drop n page) ≡ drop n page = take_all (length page - n) (drop n page) (omega (arith, length-drop n page)) in
    whole ∙ rest ∙ ap (λ (k : ℕ). replicate k 255) (sym (ap length whole ∙ length-drop n page))

-- What is told of one number, from one moment to the next.
use Rattle.std.specs.Prelude.{◌++◌, map, take, Contains}
use Rattle.std.proofs.Common.{◌≡◌, ◌≢◌, inl, inr, ℕ, zero, suc, List, [], ◌∷◌, Option, Some, None, refl, sym, ap, ◌∙◌, subst, arith}
use Rattle.std.proofs.lemmas.List.Elements.{Contains-append_left, Contains-append_right, Contains-append_cases}
use Rattle.nv_base.specs.Held.{Held, held_next, more_writes}
use Rattle.nv_base.specs.declared.mark.Mark.{Mark}
use Rattle.memif.specs.Told.{Slot}
use Rattle.memif.specs.Marks.{IsPossible, Keeps, SettlesAs}
use Rattle.ea_image.specs.declared.slot_head.SlotHead.{SlotHead}
use Rattle.ea_image.specs.declared.memory.SlotMemory.{SlotMemory}
use Rattle.ea_image.specs.declared.which.Which.{Which}
use Rattle.ea_image.specs.declared.which.Which.TheVariants.{Slot0, Slot1}
use Rattle.ea_image.specs.declared.step.SlotStep.{SlotStep}
use Rattle.ea_image.specs.declared.step.SlotStep.TheVariants.{EraseHead, EraseBody, Body, Head, Gate}
use Rattle.ea_image.specs.Slots.{SlotBytes, other, found_of, held_by, mark_shown}
use Rattle.ea_image.specs.Memory.{HoldsSlots, HasNext, sequence_next, held_with, settled_of, doubt_of, memory_done, memory_failed}
use Rattle.ea_image.specs.Laws.{IsAtStep}
use Rattle.ea_image.proofs.Holds.{found_is_held, failed_steps_hold}
use Rattle.ea_told.specs.Device.{doubts_as, slot_told}

-- MARKS OF A JOB
abbrev pub left_on : Held → List Mark → List Held
left_on settled marks = map (λ x. held_next x settled) marks

-- each mark of one list is one of another
abbrev pub AreFewer : List Mark → List Mark → Type 0
AreFewer new old = (h : Held) (settled : Held) → Contains (left_on settled new) h → Contains (left_on settled old) h

pub same_marks : (marks : List Mark) → AreFewer marks marks
same_marks marks h settled c = c

pub has_first : {A : Type 0} (x : A) (xs : List A) → Contains (x ∷ xs) x
has_first x xs = (0, omega arith, refl)

pub has_more : {A : Type 0} (x y : A) (xs : List A) → Contains xs y → Contains (x ∷ xs) y
has_more x y xs (k, lt, is) = (suc k, omega arith, is)

pub has_none : {A : Type 0} (y : A) → Contains [] y → ⊥
has_none y (k, lt, is) = absurd (omega arith)

pub has_one : {A : Type 0} (x y : A) → Contains (x ∷ []) y → y ≡ x
has_one x y (zero, lt, is) = sym is
has_one x y (suc k, lt, is) = absurd (omega arith)

pub no_marks : (marks : List Mark) → AreFewer [] marks
no_marks marks h settled c = absurd (has_none h c)

-- WHAT IS FOUND IS POSSIBLE
doubt_in : (o : Option SlotHead) (b : SlotBytes) (h : SlotHead) → o ≡ Some h → Contains (doubts_as o b) (held_with o b)
doubt_in None b h e = cc e
doubt_in (Some x) b h e = has_first (held_by x b.body) []

pub found_possible : (p size : ℕ) (m : SlotMemory) (slots : Which → SlotBytes) (marks : List Mark) → HoldsSlots p size m slots → IsPossible (slot_told m slots marks) (found_of p size slots)
found_possible p size m slots marks holds = elim (found_is_held p size m slots holds) [
  | inl settled ↦ inl settled
  | inr (h, e, doubt) ↦ inr (subst (Contains (left_on (settled_of m slots) marks ++ doubts_as m.doubt (slots m.target))) (sym doubt) (Contains-append_right (left_on (settled_of m slots) marks) (doubts_as m.doubt (slots m.target)) (doubt_of m slots) (doubt_in m.doubt (slots m.target) h e)))
]

-- possible by one slot, and so by another that it is kept from
pub possible_through : (s t : Slot) (h : Held) → Keeps s t → IsPossible t h → IsPossible s h
possible_through s t h keeps (inl e) = inl (e ∙ keeps.settled)
possible_through s t h keeps (inr c) = inr (keeps.doubts h c)

-- KEPT
-- with what is settled as it was, and each doubt one of those before
pub keeps_by : (m n : SlotMemory) (old new : Which → SlotBytes) (marks fewer : List Mark) → settled_of n new ≡ settled_of m old → AreFewer fewer marks
    → ((h : Held) → Contains (doubts_as n.doubt (new n.target)) h → Contains (left_on (settled_of m old) marks ++ doubts_as m.doubt (old m.target)) h) → Keeps (slot_told m old marks) (slot_told n new fewer)
keeps_by m n old new marks fewer settled few doubts = record {
  settled = settled;
  doubts = λ h c. elim (Contains-append_cases (left_on (settled_of n new) fewer) (doubts_as n.doubt (new n.target)) h c) [
    | inl a ↦ Contains-append_left (left_on (settled_of m old) marks) (doubts_as m.doubt (old m.target)) h (few h (settled_of m old) (subst (λ (x : Held). Contains (left_on x fewer) h) settled a))
    | inr b ↦ doubts h b
  ];
}

-- of a slot of which nothing changed
pub keeps_same : (m : SlotMemory) (old new : Which → SlotBytes) (marks fewer : List Mark) → ((w : Which) → new w ≡ old w) → AreFewer fewer marks → Keeps (slot_told m old marks) (slot_told m new fewer)
keeps_same m old new marks fewer same few =
    keeps_by m m old new marks fewer (ap (held_with m.settled) (same (other m.target))) few
    (λ h c. Contains-append_right (left_on (settled_of m old) marks) (doubts_as m.doubt (old m.target)) h (subst (λ (b : SlotBytes). Contains (doubts_as m.doubt b) h) (same m.target) c))

-- A STEP
-- what the head and the content of a job say, counted one more than what is settled
count_next : (o : Option SlotHead) (b : SlotBytes) → HasNext o → sequence_next o ≡ more_writes 1 (held_with o b).count
count_next None b next = omega arith
count_next (Some h) b next = omega arith

pub job_held : (m : SlotMemory) (slots : Which → SlotBytes) (h : SlotHead) (body content : List ℕ) (mark : Mark) → HasNext m.settled → h.sequence ≡ sequence_next m.settled → take h.length body ≡ content → mark_shown h.kind content ≡ mark
    → held_by h body ≡ held_next mark (settled_of m slots)
job_held m slots h body content mark next sequence is shown =
    let count : h.sequence ≡ more_writes 1 (settled_of m slots).count = sequence ∙ count_next m.settled (slots (other m.target)) next in
    let says : mark_shown h.kind (take h.length body) ≡ mark = ap (mark_shown h.kind) is ∙ shown in
    λ i. record { mark = says i; count = count i }

-- failed or cut: behind it nothing is possible that wasn't before, but the job's mark
none_in : (o : Option SlotHead) (b : SlotBytes) (h : Held) → o ≡ None → Contains (doubts_as o b) h → ⊥
none_in None b h e c = has_none h c
none_in (Some x) b h e c = cc e

module _ (p pages size : ℕ) (h : SlotHead) (content : List ℕ) (m : SlotMemory) (old new : Which → SlotBytes) (mark : Mark) where
  abbrev marks : List Mark
  marks = mark ∷ []

  abbrev Doubted : Held → Type 0
  Doubted x = Contains (left_on (settled_of m old) marks ++ doubts_as m.doubt (old m.target)) x

  -- with the body as it was, or nothing in doubt
  kept_doubts : (new m.target).body ≡ (old m.target).body → (x : Held) → Contains (doubts_as m.doubt (new m.target)) x → Doubted x
  kept_doubts body x c = Contains-append_right (left_on (settled_of m old) marks) (doubts_as m.doubt (old m.target)) x (by_doubt m.doubt c)
    where
      by_doubt : (o : Option SlotHead) → Contains (doubts_as o (new m.target)) x → Contains (doubts_as o (old m.target)) x
      by_doubt None c' = c'
      by_doubt (Some d) c' = subst (λ (y : Held). Contains (held_by d (old m.target).body ∷ []) y) (sym (has_one (held_by d (new m.target).body) x c' ∙ ap (held_by d) body)) (has_first (held_by d (old m.target).body) [])

  pub failed_keeps : (step : SlotStep) (fewer : List Mark) → IsAtStep p pages size h content step m old new → AreFewer fewer marks → HasNext m.settled → (step ≢ EraseHead → m.doubt ≡ None)
      → (step ≡ Gate → take h.length (old m.target).body ≡ content) → mark_shown h.kind content ≡ mark → Keeps (slot_told m old marks) (slot_told (memory_failed step h m) new fewer)
  failed_keeps EraseHead fewer at few next none body shown = keeps_by m m old new marks fewer (ap (held_with m.settled) at.beside) few (kept_doubts at.leaves.2)
  failed_keeps EraseBody fewer at few next none body shown = keeps_by m m old new marks fewer (ap (held_with m.settled) at.beside) few (λ x c. absurd (none_in m.doubt (new m.target) x (none (λ e. cc e)) c))
  failed_keeps (Body i) fewer at few next none body shown = keeps_by m m old new marks fewer (ap (held_with m.settled) at.beside) few (λ x c. absurd (none_in m.doubt (new m.target) x (none (λ e. cc e)) c))
  failed_keeps Head fewer at few next none body shown = keeps_by m m old new marks fewer (ap (held_with m.settled) at.beside) few (λ x c. absurd (none_in m.doubt (new m.target) x (none (λ e. cc e)) c))
  failed_keeps Gate fewer at few next none body shown =
      let whole : take h.length (new m.target).body ≡ content = ap (λ (b : List ℕ). take h.length b) at.leaves.1 ∙ body refl in
      let held = job_held m old h (new m.target).body content mark next at.next whole shown in
      keeps_by m (record m { doubt = Some h }) old new marks fewer (ap (held_with m.settled) at.beside) few
      (λ x c. Contains-append_left (left_on (settled_of m old) marks) (doubts_as m.doubt (old m.target)) x
      (subst (λ (y : Held). Contains (left_on (settled_of m old) marks) y) (sym (has_one (held_by h (new m.target).body) x c ∙ held)) (has_first (held_next mark (settled_of m old)) [])))

  -- so whatever it leaves to be found was possible
  pub found_behind : (step : SlotStep) → IsAtStep p pages size h content step m old new → HasNext m.settled → (step ≢ EraseHead → m.doubt ≡ None)
      → (step ≡ Gate → take h.length (old m.target).body ≡ content) → mark_shown h.kind content ≡ mark → IsPossible (slot_told m old marks) (found_of p size new)
  found_behind step at next none body shown =
      let keeps = failed_keeps step marks at (same_marks marks) next none body shown in
      possible_through (slot_told m old marks) (slot_told (memory_failed step h m) new marks) (found_of p size new) keeps
      (found_possible p size (memory_failed step h m) new marks (failed_steps_hold p pages size h content step m old new at))

  -- done, but for the gate
  pub done_keeps : (step : SlotStep) (fewer : List Mark) → step ≢ Gate → IsAtStep p pages size h content step m old new → AreFewer fewer marks → (step ≢ EraseHead → m.doubt ≡ None)
      → Keeps (slot_told m old marks) (slot_told (memory_done step h m) new fewer)
  done_keeps EraseHead fewer no_gate at few none = keeps_by m (record m { doubt = None }) old new marks fewer (ap (held_with m.settled) at.beside) few (λ x c. absurd (has_none x c))
  done_keeps EraseBody fewer no_gate at few none = keeps_by m m old new marks fewer (ap (held_with m.settled) at.beside) few (λ x c. absurd (none_in m.doubt (new m.target) x (none (λ e. cc e)) c))
  done_keeps (Body i) fewer no_gate at few none = keeps_by m m old new marks fewer (ap (held_with m.settled) at.beside) few (λ x c. absurd (none_in m.doubt (new m.target) x (none (λ e. cc e)) c))
  done_keeps Head fewer no_gate at few none = keeps_by m m old new marks fewer (ap (held_with m.settled) at.beside) few (λ x c. absurd (none_in m.doubt (new m.target) x (none (λ e. cc e)) c))
  done_keeps Gate fewer no_gate at few none = absurd (no_gate refl)

  -- and the gate: the mark is settled
  pub gate_settles : IsAtStep p pages size h content Gate m old new → HasNext m.settled → take h.length (new m.target).body ≡ content → mark_shown h.kind content ≡ mark
      → SettlesAs mark (slot_told m old marks) (slot_told (memory_done Gate h m) new [])
  gate_settles at next whole shown = record {
    settled = ap (λ (t : Which). held_by h (new t).body) (twice m.target) ∙ job_held m old h (new m.target).body content mark next at.next whole shown;
    doubts = refl;
  }
    where
      twice : (t : Which) → other (other t) ≡ t
      twice Slot0 = refl
      twice Slot1 = refl

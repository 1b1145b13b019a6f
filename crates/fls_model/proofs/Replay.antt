-- a change of a flash in memory
use Rattle.std.specs.Prelude.{nat_le, true, false, IsSome}
use Rattle.std.proofs.Common.{inl, inr, ◌≡◌, ◌<◌, ◌≤◌, ℕ, ◌+◌, ◌-◌, List, [], ◌∷◌, ◌++◌, length, take, set, refl, ap, sym, ◌∙◌, arith, ◌^◌}
use Rattle.std.proofs.lemmas.List.{length-set, take_more_set}
use Rattle.std.proofs.lemmas.Bool.{cases_lt, cases_Bool, le-leb, lt-leb}
use Rattle.nv_base.specs.Count.{next_count}
use Rattle.fls_model.specs.declared.memory.MemFlash.TheInside.{Inside}
use Rattle.fls_model.specs.declared.flash.FlashAnswer.TheVariants.{Done}
use Rattle.fls_model.specs.declared.call.Call.{Call}
use Rattle.nv_base.specs.declared.geometry.Geometry.{Geometry}
use Rattle.fls_model.specs.Call.{op_of}
use Rattle.fls_model.specs.Op.{after_op, MayLeave}
use Rattle.fls_model.specs.Told.{Change, changes_in}
use Rattle.fls_model.specs.Step.{Notes, IsAsked}
use Rattle.fls_model.specs.MemoryInside.{replay, replayed, IsKept, in_memory_of}

-- one call more
replay_push : (g : Geometry) (bytes : List ℕ) (cs : List Call) (c : Call) → replay g bytes (cs ++ c ∷ []) ≡ replay g bytes cs ++ record { op = op_of g c; before = replayed g bytes cs; answer = Done } ∷ []
replay_push g bytes [] c = refl
replay_push g bytes (x ∷ cs) c = ap (λ (l : List Change). record { op = op_of g x; before = bytes; answer = Done } ∷ l) (replay_push g (after_op (op_of g x) bytes) cs c)

replayed_push : (g : Geometry) (bytes : List ℕ) (cs : List Call) (c : Call) → replayed g bytes (cs ++ c ∷ []) ≡ after_op (op_of g c) (replayed g bytes cs)
replayed_push g bytes [] c = refl
replayed_push g bytes (x ∷ cs) c = replayed_push g (after_op (op_of g x) bytes) cs c

replay_more : (g : Geometry) (bytes : List ℕ) (cs : List Call) (i : ℕ) (c : Call) → i < length cs → replay g bytes (take (i + 1) (set cs i c)) ≡ replay g bytes (take i cs) ++ record { op = op_of g c; before = replayed g bytes (take i cs); answer = Done } ∷ []
replay_more g bytes cs i c lt = ap (λ (l : List Call). replay g bytes l) (take_more_set cs i c lt) ∙ replay_push g bytes (take i cs) c

replayed_more : (g : Geometry) (bytes : List ℕ) (cs : List Call) (i : ℕ) (c : Call) → i < length cs → replayed g bytes (take (i + 1) (set cs i c)) ≡ after_op (op_of g c) (replayed g bytes (take i cs))
replayed_more g bytes cs i c lt = ap (λ (l : List Call). replayed g bytes l) (take_more_set cs i c lt) ∙ replayed_push g bytes (take i cs) c

-- a change of an attached one, as its fields show it
pub record Changes (m n : Inside) (call : Call) : Type 0 where
  pub attached : 0 < m.geometry.page
  pub geometry : n.geometry ≡ m.geometry
  pub first : n.first ≡ m.first
  pub room : n.room ≡ m.room
  pub bytes : n.bytes.items ≡ after_op (op_of m.geometry call) m.bytes.items
  pub within : MayLeave (op_of m.geometry call) m.bytes.items n.bytes.items
  pub calls : n.calls.items ≡ set m.calls.items m.asked call
  pub asked : n.asked ≡ next_count m.asked
  pub ops : n.ops ≡ next_count m.ops
  pub small : m.room < 2 ^ 32

kept_same : (m n : Inside) (call : Call) → IsKept m → Changes m n call → n.asked ≤ n.room → n.bytes.items ≡ replayed n.geometry n.first.items (take n.asked n.calls.items)
kept_same m n call kept changes le =
    let full : length m.calls.items ≡ m.room = kept.room changes.attached in
    let is : n.asked ≡ m.asked + 1 = omega (arith, changes.small, changes.asked, changes.room) in
    let lt : m.asked < length m.calls.items = omega (arith, changes.room) in
    changes.bytes ∙ ap (after_op (op_of m.geometry call)) (kept.same changes.attached (omega arith) (omega arith)) ∙ sym (replayed_more m.geometry m.first.items m.calls.items m.asked call lt)
    ∙ sym (ap (λ (l : List Call). replayed m.geometry m.first.items (take (m.asked + 1) l)) changes.calls)
    ∙ (λ i. replayed (sym changes.geometry i) (sym changes.first i).items (take (sym is i) n.calls.items))

pub notes_more : (m n : Inside) (call : Call) → IsKept m → Changes m n call → Notes (record { op = op_of m.geometry call; before = m.bytes.items; answer = Done }) (changes_in (in_memory_of m).told.bytes) (changes_in (in_memory_of n).told.bytes)
notes_more m n call kept changes =
    let full : length m.calls.items ≡ m.room = kept.room changes.attached in
    elim (cases_lt m.asked m.room) [
      | inl lt ↦
          let is : n.asked ≡ m.asked + 1 = omega (arith, changes.small, changes.asked) in
          let before : nat_le m.asked m.room ≡ true = le-leb _ _ (omega arith) in
          let after : nat_le n.asked n.room ≡ true = le-leb _ _ (omega (arith, changes.room)) in
          let what : replay n.geometry n.first.items (take n.asked n.calls.items) ≡ replay m.geometry m.first.items (take m.asked m.calls.items) ++ record { op = op_of m.geometry call; before = m.bytes.items; answer = Done } ∷ [] =
          (λ i. replay (changes.geometry i) (changes.first i).items (take (is i) (changes.calls i))) ∙ replay_more m.geometry m.first.items m.calls.items m.asked call (omega arith)
          ∙ ap (λ (b : List ℕ). replay m.geometry m.first.items (take m.asked m.calls.items) ++ record { op = op_of m.geometry call; before = b; answer = Done } ∷ []) (sym (kept.same changes.attached (omega arith) (omega arith))) in
          rw (before, after) what
      | inr ge ↦
          let after : nat_le n.asked n.room ≡ false = lt-leb _ _ (omega (arith, changes.small, changes.asked, changes.room)) in
          elim (cases_Bool (nat_le m.asked m.room)) [ inl e ↦ rw (e, after) tt | inr e ↦ rw (e, after) tt ]
    ]

-- its list has a place less
room_more : (m n : Inside) (call : Call) → Changes m n call → (k : ℕ) → k + 1 ≤ m.room - m.asked → IsSome (changes_in (in_memory_of n).told.bytes) × (k ≤ n.room - n.asked)
room_more m n call changes k le =
    let is : nat_le n.asked n.room ≡ true = le-leb _ _ (omega (arith, changes.asked, changes.room)) in
    (rw is refl, omega (arith, changes.asked, changes.room))

pub asked_more : (m n : Inside) (call : Call) → IsKept m → Changes m n call → IsAsked (op_of m.geometry call) (in_memory_of m).told Done (in_memory_of n).told
asked_more m n call kept changes = record {
  geometry = changes.geometry;
  ops = changes.ops;
  bytes = record { bytes = changes.bytes; within = changes.within; changes = notes_more m n call kept changes; room = λ k tells. room_more m n call changes k tells.1 };
  cause = (refl, refl, refl);
  planning = record { early = λ due. due; planning = refl };
  counted = inl (omega arith);
}

pub kept_more : (m n : Inside) (call : Call) → IsKept m → Changes m n call → length n.bytes.items ≡ length m.bytes.items → IsKept n
kept_more m n call kept changes size = record {
  page = rw changes.geometry kept.page;
  size = rw changes.geometry (omega (arith, kept.size));
  small = rw changes.geometry kept.small;
  none = rw changes.geometry kept.none;
  room = λ _. ap length changes.calls ∙ length-set m.calls.items m.asked call ∙ kept.room changes.attached ∙ sym changes.room;
  same = λ _ _ le. kept_same m n call kept changes le;
}

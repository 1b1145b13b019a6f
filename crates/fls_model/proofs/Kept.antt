-- Operations keep the bytes of a flash bytes, and as many.
use Rattle.std.proofs.Common.{◌≡◌, inl, inr, ◌<◌, ℕ, zero, suc, ◌+◌, ◌-◌, Bool, true, false, List, [], ◌∷◌, take, drop, get_or, Option, Some, None, IfSome, sym, ◌∙◌, subst, arith}
use Rattle.std.proofs.lemmas.Bool.{cases_lt}
use Rattle.std.proofs.lemmas.List.{get_or-take, get_or-drop}
use Rattle.nv_base.specs.declared.geometry.Geometry.{Geometry}
use Rattle.fls_model.specs.declared.flash.FlashAnswer.{FlashAnswer}
use Rattle.fls_model.specs.Attach.{AreBytesOf}
use Rattle.fls_model.specs.Bytes.{AreBytes, Grown, piece}
use Rattle.fls_model.specs.Laws.{StepsKeepBytes, RangesKeepBytes}
use Rattle.fls_model.specs.Op.{Op, Program, Erase, MayLeave}
use Rattle.fls_model.specs.Step.{OffOrAsked, IsChanged}
use Rattle.fls_model.specs.Told.{Told, ToldBytes, IfBothTold}

grown_bytes : (xs ys : List ℕ) → Grown xs ys → AreBytes xs → AreBytes ys
grown_bytes [] [] grown small k = small k
grown_bytes [] (y ∷ ys) grown small k = absurd grown
grown_bytes (x ∷ xs) [] grown small k = absurd grown
grown_bytes (x ∷ xs) (y ∷ ys) grown small zero = grown.1 (small 0)
grown_bytes (x ∷ xs) (y ∷ ys) grown small (suc k) = grown_bytes xs ys grown.2 (λ i. small (suc i)) k

same_at : (i : ℕ) (xs ys : List ℕ) → xs ≡ ys → get_or ys i 0 < 256 → get_or xs i 0 < 256
same_at i xs ys same small = subst (λ (l : List ℕ). get_or l i 0 < 256) (sym same) small

take_bytes : (n : ℕ) (bytes : List ℕ) → AreBytes bytes → AreBytes (take n bytes)
take_bytes zero bytes small k = omega arith
take_bytes (suc n) [] small k = omega arith
take_bytes (suc n) (x ∷ xs) small zero = small 0
take_bytes (suc n) (x ∷ xs) small (suc k) = take_bytes n xs (λ i. small (suc i)) k

piece_bytes : (a n : ℕ) (bytes : List ℕ) → AreBytes bytes → AreBytes (piece a n bytes)
piece_bytes a n bytes small = take_bytes n (drop a bytes) (λ i. rw (get_or-drop a bytes i 0) (small (a + i)))

-- in front of the range, in it, and behind it
pub ranges_keep_bytes : RangesKeepBytes
ranges_keep_bytes a n old new same small inside k = elim (cases_lt k a) [
  | inl front ↦ rw (← get_or-take a new k 0 front) (same_at k (take a new) (take a old) same.front (rw (get_or-take a old k 0 front) (small k)))
  | inr from ↦ elim (cases_lt k (a + n)) [
    | inl within ↦
        let at : a + (k - a) ≡ k = omega arith in
        let here : get_or (drop a new) (k - a) 0 < 256 = rw (← get_or-take n (drop a new) (k - a) 0 (omega arith)) (inside (k - a)) in
        subst (λ (i : ℕ). get_or new i 0 < 256) at (rw (← get_or-drop a new (k - a) 0) here)
    | inr behind ↦
        let at : a + n + (k - (a + n)) ≡ k = omega arith in
        let here : get_or (drop (a + n) new) (k - (a + n)) 0 < 256 = same_at (k - (a + n)) (drop (a + n) new) (drop (a + n) old) same.back (rw (get_or-drop (a + n) old (k - (a + n)) 0) (small (a + n + (k - (a + n))))) in
        subst (λ (i : ℕ). get_or new i 0 < 256) at (rw (← get_or-drop (a + n) new (k - (a + n)) 0) here)
  ]
]

-- what a cut may leave
pub leaves_bytes : (g : Geometry) (op : Op) (old new : List ℕ) → MayLeave op old new → AreBytesOf g old → AreBytesOf g new
leaves_bytes g (Program a page) old new leaves are = record { size = leaves.0.size ∙ are.size; bytes = leaves.1 are.bytes }
leaves_bytes g (Erase a n) old new leaves are = record {
  size = leaves.0.size ∙ are.size;
  bytes = ranges_keep_bytes a n old new leaves.0 are.bytes (grown_bytes (piece a n old) (piece a n new) leaves.1 (piece_bytes a n old are.bytes));
}

told_bytes : (g : Geometry) (op : Op) (a : FlashAnswer) (old new : Option ToldBytes) → IfBothTold old new (IsChanged op a) → IfSome old (λ b. AreBytesOf g b.now) → IfSome new (λ b. AreBytesOf g b.now)
told_bytes g op a None None changed are = tt
told_bytes g op a None (Some new) changed are = absurd changed
told_bytes g op a (Some old) None changed are = absurd changed
told_bytes g op a (Some old) (Some new) changed are = leaves_bytes g op old.now new.now changed.within are

by_off : (off : Bool) (g : Geometry) (op : Op) (s : Told) (answer : FlashAnswer) (t : Told) → OffOrAsked off op s answer t → IfSome s.bytes (λ b. AreBytesOf g b.now) → IfSome t.bytes (λ b. AreBytesOf g b.now)
by_off true g op s answer t step are = subst (λ (u : Told). IfSome u.bytes (λ b. AreBytesOf g b.now)) (sym step.1) are
by_off false g op s answer t step are = told_bytes g op answer s.bytes t.bytes step.bytes are

pub steps_keep_bytes : StepsKeepBytes
steps_keep_bytes g op s answer t step are = by_off s.off g op s answer t step are

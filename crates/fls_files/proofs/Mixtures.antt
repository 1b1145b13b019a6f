-- bytes of which each is the old one or the new one
use Rattle.std.proofs.Common.{◌≡◌, ◌<◌, ℕ, zero, suc, ◌+◌, List, [], ◌∷◌, length, take, drop, refl, ap, sym, ◌∙◌, subst, inl, inr, arith}
use Rattle.std.specs.Int.Bits.{and_self}
use Rattle.fls_model.specs.Bytes.{piece, AreBytes, SameOutside, Grown}
use Rattle.fls_model.specs.Op.{Op, Program, Erase, MayLeave}
use Rattle.fls_files.specs.ByteFile.{Mixed}

pub mixed_length : (xs ys zs : List ℕ) → Mixed xs ys zs → length zs ≡ length xs
mixed_length [] [] [] mixed = refl
mixed_length [] [] (z ∷ zs) mixed = absurd mixed
mixed_length [] (y ∷ ys) zs mixed = absurd mixed
mixed_length (x ∷ xs) [] zs mixed = absurd mixed
mixed_length (x ∷ xs) (y ∷ ys) [] mixed = absurd mixed
mixed_length (x ∷ xs) (y ∷ ys) (z ∷ zs) mixed = ap suc (mixed_length xs ys zs mixed.1)

pub mixed_new : (xs ys : List ℕ) → length ys ≡ length xs → Mixed xs ys ys
mixed_new [] [] is = tt
mixed_new [] (y ∷ ys) is = absurd (omega arith)
mixed_new (x ∷ xs) [] is = absurd (omega arith)
mixed_new (x ∷ xs) (y ∷ ys) is = (inr refl, mixed_new xs ys (omega arith))

pub mixed_old : (xs ys : List ℕ) → length ys ≡ length xs → Mixed xs ys xs
mixed_old [] [] is = tt
mixed_old [] (y ∷ ys) is = absurd (omega arith)
mixed_old (x ∷ xs) [] is = absurd (omega arith)
mixed_old (x ∷ xs) (y ∷ ys) is = (inl refl, mixed_old xs ys (omega arith))

-- mixed again with the new ones
pub mixed_again : (xs ys zs ws : List ℕ) → Mixed xs ys zs → Mixed zs ys ws → Mixed xs ys ws
mixed_again [] [] [] ws mixed again = again
mixed_again [] [] (z ∷ zs) ws mixed again = absurd mixed
mixed_again [] (y ∷ ys) zs ws mixed again = absurd mixed
mixed_again (x ∷ xs) [] zs ws mixed again = absurd mixed
mixed_again (x ∷ xs) (y ∷ ys) [] ws mixed again = absurd mixed
mixed_again (x ∷ xs) (y ∷ ys) (z ∷ zs) [] mixed again = absurd again
mixed_again (x ∷ xs) (y ∷ ys) (z ∷ zs) (w ∷ ws) mixed again = (
  elim again.0 [ inl e ↦ elim mixed.0 [ inl f ↦ inl (e ∙ f) | inr f ↦ inr (e ∙ f) ] | inr e ↦ inr e ],
  mixed_again xs ys zs ws mixed.1 again.1,
)

-- mixed of two that are
pub mixed_both : (xs ys us vs ws : List ℕ) → Mixed xs ys us → Mixed xs ys vs → Mixed us vs ws → Mixed xs ys ws
mixed_both [] [] [] [] ws one two both = both
mixed_both [] [] [] (v ∷ vs) ws one two both = absurd two
mixed_both [] [] (u ∷ us) vs ws one two both = absurd one
mixed_both [] (y ∷ ys) us vs ws one two both = absurd one
mixed_both (x ∷ xs) [] us vs ws one two both = absurd one
mixed_both (x ∷ xs) (y ∷ ys) [] vs ws one two both = absurd one
mixed_both (x ∷ xs) (y ∷ ys) (u ∷ us) [] ws one two both = absurd two
mixed_both (x ∷ xs) (y ∷ ys) (u ∷ us) (v ∷ vs) [] one two both = absurd both
mixed_both (x ∷ xs) (y ∷ ys) (u ∷ us) (v ∷ vs) (w ∷ ws) one two both = (
  elim both.0 [ inl e ↦ elim one.0 [ inl f ↦ inl (e ∙ f) | inr f ↦ inr (e ∙ f) ] | inr e ↦ elim two.0 [ inl f ↦ inl (e ∙ f) | inr f ↦ inr (e ∙ f) ] ],
  mixed_both xs ys us vs ws one.1 two.1 both.1,
)

-- before a place, and from it on
mixed_parts : (n : ℕ) (xs ys zs : List ℕ) → Mixed xs ys zs → Mixed (take n xs) (take n ys) (take n zs) × Mixed (drop n xs) (drop n ys) (drop n zs)
mixed_parts zero xs ys zs mixed = (tt, mixed)
mixed_parts (suc n) [] [] [] mixed = (tt, tt)
mixed_parts (suc n) [] [] (z ∷ zs) mixed = absurd mixed
mixed_parts (suc n) [] (y ∷ ys) zs mixed = absurd mixed
mixed_parts (suc n) (x ∷ xs) [] zs mixed = absurd mixed
mixed_parts (suc n) (x ∷ xs) (y ∷ ys) [] mixed = absurd mixed
mixed_parts (suc n) (x ∷ xs) (y ∷ ys) (z ∷ zs) mixed = let rest = mixed_parts n xs ys zs mixed.1 in ((mixed.0, rest.0), rest.1)

-- where both are alike
pub mixed_same : (xs zs : List ℕ) → Mixed xs xs zs → zs ≡ xs
mixed_same [] [] mixed = refl
mixed_same [] (z ∷ zs) mixed = absurd mixed
mixed_same (x ∷ xs) [] mixed = absurd mixed
mixed_same (x ∷ xs) (z ∷ zs) mixed =
    let here : z ≡ x = elim mixed.0 [ inl e ↦ e | inr e ↦ e ] in
    (λ i. here i ∷ mixed_same xs zs mixed.1 i)

mixed_outside : (a n : ℕ) (xs ys zs : List ℕ) → SameOutside a n xs ys → Mixed xs ys zs → SameOutside a n xs zs
mixed_outside a n xs ys zs same mixed = record {
  size = mixed_length xs ys zs mixed;
  front = mixed_same (take a xs) (take a zs) (subst (λ (l : List ℕ). Mixed (take a xs) l (take a zs)) same.front (mixed_parts a xs ys zs mixed).0);
  back = mixed_same (drop (a + n) xs) (drop (a + n) zs) (subst (λ (l : List ℕ). Mixed (drop (a + n) xs) l (drop (a + n) zs)) same.back (mixed_parts (a + n) xs ys zs mixed).1);
}

mixed_bytes : (xs ys zs : List ℕ) → Mixed xs ys zs → AreBytes xs → AreBytes ys → AreBytes zs
mixed_bytes [] [] [] mixed old new k = old k
mixed_bytes [] [] (z ∷ zs) mixed old new k = absurd mixed
mixed_bytes [] (y ∷ ys) zs mixed old new k = absurd mixed
mixed_bytes (x ∷ xs) [] zs mixed old new k = absurd mixed
mixed_bytes (x ∷ xs) (y ∷ ys) [] mixed old new k = absurd mixed
mixed_bytes (x ∷ xs) (y ∷ ys) (z ∷ zs) mixed old new zero = elim mixed.0 [ inl e ↦ subst (λ (n : ℕ). n < 256) (sym e) (old 0) | inr e ↦ subst (λ (n : ℕ). n < 256) (sym e) (new 0) ]
mixed_bytes (x ∷ xs) (y ∷ ys) (z ∷ zs) mixed old new (suc k) = mixed_bytes xs ys zs mixed.1 (λ i. old (suc i)) (λ i. new (suc i)) k

mixed_grown : (xs ys zs : List ℕ) → Grown xs ys → Mixed xs ys zs → Grown xs zs
mixed_grown [] [] [] grown mixed = tt
mixed_grown [] [] (z ∷ zs) grown mixed = absurd mixed
mixed_grown [] (y ∷ ys) zs grown mixed = absurd mixed
mixed_grown (x ∷ xs) [] zs grown mixed = absurd mixed
mixed_grown (x ∷ xs) (y ∷ ys) [] grown mixed = absurd mixed
mixed_grown (x ∷ xs) (y ∷ ys) (z ∷ zs) grown mixed = elim mixed.0 [
  | inl e ↦ rw e (and_self x, λ h. h, mixed_grown xs ys zs grown.2 mixed.1)
  | inr e ↦ rw e (grown.0, grown.1, mixed_grown xs ys zs grown.2 mixed.1)
]

-- a part of what an operation left it may leave
pub mixed_within : (op : Op) (old new some : List ℕ) → MayLeave op old new → Mixed old new some → MayLeave op old some
mixed_within (Program a page) old new some may mixed = (mixed_outside a (length page) old new some may.0 mixed, λ bytes. mixed_bytes old new some mixed bytes (may.1 bytes))
mixed_within (Erase a n) old new some may mixed = (
  mixed_outside a n old new some may.0 mixed,
  mixed_grown (piece a n old) (piece a n new) (piece a n some) may.1 (mixed_parts n (drop a old) (drop a new) (drop a some) (mixed_parts a old new some mixed).1).0,
)

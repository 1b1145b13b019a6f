-- Whether a count rose.
use Rattle.nvm_moves.proofs.Common.{◌⊎◌, inl, inr, ℕ, ◌+◌, ◌<◌, ◌≤◌, arith, Rose, last_count, min, leb_tells}

pub rose_or : (a b : ℕ) → Rose a b ⊎ ¬ Rose a b
rose_or a b = elim (leb_tells b a) [
  | inl past ↦ elim (leb_tells last_count a) [
    | inl full ↦ elim (leb_tells a b) [ inl same ↦ inl (inr (full.1, same.1)) | inr less ↦ inr (never (inr less.1)) ]
    | inr few ↦ inr (never (inl (past.1, few.1)))
  ]
  | inr more ↦ inl (inl more.1)
]
  where
    never : ((b ≤ a) × (a < last_count)) ⊎ (b < a) → Rose a b → ⊥
    never (inl (past, few)) (inl up) = omega (arith, up, past)
    never (inl (past, few)) (inr full) = omega (arith, full.0, few)
    never (inr less) (inl up) = omega (arith, up, less)
    never (inr less) (inr full) = omega (arith, full.1, less)

-- one count of a sum that doesn't fall
pub rose_in : (a b s t : ℕ) → s ≤ t → Rose a b → Rose (min (a + s) last_count) (min (b + t) last_count)
rose_in a b s t more (inl up) = elim (leb_tells last_count (a + s)) [
  | inl full ↦ let end = full.1 in inr (omega (arith, end), omega (arith, end, up, more))
  | inr few ↦ let less = few.1 in inl (omega (arith, less, up, more))
]
rose_in a b s t more (inr full) = inr (omega (arith, full.0), omega (arith, full.0, full.1, more))

-- A block that changes, but not in this field: it stays as it was in every block.
use Rattle.std.specs.Prelude.{slice_set, get_or}
use Rattle.std.proofs.Common.{◌≡◌, ℕ, zero, suc, List, [], ◌∷◌, refl}
use Rattle.block_machine.specs.State.{BlockState}
use Rattle.block_machine.specs.Blocks.{no_block}

pub field_kept : {X : Type 0} (field : BlockState → X) (bs : List BlockState) (id : ℕ) (b : BlockState) (n : ℕ) → field b ≡ field (get_or bs id no_block)
    → field (get_or (slice_set bs id b) n no_block) ≡ field (get_or bs n no_block)
field_kept field [] id b n same = refl
field_kept field (x ∷ bs) zero b zero same = same
field_kept field (x ∷ bs) zero b (suc n) same = refl
field_kept field (x ∷ bs) (suc id) b zero same = refl
field_kept field (x ∷ bs) (suc id) b (suc n) same = field_kept field bs id b n same

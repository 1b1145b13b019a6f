-- The devices of blocks.
use Rattle.std.proofs.Common.{◌≡◌, ◌∙◌, ◌==◌, ℕ, ◌+◌, true, List, [], ◌∷◌, get_or, Some, None, is_none, refl, ap, All}
use Rattle.std.proofs.lemmas.List.Elements.{All-nil, All-cons}
use Rattle.std.proofs.lemmas.List.Sums.{AllPass-from_list_all}
use Rattle.block_config.specs.declared.block.BlockDesc.{BlockDesc}
use Rattle.block_config.specs.Laws.{BlocksAreFirst, LengthsAreFirst}
use Rattle.block_config.specs.Lengths.{lengths_from, lengths_by}
use Rattle.block_config.specs.Second.{are_first, fits_in, too_long}
use Rattle.block_config.proofs.Faults.{kept_and_later}
use Rattle.block_config.proofs.LegalItem.{both_true, equal_from_test}

-- where none is too long each fits
pub all_fit : (sector id : ℕ) (bs : List BlockDesc) → too_long sector id bs ≡ None → All (λ (b : BlockDesc). fits_in sector b ≡ true) bs
all_fit sector id [] h = All-nil (λ (b : BlockDesc). fits_in sector b ≡ true)
all_fit sector id (b ∷ bs) h =
    let here = kept_and_later (fits_in sector b) (too_long sector (id + 1) bs) id h in
    All-cons (λ (x : BlockDesc). fits_in sector x ≡ true) b bs here.0 (all_fit sector (id + 1) bs here.1)

all_there : (id : ℕ) (bs : List BlockDesc) → are_first bs ≡ true → lengths_by (Some 0) id bs ≡ lengths_from id bs
all_there id [] h = refl
all_there id (b ∷ bs) h =
    let both = both_true (b.device == 0) (are_first bs) h in
    rw (both.0, all_there (id + 1) bs both.1) refl

pub blocks_are_first : BlocksAreFirst
blocks_are_first c legal none =
    let each = AllPass-from_list_all (λ (b : BlockDesc). b.device == 0) c.blocks (legal.one_device ∙ ap is_none none) in
    λ k b lt. equal_from_test (get_or c.blocks k b).device 0 (each k b lt)

pub lengths_are_first : LengthsAreFirst
lengths_are_first c legal none = all_there 1 c.blocks (legal.one_device ∙ ap is_none none)

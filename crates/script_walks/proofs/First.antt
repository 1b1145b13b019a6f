-- The stores before the first one.
use Rattle.std.specs.Prelude.{slice_get}
use Rattle.std.specs.Option.{unwrap_or}
use Rattle.std.proofs.Common.{◌≡◌, ℕ, zero, suc, true, List, [], ◌∷◌, map, get_or, replicate, refl, sym, subst}
use Rattle.block_machine.specs.block_config.declared.block.BlockDesc.{BlockDesc}
use Rattle.block_machine.specs.block_config.Block.{plain_block}
use Rattle.block_machine.specs.Blocks.{is_synchronized}
use Rattle.ram_blocks.specs.Plain.{store_of, plain_of}
use Rattle.script_walks.specs.Stores.{IsNewest}
use Rattle.script_walks.specs.StoreLaws.{FirstAreNewest}

first_content : BlockDesc → List ℕ
first_content d = unwrap_or d.defaults (replicate d.length 0)

first_in : (blocks : List BlockDesc) (i : ℕ) → is_synchronized (unwrap_or (slice_get blocks i) (plain_block 0)).ram ≡ true
    → get_or (map store_of (map plain_of blocks)) i (0, []) ≡ (0, first_content (unwrap_or (slice_get blocks i) (plain_block 0)))
unfolding first_content
first_in [] i sync = cc
first_in (d ∷ ds) zero sync = rw sync refl
first_in (d ∷ ds) (suc i) sync = first_in ds i sync

pub first_are_newest : FirstAreNewest
unfolding first_content
first_are_newest c zero sync = cc
first_are_newest c (suc i) sync =
    let d : BlockDesc = unwrap_or (slice_get c.blocks i) (plain_block 0) in
    subst (λ (y : ℕ × List ℕ). IsNewest c [] (suc i) y) (sym (first_in c.blocks i sync)) (record { number = refl; content = refl })

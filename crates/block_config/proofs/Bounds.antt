-- Blocks that keep their rules are small enough to be numbered and added up.
use Rattle.std.proofs.Common.{◌≡◌, ◌<◌, ◌≤◌, ℕ, List, [], ◌∷◌, length, get_or, sym, subst, arith, All}
use Rattle.std.proofs.lemmas.List.Elements.{All-cons}
use Rattle.block_config.specs.declared.block.BlockDesc.{BlockDesc}
use Rattle.block_config.specs.declared.block.BlockKind.{BlockKind}
use Rattle.block_config.specs.declared.block.BlockKind.TheVariants.{Native, Redundant, Dataset}
use Rattle.block_config.specs.Block.{instance_count, manager_block}
use Rattle.block_config.specs.Rules.{AreBlocks, IsDatasetCount, IsLegalBlock}
use Rattle.block_config.specs.Sizes.{IsBounded}

-- a block that has bytes, and is small enough
pub record HasSize (b : BlockDesc) : Type 0 where
  pub some : 1 ≤ b.length
  pub bounded : IsBounded b

few_instances : (kind : BlockKind) (nv : ℕ) → IsDatasetCount kind nv → instance_count kind nv ≤ 64
few_instances Native nv count = omega arith
few_instances Redundant nv count = omega arith
few_instances Dataset nv count = count.1

legal_size : (b : BlockDesc) → IsLegalBlock b → HasSize b
legal_size b legal =
    record {
      some = legal.content.low;
      bounded = record { instances = few_instances b.kind b.nv legal.datasets; content = omega (arith, legal.content.high) };
    }

manager_size : (id : ℕ) → HasSize (manager_block id)
manager_size id = record { some = omega arith; bounded = record { instances = omega arith; content = omega arith } }

have_sizes : (id : ℕ) (bs : List BlockDesc) → AreBlocks id bs → All HasSize bs
have_sizes id [] are = absurd are
have_sizes id (b ∷ bs) are =
    All-cons HasSize b bs (subst HasSize (sym are.0) (manager_size id)) (λ k d lt. legal_size (get_or bs k d) (are.1 k d lt))

pub are_bounded : (id : ℕ) (bs : List BlockDesc) → AreBlocks id bs → All IsBounded bs
are_bounded id bs are = λ k d lt. (have_sizes id bs are k d lt).bounded

-- each block of such a list has a size
pub has_size : (id : ℕ) (bs xs : List BlockDesc) (k : ℕ) (b : BlockDesc) → AreBlocks id bs → xs ≡ bs → k < length xs → b ≡ get_or xs k b → HasSize b
has_size id bs xs k b are same within is =
    let all : AreBlocks id xs = subst (AreBlocks id) (sym same) are in
    subst HasSize (sym is) (have_sizes id xs all k b within)

use Rattle.std.proofs.Common.{◌≡◌, ◌<◌, ◌*◌, ℕ, ◌+◌, max, List, length, get_or, take, arith}
use Rattle.std.proofs.lemmas.Grind.{common_steps}
use Rattle.std.proofs.lemmas.List.Sums.{fold_more, sum_by_more}
use Rattle.block_config.specs.declared.block.BlockDesc.{BlockDesc}
use Rattle.block_config.specs.Sizes.{instances_of, size_of, urgent_pages, second_count, measures_of}
use Rattle.block_config.proofs.sizes.measures_of.Goals as goal

-- the measures with one more block
measures_of-more : (page : ℕ) (bs : List BlockDesc) (i : ℕ) (b : BlockDesc) → i < length bs → b ≡ get_or bs i b → measures_of page (take (i + 1) bs) ≡ record { instances = (measures_of page (take i bs)).instances + instances_of b; all = (measures_of page (take i bs)).all + instances_of b * size_of page b; greatest = max (measures_of page (take i bs)).greatest (size_of page b); urgent = max (measures_of page (take i bs)).urgent (urgent_pages page b); second = (measures_of page (take i bs)).second + second_count b }
measures_of-more page bs i b within is =
    let count = sum_by_more instances_of bs i b within in
    let all = sum_by_more (λ (x : BlockDesc). instances_of x * size_of page x) bs i b within in
    let size = fold_more (λ (m : ℕ) (x : BlockDesc). max m (size_of page x)) 0 bs i b within in
    let urgent = fold_more (λ (m : ℕ) (x : BlockDesc). max m (urgent_pages page x)) 0 bs i b within in
    let second = sum_by_more second_count bs i b within in
    rw (count, all, size, urgent, second, ← is)

pub loop-block-preserved : goal.loop-block-preserved
loop-block-preserved c =
    let bounded = c.requires.bounded c.loop-block.block-index c.block-item.result (omega arith) in
    let more = measures_of-more c.args.page c.args.blocks.now c.loop-block.block-index c.block-item.result (omega arith) c.block-item.is in
    (cc, grind (arith, common_steps), grind (arith, common_steps), grind (arith, common_steps))

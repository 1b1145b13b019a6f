use Rattle.std.proofs.Common.{rules, All, ◌≡◌, ◌≤◌, ◌+◌, refl, sym, map, length, subst, arith}
use Rattle.std.proofs.lemmas.List.{length-map}
use Rattle.std.proofs.lemmas.List.Elements.{All-cons}
use Rattle.serde_json.specs.View.{view}
use Rattle.block_config.specs.declared.block.BlockDesc.{BlockDesc}
use Rattle.block_config.specs.Block.{manager_block}
use Rattle.block_config.specs.Item.{block_of}
use Rattle.block_config.specs.Rules.{AreBlocks}
use Rattle.block_config.proofs.Bounds.{are_bounded}
use Rattle.block_config.proofs.Faults.{blocks_legal, devices_legal}
use Rattle.block_config.proofs.reading.described.Goals as goal

pub measures_of-measures-requires-clause-bounded : goal.measures_of-measures-requires-clause-bounded
measures_of-measures-requires-clause-bounded c =
    let are = subst (AreBlocks c.args.head.id) (sym c.requires.blocks) (refl, blocks_legal (map view c.args.items.now) c.requires.kept) in
    rw c.deref.ensures.value (are_bounded c.args.head.id c.args.blocks.items are)

pub make-requires : goal.make-requires
make-requires c =
    let ds = map view c.args.items.now in
    let count : length c.args.blocks.items ≡ length c.args.items.now + 1 = rw (c.requires.blocks, length-map, length-map) (omega arith) in
    record {
      id = search rules;
      geometry = c.requires.geometry;
      standard = c.requires.standard;
      immediate = c.requires.immediate;
      blocks_low = omega (arith, count, c.requires.some);
      blocks_high = omega (arith, count, c.requires.few);
      blocks_legal = subst (AreBlocks c.args.head.id) (sym c.requires.blocks) (refl, blocks_legal ds c.requires.kept);
      instances = search rules;
      room = search rules;
      devices = subst (All (λ (b : BlockDesc). b.device ≤ 1)) (sym c.requires.blocks) (All-cons (λ (b : BlockDesc). b.device ≤ 1) (manager_block c.args.head.id) (map block_of ds) (omega arith) (devices_legal ds (sym c.in_default.ensures)));
      one_device = search rules;
      second = search rules;
      shared = search rules;
    }

use Rattle.std.proofs.Common.{◌+◌, option_map, Option, refl, subst, arith}
use Rattle.block_machine.specs.block_config.declared.block.BlockDesc.{BlockDesc}
use Rattle.ram_mirrors_sync.specs.Blocks.{IsMade}
use Rattle.ram_mirrors_sync.proofs.Blocks.{all_made, ends_made, sides_made, all_in, legal_all, one_more, synchronized_made}
use Rattle.ram_mirrors_sync.proofs.making.make.Goals as goal

pub loop-i-preserved : goal.loop-i-preserved
loop-i-preserved g c =
    let made = c.in_ok-made.made in
    let push = c.in_ok-push_block-2.ensures in
    one_more c.args.config.now (c.loop-i.i + 1) (c.loop-i.i + 1 + 1) _ _ _ _ _ _ (option_map (λ m. m.0) made) (option_map (λ m. m.1) made) (option_map (λ m. m.2) made) refl c.loop-i.invariant
    push.pairs push.ends push.sides
    (subst (λ (d : Option BlockDesc). IsMade (c.loop-i.i + 1) d (option_map (λ m. m.0) made) (option_map (λ m. m.1) made) (option_map (λ m. m.2) made)) c.block.ensures.value c.in_ok-made.ensures.made)

pub returns-clause-made : goal.returns-clause-made
returns-clause-made g c =
    all_made c.args.config.now (c.loop-i.i + 1) _ _ _ (omega (arith, c.blocks-i-end.ensures.count, c.loop-i-test.false, c.loop-i.auto.i-end)) c.loop-i.invariant

pub returns-clause-synchronized : goal.returns-clause-synchronized
returns-clause-synchronized g c = synchronized_made c.args.config.now _ _ _ (returns-clause-made g c)

pub returns-clause-ends : goal.returns-clause-ends
returns-clause-ends g c = ends_made c.args.config.now _ _ _ (returns-clause-made g c)

pub returns-clause-sides : goal.returns-clause-sides
returns-clause-sides g c = (sides_made c.args.config.now _ _ _ (returns-clause-made g c), all_in c.args.config.now _ _ _ (returns-clause-made g c))

pub block_of-requires : goal.block_of-requires
block_of-requires g c = record { legal = legal_all c.args.config.now.id (c.loop-i.i + 1) c.block.result (λ b. b.now) (omega arith) c.block.ensures.manager c.block.ensures.others }

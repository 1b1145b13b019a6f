use Rattle.std.proofs.Common.{◌≡◌, ◌+◌, length, take, ap, arith, refl}
use Rattle.std.proofs.lemmas.List.{take_more, length-take}
use Rattle.block_config.proofs.Bounds.{has_size}
use Rattle.block_config.proofs.Numbering.{lengths_by-push}
use Rattle.block_config.proofs.config.Config.lengths_by.Goals as goal

pub overflow_add-id : goal.overflow_add-id
overflow_add-id c =
    omega (arith, ap length c.deref-block-items.ensures.value, c.self.invariant.legal.blocks_high, c.loop-block.invariant.1)

pub add_stored-requires-clause-above : goal.add_stored-requires-clause-above
add_stored-requires-clause-above c = c.loop-block.invariant.2

pub add_stored-requires-clause-id : goal.add_stored-requires-clause-id
add_stored-requires-clause-id c =
    omega (arith, ap length c.deref-block-items.ensures.value, c.self.invariant.legal.blocks_high, c.loop-block.invariant.1)

pub add_stored-requires-clause-instances : goal.add_stored-requires-clause-instances
add_stored-requires-clause-instances c =
    (has_size c.self.inside.id c.self.inside.blocks.items c.deref-block-items.result.now c.loop-block.block-index c.block-item.result c.self.invariant.legal.blocks_legal c.deref-block-items.ensures.value (omega arith) c.block-item.is).bounded.instances

pub add_stored-requires-clause-some : goal.add_stored-requires-clause-some
add_stored-requires-clause-some c =
    (has_size c.self.inside.id c.self.inside.blocks.items c.deref-block-items.result.now c.loop-block.block-index c.block-item.result c.self.invariant.legal.blocks_legal c.deref-block-items.ensures.value (omega arith) c.block-item.is).some

pub add_stored-requires-clause-most : goal.add_stored-requires-clause-most
add_stored-requires-clause-most c =
    (has_size c.self.inside.id c.self.inside.blocks.items c.deref-block-items.result.now c.loop-block.block-index c.block-item.result c.self.invariant.legal.blocks_legal c.deref-block-items.ensures.value (omega arith) c.block-item.is).bounded.content

pub loop-block-preserved : goal.loop-block-preserved
loop-block-preserved c =
    let blocks = c.deref-block-items.result.now in
    let more = take_more blocks c.loop-block.block-index c.block-item.result (omega arith) in
    let front = take c.loop-block.block-index blocks in
    let id : 1 + length front ≡ c.loop-block.id + 1 = omega (arith, length-take c.loop-block.block-index blocks) in
    (rw (more, lengths_by-push, id, ← c.block-item.is, c.in_ok-add_stored.ensures.added, c.loop-block.invariant.0) refl, omega arith, c.in_ok-add_stored.ensures.below)

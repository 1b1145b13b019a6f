use Rattle.std.proofs.Common.{sym}
use Rattle.serde_json.specs.View.{view}
use Rattle.block_config.proofs.Faults.{rom_kept}
use Rattle.block_config.proofs.Descriptions.{few_items}
use Rattle.block_config.proofs.reading.config_of.Goals as goal

pub blocks_of-requires : goal.blocks_of-requires
blocks_of-requires c =
    rom_kept c.deref-2.result.now (rw (c.deref-2.ensures.value, ← c.deref.ensures.value) (sym c.in_default.ensures))

pub described-requires-clause-few : goal.described-requires-clause-few
described-requires-clause-few c =
    rw (c.deref-3.ensures.value, c.in_ok-items.ensures)
    (few_items (view c.args.value.now) c.in_ok-values.values.now (rw c.in_ok-values.ensures.ok_part at c.blocks_at.ensures)).1

use Rattle.std.proofs.Common.{option_copied}
use Rattle.block_machine.specs.Blocks.{desc_of, keeps_ram}
use Rattle.block_states.proofs.Ended.{ends}
use Rattle.block_states.proofs.states.BlockStates.end.Goals as goal

pub returns : goal.returns
returns c = ends (desc_of c.args.config.now c.args.id) (keeps_ram c.args.config.now c.args.id) _ _ c.args.kind c.args.ram c.args.answer
    (option_copied c.args.given) c.args.id _ _ _ _ c.is_kept-kept.ensures c.protects-protects.ensures c.give.ensures c.flag.ensures c.close.ensures

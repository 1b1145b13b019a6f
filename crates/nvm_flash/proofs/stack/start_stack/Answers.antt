use Rattle.nvm_core.specs.ram_blocks.Plain.{plain_blocks_of}
use Rattle.nvm_flash.proofs.Returning.{own_copies}
use Rattle.nvm_flash.proofs.stack.start_stack.Goals as goal

pub start_stack_with-requires : goal.start_stack_with-requires
start_stack_with-requires g c = own_copies c.args.stack.desk.config c.args.stack.desk.cap g.O.Origin.making g.O.Origin.entry (plain_blocks_of c.args.stack.desk.config) c.args.stack c.requires

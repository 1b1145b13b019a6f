use Rattle.std.proofs.Common.{List, subst}
use Rattle.std.proofs.lemmas.Result.{IfOk-weaker}
use Rattle.nvm_core.specs.ram_blocks.declared.plain_block.PlainBlock.{PlainBlock}
use Rattle.nvm_core.proofs.FreshCopies.{are_synchronized}
use Rattle.nvm_flash.specs.Made.{IsMadeStack, IsMadeWith}
use Rattle.nvm_flash.proofs.stack.make_plain.Goals as goal

pub make_stack_with-requires-clause-synchronized : goal.make_stack_with-requires-clause-synchronized
make_stack_with-requires-clause-synchronized g c = are_synchronized c.args.config c.in-Ok.copies c.blocks-blocks.ensures.legal c.in-Ok.ensures

pub returns-clause-made : goal.returns-clause-made
returns-clause-made g c =
    IfOk-weaker c.make_stack_with.result (IsMadeWith c.args.config c.args.cap g.O.Origin.making g.O.Origin.entry c.in-Ok.copies) (IsMadeStack c.args.config c.args.cap g.O.Origin.making g.O.Origin.entry)
    (λ s made. subst (λ (copies : List PlainBlock). IsMadeWith c.args.config c.args.cap g.O.Origin.making g.O.Origin.entry copies s) c.in-Ok.ensures made) c.make_stack_with.ensures.made

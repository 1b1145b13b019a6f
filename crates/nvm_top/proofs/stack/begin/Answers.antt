use Rattle.std.proofs.Common.{subst}
use Rattle.nvm_flash.specs.fee_told.Device.{Device, told_of}
use Rattle.nvm_flash.specs.fee_core.Tells.{told_clock}
use Rattle.nvm_flash.specs.memif.Calls.{InOrder}
use Rattle.nvm_flash.proofs.Called.{begins_kept}
use Rattle.nvm_flash.proofs.FirstStart.{begins_up}
use Rattle.nvm_top.proofs.Driven.{if_ok}
use Rattle.nvm_top.proofs.stack.begin.Goals as goal

pub returns-clause-kept : goal.returns-clause-kept
returns-clause-kept g c =
    let order = subst (λ (d : Device). InOrder (told_of d) (told_clock d)) c.device.ensures.device c.status.ensures.order in
    if_ok c.start_stack.result c.start_stack.ensures.started c.start_stack.ensures.keeps (λ s starts keeps. λ x inner cuts same legal origin.
    begins_up x g.O.Origin.making g.O.Origin.entry c.args.stack s c.requires (begins_kept (told_of c.args.stack.device) (told_clock c.args.stack.device)) order starts keeps inner cuts same legal origin)

use Rattle.nvm_flash.proofs.Returning.{failed_back, unstarted}
use Rattle.nvm_flash.proofs.stack.start_stack_with.Goals as goal

pub start_over-requires : goal.start_over-requires
start_over-requires g c = unstarted g.O.Origin.making g.O.Origin.entry c.args.stack.copies c.args.stack c.requires

pub returns-in-Err : goal.returns-in-Err
returns-in-Err g c = record {
  started = tt;
  keeps = tt;
  stopped = λ inner cuts origin.
      failed_back c.args.stack.desk.config inner cuts g.O.Origin.making g.O.Origin.entry (g.F.Flash.told c.give_back.result) c.args.stack.device c.in-Err.device origin c.requires.one_device c.requires.device
      c.in-Err.ensures.failed (c.give_back.ensures c.args.stack.desk.config inner cuts origin);
}

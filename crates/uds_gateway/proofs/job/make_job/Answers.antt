use Rattle.std.proofs.Common.{◌≡◌, Result, Ok, Err, ap, ◌∙◌, subst}
use Rattle.nvm_moves.specs.nv_desk.declared.ask.AskFault.{AskFault}
use Rattle.nvm_moves.specs.block_machine.Words.{Reply, Accepted}
use Rattle.uds_gateway.specs.StackCalls.{IsRequested}
use Rattle.uds_gateway.proofs.Pieces.{asked_one, own_store, replied_job, requested_ready, went_off}
use Rattle.uds_gateway.proofs.job.make_job.Goals as goal

pub ask-requires-clause-store : goal.ask-requires-clause-store
ask-requires-clause-store g c = own_store c.args.stack.now.desk.config c.args.asked c.requires.own

pub turns_to_post-requires-clause-ready : goal.turns_to_post-requires-clause-ready
turns_to_post-requires-clause-ready g c = requested_ready g.D.MemDevice.told g.D.MemDevice.clock 0 c.args.asked c.ask.result c.args.stack.now c.ask.new.stack c.ask.ensures

pub turns_to_post-requires-clause-job : goal.turns_to_post-requires-clause-job
turns_to_post-requires-clause-job g c =
    let accepted : c.ask.result ≡ Ok Accepted = c.in-Ok.is ∙ ap Ok c.in-Accepted.is in
    (c.args.asked, asked_one g.D.MemDevice.told g.D.MemDevice.clock c.args.stack.now c.ask.new.stack c.args.asked c.requires.own c.requires.none (subst (λ (r : Result Reply AskFault). IsRequested g.D.MemDevice.told g.D.MemDevice.clock 0 c.args.asked r c.args.stack.now c.ask.new.stack) accepted c.ask.ensures))

pub returns-in-Posted : goal.returns-in-Posted
returns-in-Posted g c =
    let accepted : c.ask.result ≡ Ok Accepted = c.in-Ok.is ∙ ap Ok c.in-Accepted.is in
    let asks = subst (λ (r : Result Reply AskFault). IsRequested g.D.MemDevice.told g.D.MemDevice.clock 0 c.args.asked r c.args.stack.now c.ask.new.stack) accepted c.ask.ensures in
    let one = asked_one g.D.MemDevice.told g.D.MemDevice.clock c.args.stack.now c.ask.new.stack c.args.asked c.requires.own c.requires.none asks in
    record { job = (c.ask.new.stack, asks, c.turns_to_post.ensures.turns, c.in-Posted.ensures.goes c.args.asked one); ready = c.turns_to_post.ensures.ready }

pub returns-in_default-turns_to_post : goal.returns-in_default-turns_to_post
returns-in_default-turns_to_post g c =
    let accepted : c.ask.result ≡ Ok Accepted = c.in-Ok.is ∙ ap Ok c.in-Accepted.is in
    let asks = subst (λ (r : Result Reply AskFault). IsRequested g.D.MemDevice.told g.D.MemDevice.clock 0 c.args.asked r c.args.stack.now c.ask.new.stack) accepted c.ask.ensures in
    let one = asked_one g.D.MemDevice.told g.D.MemDevice.clock c.args.stack.now c.ask.new.stack c.args.asked c.requires.own c.requires.none asks in
    record {
      job = (
        c.ask.new.stack,
        asks,
        c.turns_to_post.ensures.turns,
        went_off c.args.asked c.turns_to_post.result c.ask.new.stack.desk c.turns_to_post.new.stack.desk c.in_default-turns_to_post.not-Posted c.turns_to_post.ensures.ends (c.turns_to_post.ensures.goes c.args.asked one),
      );
      ready = c.turns_to_post.ensures.ready;
    }

pub returns-in_default : goal.returns-in_default
returns-in_default g c = record {
  job = replied_job g.D.MemDevice.told g.D.MemDevice.clock _ _ _ c.args.asked c.in-Ok.reply c.args.stack.now c.ask.new.stack c.in_default.not-Accepted
      (subst (λ (r : Result Reply AskFault). IsRequested g.D.MemDevice.told g.D.MemDevice.clock 0 c.args.asked r c.args.stack.now c.ask.new.stack) c.in-Ok.is c.ask.ensures);
  ready = requested_ready g.D.MemDevice.told g.D.MemDevice.clock 0 c.args.asked c.ask.result c.args.stack.now c.ask.new.stack c.ask.ensures;
}

pub returns-in-Err-NoRoom : goal.returns-in-Err-NoRoom
returns-in-Err-NoRoom g c = record {
  job = subst (λ (r : Result Reply AskFault). IsRequested g.D.MemDevice.told g.D.MemDevice.clock 0 c.args.asked r c.args.stack.now c.ask.new.stack) (c.in-Err-NoRoom.is ∙ ap Err c.in-Err-NoRoom.field-0-is) c.ask.ensures;
  ready = requested_ready g.D.MemDevice.told g.D.MemDevice.clock 0 c.args.asked c.ask.result c.args.stack.now c.ask.new.stack c.ask.ensures;
}

pub returns-in-Err-Memory : goal.returns-in-Err-Memory
returns-in-Err-Memory g c = record {
  job = subst (λ (r : Result Reply AskFault). IsRequested g.D.MemDevice.told g.D.MemDevice.clock 0 c.args.asked r c.args.stack.now c.ask.new.stack) (c.in-Err-Memory.is ∙ ap Err c.in-Err-Memory.field-0-is) c.ask.ensures;
  ready = requested_ready g.D.MemDevice.told g.D.MemDevice.clock 0 c.args.asked c.ask.result c.args.stack.now c.ask.new.stack c.ask.ensures;
}

use Rattle.std.specs.Prelude.{vec_capacity}
use Rattle.std.proofs.Common.{◌≤◌, ◌+◌, ℕ, List, Result, Ok, sym, ap, ◌∙◌, subst}
use Rattle.nvm_moves.specs.block_machine.Words.{Reply}
use Rattle.nvm_moves.specs.block_machine.Blocks.{desc_of}
use Rattle.uds_gateway.specs.declared.stop.ServeStop.{ServeStop}
use Rattle.uds_gateway.specs.Serving.{ServesBy}
use Rattle.uds_gateway.specs.StackCalls.{MakesJob}
use Rattle.uds_gateway.proofs.Pieces.{job_answered, job_refused, job_stopped}
use Rattle.uds_gateway.proofs.serving.ask.Goals as goal

pub returns-in-Accepted : goal.returns-in-Accepted
returns-in-Accepted g c =
    let made = subst (λ (r : Result Reply ServeStop). MakesJob g.D.MemDevice.told g.D.MemDevice.clock g.C.SyncCalls.told g.C.SyncCalls.is_store g.C.SyncCalls.looked c.args.asked r c.args.stack.now c.make_job.new.stack) (c.in-Ok.is ∙ ap Ok c.in-Accepted.is) c.make_job.ensures.job in
    let (serves, none) =
    job_answered g.D.MemDevice.told g.D.MemDevice.clock g.C.SyncCalls.told g.C.SyncCalls.is_store g.C.SyncCalls.looked c.args.config.now c.args.request.now c.args.asked c.args.stack.now c.make_job.new.stack c.requires.configuration
    (vec_capacity c.in_ok-room.room) c.last_answer.result
    (subst (λ (n : ℕ). n + 3 ≤ vec_capacity c.in_ok-room.room) (c.length_of.ensures.length ∙ ap (λ (b : ℕ). (desc_of c.args.config.now b).length) (c.asked_block.ensures c.requires.own)) c.in_ok-room.ensures.room)
    made c.last_answer.ensures.ok c.last_answer.ensures.err in
    record { serves = serves; ready = c.make_job.ensures.ready; none = none }

pub returns-in_default : goal.returns-in_default
returns-in_default g c =
    let made = subst (λ (r : Result Reply ServeStop). MakesJob g.D.MemDevice.told g.D.MemDevice.clock g.C.SyncCalls.told g.C.SyncCalls.is_store g.C.SyncCalls.looked c.args.asked r c.args.stack.now c.make_job.new.stack) c.in-Ok.is c.make_job.ensures.job in
    let (serves, none) =
    job_refused g.D.MemDevice.told g.D.MemDevice.clock g.C.SyncCalls.told g.C.SyncCalls.is_store g.C.SyncCalls.looked c.args.config.now c.args.request.now c.args.asked c.args.stack.now c.make_job.new.stack c.requires.configuration
    c.in-Ok.reply c.in_default.not-Accepted c.requires.own c.requires.none made in
    record { serves = subst (λ (a : List ℕ). ServesBy c.args.config.now c.args.request.now (Ok c.args.asked) (Ok a) c.args.stack.now.desk c.make_job.new.stack.desk) (sym c.negative.ensures) serves; ready = c.make_job.ensures.ready; none = none }

pub returns-in-Err : goal.returns-in-Err
returns-in-Err g c =
    let made = subst (λ (r : Result Reply ServeStop). MakesJob g.D.MemDevice.told g.D.MemDevice.clock g.C.SyncCalls.told g.C.SyncCalls.is_store g.C.SyncCalls.looked c.args.asked r c.args.stack.now c.make_job.new.stack) c.in-Err.is c.make_job.ensures.job in
    record {
      serves = job_stopped g.D.MemDevice.told g.D.MemDevice.clock g.C.SyncCalls.told g.C.SyncCalls.is_store g.C.SyncCalls.looked c.args.config.now c.args.request.now c.args.asked c.args.stack.now c.make_job.new.stack c.requires.configuration c.in-Err.stop made;
      ready = c.make_job.ensures.ready;
      none = tt;
    }

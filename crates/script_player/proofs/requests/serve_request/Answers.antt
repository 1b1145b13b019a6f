use Rattle.script_player.proofs.Common.{Result, Reply, subst, AskedFault, IsWhy, ServeStop, told_by, seen_by}
use Rattle.uds_gateway.specs.Services.{asked_by}
use Rattle.uds_gateway.specs.StackCalls.{MakesJob}
use Rattle.script_player.proofs.PlainHalves.{are_told, is_now, is_looked}
use Rattle.script_player.proofs.PlainJobs.{job_done, job_keeps, job_left, job_starts}
use Rattle.script_player.proofs.Served.{request_refused, stays}
use Rattle.script_player.proofs.requests.serve_request.Goals as goal

pub returns-in-Ok-make_job : goal.returns-in-Ok-make_job
returns-in-Ok-make_job g c = record {
  ends = λ first serving.
      job_done g.D.MemDevice.told g.D.MemDevice.clock c.args.config.now c.args.request.now c.in-Ok.asked c.in-Ok.ensures.ok c.in-Ok.ensures.own first c.args.stack.now c.make_job.new.stack serving c.in-Ok-make_job._reply c.requires.none
      (subst (λ (r : Result Reply ServeStop). MakesJob g.D.MemDevice.told g.D.MemDevice.clock are_told is_now is_looked c.in-Ok.asked r c.args.stack.now c.make_job.new.stack) c.in-Ok-make_job.is c.make_job.ensures.job);
  keeps = job_keeps g.D.MemDevice.told g.D.MemDevice.clock c.in-Ok.asked c.args.stack.now c.make_job.new.stack c.make_job.result c.make_job.ensures.job;
  starts = job_starts g.D.MemDevice.told g.D.MemDevice.clock c.in-Ok.asked c.args.stack.now c.make_job.new.stack c.make_job.result c.make_job.ensures.job;
}

pub returns-in-Err : goal.returns-in-Err
returns-in-Err g c = record {
  ends = λ first serving.
      job_left g.D.MemDevice.told g.D.MemDevice.clock c.args.config.now c.args.request.now c.in-Ok.asked c.in-Ok.ensures.ok c.in-Ok.ensures.own first c.args.stack.now c.make_job.new.stack serving c.in-Err.stop
      (subst (λ (r : Result Reply ServeStop). MakesJob g.D.MemDevice.told g.D.MemDevice.clock are_told is_now is_looked c.in-Ok.asked r c.args.stack.now c.make_job.new.stack) c.in-Err.is c.make_job.ensures.job);
  keeps = job_keeps g.D.MemDevice.told g.D.MemDevice.clock c.in-Ok.asked c.args.stack.now c.make_job.new.stack c.make_job.result c.make_job.ensures.job;
  starts = job_starts g.D.MemDevice.told g.D.MemDevice.clock c.in-Ok.asked c.args.stack.now c.make_job.new.stack c.make_job.result c.make_job.ensures.job;
}

pub returns-in-Err-Refused-clause-ends : goal.returns-in-Err-Refused-clause-ends
returns-in-Err-Refused-clause-ends g c first serving =
    request_refused c.args.config.now c.args.request.now c.in-Err-Refused._code (seen_by g.D.MemDevice.told g.D.MemDevice.clock first) (seen_by g.D.MemDevice.told g.D.MemDevice.clock c.args.stack.now) (told_by g.D.MemDevice.told first) (told_by g.D.MemDevice.told c.args.stack.now)
    (subst (λ (f : AskedFault). IsWhy (asked_by c.args.config.now c.args.request.now) f) c.in-Err-Refused.field-0-is c.in-Err-Refused.ensures.err) c.requires.none serving

pub returns-in-Err-Memory-clause-ends : goal.returns-in-Err-Memory-clause-ends
returns-in-Err-Memory-clause-ends g c first serving = stays (seen_by g.D.MemDevice.told g.D.MemDevice.clock first) (seen_by g.D.MemDevice.told g.D.MemDevice.clock c.args.stack.now) (told_by g.D.MemDevice.told first) (told_by g.D.MemDevice.told c.args.stack.now) serving

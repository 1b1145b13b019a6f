-- What a job's fields show.
use Rattle.std.specs.Option.{option_or}
use Rattle.block_machine.specs.State.{Job as MachineJob}
use Rattle.block_machine.specs.Blocks.{asked_content}
use Rattle.job_pending.specs.Take.{staged_of, taken_last}
use Rattle.job_pending.specs.declared.job.Job.TheInside.{Inside}

-- its content is the one that it took, or else the one that its request brought
abbrev pub job_of : Inside → MachineJob
job_of j = record {
  number = j.number;
  request = j.request;
  member = j.member;
  content = option_or (staged_of j.staged) (asked_content j.request);
  reserved = j.reserved;
  taken = taken_last (option_or (staged_of j.staged) (asked_content j.request)) j.last;
  written = j.written;
}

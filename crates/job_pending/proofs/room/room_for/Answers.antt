use Rattle.std.proofs.Common.{ap, arith}
use Rattle.job_pending.proofs.room.room_for.Goals as goal

pub returns : goal.returns
returns c = record {
  priorities = c.priorities-interrupted.result;
  have = c.priorities-interrupted.ensures.have;
  immediate = λ n ids most. c.fewer-in_immediate.ensures n ids (omega (arith, most, ap (λ x. x.1) c.queue_sizes-standard.ensures.value));
  standard = λ n ids most. c.fewer-in_standard.ensures n ids (omega (arith, most, ap (λ x. x.0) c.queue_sizes-standard.ensures.value));
  all = λ n ids most. c.fewer-all.ensures n ids (omega (arith, most, ap (λ x. x.0) c.queue_sizes-standard.ensures.value, ap (λ x. x.1) c.queue_sizes-standard.ensures.value));
}

use Rattle.std.proofs.Common.{rules, ap, arith}
use Rattle.nv_recorder.specs.Recorder.{Recorded}
use Rattle.nv_desk.proofs.desk.Desk.make.Goals as goal

pub invariant_of-result : goal.invariant_of-result
invariant_of-result c = record {
  agrees = search rules;
  sound = search rules;
  fits = search rules;
  memory = search rules;
  one_each = c.in_ok-places.ensures.places;
  ready = λ id low none. c.in_ok-places.ensures.ready id low;
  prepared = search rules;
  place = search rules;
  longest = λ id. (let most = c.longest_content.ensures id in let made = ap (λ (h : Recorded). h.longest) c.in_ok-history.ensures in let stays = ap (λ (h : Recorded). h.longest) c.take_memory.ensures.same in omega (arith, most, made, stays));
  within = search rules;
  read_share = search rules;
  write_share = search rules;
}

use Rattle.std.proofs.Common.{arith}
use Rattle.nvm_script.proofs.step_list.StepList.new.Goals as goal

pub invariant_of-result : goal.invariant_of-result
invariant_of-result c = rw c.new.ensures.items (omega arith)

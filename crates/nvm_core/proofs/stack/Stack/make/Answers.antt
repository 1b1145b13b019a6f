use Rattle.std.proofs.Common.{rules, sym, subst}
use Rattle.nvm_laws.specs.nv_desk.Desk.{DeskState}
use Rattle.nvm_laws.specs.nv_desk_copies.Front.{StagesAll, AreSynchronized}
use Rattle.nvm_core.proofs.stack.Stack.make.Goals as goal

pub invariant_of-result : goal.invariant_of-result
invariant_of-result g c = record {
  stages = subst (λ (d : DeskState). StagesAll d.config c.in-Ok.front.staging) (sym c.in-Ok.ensures.desk) c.in-Ok.ensures.staging;
  synchronized = subst (λ (d : DeskState). AreSynchronized d.config (g.C.SyncCalls.told c.args.copies)) (sym c.in-Ok.ensures.desk) c.requires.synchronized;
  numbers = search rules;
  has_room = c.in-Ok.ensures.room;
  tied = search rules;
  power = search rules;
}

use Rattle.std.proofs.Common.{Bool, IsTrue, sym, subst}
use Rattle.nvm_core.specs.block_machine.StartUp.{at_first}
use Rattle.nvm_core.specs.nv_desk.Desk.{state_of}
use Rattle.nvm_core.specs.nv_desk_copies.Front.{StagesAll}
use Rattle.nvm_shared.specs.Written.{AreWritten}
use Rattle.nvm_shared.proofs.locked.Locked.of.Goals as goal

pub invariant_of-result : goal.invariant_of-result
invariant_of-result g c =
    let same = sym c.in_ok-front.ensures.ok in
    record {
      stages = subst (λ f. StagesAll f.desk.config f.staging) same c.requires.0;
      started = subst (λ f. IsTrue (state_of f.desk).started) same c.requires.1.0;
      written = subst (λ f. AreWritten c.picked.result.tells f.desk.config f.desk.cap at_first f.desk.entries) same
          (subst (λ (t : Bool). AreWritten t c.args.front.desk.config c.args.front.desk.cap at_first c.args.front.desk.entries) (sym c.picked.ensures) c.requires.1.1);
    }

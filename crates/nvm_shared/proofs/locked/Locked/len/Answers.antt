use Rattle.std.proofs.Common.{ap, subst, ◌∙◌}
use Rattle.nvm_core.specs.nv_desk.Desk.{state_of}
use Rattle.nvm_core.specs.block_machine.Next.{next_in}
use Rattle.nvm_core.specs.nvm_laws.DueLaws.{NextIsPending}
use Rattle.nvm_shared.specs.Locked.{LockedState}
use Rattle.nvm_shared.proofs.Serving.{next_pending}
use Rattle.nvm_shared.proofs.locked.Locked.len.Goals as goal

pub returns-clause-next : goal.returns-clause-next
returns-clause-next c =
    let desk = c.deref.result.now.desk in
    let view = ap (λ f. record { desk = f.desk; tells = c.self.inside.tells.tells }) c.deref.ensures ∙ c.self.view_is in
    subst (λ (l : LockedState). NextIsPending l.desk.config (state_of l.desk)) view
    (next_pending desk.config (state_of desk) (next_in desk.config (state_of desk).waiting) c.desc_in_hand-desc.ensures.next)

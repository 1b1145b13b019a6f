use Rattle.std.proofs.Common.{sym, ap, subst, ◌∙◌}
use Rattle.nvm_core.specs.nv_desk.Desk.{state_of}
use Rattle.nvm_core.specs.job_progress.JobInHand.{HandFits}
use Rattle.nvm_core.specs.Stack.{stack_of}
use Rattle.nvm_core.specs.Turns.{IsFirstHalf}
use Rattle.nvm_shared.specs.Locked.{LockedState, IsLocked}
use Rattle.nvm_shared.proofs.Writing.{half_off, half_writes, locked_on}
use Rattle.nvm_shared.proofs.locked.Locked.first_half.Goals as goal

pub invariant_of-self : goal.invariant_of-self
invariant_of-self g c =
    let tells = c.self.inside.tells.tells in
    let at = c.deref_mut.result.now in
    let view = ap (λ f. record { desk = f.desk; tells = tells }) c.deref_mut.ensures.value ∙ c.self.view_is in
    let ends = c.first_half.ensures in
    locked_on tells at.desk c.first_half.new.front.desk at.staging c.first_half.new.front.staging
    (half_writes tells c.first_half.result _ _ at.desk c.first_half.new.front.desk _ _ _ ends.half.half
    (λ told. subst (λ (l : LockedState). HandFits l.desk.config (state_of l.desk) c.args.driver.now.hand (g.D.MemDevice.told c.args.driver.now.device)) (sym view) (c.requires.fits (ap (λ (l : LockedState). l.tells) (sym view) ∙ told))))
    ends.room ends.half.tied.started (subst (λ f. IsLocked f.desk f.staging tells) (sym c.deref_mut.ensures.value) c.self.invariant)

pub returns-clause-half : goal.returns-clause-half
returns-clause-half g c =
    let view = ap (λ f. record { desk = f.desk; tells = c.self.inside.tells.tells }) c.deref_mut.ensures.value ∙ c.self.view_is in
    subst (λ (l : LockedState). IsFirstHalf g.D.MemDevice.told g.C.SyncCalls.told g.C.SyncCalls.is_store g.C.SyncCalls.looked c.first_half.result (stack_of l.desk c.args.driver.now)
    (stack_of c.first_half.new.front.desk c.first_half.new.self)) view c.first_half.ensures.half

pub returns-clause-off : goal.returns-clause-off
returns-clause-off g c = λ now. half_off c.first_half.result _ _ c.deref_mut.result.now.desk c.first_half.new.front.desk _ _ _ c.first_half.ensures.half.half now (c.first_half.ensures.off now)

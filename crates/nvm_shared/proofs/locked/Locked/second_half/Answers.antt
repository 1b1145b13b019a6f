use Rattle.std.proofs.Common.{refl, sym, ap, subst, ◌∙◌}
use Rattle.nvm_core.specs.BehindDevice.{IsBehindTurn, TakesTurn}
use Rattle.nvm_shared.specs.Locked.{LockedState, IsLocked, terms_of}
use Rattle.nvm_shared.proofs.Writing.{turn_writes, locked_on, writes_terms}
use Rattle.nvm_shared.proofs.locked.Locked.second_half.Goals as goal

pub invariant_of-self : goal.invariant_of-self
invariant_of-self g c =
    let tells = c.self.inside.tells.tells in
    let at = c.deref_mut.result.now in
    let view = ap (λ f. record { desk = f.desk; tells = tells }) c.deref_mut.ensures.value ∙ c.self.view_is in
    let (old, behind) = c.requires in
    let now = g.D.MemDevice.told c.args.driver.now.device in
    locked_on tells at.desk c.second_half.new.desk at.staging at.staging
    (turn_writes tells c.args.turned c.second_half.result at.desk c.second_half.new.desk c.args.driver.now.hand c.second_half.new.self.hand old now c.second_half.ensures.takes
    (subst (λ (l : LockedState). IsBehindTurn c.args.turned l.desk c.args.driver.now.hand old now) (sym view) behind))
    refl c.second_half.ensures.tied.started (subst (λ f. IsLocked f.desk f.staging tells) (sym c.deref_mut.ensures.value) c.self.invariant)

pub returns-clause-takes : goal.returns-clause-takes
returns-clause-takes g c =
    let view = ap (λ f. record { desk = f.desk; tells = c.self.inside.tells.tells }) c.deref_mut.ensures.value ∙ c.self.view_is in
    subst (λ (l : LockedState). TakesTurn c.args.turned c.second_half.result l.desk c.second_half.new.desk c.args.driver.now.hand c.second_half.new.self.hand (g.D.MemDevice.told c.args.driver.now.device)) view c.second_half.ensures.takes

pub returns-clause-terms : goal.returns-clause-terms
returns-clause-terms g c =
    let tells = c.self.inside.tells.tells in
    let at = c.deref_mut.result.now in
    let view = ap (λ f. record { desk = f.desk; tells = tells }) c.deref_mut.ensures.value ∙ c.self.view_is in
    let (old, behind) = c.requires in
    let now = g.D.MemDevice.told c.args.driver.now.device in
    writes_terms tells at.desk c.second_half.new.desk
    (turn_writes tells c.args.turned c.second_half.result at.desk c.second_half.new.desk c.args.driver.now.hand c.second_half.new.self.hand old now c.second_half.ensures.takes
    (subst (λ (l : LockedState). IsBehindTurn c.args.turned l.desk c.args.driver.now.hand old now) (sym view) behind))
    ∙ ap terms_of view

use Rattle.std.proofs.Common.{None}
use Rattle.nvm_laws.specs.nv_desk.Desk.{state_of}
use Rattle.nvm_laws.proofs.DueTurning.{next_is}
use Rattle.nvm_laws.proofs.Keeping.{stays_more}
use Rattle.nvm_laws.proofs.Starting.{cancels_keep}
use Rattle.nvm_core.proofs.TyingBefore.{held_in}
use Rattle.nvm_core.proofs.WorkingBefore.{cancel_leaves}
use Rattle.nvm_core.proofs.Interrupting.{not_urgent, interrupts}
use Rattle.nvm_core.proofs.pick.interrupt.Goals as goal

pub cancel-requires : goal.cancel-requires
cancel-requires g c =
    let told = g.D.MemDevice.told c.args.device.now in
    let desk = c.args.front.now.desk in
    not_urgent desk c.requires.held.held told (held_in _ desk c.args.hand.now told c.requires.tied c.requires.held) c.requires.may

pub pick-requires-clause-may : goal.pick-requires-clause-may
pick-requires-clause-may g c =
    let told = g.D.MemDevice.told c.args.device.now in
    interrupts c.args.front.now.desk c.args.hand.now told _ _ _ c.requires.tied c.requires.held.on c.requires.may c.cancel.ensures

pub pick-requires-clause-next : goal.pick-requires-clause-next
pick-requires-clause-next g c =
    let desk = c.args.front.now.desk in
    let may = c.requires.may in
    (may.next, next_is desk.config (state_of desk) may.next may.first)

pub returns-clause-device : goal.returns-clause-device
returns-clause-device g c = cancel_leaves _ _ _ _ c.cancel.ensures

pub returns-clause-keeps : goal.returns-clause-keeps
returns-clause-keeps g c = stays_more _ _ _ _ _ _ _ _ _ _ _ _
    (cancels_keep (g.D.MemDevice.told c.args.device.now) (g.D.MemDevice.clock c.args.device.now) _ _ c.cancel.ensures c.args.front.now.desk c.args.hand.now) (c.pick.ensures.keeps None)

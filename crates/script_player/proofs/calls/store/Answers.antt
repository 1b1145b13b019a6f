use Rattle.script_player.proofs.Common.{map, List, length, sym, subst, PlainBlock, told_of, StackState, kept_by, stack_stays, Stores, told_by}
use Rattle.script_player.proofs.PlainCopies.{may_store}
use Rattle.script_player.proofs.PlainSteps.{stores}
use Rattle.script_player.proofs.calls.store.Goals as goal

pub store-requires : goal.store-requires
store-requires g c = let s = c.args.stack.now in may_store s.desk.config (map told_of s.copies) c.args.block (length c.args.content.now) c.device-device.ensures.synchronized c.requires

pub returns-clause-stores : goal.returns-clause-stores
returns-clause-stores g c =
    let s = c.args.stack.now in
    let told = g.D.MemDevice.told in
    let synchronized = may_store s.desk.config (map told_of s.copies) c.args.block (length c.args.content.now) c.device-device.ensures.synchronized c.requires in
    subst (λ (t : StackState g.row.D.Denot (List PlainBlock)). Stores c.args.block c.args.content.now c.store.result (told_by told s) (told_by told t)) (sym c.store.ensures.stored)
    (stores c.args.block c.store.result c.args.content.now s.desk s.hand s.copies s.ready (told s.device) synchronized c.store.ensures.number)

pub returns-clause-moved : goal.returns-clause-moved
returns-clause-moved g c =
    let s = c.args.stack.now in
    let new = c.store.new.self in
    let told = g.D.MemDevice.told in
    let clock = g.D.MemDevice.clock in
    stack_stays told clock s new (kept_by told clock s) (kept_by told clock new) (λ before kept. subst (λ (t : StackState g.row.D.Denot (List PlainBlock)). kept_by told clock t before) (sym c.store.ensures.stored) kept) _ c.store.ensures.stored

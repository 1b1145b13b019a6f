use Rattle.script_player.proofs.Common.{List, [], sym, subst, ap, ◌∙◌, append-nil, refl, DeviceTold, PlainBlock, StackState, StackTold, Arms, kept_by, told_by, shown, stack_arms}
use Rattle.script_player.proofs.PlainPaying.{keeps_by}
use Rattle.script_player.proofs.PlainSteps.{arms}
use Rattle.script_player.proofs.PlainStarts.{starts_stay}
use Rattle.script_player.proofs.calls.arm.Goals as goal

pub returns-clause-arms : goal.returns-clause-arms
returns-clause-arms g c =
    let s = c.args.stack.now in
    let told = g.D.MemDevice.told in
    subst (λ (t : StackTold). Arms c.args.nth c.args.keep (told_by told s) t)
    (sym (ap (told_by told) c.arm.ensures.only ∙ ap (shown s.desk s.hand s.copies s.ready) c.arm.ensures.arms.0))
    (arms c.args.nth c.args.keep s.desk s.hand s.copies s.ready (told s.device) (c.device-device.ensures.tied c.requires).later (c.device-device.ensures.power c.requires))

pub returns-clause-keeps : goal.returns-clause-keeps
returns-clause-keeps g c = keeps_by g.D.MemDevice.told g.D.MemDevice.clock c.args.stack.now c.arm.new.self c.requires (ap (λ (t : StackState g.row.D.Denot (List PlainBlock)). t.ready) c.arm.ensures.only) c.arm.ensures.keeps

pub returns-clause-moved : goal.returns-clause-moved
returns-clause-moved g c =
    let s = c.args.stack.now in
    let new = c.arm.new.self in
    let told = g.D.MemDevice.told in
    let clock = g.D.MemDevice.clock in
    stack_arms told clock s new (kept_by told clock s) (kept_by told clock new) (returns-clause-keeps g c) 0 c.args.nth c.args.keep c.arm.ensures.only c.arm.ensures.arms c.arm.ensures.keeps.told c.arm.ensures.due

pub returns-clause-starts : goal.returns-clause-starts
returns-clause-starts g c =
    let s = c.args.stack.now in
    let only = c.arm.ensures.only in
    starts_stay g.D.MemDevice.told s c.arm.new.self [] refl (ap (λ (t : StackState g.row.D.Denot (List PlainBlock)). t.ready) only)
    (ap (λ (t : StackState g.row.D.Denot (List PlainBlock)). t.desk.entries) only ∙ sym (append-nil s.desk.entries)) (ap (λ (d : DeviceTold). d.starts) c.arm.ensures.arms.0)

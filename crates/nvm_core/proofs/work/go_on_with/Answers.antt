use Rattle.std.proofs.Common.{◌∙◌, sym, subst}
use Rattle.nvm_laws.specs.block_config.Rules.{IsLegalConfig}
use Rattle.nvm_laws.specs.nv_desk.Desk.{state_of}
use Rattle.nvm_laws.proofs.Going.{steps_name}
use Rattle.nvm_laws.proofs.Refusing.{refusals_dont_come}
use Rattle.nvm_core.proofs.GoingOn.{goes_on}
use Rattle.nvm_core.proofs.WorkingBefore.{working_of, open_of, not_both}
use Rattle.nvm_core.proofs.work.go_on_with.Goals as goal

pub start_on-requires : goal.start_on-requires
start_on-requires g c =
    let desk = c.args.desk.now in
    let legal : IsLegalConfig desk.config = rw c.config.ensures at c.blocks-blocks.ensures.legal in
    let names = steps_name desk.config (state_of desk) c.args.hand.now (g.D.MemDevice.told c.args.device.now) c.in-Device.op c.in-Device.instance
    legal c.requires.paired (sym c.in-Device.ensures) in
    record { job = names.job; hand = names.hand; block = names.block; small = rw names.index_is names.small }

pub returns : goal.returns
returns g c =
    let old = c.args.device.now in
    let new = c.start_on.new.device in
    let is = goes_on c.args.desk.now c.args.hand.now (g.D.MemDevice.told old) c.in-Device.op c.in-Device.instance (subst IsLegalConfig c.config.ensures c.blocks-blocks.ensures.legal)
    c.requires.paired (sym c.in-Device.ensures) (g.D.MemDevice.told new) c.in-Ok.ensures.started c.start.new.self (g.D.MemDevice.clock old) (g.D.MemDevice.clock new)
    c.start.ensures c.start_on.ensures.keeps c.status-status.ensures.order c.requires.unfinished in
    record {
      «open» = is.opens;
      paired = is.paired;
      started = is.started;
      device = is.device;
      clock = c.start_on.ensures.clock;
      keeps = is.keeps;
      lowers = is.lowers;
      left = is.left;
      goes = is.goes;
    }

pub unreachable-requires-in_default-start_on : goal.unreachable-requires-in_default-start_on
unreachable-requires-in_default-start_on g c =
    let desk = c.args.desk.now in
    let h = c.args.hand.now in
    let old = g.D.MemDevice.told c.args.device.now in
    let legal : IsLegalConfig desk.config = rw c.config.ensures at c.blocks-blocks.ensures.legal in
    let names = steps_name desk.config (state_of desk) h old c.in-Device.op c.in-Device.instance legal c.requires.paired (sym c.in-Device.ensures) in
    let is = c.in_default-start_on.ensures.started h names (working_of desk.config (state_of desk) h old names.job c.requires.paired names.hand) in
    let closed = open_of desk.config (state_of desk) h old c.requires.paired ∙ sym c.is_started.ensures ∙ c.if-is_started.false in
    let taken = refusals_dont_come desk h old c.in-Device.op c.in-Device.instance names legal c.desc_in_hand-desc.ensures.pending c.desc_in_hand-desc.ensures.named
    c.desc_in_hand-desc.ensures.known c.requires.paired c.requires.numbers c.requires.up closed in
    absurd (not_both c.in_default-start_on.field-0 (sym taken ∙ is.0))

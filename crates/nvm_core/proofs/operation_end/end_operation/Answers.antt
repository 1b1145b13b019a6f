use Rattle.std.proofs.Common.{◌∙◌, sym, ap, subst, Some}
use Rattle.nvm_laws.specs.memif.Told.{DeviceTold}
use Rattle.nvm_laws.specs.block_config.Rules.{IsLegalConfig}
use Rattle.nvm_laws.specs.nv_desk.Desk.{state_of}
use Rattle.nvm_core.specs.BehindDevice.{IsAtWork}
use Rattle.nvm_core.proofs.Ending.{Ends, adds_by, ends, may_write}
use Rattle.nvm_core.proofs.operation_end.end_operation.Goals as goal

pub add_wrote-requires : goal.add_wrote-requires
add_wrote-requires g c =
    let desk = c.args.desk.now in
    let (old, work) = c.requires in
    let told = g.D.MemDevice.told c.args.device.now in
    let legal = subst IsLegalConfig c.config.ensures c.blocks-blocks.ensures.legal in
    λ wrote. record {
      allowed = may_write desk c.args.hand.now old told c.in-Device.instance c.outcome_of-outcome.result legal work
          (ends desk c.args.hand.now old told c.in-Device.op c.in-Device.instance c.outcome_of-outcome.result c.result.result legal work.in_hand
          (sym c.has_ended.ensures ∙ c.if-not-has_ended.false) (sym c.step.ensures ∙ c.in-Device.is) c.outcome_of-outcome.ensures c.result.ensures.result) wrote;
    }

pub returns : goal.returns
returns g c =
    let desk = c.args.desk.now in
    let h = c.args.hand.now in
    let told = g.D.MemDevice.told c.args.device.now in
    let legal = subst IsLegalConfig c.config.ensures c.blocks-blocks.ensures.legal in
    let over : (old : DeviceTold) → IsAtWork desk h old told → Ends (state_of desk) h old.stand told.stand c.in-Device.instance c.outcome_of-outcome.result = λ old work.
    ends desk h old told c.in-Device.op c.in-Device.instance c.outcome_of-outcome.result c.result.result legal work.in_hand
    (sym c.has_ended.ensures ∙ c.if-not-has_ended.false) (sym c.step.ensures ∙ c.in-Device.is) c.outcome_of-outcome.ensures c.result.ensures.result in
    record {
      adds = λ old work. adds_by desk c.add_wrote.new.desk h old told c.in-Device.instance c.outcome_of-outcome.result legal work (over old work) c.add_wrote.ensures.wrote c.add_wrote.ensures.other;
      hand = λ old work. ap Some c.end.ensures ∙ (over old work).hand;
    }

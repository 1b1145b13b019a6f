use Rattle.std.proofs.Common.{sym, ◌∙◌, map, arith}
use Rattle.serde_json.specs.View.{view}
use Rattle.block_config.proofs.Faults.{first_fault-kept}
use Rattle.block_config.proofs.items.first_fault.Goals as goal

pub loop-rule-preserved : goal.loop-rule-preserved
loop-rule-preserved c =
    let ds = map view c.args.items.now in
    sym (first_fault-kept c.loop-rule.rule ds (omega arith) (sym c.in_default.ensures)) ∙ c.loop-rule.invariant

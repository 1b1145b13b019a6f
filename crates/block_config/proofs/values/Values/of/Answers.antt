use Rattle.std.proofs.Common.{false, subst, sym}
use Rattle.serde_json.specs.View.{view, members_view}
use Rattle.block_config.specs.declared.values.Values.{Values}
use Rattle.block_config.specs.Values.{AreValues}
use Rattle.block_config.proofs.Found.{object_values, no_object_values}
use Rattle.block_config.proofs.values.Values.of.Goals as goal

pub returns-in-Some : goal.returns-in-Some
returns-in-Some c =
    object_values c.among.result (view c.args.value.now) (members_view c.in-Some.members.now.entries) c.in-Some.ensures c.among.ensures

pub returns-in-None : goal.returns-in-None
returns-in-None c =
    subst (λ (v : Values). AreValues (record v { known = false }) (view c.args.value.now)) (sym c.none.ensures) (no_object_values (view c.args.value.now) c.in-None.ensures)

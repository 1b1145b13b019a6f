use Rattle.std.proofs.Common.{◌≡◌, ℕ, List, IfOk, subst}
use Rattle.nv_base.specs.declared.instance.DeviceNumber.{DeviceNumber}
use Rattle.block_config.proofs.Numbering.{lengths_by-none}
use Rattle.block_config.proofs.config.Config.all_lengths.Goals as goal

pub returns : goal.returns
returns c =
    subst (λ (all : List (DeviceNumber × ℕ)). IfOk c.lengths_by.result (λ l. l ≡ all)) (lengths_by-none 1 c.before.args.self.now.blocks) c.lengths_by.ensures

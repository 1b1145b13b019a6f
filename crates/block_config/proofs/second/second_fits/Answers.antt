use Rattle.std.proofs.Common.{sym, ◌∙◌, arith}
use Rattle.block_config.proofs.Devices.{all_fit}
use Rattle.block_config.proofs.second.second_fits.Goals as goal

pub returns-clause-kept : goal.returns-clause-kept
returns-clause-kept c =
    rw c.in-Some.is
    (record {
      shape = rw c.in-Some.is at c.requires.legal;
      lengths = all_fit c.in-Some.shape.sector 1 c.args.blocks.now (sym c.too_long.ensures ∙ c.in_default-too_long.is);
      slots = omega (arith, c.requires.instances);
    })

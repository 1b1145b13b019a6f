use Rattle.memif_fee_ea.specs.fee_core.nv_base.declared.geometry.Geometry.{Geometry}
use Rattle.std.proofs.Common.{ℕ, sym, subst}
use Rattle.memif_fee_ea.specs.fee_core.fee_switch_laws.Space.{HasSpace}
use Rattle.nvm_core.specs.block_config.Sizes.{measures_of}
use Rattle.nvm_flash.proofs.Space.{has_space}
use Rattle.nvm_flash.proofs.device.make_one.Goals as goal

pub make-requires-in-Ok-make-clause-space : goal.make-requires-in-Ok-make-clause-space
make-requires-in-Ok-make-clause-space g c =
    subst (λ (n : ℕ). HasSpace c.in-Ok.numbers c.geometry-geometry.result c.banks-banks.result n) (sym c.reserve_pages.ensures)
    (subst (λ (b : ℕ). HasSpace c.in-Ok.numbers c.geometry-geometry.result b (measures_of c.args.config.now.geometry.page c.args.config.now.blocks).urgent) (sym c.banks-banks.ensures.value)
    (subst (λ (x : Geometry). HasSpace c.in-Ok.numbers x c.args.config.now.banks (measures_of c.args.config.now.geometry.page c.args.config.now.blocks).urgent) (sym c.geometry-geometry.ensures.value) (has_space c.args.config.now c.in-Ok.numbers c.geometry-geometry.ensures.legal c.requires.one_device c.in-Ok.ensures c.len.ensures.bounds)))

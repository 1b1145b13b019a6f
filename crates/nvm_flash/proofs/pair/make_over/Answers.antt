use Rattle.std.specs.Prelude.{IfSome}
use Rattle.std.proofs.Common.{◌∙◌, ap₂, sym, subst, ℕ, List, Option}
use Rattle.memif_fee_ea.specs.fee_core.nv_base.declared.geometry.Geometry.{Geometry}
use Rattle.memif_fee_ea.specs.fee_core.nv_base.declared.instance.DeviceNumber.{DeviceNumber}
use Rattle.memif_fee_ea.specs.fee_core.nv_base.Geometry.{sectors_of_bank}
use Rattle.memif_fee_ea.specs.fee_core.nv_base.Lengths.{AreLengths}
use Rattle.memif_fee_ea.specs.fee_core.fee_told.Figures.{fixed_for}
use Rattle.memif_fee_ea.specs.fee_core.fee_switch_laws.Space.{HasSpace}
use Rattle.memif_fee_ea.specs.ea_slots.ea_told.Making.{HasSlots}
use Rattle.memif_fee_ea.specs.memif_pair.Pair.{merged}
use Rattle.memif_fee_ea.specs.Numbers.{are_apart}
use Rattle.nvm_core.specs.block_config.Sizes.{measures_of}
use Rattle.nvm_flash.specs.declared.pair.PairFault.{PairFault}
use Rattle.nvm_flash.specs.PairMade.{ComeBack}
use Rattle.nvm_flash.specs.PairMaking.{making_second}
use Rattle.nvm_flash.proofs.PairNumbers.{devices_are_all, devices_are_apart, devices_have_slots}
use Rattle.nvm_flash.proofs.PairReturning.{refused_back}
use Rattle.nvm_flash.proofs.Space.{has_first_space}
use Rattle.nvm_flash.proofs.pair.make_over.Goals as goal

pub make-requires-clause-space : goal.make-requires-clause-space
make-requires-clause-space g c =
    let x = c.args.config.now in
    let numbers = c.args.numbers.now.0 in
    subst (λ (n : ℕ). HasSpace numbers c.geometry.result c.banks.result n) (sym c.reserve_pages.ensures)
    (subst (λ (b : ℕ). HasSpace numbers c.geometry.result b (measures_of x.geometry.page x.blocks).urgent) (sym c.banks.ensures.value)
    (subst (λ (s : Geometry). HasSpace numbers s x.banks (measures_of x.geometry.page x.blocks).urgent) (sym c.geometry.ensures.value) (has_first_space x numbers c.geometry.ensures.legal c.requires.numbers.0 c.requires.numbers.1)))

pub make-requires-clause-first : goal.make-requires-clause-first
make-requires-clause-first g c =
    c.requires.first ∙ (λ i. record { geometry = sym c.geometry.ensures.value i; banks = sym c.banks.ensures.value i; numbers = sym c.requires.numbers.0 i; reserve = sym c.reserve_pages.ensures i })

pub make-requires-clause-slots : goal.make-requires-clause-slots
make-requires-clause-slots g c =
    let x = c.args.config.now in
    let has = devices_have_slots x c.geometry.ensures.legal (subst (λ (ns : List (DeviceNumber × ℕ)). AreLengths 0 ns) c.requires.others.0 c.requires.others.1) in
    subst HasSlots (sym c.requires.second) (subst (λ (o : Option Geometry). IfSome o (λ s. HasSlots (making_second s x))) c.requires.shape has)

pub make-requires-clause-second : goal.make-requires-clause-second
make-requires-clause-second g c = c.requires.second ∙ (λ i. record { geometry = c.args.shape; numbers = sym c.requires.others.0 i })

pub make-requires-clause-apart : goal.make-requires-clause-apart
make-requires-clause-apart g c = ap₂ are_apart c.requires.numbers.0 c.requires.others.0 ∙ devices_are_apart c.args.config.now c.geometry.ensures.legal

pub returns-in-Ok-clause-numbers : goal.returns-in-Ok-clause-numbers
returns-in-Ok-clause-numbers g c = c.in-Ok.ensures.numbers ∙ ap₂ merged c.requires.numbers.0 c.requires.others.0 ∙ devices_are_all c.args.config.now c.geometry.ensures.legal

pub returns-in-Ok-clause-figures : goal.returns-in-Ok-clause-figures
returns-in-Ok-clause-figures g c =
    c.in-Ok.ensures.figures
    ∙ (λ i. fixed_for (c.geometry.ensures.value i).page (sectors_of_bank (c.geometry.ensures.value i) (c.banks.ensures.value i)) (c.requires.numbers.0 i) (c.reserve_pages.ensures i))

pub returns-in-Err-clause-stopped : goal.returns-in-Err-clause-stopped
returns-in-Err-clause-stopped g c = λ inner other cuts made made_other sized.
    subst (λ (f : PairFault). ComeBack c.args.config.now f inner (g.F.Flash.told c.into_inner.result) other (g.G.Flash.told c.into_inner-in-Err.result)) (sym c.pair_fault.ensures)
    (refused_back c.args.config.now c.geometry.result c.args.shape c.in-Err.fault inner other (g.F.Flash.told c.into_inner.result) (g.G.Flash.told c.into_inner-in-Err.result) cuts c.args.first c.args.second c.in-Err.first c.in-Err.second
    c.geometry.ensures.value c.requires.shape sized made made_other c.into_inner.ensures.cuts c.into_inner-in-Err.ensures.cuts c.into_inner.ensures.inner c.into_inner-in-Err.ensures.inner c.in-Err.ensures.refused)

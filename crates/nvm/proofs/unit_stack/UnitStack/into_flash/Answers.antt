use Rattle.std.proofs.Common.{◌≡◌, ℕ, subst}
use Rattle.nvm_flash.specs.block_config.Config.{Configuration}
use Rattle.nvm_flash.specs.fls_devices.Cutter.{cutting, told_cutting}
use Rattle.nvm_flash.specs.fls_model.Told.{Told}
use Rattle.nvm_flash.specs.fee_laws.Made.{part_at}
use Rattle.nvm_flash.specs.fee_told.Device.{Device, told_of, clock_of}
use Rattle.nvm_flash.specs.Made.{IsBack, IsOrigin}
use Rattle.nvm.specs.Closing.{UnitState, Closes}
use Rattle.nvm.proofs.UnitLaws.{unit_closes}
use Rattle.nvm.proofs.unit_stack.UnitStack.into_flash.Goals as goal

pub returns-clause-closes : goal.returns-clause-closes
returns-clause-closes g c =
    let making = g.O.Origin.making in let entry = g.O.Origin.entry in let exit = g.F.Flash.told c.give_back.result in
    subst (λ (s : UnitState). (inner : Told) (cuts : ℕ) → entry ≡ told_cutting (cutting inner cuts) → Closes inner exit s) c.self.view_is
    (unit_closes making entry exit c.self.inside.plans c.self.inside.stack c.self.invariant
    (λ x inner cuts origin. subst (λ (d : Device). IsBack x inner exit (part_at entry) (told_of d) (clock_of d)) c.into_device.ensures (c.give_back.ensures x inner cuts origin)))

pub returns-clause-back : goal.returns-clause-back
returns-clause-back g c =
    let making = g.O.Origin.making in let entry = g.O.Origin.entry in let exit = g.F.Flash.told c.give_back.result in
    subst (λ (s : UnitState). (x : Configuration) (inner : Told) (cuts : ℕ) → IsOrigin x inner cuts making entry → IsBack x inner exit (part_at entry) (told_of s.device) (clock_of s.device)) c.self.view_is
    (λ x inner cuts origin. subst (λ (d : Device). IsBack x inner exit (part_at entry) (told_of d) (clock_of d)) c.into_device.ensures (c.give_back.ensures x inner cuts origin))

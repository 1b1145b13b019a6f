use Rattle.std.proofs.Common.{ap, ◌∙◌, false, subst}
use Rattle.memif_fee_ea.specs.ea_slots.ea_told.Making.{Making}
use Rattle.memif_fee_ea.specs.ea_slots.ea_told.Device.{flash_device}
use Rattle.memif_fee_ea.specs.ea_slots.ea_told.Reading.{reading_of}
use Rattle.memif_fee_ea.specs.ea_slots.Whole.{told_in, clock_in, part_at}
use Rattle.memif_fee_ea.specs.fee_core.promise_device.Bridge.{Bridges}
use Rattle.fls_devices.specs.Cutter.{told_cutting}
use Rattle.nvm_flash.proofs.Returning.{part_back}
use Rattle.nvm_flash.proofs.pair.give_slots_back.Goals as goal

pub returns : goal.returns
returns g c = λ m other cuts made_for over.
    let d = c.args.device in
    let entry = g.P.Origin.entry in
    let k = c.into_flash.result in
    part_back (reading_of m) other cuts entry (g.G.Flash.told c.into_inner.result) k (flash_device d.making d.entry d.parts) over c.into_inner.ensures.cuts c.into_inner.ensures.inner
    c.into_flash.ensures.told c.into_flash.ensures.changes c.into_flash.ensures.none c.into_flash.ensures.more (c.into_flash.ensures.geometry ∙ ap (λ (x : Making). x.geometry) made_for)
    (subst (λ (x : Making). Bridges (reading_of x) false (record { entry = entry; exit = told_cutting k; operations = d.parts.operations }) (part_at entry) (told_in d) (clock_in d)) made_for c.into_flash.ensures.bridge)

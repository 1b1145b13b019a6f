use Rattle.std.proofs.Common.{sym, ap, ◌∙◌}
use Rattle.nvm.specs.memif.Told.{slot_at}
use Rattle.nvm.specs.fls_model.Told.{bytes_now}
use Rattle.nvm.specs.block_machine.Words.{Erased, Invalid}
use Rattle.nvm.specs.nvm_flash.fee_told.Device.{slots_in}
use Rattle.fee_core.specs.MarkPlaces.{mark_placed}
use Rattle.fee_core.specs.declared.mark_place.MarkPlace.{MarkPlace}
use Rattle.nvm_c.proofs.StandingMarks.{settled_so}
use Rattle.nvm_c.proofs.standing.mark_of.Goals as goal

pub returns-in-Erased-clause-settled : goal.returns-in-Erased-clause-settled
returns-in-Erased-clause-settled g c =
    settled_so (bytes_now c.args.device.now.flash) (bytes_now c.inner-flash.result.now) c.len-size.result Erased (λ bytes. (slot_at c.args.device.now.making.numbers (slots_in c.args.device.now bytes) c.args.number.0).settled.mark)
    (ap bytes_now (sym c.flash.ensures.flash) ∙ c.inner-flash.ensures.bytes) c.len-size.ensures
    (λ bytes. sym (c.mark_place.ensures.settled bytes ∙ ap (λ (at : MarkPlace). mark_placed at c.args.length bytes) c.in-Erased.is))

pub returns-in-Invalid-clause-settled : goal.returns-in-Invalid-clause-settled
returns-in-Invalid-clause-settled g c =
    settled_so (bytes_now c.args.device.now.flash) (bytes_now c.inner-flash.result.now) c.len-size.result Invalid (λ bytes. (slot_at c.args.device.now.making.numbers (slots_in c.args.device.now bytes) c.args.number.0).settled.mark)
    (ap bytes_now (sym c.flash.ensures.flash) ∙ c.inner-flash.ensures.bytes) c.len-size.ensures
    (λ bytes. sym (c.mark_place.ensures.settled bytes ∙ ap (λ (at : MarkPlace). mark_placed at c.args.length bytes) c.in-Invalid.is))

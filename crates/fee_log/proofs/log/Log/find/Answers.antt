use Rattle.std.proofs.Common.{ℕ, Some, ◌∙◌, ap}
use Rattle.std.proofs.lemmas.Option.{slice_get-get_or}
use Rattle.nv_base.specs.declared.instance.DeviceNumber.{DeviceNumber}
use Rattle.fee_log.proofs.Within.{within_length, index_within}
use Rattle.nv_base.proofs.Places.{numbers_have_places}
use Rattle.fee_log.proofs.log.Log.find.Goals as goal

pub place_of-requires : goal.place_of-requires
place_of-requires c = rw c.deref.ensures.value (within_length _ _ _ _ c.self.invariant.places)

pub returns-clause-within : goal.returns-clause-within
returns-clause-within c =
    let s = c.self.inside in
    rw (← c.self.view_is, c.place_of.ensures, c.deref.ensures.value)
    (λ length has.
    let x : DeviceNumber × ℕ = (c.args.number, length) in
    let at = slice_get-get_or s.numbers has.0 x has.1 ∙ ap Some has.2 in
    rw (numbers_have_places 0 s.numbers has.0 x c.self.invariant.numbers at)
    (index_within s.geometry.page s.end s.numbers s.places.items has.0 x c.self.invariant.places at))

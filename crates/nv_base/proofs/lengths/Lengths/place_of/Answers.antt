use Rattle.std.proofs.Common.{ℕ, List, sym, ◌∙◌, subst}
use Rattle.nv_base.specs.declared.instance.DeviceNumber.{DeviceNumber}
use Rattle.nv_base.specs.Lengths.{IsPlace}
use Rattle.nv_base.proofs.Places.{place_is}
use Rattle.nv_base.proofs.lengths.Lengths.place_of.Goals as goal

pub returns-then-is_at : goal.returns-then-is_at
returns-then-is_at c =
    let number = c.args.number.0 in
    let place = c.from-place.result in
    let at = subst (λ (xs : List (DeviceNumber × ℕ)). IsPlace xs number place) c.as_slice.ensures.value (c.is_at.ensures c.if-is_at.true) in
    let value = sym (place_is 0 c.args.self.now number place c.as_slice.ensures.bounds at) in
    record { value = value; place = at; only = λ i other. value ∙ place_is 0 c.args.self.now number i c.as_slice.ensures.bounds other }

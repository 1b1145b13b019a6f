use Rattle.std.specs.Prelude.{is_some}
use Rattle.std.proofs.Common.{◌≡◌, true, sym}
use Rattle.memif.specs.Told.{length_of}
use Rattle.fee_core.proofs.Looking.{number_at, number_none}
use Rattle.fee_core.proofs.parts.FeeParts.length_of.Goals as goal

pub returns-in-Some : goal.returns-in-Some
returns-in-Some g c = rw c.as_slice.ensures.value (number_at c.self.view_is c.requires.sound c.args.number.0 c.in-Some.place (sym c.in-Some.ensures.value))

pub returns-in-None : goal.returns-in-None
returns-in-None g c =
    let none = number_none c.self.view_is c.requires.sound c.args.number.0 c.in-None.ensures.place in
    let some : is_some (length_of g.O.Origin.making.numbers c.args.number.0) ≡ true = c.requires.configured in
    absurd (cc (some, none))

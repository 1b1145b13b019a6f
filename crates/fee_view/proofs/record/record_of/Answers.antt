use Rattle.std.proofs.Common.{arith}
use Rattle.std.proofs.lemmas.Grind.{common_steps}
use Rattle.fee_image.proofs.Bodies.{bodies_have_room}
use Rattle.fee_image.proofs.Reading.{pages_are_one_range}
use Rattle.fee_view.proofs.record.record_of.Goals as goal

pub returns-clause-shown : goal.returns-clause-shown
returns-clause-shown c = grind (arith, common_steps, pages_are_one_range, bodies_have_room)

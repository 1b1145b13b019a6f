use Rattle.std.proofs.Common.{◌+◌, ◌<◌, get_or, length, drop, set, ap, ◌∙◌, arith}
use Rattle.std.proofs.lemmas.List.{length-drop}
use Rattle.std.specs.Mem.Slots.{slots_items}
use Rattle.std.specs.Prelude.{bit_and}
use Rattle.lent_flash.proofs.Pieces.{and_more, read_at}
use Rattle.lent_flash.proofs.places.and_out.Goals as goal

pub loop-i-preserved : goal.loop-i-preserved
loop-i-preserved c =
    let items = slots_items c.args.places.now in
    let within : c.args.at + c.loop-i.i < length items = omega (arith, c.requires.within, c.args.places.now.ok.0, c.loop-i-test.true) in
    let got = read_at items c.args.at c.loop-i.i c.get.result.now within c.get.ensures in
    ap (λ x. set c.loop-i.into c.loop-i.i (bit_and x (get_or c.args.page.now c.loop-i.i 0))) got
    ∙ and_more (drop c.args.at items) c.args.page.now c.args.into.now c.loop-i.into c.loop-i.i (omega (arith, length-drop c.args.at items)) (omega (arith, c.loop-i-test.true)) (omega (arith, c.requires.room, c.loop-i-test.true)) c.loop-i.invariant

use Rattle.nvm_callers.proofs.Common.{IfSome, ◌<◌, Option, None, length, sym, subst, ap, arith, length-set, SideValue}
use Rattle.nvm_callers.proofs.Moving.{goes_over}
use Rattle.nvm_callers.proofs.dealing.go_over.Goals as goal

pub returns-in-Some-clause-over : goal.returns-in-Some-clause-over
returns-in-Some-clause-over g c =
    let is = c.in-Some.ensures in
    let place = is.place in
    let same = ap length is.left in
    let long = length-set c.args.from.now c.args.block None in
    goes_over c.args.block c.args.from.now c.args.to.now c.take.new.self c.put.new.self c.in-Some.side is.taken is.left c.put.ensures.new (is.own c.requires.sides.0 c.requires.sides.1).1.0
    (subst (λ (o : Option (SideValue g.row.N.Denot)). IfSome o (λ s. c.args.block < length c.args.to.now)) (sym is.taken) (c.requires.places c.args.block))
    (omega (arith, place, same, long))

pub returns-in-Some-clause-own : goal.returns-in-Some-clause-own
returns-in-Some-clause-own g c = λ ps from to. let is = c.in-Some.ensures.own ps from in (is.0, c.put.ensures.own ps to is.1.1)

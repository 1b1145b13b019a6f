use Rattle.nvm_callers.proofs.Common.{AreSidesOf, Pairs}
use Rattle.nvm_callers.proofs.DealtSides.{AreBack}
use Rattle.nvm_callers.proofs.gathering.gather_one.Given as goal

abbrev pub invariant-loop-block : goal.invariant-loop-block
invariant-loop-block g l =
    AreBack l.block l.initial.own l.initial.sides l.own l.sides × ((ps : Pairs) → AreSidesOf ps l.initial.own → AreSidesOf ps l.initial.sides → AreSidesOf ps l.own × AreSidesOf ps l.sides)

use Rattle.std.specs.Prelude.{take}
use Rattle.nvm_callers.proofs.Common.{AreSidesOf, Pairs, HasPlaces, IsDealt}
use Rattle.nvm_callers.proofs.dealing.deal_one.Given as goal

abbrev pub invariant-loop-place : goal.invariant-loop-place
invariant-loop-place g l = IsDealt (take l.place l.deeds) l.initial.from l.own l.from × HasPlaces l.from l.own × ((ps : Pairs) → AreSidesOf ps l.initial.from → AreSidesOf ps l.from × AreSidesOf ps l.own)

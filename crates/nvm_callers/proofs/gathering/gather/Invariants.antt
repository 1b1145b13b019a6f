use Rattle.nvm_callers.proofs.Common.{All, vec_len, ◌≡◌, ◌+◌, AreSidesOf, Pairs, AreBelow, HasPlaces}
use Rattle.nvm_callers.proofs.DealtSides.{HaveComeBack}
use Rattle.nvm_callers.proofs.gathering.gather.Given as goal

abbrev pub invariant-loop-back : goal.invariant-loop-back
invariant-loop-back g l =
    (vec_len l.stores + l._back ≡ vec_len l.initial.stores) × HaveComeBack l.initial.stores.items l.stores.items l.initial.sides l.sides
    × All (λ s. HasPlaces s.sides l.initial.sides) l.stores.items × All (λ s. AreBelow l.places s.sides) l.stores.items
    × ((ps : Pairs) → AreSidesOf ps l.initial.sides → All (λ s. s.mirrors ≡ ps) l.initial.stores.items → AreSidesOf ps l.sides × All (λ s. s.mirrors ≡ ps) l.stores.items)

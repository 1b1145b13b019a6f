use Rattle.nvm_callers.proofs.Common.{map, All, ◌≡◌, length, AreSidesOf, AllDealt}
use Rattle.std.specs.Prelude.{take}
use Rattle.nvm_callers.proofs.dealing.deal.Given as goal

abbrev pub invariant-loop-place : goal.invariant-loop-place
invariant-loop-place g l =
    AreSidesOf l.mirrors l.sides × (length l.dealt.items ≡ l.place) × AllDealt (take l.place l.programs) l.initial.sides (map (λ s. s.sides) l.dealt.items) l.sides × All (λ s. s.mirrors ≡ l.mirrors) l.dealt.items

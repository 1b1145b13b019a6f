-- Which jobs were picked already, of those that are pending.
use Rattle.std.specs.Prelude.{◌≡◌, ◌<◌, true, false, List, [], ◌∷◌, IsSome, None}
use Rattle.block_machine.specs.Words.{Configuration}
use Rattle.block_machine.specs.State.{Job}
use Rattle.block_machine.specs.Blocks.{rank_of}
use Rattle.block_laws.specs.Consistent.{Each}

-- where this job was picked, another one of its priority wasn't, and came later
abbrev pub Leads : Configuration → Job → Job → Type 0
Leads c a b = (rank_of c a).priority ≡ (rank_of c b).priority → (b.taken ≡ None) × (a.number < b.number)

-- of two standard jobs each that was picked leads the other one
abbrev pub InLine : Configuration → Job → Job → Type 0
InLine c a b =
    (rank_of c a).immediate ≡ false → (rank_of c b).immediate ≡ false
    → (IsSome a.taken → Leads c a b) × (IsSome b.taken → Leads c b a)

abbrev pub AreInLine : Configuration → List Job → Type 0
AreInLine c [] = Unit {0}
AreInLine c (j ∷ js) = Each (InLine c j) js × AreInLine c js

-- an immediate job that waits was never picked
abbrev pub IsFresh : Configuration → Job → Type 0
IsFresh c j = (rank_of c j).immediate ≡ true → j.taken ≡ None

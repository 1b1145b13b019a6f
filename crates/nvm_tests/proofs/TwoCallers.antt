-- What the callers of the tests may make.
use Rattle.std.specs.Prelude.{All}
use Rattle.std.proofs.Common.{◌≤◌, ℕ, [], ◌∷◌, length, lit≤}
use Rattle.std.proofs.lemmas.List.Elements.{All-nil, All-cons}
use Rattle.nvm_laws.specs.block_machine.Words.{Configuration, Request}
use Rattle.nvm_laws.specs.block_machine.Legal.{HasStore}
use Rattle.script_callers.specs.declared.deed.Deed.TheVariants.{Ask, Await}
use Rattle.script_callers.specs.declared.program.Program.{Program}
use Rattle.nvm_callers.specs.Calls.{MayMake}
use Rattle.nvm_callers.specs.Callers.{MayRun}

pub may_run : (c : Configuration) (caller : ℕ) (first second : Request) → caller ≤ 15 → 2 ≤ length c.blocks → HasStore c first → HasStore c second
    → MayRun c (record { caller = caller; deeds = Ask 1 first ∷ Ask 2 second ∷ Await 3 2 ∷ [] })
may_run c caller first second least few one two =
    (least, All-cons (MayMake c) (Ask 1 first) (Ask 2 second ∷ Await 3 2 ∷ []) one (All-cons (MayMake c) (Ask 2 second) (Await 3 2 ∷ []) two (All-cons (MayMake c) (Await 3 2) [] (few, lit≤ tt) (All-nil (MayMake c)))))

pub both_may_run : (c : Configuration) (p q : Program) → MayRun c p → MayRun c q → All (MayRun c) (p ∷ q ∷ [])
both_may_run c p q one two = All-cons (MayRun c) p (q ∷ []) one (All-cons (MayRun c) q [] two (All-nil (MayRun c)))

use Rattle.std.specs.Option.{option_map_or}
use Rattle.std.proofs.Common.{◌≡◌, ◌<◌, ◌≤◌, ◌+◌, ℕ, Bool, true, false, Option, sym, ap, subst, inl, inr, arith}
use Rattle.block_machine.specs.nv_base.Count.{WereCounted}
use Rattle.block_machine.specs.nv_base.Marks.{number_of}
use Rattle.block_machine.specs.block_config.DemoConfig.{demo_config}
use Rattle.block_machine.specs.State.{Job}
use Rattle.block_machine.specs.Blocks.{rank_of}
use Rattle.block_machine.specs.StartUp.{at_first}
use Rattle.promise_blocks.specs.Payment.{Worn, ArePaid, every_block}
use Rattle.promise_blocks.specs.Cases.{failed_write, never_worn, worn_from}
use Rattle.promise_blocks.proofs.cases.failures_that_are_not_paid.Goals as goal

few : (n before after : ℕ) → after < 10 → WereCounted n before after → before + n ≤ after
few n before after small (inl is) = is
few n before after small (inr full) = omega (arith, full)

unpaid : (worn : Worn) (n : ℕ) → n < 2 → ((ops number : ℕ) → ops ≤ 7 → worn ops number true → ⊥) → ArePaid every_block demo_config worn n at_first failed_write → ⊥
unpaid worn n small fresh (inr (none, rest)) = none
unpaid worn n small fresh (inl (p0, inr (none, rest))) = none
unpaid worn n small fresh (inl (p0, inl (p1, inr (none, rest)))) = none
unpaid worn n small fresh (inl (p0, inl (p1, inl (p2, inl (p3, rest))))) = omega (arith, p3)
unpaid worn n small fresh (inl (p0, inl (p1, inl (p2, inr ((j, hand, some, was), rest))))) =
    let urgent : true ≡ (rank_of demo_config j).immediate = ap (λ (o : Option Job). option_map_or (λ x. (rank_of demo_config x).immediate) o true) hand in
    let number = number_of (record { block = 3; index = was.index }) in
    fresh was.moment number was.by_then (subst (λ (b : Bool). worn was.moment number b) (sym urgent) was.is)

pub returns-clause-one_fault : goal.returns-clause-one_fault
returns-clause-one_fault c paid = unpaid never_worn paid.faults (omega (arith, few paid.faults 3 4 (omega arith) paid.counted)) (λ ops number small is. is) paid.pay

pub returns-clause-worn_later : goal.returns-clause-worn_later
returns-clause-worn_later c paid = unpaid (worn_from 8 true) paid.faults (omega (arith, few paid.faults 3 3 (omega arith) paid.counted)) (λ ops number small is. omega (arith, is.2)) paid.pay

pub returns-clause-worn_for_others : goal.returns-clause-worn_for_others
returns-clause-worn_for_others c paid = unpaid (worn_from 7 false) paid.faults (omega (arith, few paid.faults 3 3 (omega arith) paid.counted)) (λ ops number small is. cc (is.1)) paid.pay

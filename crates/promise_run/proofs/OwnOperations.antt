-- Whose operations are whose.
use Rattle.std.specs.Bool.{beq}
use Rattle.std.specs.Prelude.{IsTrue}
use Rattle.std.proofs.Common.{◌≡◌, ◌<◌, ◌+◌, ◌↔◌, ℕ, zero, suc, Bool, true, false, if◌then◌else◌, Option, Some, None, refl, sym, ap, ◌∙◌, arith}
use Rattle.block_machine.specs.nv_base.Count.{last_count}
use Rattle.block_machine.specs.State.{Job}
use Rattle.block_machine.specs.Blocks.{job_block}
use Rattle.block_machine.specs.Steps.{after}
use Rattle.block_machine.specs.History.{up_to}
use Rattle.memif.specs.Told.{DeviceTold, Second}
use Rattle.memif.specs.Clock.{Clock}
use Rattle.promise_blocks.specs.OverDevice.{is_of}
use Rattle.promise_blocks.specs.Operations.{is_on}
use Rattle.promise_run.specs.Beside.{is_beside}
use Rattle.promise_run.specs.OwnOperations.{CountsPart, OperationsAreCounted}

pub on_same : (of other : ℕ → Bool) → ((block : ℕ) → of block ≡ other block) → (hand : Option Job) → is_on of hand ≡ is_on other hand
on_same of other same None = refl
on_same of other same (Some j) = same (job_block j)

-- the operation is whose the history says, and the count goes on as it does
module _ (second : Bool) (now : DeviceTold) (clock : Clock) (count : ℕ → ℕ) (counts : CountsPart second now clock count) (k : ℕ) (within : k < now.ops) (small : k < last_count) where
  by : (t s : Bool) → s ≡ second → clock.of_second k ↔ IsTrue t → count (suc k) ≡ count k + (if beq s t then 1 else 0)
  by true true same is = counts.of_second k within small (is.1 refl) ∙ ap (λ (p : Bool). count k + (if p then 1 else 0)) (sym same)
  by true false same is = counts.of_second k within small (is.1 refl) ∙ ap (λ (p : Bool). count k + (if p then 1 else 0)) (sym same)
  by false true same is = counts.of_first k within small (λ of. cc (is.0 of)) ∙ ap (λ (p : Bool). count k + (if p then 0 else 1)) (sym same)
  by false false same is = counts.of_first k within small (λ of. cc (is.0 of)) ∙ ap (λ (p : Bool). count k + (if p then 0 else 1)) (sym same)

pub operations_are_counted : OperationsAreCounted
operations_are_counted second c h b now clock count jobs blocks counts zero few small = sym counts.none
operations_are_counted second c h b now clock count jobs blocks counts (suc k) few small =
    let before = operations_are_counted second c h b now clock count jobs blocks counts k (omega (arith, few)) (omega (arith, small)) in
    let same : is_beside c h b k ≡ is_on (is_of Second now.fixed) (after c (up_to k h)).hand = on_same b.blocks (is_of Second now.fixed) blocks (after c (up_to k h)).hand in
    let next = by second now clock count counts k (omega (arith, few)) (omega (arith, small)) (is_on (is_of Second now.fixed) (after c (up_to k h)).hand) second refl (jobs k (omega (arith, small)) (omega (arith, few))) in
    ap (λ (n : ℕ). n + (if beq second (is_beside c h b k) then 1 else 0)) before
    ∙ ap (λ (t : Bool). count k + (if beq second t then 1 else 0)) same ∙ sym next

-- The power cuts that steps plan.
use Rattle.script_player.proofs.Common.{if◌then◌else◌, refl, slice_get, ◌≡◌, ◌≤◌, ◌+◌, ℕ, List, take, Some, ap, ◌∙◌, arith, take_more, sum_by_push, cuts_in, cuts_of, slice_get_within, get_or_from_slice_get}
use Rattle.nvm_script.specs.KeptStep.{is_cut}
use Rattle.nvm_script.specs.declared.step.Step.{Step}
use Rattle.nvm_script.specs.declared.step.StepKind.{StepKind}
use Rattle.nvm_script.specs.declared.step.StepKind.TheVariants.{Cut}

pub one_more : (steps : List Step) (i : ℕ) (x : Step) → slice_get steps i ≡ Some x → cuts_of (take (i + 1) steps) ≡ cuts_of (take i steps) + cuts_in x.kind
one_more steps i x at =
    ap cuts_of (take_more steps i x (slice_get_within steps i x at))
    ∙ sum_by_push (λ (y : Step). cuts_in y.kind) (take i steps) _
    ∙ ap (λ (y : Step). cuts_of (take i steps) + cuts_in y.kind) (get_or_from_slice_get steps i x x at)

pub few_in : (kind : StepKind) → cuts_in kind ≤ 1
few_in (Cut nth keep) = omega arith
few_in _ = omega arith

pub cuts_tested : (kind : StepKind) → cuts_in kind ≡ (if is_cut kind then 1 else 0)
cuts_tested (Cut nth keep) = refl
cuts_tested _ = refl

-- Each line of a script of `play` is a step that can be played.
use Rattle.std.proofs.Common.{◌≤◌, ◌+◌, ℕ, Bool, List, [], ◌∷◌, Option, Some, None, inl, inr, subst, sym, arith}
use Rattle.std.specs.Option.{unwrap_or, is_some}
use Rattle.std.proofs.lemmas.List.Elements.{All-push, All-nil}
use Rattle.nv_base.specs.declared.request.Request.TheVariants as request
use Rattle.block_config.specs.Config.{Configuration}
use Rattle.nvm_script.specs.declared.step.Step.{Step}
use Rattle.nvm_script.specs.declared.step.StepKind.{StepKind}
use Rattle.nvm_script.specs.declared.step.StepKind.TheVariants.{Ask, Store, Turn, CutSecond, Refuse, Await}
use Rattle.nvm_script.specs.declared.script.Mode.TheVariants.{Play}
use Rattle.nvm_script.specs.Step.{IsStep}
use Rattle.nvm_script.specs.Line.{IsCalled, IsStepLine}
use Rattle.nvm_script.specs.Script.{Follows, IsScript}
use Rattle.nvm_script.specs.Played.{CanBePlayed, IsPlayed, ArePlayed}
use Rattle.nvm_script.specs.PlayedLaws.{ScriptsArePlayed}

can_be_played : (c : Configuration) (called : Bool) (text : List ℕ) (kind : StepKind) → IsStep c Play called text kind → CanBePlayed c kind
can_be_played c called text (Ask (request.Write block (Some content) store)) step = step.0.0
can_be_played c called text (Ask (request.Write block None store)) step = step.0.0
can_be_played c called text (Ask asked) step = tt
can_be_played c called text (Store block content) step = step.1
can_be_played c called text (Turn count) step = step.0.0
can_be_played c called text (CutSecond nth keep) step = step.1.1
can_be_played c called text (Refuse block count) step = step.1.1
can_be_played c called text (Await block) step = absurd (cc step.1.0)
can_be_played c called text kind step = tt

few : (called : Option ℕ) (text line : List ℕ) → IsCalled called text line → unwrap_or called 0 ≤ 15
few None text line is = omega arith
few (Some caller) text line is = is.0

is_played : (c : Configuration) (n caller : ℕ) (line : List ℕ) (kind : StepKind) → IsStepLine c Play line caller kind → IsPlayed c (record { line = n; caller = caller; kind = kind })
is_played c n caller line kind (called, text, is, step, by) = record {
  caller = subst (λ (who : ℕ). who ≤ 15) (sym by) (few called text line is);
  kind = can_be_played c (is_some called) text kind step;
}

add_line : (c : Configuration) (n : ℕ) (line : List ℕ) (before after : List Step) → ArePlayed c before → Follows c Play n line before after → ArePlayed c after
add_line c n line before after played (inl idle) = subst (λ (steps : List Step). ArePlayed c steps) (sym idle.1) played
add_line c n line before after played (inr (caller, kind, step, kept, is)) =
    subst (λ (steps : List Step). ArePlayed c steps) (sym is) (All-push (IsPlayed c) before (record { line = n; caller = caller; kind = kind }) played (is_played c n caller line kind step))

are_played : (c : Configuration) (n : ℕ) (before : List Step) (lines : List (List ℕ)) (steps : List Step) → ArePlayed c before → IsScript c Play n before lines steps → ArePlayed c steps
are_played c n before [] steps played script = subst (λ (s : List Step). ArePlayed c s) (sym script) played
are_played c n before (line ∷ lines) steps played (after, follows, script) = are_played c (n + 1) after lines steps (add_line c n line before after played follows) script

pub scripts_are_played : ScriptsArePlayed
scripts_are_played c n lines steps script = are_played c n [] lines steps (All-nil (IsPlayed c)) script

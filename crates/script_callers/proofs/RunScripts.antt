-- Each line of a script of `run` is a step that can be run.
use Rattle.std.specs.Prelude.{slice_get}
use Rattle.std.specs.Option.{option_map_or, unwrap_or, is_some}
use Rattle.std.proofs.Common.{◌≡◌, ◌≤◌, ◌+◌, ℕ, zero, suc, Bool, true, false, not, ◌||◌, List, [], ◌∷◌, ◌++◌, Option, Some, None, inl, inr, refl, sym, ap, ◌∙◌, subst, arith, ◌⊎◌, if◌then◌else◌}
use Rattle.std.proofs.lemmas.Bool.{eqb-true, eq-eqb}
use Rattle.std.proofs.lemmas.List.Elements.{All-push, All-nil}
use Rattle.nv_base.specs.declared.request.Request.TheVariants as request
use Rattle.nvm_script.specs.declared.script.Mode.TheVariants.{Run}
use Rattle.nvm_script.specs.Step.{IsStep}
use Rattle.nvm_script.specs.Line.{IsCalled, IsStepLine}
use Rattle.nvm_script.specs.Owners.{ram_block_of, owner_of, may_own, keeps_owner}
use Rattle.nvm_script.specs.Rules.{sync_length_of}
use Rattle.nvm_script.specs.Script.{Follows, IsScript}
use Rattle.nvm_script.proofs.OwnerLaws.{later, is_block, is_owner, owner_of-append}
use Rattle.script_walks.specs.Words.{Step, StepKind, AskStep, Store, Turn, Drain, Restart, Cut, CutSecond, Refuse, Await}
use Rattle.block_machine.specs.Words.{Configuration}
use Rattle.script_callers.specs.RunScripts.{CanBeRun, IsRunBy, HasOneOwner, AreRun}
use Rattle.script_callers.specs.Laws.{ScriptsAreRun}

can_be_run : (c : Configuration) (called : Bool) (text : List ℕ) (kind : StepKind) → IsStep c Run called text kind → CanBeRun c kind
can_be_run c called text (AskStep (request.Write block (Some content) store)) step = step.0.0
can_be_run c called text (AskStep (request.Write block None store)) step = step.0.0
can_be_run c called text (AskStep asked) step = tt
can_be_run c called text (Store block content) step = step.1
can_be_run c called text (Await block) step = step.1.1
can_be_run c called text (Turn count) step = absurd (cc step.1.0)
can_be_run c called text Drain step = absurd (cc step.1.0)
can_be_run c called text Restart step = absurd (cc step.1.0)
can_be_run c called text (Cut nth keep) step = absurd (cc step.1.0)
can_be_run c called text (CutSecond nth keep) step = absurd (cc step.1.0.0)
can_be_run c called text (Refuse block count) step = absurd (cc step.1.0.0)

few : (called : Option ℕ) (text line : List ℕ) → IsCalled called text line → unwrap_or called 0 ≤ 15
few None text line is = omega arith
few (Some caller) text line is = is.0

is_run : (c : Configuration) (n caller : ℕ) (line : List ℕ) (kind : StepKind) → IsStepLine c Run line caller kind → IsRunBy c (record { line = n; caller = caller; kind = kind })
is_run c n caller line kind (called, text, is, step, by) = record {
  caller = subst (λ (who : ℕ). who ≤ 15) (sym by) (few called text line is);
  kind = can_be_run c (is_some called) text kind step;
}

-- THE OWNERS

at_push : (xs : List Step) (s x : Step) (i : ℕ) → slice_get (xs ++ s ∷ []) i ≡ Some x → (slice_get xs i ≡ Some x) ⊎ (s ≡ x)
at_push [] s x zero is = inr (cc is)
at_push [] s x (suc i) is = absurd (cc is)
at_push (y ∷ ys) s x zero is = inl is
at_push (y ∷ ys) s x (suc i) is = at_push ys s x i is

owns : (owner : Option ℕ) (s : Step) (block : ℕ) → is_owner s.caller owner ≡ true → ram_block_of s.kind ≡ Some block → later owner s block ≡ Some s.caller
owns (Some owner) s block own names = ap Some (eqb-true owner s.caller own)
owns None s block own names =
    let is : is_block block (ram_block_of s.kind) ≡ true = ap (is_block block) names ∙ eq-eqb block block refl in
    ap (λ (b : Bool). if b then Some s.caller else None) is

may : (sync : Bool) (own : Bool) → sync ≡ true → (not sync || own) ≡ true → own ≡ true
may true own sync keeps = keeps
may false own sync keeps = absurd (cc sync)

added : (c : Configuration) (before : List Step) (s : Step) (i block : ℕ) (x : Step) → HasOneOwner c before → keeps_owner c Run (owner_of before) s.caller s.kind ≡ true
    → slice_get (before ++ s ∷ []) i ≡ Some x → is_some (sync_length_of c block) ≡ true → ram_block_of x.kind ≡ Some block → owner_of (before ++ s ∷ []) block ≡ Some x.caller
added c before s i block x own keeps at sync names =
    elim (at_push before s x i at) [
      | inl old ↦ owner_of-append before s block ∙ ap (λ (o : Option ℕ). later o s block) (own i block x old sync names)
      | inr is ↦
          let named : ram_block_of s.kind ≡ Some block = ap (λ (y : Step). ram_block_of y.kind) is ∙ names in
          let kept : (not (is_some (sync_length_of c block)) || is_owner s.caller (owner_of before block)) ≡ true = subst (λ (o : Option ℕ). option_map_or (may_own c (owner_of before) s.caller) o true ≡ true) named keeps in
          owner_of-append before s block ∙ owns (owner_of before block) s block (may (is_some (sync_length_of c block)) (is_owner s.caller (owner_of before block)) sync kept) named
          ∙ ap (λ (y : Step). Some y.caller) is
    ]

-- THE STEPS

none_run : (c : Configuration) → AreRun c []
none_run c = record { each = All-nil (IsRunBy c); owners = λ i block x at sync names. absurd (cc at) }

add_line : (c : Configuration) (n : ℕ) (line : List ℕ) (before after : List Step) → AreRun c before → Follows c Run n line before after → AreRun c after
add_line c n line before after run (inl idle) = subst (λ (steps : List Step). AreRun c steps) (sym idle.1) run
add_line c n line before after run (inr (caller, kind, step, kept, is)) =
    let s : Step = record { line = n; caller = caller; kind = kind } in
    subst (λ (steps : List Step). AreRun c steps) (sym is)
    (record {
      each = All-push (IsRunBy c) before s run.each (is_run c n caller line kind step);
      owners = λ i block x at sync names. added c before s i block x run.owners kept at sync names;
    })

are_run : (c : Configuration) (n : ℕ) (before : List Step) (lines : List (List ℕ)) (steps : List Step) → AreRun c before → IsScript c Run n before lines steps → AreRun c steps
are_run c n before [] steps run script = subst (λ (s : List Step). AreRun c s) (sym script) run
are_run c n before (line ∷ lines) steps run (after, follows, script) = are_run c (n + 1) after lines steps (add_line c n line before after run follows) script

pub scripts_are_run : ScriptsAreRun
scripts_are_run c n lines steps script = are_run c n [] lines steps (none_run c) script

use Rattle.std.proofs.Common.{◌≡◌, ◌<◌, ◌+◌, ℕ, Some, List, [], ◌∷◌, ◌++◌, length, get_or, take, drop, filter, ap, ◌∙◌, subst, sym, arith, rules, Vec, Global}
use Rattle.std.proofs.Math.Seq.{take-append_seam}
use Rattle.std.proofs.lemmas.Fn.{filter_same}
use Rattle.std.proofs.lemmas.List.{length-replicate, take_all, take_more}
use Rattle.std.proofs.lemmas.Option.{slice_get_within, get_or_from_slice_get}
use Rattle.script_walks.specs.Words.{Step}
use Rattle.script_callers.specs.Counting.{AreCounted, AreMade}
use Rattle.script_callers.specs.Programs.{all_programs, does_something}
use Rattle.script_callers.specs.declared.program.Program.{Program}
use Rattle.script_callers.proofs.Counting.{none_counted}
use Rattle.script_callers.proofs.Owning.{owns_before, run_at}
use Rattle.script_callers.proofs.programs.callers.Goals as goal
use Rattle.script_callers.proofs.programs.callers.Goals.{in-Some+in_ok-made-in-Some+in_ok-add_step-in-Some, in-None}

pub loop-place-init : goal.loop-place-init
loop-place-init c =
    let counts = c.in_ok-counts.ensures in
    let n : ℕ = length c.in_ok-counts.counts in
    let many : n ≡ c.blocks-2.result + 1 = ap length counts ∙ length-replicate (c.blocks-2.result + 1) 0 in
    record {
      made = c.in_ok-programs.ensures c.args.config.now;
      counted = subst (λ (cs : List ℕ). AreCounted [] cs) (sym counts) (none_counted (c.blocks-2.result + 1));
      size = omega (arith, many, c.blocks-2.ensures.count);
    }

pub add_step-requires-clause-run : goal.add_step-requires-clause-run
add_step-requires-clause-run c = run_at c.args.config.now c.args.steps.now c.loop-place.place c.in_ok-made-in-Some.made c.requires (c.in-Some.ensures ∙ ap Some (sym c.in_ok-made-in-Some.ensures))

pub loop-place-preserved : goal.loop-place-preserved
loop-place-preserved c =
    let config = c.args.config.now in
    let steps = c.args.steps.now in
    let place = c.loop-place.place in
    elim c.match-get.branch [
      | in-Some+in_ok-made-in-Some+in_ok-add_step-in-Some w ↦
          let x = w.in_ok-made-in-Some.made in
          let at = w.in-Some.ensures ∙ ap Some (sym w.in_ok-made-in-Some.ensures) in
          let within : place < length steps = slice_get_within steps place x at in
          let is : get_or steps place x ≡ x = get_or_from_slice_get steps place x x at in
          let more : take (place + 1) steps ≡ take place steps ++ x ∷ [] = take_more steps place x within ∙ ap (λ (y : Step). take place steps ++ y ∷ []) is in
          let made = w.in_ok-add_step-in-Some.ensures.made (take place steps) (owns_before config steps place x c.requires at) in
          let given : AreMade config (take place steps) c.loop-place.counts w.as_mut_slice.result.now = subst (λ (programs : List Program). AreMade config (take place steps) c.loop-place.counts programs) (sym w.as_mut_slice.ensures.value) c.loop-place.invariant in
          let len : length w.add_step.new.programs ≡ c.loop-place.programs.len = w.add_step.ensures.count ∙ w.as_mut_slice.ensures.len in
          let whole : take c.loop-place.programs.len (w.add_step.new.programs ++ drop (length w.add_step.new.programs) c.loop-place.programs.items) ≡ w.add_step.new.programs = ap (λ (n : ℕ). take n (w.add_step.new.programs ++ drop (length w.add_step.new.programs) c.loop-place.programs.items)) (sym len) ∙ take-append_seam w.add_step.new.programs (drop (length w.add_step.new.programs) c.loop-place.programs.items) in
          subst (λ (before : List Step). AreMade config before c.match-get.counts c.match-get.programs.items) (sym more)
          (subst (λ (counts : List ℕ). AreMade config (take place steps ++ x ∷ []) counts c.match-get.programs.items) (sym w.counts-is)
          (subst (λ (programs : List Program). AreMade config (take place steps ++ x ∷ []) w.add_step.new.counts programs) (sym (ap (λ (v : Vec Program Global). v.items) w.programs-is ∙ whole)) (made given)))
      | in-None w ↦
          let len = c.len-place-end.ensures in
          let end = c.loop-place.auto.place-end in
          let test = c.loop-place-test.true in
          let within : place < length steps = omega (arith, len, end, test) in
          absurd (omega (arith, within, w.in-None.ensures))
    ]

pub returns : goal.returns
returns c =
    let len = c.len-place-end.ensures in
    let end = c.loop-place.auto.place-end in
    let test = c.loop-place-test.false in
    let all : take c.loop-place.place c.args.steps.now ≡ c.args.steps.now = take_all c.loop-place.place c.args.steps.now (omega (arith, len, end, test)) in
    filter_same _ does_something _ (λ x b f' k. search rules) _ _ c.retain.ensures.filtered
    ∙ ap (filter does_something) (c.loop-place.invariant.made ∙ ap (all_programs c.args.config.now) all)

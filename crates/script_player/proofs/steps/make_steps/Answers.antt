use Rattle.script_player.proofs.Common.{◌≡◌, ◌++◌, ◌∷◌, [], List, length, sym, ap, ◌∙◌, subst, append_assoc, append-nil, arith, rules, into_iter_items, ArePlayed, nil_from_length, told_by, seen_by, IsPlayed, Makes, IsLeft, Memory, refl, inl}
use Rattle.uds_gateway.specs.block_config.Config.{Configuration}
use Rattle.nvm_script.specs.declared.step.Step.{Step}
use Rattle.script_player.proofs.Table.{holds_synchronized}
use Rattle.script_player.proofs.Paying.{none_last}
use Rattle.script_player.proofs.Walking.{is_played, none_made, begin, go_on, all_made, some_made}
use Rattle.script_player.proofs.PlainPaying.{is_seen}
use Rattle.script_player.proofs.steps.make_steps.Goals as goal

pub returns-in_default-clause-some : goal.returns-in_default-clause-some
returns-in_default-clause-some g c = none_made (seen_by g.D.MemDevice.told g.D.MemDevice.clock c.args.stack.now) c.args.steps (told_by g.D.MemDevice.told c.args.stack.now) (is_seen g.D.MemDevice.told g.D.MemDevice.clock c.args.stack.now) c.requires.fresh

pub loop-step-init : goal.loop-step-init
loop-step-init g c = record {
  order = sym (c.into_iter-step-iterator.ensures.into_iter_gives.0 ∙ c.into_steps-step-items.ensures.steps);
  left = search rules;
  way = begin (seen_by g.D.MemDevice.told g.D.MemDevice.clock c.args.stack.now) c.args.blocks c.in-Ok.stores (told_by g.D.MemDevice.told c.args.stack.now) (is_seen g.D.MemDevice.told g.D.MemDevice.clock c.args.stack.now) c.requires.fresh c.requires.blocks c.in-Ok.ensures;
  keeps = λ before kept. kept;
  starts = λ found. found;
}

pub make_step-requires : goal.make_step-requires
make_step-requires g c =
    let way = c.loop-step.invariant.way in
    let config : Configuration = (told_by g.D.MemDevice.told c.loop-step.stack).configuration in
    let order = c.loop-step.invariant.order ∙ ap (λ (xs : List Step). c.loop-step.yielded ++ xs) c.in-Some.ensures.steps.0 in
    record {
      ready = way.kept.ready;
      played = subst (λ (x : Step). IsPlayed config x) (sym c.in-Ok-whole.ensures) (is_played config c.loop-step.yielded _ c.in-Some.step (subst (λ (xs : List Step). ArePlayed config xs) order (subst (λ (x : Configuration). ArePlayed x c.args.steps) (sym way.configuration) c.requires.played)));
      synchronized = holds_synchronized _ _ c.loop-step.stores way.table_kept;
    }

pub loop-step-preserved : goal.loop-step-preserved
loop-step-preserved g c =
    let at = c.loop-step in
    let more = c.in-Some.ensures.steps.0 in
    let order = at.invariant.order ∙ ap (λ (xs : List Step). at.yielded ++ xs) more in
    record {
      order = order ∙ sym (append_assoc at.yielded (c.in-Some.step ∷ []) _);
      left = let few = at.invariant.left in let gone = c.in-Some.ensures.steps.1 in let short = ap length more in omega (arith, few, gone, short);
      way = go_on (seen_by g.D.MemDevice.told g.D.MemDevice.clock c.args.stack.now) (seen_by g.D.MemDevice.told g.D.MemDevice.clock at.stack) (seen_by g.D.MemDevice.told g.D.MemDevice.clock c.make_step.new.stack) c.args.steps at.yielded _ c.in-Some.step at.stores c.make_step.new.stores (told_by g.D.MemDevice.told c.args.stack.now) (told_by g.D.MemDevice.told at.stack) (told_by g.D.MemDevice.told c.make_step.new.stack) order c.into_steps-step-items.ensures.few c.requires.planned at.invariant.way
          (subst (λ (x : Step). Makes (seen_by g.D.MemDevice.told g.D.MemDevice.clock at.stack) (seen_by g.D.MemDevice.told g.D.MemDevice.clock c.make_step.new.stack) x at.stores c.make_step.new.stores (told_by g.D.MemDevice.told at.stack) (told_by g.D.MemDevice.told c.make_step.new.stack)) c.in-Ok-whole.ensures c.in_default-make_step.ensures.made);
      keeps = λ before kept. c.make_step.ensures.keeps before (at.invariant.keeps before kept);
      starts = λ found. c.make_step.ensures.starts (at.invariant.starts found);
    }

pub returns-in-Err-clause-some : goal.returns-in-Err-clause-some
returns-in-Err-clause-some g c =
    let at = c.loop-step in
    some_made (seen_by g.D.MemDevice.told g.D.MemDevice.clock c.args.stack.now) (seen_by g.D.MemDevice.told g.D.MemDevice.clock at.stack) (seen_by g.D.MemDevice.told g.D.MemDevice.clock c.make_step.new.stack) c.in-Err.fault c.args.steps at.yielded _ c.in-Some.step at.stores (told_by g.D.MemDevice.told c.args.stack.now) (told_by g.D.MemDevice.told at.stack) (told_by g.D.MemDevice.told c.make_step.new.stack) (at.invariant.order ∙ ap (λ (xs : List Step). at.yielded ++ xs) c.in-Some.ensures.steps.0) at.invariant.way
    (subst (λ (x : Step). IsLeft c.in-Err.fault x (told_by g.D.MemDevice.told at.stack) (told_by g.D.MemDevice.told c.make_step.new.stack)) c.in-Ok-whole.ensures c.in-Err.ensures.left) c.in-Err.ensures.lasts

pub returns-in_default-whole-clause-some : goal.returns-in_default-whole-clause-some
returns-in_default-whole-clause-some g c =
    let at = c.loop-step in
    let p = seen_by g.D.MemDevice.told g.D.MemDevice.clock at.stack in
    let now = told_by g.D.MemDevice.told at.stack in
    some_made (seen_by g.D.MemDevice.told g.D.MemDevice.clock c.args.stack.now) p p Memory c.args.steps at.yielded _ c.in-Some.step at.stores (told_by g.D.MemDevice.told c.args.stack.now) now now (at.invariant.order ∙ ap (λ (xs : List Step). at.yielded ++ xs) c.in-Some.ensures.steps.0) at.invariant.way
    (record { configuration = refl; cap = refl; entries = refl; counted = omega arith; operations = refl; cuts = inl (omega arith); came = refl; power = λ off. off; why = tt }) (none_last p)

pub returns-clause-all : goal.returns-clause-all
returns-clause-all g c =
    let at = c.loop-step in
    let none : into_iter_items at.step-iterator ≡ [] = nil_from_length _ (sym at.invariant.left ∙ c.in-None.ensures.steps.0) in
    all_made (seen_by g.D.MemDevice.told g.D.MemDevice.clock c.args.stack.now) (seen_by g.D.MemDevice.told g.D.MemDevice.clock at.stack) c.args.steps at.yielded at.stores (told_by g.D.MemDevice.told c.args.stack.now) (told_by g.D.MemDevice.told at.stack)
    (sym (at.invariant.order ∙ ap (λ (xs : List Step). at.yielded ++ xs) none ∙ append-nil at.yielded)) at.invariant.way

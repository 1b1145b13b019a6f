use Rattle.script_player.proofs.Common.{ℕ, List, ◌++◌, ◌∷◌, [], refl, sym, ◌∙◌, subst, Step, CanBePlayed, Stores, Makes, IsLeft, HasLastStores, told_by, seen_by}
use Rattle.nvm_script.specs.declared.step.StepKind.{StepKind}
use Rattle.nvm_script.specs.declared.step.StepKind.TheVariants as kind
use Rattle.script_player.proofs.Making.{at_kind, on_ok, if_err, step_made, ask_made, restart_made, turns_made, drain_made, arm_made, second_made, refuse_made, store_made, next_store}
use Rattle.script_player.proofs.Table.{noted_table, is_sync, is_within}
use Rattle.script_player.proofs.steps.make_step.Goals as goal

pub returns-in-Ask-clause-made : goal.returns-in-Ask-clause-made
returns-in-Ask-clause-made g c =
    let old = told_by g.D.MemDevice.told c.args.stack.now in
    let new = told_by g.D.MemDevice.told c.ask.new.stack in
    let x = c.args.step in
    on_ok c.ask.result c.ask.ensures.asked (λ asked.
    step_made (seen_by g.D.MemDevice.told g.D.MemDevice.clock c.args.stack.now) (seen_by g.D.MemDevice.told g.D.MemDevice.clock c.ask.new.stack) x (kind.Ask c.in-Ask.request) c.args.stores.now old new c.in-Ask.is refl (λ before has kept.
    ask_made (seen_by g.D.MemDevice.told g.D.MemDevice.clock c.args.stack.now) (seen_by g.D.MemDevice.told g.D.MemDevice.clock c.ask.new.stack) before x.line x.caller c.in-Ask.request c.args.stores.now old new
    (subst (λ (k : StepKind). CanBePlayed old.configuration k) c.in-Ask.is c.requires.played.kind) asked.0 asked.1 has kept))

pub returns-in-Ask-clause-left : goal.returns-in-Ask-clause-left
returns-in-Ask-clause-left g c =
    let x = c.args.step in
    if_err c.ask.result c.ask.ensures.left (λ fault left.
    at_kind (λ (y : Step). IsLeft fault y (told_by g.D.MemDevice.told c.args.stack.now) (told_by g.D.MemDevice.told c.ask.new.stack)) x (kind.Ask c.in-Ask.request) c.in-Ask.is (left x.line))

pub returns-in-Turn-clause-made : goal.returns-in-Turn-clause-made
returns-in-Turn-clause-made g c =
    let old = told_by g.D.MemDevice.told c.args.stack.now in
    let new = told_by g.D.MemDevice.told c.make_turns.new.stack in
    let x = c.args.step in
    step_made (seen_by g.D.MemDevice.told g.D.MemDevice.clock c.args.stack.now) (seen_by g.D.MemDevice.told g.D.MemDevice.clock c.make_turns.new.stack) x (kind.Turn c.in-Turn.count) c.args.stores.now old new c.in-Turn.is refl (λ before has kept.
    let (made, now) = c.make_turns.ensures.turns before kept in
    turns_made (seen_by g.D.MemDevice.told g.D.MemDevice.clock c.args.stack.now) (seen_by g.D.MemDevice.told g.D.MemDevice.clock c.make_turns.new.stack) before x.line x.caller c.in-Turn.count old new (subst (λ (k : StepKind). CanBePlayed old.configuration k) c.in-Turn.is c.requires.played.kind) made now)

pub returns-in-Drain-clause-made : goal.returns-in-Drain-clause-made
returns-in-Drain-clause-made g c =
    let old = told_by g.D.MemDevice.told c.args.stack.now in
    let new = told_by g.D.MemDevice.told c.drain.new.stack in
    step_made (seen_by g.D.MemDevice.told g.D.MemDevice.clock c.args.stack.now) (seen_by g.D.MemDevice.told g.D.MemDevice.clock c.drain.new.stack) c.args.step kind.Drain c.args.stores.now old new c.in-Drain.is refl (λ before has kept.
    let (made, now) = c.drain.ensures.drains before kept in
    drain_made (seen_by g.D.MemDevice.told g.D.MemDevice.clock c.args.stack.now) (seen_by g.D.MemDevice.told g.D.MemDevice.clock c.drain.new.stack) before c.args.step.line c.args.step.caller old new made c.drain.ensures.at_rest now)

pub returns-in-Restart-clause-made : goal.returns-in-Restart-clause-made
returns-in-Restart-clause-made g c =
    let old = told_by g.D.MemDevice.told c.args.stack.now in
    let new = told_by g.D.MemDevice.told c.restart.new.stack in
    on_ok c.restart.result c.restart.ensures.made (λ restarted.
    step_made (seen_by g.D.MemDevice.told g.D.MemDevice.clock c.args.stack.now) (seen_by g.D.MemDevice.told g.D.MemDevice.clock c.restart.new.stack) c.args.step kind.Restart c.args.stores.now old new c.in-Restart.is refl (λ before has kept.
    restart_made (seen_by g.D.MemDevice.told g.D.MemDevice.clock c.args.stack.now) (seen_by g.D.MemDevice.told g.D.MemDevice.clock c.restart.new.stack) before c.args.step.line c.args.step.caller old new restarted.0 restarted.1 kept))

pub returns-in-Restart-clause-left : goal.returns-in-Restart-clause-left
returns-in-Restart-clause-left g c =
    let x = c.args.step in
    if_err c.restart.result c.restart.ensures.left (λ fault left.
    at_kind (λ (y : Step). IsLeft fault y (told_by g.D.MemDevice.told c.args.stack.now) (told_by g.D.MemDevice.told c.restart.new.stack)) x kind.Restart c.in-Restart.is (left x.line x.caller))

pub returns-in-Cut-clause-made : goal.returns-in-Cut-clause-made
returns-in-Cut-clause-made g c =
    arm_made (seen_by g.D.MemDevice.told g.D.MemDevice.clock c.args.stack.now) (seen_by g.D.MemDevice.told g.D.MemDevice.clock c.arm.new.stack) c.args.step c.in-Cut.nth c.in-Cut.keep c.args.stores.now (told_by g.D.MemDevice.told c.args.stack.now) (told_by g.D.MemDevice.told c.arm.new.stack) c.in-Cut.is c.arm.ensures.arms c.arm.ensures.moved

pub returns-in-CutSecond-clause-made : goal.returns-in-CutSecond-clause-made
returns-in-CutSecond-clause-made g c =
    second_made (seen_by g.D.MemDevice.told g.D.MemDevice.clock c.args.stack.now) c.args.step c.in-CutSecond.nth c.in-CutSecond.keep c.args.stores.now (told_by g.D.MemDevice.told c.args.stack.now) c.in-CutSecond.is

pub returns-in-Refuse-clause-made : goal.returns-in-Refuse-clause-made
returns-in-Refuse-clause-made g c =
    refuse_made (seen_by g.D.MemDevice.told g.D.MemDevice.clock c.args.stack.now) (seen_by g.D.MemDevice.told g.D.MemDevice.clock c.refuse.new.stack) c.args.step c.in-Refuse.block c.in-Refuse.count c.args.stores.now (told_by g.D.MemDevice.told c.args.stack.now) (told_by g.D.MemDevice.told c.refuse.new.stack) c.in-Refuse.is c.refuse.ensures.refuses c.refuse.ensures.moved

pub returns-in-Store-clause-made : goal.returns-in-Store-clause-made
returns-in-Store-clause-made g c =
    let old = told_by g.D.MemDevice.told c.args.stack.now in
    let new = told_by g.D.MemDevice.told c.store-number.new.stack in
    let x = c.args.step in
    let block = c.in-Store.block in
    let content = c.in-Store.content in
    let number = c.store-number.result in
    let can = subst (λ (k : StepKind). CanBePlayed old.configuration k) c.in-Store.is c.requires.played.kind in
    let sync = (is_sync old.configuration block _ can).0 in
    let within = is_within old.configuration block _ can in
    let stored = subst (λ (bytes : List ℕ). Stores block bytes number old new) c.as_slice.ensures c.store-number.ensures.stores in
    at_kind (λ (y : Step). Makes (seen_by g.D.MemDevice.told g.D.MemDevice.clock c.args.stack.now) (seen_by g.D.MemDevice.told g.D.MemDevice.clock c.store-number.new.stack) y c.args.stores.now c.note.new.self old new) x (kind.Store block content) c.in-Store.is
    (λ before few kept has.
    let numbered = stored.numbered ∙ next_store old.configuration before block _ few (kept.stores block sync).number in (
      store_made (seen_by g.D.MemDevice.told g.D.MemDevice.clock c.args.stack.now) (seen_by g.D.MemDevice.told g.D.MemDevice.clock c.store-number.new.stack) before x.line x.caller block number content old new sync within few stored c.store-number.ensures.moved kept,
      subst (λ (table : List ℕ). HasLastStores old.configuration (before ++ record { line = x.line; caller = x.caller; kind = kind.Store block content } ∷ []) table) (sym c.note.ensures)
          (noted_table old.configuration before x.line x.caller block number content c.args.stores.now c.requires.played.caller sync within numbered has),
    ))

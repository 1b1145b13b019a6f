use Rattle.std.proofs.Common.{◌≡◌, ◌<◌, ◌+◌, ℕ, List, [], ◌∷◌, ◌++◌, length, ap, ◌∙◌, subst, sym, refl, arith}
use Rattle.std.proofs.lemmas.Result.{on_ok_weaker}
use Rattle.script_walks.specs.Words.{StepKind, AskStep, Store, Await}
use Rattle.script_walks.specs.Walk.{stores_of}
use Rattle.script_callers.specs.declared.deed.Deed.TheVariants as deed
use Rattle.script_callers.specs.Deeds.{deeds_by}
use Rattle.script_callers.specs.RunScripts.{CanBeRun}
use Rattle.script_callers.specs.Counting.{AreCounted, OwnsStores}
use Rattle.script_callers.proofs.Counting.{adds_one, counted_by, stored_by, block_stored}
use Rattle.script_callers.proofs.Owning.{synchronized}
use Rattle.script_callers.proofs.programs.add_deed.Goals as goal

pub returns-in-Ask-clause-added : goal.returns-in-Ask-clause-added
returns-in-Ask-clause-added c =
    let config = c.args.config.now in
    let x = c.args.step in
    on_ok_weaker c.add.result
    (λ is before own of owns counted. adds_one config before own x c.args.counts.now c.args.deeds.now c.add.new.self (deed.Ask x.line c.numbered.result) is
    (ap (deeds_by config own x.line x.caller) c.in-Ask.is
    ∙ ap (λ r. deed.Ask x.line r ∷ []) (sym (c.numbered.ensures before own x.caller of (subst (λ (k : StepKind). OwnsStores config before own k) c.in-Ask.is owns) counted)))
    (counted_by before x (AskStep c.in-Ask.request) c.args.counts.now c.in-Ask.is refl counted))
    c.add.ensures.ok

pub returns-in-Store-clause-added : goal.returns-in-Store-clause-added
returns-in-Store-clause-added c =
    let config = c.args.config.now in
    let x = c.args.step in
    let block = c.in-Store.block in
    let content = c.in-Store.content in
    let run : CanBeRun config (Store block content) = subst (λ (k : StepKind). CanBeRun config k) c.in-Store.is c.requires.run in
    let known : block < length config.blocks + 1 = block_stored config block content run in
    let within : block < length c.args.counts.now = omega (arith, known, c.requires.size) in
    on_ok_weaker c.add-in-Store.result
    (λ is before own of owns counted.
    let same : stores_of block own ≡ stores_of block before = subst (λ (k : StepKind). OwnsStores config before own k) c.in-Store.is owns block (synchronized config block content (Store block content) refl run) refl in
    let number : length (stores_of block own) + 1 ≡ c.of-number.result + 1 = ap (λ (n : ℕ). n + 1) (ap length same ∙ sym (c.of-number.ensures ∙ counted block within)) in
    adds_one config before own x c.note.new.self c.args.deeds.now c.add-in-Store.new.self (deed.Store x.line block (c.of-number.result + 1) content) is
    (ap (deeds_by config own x.line x.caller) c.in-Store.is ∙ ap (λ (n : ℕ). deed.Store x.line block n content ∷ []) number)
    (subst (λ (cs : List ℕ). AreCounted (before ++ x ∷ []) cs) (sym c.note.ensures) (stored_by before x block content c.args.counts.now c.in-Store.is counted)))
    c.add-in-Store.ensures.ok

pub returns-in-Await-clause-added : goal.returns-in-Await-clause-added
returns-in-Await-clause-added c =
    let config = c.args.config.now in
    let x = c.args.step in
    on_ok_weaker c.add-in-Await.result
    (λ is before own of owns counted. adds_one config before own x c.args.counts.now c.args.deeds.now c.add-in-Await.new.self (deed.Await x.line c.in-Await.block) is
    (ap (deeds_by config own x.line x.caller) c.in-Await.is) (counted_by before x (Await c.in-Await.block) c.args.counts.now c.in-Await.is refl counted))
    c.add-in-Await.ensures.ok

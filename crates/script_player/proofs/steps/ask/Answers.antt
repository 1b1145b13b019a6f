use Rattle.script_player.proofs.Common.{subst, Request, Ask, AddsAsk, IsAsked, told_by}
use Rattle.script_player.proofs.steps.ask.Goals as goal

pub returns-in-Ok-clause-asked : goal.returns-in-Ok-clause-asked
returns-in-Ok-clause-asked g c =
    let old = told_by g.D.MemDevice.told c.args.stack.now in
    let new = told_by g.D.MemDevice.told c.ask.new.stack in
    let asked : IsAsked c.args.caller c.args.request c.args.stores.now old new = λ before has. (
      c.in-Ok._reply,
      subst (λ (r : Request). AddsAsk (Ask c.args.caller r c.in-Ok._reply) old new) (c.request_with.ensures.after old.configuration before has c.requires.played) c.in-Ok.ensures.asks,
    ) in (asked, c.in-Ok.ensures.moved)

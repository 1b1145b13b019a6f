use Rattle.std.proofs.Common.{◌≡◌, ◌↔◌, IsTrue, List, subst, sym, take, arith}
use Rattle.std.proofs.lemmas.List.{take_all}
use Rattle.block_machine.specs.Words.{Entry}
use Rattle.block_machine.specs.Blocks.{instance_at}
use Rattle.block_machine.specs.Steps.{after}
use Rattle.block_machine.specs.Legal.{IsLegal}
use Rattle.block_machine.specs.History.{MayStandIn}
use Rattle.rows_histories.proofs.allowed.allows.Goals as goal

pub returns : goal.returns
returns c = λ cap legal.
    let h = c.args.history.now.entries in
    let all : take c.len.result h ≡ h = take_all c.len.result h (omega (arith, c.len.ensures.count)) in
    subst (λ (es : List Entry). IsTrue c.allows_behind.result ↔ MayStandIn (instance_at (after c.args.config.now es) c.args.instance) c.args.mark.now) all
    (c.allows_behind.ensures cap (subst (λ (es : List Entry). IsLegal c.args.config.now cap es) (sym all) legal))

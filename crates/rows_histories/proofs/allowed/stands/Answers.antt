use Rattle.std.proofs.Common.{◌≡◌, Some, IsTrue, ◌↔◌, add-one, subst, List, arith, take}
use Rattle.std.specs.Prelude.{slice_get}
use Rattle.std.proofs.lemmas.List.{take_all, length-take-le}
use Rattle.block_machine.specs.Words.{Entry}
use Rattle.block_machine.specs.Blocks.{instance_at}
use Rattle.block_machine.specs.Steps.{after}
use Rattle.block_machine.specs.History.{MayStandIn}
use Rattle.rows_histories.proofs.Lists.{taken_at}
use Rattle.rows_histories.proofs.Scan.{seen_first, scanned}
use Rattle.rows_histories.proofs.allowed.stands.Goals as goal
use Rattle.rows_histories.proofs.allowed.stands.Goals.{in-Some, in_default}

pub loop-i-init : goal.loop-i-init
loop-i-init c = λ cap legal.
    seen_first c.args.config.now c.args.instance c.args.mark.now c.at_first-seen.result c.at_first-seen.ensures.stands c.at_first-seen.ensures.index

pub loop-i-preserved : goal.loop-i-preserved
loop-i-preserved c = elim c.match-entry.branch [
  | in-Some w ↦ λ cap legal.
      let e : Entry = w.in-Some.entry.now in
      let at : slice_get (take c.args.count c.args.history.now.entries) c.loop-i.i ≡ Some e =
      taken_at c.args.history.now.entries c.args.count c.loop-i.i e c.loop-i-test.true w.in-Some.ensures in
      rw (w.seen-is, add-one)
      (scanned c.args.config.now cap
      (take c.args.count c.args.history.now.entries) c.loop-i.i e c.args.instance c.args.mark.now c.loop-i.seen w.see.new.self c.blocks-blocks.ensures.legal
      c.requires.configured at legal (c.loop-i.invariant cap legal) w.see.ensures)
  | in_default w ↦ absurd (omega (arith, c.requires.count))
]

pub returns : goal.returns
returns c = λ cap legal.
    let h = take c.args.count c.args.history.now.entries in
    let all : take c.loop-i.i h ≡ h =
    take_all c.loop-i.i h (omega (arith, c.loop-i-test.false, length-take-le c.args.count c.args.history.now.entries c.requires.count)) in
    subst (λ (es : List Entry). IsTrue c.loop-i.seen.stands ↔ MayStandIn (instance_at (after c.args.config.now es) c.args.instance) c.args.mark.now) all
    (c.loop-i.invariant cap legal).stands

use Rattle.std.proofs.Common.{suc, refl, sym, ◌∙◌}
use Rattle.nvm_moves.specs.nvm_core.Work.{work_of}
use Rattle.uds_gateway.specs.Turning.{is_on_way}
use Rattle.uds_gateway.proofs.JobTurns.{goes_more, on_way, turn_goes, turn_lowers, turn_ready, turns_fall}
use Rattle.uds_gateway.proofs.turning.turns_to_post.Goals as goal

pub loop-turned-init : goal.loop-turned-init
loop-turned-init g c =
    let is = c.turn-turned.ensures in
    record {
      ready = turn_ready g.D.MemDevice.told g.D.MemDevice.clock _ _ _ c.turn-turned.result c.args.stack.now c.turn-turned.new.stack is;
      turns = (0, (c.args.stack.now, refl, (c.turn-turned.result, is)));
      goes = turn_goes g.D.MemDevice.told g.D.MemDevice.clock _ _ _ c.turn-turned.result c.args.stack.now c.turn-turned.new.stack is;
    }

pub loop-turned-smaller : goal.loop-turned-smaller
loop-turned-smaller g c =
    let way = sym c.is_on_way.ensures ∙ c.loop-turned-test.true in
    let on = on_way c.requires.job.0 c.loop-turned.turned c.args.stack.now.desk c.loop-turned.stack.desk way (c.loop-turned.invariant.goes c.requires.job.0 c.requires.job.1) in
    turns_fall (is_on_way c.loop-turned.turned) (is_on_way c.turn-turned-in-loop-turned.result) (work_of g.D.MemDevice.told c.loop-turned.stack) (work_of g.D.MemDevice.told c.turn-turned-in-loop-turned.new.stack) way
    (turn_lowers g.D.MemDevice.told g.D.MemDevice.clock _ _ _ c.turn-turned-in-loop-turned.result c.loop-turned.stack c.turn-turned-in-loop-turned.new.stack c.turn-turned-in-loop-turned.ensures c.requires.job.0 on.one)

pub loop-turned-preserved : goal.loop-turned-preserved
loop-turned-preserved g c =
    let is = c.turn-turned-in-loop-turned.ensures in
    let (n, made) = c.loop-turned.invariant.turns in
    record {
      ready = turn_ready g.D.MemDevice.told g.D.MemDevice.clock _ _ _ c.turn-turned-in-loop-turned.result c.loop-turned.stack c.turn-turned-in-loop-turned.new.stack is;
      turns = (suc n, (c.loop-turned.stack, made, (c.turn-turned-in-loop-turned.result, is)));
      goes = λ asked one.
          let on = on_way asked c.loop-turned.turned c.args.stack.now.desk c.loop-turned.stack.desk (sym c.is_on_way.ensures ∙ c.loop-turned-test.true) (c.loop-turned.invariant.goes asked one) in
          goes_more asked c.turn-turned-in-loop-turned.result c.args.stack.now.desk c.loop-turned.stack.desk c.turn-turned-in-loop-turned.new.stack.desk on
          (turn_goes g.D.MemDevice.told g.D.MemDevice.clock _ _ _ c.turn-turned-in-loop-turned.result c.loop-turned.stack c.turn-turned-in-loop-turned.new.stack is asked on.one);
    }

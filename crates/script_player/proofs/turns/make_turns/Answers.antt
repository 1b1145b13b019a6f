use Rattle.script_player.proofs.Common.{◌≡◌, ℕ, false, refl, subst, arith, MakesTurns, none_moves, told_by, seen_by}
use Rattle.script_player.proofs.Grown.{ready_grown}
use Rattle.script_player.proofs.Turned.{one_turn_more}
use Rattle.script_player.proofs.turns.make_turns.Goals as goal

pub loop-turn-init : goal.loop-turn-init
loop-turn-init g c = record { ready = c.requires; turns = λ before kept. ((refl, none_moves false (seen_by g.D.MemDevice.told g.D.MemDevice.clock c.args.stack.now)), kept); keeps = λ before kept. kept; starts = λ found. found }

pub loop-turn-preserved : goal.loop-turn-preserved
loop-turn-preserved g c =
    let was = c.loop-turn.invariant in
    record {
      ready = ready_grown (told_by g.D.MemDevice.told c.loop-turn.stack) (told_by g.D.MemDevice.told c.turn.new.stack) c.turn.ensures.turns.made.entries c.turn.ensures.turns.made.grows was.ready;
      turns = λ before kept.
          let (made, now) = was.turns before kept in
          one_turn_more (seen_by g.D.MemDevice.told g.D.MemDevice.clock c.args.stack.now) (seen_by g.D.MemDevice.told g.D.MemDevice.clock c.loop-turn.stack) (seen_by g.D.MemDevice.told g.D.MemDevice.clock c.turn.new.stack) c.loop-turn._turn before (told_by g.D.MemDevice.told c.args.stack.now) (told_by g.D.MemDevice.told c.loop-turn.stack) (told_by g.D.MemDevice.told c.turn.new.stack) made now
          c.turn.ensures.turns.made c.turn.ensures.moved;
      keeps = λ before kept. c.turn.ensures.keeps before (was.keeps before kept);
      starts = λ found. c.turn.ensures.starts (was.starts found);
    }

pub returns-clause-turns : goal.returns-clause-turns
returns-clause-turns g c before kept =
    let (made, now) = c.loop-turn.invariant.turns before kept in
    let all : c.loop-turn._turn ≡ c.args.count = omega arith in
    (subst (λ (n : ℕ). MakesTurns (seen_by g.D.MemDevice.told g.D.MemDevice.clock c.args.stack.now) (seen_by g.D.MemDevice.told g.D.MemDevice.clock c.loop-turn.stack) n before (told_by g.D.MemDevice.told c.args.stack.now) (told_by g.D.MemDevice.told c.loop-turn.stack)) all made, now)

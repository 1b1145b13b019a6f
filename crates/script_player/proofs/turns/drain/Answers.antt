use Rattle.script_player.proofs.Common.{[], ◌∷◌, ◌++◌, arith, length-append, rose_since, state_of, moment_of, told_by, seen_by}
use Rattle.script_player.proofs.Grown.{ready_grown}
use Rattle.script_player.proofs.Moves.{none_moved, made_more, move_to, turn_moved}
use Rattle.script_player.proofs.Turned.{turn_kept, turned_more, none_turned, drained, find_more, find_but_last, find_here}
use Rattle.script_player.proofs.turns.drain.Goals as goal

pub loop-init : goal.loop-init
loop-init g c = record { ready = c.requires; counted = omega arith; kept = λ before kept. ([], none_turned before (told_by g.D.MemDevice.told c.args.stack.now) kept, ([], omega arith, tt, none_moved (seen_by g.D.MemDevice.told g.D.MemDevice.clock c.args.stack.now) (told_by g.D.MemDevice.told c.args.stack.now)), kept); keeps = λ before kept. kept; starts = λ found. found }

pub loop-preserved : goal.loop-preserved
loop-preserved g c =
    let was = c.loop.invariant in
    record {
      ready = ready_grown (told_by g.D.MemDevice.told c.loop.stack) (told_by g.D.MemDevice.told c.ends_drain.new.stack) c.ends_drain.ensures.turn.entries c.ends_drain.ensures.turn.grows was.ready;
      counted = let more = was.counted in let here = c.ends_drain.ensures.turn.counted in omega (arith, more, here);
      kept = λ before kept.
          let (es, turned, (ms, few, finds, moved), now) = was.kept before kept in
          let less = c.ends_drain.ensures.goes_on c.loop-test.true in
          let one_more = length-append ms (move_to c.ends_drain.ensures.turn.entries (told_by g.D.MemDevice.told c.ends_drain.new.stack) ∷ []) in
          let (one, then_kept) = turn_kept before (told_by g.D.MemDevice.told c.loop.stack) (told_by g.D.MemDevice.told c.ends_drain.new.stack) c.ends_drain.ensures.turn now in (
            es ++ c.ends_drain.ensures.turn.entries,
            turned_more before (told_by g.D.MemDevice.told c.args.stack.now) (told_by g.D.MemDevice.told c.loop.stack) (told_by g.D.MemDevice.told c.ends_drain.new.stack) es c.ends_drain.ensures.turn.entries turned
                one,
            (
              ms ++ move_to c.ends_drain.ensures.turn.entries (told_by g.D.MemDevice.told c.ends_drain.new.stack) ∷ [],
              omega (arith, less, few, one_more),
              find_more (told_by g.D.MemDevice.told c.args.stack.now).configuration (moment_of (told_by g.D.MemDevice.told c.args.stack.now)) (state_of (told_by g.D.MemDevice.told c.args.stack.now)) ms (move_to c.ends_drain.ensures.turn.entries (told_by g.D.MemDevice.told c.ends_drain.new.stack)) finds
                  (find_here (seen_by g.D.MemDevice.told g.D.MemDevice.clock c.args.stack.now) (seen_by g.D.MemDevice.told g.D.MemDevice.clock c.loop.stack) (told_by g.D.MemDevice.told c.args.stack.now) (told_by g.D.MemDevice.told c.loop.stack) es ms turned.grows moved
                  (c.ends_drain.ensures.finds c.loop-test.true)),
              made_more (seen_by g.D.MemDevice.told g.D.MemDevice.clock c.args.stack.now) (seen_by g.D.MemDevice.told g.D.MemDevice.clock c.loop.stack) (seen_by g.D.MemDevice.told g.D.MemDevice.clock c.ends_drain.new.stack) (told_by g.D.MemDevice.told c.args.stack.now) (told_by g.D.MemDevice.told c.loop.stack) (told_by g.D.MemDevice.told c.ends_drain.new.stack) es c.ends_drain.ensures.turn.entries ms (move_to c.ends_drain.ensures.turn.entries (told_by g.D.MemDevice.told c.ends_drain.new.stack) ∷ []) turned.grows moved
                  (turn_moved (seen_by g.D.MemDevice.told g.D.MemDevice.clock c.loop.stack) (seen_by g.D.MemDevice.told g.D.MemDevice.clock c.ends_drain.new.stack) (told_by g.D.MemDevice.told c.loop.stack) (told_by g.D.MemDevice.told c.ends_drain.new.stack) c.ends_drain.ensures.turn c.ends_drain.ensures.moved),
            ),
            then_kept,
          );
      keeps = λ before kept. c.ends_drain.ensures.keeps before (was.keeps before kept);
      starts = λ found. c.ends_drain.ensures.starts (was.starts found);
    }

pub returns-clause-ready : goal.returns-clause-ready
returns-clause-ready g c =
    ready_grown (told_by g.D.MemDevice.told c.loop.stack) (told_by g.D.MemDevice.told c.ends_drain.new.stack) c.ends_drain.ensures.turn.entries c.ends_drain.ensures.turn.grows c.loop.invariant.ready

pub returns-clause-at_rest : goal.returns-clause-at_rest
returns-clause-at_rest g c none on =
    c.ends_drain.ensures.at_rest c.loop-test.false
    (λ rose. none (rose_since (told_by g.D.MemDevice.told c.args.stack.now).faults (told_by g.D.MemDevice.told c.loop.stack).faults (told_by g.D.MemDevice.told c.ends_drain.new.stack).faults c.loop.invariant.counted rose)) on

pub returns-clause-drains : goal.returns-clause-drains
returns-clause-drains g c before kept =
    let (es, turned, (ms, few, finds, moved), now) = c.loop.invariant.kept before kept in
    let one_more = length-append ms (move_to c.ends_drain.ensures.turn.entries (told_by g.D.MemDevice.told c.ends_drain.new.stack) ∷ []) in
    let (one, then_kept) = turn_kept before (told_by g.D.MemDevice.told c.loop.stack) (told_by g.D.MemDevice.told c.ends_drain.new.stack) c.ends_drain.ensures.turn now in
    let all = turned_more before (told_by g.D.MemDevice.told c.args.stack.now) (told_by g.D.MemDevice.told c.loop.stack) (told_by g.D.MemDevice.told c.ends_drain.new.stack) es c.ends_drain.ensures.turn.entries turned
    one in (
      drained (seen_by g.D.MemDevice.told g.D.MemDevice.clock c.args.stack.now) (seen_by g.D.MemDevice.told g.D.MemDevice.clock c.ends_drain.new.stack) before (told_by g.D.MemDevice.told c.args.stack.now) (told_by g.D.MemDevice.told c.ends_drain.new.stack) (es ++ c.ends_drain.ensures.turn.entries) (ms ++ move_to c.ends_drain.ensures.turn.entries (told_by g.D.MemDevice.told c.ends_drain.new.stack) ∷ []) all (omega (arith, few, one_more))
          (find_but_last (told_by g.D.MemDevice.told c.args.stack.now).configuration (moment_of (told_by g.D.MemDevice.told c.args.stack.now)) (state_of (told_by g.D.MemDevice.told c.args.stack.now)) ms (move_to c.ends_drain.ensures.turn.entries (told_by g.D.MemDevice.told c.ends_drain.new.stack)) finds)
          (made_more (seen_by g.D.MemDevice.told g.D.MemDevice.clock c.args.stack.now) (seen_by g.D.MemDevice.told g.D.MemDevice.clock c.loop.stack) (seen_by g.D.MemDevice.told g.D.MemDevice.clock c.ends_drain.new.stack) (told_by g.D.MemDevice.told c.args.stack.now) (told_by g.D.MemDevice.told c.loop.stack) (told_by g.D.MemDevice.told c.ends_drain.new.stack) es c.ends_drain.ensures.turn.entries ms (move_to c.ends_drain.ensures.turn.entries (told_by g.D.MemDevice.told c.ends_drain.new.stack) ∷ []) turned.grows moved
          (turn_moved (seen_by g.D.MemDevice.told g.D.MemDevice.clock c.loop.stack) (seen_by g.D.MemDevice.told g.D.MemDevice.clock c.ends_drain.new.stack) (told_by g.D.MemDevice.told c.loop.stack) (told_by g.D.MemDevice.told c.ends_drain.new.stack) c.ends_drain.ensures.turn c.ends_drain.ensures.moved)) (c.ends_drain.ensures.ends c.loop-test.false),
      then_kept,
    )

use Rattle.std.proofs.Common.{sym, true, false, ◌∙◌}
use Rattle.memif_pair.proofs.Choosing.{goes_before, goes_beside, turns_first, turns_second}
use Rattle.memif_pair.proofs.turns.turn.Goals as goal

pub returns-then-is_busy-clause-goes : goal.returns-then-is_busy-clause-goes
returns-then-is_busy-clause-goes g c = goes_beside true _ (g.A.MemDevice.told c.args.first.now).ops _ _ _ _ (sym c.is_busy.ensures ∙ c.if-is_busy.true) c.turn_noted.ensures.goes

pub returns-then-is_busy-clause-turns : goal.returns-then-is_busy-clause-turns
returns-then-is_busy-clause-turns g c last = turns_second _ _ _ _ _ _ _ _ c.status-first.ensures.order c.turn_noted.ensures.turns (sym c.is_busy.ensures ∙ c.if-is_busy.true)

pub returns-else-is_busy-clause-goes : goal.returns-else-is_busy-clause-goes
returns-else-is_busy-clause-goes g c = goes_before false _ (g.B.MemDevice.told c.args.second.now).ops _ _ _ _ (sym c.is_busy.ensures ∙ c.if-is_busy.false) c.turn_noted-else-is_busy.ensures.goes

pub returns-else-is_busy-clause-turns : goal.returns-else-is_busy-clause-turns
returns-else-is_busy-clause-turns g c last = turns_first _ _ _ _ _ _ _ _ c.status-second.ensures.order c.turn_noted-else-is_busy.ensures.turns (sym c.is_busy.ensures ∙ c.if-is_busy.false)

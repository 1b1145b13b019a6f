use Rattle.std.proofs.Common.{sym, ◌∙◌}
use Rattle.block_states.proofs.Started.{mark_noted, mark_passed}
use Rattle.block_states.proofs.states.BlockStates.note_mark.Goals as goal

pub returns-then-is_once : goal.returns-then-is_once
returns-then-is_once c = λ marks i mark was own. mark_noted c.args.config.now marks i mark c.args.block c.args.self.now c.set_protected.new.self
    (sym c.is_once.ensures ∙ c.if-is_once.true) c.set_protected.ensures was own

pub returns-else-is_once : goal.returns-else-is_once
returns-else-is_once c = λ marks i mark was own. mark_passed c.args.config.now marks i mark c.args.block c.args.self.now (sym c.is_once.ensures ∙ c.if-is_once.false) was own

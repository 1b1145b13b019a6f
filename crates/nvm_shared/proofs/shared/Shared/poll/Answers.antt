use Rattle.std.proofs.Common.{ℕ, subst}
use Rattle.turn_gate.specs.Entries.{NotBelow}
use Rattle.turn_gate.specs.Pass.{knows}
use Rattle.nvm_shared.specs.StatusWords.{gives}
use Rattle.nvm_shared.proofs.shared.Shared.poll.Goals as goal

pub returns-clause-fresh : goal.returns-clause-fresh
returns-clause-fresh c = subst (λ (w : ℕ). NotBelow gives (knows c.args.pass.now).seen (knows c.args.pass.now).notes w c.poll.result.entry) c.from.ensures c.poll.ensures.fresh

use Rattle.std.proofs.Common.{List, ap, sym, subst}
use Rattle.turn_gate.specs.Entries.{StartsWith}
use Rattle.turn_gate.specs.Pass.{knows}
use Rattle.nvm_core.specs.block_machine.Words.{Entry, Ask}
use Rattle.nvm_shared.specs.Passes.{Asked}
use Rattle.nvm_shared.proofs.Asking.{asked_by, starts_on}
use Rattle.nvm_shared.proofs.shared.Shared.ask.Goals as goal

pub returns-clause-asked : goal.returns-clause-asked
returns-clause-asked g c =
    let enter = c.enter-value.ensures in
    let e = Ask c.args.caller c.args.request c.in_ok-answer.field-0 in
    asked_by (knows c.args.pass.now) (knows c.enter-value.new.pass) (knows c.leave.new.pass) c.enter-value.result.desk.entries enter.seen enter.starts enter.agree enter.same
    c.ask-answer.new.self.desk.entries e c.len-number.result (ap (λ l. l.desk.entries) c.in_ok-answer.ensures.ok) c.len-number.ensures.count (c.leave.ensures.more e)

pub returns-clause-starts : goal.returns-clause-starts
returns-clause-starts g c =
    let asked : Asked (knows c.args.pass.now) (knows c.leave.new.pass) c.len-number.result (Ask c.args.caller c.args.request c.in_ok-answer.field-0) = returns-clause-asked g c in
    subst (λ (l : List Entry). StartsWith l (knows c.args.pass.now).seen) (sym asked.seen) (starts_on asked.before (knows c.args.pass.now).seen (Ask c.args.caller c.args.request c.in_ok-answer.field-0) asked.starts)

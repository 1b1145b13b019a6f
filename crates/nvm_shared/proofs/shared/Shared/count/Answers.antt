use Rattle.std.proofs.Common.{ap, sym, ◌∙◌, subst}
use Rattle.turn_gate.specs.Pass.{knows}
use Rattle.nvm_core.specs.nv_desk.Desk.{DeskState, state_of}
use Rattle.nvm_core.specs.nvm_laws.DueLaws.{NextIsPending}
use Rattle.nvm_shared.proofs.Asking.{V}
use Rattle.nvm_shared.proofs.Counting.{desk_is, learns_more}
use Rattle.nvm_shared.proofs.shared.Shared.count.Goals as goal

pub returns-clause-learns : goal.returns-clause-learns
returns-clause-learns g c =
    let enter = c.enter-value.ensures in
    learns_more (knows c.args.pass.now) (knows c.enter-value.new.pass) (knows c.leave.new.pass) c.enter-value.result.desk.entries enter.seen enter.starts enter.open enter.same
    (c.leave.ensures.same (sym enter.seen))

pub returns-clause-next : goal.returns-clause-next
returns-clause-next g c =
    let e = c.enter-value.ensures in
    subst (λ (y : DeskState). NextIsPending y.config (state_of y))
    (desk_is c.args.self.now.terms (knows c.args.pass.now).root c.enter-value.result (knows c.leave.new.pass).seen c.requires.own.root e.root (ap (λ (z : V). z.seen) (c.leave.ensures.same (sym e.seen)) ∙ e.seen))
    c.len-number.ensures.next

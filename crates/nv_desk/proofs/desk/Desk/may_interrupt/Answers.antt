use Rattle.std.proofs.Common.{◌≡◌, ◌↔◌, ap, subst, sym, IsTrue, Some, Option}
use Rattle.block_machine.specs.Words.{Configuration}
use Rattle.block_machine.specs.State.{Job}
use Rattle.block_machine.specs.Legal.{MayInterrupt}
use Rattle.block_machine.specs.Steps.{after}
use Rattle.block_machine.specs.Next.{next_in}
use Rattle.job_pending.specs.Pending.{Agree}
use Rattle.nv_desk.specs.Desk.{DeskState, shown, state_of}
use Rattle.nv_desk.proofs.Picks.{interruption, not_interrupting}
use Rattle.nv_desk.proofs.desk.Desk.may_interrupt.Goals as goal

pub returns-then-not-next_is_immediate : goal.returns-then-not-next_is_immediate
returns-then-not-next_is_immediate c =
    let d = c.self.inside in
    let s = after d.config d.history.entries in
    let told = c.if-not-next_is_immediate.ensures d.config s.waiting s.hand c.self.invariant.agrees.jobs in
    rw (← c.self.view_is) (not_interrupting (shown d) told)

pub returns : goal.returns
returns c =
    let d = c.self.inside in
    let s = after d.config d.history.entries in
    let h = c.in-Some._held.now in
    let j = c.in-Some-next_job._next.now in
    let hand : (state_of c.args.self.now).hand ≡ Some h = sym c.in-Some.ensures in
    let next : next_in c.args.self.now.config (state_of c.args.self.now).waiting ≡ Some j = sym c.in-Some-next_job.ensures.next in
    let held : s.hand ≡ Some h = subst (λ (x : DeskState). (state_of x).hand ≡ Some h) (sym c.self.view_is) hand in
    let first : next_in d.config s.waiting ≡ Some j = subst (λ (x : DeskState). next_in x.config (state_of x).waiting ≡ Some j) (sym c.self.view_is) next in
    let agree = subst (λ (o : Option Job). Agree d.config d.kept.jobs s.waiting o) held c.self.invariant.agrees.jobs in
    interruption c.may_interrupt.result c.args.self.now h j hand next
    (subst (λ (x : Configuration). IsTrue c.may_interrupt.result ↔ MayInterrupt x h j) (ap (λ (x : DeskState). x.config) c.self.view_is)
    (c.may_interrupt.ensures s.waiting h j agree first))

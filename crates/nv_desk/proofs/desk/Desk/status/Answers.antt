use Rattle.std.proofs.Common.{◌≡◌, List, Option, Some, None, find, ap, sym, subst, ◌∙◌}
use Rattle.std.specs.Option.{option_map_or}
use Rattle.block_machine.specs.Words.{Refusal, ReqResult, Refused, StatusIs, Status}
use Rattle.block_machine.specs.State.{BlockState}
use Rattle.block_machine.specs.Blocks.{status_of}
use Rattle.block_machine.specs.Reply.{holds, tested, reply_of}
use Rattle.block_machine.specs.Steps.{after}
use Rattle.block_states.specs.States.{state_at}
use Rattle.nv_desk.specs.Desk.{DeskState, state_of}
use Rattle.nv_desk.proofs.desk.Desk.status.Goals as goal

-- a reply that tells a status isn't a refusal
told_by : (refused : Option Refusal) (status r : ReqResult) → option_map_or Refused refused (StatusIs status) ≡ StatusIs r → status ≡ r
told_by None status r is = cc
told_by (Some refusal) status r is = cc

pub returns-clause-asked : goal.returns-clause-asked
returns-clause-asked c = λ r is.
    let d = c.self.inside in
    let s = after d.config d.history.entries in
    let told = told_by (find (λ x. holds d.config d.history.cap s x (Status c.args.block)) (tested (Status c.args.block))) (status_of s c.args.block) r
    (subst (λ (x : DeskState). reply_of x.config x.cap (state_of x) (Status c.args.block) ≡ StatusIs r) (sym c.self.view_is) is) in
    ap (λ f. f.status) c.facts.ensures ∙ ap (λ (bs : List BlockState). (state_at bs c.args.block).status) c.self.invariant.agrees.blocks ∙ told

use Rattle.std.proofs.Common.{◌≡◌, drop, find}
use Rattle.block_machine.specs.Reply.{holds, tested}
use Rattle.nv_recorder.specs.Request.{request_lent}
use Rattle.nv_desk.specs.Desk.{state_of}
use Rattle.nv_desk.proofs.desk.Desk.first_refusal.Given as goal

abbrev pub invariant-loop-refusal : goal.invariant-loop-refusal
invariant-loop-refusal l =
    find (λ x. holds l.self.config l.self.cap (state_of l.self) x (request_lent l.request)) (drop l.refusal-index l.refusals)
    ≡ find (λ x. holds l.self.config l.self.cap (state_of l.self) x (request_lent l.request)) (tested (request_lent l.request))

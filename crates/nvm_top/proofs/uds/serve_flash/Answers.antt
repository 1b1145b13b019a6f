use Rattle.std.proofs.Common.{◌⊎◌, ℕ, List, subst}
use Rattle.nvm_top.specs.Play.{IsFlashStop}
use Rattle.nvm_top.specs.Promised.{HasNoRun, played_call}
use Rattle.nvm_top.specs.Uds.{HasServing}
use Rattle.nvm_top.proofs.uds.serve_flash.Goals as goal

pub returns-clause-promise : goal.returns-clause-promise
returns-clause-promise g c input =
    let entry = g.F.Flash.told c.args.flash in
    let exit = g.F.Flash.told c.serve_over.result.1 in
    let written = g.K.Sink.written c.args.output.now in
    let written' = g.K.Sink.written c.serve_over.new.output in
    let x = c.serve_over.result.0 in
    let config = c.args.gateway.config in
    subst (λ (requests : List (List ℕ)). HasServing config requests (played_call input x entry exit written written') x ⊎ HasNoRun (IsFlashStop config entry.bytes) written written' x entry exit)
    c.as_slice.ensures.requests (c.serve_over.ensures.promise input)

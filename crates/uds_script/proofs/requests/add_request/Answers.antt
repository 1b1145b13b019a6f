use Rattle.std.proofs.Common.{sym, ◌∙◌}
use Rattle.uds_script.proofs.RequestLaws.{request_some}
use Rattle.uds_script.proofs.requests.add_request.Goals as goal

pub add-requires-clause-some : goal.add-requires-clause-some
add-requires-clause-some c = request_some c.args.line.now c.in-Some.request (sym c.in_ok-request.ensures ∙ c.in-Some.is)

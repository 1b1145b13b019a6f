use Rattle.std.specs.Prelude.{Result}
use Rattle.std.proofs.Common.{sym, subst}
use Rattle.nvm_moves.specs.block_machine.Words.{Request}
use Rattle.uds_gateway.specs.declared.code.NegativeCode.{NegativeCode}
use Rattle.uds_gateway.specs.declared.asked.AskedFault.{AskedFault}
use Rattle.uds_gateway.specs.Services.{asked_by}
use Rattle.uds_gateway.specs.Answers.{IsWhy}
use Rattle.uds_gateway.specs.Serving.{ServesBy}
use Rattle.uds_gateway.proofs.Pieces.{unasked_serves, memory_serves}
use Rattle.uds_gateway.proofs.serving.serve.Goals as goal

pub returns-in-Ok-clause-serves : goal.returns-in-Ok-clause-serves
returns-in-Ok-clause-serves g c =
    subst (λ (a : Result Request NegativeCode). ServesBy c.args.config.now c.args.request.now a c.ask.result c.args.stack.now.desk c.ask.new.stack.desk) (sym c.in-Ok.ensures.ok) c.ask.ensures.serves

pub returns-in-Err-Refused-clause-serves : goal.returns-in-Err-Refused-clause-serves
returns-in-Err-Refused-clause-serves g c =
    unasked_serves c.args.config.now c.args.request.now c.in-Err-Refused.code c.args.stack.now.desk c.refuse.result
    (subst (λ (f : AskedFault). IsWhy (asked_by c.args.config.now c.args.request.now) f) c.in-Err-Refused.field-0-is c.in-Err-Refused.ensures.err) c.refuse.ensures.ok c.refuse.ensures.err

pub returns-in-Err-Memory-clause-serves : goal.returns-in-Err-Memory-clause-serves
returns-in-Err-Memory-clause-serves g c = memory_serves c.args.config.now c.args.request.now c.args.stack.now.desk

use Rattle.std.proofs.Common.{ap, sym, ◌∙◌}
use Rattle.script_player.specs.ram_blocks.Plain.{plain_blocks_of}
use Rattle.script_player.proofs.Fresh.{is_fresh}
use Rattle.script_player.proofs.uds_gateway.FreshCopies.{are_synchronized}
use Rattle.nvm_rows.proofs.memory.start.Goals as goal

pub make-requires-3-clause-synchronized : goal.make-requires-3-clause-synchronized
make-requires-3-clause-synchronized c = are_synchronized c.args.config c.in_ok-copies.copies c.geometry.ensures.legal c.in_ok-copies.ensures

pub returns-clause-fresh : goal.returns-clause-fresh
returns-clause-fresh c =
    let made = c.in-Ok.ensures.made in
    (is_fresh (λ d. d) c.in-Ok.stack c.start.new.self (ap (λ x. x.desk.entries) made) (ap (λ x. x.copies) made ∙ c.in_ok-copies.ensures ∙ ap (λ x. plain_blocks_of x.desk.config) (sym made)) c.in-Ready.ensures.starts).0

use Rattle.std.proofs.Common.{sym}
use Rattle.std.proofs.lemmas.List.{take_rest}
use Rattle.block_config.proofs.content.read_content.Goals as goal

pub returns-then-is_parted : goal.returns-then-is_parted
returns-then-is_parted c =
    let parted = sym c.if-is_parted.ensures in
    let run = rw take_rest at c.read_run.ensures in
    rw parted run

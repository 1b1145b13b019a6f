use Rattle.std.proofs.Common.{arith}
use Rattle.std.proofs.lemmas.Bool.Decides.{nat_tests}
use Rattle.std.proofs.lemmas.List.{length-map}
use Rattle.block_config.proofs.Views.{list_of-items_view}
use Rattle.block_config.proofs.head.blocks_at.Goals as goal

pub returns-then-len-le511 : goal.returns-then-len-le511
returns-then-len-le511 c =
    rw (← c.in_ok-get.ensures, ← c.in_ok-items.ensures, list_of-items_view, length-map) (grind (arith, nat_tests))

pub returns-else-len-ge1 : goal.returns-else-len-ge1
returns-else-len-ge1 c =
    rw (← c.in_ok-get.ensures, ← c.in_ok-items.ensures, list_of-items_view, length-map) (grind (arith, nat_tests))

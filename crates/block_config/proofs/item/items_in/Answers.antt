use Rattle.std.proofs.Common.{refl}
use Rattle.block_config.proofs.Views.{list_of-items_view}
use Rattle.block_config.proofs.item.items_in.Goals as goal

pub returns : goal.returns
returns c = rw (← c.in_ok-as_array.ensures, list_of-items_view, c.deref.ensures.value) refl

use Rattle.ram_mirrors.specs.Stores.{stored_in}
use Rattle.ram_mirrors.proofs.Exchanges.{opens}
use Rattle.ram_mirrors.proofs.mirror.make.Goals as goal

pub new-requires : goal.new-requires
new-requires g c = opens stored_in _ _ c.in_ok-slots.ensures

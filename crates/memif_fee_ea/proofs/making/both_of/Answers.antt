use Rattle.memif_fee_ea.proofs.Paired.{paired}
use Rattle.memif_fee_ea.proofs.making.both_of.Goals as goal

pub make-requires : goal.make-requires
make-requires g c = paired g.O.Origin.making g.O.Origin.entry g.P.Origin.making c.args.first c.args.second c.requires.made

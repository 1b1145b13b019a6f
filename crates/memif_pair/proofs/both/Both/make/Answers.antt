use Rattle.std.proofs.Common.{Bool, List, false, sym, subst}
use Rattle.memif_pair.specs.Both.{IsBoth}
use Rattle.memif_pair.proofs.Listed.{made_both}
use Rattle.memif_pair.proofs.both.Both.make.Goals as goal

pub invariant_of-result : goal.invariant_of-result
invariant_of-result g c =
    subst (λ (course : List Bool). IsBoth (g.A.MemDevice.told c.args.pair.first) (g.B.MemDevice.told c.args.pair.second) false course) (sym c.new.ensures)
    (made_both (g.A.MemDevice.told c.args.pair.first) (g.B.MemDevice.told c.args.pair.second) c.requires)

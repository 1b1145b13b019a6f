use Rattle.std.proofs.Common.{arith}
use Rattle.nv_base.proofs.Shapes.{pages_lie_inside}
use Rattle.nv_base.proofs.geometry.Geometry.page_address.Goals as goal

pub returns-clause-inside : goal.returns-clause-inside
returns-clause-inside c =
    rw c.bank_pages.ensures.value (omega (arith, pages_lie_inside c.args.self.now c.args.banks c.args.bank c.args.page 1 c.requires.legal c.requires.banks c.requires.bank (omega (arith, c.requires.page))))

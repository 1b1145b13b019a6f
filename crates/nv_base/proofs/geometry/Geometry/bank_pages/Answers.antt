use Rattle.nv_base.proofs.Shapes.{banks_fill}
use Rattle.nv_base.proofs.geometry.Geometry.bank_pages.Goals as goal

pub returns-clause-whole : goal.returns-clause-whole
returns-clause-whole c = (banks_fill c.args.self.now c.args.banks c.requires.legal c.requires.banks).0

pub returns-clause-least : goal.returns-clause-least
returns-clause-least c = (banks_fill c.args.self.now c.args.banks c.requires.legal c.requires.banks).1

use Rattle.std.proofs.Common.{ap, ◌∙◌, ◌*◌, ℕ}
use Rattle.nv_base.proofs.Shapes.{banks_fill, size_is}
use Rattle.nv_base.proofs.geometry.Geometry.bank_size.Goals as goal

pub returns-clause-pages : goal.returns-clause-pages
returns-clause-pages c = size_is c.args.self.now c.args.banks c.requires.legal c.requires.banks

pub returns-clause-whole : goal.returns-clause-whole
returns-clause-whole c =
    ap (λ (x : ℕ). x * c.args.banks) (size_is c.args.self.now c.args.banks c.requires.legal c.requires.banks) ∙ (banks_fill c.args.self.now c.args.banks c.requires.legal c.requires.banks).0

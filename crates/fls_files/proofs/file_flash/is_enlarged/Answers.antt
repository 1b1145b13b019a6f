use Rattle.std.proofs.Common.{arith, ◌*◌, ◌∙◌, ap, ◌≡◌}
use Rattle.std.specs.Prelude.{is_ok, not}
use Rattle.fls_files.proofs.Enlargements.{sectors_more, sectors_none, sectors_all, sectors_not, told_alike}
use Rattle.fls_files.proofs.file_flash.is_enlarged.Goals as goal

pub loop-i-init : goal.loop-i-init
loop-i-init g c = sectors_none c.args.sector (is_ok c.clear.result) _ _ (c.is_err.ensures.negation ∙ ap not c.if-is_err.false) c.clear.ensures

pub loop-i-preserved : goal.loop-i-preserved
loop-i-preserved g c =
    sectors_more c.args.sector c.loop-i.i c.args.blank.now (is_ok c.write_at.result) _ _ _ c.requires (c.is_err-in-loop-i.ensures.negation ∙ ap not c.if-is_err-2.false) c.loop-i.invariant c.write_at.ensures

pub returns-then-is_err-2 : goal.returns-then-is_err-2
returns-then-is_err-2 g c = sectors_not (c.args.sectors * c.args.sector) _ _ (told_alike _ _ _ _ _ c.loop-i.invariant c.write_at.ensures)

pub returns : goal.returns
returns g c =
    let last : c.loop-i.i ≡ c.args.sectors = omega arith in
    rw (c.is_ok.ensures.value, ← last) (sectors_all (c.loop-i.i * c.args.sector) (is_ok c.sync.result) _ _ _ c.loop-i.invariant c.sync.ensures)

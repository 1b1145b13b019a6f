use Rattle.std.proofs.Common.{◌≡◌, ◌+◌, ◌∙◌, subst}
use Rattle.std.specs.Prelude.{Option, IfSome, replicate}
use Rattle.fls_model.specs.Op.{Erase}
use Rattle.fls_files.proofs.FileOperations.{erases_sector, found_alike, operates_none}
use Rattle.fls_files.proofs.file_flash.is_blanked.Goals as goal

pub returns-in_default-blank-clause-done : goal.returns-in_default-blank-clause-done
returns-in_default-blank-clause-done g c =
    rw c.in-Some.is (operates_none (Erase c.args.address c.args.count) (c.args.address + c.args.count) c.args.lost.now c.args.lost.now (g.T.ByteFile.held c.in-Some.file) (g.T.ByteFile.held c.in-Some.file)
    (found_alike c.args.lost.now (g.T.ByteFile.held c.in-Some.file)))

pub returns-clause-done : goal.returns-clause-done
returns-clause-done g c =
    let blank : c.in-Some-blank.blank.items ≡ replicate c.args.count 255 = subst (λ (o : Option _). IfSome o (λ b. b.items ≡ replicate c.args.count 255)) c.in-Some-blank.is c.requires in
    rw c.in-Some.is (erases_sector (g.T.ByteFile.held c.in-Some.file) (g.T.ByteFile.held c.is_stored.new.file) c.args.address c.args.count c.deref.result.now c.is_stored.result c.args.lost.now c.is_stored.new.lost (c.deref.ensures.value ∙ blank) c.is_stored.ensures)

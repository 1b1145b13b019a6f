use Rattle.std.proofs.Common.{◌≡◌, subst, ℕ, rules}
use Rattle.std.specs.Prelude.{length, take, replicate}
use Rattle.std.proofs.lemmas.List.{length-take-le}
use Rattle.fls_model.specs.Bytes.{piece}
use Rattle.fls_model.specs.Told.{IfBothTold}
use Rattle.fls_files.specs.FileFlashInside.{IsReady}
use Rattle.fls_files.proofs.FileOperations.{programs_page}
use Rattle.fls_files.proofs.file_flash.program_page.Goals as goal

pub returns : goal.returns
returns g c =
    let n : length (take (length c.args.page.now) (replicate {A = ℕ} 256 0)) ≡ length c.args.page.now = length-take-le (length c.args.page.now) (replicate {A = ℕ} 256 0) c.requires in
    let read : IfBothTold (g.T.ByteFile.held c.args.file.now) (g.T.ByteFile.held c.reads.new.file) (λ f f'. IsReady c.args.lost.now f → c.reads.new.into ≡ piece c.args.address (length c.args.page.now) f'.now) =
    subst (λ (m : ℕ). IfBothTold (g.T.ByteFile.held c.args.file.now) (g.T.ByteFile.held c.reads.new.file) (λ f f'. IsReady c.args.lost.now f → c.reads.new.into ≡ piece c.args.address m f'.now)) n
    (c.reads.ensures.done (search rules)) in
    programs_page (g.T.ByteFile.held c.args.file.now) (g.T.ByteFile.held c.reads.new.file) (g.T.ByteFile.held c.is_stored.new.file) c.args.address c.args.page.now c.reads.new.into c.clear_bits.new.bytes c.is_stored.result
    c.args.lost.now c.reads.new.lost c.is_stored.new.lost c.reads.ensures.found read c.clear_bits.ensures c.below_256.ensures c.is_stored.ensures

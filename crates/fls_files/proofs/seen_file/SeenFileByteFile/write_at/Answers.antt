use Rattle.std.proofs.Common.{◌≡◌, ◌∙◌, true, Bool, inl, inr, sym, subst}
use Rattle.std.specs.Prelude.{is_ok}
use Rattle.fls_model.specs.Told.{IfBothTold}
use Rattle.fls_files.specs.ByteFile.{Writes}
use Rattle.fls_files.proofs.SeenFiles.{seen_written, seen_forgotten}
use Rattle.fls_files.proofs.seen_file.SeenFileByteFile.write_at.Goals as goal

pub invariant_of-self : goal.invariant_of-self
invariant_of-self g c =
    let f = c.self.inside in
    let old = g.T.ByteFile.held f.file in
    let new = g.T.ByteFile.held c.write_at-done.new.self in
    elim c.follow.ensures [
      | inl none ↦ rw none (seen_forgotten f.settled (is_ok c.write_at-done.result) c.args.address c.args.bytes.now f.seen.items old new c.self.invariant c.write_at-done.ensures)
      | inr (ok, inside, joined) ↦
          let done : is_ok c.write_at-done.result ≡ true = sym c.is_ok.ensures.value ∙ ok in
          let writes = subst (λ (b : Bool). IfBothTold old new (Writes c.args.address c.args.bytes.now b)) done c.write_at-done.ensures in
          seen_written f.settled c.args.address c.args.bytes.now f.seen.items c.follow.new.seen.items old new c.self.invariant writes inside joined
    ]

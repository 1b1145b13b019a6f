use Rattle.std.proofs.Common.{◌≡◌, ◌∙◌, true, inl, inr, sym, arith, length}
use Rattle.std.specs.Prelude.{is_ok, IfSome}
use Rattle.std.proofs.lemmas.Bool.{cases_Bool}
use Rattle.fls_files.specs.SeenFile.{HasSeen}
use Rattle.fls_files.proofs.SeenFiles.{ok_then, seen_joined}
use Rattle.fls_files.proofs.seen_file.SeenFileByteFile.read_at.Goals as goal

pub invariant_of-self : goal.invariant_of-self
invariant_of-self g c =
    let f = c.self.inside in
    let new = g.T.ByteFile.held c.read_at-done.new.self in
    let has : IfSome new (HasSeen f.settled f.seen.items) = rw c.read_at-done.ensures.same c.self.invariant in
    let done : is_ok c.read_at-done.result ≡ true = sym c.is_ok.ensures.value ∙ c.if-is_ok.true in
    let at : c.args.address ≡ length f.seen.items = omega (arith, c.if-address-len.true, c.len.ensures) in
    elim (cases_Bool c.joins-joined.result) [
      | inl e1 ↦ seen_joined f.settled c.args.address _ f.seen.items c.read_at-done.new.into c.joins-joined.new.seen.items new at has (ok_then c.read_at-done.result _ done c.read_at-done.ensures.bytes) (c.joins-joined.ensures.joined e1)
      | inr e0 ↦ rw (c.joins-joined.ensures.not e0) has
    ]

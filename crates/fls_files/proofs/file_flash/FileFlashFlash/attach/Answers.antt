use Rattle.std.proofs.Common.{◌≡◌, subst}
use Rattle.std.specs.Prelude.{Bool, Option, List, ℕ, length, IfSome}
use Rattle.nv_base.specs.Geometry.{size_of}
use Rattle.fls_model.specs.Bytes.{AreBytes}
use Rattle.fls_model.specs.Told.{IfBothTold}
use Rattle.fls_files.specs.ByteFile.{FileBytes, held_by}
use Rattle.fls_files.specs.FileFlash.{bytes_of}
use Rattle.fls_files.specs.FileFlashInside.{Fills, Finds}
use Rattle.fls_files.proofs.Enlargements.{attached, attached_held}
use Rattle.fls_files.proofs.FileSteps.{flash_bytes, found_held, found_ready, found_then}
use Rattle.fls_files.proofs.file_flash.FileFlashFlash.attach.Goals as goal

pub invariant_of-self-2 : goal.invariant_of-self-2
invariant_of-self-2 g c =
    let f = c.self.inside in
    let old = held_by g.T.ByteFile.held f.file in
    let found = held_by g.T.ByteFile.held c.is_settled.new.file in
    let new = held_by g.T.ByteFile.held c.is_filled.new.file in
    let same = c.found_size.ensures.same in
    let settled = subst (λ (h : Option FileBytes). IfBothTold h found (Finds f.lost c.is_settled.new.lost)) same c.is_settled.ensures.found in
    let held = found_held f.geometry f.torn f.lost c.is_settled.new.lost old found c.self.invariant.0 settled in
    let ready = found_ready f.geometry f.torn c.is_settled.new.lost found held (c.is_settled.ensures.still c.if-not-is_settled.false) in
    let size = found_then (λ (l : List ℕ). c.in-Ok.found ≡ length l) f.geometry f.torn f.lost c.is_settled.new.lost old found c.self.invariant.0 settled (subst (λ (h : Option FileBytes). IfSome h (λ b. c.in-Ok.found ≡ length (bytes_of f.torn b))) same c.in-Ok.ensures.size) in
    let bytes = found_then AreBytes f.geometry f.torn f.lost c.is_settled.new.lost old found c.self.invariant.0 settled (flash_bytes f.torn old (subst (λ (h : Option FileBytes). IfSome h (λ b. AreBytes b.now)) same c.in-Ok.ensures.bytes)) in
    let filled = subst (λ (b : Bool). IfBothTold found new (Fills (size_of c.args.geometry) f.torn c.is_filled.new.torn b c.is_settled.new.lost c.is_filled.new.lost)) c.if-not-is_filled.false c.is_filled.ensures.filled in
    let at = attached c.args.geometry c.in-Ok.found f.torn c.is_filled.new.torn c.is_settled.new.lost c.is_filled.new.lost found new size (c.is_wrong.ensures.right c.if-is_wrong.false) bytes ready filled in
    (attached_held c.args.geometry f.torn c.is_filled.new.torn c.is_filled.new.lost found new c.requires at, c.in-Ok-vec.ensures.items_if_clones_equal (λ y is. is))

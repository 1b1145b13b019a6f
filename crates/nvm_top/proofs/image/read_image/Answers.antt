use Rattle.std.proofs.Common.{◌≡◌, ◌∙◌, ◌+◌, ◌*◌, ◌++◌, ℕ, IfSome, take, drop, subst, arith}
use Rattle.nvm_top.proofs.Images.{kept-attached, kept-sector, image-more}
use Rattle.nvm_top.proofs.image.read_image.Goals as goal

pub returns-clause-kept : goal.returns-clause-kept
returns-clause-kept g c = rw (c.loop-k.invariant.flash, c.power_on.ensures) (kept-attached c.args.geometry _ _ c.in_default.ensures)

pub returns-in_err-read_sector-clause-kept : goal.returns-in_err-read_sector-clause-kept
returns-in_err-read_sector-clause-kept g c =
    kept-sector c.args.geometry (g.F.Flash.told c.args.flash.now) (g.F.Flash.told c.loop-k.flash) (g.F.Flash.told c.read_sector.new.flash) _ (rw (c.loop-k.invariant.flash, c.power_on.ensures) (kept-attached c.args.geometry _ _ c.in_default.ensures)) c.in_err-read_sector.ensures.err

pub loop-k-preserved : goal.loop-k-preserved
loop-k-preserved g c =
    let s = g.F.Flash.told c.power_on.new.self in
    let n = c.args.geometry.sector in
    let next : c.loop-k.k * n + n ≡ (c.loop-k.k + 1) * n = omega arith in
    let read = c.in_ok-read_sector.ensures.bytes in
    let more : IfSome s.bytes (λ b. c.read_sector.new.image.items ≡ c.loop-k.image.items ++ take n (drop (c.loop-k.k * n) b.now)) =
    rw (c.loop-k.invariant.flash, c.loop-k.invariant.sector) at read in
    record {
      flash = c.in_ok-read_sector.ensures.same ∙ c.loop-k.invariant.flash;
      bytes = subst (λ (m : ℕ). IfSome s.bytes (λ b. c.read_sector.new.image.items ≡ take m b.now)) next (image-more s.bytes c.loop-k.image.items c.read_sector.new.image.items (c.loop-k.k * n) n c.loop-k.invariant.bytes more);
      size = omega (arith, next, c.in_ok-read_sector.ensures.more, c.loop-k.invariant.size, c.loop-k.invariant.sector);
      sector = c.in_ok-read_sector.ensures.size ∙ c.loop-k.invariant.sector;
    }

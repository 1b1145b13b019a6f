use Rattle.std.proofs.Common.{◌≡◌, ◌*◌, IfSome, take, vec_len}
use Rattle.nvm_top.proofs.image.read_image.Given as goal

-- the flash is as it was when the first sector was read, and the bytes of the sectors so far are there
abbrev pub invariant-loop-k : goal.invariant-loop-k
invariant-loop-k g l = record {
  flash : g.F.Flash.told l.flash ≡ g.F.Flash.told l.initial.flash;
  bytes : IfSome (g.F.Flash.told l.initial.flash).bytes (λ b. l.image.items ≡ take (l.k * l.geometry.sector) b.now);
  size : vec_len l.image ≡ l.k * l.geometry.sector;
  sector : vec_len l.sector ≡ l.geometry.sector;
}

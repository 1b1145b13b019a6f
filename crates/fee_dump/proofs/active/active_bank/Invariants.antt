use Rattle.std.proofs.Common.{◌≡◌}
use Rattle.fee_image.specs.Image.{layout_of, active_below}
use Rattle.fee_dump.proofs.active.active_bank.Given as goal

-- the first of the banks so far
abbrev pub invariant-loop-bank : goal.invariant-loop-bank
invariant-loop-bank l = l.active ≡ active_below (layout_of l.geometry l.banks) l.image l.bank

use Rattle.std.proofs.Common.{◌≡◌, length}
use Rattle.std.specs.Prelude.{IfSome}
use Rattle.fee_image.specs.Image.{layout_of}
use Rattle.fee_switch.specs.Start.{AreTaken, IsLogAt, IsSameShape}
use Rattle.fee_switch.proofs.start.take_banks.Given as goal

abbrev pub invariant-loop-bank : goal.invariant-loop-bank
invariant-loop-bank g l =
    (l.fls ≡ record l.initial.fls { result = l.fls.result }) × (length l.buffer ≡ length l.initial.buffer)
    × IfSome l.initial.fls.flash.bytes (λ b. AreTaken (layout_of l.geometry l.banks) b.now l.bank l.first l.log)
    × IsLogAt l.banks l.first l.log × IsSameShape l.initial.log l.log

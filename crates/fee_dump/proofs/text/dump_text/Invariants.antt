use Rattle.std.proofs.Common.{◌≡◌, string_bytes}
use Rattle.fee_image.specs.Image.{layout_of}
use Rattle.fee_dump.specs.Dump.{banks_text}
use Rattle.fee_dump.proofs.text.dump_text.Given as goal

-- the text of the banks so far
abbrev pub invariant-loop-bank : goal.invariant-loop-bank
invariant-loop-bank l = string_bytes l.text ≡ banks_text (layout_of l.geometry l.banks) l.image l.bank

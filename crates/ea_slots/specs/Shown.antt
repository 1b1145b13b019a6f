-- What a device shows of a number.
use Rattle.std.specs.Prelude.{Option, Some, None}
use Rattle.memif.specs.declared.answer.PlainMark.{PlainMark}
use Rattle.memif.specs.declared.answer.PlainMark.TheVariants as plain
use Rattle.fee_format.specs.declared.rec_head.RecordKind.{RecordKind}
use Rattle.fee_format.specs.declared.rec_head.RecordKind.TheVariants.{Content, Invalid, Erased}
use Rattle.ea_image.specs.declared.slot_head.SlotHead.{SlotHead}

-- the mark of a kind, without its content
abbrev pub plain_mark : RecordKind → PlainMark
plain_mark Content = plain.Content
plain_mark Invalid = plain.Invalid
plain_mark Erased = plain.Erased

-- and of a settled head: Erased where there is none
abbrev pub settled_mark : Option SlotHead → PlainMark
settled_mark None = plain.Erased
settled_mark (Some h) = plain_mark h.kind

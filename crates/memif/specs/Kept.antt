-- How what is kept for one number changes.
use Rattle.std.specs.Prelude.{ℕ, true, false, List}
use Rattle.memif.specs.declared.answer.PlainMark.{PlainMark}
use Rattle.memif.specs.declared.answer.PlainMark.TheVariants.{Content}
use Rattle.memif.specs.declared.kept.Kept.{Kept}
use Rattle.memif.specs.Told.{more_writes}

-- a content was taken
abbrev pub staged : Kept → List ℕ → Kept
staged k content = record k { next = record { kind = Content; content = content }; doubted = true }

-- a mark without content was taken
abbrev pub marked : Kept → PlainMark → Kept
marked k kind = record k { next = record { kind = kind; content = k.next.content }; doubted = true }

-- the mark that was taken last is settled
abbrev pub settled : Kept → Kept
settled k = record k { settled = k.next; count = more_writes 1 k.count; doubted = false }

-- what was found is settled
abbrev pub undoubted : Kept → Kept
undoubted k = record k { doubted = false }

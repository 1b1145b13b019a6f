-- The entries of jobs, where the content stands beside.
use Rattle.std.specs.Prelude.{ℕ, List, Option, Some, None}
use Rattle.nv_base.specs.declared.entry.Entry.{Entry}
use Rattle.nv_base.specs.declared.entry.Taken.{Taken}
use Rattle.nv_base.specs.declared.mark.Mark.{Mark}
use Rattle.nv_recorder.specs.declared.event.Event.{Event}
use Rattle.nv_recorder.specs.declared.event.Event.TheVariants as event
use Rattle.nv_recorder.specs.declared.event.TakenKind.{TakenKind}
use Rattle.nv_recorder.specs.declared.event.TakenKind.TheVariants as taken
use Rattle.nv_recorder.specs.declared.event.MarkKind.{MarkKind}
use Rattle.nv_recorder.specs.declared.event.MarkKind.TheVariants as mark

-- what is taken with this content
abbrev pub taken_of : TakenKind → Option (List ℕ) → Taken
taken_of (taken.Content store) (Some bytes) = Taken.Content bytes store
taken_of (taken.Content store) None = Taken.Nothing
taken_of taken.Nothing content = Taken.Nothing
taken_of (taken.Refused count) content = Taken.Refused count
taken_of (taken.Stale asked got count) content = Taken.Stale asked got count

-- what is written with this content
abbrev pub mark_of : MarkKind → Option (List ℕ) → Mark
mark_of mark.Content (Some bytes) = Mark.Content bytes
mark_of mark.Content None = Mark.Erased
mark_of mark.Invalid content = Mark.Invalid
mark_of mark.Erased content = Mark.Erased

-- the entry with this content
abbrev pub entry_of : Event → Option (List ℕ) → Entry
entry_of (event.Pick block job kind ops) content = Entry.Pick block job (taken_of kind content) ops
entry_of (event.Wrote instance kind ops) content = Entry.Wrote instance (mark_of kind content) ops
entry_of (event.Post block result refused ops) content = Entry.Post block result content refused ops

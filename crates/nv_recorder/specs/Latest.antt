-- The last entry, where no other one is kept.
use Rattle.std.specs.Prelude.{ℕ, List, Option, Some, None, option_copied, if◌then◌else◌}
use Rattle.nv_base.specs.declared.entry.Entry.{Entry}
use Rattle.nv_recorder.specs.declared.latest.Held.{Held}
use Rattle.nv_recorder.specs.declared.latest.Held.TheVariants as held
use Rattle.nv_recorder.specs.declared.latest.Last.{Last}
use Rattle.nv_recorder.specs.declared.latest.Last.TheVariants as last
use Rattle.nv_recorder.specs.Event.{entry_of}
use Rattle.nv_recorder.specs.Request.{request_lent, whole_request}

-- the content that stands in a buffer, and how many bytes have room
pub record Buffered : Type 0 where
  pub room : ℕ
  pub content : List ℕ

-- the entry that stands there, and of how many bytes its content may be
pub record Kept : Type 0 where
  pub entry : Option Entry
  pub room : ℕ

-- one that was added; one of a job, with its content, if it has one; one of a request, with its content; or one of a start-up, with
-- what it found
abbrev pub latest_of : Held → List ℕ → Option Entry
latest_of held.Nothing content = None
latest_of (held.Added entry) content = Some entry
latest_of (held.OfJob event has) content = Some (entry_of event (if has then Some content else None))
latest_of (held.OfRequest caller kind reply) content = Some (Entry.Ask caller (whole_request kind content) reply)
latest_of (held.Found marks ops) content = Some (Entry.Found marks.items ops)

-- the entry that is lent
abbrev pub last_of : Last → Entry
last_of (last.Added entry) = entry.now
last_of (last.OfJob event content) = entry_of event (option_copied content)
last_of (last.OfRequest caller request reply) = Entry.Ask caller (request_lent request) reply
last_of (last.Found marks ops) = Entry.Found marks.now.items ops

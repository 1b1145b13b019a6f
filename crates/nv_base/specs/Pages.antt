-- The pages of a record on the flash.
use Rattle.std.specs.Prelude.{ℕ, ◌+◌, ◌-◌, ◌/◌}

-- pages of a record's body
abbrev pub body_pages_of : ℕ → ℕ → ℕ
body_pages_of length page = (length + (page - 1)) / page

-- pages of a record of a length: header page, header gate, body pages, commit gate
abbrev pub record_pages_of : ℕ → ℕ → ℕ
record_pages_of length page = 3 + body_pages_of length page

-- The pages of a record, in order.
use Rattle.std.specs.Prelude.{ℕ, ◌+◌, ◌*◌, ◌-◌, ◌==◌, ◌||◌, if◌then◌else◌, List, ◌++◌, length, take, drop, replicate}
use Rattle.fee_format.specs.declared.rec_head.RecHead.{RecHead}
use Rattle.fee_format.specs.Formats.{new_format}
use Rattle.fee_format.specs.RecHead.{rec_head_page}
use Rattle.fee_format.specs.Pages.{gate_page, body_pages_of}

-- these bytes, filled to a page
abbrev pub filled : ℕ → List ℕ → List ℕ
filled p piece = piece ++ replicate (p - length piece) 255

-- page i of a record's body
abbrev pub body_page : ℕ → List ℕ → ℕ → List ℕ
body_page p payload i = filled p (take p (drop (i * p) payload))

-- page k of a record, as it is written: its header, its header gate, its body, its commit gate
abbrev pub record_page : ℕ → RecHead → List ℕ → ℕ → List ℕ
record_page p h payload k =
    if k == 0 then rec_head_page new_format p h
    else (if (k == 1) || (k == 2 + body_pages_of h.length p) then gate_page p else body_page p payload (k - 2))

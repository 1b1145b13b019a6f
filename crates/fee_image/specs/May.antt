-- What may be found of a number: marks, each with its count.
use Rattle.std.specs.Prelude.{if◌then◌else◌, ℕ, IsTrue, List, [], ◌∷◌, Option, Some, None, Contains}
use Rattle.fee_format.specs.declared.rec_head.RecHead.{RecHead}
use Rattle.fee_image.specs.Append.{whole}
use Rattle.fee_image.specs.Bank.{Bank}
use Rattle.fee_image.specs.Found.{fits, held_of, shown_in}
use Rattle.nv_base.specs.Held.{Held}

-- for a number of a length: one of these marks, or any where None
abbrev pub May : Type 0
May = ℕ → ℕ → Option (List Held)

-- a mark is one of these
abbrev pub IsAmong : Option (List Held) → Held → Type 0
IsAmong None m = Unit {0}
IsAmong (Some marks) m = Contains marks m

-- all that may be found here may be found there
abbrev pub IsWider : May → May → Type 0
IsWider may wide = (number length : ℕ) (m : Held) → IsAmong (may number length) m → IsAmong (wide number length) m

-- what a bank shows of each number may be found
abbrev pub Shows : Bank → List ℕ → May → Type 0
Shows b bytes may = (number length : ℕ) → IsAmong (may number length) (shown_in b bytes number length)

-- the mark of a record with this header and content
abbrev pub held_written : RecHead → List ℕ → Held
held_written h body = held_of (whole 0 h body)

-- a record may be committed: its mark may be found for its number
abbrev pub MayCommit : May → RecHead → List ℕ → Type 0
MayCommit may h body = (number length : ℕ) → IsTrue (fits number length h) → IsAmong (may number length) (held_written h body)

-- once it is committed, its number has its mark alone
abbrev pub settling : May → RecHead → List ℕ → May
settling may h body number length = if fits number length h then Some (held_written h body ∷ []) else may number length

-- nothing but what a bank shows
abbrev pub exactly : Bank → List ℕ → May
exactly b bytes number length = Some (shown_in b bytes number length ∷ [])

-- a mark and these
abbrev pub beside : Held → Option (List Held) → Option (List Held)
beside m None = None
beside m (Some marks) = Some (m ∷ marks)

-- what a bank shows, or what may be found anyway
abbrev pub doubting : Bank → List ℕ → May → May
doubting b bytes more number length = beside (shown_in b bytes number length) (more number length)

-- A sink that holds pieces back.
use Rattle.std.specs.Prelude.{◌≡◌, ◌⊎◌, ◌≤◌, ℕ, Bool, true, false, List, [], ◌++◌, take, drop, length, Option, None}
use Rattle.std.specs.Io.KnownBytes.{Appends, Keeps, append_known}
use Rattle.nv_streams.specs.Sink.{Written}
use Rattle.nv_streams.specs.declared.sink.SinkAnswer.{SinkAnswer}
use Rattle.nv_streams.specs.declared.sink.SinkAnswer.TheVariants.{Done, Failed}
use Rattle.nv_base.specs.Count.{Rose}

-- what stands in the writer, where it tells that, what is held back, and the faults
pub record HeldBytes : Type 0 where
  pub writer : Option (List ℕ)
  pub held : List ℕ
  pub faults : ℕ

-- it tells what was put: what stands in the writer, with what is held behind it
abbrev pub told_held : HeldBytes → Written
told_held s = record { bytes = append_known s.writer s.held; pieces = None }

-- these bytes went on to the writer, and these are held
pub record Passes (old new : HeldBytes) (bytes rest : List ℕ) : Type 0 where
  pub took : Appends old.writer new.writer bytes
  pub holds : new.held ≡ rest

-- all that was held went on
abbrev pub IsFlushed : SinkAnswer → HeldBytes → HeldBytes → Type 0
IsFlushed Done old new = Passes old new old.held [] × (new.faults ≡ old.faults)
IsFlushed Failed old new = Unit {0}

-- a beginning of it went on, and the rest is held
abbrev pub IsUnflushed : SinkAnswer → HeldBytes → HeldBytes → Type 0
IsUnflushed Done old new = Unit {0}
IsUnflushed Failed old new = (n : ℕ) × (n ≤ length old.held) × Passes old new (take n old.held) (drop n old.held) × Rose old.faults new.faults

-- a piece is held behind the others, or nothing changed
abbrev pub IsHeld : Bool → List ℕ → HeldBytes → HeldBytes → Type 0
IsHeld true piece old new = new ≡ record old { held = old.held ++ piece }
IsHeld false piece old new = new ≡ old

-- a piece went on, where none was held; or a beginning of it did
abbrev pub IsPassed : SinkAnswer → List ℕ → HeldBytes → HeldBytes → Type 0
IsPassed Done piece old new = Passes old new piece [] × (new.faults ≡ old.faults)
IsPassed Failed piece old new = (n : ℕ) × (n ≤ length piece) × Passes old new (take n piece) [] × Rose old.faults new.faults

-- Each piece stays whole: it is held behind the others; or all others went on, and it is held alone or went on behind them. Where the
-- writer failed, a beginning of what was held went on and nothing of the piece, or all of that and a beginning of the piece.
abbrev pub StaysWhole : SinkAnswer → List ℕ → HeldBytes → HeldBytes → Type 0
StaysWhole Done piece old new =
    (Keeps old.writer new.writer × (new.held ≡ old.held ++ piece)) ⊎ Passes old new old.held piece ⊎ Passes old new (old.held ++ piece) []
StaysWhole Failed piece old new =
    ((n : ℕ) × (n ≤ length old.held) × Passes old new (take n old.held) (drop n old.held))
    ⊎ ((n : ℕ) × (n ≤ length piece) × Passes old new (old.held ++ take n piece) [])

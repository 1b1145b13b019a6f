-- What a take of a source does. The bytes left are told or not; from there on they stay told.
use Rattle.std.specs.Prelude.{◌≡◌, ◌<◌, ◌≤◌, ℕ, List, length, take, Option}
use Rattle.std.specs.Io.KnownBytes.{Consumes, Keeps, IsAtEnd}
use Rattle.nv_streams.specs.declared.source.SourceAnswer.{SourceAnswer}
use Rattle.nv_streams.specs.declared.source.SourceAnswer.TheVariants.{Got, Failed}
use Rattle.nv_base.specs.Count.{Rose}

-- the first n bytes of the piece are the next ones, none for a nonempty piece only at the end, and no fault came
pub record Gives (left : Option (List ℕ)) (faults n : ℕ) (into : List ℕ) (left' : Option (List ℕ)) (faults' : ℕ) : Type 0 where
  pub within : n ≤ length into
  pub bytes : Consumes left left' (take n into)
  pub end : n ≡ 0 → 0 < length into → IsAtEnd left'
  pub no_fault : faults' ≡ faults

-- `Got`
abbrev pub IsGiven : SourceAnswer → Option (List ℕ) → ℕ → List ℕ → Option (List ℕ) → ℕ → Type 0
IsGiven (Got n) left faults into left' faults' = Gives left faults n into left' faults'
IsGiven Failed left faults into left' faults' = Unit {0}

-- `Failed`: nothing was taken, and the count of faults rose
abbrev pub IsFailedTake : SourceAnswer → Option (List ℕ) → ℕ → Option (List ℕ) → ℕ → Type 0
IsFailedTake (Got n) left faults left' faults' = Unit {0}
IsFailedTake Failed left faults left' faults' = Keeps left left' × Rose faults faults'

-- A sink in memory.
use Rattle.std.specs.Prelude.{◌≡◌, ◌↔◌, ◌⊎◌, ℕ, Bool, true, List, [], ◌∷◌, take, drop, Contains, Some}
use Rattle.std.specs.List.{concat}
use Rattle.nv_streams.specs.Sink.{Written}
use Rattle.nv_streams.specs.declared.sink.SinkAnswer.{SinkAnswer}
use Rattle.nv_streams.specs.declared.sink.SinkAnswer.TheVariants.{Failed}
use Rattle.nv_base.specs.Count.{next_count}

-- the pieces written, the calls that fail, the calls and faults so far, and whether the last call found no memory
pub record SinkInMemory : Type 0 where
  pub pieces : List (List ℕ)
  pub failing : List ℕ
  pub calls : ℕ
  pub faults : ℕ
  pub starved : Bool

-- it tells its bytes, which are the pieces joined, and its pieces
abbrev pub told_pieces : List (List ℕ) → Written
told_pieces pieces = record { bytes = Some (concat pieces); pieces = Some pieces }

-- bytes cut into pieces of these lengths
abbrev pub cut_by : List ℕ → List ℕ → List (List ℕ)
cut_by [] bytes = []
cut_by (n ∷ lengths) bytes = take n bytes ∷ cut_by lengths (drop n bytes)

-- a call fails exactly where it is listed or finds no memory, and then it keeps nothing
pub record FailsAsListed (answer : SinkAnswer) (old new : SinkInMemory) : Type 0 where
  pub calls : new.calls ≡ next_count old.calls
  pub failing : new.failing ≡ old.failing
  pub fails : (answer ≡ Failed) ↔ (Contains old.failing new.calls ⊎ (new.starved ≡ true))
  pub keeps_nothing : answer ≡ Failed → new.pieces ≡ old.pieces

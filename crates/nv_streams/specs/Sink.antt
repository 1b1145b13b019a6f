-- What a put of a sink does. What was written is told or not; from there on it stays told.
use Rattle.std.specs.Prelude.{◌≡◌, ◌≤◌, ℕ, List, [], ◌∷◌, ◌++◌, length, take, Option, None, Some}
use Rattle.std.specs.List.{concat}
use Rattle.std.specs.Io.KnownBytes.{Appends}
use Rattle.nv_streams.specs.declared.sink.SinkAnswer.{SinkAnswer}
use Rattle.nv_streams.specs.declared.sink.SinkAnswer.TheVariants.{Done, Failed}
use Rattle.nv_base.specs.Count.{Rose}

-- the bytes that were written, and the pieces of the calls that were done, in their order, each where they are told
pub record Written : Type 0 where
  pub bytes : Option (List ℕ)
  pub pieces : Option (List (List ℕ))

-- told pieces grow by these
abbrev pub AddsPieces : Option (List (List ℕ)) → Option (List (List ℕ)) → List (List ℕ) → Type 0
AddsPieces None new pieces = Unit {0}
AddsPieces (Some old) None pieces = ⊥
AddsPieces (Some old) (Some new) pieces = new ≡ old ++ pieces

-- these pieces were appended, one a call
pub record Puts (w w' : Written) (all : List (List ℕ)) : Type 0 where
  pub bytes : Appends w.bytes w'.bytes (concat all)
  pub pieces : AddsPieces w.pieces w'.pieces all

-- of these pieces the first ones were appended, one a call, and of the next one a prefix, maybe none, by a call that failed
pub record PutsPart (w w' : Written) (all : List (List ℕ)) : Type 0 where
  pub done : List (List ℕ)
  pub piece : List ℕ
  pub rest : List (List ℕ)
  pub are : all ≡ done ++ piece ∷ rest
  pub count : ℕ
  pub within : count ≤ length piece
  pub bytes : Appends w.bytes w'.bytes (concat done ++ take count piece)
  pub pieces : AddsPieces w.pieces w'.pieces done

-- `Done`: the whole piece was appended, and no fault came
abbrev pub IsPut : SinkAnswer → Written → ℕ → List ℕ → Written → ℕ → Type 0
IsPut Done written faults piece written' faults' = Puts written written' (piece ∷ []) × (faults' ≡ faults)
IsPut Failed written faults piece written' faults' = Unit {0}

-- `Failed`: a prefix of the piece was appended, and the count of faults rose
abbrev pub IsFailedPut : SinkAnswer → Written → ℕ → List ℕ → Written → ℕ → Type 0
IsFailedPut Done written faults piece written' faults' = Unit {0}
IsFailedPut Failed written faults piece written' faults' = PutsPart written written' (piece ∷ []) × Rose faults faults'

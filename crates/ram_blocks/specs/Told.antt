-- What is told of the application's synchronized blocks.
use Rattle.std.specs.Prelude.{◌≡◌, ℕ, List, map, get_or, option_map, Option, Some, None}
use Rattle.std.specs.Option.{option_and_then}

-- its bytes, the copies that were refused so far, how many of its next copies are refused where the application knows that, the
-- contents that were handed over to the application, and the last one
pub record Synchronized : Type 0 where
  pub bytes : ℕ
  pub refusals : ℕ
  pub to_refuse : Option ℕ
  pub handed : ℕ
  pub last : List ℕ

-- of a block, by id: nothing where it isn't synchronized
abbrev pub Told : Type 0
Told = Option Synchronized

abbrev pub told_at : List Told → ℕ → Told
told_at told block = get_or told block None

abbrev pub IsSynchronized : List Told → ℕ → ℕ → Type 0
IsSynchronized told block bytes = option_map (λ s. s.bytes) (told_at told block) ≡ Some bytes

abbrev pub refusals_by : Told → ℕ
refusals_by None = 0
refusals_by (Some s) = s.refusals

abbrev pub refusals_of : List Told → ℕ → ℕ
refusals_of told block = refusals_by (told_at told block)

-- how many of its next copies are refused, where that is told
abbrev pub to_refuse_by : Told → Option ℕ
to_refuse_by t = option_and_then (λ (s : Synchronized). s.to_refuse) t

abbrev pub to_refuse_of : List Told → ℕ → Option ℕ
to_refuse_of told block = to_refuse_by (told_at told block)

abbrev pub handed_by : Told → ℕ
handed_by None = 0
handed_by (Some s) = s.handed

-- which blocks are synchronized, with their bytes
abbrev pub sizes_of : List Told → List (Option ℕ)
sizes_of told = map {A = Told} (option_map (λ s. s.bytes)) told

-- The requests of a UDS gateway as people write them, a line each.
use Rattle.std.specs.Prelude.{◌≡◌, ◌<◌, ℕ, ◌+◌, ◌%◌, ◌==◌, ◌&&◌, ◌||◌, nat_le, Bool, true, if◌then◌else◌, List, [], ◌∷◌, length, filter_map, is_some, All, Option, Some, None}
use Rattle.std.specs.List.{list_all}
use Rattle.std.specs.Result.{result_ok}
use Rattle.hex.specs.Hex.{is_hex_digit, decode_of}
use Rattle.nvm_script.specs.declared.script.ScriptFault.{ScriptFault}
use Rattle.nvm_script.specs.declared.script.ScriptFault.TheVariants as fault

-- A LINE

-- an even number of hexadecimal digits in either case, two for each of 1 to 4,099 bytes: a service, an identifier, and the content
-- of a block
abbrev pub is_request : List ℕ → Bool
is_request line = list_all is_hex_digit line && nat_le 2 (length line) && nat_le (length line) 8198 && (length line % 2 == 0)

-- the bytes of its request, where it has one
abbrev pub request_of : List ℕ → Option (List ℕ)
request_of line = if is_request line then result_ok (decode_of line) else None

-- an empty line and a comment (#, 35) do nothing
abbrev pub is_idle : List ℕ → Bool
is_idle [] = true
is_idle (b ∷ bs) = b == 35

-- LINES

-- the requests of lines, in order
abbrev pub requests_in : List (List ℕ) → List (List ℕ)
requests_in lines = filter_map request_of lines

-- of the lines from number n on, the first that neither has a request nor does nothing
abbrev pub first_wrong : ℕ → List (List ℕ) → Option ℕ
first_wrong n [] = None
first_wrong n (line ∷ lines) = if is_idle line || is_some (request_of line) then first_wrong (n + 1) lines else Some n

-- the lines from number n on have these requests, and none is wrong
pub record IsRequests (n : ℕ) (lines requests : List (List ℕ)) : Type 0 where
  pub right : first_wrong n lines ≡ None
  pub are : requests ≡ requests_in lines

abbrev pub IsFirstWrongRequest : ℕ → List (List ℕ) → ℕ → Type 0
IsFirstWrongRequest n lines k = first_wrong n lines ≡ Some k

-- a fault that names a line names the first wrong one
abbrev pub NamesWrongRequest : List (List ℕ) → ScriptFault → Type 0
NamesWrongRequest lines (fault.Line number) = IsFirstWrongRequest 2 lines number
NamesWrongRequest lines fault.Memory = Unit {0}

-- THE REQUESTS

-- none is empty
abbrev pub HaveBytes : List (List ℕ) → Type 0
HaveBytes requests = All (λ request. 0 < length request) requests

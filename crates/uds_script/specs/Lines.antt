-- The line of an answer.
use Rattle.std.specs.Prelude.{ℕ, List, ◌++◌, codes}
use Rattle.hex.specs.Hex.{encode_lower}

-- two digits a byte, in lower case
abbrev pub uds_line : List ℕ → List ℕ
uds_line answer = codes "uds " ++ (encode_lower answer ++ codes "\n")

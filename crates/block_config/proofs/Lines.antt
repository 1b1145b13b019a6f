-- What a line means that isn't `@demo`.
use Rattle.std.proofs.Common.{◌≡◌, ℕ, Bool, true, false, if◌then◌else◌, List, Option, Some, None, Err, codes, refl, ap, ◌∙◌}
use Rattle.std.proofs.lemmas.Str.{is_utf8-from_IsUtf8, IsUtf8-from_is_utf8}
use Rattle.std.specs.Str.{bytes_eq, is_utf8, IsUtf8}
use Rattle.serde_json.specs.Data.{Data}
use Rattle.serde_json.specs.Read.{read as json_value}
use Rattle.block_config.specs.declared.fault.ConfigFault.TheVariants.{Broken}
use Rattle.block_config.specs.Head.{◌>>=◌, rule}
use Rattle.block_config.specs.Reading.{config_of, meaning_of}

-- the value of a line
abbrev value_of : List ℕ → Option Data
value_of line = if is_utf8 line then json_value line else None

meaning_of-value_of : (line : List ℕ) (o : Option Data) → bytes_eq line (codes "@demo") ≡ false → value_of line ≡ o → meaning_of line ≡ (rule 1 o >>= config_of)
meaning_of-value_of line o other is =
    let m : meaning_of line ≡ (rule 1 (value_of line) >>= config_of) = rw other refl in
    m ∙ ap (λ (v : Option Data). rule 1 v >>= config_of) is

pub meaning_of-value : (line : List ℕ) (d : Data) → bytes_eq line (codes "@demo") ≡ false → IsUtf8 line → json_value line ≡ Some d → meaning_of line ≡ config_of d
meaning_of-value line d other utf8 is =
    meaning_of-value_of line (Some d) other (ap (λ (b : Bool). if b then json_value line else None) (is_utf8-from_IsUtf8 line utf8) ∙ is)

none_either_way : (b : Bool) (o : Option Data) → (b ≡ true → o ≡ None) → (if b then o else None) ≡ None
none_either_way true o none = none refl
none_either_way false o none = refl

pub meaning_of-no_value : (line : List ℕ) → bytes_eq line (codes "@demo") ≡ false → (IsUtf8 line → json_value line ≡ None) → meaning_of line ≡ Err (Broken 1 0)
meaning_of-no_value line other none =
    meaning_of-value_of line None other (none_either_way (is_utf8 line) (json_value line) (λ is. none (IsUtf8-from_is_utf8 line is)))

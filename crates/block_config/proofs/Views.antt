-- The lists in a JSON value.
use Rattle.std.proofs.Common.{◌≡◌, ℕ, ◌&&◌, Bool, List, [], ◌∷◌, map, String, Global, string_bytes, refl, ap}
use Rattle.std.specs.List.{list_all}
use Rattle.std.specs.Map.{keys_of as keys_in}
use Rattle.serde_json.specs.Data.{Data}
use Rattle.serde_json.specs.View.{view, items_view, members_view}
use Rattle.serde_json.specs.declared.value.Value.{Value}
use Rattle.block_config.specs.Field.{keys_of}
use Rattle.block_config.specs.Head.{list_of}

pub list_of-items_view : (vs : List Value) → list_of (items_view vs) ≡ map view vs
list_of-items_view [] = refl
list_of-items_view (v ∷ vs) = ap (λ (ds : List Data). view v ∷ ds) (list_of-items_view vs)

pub list_all-keys_of : (p : List ℕ → Bool) (es : List (String Global × Value)) → list_all (λ k. p (string_bytes k)) (keys_in es) ≡ list_all p (keys_of (members_view es))
list_all-keys_of p [] = refl
list_all-keys_of p (e ∷ es) = ap (λ (b : Bool). p (string_bytes e.0) && b) (list_all-keys_of p es)

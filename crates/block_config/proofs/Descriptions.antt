-- How many items describe the blocks of a configuration.
use Rattle.std.proofs.Common.{◌≡◌, ◌≤◌, Bool, true, false, ◌&&◌, if◌then◌else◌, nat_le, List, length, map, Option, Some, None, option_and_then, codes, refl, subst, sym}
use Rattle.std.proofs.lemmas.List.{length-map}
use Rattle.serde_json.specs.Data.{Data, Items}
use Rattle.serde_json.specs.Find.{as_array}
use Rattle.serde_json.specs.View.{view}
use Rattle.serde_json.specs.declared.value.Value.{Value}
use Rattle.block_config.specs.Field.{needed}
use Rattle.block_config.specs.Head.{list_of, blocks_at}
use Rattle.block_config.proofs.LegalItem.{both_true, le_from_test}

abbrev AreFew : List Data → Type 0
AreFew ds = (1 ≤ length ds) × (length ds ≤ 511)

given_few : (b : Bool) (ds es : List Data) → (if b then Some ds else None) ≡ Some es → (b ≡ true → AreFew ds) → AreFew es
given_few true ds es h few = let same : ds ≡ es = cc in subst AreFew same (few refl)
given_few false ds es h few = cc h

found_few : (o : Option Items) (es : List Data) → option_and_then (λ ds. if nat_le 1 (length (list_of ds)) && nat_le (length (list_of ds)) 511 then Some (list_of ds) else None) o ≡ Some es → AreFew es
found_few None es h = cc h
found_few (Some items) es h =
    let ds = list_of items in
    given_few (nat_le 1 (length ds) && nat_le (length ds) 511) ds es h (λ both.
    let tests = both_true (nat_le 1 (length ds)) (nat_le (length ds) 511) both in
    (le_from_test 1 (length ds) tests.0, le_from_test (length ds) 511 tests.1))

pub few_items : (d : Data) (vs : List Value) → Some (map view vs) ≡ blocks_at d → (1 ≤ length vs) × (length vs ≤ 511)
few_items d vs is =
    let few = found_few (needed (codes "blocks") as_array d) (map view vs) (sym is) in
    (rw length-map at few.0, rw length-map at few.1)

-- Numbers of two devices that are apart.
use Rattle.std.specs.Prelude.{is_some, is_none, ◌==◌, ◌&&◌}
use Rattle.std.proofs.Common.{◌≡◌, ℕ, Bool, true, false, if◌then◌else◌, List, [], ◌∷◌, Option, Some, None, refl, subst, arith}
use Rattle.std.proofs.lemmas.Bool.Decides.{nat_tests}
use Rattle.memif_pair.specs.nv_base.declared.instance.DeviceNumber.{DeviceNumber}
use Rattle.memif_pair.specs.memif.Told.{length_of}
use Rattle.memif_pair.specs.Pair.{is_second}
use Rattle.memif_fee_ea.specs.Numbers.{are_apart}

both : (a b : Bool) → (a && b) ≡ true → (a ≡ true) × (b ≡ true)
both true b h = (refl, h)
both false b h = absurd (cc h)

none_of : {A : Type 0} (o : Option A) → is_none o ≡ true → o ≡ None
none_of None h = refl
none_of (Some x) h = absurd (cc h)

apart_at : (xs : List (DeviceNumber × ℕ)) (y : DeviceNumber × ℕ) (ys : List (DeviceNumber × ℕ)) (n : ℕ) → is_none (length_of xs y.0.0) ≡ true → (is_second ys n ≡ true → length_of xs n ≡ None)
    → (b : Bool) → (y.0.0 == n) ≡ b → is_some (if b then Some y.1 else length_of ys n) ≡ true → length_of xs n ≡ None
apart_at xs y ys n here rest true same there =
    let e : y.0.0 ≡ n = grind (arith, nat_tests, same) in
    subst (λ (k : ℕ). length_of xs k ≡ None) e (none_of (length_of xs y.0.0) here)
apart_at xs y ys n here rest false same there = rest there

pub apart : (xs ys : List (DeviceNumber × ℕ)) → are_apart xs ys ≡ true → (n : ℕ) → is_second ys n ≡ true → length_of xs n ≡ None
apart xs [] h n there = absurd (cc there)
apart xs (y ∷ ys) h n there =
    let two = both (is_none (length_of xs y.0.0)) (are_apart xs ys) h in
    apart_at xs y ys n two.0 (apart xs ys two.1 n) (y.0.0 == n) refl there

-- Two devices in memory, with the demo's numbers, may be made one.
use Rattle.std.specs.Prelude.{is_some, ◌==◌}
use Rattle.std.proofs.Common.{◌≡◌, ◌<◌, ◌≤◌, ℕ, Bool, true, false, if◌then◌else◌, List, [], ◌∷◌, Some, None, refl, sym, ap, subst, arith, lit<, lit≤}
use Rattle.std.proofs.lemmas.Bool.Decides.{nat_tests}
use Rattle.nvm_laws.specs.nv_base.declared.instance.DeviceNumber.{DeviceNumber}
use Rattle.nvm_laws.specs.memif.Told.{DeviceTold, Figures, First, length_of, no_figures}
use Rattle.nvm_laws.specs.memif.Plain.{plain_figures, plain_store}
use Rattle.memif_fee_ea.specs.memif_pair.Both.{ArePaired}

abbrev pub first_numbers : List (DeviceNumber × ℕ)
first_numbers = (record { 0 = 64 }, 2) ∷ (record { 0 = 65 }, 2) ∷ (record { 0 = 192 }, 20) ∷ []

abbrev pub second_numbers : List (DeviceNumber × ℕ)
second_numbers = (record { 0 = 128 }, 4) ∷ []

apart_by : (n : ℕ) (b : Bool) → (128 == n) ≡ b → is_some {T = ℕ} (if b then Some 4 else None) ≡ true → length_of first_numbers n ≡ None
apart_by n true same there =
    let e : 128 ≡ n = grind (arith, nat_tests, same) in
    subst (λ (k : ℕ). length_of first_numbers k ≡ None) e refl
apart_by n false same there = absurd (cc there)

part_by : (b : Bool) (f : Figures) → f.part ≡ First → (if b then plain_figures else f).part ≡ First
part_by true f is = refl
part_by false f is = is

part_of : (a b c : Bool) → (if a then plain_figures else (if b then plain_figures else (if c then plain_figures else no_figures))).part ≡ First
part_of a b c = part_by a (if b then plain_figures else (if c then plain_figures else no_figures)) (part_by b (if c then plain_figures else no_figures) (part_by c no_figures refl))

made_pair : ArePaired (plain_store first_numbers) (plain_store second_numbers)
made_pair = record {
  pair = record { first = refl; second = refl; apart = λ n there. apart_by n (128 == n) refl there };
  part = λ n. part_of (64 == n) (65 == n) (192 == n);
  ascend = (lit< tt, lit< tt, lit≤ tt, lit≤ tt, tt);
  own = refl;
  first = record { ops = refl; rests = refl };
  second = record { ops = refl; rests = refl };
}

pub in_memory : (a b : DeviceTold) → a ≡ plain_store first_numbers → b ≡ plain_store second_numbers → ArePaired a b
in_memory a b is_a is_b =
    subst (λ (x : DeviceTold). ArePaired x b) (sym is_a)
    (subst (λ (y : DeviceTold). ArePaired (plain_store first_numbers) y) (sym is_b) made_pair)

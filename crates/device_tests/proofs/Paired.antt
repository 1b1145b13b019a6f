-- A device in memory and one over slots, of a number each, may be made one.
use Rattle.std.specs.Prelude.{is_some, not, ◌==◌, ◌&&◌}
use Rattle.std.proofs.Common.{◌≡◌, ℕ, Bool, true, false, if◌then◌else◌, List, [], ◌∷◌, Some, None, refl, sym, ap, ◌∙◌, subst, arith}
use Rattle.std.proofs.lemmas.Bool.Decides.{nat_tests}
use Rattle.memif_fee_ea.specs.memif_pair.nv_base.declared.instance.DeviceNumber.{DeviceNumber}
use Rattle.memif_fee_ea.specs.memif_pair.nv_base.Lengths.{AreLengths}
use Rattle.memif_fee_ea.specs.memif_pair.memif.Told.{DeviceTold, First, Fixed, figures_at, is_open, length_of, no_figures, nothing_open}
use Rattle.memif_fee_ea.specs.memif_pair.memif.Plain.{plain_figures, plain_fixed, plain_store}
use Rattle.memif_fee_ea.specs.memif_pair.Pair.{is_second}
use Rattle.memif_fee_ea.specs.memif_pair.Both.{ArePaired}
use Rattle.memif_fee_ea.specs.ea_slots.ea_told.Making.{Making}
use Rattle.memif_fee_ea.specs.ea_slots.Whole.{IsMadeOf}

apart_by : (x y : DeviceNumber × ℕ) (n : ℕ) → (x.0.0 == y.0.0) ≡ false → (b : Bool) → (y.0.0 == n) ≡ b → is_some (if b then Some y.1 else None) ≡ true → length_of (x ∷ []) n ≡ None
apart_by x y n other true same there =
    let e : y.0.0 ≡ n = grind (arith, nat_tests, same) in
    rw (subst (λ (k : ℕ). (x.0.0 == k) ≡ false) e other) refl
apart_by x y n other false same there = cc there

part_by : (b : Bool) → (if b then plain_figures else no_figures).part ≡ First
part_by true = refl
part_by false = refl

rests_by : (o s : Bool) → o ≡ false → s ≡ false → (not o && not s) ≡ true
rests_by true s closed rests = cc closed
rests_by false true closed rests = cc rests
rests_by false false closed rests = refl

pub paired : (a b : DeviceTold) (m : Making) (x y : DeviceNumber × ℕ) → a ≡ plain_store (x ∷ []) → IsMadeOf m b → b.switching ≡ false → m.numbers ≡ y ∷ [] → (x.0.0 == y.0.0) ≡ false → AreLengths 0 m.numbers → ArePaired a b
paired a b m x y is made rests numbers other ascend =
    let fixed_a : a.fixed ≡ plain_fixed (x ∷ []) = ap (λ (d : DeviceTold). d.fixed) is in
    let numbers_b : b.fixed.numbers ≡ m.numbers = ap (λ (f : Fixed). f.numbers) made.fixed in
    record {
      pair = record {
        first = ap (λ (f : Fixed). f.two) fixed_a;
        second = ap (λ (f : Fixed). f.two) made.fixed;
        apart = λ n there. ap (λ (f : Fixed). length_of f.numbers n) fixed_a ∙ apart_by x y n other (y.0.0 == n) refl (subst (λ (ns : List (DeviceNumber × ℕ)). is_second ns n ≡ true) (numbers_b ∙ numbers) there);
      };
      part = λ n. ap (λ (f : Fixed). (figures_at f n).part) fixed_a ∙ part_by (x.0.0 == n);
      ascend = subst (λ (ns : List (DeviceNumber × ℕ)). AreLengths 0 ns) (sym numbers_b) ascend;
      own = ap (λ (f : Fixed). f.own) made.fixed;
      first = record { ops = ap (λ (d : DeviceTold). d.ops) is; rests = ap nothing_open is };
      second = record { ops = made.ops; rests = rests_by (is_open b.stand) b.switching (ap is_open made.stand) rests };
    }

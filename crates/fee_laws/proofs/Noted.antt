-- The place that a committed content gets.
use Rattle.std.specs.Prelude.{option_map}
use Rattle.std.proofs.Common.{◌≡◌, ◌≢◌, ◌≤◌, ◌+◌, ◌==◌, ℕ, suc, Bool, true, false, if◌then◌else◌, List, [], ◌∷◌, length, set, Option, Some, None, refl, sym, ap, ◌∙◌, subst, add-one, arith}
use Rattle.std.proofs.lemmas.Bool.{eqb-true, ne_eqb, eq-eqb}
use Rattle.nv_base.specs.Lengths.{AreLengths, place_of}
use Rattle.nv_base.specs.declared.instance.DeviceNumber.{DeviceNumber}
use Rattle.memif.specs.Told.{length_of}
use Rattle.fee_format.specs.declared.rec_head.RecHead.{RecHead}
use Rattle.fee_format.specs.declared.rec_head.RecordKind.{RecordKind}
use Rattle.fee_format.specs.declared.rec_head.RecordKind.TheVariants as kind
use Rattle.fee_image.specs.Found.{fits, matches_length}
use Rattle.fee_image.specs.declared.place.Place.{Place}
use Rattle.fee_image.specs.declared.place.Place.TheVariants.{Content}
use Rattle.fee_image.specs.Places.{noted}
use Rattle.fee_switch_laws.proofs.RoomAppends.{content_at}

-- a record of another number changes nothing
pub not_fits : (number length : ℕ) (h : RecHead) → h.number.0 ≢ number → fits number length h ≡ false
not_fits number length h differs = rw (ne_eqb h.number.0 number differs) refl

noted_none : (low : ℕ) (ns : List (DeviceNumber × ℕ)) (places : List Place) (at : ℕ) (h : RecHead) → AreLengths low ns → h.number.0 ≤ low → noted ns places at h ≡ places
noted_none low [] places at h are few = refl
noted_none low (n ∷ ns) [] at h are few = refl
noted_none low (n ∷ ns) (place ∷ places) at h are few =
    let more = are.0 in
    let rest = noted_none n.0.0 ns places at h are.4 (omega arith) in
    rw (not_fits n.0.0 n.1 h (λ e. omega (arith, e, more, few))) (ap (λ (l : List Place). place ∷ l) rest)

one_more : (o : Option ℕ) (i : ℕ) → option_map (λ (p : ℕ). p + 1) o ≡ Some i → (k : ℕ) × (o ≡ Some k) × (i ≡ suc k)
one_more None i e = cc e
one_more (Some k) i e = let same : k + 1 ≡ i = cc e in (k, refl, sym same ∙ add-one k)

fits_here : (number length : ℕ) (h : RecHead) → number ≡ h.number.0 → h.kind ≡ kind.Content → h.length ≡ length → fits number length h ≡ true
fits_here number length h same content whole = rw (eq-eqb h.number.0 number (sym same)) (subst (λ (k : RecordKind). matches_length k h.length length ≡ true) (sym content) (eq-eqb h.length length whole))

pub noted_set : (low : ℕ) (ns : List (DeviceNumber × ℕ)) (places : List Place) (at : ℕ) (h : RecHead) (i size : ℕ) → AreLengths low ns → length places ≡ length ns
    → place_of ns h.number.0 ≡ Some i → length_of ns h.number.0 ≡ Some size → h.kind ≡ kind.Content → h.length ≡ size → noted ns places at h ≡ set places i (Content at h.count)
noted_set low [] places at h i size are all place is content whole = cc place
noted_set low (n ∷ ns) [] at h i size are all place is content whole = absurd (omega (arith, all))
noted_set low (n ∷ ns) (p ∷ places) at h i size are all place is content whole =
    by_test (λ j at_j length_is. noted_set n.0.0 ns places at h j size are.4 (omega (arith, all)) at_j length_is content whole) (n.0.0 == h.number.0) refl place is
  where
    by_test : ((j : ℕ) → place_of ns h.number.0 ≡ Some j → length_of ns h.number.0 ≡ Some size → noted ns places at h ≡ set places j (Content at h.count)) → (b : Bool) → (n.0.0 == h.number.0) ≡ b → (if b then Some 0 else option_map (λ (x : ℕ). x + 1) (place_of ns h.number.0)) ≡ Some i → (if b then Some n.1 else length_of ns h.number.0) ≡ Some size
        → noted (n ∷ ns) (p ∷ places) at h ≡ set (p ∷ places) i (Content at h.count)
    by_test rest true e place is =
        let first : 0 ≡ i = cc place in
        let one : n.1 ≡ size = cc is in
        let same = eqb-true n.0.0 h.number.0 e in
        subst (λ (k : ℕ). noted (n ∷ ns) (p ∷ places) at h ≡ set (p ∷ places) k (Content at h.count)) first
        (rw (fits_here n.0.0 n.1 h same content (whole ∙ sym one), content_at at h content, noted_none n.0.0 ns places at h are.4 (omega (arith, same))) refl)
    by_test rest false e place is =
        let k = one_more (place_of ns h.number.0) i place in
        subst (λ (x : ℕ). noted (n ∷ ns) (p ∷ places) at h ≡ set (p ∷ places) x (Content at h.count)) (sym k.2)
        (rw (not_fits n.0.0 n.1 h (λ same. (let t = eq-eqb n.0.0 h.number.0 (sym same) in cc (t, e))))
        (ap (λ (l : List Place). p ∷ l) (rest k.0 k.1 is)))

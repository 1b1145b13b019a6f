-- What a number's place shows.
use Rattle.std.specs.Prelude.{option_map, slice_get}
use Rattle.std.proofs.Common.{◌≡◌, ◌+◌, ◌==◌, ℕ, Bool, true, false, if◌then◌else◌, List, [], ◌∷◌, Option, Some, None, refl, sym, ap, ◌∙◌, add-one}
use Rattle.nv_base.specs.Lengths.{place_of}
use Rattle.nv_base.specs.declared.instance.DeviceNumber.{DeviceNumber}
use Rattle.nv_base.specs.declared.mark.Mark.{Mark}
use Rattle.fee_image.specs.Bank.{Bank}
use Rattle.fee_image.specs.declared.place.Place.{Place}
use Rattle.fee_image.specs.declared.place.Place.TheVariants.{Unwritten}
use Rattle.fee_image.specs.Places.{count_at, held_at}
use Rattle.memif.specs.Told.{Held, more_writes, never_written, at_number, length_of, slot_at}
use Rattle.fee_told.specs.Slots.{held_all, left_on, slot_of, slots_with, writes_of}
use Rattle.fee_switch_laws.specs.fee_log.Index.{place_in, at_index, or_else}

later : (o : Option ℕ) (p : Place) (ps : List Place) → or_else Unwritten (at_index (p ∷ ps) (option_map (λ (k : ℕ). k + 1) o)) ≡ or_else Unwritten (at_index ps o)
later None p ps = refl
later (Some k) p ps = ap (λ (i : ℕ). or_else Unwritten (slice_get (p ∷ ps) i)) (add-one k)

pub none_at : (o : Option ℕ) → or_else Unwritten (at_index [] o) ≡ Unwritten
none_at None = refl
none_at (Some i) = refl

-- where it stands
pub place_of_number : (ns : List (DeviceNumber × ℕ)) (ps : List Place) (n : ℕ) → place_in ns ps n ≡ at_number Unwritten ns ps n
place_of_number [] ps n = refl
place_of_number (x ∷ xs) [] n = none_at (place_of (x ∷ xs) n)
place_of_number (x ∷ xs) (p ∷ ps) n = by_test (place_of_number xs ps n) (x.0.0 == n)
  where
    by_test : place_in xs ps n ≡ at_number Unwritten xs ps n → (t : Bool)
        → or_else Unwritten (at_index (p ∷ ps) (if t then Some 0 else option_map (λ (k : ℕ). k + 1) (place_of xs n))) ≡ (if t then p else at_number Unwritten xs ps n)
    by_test rest true = refl
    by_test rest false = later (place_of xs n) p ps ∙ rest

-- so a record that counts one more than its place counts one more than its number has
pub counted_by : (ns ms : List (DeviceNumber × ℕ)) (ps : List Place) (n : ℕ) → ns ≡ ms → more_writes 1 (count_at (place_in ns ps n)) ≡ more_writes 1 (writes_of ms ps n)
counted_by ns ms ps n same = ap (λ (p : Place). more_writes 1 (count_at p)) (place_of_number ns ps n) ∙ (λ i. more_writes 1 (writes_of (same i) ps n))

-- of a configured number
pub shows_at : (b : Bank) (bytes : List ℕ) (ns : List (DeviceNumber × ℕ)) (ps : List Place) (n length : ℕ) → length_of ns n ≡ Some length
    → at_number never_written ns (held_all b bytes ns ps) n ≡ held_at b bytes length (place_in ns ps n)
shows_at b bytes [] ps n length is = cc
shows_at b bytes (x ∷ xs) [] n length is = sym (ap (held_at b bytes length) (none_at (place_of (x ∷ xs) n)))
shows_at b bytes (x ∷ xs) (p ∷ ps) n length is = by_test (λ e. shows_at b bytes xs ps n length e) (x.0.0 == n) is
  where
    by_test : (length_of xs n ≡ Some length → at_number never_written xs (held_all b bytes xs ps) n ≡ held_at b bytes length (place_in xs ps n))
        → (t : Bool) → (if t then Some x.1 else length_of xs n) ≡ Some length
        → (if t then held_at b bytes x.1 p else at_number never_written xs (held_all b bytes xs ps) n)
        ≡ held_at b bytes length (or_else Unwritten (at_index (p ∷ ps) (if t then Some 0 else option_map (λ (k : ℕ). k + 1) (place_of xs n))))
    by_test rest true is = let same : x.1 ≡ length = cc is in ap (λ (k : ℕ). held_at b bytes k p) same
    by_test rest false is = rest is ∙ sym (ap (held_at b bytes length) (later (place_of xs n) p ps))

-- what a number's slot has settled is what its place shows
pub settled_of : (shown : ℕ → ℕ → Held) (more : ℕ → List Mark) (ns : List (DeviceNumber × ℕ)) (ms : List Held) (n : ℕ) → (slot_at ns (slots_with shown more ns ms) n).settled ≡ at_number never_written ns ms n
settled_of shown more [] ms n = refl
settled_of shown more (x ∷ xs) [] n = refl
settled_of shown more (x ∷ xs) (m ∷ ms) n = by_test (settled_of shown more xs ms n) (x.0.0 == n)
  where
    by_test : (slot_at xs (slots_with shown more xs ms) n).settled ≡ at_number never_written xs ms n → (t : Bool)
        → (if t then slot_of m (shown x.0.0 x.1) (left_on m (more x.0.0)) else slot_at xs (slots_with shown more xs ms) n).settled ≡ (if t then m else at_number never_written xs ms n)
    by_test rest true = refl
    by_test rest false = rest

pub same_with : (shown : ℕ → ℕ → Held) (more less : ℕ → List Mark) (ns : List (DeviceNumber × ℕ)) (ms : List Held) → ((n : ℕ) → more n ≡ less n) → slots_with shown more ns ms ≡ slots_with shown less ns ms
same_with shown more less [] ms same = refl
same_with shown more less (x ∷ xs) [] same = refl
same_with shown more less (x ∷ xs) (m ∷ ms) same = λ i. slot_of m (shown x.0.0 x.1) (left_on m (same x.0.0 i)) ∷ same_with shown more less xs ms same i

-- What a device in memory keeps, in the order of the numbers, and what stands at a place.
use Rattle.std.specs.Prelude.{◌==◌, ◌⊎◌, if◌then◌else◌, slice_get, is_some}
use Rattle.std.proofs.Common.{◌≡◌, ◌≢◌, ℕ, zero, suc, ◌+◌, ◌<◌, List, [], ◌∷◌, length, get_or, set, map, All, Some, None, refl, ap, arith, inl, inr, Bool, true, false, if◌then◌else◌, Option, option_map, ◌∙◌}
use Rattle.std.proofs.lemmas.Bool.{cases_Bool, eqb-true, eqb-false}
use Rattle.std.proofs.lemmas.Bool.Decides.{nat_tests}
use Rattle.nv_base.specs.declared.instance.DeviceNumber.{DeviceNumber}
use Rattle.nv_base.specs.Lengths.{place_of}
use Rattle.memif.specs.Told.{at_number, length_of, Slot, no_slot, slot_at}
use Rattle.std.proofs.lemmas.List.{map-set, get_or-set_same, get_or-map, length-set, length-map}
use Rattle.std.proofs.lemmas.Option.{slice_get-get_or}
use Rattle.memif.specs.declared.answer.PlainMark.TheVariants as plain
use Rattle.memif.specs.declared.answer.JobResult.{JobResult}
use Rattle.memif.specs.declared.answer.DeviceRefusal.{DeviceRefusal}
use Rattle.memif.specs.declared.kept.Kept.{Kept}
use Rattle.memif.specs.declared.plain_store.PlainJob.{PlainJob}
use Rattle.memif.specs.Calls.{refusal_of, length_refusal}
use Rattle.memif.specs.Kept.{undoubted}
use Rattle.memif.specs.PlainInside.{StartUps, slot_of, told_with, AreKept}

-- PLACES
-- a number has the first place, or one behind it
parted_by : (b : Bool) (o : Option ℕ) (i : ℕ) → (if b then Some 0 else option_map (λ place. place + 1) o) ≡ Some i
    → ((b ≡ true) × (i ≡ 0)) ⊎ ((b ≡ false) × ((k : ℕ) × (o ≡ Some k) × (i ≡ suc k)))
parted_by true o i is = inl (refl, cc)
parted_by false None i is = cc
parted_by false (Some k) i is = let e : k + 1 ≡ i = cc in inr (refl, (k, refl, omega arith))

parted : (n : DeviceNumber × ℕ) (ns : List (DeviceNumber × ℕ)) (number i : ℕ) → place_of (n ∷ ns) number ≡ Some i
    → (((n.0.0 == number) ≡ true) × (i ≡ 0)) ⊎ (((n.0.0 == number) ≡ false) × ((k : ℕ) × (place_of ns number ≡ Some k) × (i ≡ suc k)))
parted n ns number i is = parted_by (n.0.0 == number) (place_of ns number) i is

pub place_within : (ns : List (DeviceNumber × ℕ)) (number i : ℕ) → place_of ns number ≡ Some i → i < length ns
place_within [] number i is = cc
place_within (n ∷ ns) number i is = elim (parted n ns number i is) [
  | inl first ↦ omega (arith, first.1)
  | inr later ↦ omega (arith, later.1.2, place_within ns number later.1.0 later.1.1)
]

module _ {A : Type 0} (none : A) where
  -- what stands for the number at a place
  pub at_place : (ns : List (DeviceNumber × ℕ)) (things : List A) (number i : ℕ) (d : A) → length things ≡ length ns
      → place_of ns number ≡ Some i → at_number none ns things number ≡ get_or things i d
  at_place [] things number i d each is = cc
  at_place (n ∷ ns) [] number i d each is = absurd (omega arith)
  at_place (n ∷ ns) (thing ∷ things) number i d each is = elim (parted n ns number i is) [
    | inl first ↦ rw (first.0, first.1) refl
    | inr later ↦ rw (later.0, later.1.2) (at_place ns things number later.1.0 d (omega arith) later.1.1)
  ]

  -- another thing at that place
  pub at_set : (ns : List (DeviceNumber × ℕ)) (things : List A) (number i : ℕ) (thing : A) (n : ℕ) → length things ≡ length ns
      → place_of ns number ≡ Some i
      → at_number none ns (set things i thing) n ≡ (if n == number then thing else at_number none ns things n)
  at_set [] things number i thing n each is = cc
  at_set (x ∷ ns) [] number i thing n each is = absurd (omega arith)
  at_set (x ∷ ns) (y ∷ things) number i thing n each is = elim (parted x ns number i is) [
    | inl first ↦ let same : x.0.0 ≡ number = eqb-true x.0.0 number first.0 in rw first.1 (grind (arith, nat_tests, same))
    | inr later ↦
        let other : x.0.0 ≢ number = eqb-false x.0.0 number later.0 in
        rw later.1.2 (grind (arith, nat_tests, other, at_set ns things number later.1.0 thing n (omega arith) later.1.1))
  ]

  -- one thing for all
  pub at_same : (ns : List (DeviceNumber × ℕ)) (thing : A) (number size : ℕ) → length_of ns number ≡ Some size → at_number none ns (map (λ n. thing) ns) number ≡ thing
  at_same [] thing number size is = cc
  at_same (n ∷ ns) thing number size is = elim (cases_Bool (n.0.0 == number)) [ inl e ↦ rw e refl | inr e ↦ rw e (at_same ns thing number size (rw e at is)) ]

-- the length of the number at a place
pub length_at : (ns : List (DeviceNumber × ℕ)) (number i : ℕ) (d : DeviceNumber × ℕ) → place_of ns number ≡ Some i
    → length_of ns number ≡ Some (get_or ns i d).1
length_at [] number i d is = cc
length_at (n ∷ ns) number i d is = elim (parted n ns number i is) [
  | inl first ↦ rw (first.0, first.1) refl
  | inr later ↦ rw (later.0, later.1.2) (length_at ns number later.1.0 d later.1.1)
]

-- a number that isn't configured
pub length_none : (ns : List (DeviceNumber × ℕ)) (number : ℕ) → All (λ n. n.0.0 ≢ number) ns → length_of ns number ≡ None
length_none [] number none = refl
length_none (n ∷ ns) number none = grind (arith, nat_tests, none 0 n (omega arith), length_none ns number (λ k d lt. none (suc k) d (omega arith)))

pub blank : Kept
blank = record { settled = record { kind = plain.Erased; content = [] }; count = 0; next = record { kind = plain.Erased; content = [] }; doubted = false }

-- ROOM
pub kept_length : (numbers : List (DeviceNumber × ℕ)) (kept : List Kept) → AreKept numbers kept → length kept ≡ length numbers
kept_length [] [] room = refl
kept_length [] (k ∷ ks) room = absurd room
kept_length (x ∷ xs) [] room = absurd room
kept_length (x ∷ xs) (k ∷ ks) room = ap suc (kept_length xs ks room.2)

pub room_at : (numbers : List (DeviceNumber × ℕ)) (kept : List Kept) (i : ℕ) (d : DeviceNumber × ℕ) (e : Kept) → AreKept numbers kept → i < length numbers → (length (get_or kept i e).settled.content ≡ (get_or numbers i d).1) × (length (get_or kept i e).next.content ≡ (get_or numbers i d).1)
room_at [] kept i d e room lt = absurd (omega arith)
room_at (x ∷ xs) [] i d e room lt = absurd room
room_at (x ∷ xs) (k ∷ ks) zero d e room lt = (room.0, room.1)
room_at (x ∷ xs) (k ∷ ks) (suc i) d e room lt = room_at xs ks i d e room.2 (omega arith)

pub room_set : (numbers : List (DeviceNumber × ℕ)) (kept : List Kept) (i : ℕ) (v : Kept) → AreKept numbers kept → ((d : DeviceNumber × ℕ) → (length v.settled.content ≡ (get_or numbers i d).1) × (length v.next.content ≡ (get_or numbers i d).1)) → AreKept numbers (set kept i v)
room_set [] [] i v room fits = tt
room_set [] (k ∷ ks) i v room fits = absurd room
room_set (x ∷ xs) [] i v room fits = absurd room
room_set (x ∷ xs) (k ∷ ks) zero v room fits = ((fits x).0, (fits x).1, room.2)
room_set (x ∷ xs) (k ∷ ks) (suc i) v room fits = (room.0, room.1, room_set xs ks i v room.2 fits)

pub room_map : (numbers : List (DeviceNumber × ℕ)) (kept : List Kept) → AreKept numbers kept → AreKept numbers (map undoubted kept)
room_map [] [] room = tt
room_map [] (k ∷ ks) room = absurd room
room_map (x ∷ xs) [] room = absurd room
room_map (x ∷ xs) (k ∷ ks) room = (room.0, room.1, room_map xs ks room.2)

-- REFUSALS
pub refusal_is : (numbers : List (DeviceNumber × ℕ)) (kept : List Kept) (up : StartUps) (job : Option PlainJob) (last : JobResult) (given : Option ℕ) (number : ℕ) (size : Option ℕ) (r : Option DeviceRefusal) → is_some job ≡ false → up.started ≡ true → length_refusal size (length_of numbers number) ≡ r → refusal_of (told_with numbers kept up job last given) number size ≡ r
refusal_is numbers kept up None last given number size r none on is = rw on is
refusal_is numbers kept up (Some j) last given number size r none on is = cc

pub none_open : (numbers : List (DeviceNumber × ℕ)) (kept : List Kept) (up : StartUps) (job : Option PlainJob) (last : JobResult) (given : Option ℕ) (number : ℕ) (size : Option ℕ) → refusal_of (told_with numbers kept up job last given) number size ≡ None → job ≡ None
none_open numbers kept up None last given number size none = refl
none_open numbers kept up (Some j) last given number size none = cc

-- THE MARKS
module _ (numbers : List (DeviceNumber × ℕ)) (kept : List Kept) (number place : ℕ) (room : AreKept numbers kept) (at : place_of numbers number ≡ Some place) where
  lt : place < length kept
  lt = omega (arith, place_within numbers number place at, kept_length numbers kept room)

  slots_length : length (map slot_of kept) ≡ length numbers
  slots_length = length-map kept slot_of ∙ kept_length numbers kept room

  pub slot_is : slot_at numbers (map slot_of kept) number ≡ slot_of (get_or kept place blank)
  slot_is = at_place no_slot numbers (map slot_of kept) number place no_slot slots_length at ∙ get_or-map slot_of kept place blank no_slot lt

  pub slot_set : (v : Kept) (n : ℕ) → slot_at numbers (map slot_of (set kept place v)) n ≡ (if n == number then slot_of v else slot_at numbers (map slot_of kept) n)
  slot_set v n = ap (λ (l : List Slot). slot_at numbers l n) (map-set slot_of kept place v) ∙ at_set no_slot numbers (map slot_of kept) number place (slot_of v) n slots_length at

  pub size_is : (d : DeviceNumber × ℕ) → length_of numbers number ≡ Some (get_or numbers place d).1
  size_is d = length_at numbers number place d at

  pub get_set : (v : Kept) → slice_get (set kept place v) place ≡ Some v
  get_set v = slice_get-get_or (set kept place v) place v (omega (arith, length-set kept place v, lt)) ∙ ap Some (get_or-set_same kept place v v lt)

  pub get_is : slice_get kept place ≡ Some (get_or kept place blank)
  get_is = slice_get-get_or kept place blank lt

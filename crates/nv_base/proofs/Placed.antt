-- Entries at places of a list.
use Rattle.std.proofs.Common.{◌≡◌, ◌≤◌, ◌<◌, ℕ, zero, suc, ◌+◌, List, [], ◌∷◌, ◌++◌, All, Some, length, length-append, slice_get, refl, ap, arith, ◌-◌}
use Rattle.std.proofs.lemmas.List.Elements.{filter_map-append, All-append}
use Rattle.std.proofs.lemmas.Option.{slice_get_within, get_or_from_slice_get}
use Rattle.nv_base.specs.declared.entry.Entry.{Entry}
use Rattle.nv_base.specs.History.{ArePlaced, placed}

-- what stands at a place
stands : {X : Type 0} (xs : List X) (i : ℕ) → i < length xs → (x : X) × (slice_get xs i ≡ Some x)
stands [] i within = absurd (omega arith)
stands (x ∷ xs) zero within = (x, refl)
stands (x ∷ xs) (suc i) within = stands xs i (omega arith)

-- one more behind a list changes nothing before it
kept : {X : Type 0} (xs : List X) (x : X) (i : ℕ) → i < length xs → slice_get (xs ++ x ∷ []) i ≡ slice_get xs i
kept [] x i within = absurd (omega arith)
kept (y ∷ xs) x zero within = refl
kept (y ∷ xs) x (suc i) within = kept xs x i (omega arith)

pub comes_last : {X : Type 0} (xs : List X) (x : X) → slice_get (xs ++ x ∷ []) (length xs) ≡ Some x
comes_last [] x = refl
comes_last (y ∷ xs) x = comes_last xs x

-- there is one for each place
pub placed_length : (stored : List Entry) (places : List ℕ) → All (λ place. place < length stored) places → length (placed stored places) ≡ length places
placed_length stored [] within = refl
placed_length stored (p ∷ places) within =
    let one = stands stored p (within 0 p (omega arith)) in
    rw one.1 (ap suc (placed_length stored places (λ k d lt. within (suc k) d (omega arith))))

pub placed_get : (stored : List Entry) (places : List ℕ) (i p : ℕ) → All (λ place. place < length stored) places → slice_get places i ≡ Some p → slice_get (placed stored places) i ≡ slice_get stored p
placed_get stored [] i p within is = grind arith
placed_get stored (q ∷ places) zero p within is =
    let one = stands stored q (within 0 q (omega arith)) in
    rw one.1 (grind (arith, one.1))
placed_get stored (q ∷ places) (suc i) p within is =
    let one = stands stored q (within 0 q (omega arith)) in
    rw one.1 (placed_get stored places i p (λ k d lt. within (suc k) d (omega arith)) is)

-- an entry more
placed_kept : (stored : List Entry) (e : Entry) (places : List ℕ) → All (λ place. place < length stored) places → placed (stored ++ e ∷ []) places ≡ placed stored places
placed_kept stored e [] within = refl
placed_kept stored e (p ∷ places) within =
    rw (kept stored e p (within 0 p (omega arith)), placed_kept stored e places (λ k d lt. within (suc k) d (omega arith))) refl

pub placed_again : (stored : List Entry) (e : Entry) (places : List ℕ) (p : ℕ) → slice_get stored p ≡ Some e → placed stored (places ++ p ∷ []) ≡ placed stored places ++ e ∷ []
placed_again stored e places p is = rw (filter_map-append (slice_get stored) places (p ∷ []), is) refl

pub placed_first : (stored : List Entry) (e : Entry) (places : List ℕ) → All (λ place. place < length stored) places → placed (stored ++ e ∷ []) (places ++ length stored ∷ []) ≡ placed stored places ++ e ∷ []
placed_first stored e places within = rw (placed_again (stored ++ e ∷ []) e places (length stored) (comes_last stored e), placed_kept stored e places within) refl

-- a place is one of the list
pub stands_within : (stored : List Entry) (places : List ℕ) (i p : ℕ) → All (λ place. place < length stored) places → slice_get places i ≡ Some p → p < length stored
stands_within stored places i p within is = omega (arith, within i p (slice_get_within places i p is), get_or_from_slice_get places i p p is)

one_within : (n p : ℕ) → p < n → All (λ place. place < n) (p ∷ [])
one_within n p lt zero d inside = lt
one_within n p lt (suc k) d inside = absurd (omega arith)

more_within : (few n p : ℕ) (places : List ℕ) → All (λ place. place < few) places → few ≤ n → p < n → All (λ place. place < n) (places ++ p ∷ [])
more_within few n p places within le lt = All-append (λ place. place < n) places (p ∷ []) (λ k d inside. omega (arith, within k d inside)) (one_within n p lt)

module _ (stored : List Entry) (places : List ℕ) (stored_capacity places_capacity cap reserved : ℕ) (e : Entry)
    (are : ArePlaced stored places stored_capacity places_capacity cap reserved) (below : length (placed stored places) < cap) (room : 0 < reserved) where
  count : length (placed stored places) ≡ length places
  count = placed_length stored places are.within

  -- with an entry that stands there
  pub are_again : (p : ℕ) → slice_get stored p ≡ Some e → ArePlaced stored (places ++ p ∷ []) stored_capacity places_capacity cap (reserved - 1)
  are_again p is =
      let more : length (places ++ p ∷ []) ≡ length places + 1 = length-append places (p ∷ []) in
      record {
        within = more_within (length stored) (length stored) p places are.within (omega arith) (slice_get_within stored p e is);
        few = omega (arith, more, are.few);
        capped = omega (arith, more, count, below);
        stored_room = omega (arith, are.stored_room, room);
        places_room = omega (arith, more, are.places_room, room);
      }

  -- and with one that comes behind the others
  pub are_first : ArePlaced (stored ++ e ∷ []) (places ++ length stored ∷ []) stored_capacity places_capacity cap (reserved - 1)
  are_first =
      let more : length (places ++ length stored ∷ []) ≡ length places + 1 = length-append places (length stored ∷ []) in
      let longer : length (stored ++ e ∷ []) ≡ length stored + 1 = length-append stored (e ∷ []) in
      record {
        within = more_within (length stored) (length (stored ++ e ∷ [])) (length stored) places are.within (omega (arith, longer)) (omega (arith, longer));
        few = omega (arith, more, longer, are.few);
        capped = omega (arith, more, count, below);
        stored_room = omega (arith, longer, are.stored_room, room);
        places_room = omega (arith, more, are.places_room, room);
      }

-- The places of numbers in a bank.
use Rattle.std.specs.Prelude.{if◌then◌else◌, ◌==◌}
use Rattle.std.proofs.Common.{rules, ◌++◌, ◌≡◌, ℕ, zero, suc, ◌<◌, ◌≤◌, ◌+◌, ◌*◌, Bool, true, false, List, [], ◌∷◌, length, take, drop, Option, Some, None, refl, sym, ap, ◌∙◌, subst, arith}
use Rattle.std.proofs.lemmas.Bool.{and_parts, eqb-true}
use Rattle.std.proofs.lemmas.Bool.Decides.{nat_tests}
use Rattle.std.proofs.lemmas.List.{take-take}
use Rattle.nv_base.specs.declared.instance.DeviceNumber.{DeviceNumber}
use Rattle.nv_base.specs.declared.mark.Mark.TheVariants.{Content}
use Rattle.nv_base.specs.Pages.{body_pages_of, record_pages_of}
use Rattle.fls_model.specs.Bytes.{piece}
use Rattle.fee_format.specs.declared.rec_head.RecHead.{RecHead}
use Rattle.fee_format.specs.declared.rec_head.RecordKind.{RecordKind}
use Rattle.fee_format.specs.declared.rec_head.RecordKind.TheVariants as kind
use Rattle.fee_image.specs.Bank.{Bank, page_of, place_of_page, pages_from, moved}
use Rattle.fee_image.specs.Found.{matches_length, mark_of_kind, fits, counts, last_from, last_held, held_of, held_shown}
use Rattle.nv_base.specs.Held.{Held}
use Rattle.fee_image.specs.RecordList.{Rec, Stands, Walks, pages_of_head}
use Rattle.fee_image.specs.declared.place.Place.{Place}
use Rattle.fee_image.specs.declared.place.Place.TheVariants.{Content as PlaceContent, Invalid as PlaceInvalid, Erased as PlaceErased, Unwritten}
use Rattle.fee_image.specs.LogLaws.{PlacesShowLast, EachIsPlaced, PlacesStay}
use Rattle.fee_image.specs.May.{May, IsAmong, IsWider, settling, held_written}
use Rattle.fee_image.specs.Places.{place_of_kind, place_at, place_shown, held_at, places_of, noted, IsWithin, ArePlaced}
use Rattle.fee_image.proofs.Bodies.{bodies_have_room}
use Rattle.fee_image.proofs.Reading.{pages_are_one_range}

-- a content that fits has the number's length
pub fits_length : (number length : ℕ) (h : RecHead) → fits number length h ≡ true → h.kind ≡ kind.Content → h.length ≡ length
fits_length number length h fit content = eqb-true h.length length (subst (λ (k : RecordKind). matches_length k h.length length ≡ true) content (and_parts (h.number.0 == number) (matches_length h.kind h.length length) fit).1)

counts_fits : (number length : ℕ) (r : Rec) → counts number length r ≡ true → fits number length r.head ≡ true
counts_fits number length r is = grind (arith, nat_tests)

-- WHAT IS READ
-- a range of bytes begins the pages that it lies in
pub range_pages : (b : Bank) (bytes : List ℕ) (q length : ℕ) → 1 ≤ b.page → piece (place_of_page b q) length bytes ≡ take length (pages_from b bytes q (body_pages_of length b.page))
range_pages b bytes q length one =
    let n = body_pages_of length b.page in
    sym (ap (take length) (pages_are_one_range b bytes q n) ∙ take-take length (n * b.page) (drop (place_of_page b q) bytes) (bodies_have_room length b.page one))

module _ (b : Bank) (bytes : List ℕ) (one : 1 ≤ b.page) where
  by_kind : (length at count : ℕ) (payload : List ℕ) (k : RecordKind) → (k ≡ kind.Content → payload ≡ piece (place_of_page b (at + 2)) length bytes)
      → held_at b bytes length (place_of_kind k at count) ≡ (let h : Held = record { mark = mark_of_kind k payload; count = count } in h)
  by_kind length at count payload kind.Content is = ap (λ (xs : List ℕ). let h : Held = record { mark = Content xs; count = count } in h) (sym (is refl))
  by_kind length at count payload kind.Invalid is = refl
  by_kind length at count payload kind.Erased is = refl

  -- a record that fits shows its mark at its place
  pub shows : (number length q : ℕ) (r : Rec) → fits number length r.head ≡ true → Stands b bytes q r → held_at b bytes length (place_at q r.head) ≡ held_of r
  shows number length q r fit stands =
      by_kind length q r.head.count r.payload r.head.kind
      (λ content. stands.payload
      ∙ ap (λ (n : ℕ). take n (pages_from b bytes (q + 2) (body_pages_of n b.page))) (fits_length number length r.head fit content)
      ∙ sym (range_pages b bytes (q + 2) length one))

  chosen : (length : ℕ) (c : Bool) (r : Rec) (o : Option Rec) → (c ≡ true → held_at b bytes length (place_at r.at r.head) ≡ held_of r) → held_at b bytes length (place_shown o) ≡ held_shown o → held_at b bytes length (place_shown (if c then Some r else o)) ≡ held_shown (if c then Some r else o)
  chosen length true r o this rest = this refl
  chosen length false r o this rest = rest

  last_shows : (number length : ℕ) (rs : List Rec) (q e : ℕ) (o : Option Rec) → Walks b bytes q rs e → held_at b bytes length (place_shown o) ≡ held_shown o
      → held_at b bytes length (place_shown (last_from number length o rs)) ≡ held_shown (last_from number length o rs)
  last_shows number length [] q e o walk is = is
  last_shows number length (r ∷ rs) q e o walk is =
      last_shows number length rs (q + pages_of_head b.page r.head) e (if counts number length r then Some r else o) walk.1
      (chosen length (counts number length r) r o
      (λ count. ap (λ (n : ℕ). held_at b bytes length (place_at n r.head)) walk.0.place ∙ shows number length q r (counts_fits number length r count) walk.0) is)

pub places_show_last : PlacesShowLast
places_show_last b bytes number length rs e big walk = last_shows b bytes (omega arith) number length rs 2 e None walk refl

-- WITHIN
pub further : (p end later length : ℕ) (place : Place) → end ≤ later → IsWithin p end length place → IsWithin p later length place
further p end later length (PlaceContent at count) le within = (within.0, omega (arith, within.1))
further p end later length (PlaceInvalid count) le within = tt
further p end later length (PlaceErased count) le within = tt
further p end later length Unwritten le within = tt

pub kind_within : (p end length at count : ℕ) (k : RecordKind) → (k ≡ kind.Content → (2 ≤ at) × (at + record_pages_of length p ≤ end)) → IsWithin p end length (place_of_kind k at count)
kind_within p end length at count kind.Content content = content refl
kind_within p end length at count kind.Invalid content = tt
kind_within p end length at count kind.Erased content = tt

record_within : (p number length at : ℕ) (h : RecHead) → 2 ≤ at → fits number length h ≡ true → IsWithin p (at + pages_of_head p h) length (place_at at h)
record_within p number length at h low fit =
    kind_within p (at + pages_of_head p h) length at h.count h.kind
    (λ content. (low, (let same : record_pages_of h.length p ≡ record_pages_of length p = ap (λ (n : ℕ). record_pages_of n p) (fits_length number length h fit content) in omega (arith, same))))

pub pick_within : (p end length : ℕ) (c : Bool) (x y : Place) → (c ≡ true → IsWithin p end length x) → IsWithin p end length y → IsWithin p end length (if c then x else y)
pick_within p end length true x y this rest = this refl
pick_within p end length false x y this rest = rest

pick_shown : (p end length : ℕ) (c : Bool) (r : Rec) (o : Option Rec) → (c ≡ true → IsWithin p end length (place_at r.at r.head)) → IsWithin p end length (place_shown o) → IsWithin p end length (place_shown (if c then Some r else o))
pick_shown p end length true r o this rest = this refl
pick_shown p end length false r o this rest = rest

last_within : (b : Bank) (bytes : List ℕ) (number length : ℕ) (rs : List Rec) (q e : ℕ) (o : Option Rec) → 2 ≤ q → Walks b bytes q rs e → IsWithin b.page q length (place_shown o) → IsWithin b.page e length (place_shown (last_from number length o rs))
last_within b bytes number length [] q e o low walk within = subst (λ (n : ℕ). IsWithin b.page n length (place_shown o)) walk within
last_within b bytes number length (r ∷ rs) q e o low walk within =
    let next = q + pages_of_head b.page r.head in
    last_within b bytes number length rs next e (if counts number length r then Some r else o) (omega arith) walk.1
    (pick_shown b.page next length (counts number length r) r o
    (λ count. subst (λ (n : ℕ). IsWithin b.page next length (place_at n r.head)) (sym walk.0.place) (record_within b.page number length q r.head low (counts_fits number length r count)))
    (further b.page q next length (place_shown o) (omega arith) within))

-- PLACES OF A LOG
pub placed_loaded : (b : Bank) (bytes : List ℕ) (may : May) (numbers : List (DeviceNumber × ℕ)) (rs : List Rec) (e : ℕ) → 16 ≤ b.page → Walks b bytes 2 rs e → ((number length : ℕ) → IsAmong (may number length) (last_held number length rs)) → ArePlaced b bytes may e numbers (places_of numbers rs)
placed_loaded b bytes may [] rs e big walk give = tt
placed_loaded b bytes may (n ∷ ns) rs e big walk give = (
  last_within b bytes n.0.0 n.1 rs 2 e None (omega arith) walk tt,
  subst (IsAmong (may n.0.0 n.1)) (sym (places_show_last b bytes n.0.0 n.1 rs e big walk)) (give n.0.0 n.1),
  placed_loaded b bytes may ns rs e big walk give,
)

pub placed_wider : (b : Bank) (bytes : List ℕ) (may wide : May) (end : ℕ) (numbers : List (DeviceNumber × ℕ)) (places : List Place) → IsWider may wide → ArePlaced b bytes may end numbers places → ArePlaced b bytes wide end numbers places
placed_wider b bytes may wide end [] [] more all = tt
placed_wider b bytes may wide end [] (place ∷ places) more all = absurd all
placed_wider b bytes may wide end (n ∷ ns) [] more all = absurd all
placed_wider b bytes may wide end (n ∷ ns) (place ∷ places) more all = (all.0, more n.0.0 n.1 (held_at b bytes n.1 place) all.1, placed_wider b bytes may wide end ns places more all.2)

-- a content whose pages are as they were
module _ (b : Bank) (old new : List ℕ) (at end : ℕ) (one : 1 ≤ b.page) (same : (q : ℕ) → 2 ≤ q → q < end → page_of (moved b at) new q ≡ page_of b old q) where
  pages_same : (n q : ℕ) → 2 ≤ q → q + n ≤ end → pages_from (moved b at) new q n ≡ pages_from b old q n
  pages_same zero q low le = refl
  pages_same (suc n) q low le = λ i. same q low (omega arith) i ++ pages_same n (suc q) (omega arith) (omega arith) i

  stays_at : (length : ℕ) (place : Place) → IsWithin b.page end length place → held_at (moved b at) new length place ≡ held_at b old length place
  stays_at length (PlaceContent q count) within =
      let n = body_pages_of length b.page in
      ap (λ (xs : List ℕ). let h : Held = record { mark = Content xs; count = count } in h) (range_pages (moved b at) new (q + 2) length one
      ∙ ap (take length) (pages_same n (q + 2) (omega arith) (omega (arith, within.1)))
      ∙ sym (range_pages b old (q + 2) length one))
  stays_at length (PlaceInvalid count) within = refl
  stays_at length (PlaceErased count) within = refl
  stays_at length Unwritten within = refl

  pub placed_stay : (may : May) (later : ℕ) (numbers : List (DeviceNumber × ℕ)) (places : List Place) → end ≤ later → ArePlaced b old may end numbers places → ArePlaced (moved b at) new may later numbers places
  placed_stay may later [] [] le all = tt
  placed_stay may later [] (place ∷ places) le all = absurd all
  placed_stay may later (n ∷ ns) [] le all = absurd all
  placed_stay may later (n ∷ ns) (place ∷ places) le all = (
    further b.page end later n.1 place le all.0,
    subst (IsAmong (may n.0.0 n.1)) (sym (stays_at n.1 place all.0)) all.1,
    placed_stay may later ns places le all.2,
  )

-- ONE RECORD MORE
among_chosen : (b : Bank) (bytes : List ℕ) (length : ℕ) (c : Bool) (may : Option (List Held)) (m : Held) (x y : Place) → (c ≡ true → held_at b bytes length x ≡ m) → IsAmong may (held_at b bytes length y) → IsAmong (if c then Some (m ∷ []) else may) (held_at b bytes length (if c then x else y))
among_chosen b bytes length true may m x y this rest = subst (IsAmong (Some (m ∷ []))) (sym (this refl)) (let here : IsAmong (Some (m ∷ [])) m = search rules in here)
among_chosen b bytes length false may m x y this rest = rest

pub placed_note : (b : Bank) (bytes : List ℕ) (may : May) (end : ℕ) (r : Rec) (numbers : List (DeviceNumber × ℕ)) (places : List Place) → 1 ≤ b.page → 2 ≤ end → Stands b bytes end r → held_of r ≡ held_written r.head r.payload → ArePlaced b bytes may end numbers places
    → ArePlaced b bytes (settling may r.head r.payload) (end + pages_of_head b.page r.head) numbers (noted numbers places end r.head)
placed_note b bytes may end r [] [] one low stands is all = tt
placed_note b bytes may end r [] (place ∷ places) one low stands is all = absurd all
placed_note b bytes may end r (n ∷ ns) [] one low stands is all = absurd all
placed_note b bytes may end r (n ∷ ns) (place ∷ places) one low stands is all =
    let next = end + pages_of_head b.page r.head in
    let fit = fits n.0.0 n.1 r.head in (
      pick_within b.page next n.1 fit (place_at end r.head) place
          (λ fits. record_within b.page n.0.0 n.1 end r.head low fits)
          (further b.page end next n.1 place (omega arith) all.0),
      among_chosen b bytes n.1 fit (may n.0.0 n.1) (held_written r.head r.payload) (place_at end r.head) place
          (λ fits. shows b bytes one n.0.0 n.1 end r fits stands ∙ is) all.1,
      placed_note b bytes may end r ns places one low stands is all.2,
    )

-- EACH NUMBER
pub each_is_placed : EachIsPlaced
each_is_placed b bytes may end i [] places n all is = cc is
each_is_placed b bytes may end i (x ∷ xs) [] n all is = absurd all
each_is_placed b bytes may end zero (x ∷ xs) (place ∷ places) n all is =
    let e : x ≡ n = cc is in
    record { place = place; is = refl; within = subst (λ (y : DeviceNumber × ℕ). IsWithin b.page end y.1 place) e all.0; among = subst (λ (y : DeviceNumber × ℕ). IsAmong (may y.0.0 y.1) (held_at b bytes y.1 place)) e all.1 }
each_is_placed b bytes may end (suc i) (x ∷ xs) (place ∷ places) n all is =
    let rest = each_is_placed b bytes may end i xs places n all.2 is in
    record { place = rest.place; is = rest.is; within = rest.within; among = rest.among }

pub places_stay : PlacesStay
places_stay b old new at end length place big same within = stays_at b old new at end (omega arith) same length place within

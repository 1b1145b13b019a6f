-- What is told, against the banks that the bytes hold.
use Rattle.std.specs.Prelude.{◌==◌}
use Rattle.std.proofs.Common.{◌≡◌, inl, inr, ℕ, suc, ◌<◌, List, [], ◌∷◌, length, map, Option, Some, None, refl, sym, ap, ◌∙◌, subst, arith}
use Rattle.std.specs.List.{Contains}
use Rattle.std.proofs.lemmas.Bool.{cases_Bool, eqb-true, eq-eqb, ne_eqb, and_parts}
use Rattle.nv_base.specs.Lengths.{AreLengths}
use Rattle.nv_base.specs.declared.instance.DeviceNumber.{DeviceNumber}
use Rattle.nv_base.specs.declared.mark.Mark.{Mark}
use Rattle.memif.specs.Told.{Held, held_next, more_writes, never_written, Slot, Stand, Open, Ended, at_number, slot_at, no_slot, length_of}
use Rattle.memif.specs.Marks.{IsPossible, Keeps}
use Rattle.fee_image.specs.Bank.{Bank}
use Rattle.fee_image.specs.Image.{Layout, bank_in, found_held}
use Rattle.fee_image.specs.declared.place.Place.{Place}
use Rattle.fee_image.specs.declared.place.Place.TheVariants as place
use Rattle.fee_image.specs.May.{May, IsAmong}
use Rattle.fee_image.specs.Places.{count_at, held_at, ArePlaced}
use Rattle.fee_image.specs.LogLaws.{HasWork}
use Rattle.fee_image.specs.Log.{Tail, Open as OpenTail, Writes, Owes, Closed}
use Rattle.fee_format.specs.declared.rec_head.RecHead.{RecHead}
use Rattle.fee_image.specs.May.{beside, held_written}
use Rattle.fee_image.specs.Banks.{Old, NoBank, OldBank, Phase, Idle, Erasing, Copying, Sealing, Holds, HoldsOld}
use Rattle.fee_image.specs.Doubts.{shown_of, HasMarks, HasCopies}
use Rattle.fee_image.specs.BankLaws.{SealsWithin}
use Rattle.fee_image.proofs.Doubts.{banks_tighten, banks_widen, old_banks_show}
use Rattle.fee_image.proofs.Shows.{banks_show}
use Rattle.promise_device.specs.Image.{held_as}
use Rattle.fee_told.specs.Slots.{Memory, banks_with, writes_of, writes_in, IsWorkOf, HasJob, IsCopied, slot_of, left_by, left_on, job_leaves, held_all, settled_in, settled_at, slots_held, may_of, may_told}
use Rattle.fee_told.specs.SlotLaws.{HeldAnew, CopiesAreTold, ImagesFind, StepsKeep, GoesOn}
use Rattle.fee_told.proofs.Slots.{slot_is, slot_none, keeps_same, keeps_one, possible_from, among_from, leaves_fewer, shown_possible, job_doubted, has_cases}

-- IMAGES
found_possible : (l : Layout) (numbers : List (DeviceNumber × ℕ)) (slots : List Slot) (image : List ℕ) (n : ℕ) (o : Option ℕ) → length_of numbers n ≡ o → ((size : ℕ) → IsAmong (may_of numbers slots n size) (found_held l image n size)) → IsPossible (slot_at numbers slots n) (held_as l image n o)
found_possible l numbers slots image n None is shows = inl (ap (λ (s : Slot). s.settled) (sym (slot_none numbers slots n is)))
found_possible l numbers slots image n (Some size) is shows = possible_from numbers slots n size (found_held l image n size) is (shows size)

pub images_find : ImagesFind
images_find l numbers slots image s legal holds wider n =
    found_possible l numbers slots image n (length_of numbers n) refl (λ size. wider n size (found_held l image n size) (banks_show l numbers image s legal holds n size))

-- PLACES
module _ (l : Layout) (numbers : List (DeviceNumber × ℕ)) (bytes : List ℕ) where
  placed_long : (b : Bank) (may : May) (end : ℕ) (ns : List (DeviceNumber × ℕ)) (places : List Place) → ArePlaced b bytes may end ns places → length (held_all b bytes ns places) ≡ length ns
  placed_long b may end [] [] all = refl
  placed_long b may end [] (place ∷ places) all = absurd all
  placed_long b may end (n ∷ ns) [] all = absurd all
  placed_long b may end (n ∷ ns) (place ∷ places) all = ap suc (placed_long b may end ns places all.2)

  same_long : (ns : List (DeviceNumber × ℕ)) → length (map (λ (n : DeviceNumber × ℕ). never_written) ns) ≡ length ns
  same_long [] = refl
  same_long (n ∷ ns) = ap suc (same_long ns)

  pub settled_long : (t : ℕ) (o : Old) (may : May) → HoldsOld l numbers bytes t o may → length (settled_in l numbers bytes o) ≡ length numbers
  settled_long t NoBank may holds = same_long numbers
  settled_long t (OldBank k h log) may holds = placed_long (bank_in l h.format k) may log.end numbers log.places holds.1.holds.placed

  placed_among : (b : Bank) (may : May) (end : ℕ) (ns : List (DeviceNumber × ℕ)) (places : List Place) (n size : ℕ) → ArePlaced b bytes may end ns places → length_of ns n ≡ Some size → IsAmong (may n size) (at_number never_written ns (held_all b bytes ns places) n)
  placed_among b may end [] [] n size all is = cc
  placed_among b may end [] (place ∷ places) n size all is = absurd all
  placed_among b may end (x ∷ xs) [] n size all is = absurd all
  placed_among b may end (x ∷ xs) (place ∷ places) n size all is = elim (cases_Bool (x.0.0 == n)) [
    | inl e ↦
        let same : x.1 ≡ size = (let s : Some x.1 ≡ Some size = rw e at is in cc) in
        let name : x.0.0 ≡ n = eqb-true x.0.0 n e in
        rw e (subst (λ (j : ℕ). IsAmong (may j size) (held_at b bytes x.1 place)) name (subst (λ (j : ℕ). IsAmong (may x.0.0 j) (held_at b bytes x.1 place)) same all.1))
    | inr e ↦ rw e (placed_among b may end xs places n size all.2 (rw e at is))
  ]

  erased_at : (ns : List (DeviceNumber × ℕ)) (n : ℕ) → at_number never_written ns (map (λ (x : DeviceNumber × ℕ). never_written) ns) n ≡ never_written
  erased_at [] n = refl
  erased_at (x ∷ xs) n = elim (cases_Bool (x.0.0 == n)) [ inl e ↦ rw e refl | inr e ↦ rw e (erased_at xs n) ]

  -- what is settled may be found
  pub settled_among : (t : ℕ) (o : Old) (may : May) (n size : ℕ) → HoldsOld l numbers bytes t o may → length_of numbers n ≡ Some size → IsAmong (may n size) (settled_at l numbers bytes o n)
  settled_among t NoBank may n size give is = subst (IsAmong (may n size)) (sym (erased_at numbers n)) (give n size)
  settled_among t (OldBank k h log) may n size holds is = placed_among (bank_in l h.format k) may log.end numbers log.places n size holds.1.holds.placed is

  -- the slot of a number
  pub held_slot : (m : Memory) (may : May) (n size : ℕ) → HoldsOld l numbers bytes m.target m.old may → length_of numbers n ≡ Some size
      → slot_at numbers (slots_held l numbers bytes m) n ≡ slot_of (settled_at l numbers bytes m.old n) (shown_of l bytes m.old n size) (left_on (settled_at l numbers bytes m.old n) (job_leaves m.stand n))
  held_slot m may n size holds is = slot_is (shown_of l bytes m.old) (job_leaves m.stand) numbers (settled_in l numbers bytes m.old) n size (settled_long m.target m.old may holds) is

-- how often a number was written is told by its place
module _ (l : Layout) (numbers : List (DeviceNumber × ℕ)) (bytes : List ℕ) where
  none_count : (ns : List (DeviceNumber × ℕ)) (n : ℕ) → (at_number never_written ns (map (λ (x : DeviceNumber × ℕ). never_written) ns) n).count ≡ 0
  none_count ns n = ap (λ (h : Held). h.count) (erased_at l numbers bytes ns n)

  place_count : (b : Bank) (size : ℕ) (place : Place) → (held_at b bytes size place).count ≡ count_at place
  place_count b size (place.Content at count) = refl
  place_count b size (place.Invalid count) = refl
  place_count b size (place.Erased count) = refl
  place_count b size place.Unwritten = refl

  placed_count : (b : Bank) (ns : List (DeviceNumber × ℕ)) (places : List Place) (n : ℕ) → (at_number never_written ns (held_all b bytes ns places) n).count ≡ writes_of ns places n
  placed_count b [] places n = refl
  placed_count b (x ∷ xs) [] n = refl
  placed_count b (x ∷ xs) (place ∷ places) n = elim (cases_Bool (x.0.0 == n)) [
    | inl e ↦ rw e (place_count b x.1 place)
    | inr e ↦ rw e (placed_count b xs places n)
  ]

  pub settled_count : (o : Old) (n : ℕ) → (settled_at l numbers bytes o n).count ≡ writes_in numbers o n
  settled_count NoBank n = none_count numbers n
  settled_count (OldBank k h log) n = placed_count (bank_in l h.format k) numbers log.places n

-- ANEW
-- what is told of each number stands at its place
abbrev Agrees : Bank → List ℕ → (ℕ → Held) → List (DeviceNumber × ℕ) → List Place → Type 0
Agrees b bytes f (n ∷ ns) (place ∷ places) = (f n.0.0 ≡ held_at b bytes n.1 place) × Agrees b bytes f ns places
Agrees b bytes f _ _ = Unit {0}

agrees_with : (b : Bank) (bytes : List ℕ) (f g : ℕ → Held) (low : ℕ) (ns : List (DeviceNumber × ℕ)) (places : List Place) → AreLengths low ns → ((n : ℕ) → low < n → g n ≡ f n) → Agrees b bytes f ns places → Agrees b bytes g ns places
agrees_with b bytes f g low [] [] all same agrees = tt
agrees_with b bytes f g low [] (place ∷ places) all same agrees = tt
agrees_with b bytes f g low (n ∷ ns) [] all same agrees = tt
agrees_with b bytes f g low (n ∷ ns) (place ∷ places) all same (here, rest) = (same n.0.0 all.0 ∙ here, agrees_with b bytes f g n.0.0 ns places all.4 (λ j lt. same j (omega (arith, all.0))) rest)

agrees : (b : Bank) (bytes : List ℕ) (low : ℕ) (ns : List (DeviceNumber × ℕ)) (places : List Place) → AreLengths low ns → Agrees b bytes (at_number never_written ns (held_all b bytes ns places)) ns places
agrees b bytes low [] [] all = tt
agrees b bytes low [] (place ∷ places) all = tt
agrees b bytes low (n ∷ ns) [] all = tt
agrees b bytes low (n ∷ ns) (place ∷ places) all = (
  rw (eq-eqb n.0.0 n.0.0 refl) refl,
  agrees_with b bytes (at_number never_written ns (held_all b bytes ns places)) (at_number never_written (n ∷ ns) (held_all b bytes (n ∷ ns) (place ∷ places))) n.0.0 ns places all.4
      (λ j lt. rw (ne_eqb n.0.0 j (λ e. omega (arith, e))) refl)
      (agrees b bytes n.0.0 ns places all.4),
)

placed_as : (b : Bank) (bytes : List ℕ) (f : ℕ → Held) (may more : May) (end : ℕ) (ns : List (DeviceNumber × ℕ)) (places : List Place) → Agrees b bytes f ns places → ((n size : ℕ) → IsAmong (more n size) (f n)) → ArePlaced b bytes may end ns places → ArePlaced b bytes more end ns places
placed_as b bytes f may more end [] [] agrees give all = tt
placed_as b bytes f may more end [] (place ∷ places) agrees give all = absurd all
placed_as b bytes f may more end (n ∷ ns) [] agrees give all = absurd all
placed_as b bytes f may more end (n ∷ ns) (place ∷ places) (here, rest) give all = (all.0, subst (IsAmong (more n.0.0 n.1)) here (give n.0.0 n.1), placed_as b bytes f may more end ns places rest give all.2)

beside_in : (o : Option (List Held)) (s m : Held) → IsAmong o s → IsAmong (beside s o) m → IsAmong o m
beside_in None s m among is = tt
beside_in (Some marks) s m among is = elim (has_cases s m marks is) [ inl same ↦ subst (Contains marks) (sym same) among | inr more ↦ more ]

module _ (l : Layout) (numbers : List (DeviceNumber × ℕ)) (bytes : List ℕ) (m : Memory) (may copied : May) (all : AreLengths 0 numbers) (holds : Holds l numbers bytes (banks_with m may copied)) (job : HasJob numbers m.stand m.old) (seal : IsCopied l numbers bytes m.phase m.old copied) where
  abbrev told : May
  told = may_told l numbers bytes m

  abbrev slots : List Slot
  slots = slots_held l numbers bytes m

  -- a mark that the number's slot has is told
  by_slot : (n size : ℕ) (x : Held) → IsPossible (slot_of (settled_at l numbers bytes m.old n) (shown_of l bytes m.old n size) (left_on (settled_at l numbers bytes m.old n) (job_leaves m.stand n))) x → IsAmong (told n size) x
  by_slot n size x possible = among_from numbers slots n size x (λ is. subst (λ (s : Slot). IsPossible s x) (sym (held_slot l numbers bytes m may n size holds.old is)) possible)

  settled_told : (n size : ℕ) → IsAmong (told n size) (settled_at l numbers bytes m.old n)
  settled_told n size = by_slot n size (settled_at l numbers bytes m.old n) (inl refl)

  shown_told : (n size : ℕ) → IsAmong (told n size) (shown_of l bytes m.old n size)
  shown_told n size = by_slot n size (shown_of l bytes m.old n size) (shown_possible (settled_at l numbers bytes m.old n) (shown_of l bytes m.old n size) (left_on (settled_at l numbers bytes m.old n) (job_leaves m.stand n)))

  job_has : (places : List Place) (stand : Stand) (h : RecHead) (body : List ℕ) (done n : ℕ) (settled : Held) → IsWorkOf numbers places stand (Writes h body done) → h.number.0 ≡ n
      → settled.count ≡ writes_of numbers places n → Contains (left_on settled (job_leaves stand n)) (held_written h body)
  job_has places (Open j) h body done n settled (number, mark, count) same writes =
      rw (eq-eqb j.number n (number ∙ same)) (subst (λ (o : Option Mark). Contains (left_on settled (left_by o)) (held_written h body)) (sym mark) (
        0,
        one,
        pair_is (held_written h body).mark settled (held_written h body)
            refl (ap (more_writes 1) writes ∙ (ap (λ (k : ℕ). more_writes 1 (writes_of numbers places k)) (sym same) ∙ sym count)),
      ))
    where
      one : 0 < 1
      one = omega arith

      pair_is : (mark : Mark) (before now : Held) → now.mark ≡ mark → more_writes 1 before.count ≡ now.count → held_next mark before ≡ now
      pair_is mark before now p q = λ i. record { mark = sym p i; count = q i }
  job_has places (Ended result given) h body done n settled is same writes = absurd is

  work_told : (places : List Place) (tail : Tail) → IsWorkOf numbers places m.stand tail → ((n : ℕ) → (settled_at l numbers bytes m.old n).count ≡ writes_of numbers places n) → HasWork told tail
  work_told places OpenTail is writes = tt
  work_told places (Owes h) is writes = tt
  work_told places Closed is writes = tt
  work_told places (Writes h body done) is writes = λ number length fit.
      by_slot number length (held_written h body)
      (inr (job_doubted (settled_at l numbers bytes m.old number) (shown_of l bytes m.old number length) (left_on (settled_at l numbers bytes m.old number) (job_leaves m.stand number)) (held_written h body)
      (job_has places m.stand h body done number (settled_at l numbers bytes m.old number) is (eqb-true h.number.0 number (and_parts _ _ fit).0) (writes number))))

  marks_told : (o : Old) → ((n : ℕ) → (settled_at l numbers bytes m.old n).count ≡ writes_in numbers o n) → HasJob numbers m.stand o → HoldsOld l numbers bytes m.target o may → ((n size : ℕ) → IsAmong (told n size) (settled_at l numbers bytes o n)) → HasMarks l numbers bytes o told
  marks_told NoBank writes has held give = tt
  marks_told (OldBank k h log) writes has held give =
      let b = bank_in l h.format k in (
        placed_as b bytes (settled_at l numbers bytes (OldBank k h log)) may told log.end numbers log.places (agrees b bytes 0 numbers log.places all) give held.1.holds.placed,
        work_told log.places log.tail has writes,
      )

  copies_told : (phase : Phase) → IsCopied l numbers bytes phase m.old copied → HasCopies phase copied told
  copies_told Idle is = tt
  copies_told (Erasing n) is = tt
  copies_told (Copying log) is = tt
  copies_told (Sealing log) is = λ number length x among. among_from numbers slots number length x (λ has.
      possible_from numbers slots number length x has (subst (IsAmong (told number length)) (sym (is number length x has among)) (settled_told number length)))

  within_told : (phase : Phase) → IsCopied l numbers bytes phase m.old copied → SealsWithin phase copied told
  within_told Idle is = tt
  within_told (Erasing n) is = tt
  within_told (Copying log) is = tt
  within_told (Sealing log) is = copies_told (Sealing log) is

  pub anew : Holds l numbers bytes (banks_with m told copied)
  anew =
      let tight = banks_tighten l numbers bytes (banks_with m may copied) told holds (marks_told m.old (settled_count l numbers bytes m.old) job holds.old settled_told) (copies_told m.phase seal) in
      banks_widen l numbers bytes _ told copied tight (λ number length x is. beside_in (told number length) (shown_of l bytes m.old number length) x (shown_told number length) is) (λ number length x is. is) (within_told m.phase seal)

pub held_anew : HeldAnew
held_anew l numbers bytes m may copied all holds job seal = record { banks = anew l numbers bytes m may copied all holds job seal; job = job; seal = seal }

pub copies_are_told : CopiesAreTold
copies_are_told l numbers bytes m copied before is_held are number length x among = among_from numbers (slots_held l numbers bytes m) number length x (λ has.
    let is = are number length x has among in
    subst (λ (s : Slot). IsPossible s x) (sym (held_slot l numbers bytes m (may_told l numbers bytes m) number length is_held.banks.old has)) (inl is))

-- STEPS
module _ (l : Layout) (numbers : List (DeviceNumber × ℕ)) (old new : List ℕ) (m t : Memory) (copied : May) (holds : Holds l numbers new (banks_with t (may_told l numbers old m) copied)) (same : settled_in l numbers new t.old ≡ settled_in l numbers old m.old) (goes : GoesOn m.stand t.stand) where
  by_number : (n : ℕ) (o : Option ℕ) → length_of numbers n ≡ o → Keeps (slot_at numbers (slots_held l numbers old m) n) (slot_at numbers (slots_held l numbers new t) n)
  by_number n None is = rw (slot_none numbers (slots_held l numbers old m) n is, slot_none numbers (slots_held l numbers new t) n is) (keeps_same no_slot)
  by_number n (Some size) is =
      let long = settled_long l numbers new t.target t.old (may_told l numbers old m) holds.old in
      let marks = settled_in l numbers old m.old in
      let was = slot_is (shown_of l old m.old) (job_leaves m.stand) numbers marks n size (ap (length {A = Held}) (sym same) ∙ long) is in
      let now = held_slot l numbers new t (may_told l numbers old m) n size holds.old is in
      let mark : settled_at l numbers new t.old n ≡ settled_at l numbers old m.old n = ap (λ (ms : List Held). at_number never_written numbers ms n) same in
      let shown = possible_from numbers (slots_held l numbers old m) n size (shown_of l new t.old n size) is (old_banks_show l numbers new (banks_with t (may_told l numbers old m) copied) holds n size) in
      subst (λ (s : Slot). Keeps s (slot_at numbers (slots_held l numbers new t) n)) (sym was)
      (subst (Keeps (slot_of (settled_at l numbers old m.old n) (shown_of l old m.old n size) (left_on (settled_at l numbers old m.old n) (job_leaves m.stand n)))) (sym (now ∙ ap (λ (x : Held). slot_of x (shown_of l new t.old n size) (left_on x (job_leaves t.stand n))) mark))
      (keeps_one (settled_at l numbers old m.old n) (shown_of l old m.old n size) (shown_of l new t.old n size) (left_on (settled_at l numbers old m.old n) (job_leaves m.stand n)) (left_on (settled_at l numbers old m.old n) (job_leaves t.stand n))
      (subst (λ (s : Slot). IsPossible s (shown_of l new t.old n size)) was shown) (λ h has. leaves_fewer m.stand t.stand n (settled_at l numbers old m.old n) h goes has)))

pub steps_keep : StepsKeep
steps_keep l numbers old new m t copied holds same goes n = by_number l numbers old new m t copied holds same goes n (length_of numbers n) refl

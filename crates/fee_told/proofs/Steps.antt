-- What jobs, commits, seals and start-ups make of what is told.
use Rattle.std.specs.Prelude.{◌==◌, IsTrue}
use Rattle.std.specs.List.{Contains}
use Rattle.std.proofs.Common.{◌≡◌, inl, inr, ℕ, suc, Bool, true, false, List, [], ◌∷◌, length, map, Option, Some, None, refl, sym, ap, ◌∙◌, subst}
use Rattle.std.proofs.lemmas.Bool.{cases_Bool, eqb-true, eqb-false, eq-eqb}
use Rattle.nv_base.specs.declared.instance.DeviceNumber.{DeviceNumber}
use Rattle.nv_base.specs.declared.mark.Mark.{Mark}
use Rattle.memif.specs.Told.{Held, held_next, more_writes, never_written, Slot, Job, Stand, Open, Ended, is_open, at_number, slot_at, no_slot, length_of, IfElse}
use Rattle.memif.specs.Marks.{IsPossible, Keeps, Doubts, SettlesAs}
use Rattle.fee_format.specs.declared.rec_head.RecHead.{RecHead}
use Rattle.fee_image.specs.Found.{fits}
use Rattle.fee_image.specs.Image.{Layout, bank_in, found_held}
use Rattle.fee_image.specs.May.{May, IsAmong, settling, held_written}
use Rattle.fee_image.specs.Banks.{Old, NoBank, OldBank, Holds}
use Rattle.fee_image.specs.Doubts.{shown_of}
use Rattle.fee_image.specs.BankLaws.{found_alone}
use Rattle.fee_image.proofs.Doubts.{old_banks_show}
use Rattle.promise_device.specs.Image.{held_as}
use Rattle.fee_told.specs.Slots.{Memory, banks_with, writes_in, slot_of, left_by, left_on, job_leaves, slots_with, held_all, settled_in, settled_at, slots_held, slots_found, may_told, AreCopied}
use Rattle.fee_told.specs.SlotLaws.{IsHeld, StepsSettle, StepsSeal, SamePlaces, PlacesTell, JobsKeep, Opened, JobsOpen, IsStarted, StartsFind, UnstartedFind, UnstartedIsFound, GoesOn}
use Rattle.fee_told.proofs.Held.{held_slot, settled_among, settled_count, settled_long}
use Rattle.fee_told.proofs.Slots.{slot_is, slot_none, keeps_same, keeps_one, possible_from, leaves_fewer, shown_possible, job_doubted, doubt_cases, has_first, has_cases, has_none, held_same}

-- one mark alone
alone : (m x : Held) → IsAmong (Some (m ∷ [])) x → x ≡ m
alone m x is = elim (has_cases m x [] is) [ inl same ↦ same | inr none ↦ absurd (has_none x none) ]

-- no job is open
leaves_none : (stand : Stand) (n : ℕ) → is_open stand ≡ false → job_leaves stand n ≡ []
leaves_none (Open j) n shut = cc
leaves_none (Ended result given) n shut = refl

-- a slot that is settled and shows the same
clear_slot : (m shown : Held) (more : List Mark) → shown ≡ m → more ≡ [] → slot_of m shown (left_on m more) ≡ record { settled = m; doubts = [] }
clear_slot m shown more same none = rw (same, none, held_same m m refl) refl

keeps_slots : (s t x y : Slot) → s ≡ x → t ≡ y → Keeps x y → Keeps s t
keeps_slots s t x y p q keeps = subst (λ (z : Slot). Keeps z t) (sym p) (subst (Keeps x) (sym q) keeps)

-- a number whose settled mark alone may be found
alone_keeps : (settled settled' shown shown' : Held) (more more' : List Held) → settled' ≡ settled → shown' ≡ settled → ((h : Held) → Contains more' h → Contains more h) → Keeps (slot_of settled shown more) (slot_of settled' shown' more')
alone_keeps settled settled' shown shown' more more' same is fewer =
    subst (λ (m : Held). Keeps (slot_of settled shown more) (slot_of m shown' more')) (sym same)
    (keeps_one settled shown shown' more more' (inl is) fewer)

pair_is : (now before : Held) → now.count ≡ more_writes 1 before.count → now ≡ held_next now.mark before
pair_is now before p = λ i. record { mark = now.mark; count = p i }

-- A NUMBER'S SLOT
abbrev slot_in : Layout → List (DeviceNumber × ℕ) → List ℕ → Memory → ℕ → Slot
slot_in l numbers bytes m n = slot_at numbers (slots_held l numbers bytes m) n

slot_told : (l : Layout) (numbers : List (DeviceNumber × ℕ)) (bytes : List ℕ) (m : Memory) (copied : May) → IsHeld l numbers bytes m copied → (n size : ℕ) → length_of numbers n ≡ Some size
    → slot_in l numbers bytes m n ≡ slot_of (settled_at l numbers bytes m.old n) (shown_of l bytes m.old n size) (left_on (settled_at l numbers bytes m.old n) (job_leaves m.stand n))
slot_told l numbers bytes m copied is_held n size is = held_slot l numbers bytes m (may_told l numbers bytes m) n size is_held.banks.old is

none_keeps : (l : Layout) (numbers : List (DeviceNumber × ℕ)) (old new : List ℕ) (m t : Memory) (n : ℕ) → length_of numbers n ≡ None → Keeps (slot_in l numbers old m n) (slot_in l numbers new t n)
none_keeps l numbers old new m t n is = keeps_slots (slot_in l numbers old m n) (slot_in l numbers new t n) no_slot no_slot (slot_none numbers (slots_held l numbers old m) n is) (slot_none numbers (slots_held l numbers new t) n is) (keeps_same no_slot)

-- COMMITS
module _ (l : Layout) (numbers : List (DeviceNumber × ℕ)) (old new : List ℕ) (m t : Memory) (before copied : May) (is_held : IsHeld l numbers old m before) where
  abbrev was : ℕ → Slot
  was = slot_in l numbers old m

  abbrev now : ℕ → Slot
  now = slot_in l numbers new t

  module _ (may : May) (holds : Holds l numbers new (banks_with t may copied)) where
    now_slot : (n size : ℕ) → length_of numbers n ≡ Some size → now n ≡ slot_of (settled_at l numbers new t.old n) (shown_of l new t.old n size) (left_on (settled_at l numbers new t.old n) (job_leaves t.stand n))
    now_slot n size is = held_slot l numbers new t may n size holds.old is

    now_settled : (n size : ℕ) → length_of numbers n ≡ Some size → IsAmong (may n size) (settled_at l numbers new t.old n)
    now_settled n size is = settled_among l numbers new t.target t.old may n size holds.old is

    now_shown : (n size : ℕ) → IsAmong (may n size) (shown_of l new t.old n size)
    now_shown n size = old_banks_show l numbers new (banks_with t may copied) holds n size

    seal_keeps : AreCopied l numbers old m.old may → GoesOn m.stand t.stand → (n : ℕ) (o : Option ℕ) → length_of numbers n ≡ o → Keeps (was n) (now n)
    seal_keeps only goes n None is = none_keeps l numbers old new m t n is
    seal_keeps only goes n (Some size) is =
        let same = only n size _ is (now_settled n size is) in
        keeps_slots (was n) (now n) _ _ (slot_told l numbers old m before is_held n size is) (now_slot n size is)
        (alone_keeps (settled_at l numbers old m.old n) (settled_at l numbers new t.old n) (shown_of l old m.old n size) (shown_of l new t.old n size)
        (left_on (settled_at l numbers old m.old n) (job_leaves m.stand n)) (left_on (settled_at l numbers new t.old n) (job_leaves t.stand n))
        same (only n size _ is (now_shown n size))
        (λ h has. leaves_fewer m.stand t.stand n (settled_at l numbers old m.old n) h goes (subst (λ (x : Held). Contains (left_on x (job_leaves t.stand n)) h) same has)))

  module _ (h : RecHead) (body : List ℕ) (holds : Holds l numbers new (banks_with t (settling (may_told l numbers old m) h body) copied)) (shut : is_open t.stand ≡ false) where
    abbrev after : May
    after = settling (may_told l numbers old m) h body

    settles : (n size : ℕ) → length_of numbers n ≡ Some size → fits n size h ≡ true → held_written h body ≡ held_next (held_written h body).mark (settled_at l numbers old m.old n)
        → SettlesAs (held_written h body).mark (was n) (now n)
    settles n size is fit next =
        let marks : after n size ≡ Some (held_written h body ∷ []) = rw fit refl in
        let settled = alone (held_written h body) (settled_at l numbers new t.old n) (subst (λ (o : Option (List Held)). IsAmong o (settled_at l numbers new t.old n)) marks (now_settled after holds n size is)) in
        let shown = alone (held_written h body) (shown_of l new t.old n size) (subst (λ (o : Option (List Held)). IsAmong o (shown_of l new t.old n size)) marks (now_shown after holds n size)) in
        let clear : now n ≡ record { settled = held_written h body; doubts = [] } =
        now_slot after holds n size is
        ∙ ap (λ (x : Held). slot_of x (shown_of l new t.old n size) (left_on x (job_leaves t.stand n))) settled
        ∙ clear_slot (held_written h body) (shown_of l new t.old n size) (job_leaves t.stand n) shown (leaves_none t.stand n shut) in
        let before : (was n).settled ≡ settled_at l numbers old m.old n = ap (λ (x : Slot). x.settled) (slot_told l numbers old m before is_held n size is) in
        record {
          settled = ap (λ (x : Slot). x.settled) clear ∙ next ∙ ap (held_next (held_written h body).mark) (sym before);
          doubts = ap (λ (x : Slot). x.doubts) clear;
        }

    unfit : (n size : ℕ) → (h.number.0 == n) ≡ false → after n size ≡ may_told l numbers old m n size
    unfit n size other = rw other refl

    others_keep : (n : ℕ) (o : Option ℕ) → length_of numbers n ≡ o → (h.number.0 == n) ≡ false → settled_at l numbers new t.old n ≡ settled_at l numbers old m.old n → Keeps (was n) (now n)
    others_keep n None is other same = none_keeps l numbers old new m t n is
    others_keep n (Some size) is other same =
        let shown = possible_from numbers (slots_held l numbers old m) n size (shown_of l new t.old n size) is (subst (λ (o : Option (List Held)). IsAmong o (shown_of l new t.old n size)) (unfit n size other) (now_shown after holds n size)) in
        keeps_slots (was n) (now n) _ _ (slot_told l numbers old m before is_held n size is) (now_slot after holds n size is ∙ ap (λ (x : Held). slot_of x (shown_of l new t.old n size) (left_on x (job_leaves t.stand n))) same)
        (keeps_one (settled_at l numbers old m.old n) (shown_of l old m.old n size) (shown_of l new t.old n size) (left_on (settled_at l numbers old m.old n) (job_leaves m.stand n)) (left_on (settled_at l numbers old m.old n) (job_leaves t.stand n))
        (subst (λ (s : Slot). IsPossible s (shown_of l new t.old n size)) (slot_told l numbers old m before is_held n size is) shown) (λ x has. leaves_fewer m.stand t.stand n (settled_at l numbers old m.old n) x (inr shut) has))

    one_settles : (size : ℕ) → length_of numbers h.number.0 ≡ Some size → IsTrue (fits h.number.0 size h) → h.count ≡ more_writes 1 (writes_in numbers m.old h.number.0) → ((n : ℕ) → (n ≡ h.number.0 → ⊥) → settled_at l numbers new t.old n ≡ settled_at l numbers old m.old n)
        → (n : ℕ) (c : Bool) → (n == h.number.0) ≡ c → IfElse c (SettlesAs (held_written h body).mark (was n) (now n)) (Keeps (was n) (now n))
    one_settles size is fit count others n true c =
        let name = eqb-true n h.number.0 c in
        settles n size (ap (length_of numbers) name ∙ is) (subst (λ (j : ℕ). fits j size h ≡ true) (sym name) fit)
        (pair_is (held_written h body) (settled_at l numbers old m.old n)
        (count ∙ ap (λ (k : ℕ). more_writes 1 (writes_in numbers m.old k)) (sym name) ∙ ap (more_writes 1) (sym (settled_count l numbers old m.old n))))
    one_settles size is fit count others n false c =
        let differs = eqb-false n h.number.0 c in
        others_keep n (length_of numbers n) refl (elim (cases_Bool (h.number.0 == n)) [ inl e ↦ absurd (differs (sym (eqb-true h.number.0 n e))) | inr e ↦ e ]) (others n differs)

pub steps_settle : StepsSettle
steps_settle l numbers old new m t before copied h body size is_held holds shut is fit count others n = one_settles l numbers old new m t before copied is_held h body holds shut size is fit count others n (n == h.number.0) refl

pub steps_seal : StepsSeal
steps_seal l numbers old new m t before may copied is_held holds only goes n = seal_keeps l numbers old new m t before copied is_held may holds only goes n (length_of numbers n) refl

-- IN MEMORY ALONE
pub same_settled : (l : Layout) (numbers : List (DeviceNumber × ℕ)) (bytes : List ℕ) (old new : Old) → SamePlaces old new → settled_in l numbers bytes new ≡ settled_in l numbers bytes old
same_settled l numbers bytes NoBank NoBank same = refl
same_settled l numbers bytes NoBank (OldBank j i next) same = absurd same
same_settled l numbers bytes (OldBank k h log) NoBank same = absurd same
same_settled l numbers bytes (OldBank k h log) (OldBank j i next) (bank, head, places) = λ x. held_all (bank_in l (head x).format (bank x)) bytes numbers (places x)

same_shown : (l : Layout) (bytes : List ℕ) (old new : Old) (n size : ℕ) → SamePlaces old new → shown_of l bytes new n size ≡ shown_of l bytes old n size
same_shown l bytes NoBank NoBank n size same = refl
same_shown l bytes NoBank (OldBank j i next) n size same = absurd same
same_shown l bytes (OldBank k h log) NoBank n size same = absurd same
same_shown l bytes (OldBank k h log) (OldBank j i next) n size (bank, head, places) = λ x. shown_of l bytes (OldBank (bank x) (head x) log) n size

module _ (l : Layout) (numbers : List (DeviceNumber × ℕ)) (bytes : List ℕ) (m t : Memory) (copied : May) (is_held : IsHeld l numbers bytes m copied) (same : SamePlaces m.old t.old) where
  later_slots : slots_held l numbers bytes t ≡ slots_with (shown_of l bytes m.old) (job_leaves t.stand) numbers (settled_in l numbers bytes m.old)
  later_slots = λ i. slots_with (λ n size. same_shown l bytes m.old t.old n size same i) (job_leaves t.stand) numbers (same_settled l numbers bytes m.old t.old same i)

  later_slot : (n size : ℕ) → length_of numbers n ≡ Some size → slot_in l numbers bytes t n ≡ slot_of (settled_at l numbers bytes m.old n) (shown_of l bytes m.old n size) (left_on (settled_at l numbers bytes m.old n) (job_leaves t.stand n))
  later_slot n size is =
      ap (λ (s : List Slot). slot_at numbers s n) later_slots
      ∙ slot_is (shown_of l bytes m.old) (job_leaves t.stand) numbers (settled_in l numbers bytes m.old) n size (settled_long l numbers bytes m.target m.old (may_told l numbers bytes m) is_held.banks.old) is

  pub memory_keeps : ((n : ℕ) (x h : Held) → Contains (left_on x (job_leaves t.stand n)) h → Contains (left_on x (job_leaves m.stand n)) h) → (n : ℕ) (o : Option ℕ) → length_of numbers n ≡ o → Keeps (slot_in l numbers bytes m n) (slot_in l numbers bytes t n)
  memory_keeps fewer n None is = none_keeps l numbers bytes bytes m t n is
  memory_keeps fewer n (Some size) is =
      keeps_slots _ _ _ _ (slot_told l numbers bytes m copied is_held n size is) (later_slot n size is)
      (keeps_one (settled_at l numbers bytes m.old n) (shown_of l bytes m.old n size) (shown_of l bytes m.old n size) (left_on (settled_at l numbers bytes m.old n) (job_leaves m.stand n)) (left_on (settled_at l numbers bytes m.old n) (job_leaves t.stand n))
      (shown_possible (settled_at l numbers bytes m.old n) (shown_of l bytes m.old n size) (left_on (settled_at l numbers bytes m.old n) (job_leaves m.stand n))) (fewer n (settled_at l numbers bytes m.old n)))

  -- a job opens where none was
  module _ (j : Job) (shut : is_open m.stand ≡ false) (opens : t.stand ≡ Open j) where
    leaves_nothing : (n : ℕ) → job_leaves m.stand n ≡ []
    leaves_nothing n = leaves_none m.stand n shut

    other_keeps : (n : ℕ) (o : Option ℕ) → length_of numbers n ≡ o → job_leaves t.stand n ≡ [] → Keeps (slot_in l numbers bytes m n) (slot_in l numbers bytes t n)
    other_keeps n None is none = none_keeps l numbers bytes bytes m t n is
    other_keeps n (Some size) is none =
        keeps_slots _ _ _ _ (slot_told l numbers bytes m copied is_held n size is) (later_slot n size is)
        (keeps_one (settled_at l numbers bytes m.old n) (shown_of l bytes m.old n size) (shown_of l bytes m.old n size) (left_on (settled_at l numbers bytes m.old n) (job_leaves m.stand n)) (left_on (settled_at l numbers bytes m.old n) (job_leaves t.stand n))
        (shown_possible (settled_at l numbers bytes m.old n) (shown_of l bytes m.old n size) (left_on (settled_at l numbers bytes m.old n) (job_leaves m.stand n)))
        (λ h has. absurd (has_none h (subst (λ (ms : List Mark). Contains (left_on (settled_at l numbers bytes m.old n) ms) h) none has))))

    doubts_slots : (mark : Mark) (settled shown : Held) (more : List Mark) → more ≡ mark ∷ [] → Doubts mark (slot_of settled shown []) (slot_of settled shown (left_on settled more))
    doubts_slots mark settled shown more is = record {
      settled = refl;
      doubts = λ h has. elim (doubt_cases settled shown (left_on settled more) h has) [
        | inl (same, differs) ↦ elim (shown_possible settled shown []) [ inl equal ↦ absurd (differs equal) | inr old ↦ inl (subst (Contains (slot_of settled shown []).doubts) (sym same) old) ]
        | inr left ↦ elim (has_cases (held_next mark settled) h [] (subst (λ (ms : List Mark). Contains (left_on settled ms) h) is left)) [ inl same ↦ inr same | inr none ↦ absurd (has_none h none) ]
      ];
      taken = job_doubted settled shown (left_on settled more) (held_next mark settled) (subst (λ (ms : List Mark). Contains (left_on settled ms) (held_next mark settled)) (sym is) (has_first (held_next mark settled) []));
    }

    leaves_at : (n : ℕ) (o : Option Mark) → j.mark ≡ o → (j.number == n) ≡ true → job_leaves t.stand n ≡ left_by o
    leaves_at n o is here = ap (λ (s : Stand). job_leaves s n) opens ∙ rw (here, is) refl

    leaves_other : (n : ℕ) → (j.number == n) ≡ false → job_leaves t.stand n ≡ []
    leaves_other n other = ap (λ (s : Stand). job_leaves s n) opens ∙ rw other refl

    leaves_read : (n : ℕ) (c : Bool) → (j.number == n) ≡ c → j.mark ≡ None → job_leaves t.stand n ≡ []
    leaves_read n true c is = leaves_at n None is c
    leaves_read n false c is = leaves_other n c

    mark_opens : (mark : Mark) (size n : ℕ) (c : Bool) → j.mark ≡ Some mark → length_of numbers j.number ≡ Some size → (n == j.number) ≡ c → IfElse c (Doubts mark (slot_in l numbers bytes m n) (slot_in l numbers bytes t n)) (Keeps (slot_in l numbers bytes m n) (slot_in l numbers bytes t n))
    mark_opens mark size n true is has c =
        let name = eqb-true n j.number c in
        let size_is = ap (length_of numbers) name ∙ has in
        let was : slot_in l numbers bytes m n ≡ slot_of (settled_at l numbers bytes m.old n) (shown_of l bytes m.old n size) [] = slot_told l numbers bytes m copied is_held n size size_is ∙ ap (λ (ms : List Mark). slot_of (settled_at l numbers bytes m.old n) (shown_of l bytes m.old n size) (left_on (settled_at l numbers bytes m.old n) ms)) (leaves_nothing n) in
        subst (λ (s : Slot). Doubts mark s (slot_in l numbers bytes t n)) (sym was)
        (subst (Doubts mark (slot_of (settled_at l numbers bytes m.old n) (shown_of l bytes m.old n size) [])) (sym (later_slot n size size_is))
        (doubts_slots mark (settled_at l numbers bytes m.old n) (shown_of l bytes m.old n size) (job_leaves t.stand n) (leaves_at n (Some mark) is (eq-eqb j.number n (sym name)))))
    mark_opens mark size n false is has c =
        let differs = eqb-false n j.number c in
        other_keeps n (length_of numbers n) refl (leaves_other n (elim (cases_Bool (j.number == n)) [ inl e ↦ absurd (differs (sym (eqb-true j.number n e))) | inr e ↦ e ]))

    pub job_opens : (size n : ℕ) (o : Option Mark) → j.mark ≡ o → length_of numbers j.number ≡ Some size → Opened j n (slot_in l numbers bytes m n) (slot_in l numbers bytes t n) o
    job_opens size n None is has = other_keeps n (length_of numbers n) refl (leaves_read n (j.number == n) refl is)
    job_opens size n (Some mark) is has = mark_opens mark size n (n == j.number) is has refl

pub places_tell : PlacesTell
places_tell l numbers bytes m t same stand = λ i. slots_with (λ n size. same_shown l bytes m.old t.old n size same i) (job_leaves (stand i)) numbers (same_settled l numbers bytes m.old t.old same i)

pub jobs_keep : JobsKeep
jobs_keep l numbers bytes m t copied is_held same goes n = memory_keeps l numbers bytes m t copied is_held same (λ i x h has. leaves_fewer m.stand t.stand i x h goes has) n (length_of numbers n) refl

pub jobs_open : JobsOpen
jobs_open l numbers bytes m t copied j size is_held same shut opens has n = job_opens l numbers bytes m t copied is_held same j shut opens size n j.mark refl has

-- A START-UP
started_as : (s t : Slot) (m : Held) → t ≡ record { settled = m; doubts = [] } → IsPossible s m → IsStarted s t
started_as s t m is possible = record {
  comes_from = record {
    settled = subst (IsPossible s) (sym (ap (λ (x : Slot). x.settled) is)) possible;
    doubts = λ h has. absurd (has_none h (subst (λ (hs : List Held). Contains hs h) (ap (λ (x : Slot). x.doubts) is) has));
  };
  clear = ap (λ (x : Slot). x.doubts) is;
}

module _ (l : Layout) (numbers : List (DeviceNumber × ℕ)) (bytes : List ℕ) where
  at_start : (slots : List Slot) (t : Memory) (copied : May) → Holds l numbers bytes (banks_with t (found_alone l bytes) copied) → is_open t.stand ≡ false
      → (n : ℕ) (o : Option ℕ) → length_of numbers n ≡ o → IsPossible (slot_at numbers slots n) (held_as l bytes n o) → IsStarted (slot_at numbers slots n) (slot_at numbers (slots_held l numbers bytes t) n)
  at_start slots t copied holds shut n None is possible = started_as (slot_at numbers slots n) (slot_at numbers (slots_held l numbers bytes t) n) never_written (slot_none numbers (slots_held l numbers bytes t) n is) possible
  at_start slots t copied holds shut n (Some size) is possible =
      let found = found_held l bytes n size in
      let settled = alone found (settled_at l numbers bytes t.old n) (settled_among l numbers bytes t.target t.old (found_alone l bytes) n size holds.old is) in
      let shown = alone found (shown_of l bytes t.old n size) (old_banks_show l numbers bytes (banks_with t (found_alone l bytes) copied) holds n size) in
      started_as (slot_at numbers slots n) (slot_at numbers (slots_held l numbers bytes t) n) found
      (held_slot l numbers bytes t (found_alone l bytes) n size holds.old is
      ∙ ap (λ (x : Held). slot_of x (shown_of l bytes t.old n size) (left_on x (job_leaves t.stand n))) settled
      ∙ clear_slot found (shown_of l bytes t.old n size) (job_leaves t.stand n) shown (leaves_none t.stand n shut))
      possible

  found_long : (ns : List (DeviceNumber × ℕ)) → length (map (λ (n : DeviceNumber × ℕ). found_held l bytes n.0.0 n.1) ns) ≡ length ns
  found_long [] = refl
  found_long (n ∷ ns) = ap suc (found_long ns)

  found_at : (ns : List (DeviceNumber × ℕ)) (n size : ℕ) → length_of ns n ≡ Some size → at_number never_written ns (map (λ (x : DeviceNumber × ℕ). found_held l bytes x.0.0 x.1) ns) n ≡ found_held l bytes n size
  found_at [] n size is = cc
  found_at (x ∷ xs) n size is = elim (cases_Bool (x.0.0 == n)) [
    | inl e ↦
        let same : x.1 ≡ size = (let s : Some x.1 ≡ Some size = rw e at is in cc) in
        let name : x.0.0 ≡ n = eqb-true x.0.0 n e in
        rw e (λ i. found_held l bytes (name i) (same i))
    | inr e ↦ rw e (found_at xs n size (rw e at is))
  ]

  found_slot : (n size : ℕ) → length_of numbers n ≡ Some size → slot_at numbers (slots_found l numbers bytes) n ≡ record { settled = found_held l bytes n size; doubts = [] }
  found_slot n size is =
      slot_is (found_held l bytes) (λ n. []) numbers (map (λ (x : DeviceNumber × ℕ). found_held l bytes x.0.0 x.1) numbers) n size (found_long numbers) is
      ∙ ap (λ (x : Held). slot_of x (found_held l bytes n size) []) (found_at numbers n size is)
      ∙ clear_slot (found_held l bytes n size) (found_held l bytes n size) [] refl refl

  unstarted : (slots : List Slot) (n : ℕ) (o : Option ℕ) → length_of numbers n ≡ o → IsPossible (slot_at numbers slots n) (held_as l bytes n o) → IsStarted (slot_at numbers slots n) (slot_at numbers (slots_found l numbers bytes) n)
  unstarted slots n None is possible = started_as (slot_at numbers slots n) (slot_at numbers (slots_found l numbers bytes) n) never_written (slot_none numbers (slots_found l numbers bytes) n is) possible
  unstarted slots n (Some size) is possible = started_as (slot_at numbers slots n) (slot_at numbers (slots_found l numbers bytes) n) (found_held l bytes n size) (found_slot n size is) possible

  unstarted_found : (n : ℕ) (o : Option ℕ) → length_of numbers n ≡ o → IsPossible (slot_at numbers (slots_found l numbers bytes) n) (held_as l bytes n o)
  unstarted_found n None is = inl (ap (λ (s : Slot). s.settled) (sym (slot_none numbers (slots_found l numbers bytes) n is)))
  unstarted_found n (Some size) is = inl (ap (λ (s : Slot). s.settled) (sym (found_slot n size is)))

pub starts_find : StartsFind
starts_find l numbers bytes slots t copied possible holds shut n = at_start l numbers bytes slots t copied holds shut n (length_of numbers n) refl (possible n)

pub unstarted_find : UnstartedFind
unstarted_find l numbers bytes slots possible n = unstarted l numbers bytes slots n (length_of numbers n) refl (possible n)

pub unstarted_is_found : UnstartedIsFound
unstarted_is_found l numbers bytes n = unstarted_found l numbers bytes n (length_of numbers n) refl

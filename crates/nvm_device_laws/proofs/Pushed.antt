-- A call of the device, and an entry more.
use Rattle.std.specs.Prelude.{nat_le, ◌||◌}
use Rattle.std.specs.List.{Contains, list_any}
use Rattle.std.proofs.Common.{◌≡◌, ◌⊎◌, ℕ, ◌≤◌, ◌<◌, Bool, true, false, List, [], ◌∷◌, ◌++◌, Some, None, refl, sym, ap, ◌∙◌, subst, inl}
use Rattle.std.proofs.Common.{inr, arith}
use Rattle.std.proofs.lemmas.Bool.{cases_lt, lt-leb, eq-eqb}
use Rattle.std.proofs.lemmas.List.Elements.{Contains-push_cases, Contains-append_left}
use Rattle.std.proofs.lemmas.List.Folds.{list_any-append}
use Rattle.block_machine.specs.nv_base.Count.{last_count, next_count}
use Rattle.block_machine.specs.nv_base.Entry.{ops_of}
use Rattle.memif.specs.Told as device
use Rattle.memif.specs.Told.{DeviceTold, Held, Part, part_at, PartTold}
use Rattle.memif.specs.Clock.{Clock, Past, After, CutIn, ArePossible}
use Rattle.block_machine.specs.nv_base.Marks.{instance_of}
use Rattle.block_machine.specs.nv_base.declared.instance.DeviceNumber.{DeviceNumber}
use Rattle.block_machine.specs.block_config.Lengths.{lengths_of}
use Rattle.block_machine.specs.Words.{Instance, Mark, Entry, Ask, Pick, Wrote, Post, Off, Found, Configuration}
use Rattle.block_machine.specs.Steps.{after}
use Rattle.block_machine.specs.Legal.{IsAllowed, IsLegal}
use Rattle.block_machine.specs.History.{is_driver_until, up_to}
use Rattle.promise_blocks.specs.Counts.{KeepsCounts, counts_in, count_due, last_found}
use Rattle.promise_blocks.specs.Marks.{KeepsMarks, Lists, marks_in}
use Rattle.promise_blocks.specs.Payment.{IsPaid}
use Rattle.promise_blocks.specs.OverDevice.{KeepsOver, HasStarted, BeginsBefore, TellsAtMost, HasOffAt, is_off_at, is_of}
use Rattle.block_laws.proofs.HistoryLaws.{histories_stay_legal, late_entries_are_cut_off, up_to_is_a_beginning}
use Rattle.nvm_device_laws.specs.Pairing.{Allows, Pairs, IsFor}
use Rattle.nvm_device_laws.specs.Turn.{Keeps, IsBase, IsTimed}
use Rattle.nvm_device_laws.proofs.Pairings.{possible_stand, possible_count}
use Rattle.nvm_device_laws.proofs.Payments.{pays_on}
use Rattle.nvm_device_laws.proofs.Moments.{keeps_marks, keeps_up_to, counts_up_to}
use Rattle.nvm_device_laws.proofs.Writes.{last_found_within, found_up_to}

-- what a history keeps over a device, but for the end and the moments at which the power went off
pub record Most (c : Configuration) (cap : ℕ) (h : List Entry) (before : Part → PartTold) (now : DeviceTold) (clock : Clock) : Type 0 where
  pub cut : (k : ℕ) (held : ℕ → Held) → k < last_count → k < now.ops → clock.may_find (CutIn k) held
      → KeepsMarks c (up_to k h) (marks_in held)
  pub found : (marks : List (Instance × Mark)) (ops : ℕ) (held : ℕ → Held) → Contains h (Found marks ops)
      → ops < last_count → clock.may_find (After ops) held
      → Lists c marks (marks_in held)
  pub counts : (k ops : ℕ) (found held : ℕ → Held) → k < last_count → k < now.ops → clock.may_find (CutIn k) held
      → last_found (up_to k h) ≡ Some ops → clock.may_find (After ops) found → KeepsCounts c (up_to k h) (counts_in found) (counts_in held)
  pub legal : IsLegal c cap h
  pub paid : (p : Part) → IsPaid (is_of p now.fixed) c clock.worn (before p).faults (part_at p now).faults h
  pub begins : BeginsBefore h
  pub counted : TellsAtMost now.ops h

pub most_of : (c : Configuration) (cap : ℕ) (h : List Entry) (before : Part → PartTold) (now : DeviceTold) (clock : Clock)
    → KeepsOver c cap h before now clock → Most c cap h before now clock
most_of c cap h before now clock over =
    record {
      cut = over.cut;
      found = over.found;
      counts = over.counts;
      legal = over.legal;
      paid = over.paid;
      begins = over.begins;
      counted =
          over.counted;
    }

-- what would be found now is possible with what the device holds
abbrev pub FindsPossible : DeviceTold → Clock → Type 0
FindsPossible d clock = (held : ℕ → Held) → clock.may_find (After d.ops) held → ArePossible d d.slots held

-- A CALL
-- what each call of a device does, as far as a history looks
pub record Goes (old : DeviceTold) (clock : Clock) (new : DeviceTold) (clock_new : Clock) : Type 0 where
  pub fixed : new.fixed ≡ old.fixed
  pub ops : old.ops ≤ new.ops
  pub few : old.ops ≤ last_count → new.ops ≤ last_count
  pub faults : (p : Part) → (part_at p old).faults ≤ (part_at p new).faults
  pub past : Past old.ops clock clock_new
  pub cut : (k : ℕ) (held : ℕ → Held) → old.ops ≤ k → k < new.ops → clock_new.may_find (CutIn k) held
      → ArePossible old old.slots held
  pub finds : FindsPossible new clock_new

pub device_on : (c : Configuration) (old new : DeviceTold) → new.fixed ≡ old.fixed → IsFor c old → IsFor c new
device_on c old new fixed is = record {
  rules = is.rules;
  numbers = ap (λ (f : device.Fixed). f.numbers) fixed ∙ is.numbers;
  parts = subst (λ (f : device.Fixed). (x : DeviceNumber × ℕ) → Contains (lengths_of c) x
      → (device.figures_at f x.0.0).part ≡ device.part_of_block f (instance_of x.0).block) (sym fixed) is.parts;
}

tells_more : (n m : ℕ) (h : List Entry) → n ≤ m → TellsAtMost n h → TellsAtMost m h
tells_more n m h le tells e ops has is = omega (arith, le, tells e ops has is)

module _ (c : Configuration) (cap : ℕ) (h : List Entry) (before : Part → PartTold) (old : DeviceTold)
    (clock : Clock) (new : DeviceTold) (clock_new : Clock)
    (keeps : Keeps c cap h before old clock) (goes : Goes old clock new clock_new) where
  cut_called : HasStarted h ⊎ (new.ops ≡ old.ops) → (k : ℕ) (held : ℕ → Held) → k < last_count
      → k < new.ops → clock_new.may_find (CutIn k) held → KeepsMarks c (up_to k h) (marks_in held)
  cut_called started k held small within finds = elim (cases_lt k old.ops) [
    | inl past ↦ keeps.over.cut k held small past (goes.past.cut k held past finds)
    | inr now ↦ elim started [
      | inl has ↦
          keeps_up_to c cap h old.ops k held keeps.device.rules keeps.over.legal keeps.over.counted now
          (possible_stand c (after c h) (count_due h keeps.base) old held old.slots (goes.cut k held now within finds) (keeps.marks has))
      | inr same ↦ absurd (omega (arith, now, within, same))
    ]
  ]

  told_by : (k ops : ℕ) → last_found (up_to k h) ≡ Some ops → ops ≤ old.ops
  told_by k ops is =
      let beginning = up_to_is_a_beginning k h in
      last_found_within old.ops (up_to k h) ops
      (λ e n has told. keeps.over.counted e n (subst (λ (es : List Entry). Contains es e) (sym beginning.1) (Contains-append_left (up_to k h) beginning.0 e has)) told) is

  counts_called : HasStarted h ⊎ (new.ops ≡ old.ops) → (k ops : ℕ) (found held : ℕ → Held) → k < last_count
      → k < new.ops → clock_new.may_find (CutIn k) held → last_found (up_to k h) ≡ Some ops → clock_new.may_find (After ops) found
      → KeepsCounts c (up_to k h) (counts_in found) (counts_in held)
  counts_called started k ops found held small within finds last was = elim (cases_lt k old.ops) [
    | inl past ↦ keeps.over.counts k ops found held small past (goes.past.cut k held past finds) last (goes.past.after ops found (told_by k ops last) was)
    | inr now ↦ elim started [
      | inl has ↦
          let last_now : last_found h ≡ Some ops = sym (found_up_to None old.ops k h keeps.over.counted now) ∙ last in
          let few : ops < last_count = omega (arith, told_by k ops last, now, small) in
          counts_up_to c h old.ops k keeps.base found held keeps.over.counted now
          (keeps.based ops found last_now few (goes.past.after ops found (told_by k ops last) was))
          (possible_count c (after c h) (count_due h keeps.base) old held old.slots (goes.cut k held now within finds) (keeps.marks has))
      | inr same ↦ absurd (omega (arith, now, within, same))
    ]
  ]

  -- the counts that the last start-up found
  pub base_called : IsBase c h keeps.base clock_new
  base_called ops found is small was =
      keeps.based ops found is small (goes.past.after ops found (last_found_within old.ops h ops keeps.over.counted is) was)

  pub most_called : HasStarted h ⊎ (new.ops ≡ old.ops) → Most c cap h before new clock_new
  most_called started = record {
    cut = cut_called started;
    found = λ marks ops held has small finds.
        keeps.over.found marks ops held has small (goes.past.after ops held (keeps.over.counted (Found marks ops) ops has refl) finds);
    counts = counts_called started;
    legal = keeps.over.legal;
    paid = subst (λ (f : device.Fixed). (p : Part) → IsPaid (is_of p f) c clock_new.worn (before p).faults (part_at p new).faults h) (sym goes.fixed)
        (λ p. pays_on (is_of p old.fixed) c clock.worn clock_new.worn old.ops goes.past.worn (before p).faults
        (part_at p old).faults (part_at p new).faults h (goes.faults p) keeps.over.counted (keeps.over.paid p));
    begins = keeps.over.begins;
    counted = tells_more old.ops new.ops h goes.ops keeps.over.counted;
  }

-- AN ENTRY MORE
timed_ops : (d : DeviceTold) (e : Entry) (ops : ℕ) → IsTimed d e → ops_of e ≡ Some ops → ops ≡ device.ops_of d
timed_ops d (Ask caller r reply) ops timed is = cc
timed_ops d (Pick block kind t n) ops timed is = cc
timed_ops d (Wrote i mark n) ops timed is = cc
timed_ops d (Post block r given refused n) ops timed is = cc
timed_ops d (Off n) ops timed is = cc
timed_ops d (Found marks n) ops timed is = cc

late_at : (n m k : ℕ) → Some n ≡ Some m → k < m → nat_le n k ≡ false
late_at n m k is late = let same : n ≡ m = cc in lt-leb n k (omega (arith, same, late))

late_entry : (d : DeviceTold) (e : Entry) (k : ℕ) → IsTimed d e → k < device.ops_of d → is_driver_until k e ≡ false
late_entry d (Ask caller r reply) k timed late = refl
late_entry d (Pick block kind t n) k timed late = late_at n (device.ops_of d) k timed late
late_entry d (Wrote i mark n) k timed late = late_at n (device.ops_of d) k timed late
late_entry d (Post block r given refused n) k timed late = late_at n (device.ops_of d) k timed late
late_entry d (Off n) k timed late = late_at n (device.ops_of d) k timed late
late_entry d (Found marks n) k timed late = late_at n (device.ops_of d) k timed late

pub begins_push : (h : List Entry) (e : Entry) → HasStarted h → BeginsBefore h → BeginsBefore (h ++ e ∷ [])
begins_push [] e started begins = absurd started
begins_push (Found marks ops ∷ es) e started begins = begins
begins_push (Ask caller r reply ∷ es) e started begins = absurd begins
begins_push (Pick block kind t n ∷ es) e started begins = absurd begins
begins_push (Wrote i mark n ∷ es) e started begins = absurd begins
begins_push (Post block r given refused n ∷ es) e started begins = absurd begins
begins_push (Off n ∷ es) e started begins = absurd begins

pub started_push : (h : List Entry) (e : Entry) → HasStarted (h ++ e ∷ [])
started_push [] e = tt
started_push (x ∷ es) e = tt

pub begins_with : (h : List Entry) (marks : List (Instance × Mark)) (ops : ℕ) → HasStarted h ⊎ (ops ≡ 0)
    → BeginsBefore h → BeginsBefore (h ++ Found marks ops ∷ [])
begins_with h marks ops (inl started) begins = begins_push h (Found marks ops) started begins
begins_with [] marks ops (inr none) begins = none
begins_with (x ∷ es) marks ops (inr none) begins = begins_push (x ∷ es) (Found marks ops) tt begins

module _ (c : Configuration) (cap : ℕ) (h : List Entry) (before : Part → PartTold) (d : DeviceTold)
    (clock : Clock) (e : Entry)
    (is : IsFor c d) (most : Most c cap h before d clock) (timed : IsTimed d e) (allowed : IsAllowed c cap (after c h) e) where
  abbrev pub NewFound : Type 0
  NewFound = (marks : List (Instance × Mark)) (ops : ℕ) (held : ℕ → Held) → e ≡ Found marks ops → ops < last_count
      → clock.may_find (After ops) held → Lists c marks (marks_in held)

  pub most_pushed : ((p : Part) → IsPaid (is_of p d.fixed) c clock.worn (before p).faults (part_at p d).faults (h ++ e ∷ [])) → BeginsBefore (h ++ e ∷ [])
      → NewFound → Most c cap (h ++ e ∷ []) before d clock
  most_pushed paid begins news =
      record {
        cut = λ k held small within finds.
            let cut_off : up_to k (h ++ e ∷ []) ≡ up_to k h = late_entries_are_cut_off k h e
            (late_entry d e k timed within) in
            subst (λ (es : List Entry). KeepsMarks c es (marks_in held)) (sym cut_off) (most.cut k held small within finds);
        counts = λ k ops found held small within finds last was.
            let cut_off : up_to k (h ++ e ∷ []) ≡ up_to k h = late_entries_are_cut_off k h e
            (late_entry d e k timed within) in
            subst (λ (es : List Entry). last_found es ≡ Some ops → KeepsCounts c es (counts_in found) (counts_in held)) (sym cut_off)
            (λ here. most.counts k ops found held small within finds here was) last;
        found = λ marks ops held has small finds. elim (Contains-push_cases h e (Found marks ops) has) [
          | inl before_it ↦ most.found marks ops held before_it small finds
          | inr new ↦ news marks ops held new small finds
        ];
        legal = histories_stay_legal c cap h e most.legal allowed;
        paid = paid;
        begins = begins;
        counted = λ x ops has tells. elim (Contains-push_cases h e x has) [
          | inl before_it ↦ most.counted x ops before_it tells
          | inr new ↦ let same = timed_ops d e ops timed (ap ops_of new ∙ tells) in omega (arith, same)
        ];
      }

-- THE END
pub over_of : (c : Configuration) (cap : ℕ) (h : List Entry) (before : Part → PartTold) (d : DeviceTold) (clock : Clock)
    → IsFor c d → Most c cap h before d clock
    → (due : ℕ → ℕ) → (HasStarted h → Pairs Allows c (after c h) due d.fixed.numbers d.slots)
    → ((held : ℕ → Held) → clock.may_find (After d.ops) held → ArePossible d d.slots held)
    → ((k : ℕ) → clock.off_in k → HasOffAt h (next_count k)) → KeepsOver c cap h before d clock
over_of c cap h before d clock is most due marks finds off = record {
  cut = most.cut;
  found = most.found;
  counts = most.counts;
  at_end = λ held started small now.
      keeps_marks c cap h held is.rules most.legal
      (possible_stand c (after c h) due d held d.slots (finds held now) (marks started));
  legal = most.legal;
  paid = most.paid;
  begins = most.begins;
  counted = most.counted;
  off = off;
}

or_left : (a b : Bool) → a ≡ true → (a || b) ≡ true
or_left true b is = refl
or_left false b is = cc

or_right : (a b : Bool) → b ≡ true → (a || b) ≡ true
or_right true b is = refl
or_right false b is = is

pub off_before : (h : List Entry) (e : Entry) (n : ℕ) → HasOffAt h n → HasOffAt (h ++ e ∷ []) n
off_before h e n is = list_any-append (is_off_at n) h (e ∷ []) ∙ or_left (list_any (is_off_at n) h) (list_any (is_off_at n) (e ∷ [])) is

pub off_now : (h : List Entry) (ops n : ℕ) → ops ≡ n → HasOffAt (h ++ Off ops ∷ []) n
off_now h ops n same = list_any-append (is_off_at n) h (Off ops ∷ [])
    ∙ or_right (list_any (is_off_at n) h) (list_any (is_off_at n) (Off ops ∷ [])) (rw (eq-eqb ops n same) refl)

-- What the clock of a device tells_held, over each turn.
use Rattle.std.specs.Prelude.{slice_get, unwrap_or, IsTrue, IfSome, is_some, option_map, min, ◌↔◌, ◌==◌, ◌&&◌, ◌||◌}
use Rattle.std.specs.Option.{option_map_or}
use Rattle.std.proofs.Common.{◌≡◌, ◌⊎◌, inl, inr, ℕ, zero, suc, ◌<◌, ◌≤◌, ◌+◌, Bool, true, false, List, [], ◌∷◌, ◌++◌, length, Option, Some, None, refl, sym, ap, ◌∙◌, subst, arith, length-append, take}
use Rattle.std.proofs.lemmas.List.{take-append-le, take_all}
use Rattle.std.proofs.lemmas.Bool.{cases_lt, and_from, and_parts, or_cases, false≢true}
use Rattle.std.proofs.lemmas.Bool.Decides.{nat_tests}
use Rattle.nv_base.specs.Count.{last_count, Rose}
use Rattle.memif.specs.Told.{Held, Slot, slot_at, is_urgent}
use Rattle.memif.specs.Marks.{IsPossible}
use Rattle.memif.specs.Clock.{Trait, TakesKept, When, After, CutIn, GoesOff, ArePossible}
use Rattle.fls_model.specs.declared.flash.FlashAnswer.{FlashAnswer}
use Rattle.fls_model.specs.Op.{Op, MayLeave}
use Rattle.fls_model.specs.Step.{IsChanged}
use Rattle.fls_model.specs.Told.{Told, ToldBytes, Change, IfBothTold, bytes_now}
use Rattle.promise_device.specs.Bridge.{may_be_closed, IsSuch}
use Rattle.promise_device.specs.FlashRun.{TellsBytes, HasFailed, bytes_after}
use Rattle.promise_device.specs.Reading.{Reading}
use Rattle.fls_told.specs.Device.{FlashDevice, flash_run, is_told_sound, tells_held, told_first, tells_now, slot_with, slots_now, flash_told}
use Rattle.fls_told.specs.Clock.{IsMapOf, TellsAfter, FindsAfter, FindsInCut, IsWornFor, HasFree, FreeNow, may_find_of, off_in_of, MakesNone, ClocksStay, ClocksPass, WornNow, change_of, Makes, turn_of, ImageIsPossible, CutsArePossible, ToldAlike, CountsFailure, TakesKeptPages, ClocksTick, ClocksFindNow, TellsFirst}

-- LISTS
get_front : {X : Type 0} (xs : List X) (c : X) (k : ℕ) → k < length xs → slice_get (xs ++ c ∷ []) k ≡ slice_get xs k
get_front [] c k lt = absurd (omega arith)
get_front (y ∷ xs) c zero lt = refl
get_front (y ∷ xs) c (suc k) lt = get_front xs c k (omega arith)

get_last : {X : Type 0} (xs : List X) (c : X) → slice_get (xs ++ c ∷ []) (length xs) ≡ Some c
get_last [] c = refl
get_last (y ∷ xs) c = get_last xs c

get_end : {X : Type 0} (xs : List X) → slice_get xs (length xs) ≡ None
get_end [] = refl
get_end (y ∷ xs) = get_end xs

pub get_below : {X : Type 0} (xs : List X) (k : ℕ) (x : X) → slice_get xs k ≡ Some x → k < length xs
get_below [] k x is = cc
get_below (y ∷ xs) zero x is = omega arith
get_below (y ∷ xs) (suc k) x is = let lt : k < length xs = get_below xs k x is in omega arith

none_below : {X : Type 0} (xs : List X) (k : ℕ) → k < length xs → slice_get xs k ≡ None → ⊥
none_below [] k lt is = absurd (omega arith)
none_below (y ∷ xs) zero lt is = cc
none_below (y ∷ xs) (suc k) lt is = none_below xs k (omega arith) is

-- BYTES THAT ARE TOLD
pub record IsTold (o : Option (List ℕ)) : Type 0 where
  pub bytes : List ℕ
  pub is : o ≡ Some bytes

abbrev pub now_of : ToldBytes → List ℕ
now_of b = b.now

alike_told : (first now : Option ToldBytes) → IfBothTold first now (λ a b. Unit {0}) → IsTrue (is_some (option_map now_of first)) → IsTold (option_map now_of now)
alike_told (Some a) (Some b) alike told = record { bytes = b.now; is = refl }
alike_told (Some a) None alike told = absurd alike
alike_told None (Some b) alike told = absurd alike
alike_told None None alike told = absurd (false≢true told)

sound_first : (r : Reading) (o : Option (List ℕ)) → IsTrue (is_told_sound r o) → IsTrue (is_some o)
sound_first r (Some image) told = refl
sound_first r None told = absurd (false≢true told)

first_told : (d : FlashDevice) → ToldAlike d → IsTrue (told_first d) → IsTold (bytes_now d.flash)
first_told d alike told = alike_told d.entry.bytes d.flash.bytes alike told

pub held_told : (d : FlashDevice) → ToldAlike d → IsTrue (tells_held d) → IsTold (bytes_now d.flash)
held_told d alike told = first_told d alike (sound_first d.reading (bytes_now d.entry) told)

-- where it tells what its numbers hold
eq_of : (m n : ℕ) → (m == n) ≡ true → m ≡ n
eq_of m n is = grind (arith, nat_tests)

or_last : (a b : Bool) → b ≡ true → (a || b) ≡ true
or_last true b is = refl
or_last false b is = is

pub held_now : (d : FlashDevice) → IsTrue (tells_held d) → IsTrue (tells_now d)
held_now d told = rw told refl

pub first_now : (d : FlashDevice) → IsTrue (told_first d) → length d.operations ≡ 0 → IsTrue (tells_now d)
first_now d told none = or_last (tells_held d) (told_first d && (length d.operations == 0)) (and_from (told_first d) (length d.operations == 0) told (ap (λ (n : ℕ). n == 0) none))

now_cases : (d : FlashDevice) → IsTrue (tells_now d) → IsTrue (tells_held d) ⊎ (IsTrue (told_first d) × (length d.operations ≡ 0))
now_cases d told = elim (or_cases (tells_held d) (told_first d && (length d.operations == 0)) told) [
  | inl held ↦ inl held
  | inr both ↦ inr (let parts = and_parts (told_first d) (length d.operations == 0) both in (parts.0, eq_of (length d.operations) 0 parts.1))
]

-- behind an operation only from a sound image on
pub now_behind : (d : FlashDevice) → 0 < length d.operations → IsTrue (tells_now d) → IsTrue (tells_held d)
now_behind d some told = elim (now_cases d told) [ inl held ↦ held | inr none ↦ absurd (let n = none.1 in omega (arith, n)) ]

pub told_now : (d : FlashDevice) → ToldAlike d → IsTrue (tells_now d) → IsTold (bytes_now d.flash)
told_now d alike told = elim (now_cases d told) [ inl held ↦ held_told d alike held | inr none ↦ first_told d alike none.0 ]

after_first : (d : FlashDevice) (k : ℕ) → TellsAfter d k → IsTrue (told_first d)
after_first d k (inl held) = sound_first d.reading (bytes_now d.entry) held
after_first d k (inr first) = first.1

after_now : (d : FlashDevice) (k : ℕ) → k ≡ length d.operations → TellsAfter d k → IsTrue (tells_now d)
after_now d k at (inl held) = held_now d held
after_now d k at (inr first) = first_now d first.1 (sym at ∙ first.0)

pub if_some : (o : Option (List ℕ)) (P : List ℕ → Type 0) (bytes : List ℕ) → o ≡ Some bytes → IfSome o P → P bytes
if_some o P bytes is holds = subst (λ (x : Option (List ℕ)). IfSome x P) is holds

pub some_if : (o : Option (List ℕ)) (P : List ℕ → Type 0) → ((bytes : List ℕ) → o ≡ Some bytes → P bytes) → IfSome o P
some_if None P holds = tt
some_if (Some bytes) P holds = holds bytes refl

-- the slots are those of the bytes that are told
pub slots_are : (d : FlashDevice) (bytes : List ℕ) → IsTrue (tells_now d) → bytes_now d.flash ≡ Some bytes → slots_now d ≡ Some (d.slots bytes)
slots_are d bytes told is = rw told (ap (option_map d.slots) is)

pub tells_first : TellsFirst
tells_first d alike told none =
    let now = first_now d told (omega (arith, none)) in
    let b = told_now d alike now in
    ap (λ (o : Option (List Slot)). is_some o) (slots_are d b.bytes now b.is)

-- where nothing is told anything is possible
possible_by : (d : FlashDevice) (o : Option (List Slot)) (m : ℕ → Held) → ((slots : List Slot) → o ≡ Some slots → (n : ℕ) → IsPossible (slot_at d.fixed.numbers slots n) (m n)) → ArePossible (flash_told d) o m
possible_by d None m holds = tt
possible_by d (Some slots) m holds = λ n. holds slots refl n

pub some_is : {A : Type 0} (x y : A) → Some x ≡ Some y → x ≡ y
some_is x y e = cc e

pub possible_in : (d : FlashDevice) (bytes image : List ℕ) (m : ℕ → Held) → IsTrue (tells_now d) → bytes_now d.flash ≡ Some bytes → ImageIsPossible d bytes image → IsMapOf d image m → ArePossible (flash_told d) (slots_now d) m
possible_in d bytes image m told is possible finds = possible_by d (slots_now d) m (λ slots are n.
    subst (λ (s : List Slot). IsPossible (slot_at d.fixed.numbers s n) (m n)) (some_is (d.slots bytes) slots (sym (slots_are d bytes told is) ∙ are))
    (subst (λ (h : Held). IsPossible (slot_with d bytes n) h) (sym (finds n)) (possible n)))

-- NOW
bytes_at_end : (d : FlashDevice) → bytes_after (flash_run d) (length d.operations) ≡ bytes_now d.flash
bytes_at_end d = ap (λ (o : Option Change). option_map_or (λ (x : Change). Some x.before) o (bytes_now d.flash)) (get_end d.operations)

pub clocks_find_now : ClocksFindNow
clocks_find_now d holds m finds =
    let f : FindsAfter d (min (length d.operations) last_count) m = finds in
    let at : min (length d.operations) last_count ≡ length d.operations = omega (arith, f.small) in
    let is : bytes_now d.flash ≡ Some f.image = sym (bytes_at_end d) ∙ ap (bytes_after (flash_run d)) (sym at) ∙ f.is in
    let told = after_now d (min (length d.operations) last_count) at f.told in
    possible_in d f.image f.image m told is (if_some (bytes_now d.flash) (λ bytes. ImageIsPossible d bytes bytes) f.image is (holds told)) f.finds

-- WITHOUT AN OPERATION
pub tells_of : (d t : FlashDevice) → t.reading ≡ d.reading → t.entry ≡ d.entry → tells_held t ≡ tells_held d
tells_of d t reading entry = λ i. is_told_sound (reading i) (bytes_now (entry i))

first_of : (d t : FlashDevice) → t.entry ≡ d.entry → told_first t ≡ told_first d
first_of d t entry = ap (λ (e : Told). is_some (bytes_now e)) entry

after_of : (d t : FlashDevice) (k : ℕ) → t.reading ≡ d.reading → t.entry ≡ d.entry → TellsAfter t k → TellsAfter d k
after_of d t k reading entry (inl held) = inl (sym (tells_of d t reading entry) ∙ held)
after_of d t k reading entry (inr first) = inr (first.0, sym (first_of d t entry) ∙ first.1)

-- where it tells behind a call it did before
pub now_before : (d t : FlashDevice) → t.reading ≡ d.reading → t.entry ≡ d.entry → length d.operations ≤ length t.operations → IsTrue (tells_now t) → IsTrue (tells_now d)
now_before d t reading entry later told = elim (now_cases t told) [
  | inl held ↦ held_now d (sym (tells_of d t reading entry) ∙ held)
  | inr none ↦ first_now d (sym (first_of d t entry) ∙ none.0) (let n = none.1 in omega (arith, later, n))
]

map_of : (d t : FlashDevice) (image : List ℕ) (m : ℕ → Held) → t.reading ≡ d.reading → IsMapOf t image m → IsMapOf d image m
map_of d t image m reading finds n = finds n ∙ (λ i. (reading i).held image n)

module _ (d t : FlashDevice) (none : MakesNone d t) where
  bytes_same : (k : ℕ) → bytes_after (flash_run t) k ≡ bytes_after (flash_run d) k
  bytes_same k = λ i. option_map_or (λ (x : Change). Some x.before) (slice_get (none.operations i) k) (none.bytes i)

  find_back : (w : When) (m : ℕ → Held) → may_find_of t w m → may_find_of d w m
  find_back (After k) m f = record {
    told = after_of d t k none.reading none.entry f.told;
    made = subst (λ (l : List Change). k ≤ length l) none.operations f.made;
    small = f.small;
    image = f.image;
    is = sym (bytes_same k) ∙ f.is;
    finds = map_of d t f.image m none.reading f.finds;
  }
  find_back (CutIn k) m f = record {
    told = sym (tells_of d t none.reading none.entry) ∙ f.told;
    small = f.small;
    image = f.image;
    leaves = (f.leaves.0, ap (λ (l : List Change). slice_get l k) (sym none.operations) ∙ f.leaves.1, f.leaves.2);
    finds = map_of d t f.image m none.reading f.finds;
  }

  off_back : (k : ℕ) → off_in_of t k → off_in_of d k
  off_back k (inl big) = inl big
  off_back k (inr (x, at, off)) = inr (x, ap (λ (l : List Change). slice_get l k) (sym none.operations) ∙ at, off)

  failed_back : (k : ℕ) → HasFailed (flash_run t) k → HasFailed (flash_run d) k
  failed_back k (x, at, failed) = (x, ap (λ (l : List Change). slice_get l k) (sym none.operations) ∙ at, failed)

  tells_back : TellsBytes (flash_run d) → TellsBytes (flash_run t)
  tells_back b = record { first = b.first; entry = ap bytes_now none.entry ∙ b.entry; last = b.last; exit = none.bytes ∙ b.exit }

  room_back : (k n : ℕ) (urgent : Bool) → IfSome (bytes_after (flash_run t) k) (λ image. IsTrue (t.reading.is_full n urgent image))
      → IfSome (bytes_after (flash_run t) k) (λ image. IsTrue (d.reading.is_full n urgent image))
  room_back k n urgent room = subst (λ (reading : Reading). IfSome (bytes_after (flash_run t) k) (λ image. IsTrue (reading.is_full n urgent image))) none.reading room

  worn_back : (k n : ℕ) (urgent : Bool) → t.worn n ≡ d.worn n → IsWornFor t k n urgent → IsWornFor d k n urgent
  worn_back k n urgent same w = record {
    since = w.since;
    is = sym same ∙ w.is;
    from = w.from;
    full = λ told small. elim (w.full (tells_back told) small) [
      | inl room ↦ inl (subst (λ (o : Option (List ℕ)). IfSome o (λ image. IsTrue (d.reading.is_full n urgent image))) (bytes_same k) (room_back k n urgent room))
      | inr failed ↦ inr (subst (λ (l : List Change). IsTrue (may_be_closed (take k l))) none.operations failed)
    ];
  }

  free_back : (k pages : ℕ) → HasFree t k pages → HasFree d k pages
  free_back k pages f = record {
    told = sym (tells_of d t none.reading none.entry) ∙ f.told;
    made = subst (λ (l : List Change). k ≤ length l) none.operations f.made;
    small = f.small;
    image = f.image;
    is = sym (bytes_same k) ∙ f.is;
    few = subst (λ (reading : Reading). pages ≤ reading.free (take k d.operations) f.image) none.reading
        (subst (λ (l : List Change). pages ≤ t.reading.free (take k l) f.image) none.operations f.few);
  }

  such_back : (trait : Trait) (k : ℕ) → IsSuch t.reading (flash_run t) trait k → IsSuch d.reading (flash_run d) trait k
  such_back trait k (x, at, is) = (x, subst (λ (l : List Change). slice_get l k ≡ Some x) none.operations at, subst (λ (reading : Reading). IsTrue (reading.is_such trait x)) none.reading is)

back_again : (d t : FlashDevice) → MakesNone d t → MakesNone t d
back_again d t none = record { reading = sym none.reading; entry = sym none.entry; operations = sym none.operations; bytes = sym none.bytes }

pub clocks_stay : ClocksStay
clocks_stay d t none same =
    let again = back_again d t none in
    record {
      may_find = λ w m. (find_back d t none w m, find_back t d again w m);
      off_in = λ k. (off_back d t none k, off_back t d again k);
      failed = λ k. (failed_back d t none k, failed_back t d again k);
      worn = λ k n urgent. (worn_back d t none k n urgent (same n), worn_back t d again k n urgent (sym (same n)));
      of_second = λ k. (λ is. is, λ is. is);
      spare = λ k pages. (free_back d t none k pages, free_back t d again k pages);
      was = λ trait k. (such_back d t none trait k, such_back t d again trait k);
    }

-- an operation that it says the power went off in was made
off_made : (d : FlashDevice) (k : ℕ) → off_in_of d k → (k < min (length d.operations) last_count) ⊎ (last_count ≤ k)
off_made d k (inl big) = inr big
off_made d k (inr (x, at, off)) = elim (cases_lt k last_count) [
  | inr big ↦ inr big
  | inl small ↦ inl (let lt : k < length d.operations = get_below d.operations k x at in omega arith)
]

off_before : (d : FlashDevice) (k : ℕ) → off_in_of d k → off_in_of d k × ((k < min (length d.operations) last_count) ⊎ (last_count ≤ k))
off_before d k is = (is, off_made d k is)

no_cut : {A : Type 0} (d t : FlashDevice) (k : ℕ) → MakesNone d t → min (length d.operations) last_count ≤ k → k < min (length t.operations) last_count → A
no_cut d t k none le lt = let same : length t.operations ≡ length d.operations = ap (length {A = Change}) none.operations in absurd (omega arith)

worn_kept : (d t : FlashDevice) (k n : ℕ) (urgent : Bool) → MakesNone d t → (t.worn n ≡ d.worn n) ⊎ (d.worn n ≡ None) → IsWornFor d k n urgent → IsWornFor t k n urgent
worn_kept d t k n urgent none (inl same) w = worn_back t d (back_again d t none) k n urgent (sym same) w
worn_kept d t k n urgent none (inr new) w = let no : Some w.since ≡ None = sym w.is ∙ new in cc

pub clocks_pass : ClocksPass
clocks_pass answer d t none worn = record {
  past = record { after = λ k m le f. find_back d t none (After k) m f; cut = λ k m lt f. find_back d t none (CutIn k) m f; failed = λ k lt. (failed_back d t none k, failed_back t d (back_again d t none) k); worn = λ k n urgent le w. worn_kept d t k n urgent none (worn n) w; of_second = λ k lt. (λ is. is, λ is. is); spare = λ k pages le f. free_back d t none k pages f; was = λ trait k lt f. such_back d t none trait k f };
  cut = λ k m le lt f. no_cut d t k none le lt;
  off = λ k f. inl (off_before d k (off_back d t none k f));
  failed = λ k le lt. no_cut d t k none le lt;
  part = λ k le lt. no_cut d t k none le lt;
  kept = λ k le lt. no_cut d t k none le lt;
}

pub worn_now : WornNow
worn_now d since n urgent is from full = record {
  since = since;
  is = is;
  from = from;
  full = λ told small. elim full [
    | inl room ↦ inl (subst (λ (o : Option (List ℕ)). IfSome o (λ image. IsTrue (d.reading.is_full n urgent image)))
        (sym (bytes_at_end d) ∙ ap (bytes_after (flash_run d)) (let at : length d.operations ≡ min (length d.operations) last_count = omega (arith, small) in at)) room)
    | inr failed ↦ inr (subst (λ (l : List Change). IsTrue (may_be_closed l)) (sym (take_all (min (length d.operations) last_count) d.operations (omega (arith, small)))) failed)
  ];
}

pub free_now : FreeNow
free_now d pages free =
    let f : HasFree d (min (length d.operations) last_count) pages = free in
    let at : min (length d.operations) last_count ≡ length d.operations = omega (arith, f.small) in
    let is : bytes_now d.flash ≡ Some f.image = sym (bytes_at_end d) ∙ ap (bytes_after (flash_run d)) (sym at) ∙ f.is in
    let all : take (min (length d.operations) last_count) d.operations ≡ d.operations = take_all (min (length d.operations) last_count) d.operations (omega (arith, at)) in
    (f.told, (f.image, is, subst (λ (l : List Change). pages ≤ d.reading.free l f.image) all f.few))

-- BY AN OPERATION
module _ (op : Op) (answer : FlashAnswer) (d t : FlashDevice) (alike : ToldAlike d) (makes : Makes op answer d t) where
  abbrev change : Change
  change = change_of op d.flash answer

  abbrev count : ℕ
  count = length d.operations

  pub one_more : length t.operations ≡ count + 1
  one_more = ap (length {A = Change}) makes.operations ∙ length-append d.operations (change ∷ [])

  pub early : (k : ℕ) → k < count → slice_get t.operations k ≡ slice_get d.operations k
  early k lt = ap (λ (l : List Change). slice_get l k) makes.operations ∙ get_front d.operations change k lt

  pub last : slice_get t.operations count ≡ Some change
  last = ap (λ (l : List Change). slice_get l count) makes.operations ∙ get_last d.operations change

  -- the bytes before its operation are those of now
  pub before_is : (bytes : List ℕ) → bytes_now d.flash ≡ Some bytes → change.before ≡ bytes
  before_is bytes is = ap (λ (o : Option (List ℕ)). unwrap_or o []) is

  there : (k : ℕ) → k < count → (o : Option Change) → slice_get d.operations k ≡ o → option_map_or (λ (x : Change). Some x.before) o (bytes_now t.flash) ≡ option_map_or (λ (x : Change). Some x.before) o (bytes_now d.flash)
  there k lt (Some x) is = refl
  there k lt None is = absurd (none_below d.operations k lt is)

  after_same : (k : ℕ) (bytes : List ℕ) → bytes_now d.flash ≡ Some bytes → k ≤ count → bytes_after (flash_run t) k ≡ bytes_after (flash_run d) k
  after_same k bytes is le = elim (cases_lt k count) [
    | inl lt ↦
        ap (λ (o : Option Change). option_map_or (λ (x : Change). Some x.before) o (bytes_now t.flash)) (early k lt) ∙ there k lt (slice_get d.operations k) refl
    | inr ge ↦
        let at : k ≡ count = omega arith in
        ap (bytes_after (flash_run t)) at
        ∙ ap (λ (o : Option Change). option_map_or (λ (x : Change). Some x.before) o (bytes_now t.flash)) last
        ∙ ap (λ (x : List ℕ). Some x) (before_is bytes is) ∙ sym is ∙ sym (bytes_at_end d) ∙ ap (bytes_after (flash_run d)) (sym at)
  ]

  told_same : tells_held t ≡ tells_held d
  told_same = tells_of d t makes.reading makes.entry

  find_past : (k : ℕ) (m : ℕ → Held) → k ≤ min count last_count → FindsAfter t k m → FindsAfter d k m
  find_past k m le f =
      let told = after_of d t k makes.reading makes.entry f.told in
      let b = first_told d alike (after_first d k told) in
      let le2 : k ≤ count = omega arith in
      record {
        told = told;
        made = le2;
        small = f.small;
        image = f.image;
        is = sym (after_same k b.bytes b.is le2) ∙ f.is;
        finds = map_of d t f.image m makes.reading f.finds;
      }

  cut_past : (k : ℕ) (m : ℕ → Held) → k < min count last_count → FindsInCut t k m → FindsInCut d k m
  cut_past k m lt f = record {
    told = sym told_same ∙ f.told;
    small = f.small;
    image = f.image;
    leaves = (f.leaves.0, sym (early k (omega arith)) ∙ f.leaves.1, f.leaves.2);
    finds = map_of d t f.image m makes.reading f.finds;
  }

  failed_past : (k : ℕ) → k < min count last_count → HasFailed (flash_run t) k ↔ HasFailed (flash_run d) k
  failed_past k lt =
      let same = early k (omega arith) in
      (λ f. (f.0, sym same ∙ f.1, f.2), λ f. (f.0, same ∙ f.1, f.2))

  such_past : (trait : Trait) (k : ℕ) → k < min count last_count → IsSuch t.reading (flash_run t) trait k → IsSuch d.reading (flash_run d) trait k
  such_past trait k lt (x, at, is) = (x, sym (early k (omega arith)) ∙ at, subst (λ (reading : Reading). IsTrue (reading.is_such trait x)) makes.reading is)

  -- where it is told at the end, it was before
  pub told_before : (x y : Option ToldBytes) (bytes : List ℕ) → IfBothTold x y (IsChanged op answer) → option_map now_of y ≡ Some bytes → IsTold (option_map now_of x)
  told_before (Some x) (Some y) bytes both is = record { bytes = x.now; is = refl }
  told_before (Some x) None bytes both is = absurd both
  told_before None (Some y) bytes both is = absurd both
  told_before None None bytes both is = cc

  worn_past : (k n : ℕ) (urgent : Bool) → k ≤ min count last_count → IsWornFor d k n urgent → IsWornFor t k n urgent
  worn_past k n urgent le w = record {
    since = w.since;
    is = makes.worn n ∙ w.is;
    from = w.from;
    full = λ told small.
        let b = told_before d.flash.bytes t.flash.bytes told.last makes.asked.bytes told.exit in
        let d_tells : TellsBytes (flash_run d) = record { first = told.first; entry = ap bytes_now (sym makes.entry) ∙ told.entry; last = b.bytes; exit = b.is } in
        elim (w.full d_tells small) [
          | inl room ↦ inl (subst (λ (reading : Reading). IfSome (bytes_after (flash_run t) k) (λ image. IsTrue (reading.is_full n urgent image))) (sym makes.reading)
              (subst (λ (o : Option (List ℕ)). IfSome o (λ image. IsTrue (d.reading.is_full n urgent image))) (sym (after_same k b.bytes b.is (omega arith))) room))
          | inr failed ↦ inr (subst (λ (l : List Change). IsTrue (may_be_closed l)) (sym (ap (take k) makes.operations ∙ take-append-le k d.operations (change ∷ []) (omega arith))) failed)
        ];
  }

  free_past : (k pages : ℕ) → k ≤ min count last_count → HasFree t k pages → HasFree d k pages
  free_past k pages le f =
      let told = sym told_same ∙ f.told in
      let b = held_told d alike told in
      let le2 : k ≤ count = omega arith in
      record {
        told = told;
        made = le2;
        small = f.small;
        image = f.image;
        is = sym (after_same k b.bytes b.is le2) ∙ f.is;
        few = subst (λ (reading : Reading). pages ≤ reading.free (take k d.operations) f.image) makes.reading
            (subst (λ (l : List Change). pages ≤ t.reading.free l f.image) (ap (take k) makes.operations ∙ take-append-le k d.operations (change ∷ []) le2) f.few);
      }

  off_past : (k : ℕ) → off_in_of t k → off_in_of d k ⊎ GoesOff (turn_of answer) (min count last_count) (min (length t.operations) last_count) k
  off_past k (inl big) = inl (inl big)
  off_past k (inr (x, at, off)) = elim (cases_lt k last_count) [
    | inr big ↦ inl (inl big)
    | inl small ↦ elim (cases_lt k count) [
      | inl lt ↦ inl (inr (x, sym (early k lt) ∙ at, off))
      | inr ge ↦
          let below : k < length t.operations = get_below t.operations k x at in
          let here : k ≡ count = omega (arith, one_more) in
          let same : change ≡ x = some_is change x (sym last ∙ ap (λ (n : ℕ). slice_get t.operations n) (sym here) ∙ at) in
          inr (subst (λ (a : FlashAnswer). GoesOff (turn_of a) (min count last_count) (min (length t.operations) last_count) k) (sym (ap (λ (c : Change). c.answer) same ∙ off)) (omega arith, omega (arith, one_more)))
    ]
  ]

  off_told : (k : ℕ) → off_in_of d k ⊎ GoesOff (turn_of answer) (min count last_count) (min (length t.operations) last_count) k
      → (off_in_of d k × ((k < min count last_count) ⊎ (last_count ≤ k))) ⊎ GoesOff (turn_of answer) (min count last_count) (min (length t.operations) last_count) k
  off_told k (inl is) = inl (off_before d k is)
  off_told k (inr goes) = inr goes

  cut_now : CutsArePossible op d → (k : ℕ) (m : ℕ → Held) → min count last_count ≤ k → k < min (length t.operations) last_count → FindsInCut t k m → ArePossible (flash_told d) (slots_now d) m
  cut_now possible k m le lt f =
      let here : k ≡ count = omega (arith, one_more) in
      let told : IsTrue (tells_held d) = sym told_same ∙ f.told in
      let b = held_told d alike told in
      let same : change ≡ f.leaves.0 = some_is change f.leaves.0 (sym last ∙ ap (λ (n : ℕ). slice_get t.operations n) (sym here) ∙ f.leaves.1) in
      let leaves : MayLeave op b.bytes f.image = subst (λ (x : List ℕ). MayLeave op x f.image) (before_is b.bytes b.is) (subst (λ (c : Change). MayLeave c.op c.before f.image) (sym same) f.leaves.2) in
      possible_in d b.bytes f.image m (held_now d told) b.is (if_some (bytes_now d.flash) (λ bytes. (image : List ℕ) → MayLeave op bytes image → ImageIsPossible d bytes image) b.bytes b.is (possible told) f.image leaves) (map_of d t f.image m makes.reading f.finds)

  failed_now : CountsFailure answer d t → (k : ℕ) → min count last_count ≤ k → k < min (length t.operations) last_count → HasFailed (flash_run t) k → Rose d.faults t.faults
  failed_now counts k le lt f =
      let here : k ≡ count = omega (arith, one_more) in
      let same : change ≡ f.0 = some_is change f.0 (sym last ∙ ap (λ (n : ℕ). slice_get t.operations n) (sym here) ∙ f.1) in
      counts (ap (λ (c : Change). c.answer) same ∙ f.2)

  such_now : TakesKeptPages op answer d → (k : ℕ) → min count last_count ≤ k → k < min (length t.operations) last_count → IsSuch t.reading (flash_run t) TakesKept k → is_urgent d.stand ≡ true
  such_now takes k le lt (x, at, is) =
      let here : k ≡ count = omega (arith, one_more) in
      let same : change ≡ x = some_is change x (sym last ∙ ap (λ (n : ℕ). slice_get t.operations n) (sym here) ∙ at) in
      takes (subst (λ (c : Change). IsTrue (d.reading.is_such TakesKept c)) (sym same) (subst (λ (reading : Reading). IsTrue (reading.is_such TakesKept x)) makes.reading is))

pub clocks_tick : ClocksTick
clocks_tick op answer d t alike makes counts possible takes = record {
  past = record { after = λ k m le f. find_past op answer d t alike makes k m le f; cut = λ k m lt f. cut_past op answer d t alike makes k m lt f; failed = λ k lt. failed_past op answer d t alike makes k lt; worn = λ k n urgent le w. worn_past op answer d t alike makes k n urgent le w; of_second = λ k lt. (λ is. is, λ is. is); spare = λ k pages le f. free_past op answer d t alike makes k pages le f; was = λ trait k lt f. such_past op answer d t alike makes trait k lt f };
  cut = λ k m le lt f. cut_now op answer d t alike makes possible k m le lt f;
  off = λ k is. off_told op answer d t alike makes k (off_past op answer d t alike makes k is);
  failed = λ k le lt f. failed_now op answer d t alike makes counts k le lt f;
  part = λ k le lt. (λ no. absurd no, λ is. cc is);
  kept = λ k le lt f. such_now op answer d t alike makes takes k le lt f;
}

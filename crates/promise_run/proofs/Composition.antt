-- The promise from its two halves.
use Rattle.std.specs.Prelude.{slice_get, min, IfSome}
use Rattle.std.specs.Option.{option_map_or}
use Rattle.std.proofs.Common.{◌≡◌, ℕ, zero, suc, ◌<◌, ◌≤◌, ◌-◌, ◌⊎◌, IsTrue, Bool, true, List, [], ◌∷◌, length, Option, Some, None, refl, sym, subst, ap, inl, inr, arith}
use Rattle.block_machine.specs.nv_base.Count.{last_count, next_count, WereCounted}
use Rattle.fls_model.specs.Told.{Change, bytes_now}
use Rattle.memif.specs.Told.{PartTold, Part, DeviceTold, First}
use Rattle.memif.specs.Clock.{Clock, After, CutIn}
use Rattle.block_machine.specs.Words.{Entry, Ask, Pick, Wrote, Post, Off, Found, Configuration}
use Rattle.block_machine.specs.State.{State}
use Rattle.block_machine.specs.StartUp.{at_first}
use Rattle.block_machine.specs.Steps.{step}
use Rattle.promise_blocks.specs.Payment.{Worn, ArePaid, IsPaid, price_for, every_block}
use Rattle.promise_blocks.specs.OverDevice.{HasStarted, HasOffAt, is_of}
use Rattle.promise_device.specs.Image.{held_in, IsSoundFlash}
use Rattle.promise_device.specs.Reading.{BeginsSound}
use Rattle.promise_device.specs.FlashRun.{TellsBytes, StartsSound, IsCutImage, AreOperations, bytes_after}
use Rattle.promise_device.specs.Bridge.{IsWornOut, reading_of, cuts_of}
use Rattle.promise_device.specs.Wear.{OperationsAreDue}
use Rattle.promise_device.proofs.FlashRun.{seen_more}
use Rattle.promise_device.proofs.Readings.{sound_flashes_compute, sound_starts_compute, worn_banks_compute}
use Rattle.promise_run.specs.Run.{Run, alone, has_cutter}
use Rattle.promise_run.specs.Promise.{CutsCount, Keeps, MayBeKept, Promise, StartUpsFind, making_of}
use Rattle.promise_run.proofs.Founds.{last_soon}
use Rattle.promise_run.proofs.Paid.{excused_too}
use Rattle.promise_run.specs.Halves.{BlockHalf, DeviceHalf, HalvesMakeIt, EarlyMakesIt, beyond_end}

-- PAYMENT
-- a price among these blocks is a price among all where all are among these
module _ (of : ℕ → Bool) (all : (block : ℕ) → of block ≡ true) where
  price_too : (c : Configuration) (s : State) (e : Entry) → price_for of c s e ≡ price_for every_block c s e
  price_too c s (Post block r given refused ops) = rw (all block) refl
  price_too c s (Ask caller r reply) = refl
  price_too c s (Pick block kind t ops) = refl
  price_too c s (Wrote i mark ops) = refl
  price_too c s (Off ops) = refl
  price_too c s (Found marks ops) = refl

  paid_too : (c : Configuration) (worn other : Worn) (n : ℕ) (s : State) (es : List Entry) → ((k m : ℕ) (urgent : Bool) → worn k m urgent → other k m urgent) → ArePaid of c worn n s es → ArePaid every_block c other n s es
  paid_too c worn other n s [] more paid = tt
  paid_too c worn other n s (e ∷ es) more (inl (cheap, rest)) = inl (
    subst (λ (p : ℕ). p ≤ n) (price_too c s e) cheap,
    subst (λ (p : ℕ). ArePaid every_block c other (n - p) (step c s e) es) (price_too c s e) (paid_too c worn other (n - price_for of c s e) (step c s e) es more rest),
  )
  paid_too c worn other n s (e ∷ es) more (inr (excused, rest)) = inr (excused_too c worn other s e more excused, paid_too c worn other n (step c s e) es more rest)

pays : (of : ℕ → Bool) → ((block : ℕ) → of block ≡ true) → (c : Configuration) (worn other : Worn) (before after first last : ℕ) (h : List Entry) → ((k n : ℕ) (urgent : Bool) → worn k n urgent → other k n urgent)
    → ((n : ℕ) → WereCounted n before after → WereCounted n first last) → IsPaid of c worn before after h → IsPaid every_block c other first last h
pays of all c worn other before after first last h more counts paid = record { faults = paid.faults; counted = counts paid.faults paid.counted; pay = paid_too of all c worn other paid.faults at_first h more paid.pay }

-- OPERATIONS
-- an operation of the flash is one that the device asked for
pub one_of : (k : ℕ) (xs : List Change) (x : Change) → slice_get xs k ≡ Some x → k < length xs
one_of k [] x is = cc
one_of zero (y ∷ xs) x is = omega arith
one_of (suc k) (y ∷ xs) x is = let rest = one_of k xs x is in omega (arith, rest)

was_asked : (n asked k : ℕ) → k < last_count → k < n → asked ≡ min n last_count → k < asked
was_asked n asked k small within is = omega (arith, small, within, is)

-- behind all operations the bytes are those of the exit
pub past : {A : Type 0} (xs : List A) → slice_get xs (length xs) ≡ None
past [] = refl
past (x ∷ xs) = past xs

pub if_told : (bytes : Option (List ℕ)) (P Q : List ℕ → Type 0) → ((image : List ℕ) → P image → Q image) → IfSome bytes P → IfSome bytes Q
if_told (Some image) P Q more is = more image is
if_told None P Q more is = tt

both_told : (bytes : Option (List ℕ)) (P Q R : List ℕ → Type 0) → ((image : List ℕ) → P image → Q image → R image) → IfSome bytes P → IfSome bytes Q → IfSome bytes R
both_told (Some image) P Q R more p q = more image p q
both_told None P Q R more p q = tt

-- THE MARKS
lists : (r : Run) (before : Part → PartTold) (now : DeviceTold) (clock : Clock) → BlockHalf (alone r) before now clock → DeviceHalf r (before First) now (beyond_end clock)
    → TellsBytes r.flash → StartsSound (making_of r.configuration) r.flash → StartUpsFind (alone r)
lists r before now clock block device tells sound marks ops has small =
    let c = r.configuration in
    let least : min (length r.flash.operations) last_count ≤ length r.flash.operations = omega arith in
    let within : ops ≤ length r.flash.operations = omega (arith, block.over.counted (Found marks ops) ops has refl, device.ops) in
    if_told (bytes_after r.flash ops) (λ image. clock.may_find (After ops) (held_in (making_of c) image)) _
    (λ image finds. block.over.found marks ops (held_in (making_of c) image) has small finds)
    (device.after tells ops (inl (sound_starts_compute (making_of c) r.flash sound)) within small)

exits : (r : Run) (before : Part → PartTold) (now : DeviceTold) (clock : Clock) → BlockHalf (alone r) before now clock → DeviceHalf r (before First) now (beyond_end clock)
    → TellsBytes r.flash → StartsSound (making_of r.configuration) r.flash → HasStarted r.history → length r.flash.operations < last_count → IfSome (bytes_now r.flash.exit) (Keeps r.configuration r.history)
exits r before now clock block device tells sound started small =
    let c = r.configuration in
    let n : ℕ = length r.flash.operations in
    let all : now.ops ≡ n = omega (arith, device.ops) in
    let told : bytes_after r.flash n ≡ bytes_now r.flash.exit = ap (λ (o : Option Change). option_map_or (λ x. Some x.before) o (bytes_now r.flash.exit)) (past r.flash.operations) in
    let finds : IfSome (bytes_now r.flash.exit) (λ image. clock.may_find (After n) (held_in (making_of c) image)) =
    subst (λ (b : Option (List ℕ)). IfSome b (λ image. clock.may_find (After n) (held_in (making_of c) image))) told (device.after tells n (inl (sound_starts_compute (making_of c) r.flash sound)) (omega arith) small) in
    both_told (bytes_now r.flash.exit) (λ image. clock.may_find (After n) (held_in (making_of c) image)) (IsSoundFlash (making_of c)) (Keeps c r.history)
    (λ image is whole. record {
      marks = block.over.at_end (held_in (making_of c) image) started (omega (arith, device.ops)) (subst (λ (k : ℕ). clock.may_find (After k) (held_in (making_of c) image)) (sym all) is);
      sound = whole;
    })
    finds (if_told (bytes_now r.flash.exit) (λ image. IsTrue ((reading_of (making_of c)).is_sound image)) (IsSoundFlash (making_of c)) (λ image is. (sound_flashes_compute (making_of c) image).0 is)
    (device.sound tells (sound_starts_compute (making_of c) r.flash sound)))

-- UNTIL THE FIRST OPERATION
pub begins_well : (clock : Clock) → EarlyMakesIt clock
begins_well clock r before now early device tells = record {
  found = λ marks has. if_told (bytes_after r.flash 0) (λ image. clock.may_find (After 0) (held_in (making_of r.configuration) image)) _
      (λ image finds. early.found marks (held_in (making_of r.configuration) image) has finds)
      (device.after tells 0 (inr refl) (omega arith) (omega arith));
  legal = early.legal;
}

-- THE COUNTS
cuts_count : (r : Run) (before : Part → PartTold) (now : DeviceTold) (clock : Clock) → BlockHalf (alone r) before now clock → DeviceHalf r (before First) now (beyond_end clock)
    → TellsBytes r.flash → StartsSound (making_of r.configuration) r.flash
    → ((k : ℕ) (image : List ℕ) → k < last_count → IsCutImage r.flash k image → clock.may_find (CutIn k) (held_in (making_of r.configuration) image))
    → CutsCount (alone r)
cuts_count r before now clock block device tells sound cuts k ops image small cut last =
    let c = r.configuration in
    let within : k < length r.flash.operations = one_of k r.flash.operations cut.0 cut.1 in
    let soon : ops ≤ k = last_soon c r.most k r.history ops block.over.legal last in
    if_told (bytes_after r.flash ops) (λ first. clock.may_find (After ops) (held_in (making_of c) first)) _
    (λ first finds. block.over.counts k ops (held_in (making_of c) first) (held_in (making_of c) image) small
    (was_asked (length r.flash.operations) now.ops k small within device.ops) (cuts k image small cut) last finds)
    (device.after tells ops (inl (sound_starts_compute (making_of c) r.flash sound)) (omega (arith, soon, within)) (omega (arith, soon, small)))

-- over one flash
of_one : (clock : Clock) (r : Run) (before : Part → PartTold) (now : DeviceTold) → BlockHalf (alone r) before now clock → DeviceHalf r (before First) now (beyond_end clock) → OperationsAreDue (making_of r.configuration) r.flash → Promise (alone r)
of_one clock r before now block device wear = record {
  order = block.order;
  power_cut = λ tells sound k image small cut. record {
    marks = block.over.cut k (held_in (making_of r.configuration) image) small
        (was_asked (length r.flash.operations) now.ops k small (one_of k r.flash.operations cut.0 cut.1) device.ops)
        (device.cut tells (begins sound) k image small cut);
    sound = (sound_flashes_compute (making_of r.configuration) image).0 (device.sound_cut tells (begins sound) k image small cut);
  };
  counts = λ tells sound. cuts_count r before now clock block device tells.bytes sound
      (λ k image small cut. device.cut tells (begins sound) k image small cut);
  found = lists r before now clock block device;
  at_exit = exits r before now clock block device;
  block_machine = block.over.legal;
  faults = pays (is_of First now.fixed) block.one r.configuration clock.worn (IsWornOut (making_of r.configuration) r.flash) (before First).faults now.first.faults r.flash.entry.faults r.flash.exit.faults r.history (λ k n urgent worn. worn_banks_compute (making_of r.configuration) r.flash k n urgent (device.worn k n urgent worn)) device.faults (block.over.paid First);
  wear = wear;
  refusals = block.refusals;
  off = (block.off.0, block.off.1, device.cuts block.off.0 block.off.2);
  power = λ k small off. told_within k small (device.went_off k small off);
  operations = λ started. subst (AreOperations r.configuration.geometry r.flash (MayBeKept r)) block.came (record {
    told_alike = device.operations.told_alike;
    chain = device.operations.chain;
    seen = λ t. seen_more (λ k. IsTrue (has_cutter r.course) × ((last_count ≤ k) ⊎ clock.off_in k)) _ 0 t.bytes.last r.flash.operations (cuts_of (has_cutter r.course) now) t.changes (λ k is. (is.0, told k is.1)) (device.operations.seen t);
    counted = device.operations.counted;
    told = device.operations.told;
  });
  begins = block.over.begins;
  counted = λ e ops has is. omega (arith, block.over.counted e ops has is, device.ops);
}
  where
    begins : StartsSound (making_of r.configuration) r.flash → BeginsSound (reading_of (making_of r.configuration)) r.flash
    begins sound = sound_starts_compute (making_of r.configuration) r.flash sound

    told : (k : ℕ) → (last_count ≤ k) ⊎ clock.off_in k → (last_count ≤ k) ⊎ HasOffAt r.history (next_count k)
    told k (inl past_end) = inl past_end
    told k (inr off) = inr (block.over.off k off)

    told_within : (k : ℕ) → k < last_count → (last_count ≤ k) ⊎ clock.off_in k → HasOffAt r.history (next_count k)
    told_within k small (inl past_end) = absurd (omega (arith, small, past_end))
    told_within k small (inr off) = block.over.off k off

pub halves_make_the_promise : (clock : Clock) → HalvesMakeIt clock
halves_make_the_promise clock r before now block device wear =
    subst Promise (sym same) (of_one clock r before now (subst (λ (x : Run). BlockHalf x before now clock) same block) device wear)
  where
    same : r ≡ alone r
    same = λ i. record r { beside = block.alone i }

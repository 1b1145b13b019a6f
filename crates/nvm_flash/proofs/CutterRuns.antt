-- The run of a cutter, and that of the flash within it.
use Rattle.std.specs.Prelude.{IsTrue, IfSome, IsSome, option_map, slice_get, take, min, count_by}
use Rattle.std.specs.Option.{option_map_or}
use Rattle.std.proofs.Common.{◌≡◌, ◌⊎◌, inl, inr, ℕ, zero, suc, ◌≤◌, ◌+◌, Bool, true, false, List, length, Option, Some, None, refl, sym, ap, ◌∙◌, subst, arith}
use Rattle.std.proofs.lemmas.Bool.{cases_lt}
use Rattle.memif_fee_ea.specs.fee_core.nv_base.Count.{Rose, WereCounted, last_count}
use Rattle.memif_fee_ea.specs.fee_core.nv_base.declared.geometry.Geometry.{Geometry}
use Rattle.memif_fee_ea.specs.fee_core.memif.Clock.{After}
use Rattle.memif_fee_ea.specs.fee_core.fls_model.Told.{Told, ToldBytes, Change, TellsFor, IfBothTold, bytes_now, changes_in}
use Rattle.fls_devices.specs.Cutter.{Cutting, cutting, planning_of, told_cutting, OnlyCuts}
use Rattle.fls_devices.specs.Journal.{Journaled, HaveParts, merged, bytes_over, empty_journal}
use Rattle.fls_devices.specs.Overlay.{ops_over}
use Rattle.memif_fee_ea.specs.fee_core.promise_device.Making.{Making}
use Rattle.memif_fee_ea.specs.fee_core.promise_device.Image.{IsSoundFlash}
use Rattle.memif_fee_ea.specs.fee_core.promise_device.Reading.{Reading, BeginsSound}
use Rattle.memif_fee_ea.specs.fee_core.promise_device.Bridge.{IsWornBy, cuts_of}
use Rattle.memif_fee_ea.specs.fee_core.promise_device.FlashRun.{TellsBytes, TellsOperations, StartsSound, HasRoom, AreSeen, bytes_after, is_none_done}
use Rattle.memif_fee_ea.specs.fee_core.fls_told.Device.{FlashDevice, flash_told}
use Rattle.memif_fee_ea.specs.fee_core.fls_told.Clock.{flash_clock}
use Rattle.nvm_flash.specs.CutterLaws.{run_of_cutter, run_within, HandsBack, DevicesBridge}
use Rattle.nvm_flash.proofs.CutterSeen.{OffsKept, offs_kept, keeps_of, seen_merged}

-- WHAT IS TOLD OF THE BYTES
same_bytes : (j : Journaled) (g : Geometry) (b : Option ToldBytes) → option_map (λ (x : ToldBytes). x.now) (bytes_over j g b) ≡ option_map (λ (x : ToldBytes). x.now) b
same_bytes j g None = refl
same_bytes j g (Some b) = refl

pub same_entry : (inner : Told) (cuts : ℕ) → bytes_now (told_cutting (cutting inner cuts)) ≡ bytes_now inner
same_entry inner cuts = same_bytes (empty_journal cuts) inner.geometry inner.bytes

pub same_exit : (c : Cutting) → bytes_now (told_cutting c) ≡ bytes_now c.flash.inner
same_exit c = same_bytes c.flash.journal c.flash.inner.geometry c.flash.inner.bytes

same_after : (inner : Told) (cuts : ℕ) (c : Cutting) (operations : List Change) (k : ℕ) → bytes_after (run_of_cutter inner cuts c operations) k ≡ bytes_after (run_within inner c operations) k
same_after inner cuts c operations k = ap (λ (o : Option (List ℕ)). option_map_or (λ (x : Change). Some x.before) (slice_get operations k) o) (same_exit c)

alike : (j i : Journaled) (g h : Geometry) (a b : Option ToldBytes) → IfBothTold (bytes_over j g a) (bytes_over i h b) (λ first last. Unit {0}) → IfBothTold a b (λ first last. Unit {0})
alike j i g h None None both = tt
alike j i g h None (Some b) both = both
alike j i g h (Some a) None both = both
alike j i g h (Some a) (Some b) both = tt

as_same : (P : List ℕ → Type 0) (o q : Option (List ℕ)) → o ≡ q → IfSome o P → IfSome q P
as_same P o q same has = subst (λ (x : Option (List ℕ)). IfSome x P) same has

abbrev pub tells_over : (inner : Told) (cuts : ℕ) (c : Cutting) (operations : List Change) → TellsBytes (run_within inner c operations) → TellsBytes (run_of_cutter inner cuts c operations)
tells_over inner cuts c operations t = record { first = t.first; entry = same_entry inner cuts ∙ t.entry; last = t.last; exit = same_exit c ∙ t.exit }

-- the image at the entry is the inner flash's
pub starts_over : (m : Making) (inner : Told) (cuts : ℕ) (c : Cutting) (operations : List Change) → StartsSound m (run_within inner c operations) → StartsSound m (run_of_cutter inner cuts c operations)
starts_over m inner cuts c operations sound = subst (λ (o : Option (List ℕ)). IfSome o (IsSoundFlash m)) (sym (same_entry inner cuts)) sound

sound_over : (r : Reading) (inner : Told) (cuts : ℕ) (c : Cutting) (operations : List Change) → BeginsSound r (run_within inner c operations) → BeginsSound r (run_of_cutter inner cuts c operations)
sound_over r inner cuts c operations sound = subst (λ (o : Option (List ℕ)). IfSome o (λ image. IsTrue (r.is_sound image))) (sym (same_entry inner cuts)) sound

-- WHAT IS TOLD OF THE CHANGES
all_told : (j : Journaled) (g : Geometry) (b : Option ToldBytes) (last : List ℕ) (changes : List Change)
    → option_map (λ (x : ToldBytes). x.now) b ≡ Some last → changes_in b ≡ Some changes → changes_in (bytes_over j g b) ≡ Some (merged g j.events changes last)
all_told j g None last changes is told = cc
all_told j g (Some b) last changes is told =
    let now : b.now ≡ last = cc is in
    rw told (ap (λ (bytes : List ℕ). Some (merged g j.events changes bytes)) now)

operations_over : (inner : Told) (cuts : ℕ) (c : Cutting) (operations : List Change) → TellsOperations (run_within inner c operations) → TellsOperations (run_of_cutter inner cuts c operations)
operations_over inner cuts c operations t = record {
  bytes = tells_over inner cuts c operations t.bytes;
  changes = merged c.flash.inner.geometry c.flash.journal.events t.changes t.bytes.last;
  told = all_told c.flash.journal c.flash.inner.geometry c.flash.inner.bytes t.bytes.last t.changes t.bytes.exit t.told;
}

list_within : (f : List Change → List Change) (o : Option (List Change)) (all : List Change) → option_map f o ≡ Some all → (changes : List Change) × (o ≡ Some changes)
list_within f None all is = cc
list_within f (Some changes) all is = (changes, refl)

told_within : (j : Journaled) (g : Geometry) (b : Option ToldBytes) (all : List Change) → changes_in (bytes_over j g b) ≡ Some all → (changes : List Change) × (changes_in b ≡ Some changes)
told_within j g None all is = cc
told_within j g (Some b) all is = list_within (λ changes. merged g j.events changes b.now) b.changes all is

list_over : (f : List Change → List Change) (o : Option (List Change)) → IsSome o → IsSome (option_map f o)
list_over f (Some changes) some = refl
list_over f None some = some

-- with as much room
room_over : (j : Journaled) (g : Geometry) (b : Option ToldBytes) (n : ℕ) → IfSome b (TellsFor n) → IfSome (bytes_over j g b) (TellsFor n)
room_over j g None n tells = tt
room_over j g (Some b) n tells = (list_over (λ changes. merged g j.events changes b.now) b.changes tells.0, tells.1)

operations_within : (inner : Told) (cuts : ℕ) (c : Cutting) (operations : List Change) → (HasRoom (run_of_cutter inner cuts c operations) → TellsOperations (run_of_cutter inner cuts c operations))
    → HasRoom (run_within inner c operations) → TellsOperations (run_within inner c operations)
operations_within inner cuts c operations over h =
    let t = over (record { bytes = tells_over inner cuts c operations h.bytes; room = room_over (empty_journal cuts) inner.geometry inner.bytes (length operations) h.room }) in
    let (changes, told) = told_within c.flash.journal c.flash.inner.geometry c.flash.inner.bytes t.changes t.told in
    record { bytes = h.bytes; changes = changes; told = told }

if_told : {A : Type 0} (o : Option A) (P : A → Type 0) (x : A) → o ≡ Some x → IfSome o P → P x
if_told (Some y) P x is has = (let e : y ≡ x = cc is in subst P e has)
if_told None P x is has = cc

-- the operations are the flash's own, but for those that were kept from it
abbrev was_kept : FlashDevice → ℕ → Type 0
was_kept d k = IsTrue true × (flash_clock d).off_in k

seen_within : (inner : Told) (c : Cutting) (d : FlashDevice) → OnlyCuts c → HandsBack d c → (t : TellsOperations (run_within inner c d.operations)) → AreSeen (was_kept d) 0 t.bytes.last d.operations (cuts_of true (flash_told d)) t.changes
seen_within inner c d only hands t =
    let g = c.flash.inner.geometry in
    let all : List Change = merged g c.flash.journal.events t.changes t.bytes.last in
    let told : changes_in (told_cutting c).bytes ≡ Some all = all_told c.flash.journal g c.flash.inner.bytes t.bytes.last t.changes t.bytes.exit t.told in
    let same : all ≡ d.operations = if_told (changes_in (told_cutting c).bytes) (λ (changes : List Change). changes ≡ d.operations) all told hands.changes in
    let parts : HaveParts g c.flash.journal.events t.changes = if_told (changes_in c.flash.inner.bytes) (HaveParts g c.flash.journal.events) t.changes t.told only.flash.parts in
    let offs : OffsKept (was_kept d) 0 d.operations = offs_kept (was_kept d) 0 d.operations (λ i x at off. (refl, inr (x, subst (λ (n : ℕ). slice_get d.operations n ≡ Some x) (omega arith) at, off))) in
    subst (λ (cuts : List ℕ). AreSeen (was_kept d) 0 t.bytes.last d.operations cuts t.changes) (ap (λ (x : Told). x.planning.came) hands.told)
    (subst (λ (xs : List Change). AreSeen (was_kept d) 0 t.bytes.last xs (keeps_of c.flash.journal.events) t.changes) same
    (seen_merged (was_kept d) g t.bytes.last c.flash.journal.events t.changes 0 parts only.events (subst (OffsKept (was_kept d) 0) (sym same) offs)))

-- COUNTS
counted_within : (n a b own : ℕ) → own ≡ 0 → WereCounted n (a + 0) (b + own) → WereCounted n a b
counted_within n a b own none (inl fits) = inl (omega arith)
counted_within n a b own none (inr big) = inr (omega arith)

rose_within : (a b own : ℕ) → own ≡ 0 → Rose (a + 0) (b + own) → Rose a b
rose_within a b own none (inl more) = inl (omega arith)
rose_within a b own none (inr big) = inr (omega (arith, big.0), omega (arith, big.1))

-- each operation was counted by the cutter, and by the flash but those that were withheld
counts_all : (w few a b n : ℕ) → w ≡ min few last_count → (ops_over b w + 0 ≡ ops_over a 0 + n) ⊎ (last_count ≤ ops_over a 0 + n)
    → (b + few ≡ a + n) ⊎ (last_count ≤ a + n)
counts_all w few a b n is (inr end) = inr end
counts_all zero few a b n is (inl all) = let none : few ≡ 0 = omega (arith, is) in inl (omega (arith, none, all))
counts_all (suc w) few a b n is (inl all) = elim (cases_lt (b + suc w) last_count) [
  | inl small ↦ let same : suc w ≡ few = omega (arith, is, small) in inl (omega (arith, all, same, small))
  | inr end ↦ inr (omega (arith, all, end))
]

off_within : (x y : Bool) → (y ≡ false → x ≡ false) → x ≡ true → y ≡ true
off_within x true on off = refl
off_within x false on off = absurd (let never : true ≡ false = sym off ∙ on refl in cc never)

worn_within : (r : Reading) (inner : Told) (cuts : ℕ) (c : Cutting) (operations : List Change) (k n : ℕ) (urgent : Bool) → OnlyCuts c
    → IsWornBy r (run_of_cutter inner cuts c operations) k n urgent → IsWornBy r (run_within inner c operations) k n urgent
worn_within r inner cuts c operations k n urgent only w = record {
  last = as_same (λ image. IsTrue (r.is_last n image)) _ _ (same_exit c) w.last;
  follow = w.follow;
  full = λ t small. elim (w.full (tells_over inner cuts c operations t) small) [
    | inl room ↦ inl (as_same (λ image. IsTrue (r.is_full n urgent image)) _ _ (same_after inner cuts c operations k) room)
    | inr failed ↦ inr (rose_within inner.faults c.flash.inner.faults c.flash.faults only.faults failed.0, failed.1)
  ];
}

-- THE BRIDGE
pub devices_bridge : DevicesBridge
devices_bridge r inner cuts c d before only hands first none b =
    let up = tells_over inner cuts c d.operations in
    let all = operations_over inner cuts c d.operations in
    let sound = sound_over r inner cuts c d.operations in
    let last : (planning_of c).unplanned ≡ d.flash.planning.unplanned = ap (λ (t : Told). t.planning.unplanned) hands.told in
    record {
      after = λ t k s made small.
          as_same (λ image. (flash_clock d).may_find (After k) (r.held image)) _ _ (same_after inner cuts c d.operations k) (b.after (up t) k (elim s [ inl is ↦ inl (sound is) | inr start ↦ inr start ]) made small);
      cut = λ t s k image small leaves. b.cut (all t) (sound s) k image small leaves;
      tells = λ t. b.tells (up t);
      slots = λ t s. b.slots (up t) (sound s);
      sound = λ t s. as_same (λ image. IsTrue (r.is_sound image)) _ _ (same_exit c) (b.sound (up t) (sound s));
      sound_cut = λ t s k image small leaves. b.sound_cut (all t) (sound s) k image small leaves;
      operations = record {
        told_alike = alike (empty_journal cuts) c.flash.journal inner.geometry c.flash.inner.geometry inner.bytes c.flash.inner.bytes b.operations.told_alike;
        chain = λ t. b.operations.chain (up t);
        seen = seen_within inner c d only hands;
        counted = counts_all c.flash.withheld (count_by is_none_done (flash_told d).first.planning.came) inner.ops c.flash.inner.ops (length d.operations)
            (ap (λ (x : Told). x.planning.withheld) hands.told ∙ b.withheld none) b.operations.counted;
        told = operations_within inner cuts c d.operations b.operations.told;
      };
      ops = b.ops;
      faults = λ n more. counted_within n inner.faults c.flash.inner.faults c.flash.faults only.faults (b.faults n more);
      failed = b.failed;
      went_off = b.went_off;
      was = b.was;
      cuts = λ n more. subst (λ (x : ℕ). WereCounted n x c.flash.inner.cuts) first (subst (WereCounted n before.planning.unplanned) (sym last) more);
      off = λ off. subst (λ (x : Bool). x ≡ true) (ap (λ (x : Told). x.off) hands.told) (off_within c.flash.inner.off c.flash.off only.flash.power off);
      withheld = b.withheld;
      worn = λ k n urgent w. worn_within r inner cuts c d.operations k n urgent only (b.worn k n urgent w);
      spare = λ t s k few small. as_same (λ image. (flash_clock d).spare k (r.free (take k d.operations) image)) _ _ (same_after inner cuts c d.operations k) (b.spare (up t) (sound s) k few small);
    }

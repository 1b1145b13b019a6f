-- What ties a device to its flash, over its calls.
use Rattle.std.specs.Prelude.{IsTrue, IfSome, IsSome, is_some, take, drop, option_map, ◌||◌}
use Rattle.std.specs.List.{list_all, list_any}
use Rattle.std.proofs.Common.{◌≡◌, ◌⊎◌, inl, inr, ℕ, zero, suc, ◌≤◌, ◌+◌, Bool, true, false, List, [], ◌∷◌, length, Option, Some, None, refl, sym, ap, ◌∙◌, subst, arith}
use Rattle.std.proofs.lemmas.Bool.{and_parts, false≢true, or_cases}
use Rattle.nv_base.specs.Count.{WereCounted}
use Rattle.memif.specs.Told.{Slot}
use Rattle.fls_model.specs.Told.{ToldBytes, Change, TellsFor, bytes_now, changes_in}
use Rattle.promise_device.specs.Bridge.{is_failed, IsWornBy}
use Rattle.promise_device.specs.FlashRun.{TellsBytes, TellsOperations, HasRoom, AreSeen, bytes_after}
use Rattle.promise_device.specs.Reading.{BeginsSound}
use Rattle.promise_device.proofs.FlashRun.{seen_all}
use Rattle.promise_device.proofs.Closings.{closings_failed}
use Rattle.fls_told.specs.Device.{FlashDevice, flash_run, is_told_sound, tells_held, told_first}
use Rattle.fls_told.specs.Clock.{TellsAfter, IsWornFor}
use Rattle.fls_told.specs.Runs.{HasRun, RunsBridge}
use Rattle.fls_told.proofs.Clocks.{some_if, if_some, held_now, slots_are}

-- THE BRIDGE
sound_told : (d : FlashDevice) → TellsBytes (flash_run d) → BeginsSound d.reading (flash_run d) → IsTrue (tells_held d)
sound_told d t sound =
    subst (λ (o : Option (List ℕ)). IsTrue (is_told_sound d.reading o)) (sym t.entry) (if_some (bytes_now d.entry) (λ image. IsTrue (d.reading.is_sound image)) t.first t.entry sound)

entry_told : (d : FlashDevice) → TellsBytes (flash_run d) → IsTrue (told_first d)
entry_told d t = ap (λ (o : Option (List ℕ)). is_some o) t.entry

after_told : (d : FlashDevice) → TellsBytes (flash_run d) → (k : ℕ) → BeginsSound d.reading (flash_run d) ⊎ (k ≡ 0) → TellsAfter d k
after_told d t k (inl sound) = inl (sound_told d t sound)
after_told d t k (inr first) = inr (first, entry_told d t)

pub told_sound : (d : FlashDevice) (first : List ℕ) → bytes_now d.entry ≡ Some first → IsTrue (tells_held d) → IsTrue (d.reading.is_sound first)
told_sound d first is told = subst (λ (o : Option (List ℕ)). IsTrue (is_told_sound d.reading o)) is told

if_changes : (o : Option (List Change)) (operations changes : List Change) → IfSome o (λ (c : List Change). c ≡ operations) → o ≡ Some changes → changes ≡ operations
if_changes (Some c) operations changes same is = (let e : c ≡ changes = cc is in sym e ∙ same)
if_changes None operations changes same is = cc

list_told : (o : Option (List Change)) → IsSome o → (changes : List Change) × (o ≡ Some changes)
list_told None some = cc some
list_told (Some changes) some = (changes, refl)

changes_told : (o : Option ToldBytes) (last : List ℕ) → option_map (λ (b : ToldBytes). b.now) o ≡ Some last → IfSome o (TellsFor 0) → (changes : List Change) × (changes_in o ≡ Some changes)
changes_told None last is tells = cc
changes_told (Some b) last is tells = list_told b.changes tells.0

tells_operations : (d : FlashDevice) → HasRun d → HasRoom (flash_run d) → TellsOperations (flash_run d)
tells_operations d has h =
    let at : length d.operations ≡ length d.operations + 0 = omega arith in
    let (changes, told) = changes_told d.flash.bytes h.bytes.last h.bytes.exit (has.room 0 (subst (λ (n : ℕ). IfSome d.entry.bytes (TellsFor n)) at h.room)) in
    record { bytes = h.bytes; changes = changes; told = told }

counted : (n own entry exit : ℕ) → WereCounted own entry exit → WereCounted n 0 own → WereCounted n entry exit
counted n own entry exit (inr big) more = inr big
counted n own entry exit (inl fits) (inl le) = inl (omega arith)
counted n own entry exit (inl fits) (inr big) = inr (omega arith)

all_drop : (P : Change → Bool) (n k : ℕ) (xs : List Change) → n ≤ k → IsTrue (list_all P (drop n xs)) → IsTrue (list_all P (drop k xs))
all_drop P n zero [] le all = refl
all_drop P n (suc k) [] le all = refl
all_drop P zero zero (x ∷ xs) le all = all
all_drop P zero (suc k) (x ∷ xs) le all = all_drop P zero k xs (omega arith) (let rest : IsTrue (list_all P (drop 0 xs)) = (and_parts (P x) (list_all P xs) all).1 in rest)
all_drop P (suc n) zero (x ∷ xs) le all = absurd (omega arith)
all_drop P (suc n) (suc k) (x ∷ xs) le all = all_drop P n k xs (omega arith) all

pub any_last : (a b : Bool) → b ≡ true → (a || b) ≡ true
any_last true b is = refl
any_last false b is = is

any_front : (P : Change → Bool) (k : ℕ) (xs : List Change) → IsTrue (list_any P (take k xs)) → IsTrue (list_any P xs)
any_front P zero xs has = absurd (false≢true has)
any_front P (suc k) [] has = absurd (false≢true has)
any_front P (suc k) (x ∷ xs) has = elim (or_cases (P x) (list_any P (take k xs)) has) [
  | inl here ↦ rw here refl
  | inr rest ↦ any_last (P x) (list_any P xs) (any_front P k xs rest)
]

worn_out : (d : FlashDevice) (k n : ℕ) (urgent : Bool) → HasRun d → IsWornFor d k n urgent → IsWornBy d.reading (flash_run d) k n urgent
worn_out d k n urgent has w =
    let since = has.worn n w.since w.is in
    record {
      last = since.last;
      follow = λ small. all_drop (λ (x : Change). d.reading.may_follow n x.op) w.since k d.operations w.from (since.follow (omega (arith, w.from)));
      full = λ told small. elim (w.full told small) [ inl room ↦ inl room | inr closed ↦ inr (has.failed (any_front (λ (x : Change). is_failed x.answer) k d.operations (closings_failed (take k d.operations) closed)), closed) ];
    }

pub runs_bridge : RunsBridge
runs_bridge d has = record {
  after = λ t k sound made small. some_if (bytes_after (flash_run d) k) _ (λ image is.
      record { told = after_told d t k sound; made = made; small = small; image = image; is = is; finds = λ n. refl });
  cut = λ t sound k image small leaves. record { told = sound_told d t.bytes sound; small = small; image = image; leaves = leaves; finds = λ n. refl };
  tells = λ t. entry_told d t;
  slots = λ t sound. ap (λ (o : Option (List Slot)). is_some o) (slots_are d t.last (held_now d (sound_told d t sound)) t.exit);
  sound = λ t sound. has.sound (sound_told d t sound);
  sound_cut = λ t sound k image small leaves. has.sound_cut (sound_told d t.bytes sound) k image leaves;
  operations = record {
    told_alike = has.alike;
    chain = has.chain;
    seen = λ t. subst (AreSeen _ 0 t.bytes.last d.operations []) (sym (if_changes (changes_in d.flash.bytes) d.operations t.changes has.changes t.told)) (seen_all _ 0 t.bytes.last d.operations);
    counted = has.counted;
    told = tells_operations d has;
  };
  ops = refl;
  faults = λ n more. counted n d.faults d.entry.faults d.flash.faults has.faults more;
  cuts = has.cuts;
  off = λ off. off;
  withheld = has.withheld;
  failed = λ k small failed. failed;
  went_off = λ k small off. inr off;
  was = λ trait k small is. is;
  worn = λ k n urgent w. worn_out d k n urgent has w;
  spare = λ t sound k made small. some_if (bytes_after (flash_run d) k) _ (λ image is.
      record { told = sound_told d t sound; made = made; small = small; image = image; is = is; few = omega arith });
}

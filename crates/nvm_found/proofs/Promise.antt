-- What the start-up and its reads keep.
use Rattle.std.proofs.Common.{◌≡◌, ℕ, true, false, ◌⊎◌, List, [], ◌∷◌, ◌++◌, length, map, IfSome, Option, Some, None, Result, Ok, Err, refl, sym, ap, ◌∙◌, subst, inl, inr, arith}
use Rattle.std.specs.Prelude.{is_some}
use Rattle.std.specs.Result.{OnOk}
use Rattle.block_machine.specs.nv_base.declared.instance.DeviceNumber.{DeviceNumber}
use Rattle.memif.specs.Told as device
use Rattle.memif.specs.Told.{DeviceTold, Slot, Held, Fixed, slot_at, is_open}
use Rattle.block_machine.specs.nv_base.Lengths.{AreLengths}
use Rattle.memif.specs.Marks.{Keeps as KeepsSlot, IfTold}
use Rattle.memif.specs.Clock.{Clock}
use Rattle.memif.specs.declared.answer.StartFault.{StartFault}
use Rattle.block_machine.specs.Words.{Instance, Mark, Found, Configuration}
use Rattle.block_machine.specs.Steps.{after}
use Rattle.block_machine.specs.Legal.{IsAllowed}
use Rattle.nvm_device_laws.specs.Turn.{Keeps, ListsSettled, StartUpsKeep, StaysDown}
use Rattle.nvm_device_laws.proofs.Pushed.{started_push}
use Rattle.nv_recorder.specs.declared.found_marks.FoundPlace.{FoundPlace}
use Rattle.nvm_found.specs.Found.{IsUp, HasFault, IsListOf, AreHeld, Finds, FindsKeep, ReadAtOnce}
use Rattle.nv_recorder.specs.FoundMarks.{number_at, AreWhole, marks_at}
use Rattle.nvm_found.specs.Places.{LeavesRead, FirstHeld, ReadsOn}
use Rattle.nvm_found.proofs.Lists.{is_list, are_held}
use Rattle.nvm_found.proofs.Allowed.{found_allowed}
use Rattle.nvm_found.proofs.Readings.{turn_if}

-- what is listed as it is settled behind the reads was settled so before them
lists_before : (c : Configuration) (marks : List (Instance × Mark)) (numbers : List (DeviceNumber × ℕ)) (o n : Option (List Slot))
    → IfTold o n (λ u v. (i : ℕ) → KeepsSlot (slot_at numbers u i) (slot_at numbers v i)) → ListsSettled c marks numbers n
    → ListsSettled c marks numbers o
lists_before c marks numbers (Some u) (Some v) each lists = λ x has. lists x has ∙ ap (λ (h : Held). h.mark) (each x.0.0).settled
lists_before c marks numbers None (Some v) each lists = absurd each
lists_before c marks numbers o None each lists = absurd lists

-- where marks are listed as they are settled, that is told
lists_told : (c : Configuration) (marks : List (Instance × Mark)) (numbers : List (DeviceNumber × ℕ)) (o : Option (List Slot)) → ListsSettled c marks numbers o → is_some o ≡ true
lists_told c marks numbers (Some u) lists = refl
lists_told c marks numbers None lists = absurd lists

-- the reads keep what the start-up asks for
pub ups_more : (old : DeviceTold) (clock : Clock) (mid : DeviceTold) (clock_mid : Clock) (new : DeviceTold) (clock_new : Clock)
    → StartUpsKeep (Ok tt) old clock mid clock_mid → ReadsOn mid clock_mid new clock_new → StartUpsKeep (Ok tt) old clock new clock_new
ups_more old clock mid clock_mid new clock_new ups reads c cap h before marks first allowed lists keeps =
    let numbers : new.fixed.numbers ≡ mid.fixed.numbers = ap (λ (f : Fixed). f.numbers) reads.fixed in
    let now : device.ops_of new ≡ device.ops_of mid = reads.ops in
    let before_reads : Keeps c cap (h ++ Found marks (device.ops_of mid) ∷ []) before mid clock_mid =
    ups c cap h before marks (elim first [ inl has ↦ inl has | inr none ↦ inr (sym reads.ops ∙ none) ])
    (subst (λ (n : ℕ). IsAllowed c cap (after c h) (Found marks n)) now allowed)
    (lists_before c marks mid.fixed.numbers mid.slots new.slots reads.marks (subst (λ ns. ListsSettled c marks ns new.slots) numbers lists)) keeps in
    subst (λ (n : ℕ). Keeps c cap (h ++ Found marks n ∷ []) before new clock_new) (sym now)
    (reads.stays c cap (h ++ Found marks (device.ops_of mid) ∷ []) before (started_push h (Found marks (device.ops_of mid))) before_reads
    (lists_told c marks new.fixed.numbers new.slots lists))

pub on_ok : {T E : Type 0} (r : Result T E) {P Q : Type 0} → (P → Q) → OnOk r P → OnOk r Q
on_ok (Ok v) f p = f p
on_ok (Err e) f p = tt

pub any_ok : {T E : Type 0} (r : Result T E) {P : Type 0} → P → OnOk r P
any_ok (Ok v) p = p
any_ok (Err e) p = tt

pub finds_keep : (old : DeviceTold) (clock : Clock) (new : DeviceTold) (clock_new : Clock)
    (marks : List (Instance × Mark)) → StartUpsKeep (Ok tt) old clock new clock_new → Finds marks old new
    → FindsKeep {E = StartFault} (Ok tt) marks old clock new clock_new
finds_keep old clock new clock_new marks ups finds c cap h before told first fits keeps =
    let (allowed, settled) = found_allowed c cap h before old clock new marks finds told fits keeps in
    (allowed, ups c cap h before marks first allowed settled keeps)

-- the marks of places are what was found
pub found_of : (old new : DeviceTold) (ps : List FoundPlace) (marks : List (Instance × Mark)) → marks ≡ marks_at ps
    → map number_at ps ≡ old.fixed.numbers → AreLengths 0 (map number_at ps) → AreWhole ps → IsUp old new → is_open new.stand ≡ false
    → (ReadAtOnce old.fixed → LeavesRead old new) → FirstHeld new (length ps) ps → Finds marks old new
found_of old new ps marks is same ascend whole up rest left held =
    let numbers : map number_at ps ≡ new.fixed.numbers = same ∙ ap (λ (f : Fixed). f.numbers) (sym up.restarted.fixed) in
    record {
      up = up;
      at_rest = rest;
      left = λ once. nothing (left once);
      lists = subst (λ ms. IsListOf new.fixed.numbers ms) (sym is) (subst (λ ns. IsListOf ns (marks_at ps)) numbers (is_list ps ascend whole));
      held = subst (λ ms. IfSome new.slots (AreHeld new.fixed.numbers ms)) (sym is) (are_held new ps numbers ascend held);
    }
  where
    -- no job is open
    nothing : LeavesRead old new → (new.left ≡ 0) ⊎ HasFault old new
    nothing (inl few) = inl (let none = ap turn_if rest in omega (arith, few, none))
    nothing (inr fault) = inr fault

-- by what was answered
pub finds_by : (r : Result (Unit {0}) StartFault) (old new : DeviceTold) (ps : List FoundPlace)
    → map number_at ps ≡ old.fixed.numbers → AreLengths 0 (map number_at ps) → AreWhole ps → is_open new.stand ≡ false → OnOk r (IsUp old new)
    → OnOk r (ReadAtOnce old.fixed → LeavesRead old new) → OnOk r (FirstHeld new (length ps) ps) → OnOk r (Finds (marks_at ps) old new)
finds_by (Ok v) old new ps same ascend whole rest up left held = found_of old new ps (marks_at ps) refl same ascend whole up rest left held
finds_by (Err fault) old new ps same ascend whole rest up left held = tt

pub finds_keep_by : (r : Result (Unit {0}) StartFault) (old : DeviceTold) (clock : Clock) (new : DeviceTold) (clock_new : Clock) (marks : List (Instance × Mark))
    → OnOk r (StartUpsKeep (Ok tt) old clock new clock_new) → OnOk r (Finds marks old new) → StaysDown old clock new clock_new → FindsKeep r marks old clock new clock_new
finds_keep_by (Ok v) old clock new clock_new marks ups finds down = finds_keep old clock new clock_new marks ups finds
finds_keep_by (Err fault) old clock new clock_new marks ups finds down = down

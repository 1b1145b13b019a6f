-- A cutter that counted no operation, and the flash within it.
use Rattle.std.specs.Prelude.{IfSome, length, ◌≢◌}
use Rattle.std.proofs.Common.{◌≡◌, inl, inr, ℕ, zero, suc, ◌+◌, true, false, List, Option, Some, None, sym, ap, ◌∙◌, arith}
use Rattle.memif_fee_ea.specs.fee_core.nv_base.Count.{Rose}
use Rattle.memif_fee_ea.specs.fee_core.nv_base.Geometry.{size_of}
use Rattle.memif_fee_ea.specs.fee_core.nv_base.declared.geometry.Geometry.{Geometry}
use Rattle.memif_fee_ea.specs.fee_core.fls_model.declared.flash.AttachFault.{AttachFault}
use Rattle.memif_fee_ea.specs.fee_core.fls_model.declared.flash.AttachFault.TheVariants.{Failed, InUse, WrongSize, Memory}
use Rattle.memif_fee_ea.specs.fee_core.fls_model.Told.{Told, ToldBytes, bytes_now}
use Rattle.fls_devices.specs.Cutter.{Cutting, cutting, told_cutting, OnlyCuts}
use Rattle.fls_devices.specs.Journal.{Journaled, bytes_over}
use Rattle.fls_devices.specs.Overlay.{ops_over}
use Rattle.nvm_flash.specs.CutterUnmade.{TellsWithin, CountsStayWithin, IsRefusal, IsRefused, RefusedWithin}
use Rattle.nvm_flash.proofs.CutterRuns.{same_entry, same_exit}

pub tells_within : TellsWithin
tells_within c only = (sym (same_exit c), omega (arith, only.faults))

-- none was kept from the flash within
ops_within : (w a b : ℕ) → w ≡ 0 → ops_over b w ≡ ops_over a 0 → b ≡ a
ops_within zero a b none same = same
ops_within (suc w) a b none same = absurd (omega (arith, none))

pub counts_stay_within : CountsStayWithin
counts_stay_within inner cuts c only stay unplanned =
    let own : c.flash.cuts ≡ 0 = omega (arith, stay.cuts, unplanned) in
    record { ops = ops_within c.flash.withheld inner.ops c.flash.inner.ops (only.none own) stay.ops; cuts = unplanned }

-- WHERE AN ATTACH WAS REFUSED
left : (inner : Told) (cuts : ℕ) (c : Cutting) (fault : AttachFault) (faults : ℕ) → OnlyCuts c → told_cutting c ≡ record (told_cutting (cutting inner cuts)) { faults = faults }
    → IsRefusal inner fault c.flash.inner → IsRefused inner fault c.flash.inner
left inner cuts c fault faults only same why = record {
  geometry = ap (λ (t : Told). t.geometry) same;
  off = λ off. absurd (let on = only.flash.power (ap (λ (t : Told). t.off) same) in let never : true ≡ false = sym off ∙ on in cc never);
  bytes = sym (same_exit c) ∙ ap bytes_now same ∙ same_entry inner cuts;
  counts = counts_stay_within inner cuts c only
      (record { ops = ap (λ (t : Told). t.ops) same; cuts = ap (λ (t : Told). t.cuts) same }) (ap (λ (t : Told). t.planning.unplanned) same);
  why = why;
}

rose_within : (c : Cutting) (a : ℕ) → OnlyCuts c → Rose (a + 0) (told_cutting c).faults → Rose a c.flash.inner.faults
rose_within c a only (inl more) = inl (omega (arith, only.faults, more))
rose_within c a only (inr big) = inr (omega (arith, big.0), omega (arith, only.faults, big.1))

pub size_within : (j : Journaled) (g : Geometry) (b : Option ToldBytes) (P : List ℕ → Type 0) → IfSome (bytes_over j g b) (λ (x : ToldBytes). P x.now) → IfSome b (λ (x : ToldBytes). P x.now)
size_within j g None P has = tt
size_within j g (Some b) P has = has

size_of_found : (g : Geometry) (b : Option ToldBytes) (found : ℕ) → IfSome b (λ x. (length x.now ≡ found) × (found ≢ 0) × (found ≢ size_of g)) → IfSome b (λ x. length x.now ≡ found)
size_of_found g None found has = tt
size_of_found g (Some b) found has = has.0

pub refused_within : RefusedWithin
refused_within g inner cuts c Failed only (rose, same) =
    left inner cuts c Failed (told_cutting c).faults only same (rose_within c inner.faults only rose)
refused_within g inner cuts c InUse only (rose, same) =
    left inner cuts c InUse (told_cutting c).faults only same (rose_within c inner.faults only rose)
refused_within g inner cuts c (WrongSize found) only (size, same) =
    let first = told_cutting (cutting inner cuts) in
    let found_size : IfSome first.bytes (λ (b : ToldBytes). length b.now ≡ found) = size_of_found g first.bytes found size in
    left inner cuts c (WrongSize found) first.faults only same (
      size_within (cutting inner cuts).flash.journal inner.geometry inner.bytes (λ bytes. length bytes ≡ found) found_size,
      omega (arith, only.faults, ap (λ (t : Told). t.faults) same),
    )
refused_within g inner cuts c Memory only same =
    left inner cuts c Memory (told_cutting (cutting inner cuts)).faults only same (omega (arith, only.faults, ap (λ (t : Told). t.faults) same))

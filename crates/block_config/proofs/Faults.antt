-- The first fault of a configuration's items.
use Rattle.std.proofs.Common.{◌≡◌, ◌<◌, ℕ, zero, suc, ◌+◌, ◌-◌, Bool, true, false, if◌then◌else◌, List, [], ◌∷◌, length, map, get_or, slice_index, ◌≤◌, Option, Some, None, refl, subst, arith, All}
use Rattle.std.proofs.Math.ListN.{get_or-map}
use Rattle.std.proofs.lemmas.List.{length-map}
use Rattle.std.specs.List.{range_with_len, AllPass}
use Rattle.std.specs.Option.{option_map_or}
use Rattle.std.proofs.lemmas.List.Elements.{All-nil, All-cons, All-map}
use Rattle.serde_json.specs.Data.{Data}
use Rattle.serde_json.specs.View.{view}
use Rattle.serde_json.specs.declared.value.Value.{Value}
use Rattle.block_config.specs.declared.block.BlockDesc.{BlockDesc}
use Rattle.block_config.specs.declared.fault.ConfigFault.{ConfigFault}
use Rattle.block_config.specs.declared.fault.ConfigFault.TheVariants.{Broken}
use Rattle.block_config.specs.Item.{keeps, block_of}
use Rattle.block_config.specs.Reading.{breaker, first_fault, item_rules}
use Rattle.block_config.specs.Rules.{IsLegalBlock}
use Rattle.block_config.proofs.LegalItem.{block_legal, device_legal}

-- a rule's fault at a block, or else a later one
abbrev fault_or : ℕ → Option ℕ → Option ConfigFault → Option ConfigFault
fault_or number broken later = option_map_or (λ block. Some (Broken number block)) broken later

-- a rule that is kept leaves the fault to the rules behind it
pub first_fault-kept : (r : ℕ) (ds : List Data) → r < 23 → breaker r 2 ds ≡ None → first_fault (range_with_len r (23 - r)) ds ≡ first_fault (range_with_len (r + 1) (23 - (r + 1))) ds
first_fault-kept r ds below kept =
    let more : 23 - r ≡ suc (23 - (r + 1)) = omega arith in
    rw (more, kept) refl

pub kept_and_later : (b : Bool) (o : Option ℕ) (id : ℕ) → (if b then o else Some id) ≡ None → (b ≡ true) × (o ≡ None)
kept_and_later true o id h = (refl, h)
kept_and_later false o id h = cc h

-- where no item breaks a rule, each keeps it
kept_by_each : (r id : ℕ) (ds : List Data) → breaker r id ds ≡ None → AllPass (keeps r) ds
kept_by_each r id [] h = All-nil (λ (d : Data). keeps r d ≡ true)
kept_by_each r id (x ∷ ds) h =
    let here = kept_and_later (keeps r x) (breaker r (id + 1) ds) id h in
    All-cons (λ (d : Data). keeps r d ≡ true) x ds here.0 (kept_by_each r (id + 1) ds here.1)

no_fault : (r : ℕ) (o : Option ℕ) (later : Option ConfigFault) → fault_or r o later ≡ None → (o ≡ None) × (later ≡ None)
no_fault r None later h = (refl, h)
no_fault r (Some block) later h = cc h

broken_by_none : (rs : List ℕ) (ds : List Data) (k : ℕ) → first_fault rs ds ≡ None → k < length rs → breaker (slice_index rs k) 2 ds ≡ None
broken_by_none [] ds k h within = absurd (omega arith)
broken_by_none (r ∷ rs) ds zero h within = (no_fault r (breaker r 2 ds) (first_fault rs ds) h).0
broken_by_none (r ∷ rs) ds (suc k) h within = broken_by_none rs ds k (no_fault r (breaker r 2 ds) (first_fault rs ds) h).1 (omega arith)

-- where there is no fault, each item keeps each rule: the k-th from 11 on
kept : (ds : List Data) → first_fault item_rules ds ≡ None → (k : ℕ) → k < 12 → AllPass (keeps (slice_index item_rules k)) ds
kept ds h k within = kept_by_each (slice_index item_rules k) 2 ds (broken_by_none item_rules ds k h within)

pub rom_kept : (vs : List Value) → first_fault item_rules (map view vs) ≡ None → All (λ v. keeps 18 (view v) ≡ true) vs
rom_kept vs h =
    λ k v lt. subst (λ (d : Data). keeps 18 d ≡ true) (get_or-map view vs k v) (kept (map view vs) h 7 (omega arith) k (view v) (rw length-map lt))

pub blocks_legal : (ds : List Data) → first_fault item_rules ds ≡ None → All IsLegalBlock (map block_of ds)
blocks_legal ds h =
    All-map IsLegalBlock block_of ds
    (λ k d lt. block_legal (get_or ds k d) (kept ds h 2 (omega arith) k d lt) (kept ds h 3 (omega arith) k d lt) (kept ds h 5 (omega arith) k d lt) (kept ds h 6 (omega arith) k d lt) (kept ds h 7 (omega arith) k d lt) (kept ds h 9 (omega arith) k d lt) (kept ds h 10 (omega arith) k d lt) (kept ds h 11 (omega arith) k d lt))

pub devices_legal : (ds : List Data) → first_fault (25 ∷ []) ds ≡ None → All (λ (b : BlockDesc). b.device ≤ 1) (map block_of ds)
devices_legal ds named =
    let each = kept_by_each 25 2 ds (no_fault 25 (breaker 25 2 ds) None named).0 in
    All-map (λ (b : BlockDesc). b.device ≤ 1) block_of ds (λ k d lt. device_legal (get_or ds k d) (each k d lt))

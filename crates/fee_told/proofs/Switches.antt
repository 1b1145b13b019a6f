-- A switch's turns.
use Rattle.std.proofs.Common.{◌≡◌, inl, ℕ, ◌<◌, ◌+◌, ◌-◌, ◌*◌, List, length, refl, sym, ap, ◌∙◌, subst, arith}
use Rattle.std.proofs.lemmas.List.{length-replicate}
use Rattle.nv_base.specs.declared.geometry.Geometry.{Geometry}
use Rattle.nv_base.specs.declared.instance.DeviceNumber.{DeviceNumber}
use Rattle.nv_base.specs.Held.{Held, never_written}
use Rattle.nv_base.specs.Geometry.{pages_of_sector}
use Rattle.memif.specs.Told.{Stand, at_number}
use Rattle.fls_model.specs.Op.{MayLeave}
use Rattle.fee_format.specs.Formats.{new_format}
use Rattle.fee_format.specs.BankHead.{bank_head_page}
use Rattle.fee_format.specs.Pages.{gate_page}
use Rattle.fee_image.specs.Image.{Layout, layout_of, bank_in}
use Rattle.fee_image.specs.LogLaws.{erased_log}
use Rattle.fee_image.specs.Log.{Log}
use Rattle.fee_image.specs.May.{May}
use Rattle.fee_image.specs.Step.{page_due, bytes_due, log_done, may_done}
use Rattle.fee_image.specs.Banks.{Old, NoBank, OldBank, Phase, Idle, Erasing, Copying, Sealing, Holds, HoldsOld, HoldsPhase, next_head}
use Rattle.fee_image.specs.BankLaws.{program_of}
use Rattle.fee_image.proofs.Erases.{copies_begin as image_copies_begin, erases_done, erases_fail as image_erases_fail, erases_keep_sound, switches_begin as image_switches_begin}
use Rattle.fee_image.proofs.Pages.{copies_done}
use Rattle.fee_image.proofs.Seals.{copies_fail as image_copies_fail, copies_keep_sound, gates_done, gates_fail as image_gates_fail, gates_keep_sound, heads_done, logs_keep_sound}
use Rattle.fee_image.proofs.Steps.{next_is_fresh}
use Rattle.fee_told.specs.Slots.{Memory, banks_with, IsWorkOf, HasJob, settled_in, may_told, AreCopied, IsCopied}
use Rattle.fee_told.specs.SlotLaws.{IsHeld, IsBehindLog, GoesOn}
use Rattle.fee_told.specs.Kept.{IsKept}
use Rattle.fee_told.specs.Switches.{Stands, SwitchesBegin, CopiesBegin, IsErasing, ErasesFail, ErasesGoOn, CopiesFail, CopiesGoOn, HeadsGoOn, GatesFail, GatesEnd}
use Rattle.fee_told.proofs.Kept.{none_open, same_places, kept_by, kept_memory}
use Rattle.fee_told.proofs.Held.{copies_are_told, held_anew}
use Rattle.fee_told.proofs.Places.{erases_keep_settled, programs_keep_settled}
use Rattle.fee_told.proofs.Steps.{steps_seal}

-- IN MEMORY ALONE
pub switches_begin : SwitchesBegin
switches_begin l numbers bytes m before copied target stands is inside other =
    let told = may_told l numbers bytes m in
    kept_memory l numbers bytes m (record m { target = target; phase = Erasing 0 }) before told copied stands.lengths stands.held
    (image_switches_begin l numbers bytes (banks_with m told before) target copied stands.held.banks is inside other) (same_places m.old) (inl refl) stands.held.job tt

pub copies_begin : CopiesBegin
copies_begin l numbers bytes m copied n stands is all erased =
    let told = may_told l numbers bytes m in
    kept_memory l numbers bytes m (record m { phase = Copying (erased_log numbers) }) copied told copied stands.lengths stands.held
    (image_copies_begin l numbers bytes (banks_with m told copied) n stands.legal stands.held.banks is all erased) (same_places m.old) (inl refl) stands.held.job tt

-- ERASES
copied_erasing : (l : Layout) (numbers : List (DeviceNumber × ℕ)) (bytes : List ℕ) (phase : Phase) (old : Old) (copied : May) (n : ℕ) → phase ≡ Erasing n → IsCopied l numbers bytes phase old copied
copied_erasing l numbers bytes phase old copied n is = subst (λ (p : Phase). IsCopied l numbers bytes p old copied) (sym is) tt

module _ (g : Geometry) (banks : ℕ) (numbers : List (DeviceNumber × ℕ)) (old new : List ℕ) (m : Memory) (copied : May) (sector : ℕ) (step : IsErasing g banks numbers old new m copied sector) where
  abbrev l : Layout
  l = layout_of g banks

  abbrev told : May
  told = may_told l numbers old m

  settled_stay : settled_in l numbers new m.old ≡ settled_in l numbers old m.old
  settled_stay = erases_keep_settled g banks numbers old new (banks_with m told copied) sector m.old step.shape step.shared step.stands.held.banks step.inside step.leaves (same_places m.old)

  erase_fails : (stand : Stand) → GoesOn m.stand stand → HasJob numbers stand m.old → IsKept l numbers old new m (record m { stand = stand }) copied
  erase_fails stand goes job =
      kept_by l numbers old new m (record m { stand = stand }) copied step.stands.lengths
      (image_erases_fail g banks numbers old new (banks_with m told copied) sector step.shape step.shared step.sound step.stands.held.banks step.phase step.inside step.leaves)
      settled_stay goes job (copied_erasing l numbers new m.phase m.old copied (sector * pages_of_sector g) step.phase) (erases_keep_sound g banks old new m.target sector step.leaves)

pub erases_fail : ErasesFail
erases_fail g banks numbers old new m copied sector stand step goes job = erase_fails g banks numbers old new m copied sector step stand goes job

pub erases_go_on : ErasesGoOn
erases_go_on g banks numbers old new m copied sector step is =
    let l = layout_of g banks in
    let told = may_told l numbers old m in
    let next = (sector + 1) * pages_of_sector g in
    kept_by l numbers old new m (record m { phase = Erasing next }) copied step.stands.lengths
    (erases_done g banks numbers old new (banks_with m told copied) sector step.shape step.shared step.sound step.stands.held.banks step.phase step.inside step.leaves is)
    (settled_stay g banks numbers old new m copied sector step) (inl refl) step.stands.held.job tt (erases_keep_sound g banks old new m.target sector step.leaves)

-- THE TARGET'S PAGES
behind_target : (l : Layout) (numbers : List (DeviceNumber × ℕ)) (bytes : List ℕ) (t q : ℕ) (o : Old) (may : May) → HoldsOld l numbers bytes t o may → IsBehindLog o t q
behind_target l numbers bytes t q NoBank may holds = tt
behind_target l numbers bytes t q (OldBank k h log) may holds = λ same. absurd (holds.0 (sym same))

phase_of : (l : Layout) (numbers : List (DeviceNumber × ℕ)) (bytes : List ℕ) (m : Memory) (may copied : May) (phase : Phase) → m.phase ≡ phase → Holds l numbers bytes (banks_with m may copied) → HoldsPhase l numbers bytes (banks_with m may copied) phase
phase_of l numbers bytes m may copied phase is holds = subst (HoldsPhase l numbers bytes (banks_with m may copied)) is holds.phase

-- an erase's target may be copied to as one likes
recopied : (l : Layout) (numbers : List (DeviceNumber × ℕ)) (bytes : List ℕ) (m : Memory) (may before copied : May) (n : ℕ) → Holds l numbers bytes (banks_with (record m { phase = Erasing n }) may before) → Holds l numbers bytes (banks_with (record m { phase = Erasing n }) may copied)
recopied l numbers bytes m may before copied n h = record { size = h.size; target = h.target; old = h.old; behind = h.behind; phase = h.phase }

module _ (l : Layout) (numbers : List (DeviceNumber × ℕ)) (old new page : List ℕ) (m : Memory) (copied : May) (q : ℕ) (stands : Stands l numbers old m copied) (size : length page ≡ l.page) (lt : q < l.pages) (leaves : MayLeave (program_of l m.target q page) old new) where
  abbrev before : May
  before = may_told l numbers old m

  page_stays : settled_in l numbers new m.old ≡ settled_in l numbers old m.old
  page_stays =
      programs_keep_settled l numbers old new page (banks_with m before copied) m.target q m.old stands.legal stands.held.banks size lt leaves
      (behind_target l numbers old m.target q m.old before stands.held.banks.old) (same_places m.old)

  -- the settled marks are still those that are copied
  still_copied : AreCopied l numbers old m.old copied → AreCopied l numbers new m.old copied
  still_copied are n length x has among = are n length x has among ∙ ap (λ (marks : List Held). at_number never_written numbers marks n) (sym page_stays)

pub copies_fail : CopiesFail
copies_fail l numbers old new page m before copied q log stand stands is size lt other leaves goes job =
    let told = may_told l numbers old m in
    kept_by l numbers old new m (record m { phase = Erasing 0; stand = stand }) copied stands.lengths
    (recopied l numbers new m told before copied 0 (image_copies_fail l numbers old new page (banks_with m told before) q log stands.legal stands.held.banks is size lt other leaves))
    (page_stays l numbers old new page m before q stands size lt leaves) goes job tt
    (copies_keep_sound l numbers old new page (banks_with m told before) q log stands.legal stands.held.banks is size lt other leaves)

pub copies_go_on : CopiesGoOn
copies_go_on l numbers old new m copied log stands is due size leaves done =
    let told = may_told l numbers old m in
    let holds = phase_of l numbers old m told copied (Copying log) is stands.held.banks in
    let fresh = next_is_fresh (bank_in l new_format m.target) numbers old copied log holds.holds due in
    kept_by l numbers old new m (record m { phase = Copying (log_done l.page numbers log) }) (may_done l.page copied log) stands.lengths
    (copies_done l numbers old new (banks_with m told copied) log stands.legal stands.held.banks is due size leaves done)
    (page_stays l numbers old new (bytes_due l.page log) m copied (page_due log) stands size fresh.high leaves) (inl refl) stands.held.job tt
    (logs_keep_sound l old new (bytes_due l.page log) m.target (page_due log) stands.legal size fresh.low fresh.high leaves)

pub heads_go_on : HeadsGoOn
heads_go_on l numbers old new m copied log stands is last copies leaves done =
    let told = may_told l numbers old m in
    let head = bank_head_page l.page (next_head m.old) in
    let size : length head ≡ l.page = omega (arith, stands.legal.page, length-replicate {A = ℕ} (l.page - 12) 255) in
    let lt : 0 < l.pages = omega (arith, stands.legal.pages) in
    kept_by l numbers old new m (record m { phase = Sealing log }) copied stands.lengths
    (heads_done l numbers old new (banks_with m told copied) log stands.legal stands.held.banks is last (copies_are_told l numbers old m copied copied stands.held copies) leaves done)
    (page_stays l numbers old new head m copied 0 stands size lt leaves) (inl refl) stands.held.job
    (still_copied l numbers old new head m copied 0 stands size lt leaves copies)
    (copies_keep_sound l numbers old new head (banks_with m told copied) 0 log stands.legal stands.held.banks is size lt (λ e. omega (arith, e)) leaves)

-- THE GATE
seal_of : (l : Layout) (numbers : List (DeviceNumber × ℕ)) (bytes : List ℕ) (m : Memory) (copied : May) (log : Log) → m.phase ≡ Sealing log → IsHeld l numbers bytes m copied → AreCopied l numbers bytes m.old copied
seal_of l numbers bytes m copied log is held = subst (λ (p : Phase). IsCopied l numbers bytes p m.old copied) is held.seal

copied_sealing : (l : Layout) (numbers : List (DeviceNumber × ℕ)) (bytes : List ℕ) (m : Memory) (copied : May) (log : Log) → m.phase ≡ Sealing log → AreCopied l numbers bytes m.old copied → IsCopied l numbers bytes m.phase m.old copied
copied_sealing l numbers bytes m copied log is are = subst (λ (p : Phase). IsCopied l numbers bytes p m.old copied) (sym is) are

pub gates_fail : GatesFail
gates_fail l numbers old new m copied log stand stands is leaves goes job =
    let told = may_told l numbers old m in
    let gate = gate_page l.page in
    let size : length gate ≡ l.page = length-replicate l.page 0 in
    let lt : 1 < l.pages = omega (arith, stands.legal.pages) in
    kept_by l numbers old new m (record m { stand = stand }) copied stands.lengths
    (image_gates_fail l numbers old new (banks_with m told copied) log stands.legal stands.held.banks is leaves)
    (page_stays l numbers old new gate m copied 1 stands size lt leaves) goes job
    (copied_sealing l numbers new m copied log is (still_copied l numbers old new gate m copied 1 stands size lt leaves (seal_of l numbers old m copied log is stands.held)))
    (gates_keep_sound l numbers old new (banks_with m told copied) log stands.legal stands.held.banks is leaves)

pub gates_end : GatesEnd
gates_end l numbers old new m copied log next stands is empty leaves done inside other =
    let told = may_told l numbers old m in
    let t : Memory = record { old = OldBank m.target (next_head m.old) log; target = next; phase = Idle; stand = m.stand } in
    let holds : Holds l numbers new (banks_with t copied copied) = gates_done l numbers old new (banks_with m told copied) log next stands.legal stands.held.banks is leaves done inside other in
    record {
      held = held_anew l numbers new t copied copied stands.lengths holds (subst (IsWorkOf numbers log.places m.stand) (sym empty) (none_open numbers log.places m.stand)) tt;
      keeps = steps_seal l numbers old new m t copied copied copied stands.held holds (seal_of l numbers old m copied log is stands.held) (inl refl);
      sound = gates_keep_sound l numbers old new (banks_with m told copied) log stands.legal stands.held.banks is leaves;
    }

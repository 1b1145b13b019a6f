-- The banks behind a start-up and with a switch that was opened.
use Rattle.std.proofs.Common.{◌≡◌, ◌<◌, ◌≤◌, ◌*◌, ℕ, List, length, Option, Some, None, sym, ap, subst, arith}
use Rattle.std.specs.Prelude.{IfSome}
use Rattle.nv_base.specs.Geometry.{pages_of_sector}
use Rattle.fee_image.specs.Image.{IsLegalLayout, active_of}
use Rattle.fee_image.specs.Log.{Log}
use Rattle.fee_image.specs.May.{May}
use Rattle.fee_image.specs.Banks.{OldBank, Phase, Idle, Erasing, Holds}
use Rattle.fee_image.specs.BankLaws.{found_alone}
use Rattle.fee_image.proofs.Erases.{switches_begin as image_switches_begin}
use Rattle.fee_image.proofs.Sectors.{layouts_are_legal}
use Rattle.fee_image.proofs.Shows.{banks_show}
use Rattle.fee_image.proofs.Starts.{banks_load, no_bank_loads}
use Rattle.fee_log.specs.Index.{clear_flags}
use Rattle.fee_log.specs.Log.{tail_with}
use Rattle.fee_switch.specs.declared.active.ActiveBank.{ActiveBank}
use Rattle.fee_switch.specs.Active.{active_shown}
use Rattle.fee_course.specs.declared.course.Course.{Course}
use Rattle.fee_switch.specs.Start.{IsLoadedAs}
use Rattle.fee_switch.specs.Banks.{BanksState}
use Rattle.fee_switch_laws.specs.Shown.{Bodies, old_shown, phase_shown, layout_in}
use Rattle.fee_switch_laws.specs.BankBytes.{StartsHold, BeginsHold, StartsFind}

module _ (s : BanksState) (bodies : Bodies) (bytes : List ℕ) (copied : May) (legal : IsLegalLayout (layout_in s)) (size : (layout_in s).pages * (layout_in s).page * s.banks ≤ length bytes) (inside : s.target < s.banks) where
  by_active : (active : Option ActiveBank) → active_shown active ≡ active_of (layout_in s) bytes → IfSome active (λ a. IsLoadedAs (layout_in s) bytes a.bank a.head s.log)
      → IfSome active (λ a. (a.bank ≡ s.target → ⊥) × (s.log.bank ≡ a.bank))
      → Holds (layout_in s) s.log.numbers bytes (record { old = old_shown active s.log bodies.append; target = s.target; phase = Idle; may = found_alone (layout_in s) bytes; copied = copied })
  by_active None active loaded other = no_bank_loads (layout_in s) s.log.numbers bytes s.target copied size (sym active) inside
  by_active (Some a) active loaded other =
      let tail = tail_with s.log.tail bodies.append in
      let h = banks_load (layout_in s) s.log.numbers bytes a.bank s.target a.head tail copied legal size (sym active) inside (λ e. other.0 (sym e)) (loaded.tail bodies.append) in
      subst (λ (log : Log). Holds (layout_in s) s.log.numbers bytes (record { old = OldBank a.bank a.head log; target = s.target; phase = Idle; may = found_alone (layout_in s) bytes; copied = copied }))
      (sym (loaded.loaded bodies.append)) h

pub starts_hold : StartsHold
starts_hold s bodies bytes copied is size =
    let h = by_active s bodies bytes copied (layouts_are_legal s.geometry s.banks is.state.legal is.state.shared) size is.state.target s.active is.active is.loaded is.state.active in
    subst (λ (c : Option Course). Holds (layout_in s) s.log.numbers bytes (record { old = old_shown s.active s.log bodies.append; target = s.target; phase = phase_shown c s bodies.copy; may = found_alone (layout_in s) bytes; copied = copied }))
    (sym is.closed) h

pub starts_find : StartsFind
starts_find s bodies bytes may copied is holds = banks_show (layout_in s) s.log.numbers bytes _ (layouts_are_legal s.geometry s.banks is.legal is.shared) holds

module _ (s : BanksState) (bodies : Bodies) (bytes : List ℕ) (may copied then : May) (inside : s.target < s.banks) where
  begun_by : (active : Option ActiveBank) (phase : Phase) → phase ≡ Idle → IfSome active (λ a. (a.bank ≡ s.target → ⊥) × (s.log.bank ≡ a.bank))
      → Holds (layout_in s) s.log.numbers bytes (record { old = old_shown active s.log bodies.append; target = s.target; phase = phase; may = may; copied = copied })
      → Holds (layout_in s) s.log.numbers bytes (record { old = old_shown active (record s.log { flags = clear_flags s.log.numbers }) bodies.append; target = s.target; phase = Erasing 0; may = may; copied = then })
  begun_by None phase idle other holds = image_switches_begin (layout_in s) s.log.numbers bytes _ s.target then holds idle inside tt
  begun_by (Some a) phase idle other holds = image_switches_begin (layout_in s) s.log.numbers bytes _ s.target then holds idle inside (λ e. other.0 (sym e))

pub begins_hold : BeginsHold
begins_hold s bodies bytes may copied then is closed holds =
    let idle : phase_shown s.course s bodies.copy ≡ Idle = ap (λ (c : Option Course). phase_shown c s bodies.copy) closed in
    let none : 0 ≡ 0 * pages_of_sector s.geometry = omega arith in
    let h = begun_by s bodies bytes may copied then is.target s.active (phase_shown s.course s bodies.copy) idle is.active holds in
    subst (λ (n : ℕ). Holds (layout_in s) s.log.numbers bytes (record { old = old_shown s.active (record s.log { flags = clear_flags s.log.numbers }) bodies.append; target = s.target; phase = Erasing n; may = may; copied = then })) none h

-- The bank gate, done and failed.
use Rattle.std.proofs.Common.{◌≡◌, ◌<◌, ◌≤◌, ◌+◌, ℕ, Bool, List, [], Option, Some, None, sym, ap, refl, subst, cond, eqb, arith}
use Rattle.std.proofs.lemmas.Bool.{cond_both, eqb-true, eqb-false}
use Rattle.nv_base.specs.declared.instance.DeviceNumber.{DeviceNumber}
use Rattle.fls_model.specs.declared.flash.FlashAnswer.TheVariants.{Done, Failed}
use Rattle.fls_model.specs.Op.{MayLeave, after_op}
use Rattle.fee_format.specs.Formats.{new_format}
use Rattle.fee_image.specs.Log.{Log}
use Rattle.fee_image.specs.May.{May}
use Rattle.fee_image.specs.Banks.{OldBank, Phase, Idle, Sealing, Holds, next_head}
use Rattle.fee_log.specs.Log.{log_of}
use Rattle.fee_switch.specs.declared.active.ActiveBank.{ActiveBank}
use Rattle.fee_course.specs.declared.course.Course.{Course}
use Rattle.fee_course.specs.declared.course.Course.TheVariants.{Gate as CourseGate}
use Rattle.fee_switch.specs.declared.target.Stage.TheVariants.{Gate}
use Rattle.fee_switch.specs.Target.{IsTarget, HoldsTarget}
use Rattle.fee_switch.specs.Banks.{BanksState, IsBanksState, target_at, target_after, stood, next_generation, ended, fallen_back}
use Rattle.fee_switch.proofs.Targets.{targets_hold}
use Rattle.fee_switch_laws.specs.Shown.{Bodies, old_shown, phase_shown, layout_in, banks_shown, HoldsBanks}
use Rattle.fee_switch_laws.specs.BankBytes.{gate_of, GatesStand, GatesFail}

pub next_inside : (banks : ℕ) (target : ℕ) → 2 ≤ banks → target < banks → cond (eqb (target + 1) banks) 0 (target + 1) < banks
next_inside banks target two lt = cond_both (eqb (target + 1) banks) 0 (target + 1) (λ (x : ℕ). x < banks) (λ _. omega arith) (λ e. let h = eqb-false (target + 1) banks e in omega arith)

pub next_other : (banks : ℕ) (target : ℕ) → 2 ≤ banks → cond (eqb (target + 1) banks) 0 (target + 1) ≡ target → ⊥
next_other banks target two = cond_both (eqb (target + 1) banks) 0 (target + 1) (λ (x : ℕ). x ≡ target → ⊥) (λ e same. let h = eqb-true (target + 1) banks e in omega arith) (λ _ same. omega arith)

pub same_head : (active : Option ActiveBank) (s : BanksState) (body : List ℕ) → next_head (old_shown active s.log body) ≡ record { format = new_format; generation = next_generation active }
same_head None s body = refl
same_head (Some a) s body = refl

module _ (s : BanksState) (bodies : Bodies) (old new : List ℕ) (may copied : May) (failed : Bool) (is : IsBanksState s) (course : s.course ≡ Some (CourseGate failed)) (holds : HoldsBanks s bodies old may copied) (leaves : MayLeave (gate_of s) old new) where
  abbrev log : Log
  log = log_of s.copies bodies.copy

  phase : phase_shown s.course s bodies.copy ≡ Sealing log
  phase = ap (λ (c : Option Course). phase_shown c s bodies.copy) course

  target : IsTarget (target_at s Gate)
  target = record { legal = is.legal; shared = is.shared; bank = is.target; working = tt }

  held : HoldsTarget (target_at s Gate) s.log.numbers old (banks_shown s bodies may copied) log
  held = record { banks = holds; target = refl; phase = phase; ready = tt; safe = tt }

  inside : target_after s.banks (stood s) < s.banks
  inside = next_inside s.banks s.target is.shared.low is.target

  other : target_after s.banks (stood s) ≡ s.target → ⊥
  other = next_other s.banks s.target is.shared.low

  stands : new ≡ after_op (gate_of s) old → HoldsBanks (ended s) (record { append = bodies.copy; copy = [] }) new copied copied
  stands done =
      let h = targets_hold (target_at s Gate) s.log.numbers old new (banks_shown s bodies may copied) log (target_after s.banks (stood s)) Done target held inside other leaves done in
      subst (λ (ns : List (DeviceNumber × ℕ)). Holds (layout_in s) ns new (record { old = OldBank s.target (record { format = new_format; generation = next_generation s.active }) log; target = target_after s.banks (stood s); phase = Idle; may = copied; copied = copied })) (sym is.numbers)
      (rw (← same_head s.active s bodies.append) h)

  fails : HoldsBanks (fallen_back s (CourseGate failed)) bodies new may copied
  fails =
      let h = targets_hold (target_at s Gate) s.log.numbers old new (banks_shown s bodies may copied) log (target_after s.banks (stood s)) Failed target held inside other leaves leaves in
      subst (λ (p : Phase). Holds (layout_in s) s.log.numbers new (record { old = old_shown s.active s.log bodies.append; target = s.target; phase = p; may = may; copied = copied })) phase h

pub gates_stand : GatesStand
gates_stand s bodies old new may copied failed is course holds leaves done = stands s bodies old new may copied failed is course holds leaves done

pub gates_fail : GatesFail
gates_fail s bodies old new may copied failed is course holds leaves = fails s bodies old new may copied failed is course holds leaves

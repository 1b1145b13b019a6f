-- A turn takes one of the turns that are left.
use Rattle.std.specs.Prelude.{IsTrue, ◌&&◌, not, is_some, if◌then◌else◌}
use Rattle.std.proofs.Common.{◌≡◌, ◌⊎◌, inl, inr, ◌+◌, ℕ, Bool, true, false, List, Option, Some, None, refl, sym, ◌∙◌, subst, arith}
use Rattle.nv_base.specs.Count.{Rose}
use Rattle.nv_base.specs.declared.mark.Mark.{Mark}
use Rattle.memif.specs.declared.answer.DeviceTurn.{DeviceTurn}
use Rattle.memif.specs.declared.answer.DeviceTurn.TheVariants as turn
use Rattle.memif.specs.Told.{Job, Stand, Open, is_open}
use Rattle.fls_model.specs.Told.{Told}
use Rattle.fee_switch_laws.specs.fee_log.Log.{work_in}
use Rattle.fee_course.specs.declared.course.Course.{Course}
use Rattle.fee_course.specs.declared.course.Course.TheVariants as course
use Rattle.fee_switch_laws.specs.fee_switch.Banks.{BanksState}
use Rattle.fee_switch_laws.specs.Shown.{phase_shown}
use Rattle.promise_device.specs.Making.{Making}
use Rattle.fee_told.specs.Device.{Device, is_switching}
use Rattle.fee_told.specs.Figures.{OpenWork, turns_owed, turns_of, left_of}
use Rattle.fee_told.specs.Turns.{owes_gate, is_sealing, gates_left, has_failed, TakesTurn}
use Rattle.fee_laws.specs.Inside.{Parts, body_of, device_of}

-- NO GATE IS LEFT
-- but where a switch ends
none_by : (opened sealing on owed : Bool) → (sealing ≡ true → on ≡ true) → ◌≡◌ {A = ℕ} (if opened && sealing && not on && owed then 1 else 0) 0
none_by false sealing on owed goes = refl
none_by true false on owed goes = refl
none_by true true true owed goes = refl
none_by true true false owed goes = let none : false ≡ true = goes refl in cc none

none_left : (d t : Device) → (is_sealing d.memory.phase ≡ true → is_switching t.memory.phase ≡ true) → gates_left d t ≡ 0
none_left d t goes = none_by (is_open d.memory.stand) (is_sealing d.memory.phase) (is_switching t.memory.phase) (owes_gate d.memory.old) goes

sealing_open : (c : Option Course) (b : BanksState) (body : List ℕ) → is_sealing (phase_shown c b body) ≡ true → is_some c ≡ true
sealing_open None b body is = cc is
sealing_open (Some c) b body is = refl

open_switching : (c : Option Course) (b : BanksState) (body : List ℕ) → is_some c ≡ true → is_switching (phase_shown c b body) ≡ true
open_switching None b body is = cc is
open_switching (Some (course.Erase n)) b body is = refl
open_switching (Some (course.Copy w)) b body is = refl
open_switching (Some course.Head) b body is = refl
open_switching (Some (course.Gate failed)) b body is = refl

-- ONE TURN LESS
less_one : (a b gates : ℕ) → b + 1 ≡ a → gates ≡ 0 → a ≡ b + 1 + gates
less_one a b gates one none = omega (arith, one, none)

module _ (m : Making) (entry : Told) (s t : Parts) where
  abbrev d : Device
  d = device_of m entry s

  abbrev e : Device
  e = device_of m entry t

  -- while a switch that is open goes on
  pub takes_one : (is_some s.banks.course ≡ true → is_some t.banks.course ≡ true) → e.left + 1 ≡ d.left → TakesTurn turn.Worked d e
  takes_one goes one =
      let none = none_left d e (λ is. open_switching t.banks.course t.banks (body_of (work_in t.banks.copies.tail) t.banks.buffer) (goes (sealing_open s.banks.course s.banks (body_of (work_in s.banks.copies.tail) s.banks.buffer) is))) in
      inr (inr (less_one d.left e.left (gates_left d e) one none))

-- of a job that isn't a read
taken_by : (mark : Option Mark) (w next : OpenWork) → (mark ≡ None → ⊥) → next.pages + turns_owed next.owed + next.switch + 1 ≡ w.pages + turns_owed w.owed + w.switch → turns_of mark next + next.switch + 1 ≡ turns_of mark w + w.switch
taken_by None w next other one = absurd (other refl)
taken_by (Some mark) w next other one = one

pub job_takes : (j : Job) (w next : OpenWork) → (j.mark ≡ None → ⊥) → next.pages + turns_owed next.owed + next.switch + 1 ≡ w.pages + turns_owed w.owed + w.switch → left_of (Open j) next + 1 ≡ left_of (Open j) w
job_takes j w next other one = taken_by j.mark w next other one

-- WHAT WAS BEGUN
less_begun : (a mid b gates gates' : ℕ) → mid ≡ a → mid ≡ b + 1 + gates' → gates ≡ 0 → gates' ≡ 0 → a ≡ b + 1 + gates
less_begun a mid b gates gates' same one none none' = omega (arith, same, one, none, none')

-- is no switch at its seal
lifts : (d mid t : Device) → mid.left ≡ d.left → mid.faults ≡ d.faults → mid.memory.stand ≡ d.memory.stand → is_sealing d.memory.phase ≡ false → is_sealing mid.memory.phase ≡ false
    → Rose mid.faults t.faults ⊎ IsTrue (has_failed mid.memory.stand t.memory.stand) ⊎ (mid.left ≡ t.left + 1 + gates_left mid t) → TakesTurn turn.Worked d t
lifts d mid t left faults stand before begun (inl rose) = inl (subst (λ (n : ℕ). Rose n t.faults) faults rose)
lifts d mid t left faults stand before begun (inr (inl failed)) = inr (inl (subst (λ (x : Stand). IsTrue (has_failed x t.memory.stand)) stand failed))
lifts d mid t left faults stand before begun (inr (inr one)) =
    let none = none_left d t (λ is. (let both : true ≡ false = sym is ∙ before in cc both)) in
    let none' = none_left mid t (λ is. (let both : true ≡ false = sym is ∙ begun in cc both)) in
    inr (inr (less_begun d.left mid.left t.left (gates_left d t) (gates_left mid t) left one none none'))

pub begun_takes_by : (answer : DeviceTurn) (d mid t : Device) → mid.left ≡ d.left → mid.faults ≡ d.faults → mid.memory.stand ≡ d.memory.stand → is_sealing d.memory.phase ≡ false → is_sealing mid.memory.phase ≡ false
    → TakesTurn answer mid t → TakesTurn answer d t
begun_takes_by turn.Idle d mid t left faults stand before begun takes = tt
begun_takes_by turn.Worked d mid t left faults stand before begun takes = lifts d mid t left faults stand before begun takes
begun_takes_by turn.Off d mid t left faults stand before begun takes = tt

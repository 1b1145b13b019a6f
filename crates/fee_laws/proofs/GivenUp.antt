-- A job is canceled whose record is in work: the record is given up.
use Rattle.std.specs.Prelude.{is_some}
use Rattle.std.proofs.Common.{◌≡◌, ◌≤◌, ℕ, zero, suc, Bool, true, false, List, [], Option, Some, None, refl, arith}
use Rattle.fee_image.specs.declared.place.Place.{Place}
use Rattle.fee_image.specs.Log.{Log}
use Rattle.fee_image.specs.Step.{log_given_up, given_up_with}
use Rattle.fee_image.specs.BankLaws.{TakesAppends}
use Rattle.fee_switch_laws.specs.fee_switch.declared.active.ActiveBank.{ActiveBank}
use Rattle.fee_switch_laws.specs.fee_log.declared.tail.Tail.{Tail}
use Rattle.fee_switch_laws.specs.fee_log.declared.tail.Tail.TheVariants as tail
use Rattle.fee_switch_laws.specs.fee_log.Log.{LogState, work_in, tail_with, tail_without, log_of, free_behind}
use Rattle.fee_switch_laws.specs.fee_log.Step.{given_up}
use Rattle.fee_course.specs.declared.course.Course.{Course}
use Rattle.fee_course.specs.declared.course.Course.TheVariants.{Erase, Copy, Head, Gate}
use Rattle.fee_switch_laws.specs.fee_switch.Banks.{BanksState}
use Rattle.fee_switch_laws.specs.Shown.{old_shown, phase_shown}
use Rattle.fee_told.specs.SlotLaws.{SamePlaces}
use Rattle.fee_told.specs.Figures.{ready_of}
use Rattle.fee_laws.specs.Inside.{IsActiveOf, HasSwitch}

-- THE LOG
-- whatever content the record had
given_by : (p end : ℕ) (places : List Place) (t : Tail) (body after : List ℕ)
    → let old : Log = record { end = end; tail = tail_with t []; places = places } in
    let new = given_up_with p old (tail_with t []) in
    let is : Log = record { end = new.end; tail = tail_with (tail_without new.tail) after; places = new.places } in
    is ≡ given_up_with p (record { end = end; tail = tail_with t body; places = places }) (tail_with t body)
given_by p end places tail.Open body after = refl
given_by p end places (tail.Writes h zero) body after = refl
given_by p end places (tail.Writes h (suc zero)) body after = refl
given_by p end places (tail.Writes h (suc (suc done))) body after = refl
given_by p end places (tail.Owes h next) body after = refl
given_by p end places tail.Closed body after = refl

pub given_log : (lg : LogState) (body after : List ℕ) → log_of (given_up lg) after ≡ log_given_up lg.geometry.page (log_of lg body)
given_log lg body after = given_by lg.geometry.page lg.end lg.places lg.tail body after

-- no record is in work then, and no place moved
given_parts : (p end : ℕ) (places : List Place) (t : Tail) → let old : Log = record { end = end; tail = tail_with t []; places = places } in
    let new = given_up_with p old (tail_with t []) in (work_in (tail_without new.tail) ≡ None) × (new.places ≡ places)
given_parts p end places tail.Open = (refl, refl)
given_parts p end places (tail.Writes h zero) = (refl, refl)
given_parts p end places (tail.Writes h (suc zero)) = (refl, refl)
given_parts p end places (tail.Writes h (suc (suc done))) = (refl, refl)
given_parts p end places (tail.Owes h next) = (refl, refl)
given_parts p end places tail.Closed = (refl, refl)

pub none_left : (lg : LogState) → work_in (given_up lg).tail ≡ None
none_left lg = (given_parts lg.geometry.page lg.end lg.places lg.tail).0

pub places_left : (active : Option ActiveBank) (lg : LogState) (body after : List ℕ) → SamePlaces (old_shown active lg body) (old_shown active (given_up lg) after)
places_left None lg body after = tt
places_left (Some a) lg body after = (refl, refl, (given_parts lg.geometry.page lg.end lg.places lg.tail).1)

free_by : (p pages end : ℕ) (places : List Place) (t : Tail) → let old : Log = record { end = end; tail = tail_with t []; places = places } in
    let new = given_up_with p old (tail_with t []) in free_behind p pages end t ≤ free_behind p pages new.end (tail_without new.tail)
free_by p pages end places tail.Open = omega arith
free_by p pages end places (tail.Writes h zero) = omega arith
free_by p pages end places (tail.Writes h (suc zero)) = omega arith
free_by p pages end places (tail.Writes h (suc (suc done))) = omega arith
free_by p pages end places (tail.Owes h None) = omega arith
free_by p pages end places (tail.Owes h (Some next)) = omega arith
free_by p pages end places tail.Closed = omega arith

pub free_left : (pages : ℕ) (lg : LogState) → free_behind lg.geometry.page pages lg.end lg.tail ≤ free_behind lg.geometry.page pages (given_up lg).end (given_up lg).tail
free_left pages lg = free_by lg.geometry.page pages lg.end lg.places lg.tail

pub ready_up : (reserve a b : ℕ) (seals : Bool) → a ≤ b → ready_of reserve seals a ≤ ready_of reserve seals b
ready_up reserve a b true less = omega arith
ready_up reserve a b false less = omega arith

-- THE BANKS
pub phase_same : (b : BanksState) (c : Option Course) (body : List ℕ) → phase_shown c (record b { log = given_up b.log }) body ≡ phase_shown c b body
phase_same b None body = refl
phase_same b (Some (Erase done)) body = refl
phase_same b (Some (Copy work)) body = refl
phase_same b (Some Head) body = refl
phase_same b (Some (Gate failed)) body = refl

pub active_same : (b : BanksState) (o : Option ActiveBank) → is_some o ≡ true → IsActiveOf b o → IsActiveOf (record b { log = given_up b.log }) o
active_same b None some is = cc some
active_same b (Some a) some is = is

pub switch_same : (b : BanksState) (c : Option Course) → c ≡ None → HasSwitch b c → HasSwitch (record b { log = given_up b.log }) c
switch_same b None shut has = has
switch_same b (Some c) shut has = cc shut

pub takes : (b : BanksState) (c : Option Course) (body : List ℕ) → c ≡ None → TakesAppends (phase_shown c b body)
takes b None body shut = tt
takes b (Some c) body shut = cc shut

pub no_course : (o : Option Course) → (is_some o ≡ true → ⊥) → o ≡ None
no_course None not = refl
no_course (Some c) not = absurd (not refl)

-- Urgent writes on time.
use Rattle.std.proofs.Common.{◌≡◌, ◌≢◌, inl, inr, ℕ, suc, ◌+◌, ◌≤◌, ◌&&◌, Bool, true, false, List, [], length, drop, refl, ap, ◌∙◌, subst, Option, Some, None, arith}
use Rattle.block_machine.specs.nv_base.declared.mark.Mark.{Mark}
use Rattle.memif.specs.declared.answer.JobResult.{JobResult}
use Rattle.memif.specs.declared.answer.JobResult.TheVariants.{JobOk, JobFailed, JobPending, JobCanceled, BlockInconsistent, BlockInvalid}
use Rattle.memif.specs.Told.{DeviceTold, PartTold, Fixed, Part, First, Second, Stand, Open, Ended, is_open, figures_at, part_of}
use Rattle.memif.specs.Clock.{Clock}
use Rattle.memif.specs.Calls.{Works, JobTurns, EndsAs, IsOf, is_first, urgent_first, IsPrompt, Nearer}
use Rattle.job_programs.specs.Program.{Program, is_failed}
use Rattle.nvm_device_laws.specs.Outcomes.{outcome_by}
use Rattle.memif.proofs.Turning.{works_fixed}
use Rattle.nvm_figures.specs.Left.{ahead}
use Rattle.nvm_figures.specs.Job.{program_next}
use Rattle.nvm_figures.specs.Urgent.{pages_of, untaken, pages_ahead, DoesntFail, PicksAreOnTime, TurnsKeepReady, StartsStayOnTime, TurnsStayOnTime, EndsAreOnTime}
use Rattle.nvm_figures.proofs.Tries.{over_ahead, next_ahead, done_ahead}
use Rattle.nvm_device_laws.proofs.DeviceTries.{some_outcome}
use Rattle.nvm_figures.proofs.Programs.{program_same}
use Rattle.nvm_figures.proofs.Figures.{was_closed, opens_stand, opens_fixed, ahead_fresh}

-- AT A PICK
not_urgent : (f : Fixed) (s : Stand) → is_open s ≡ false → urgent_first f s ≡ false
not_urgent f (Open j) off = cc
not_urgent f (Ended r given) off = refl

pub picks_are_on_time : (d : DeviceTold) (clock : Clock) → PicksAreOnTime d clock
picks_are_on_time d clock p order off none ready =
    let pages : pages_ahead p d ≡ pages_of d.fixed p.block p.indices = rw (off, ahead_fresh p none) refl in
    let (w, is, few) = order.wait (not_urgent d.fixed d.stand off) in
    record { ready = omega (arith, pages, ready); wait = (w, is, omega (arith, pages, few)) }

-- AT A START
pub starts_stay_on_time : StartsStayOnTime
starts_stay_on_time pages turns old new w p index is urgent accepts on =
    let opens = accepts.1 in
    let own = (figures_at old.fixed w.job.number).pages in
    let rest = pages_of old.fixed p.block (drop (suc (length p.done)) p.indices) in
    let next = next_ahead p index is.next in
    let before : pages_ahead p old ≡ own + rest = rw (was_closed old new w accepts, next.ahead, is.number) refl in
    let behind : pages_ahead p new ≡ rest = rw (opens_fixed old new w.job opens, opens_stand old new w.job opens, next.ahead) refl in
    let prompt : IsPrompt own old new = rw urgent at opens.ready in
    let (stays, (v, u, was, now, few)) = prompt (omega (arith, before, on.ready)) in
    let (t, told, soon) = on.wait in
    let same : t ≡ v = cc in
    record { ready = omega (arith, behind, before, stays, on.ready); wait = (u, now, omega (arith, behind, before, few, soon, same)) }

-- AT A TURN
both_true : (a b : Bool) → (a && b) ≡ true → b ≡ true
both_true true b e = e
both_true false b e = cc

first_is : (q : Part) → is_first q ≡ true → q ≡ First
first_is First e = refl
first_is Second e = cc

part_first : (f : Fixed) (s : Stand) (q : Part) → IsOf q f s → urgent_first f s ≡ true → q ≡ First
part_first f (Open j) q of urgent = of.1 ∙ first_is (part_of f j) (both_true j.urgent (is_first (part_of f j)) urgent)
part_first f (Ended r given) q of urgent = cc

stays_on : (q : Part) (old new : DeviceTold) (clock : Clock) → Works q old new clock → q ≡ First → new.first.off ≡ false
stays_on q old new clock works is =
    let first : Works First old new clock = subst (λ (p : Part). Works p old new clock) is works in
    ap (λ (t : PartTold). t.off) first.part.only

still_on : (q : Part) (old new : DeviceTold) (clock : Clock) → Works q old new clock → old.first.off ≡ false → new.first.off ≡ false
still_on First old new clock works on = stays_on First old new clock works refl
still_on Second old new clock works on = ap (λ (d : DeviceTold). d.first.off) works.only ∙ on

pub turns_keep_ready : (new : DeviceTold) (clock : Clock) → TurnsKeepReady new clock
turns_keep_ready new clock old q works calm on urgent = rw urgent at works.ready (record { faults = calm; off = still_on q old new clock works on })

-- a job that doesn't fail comes to no failure
well_by : (mark : Option Mark) (number : ℕ) (r : JobResult) (given : List ℕ) (old new : DeviceTold) → EndsAs mark number r given old new → r ≢ JobFailed
    → is_failed (outcome_by mark r) ≡ false
well_by None number JobOk given old new ends fine = refl
well_by None number BlockInvalid given old new ends fine = refl
well_by None number BlockInconsistent given old new ends fine = refl
well_by None number JobFailed given old new ends fine = absurd (fine refl)
well_by None number JobPending given old new ends fine = absurd ends.1
well_by None number JobCanceled given old new ends fine = absurd ends.1
well_by (Some mark) number JobOk given old new ends fine = refl
well_by (Some mark) number JobFailed given old new ends fine = absurd (fine refl)
well_by (Some mark) number r given old new ends fine = absurd ends.0

pages_less : (q : Part) (f : Fixed) (p : Program) (a b : Stand) (old new : DeviceTold) (clock : Clock) → JobTurns q a b old new clock → DoesntFail b
    → pages_of f (program_next p a b).block (untaken (program_next p a b) (is_open b)) ≤ pages_of f p.block (untaken p (is_open a))
pages_less q f p (Open j) (Open k) old new clock turns fine = omega arith
pages_less q f p (Open j) (Ended r given) old new clock turns fine =
    let well = well_by j.mark j.number r given old new turns.0 (λ e. fine given (ap (λ (x : JobResult). Ended x given) e)) in
    let block = (program_same p (Open j) (Ended r given)).block in
    rw block (elim (done_ahead p (outcome_by j.mark r) (some_outcome j.mark r) well) [
      | inl none ↦ rw none (omega arith)
      | inr more ↦ rw more (omega arith)
    ])
pages_less q f p (Ended r given) b old new clock turns fine = rw turns.0 (omega arith)

pub turns_stay_on_time : (new : DeviceTold) (clock : Clock) → TurnsStayOnTime new clock
turns_stay_on_time new clock pages turns old q p works calm urgent on =
    let fixed = works_fixed q old new clock works in
    let off = stays_on q old new clock works (part_first old.fixed old.stand q works.of urgent) in
    let near : Nearer old new = rw urgent at works.ready (record { faults = calm; off = off }) in
    let (t, told, soon) = on.wait in
    let (ready, nearer, fine) = near t told in
    let less = pages_less q old.fixed p old.stand new.stand old new clock works.job fine in
    let next = program_next p old.stand new.stand in
    let ahead : pages_ahead next new ≤ pages_ahead p old = rw fixed less in
    (record { ready = omega (arith, ahead, ready, on.ready); wait = (nearer.0, nearer.1, omega (arith, ahead, nearer.2, soon)) }, fine)

-- AT THE END
none_ahead : (p : Program) (d : DeviceTold) → ahead p ≡ [] → (busy : Bool) → pages_of d.fixed p.block (untaken p busy) ≡ 0
none_ahead p d none true = rw none refl
none_ahead p d none false = rw none refl

pub ends_are_on_time : EndsAreOnTime
ends_are_on_time turns p d over on =
    let (t, told, soon) = on.wait in
    let none : pages_ahead p d ≡ 0 = none_ahead p d (over_ahead p over) (is_open d.stand) in
    omega (arith, soon, none)

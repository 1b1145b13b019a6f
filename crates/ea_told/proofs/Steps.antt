-- The turn of a step of the open job.
use Rattle.std.specs.Prelude.{take}
use Rattle.std.proofs.Common.{◌≡◌, Bool, sym, ap, ◌∙◌, subst}
use Rattle.nv_base.specs.declared.geometry.Geometry.{Geometry}
use Rattle.memif.specs.declared.answer.DeviceTurn.{DeviceTurn}
use Rattle.fls_model.specs.declared.flash.FlashAnswer.{FlashAnswer}
use Rattle.fls_model.specs.declared.flash.FlashAnswer.TheVariants.{Done, Failed, Off}
use Rattle.fls_model.specs.Op.{Op}
use Rattle.fls_model.specs.Step.{IsAsked, IsStep, OffOrAsked}
use Rattle.fls_model.specs.Told.{Told}
use Rattle.fls_jobs.specs.CallOf.{closed_as}
use Rattle.fls_jobs.specs.State.{FlsState}
use Rattle.fls_told.specs.Clock.{turn_of}
use Rattle.ea_image.specs.Steps.{step_op}
use Rattle.ea_told.specs.declared.job.EaJob.{EaJob}
use Rattle.ea_told.specs.Making.{Making}
use Rattle.ea_told.specs.Parts.{Parts}
use Rattle.ea_told.specs.Device.{state_at, head_of}
use Rattle.ea_told.specs.Laws.{Turned, IsStepping, StepsTurn}
use Rattle.ea_told.proofs.Stepping.{op, power}
use Rattle.ea_told.proofs.Stepped.{stepped_in}
use Rattle.ea_told.proofs.Turning.{failed_turn, cut_turn}
use Rattle.ea_told.proofs.Done.{done_turn}

by_answer : (m : Making) (entry : Told) (s : Parts) (j : EaJob) (at : IsStepping m entry s j) (a : FlashAnswer) (f : FlsState) → IsAsked (op m entry s j at) s.fls.flash a f.flash → f ≡ record s.fls { flash = f.flash; result = closed_as a }
    → Turned m entry (turn_of a) s (stepped_in m.geometry (op m entry s j at) a j f s)
by_answer m entry s j at Done f asked only = done_turn m entry s j at f asked only
by_answer m entry s j at Failed f asked only = failed_turn m entry s j at f asked only
by_answer m entry s j at Off f asked only = cut_turn m entry s j at f asked only

-- the operation of a step, by the shape
abbrev op_in : Parts → EaJob → Geometry → Op
op_in s j g = step_op g j.place (state_at s.states j.place).memory.target (head_of j (state_at s.states j.place)) (take j.length s.content) j.step

pub steps_turn : StepsTurn
steps_turn m entry turned s j t at takes =
    let a = takes.answer in
    let f = takes.fls in
    let geo = at.sound.made_for.geometry in
    let step : IsStep (op_in s j m.geometry) s.fls.flash a f.flash = subst (λ (g : Geometry). IsStep (op_in s j g) s.fls.flash a f.flash) geo takes.step in
    let asked : IsAsked (op_in s j m.geometry) s.fls.flash a f.flash = subst (λ (b : Bool). OffOrAsked b (op_in s j m.geometry) s.fls.flash a f.flash) (power m entry s j at) step in
    let after : t ≡ stepped_in m.geometry (op_in s j m.geometry) a j f s = takes.after ∙ ap (λ (g : Geometry). stepped_in g (op_in s j g) a j f s) geo in
    subst (λ (x : Parts). Turned m entry turned s x) (sym after)
    (subst (λ (w : DeviceTurn). Turned m entry w s (stepped_in m.geometry (op_in s j m.geometry) a j f s)) (sym takes.is) (by_answer m entry s j at a f asked takes.only))

use Rattle.std.proofs.Common.{List, ◌∷◌, sym, ap, ◌∙◌, subst}
use Rattle.nvm_top.specs.nvm_flash.block_config.Config.{Configuration}
use Rattle.nvm_top.specs.nvm_flash.block_machine.Words.{Entry, Found}
use Rattle.nvm_top.specs.nvm_flash.promise_run.Call.{IsCourseOf}
use Rattle.nvm_top.specs.nvm_flash.promise_run.Completeness.{Completeness, IsCalm, EndsWell}
use Rattle.nvm_top.specs.nvm_flash.promise_run.Run.{Run, Course, Played, Ran}
use Rattle.script_walks.specs.Words.{Step}
use Rattle.nvm_script.specs.declared.script.Mode.TheVariants as mode
use Rattle.uds_runs.specs.uds_gateway.Served.{AreServed}
use Rattle.uds_runs.proofs.Causes.{answers_have_causes}
use Rattle.uds_calls.proofs.laws.answers_of_calls_have_causes.Goals as goal

ends_well : (r : Run) (steps : List Step) (course : Course) → IsCourseOf mode.Play steps course → Completeness r course → IsCalm r → EndsWell r
ends_well r steps (Played made pieces left) is complete calm = complete calm
ends_well r steps (Ran all looks) is complete calm = absurd is

pub returns : goal.returns
returns c = λ configuration requests steps call x told served calm tells sound.
    let r = told.run in
    let well = (ends_well r steps r.course told.course told.keeps.complete calm).results told.beside tells sound in
    let legal = (told.keeps.promise tells sound).block_machine in
    let history = served.history ∙ ap (λ (es : List Entry). Found served.marks served.ops ∷ es) served.serves.parts in
    let are = subst (λ (k : Configuration). AreServed k served.serves.first served.serves.pieces) (sym told.configuration) served.serves.served in
    answers_have_causes r served.marks served.ops served.serves.first served.serves.pieces served.serves.rest history legal well are

-- A new history over the same device.
use Rattle.std.specs.Prelude.{IsTrue, ◌↔◌}
use Rattle.std.proofs.Common.{◌≡◌, ◌≢◌, ℕ, false, true, List, [], ◌∷◌, ◌++◌, Option, refl, ap, ◌∙◌}
use Rattle.nvm_laws.specs.nv_base.declared.mark.Mark.{Mark}
use Rattle.nvm_laws.specs.memif.Told.{DeviceTold, Part, PartTold}
use Rattle.nvm_laws.specs.memif.Clock.{Clock}
use Rattle.nvm_laws.specs.block_machine.Words.{Instance, Found}
use Rattle.nvm_laws.specs.block_machine.Next.{Next, next_of}
use Rattle.nvm_laws.specs.block_machine.Next.{Nothing as NoNext}
use Rattle.nvm_laws.specs.nv_desk.nv_desk_state.declared.next.NextEntry.{NextEntry}
use Rattle.nvm_laws.specs.nv_desk.nv_desk_state.declared.next.NextEntry.TheVariants as next
use Rattle.nvm_laws.specs.nv_desk.nv_desk_state.Next.{IsNextEntry}
use Rattle.nvm_laws.specs.nv_desk.Desk.{DeskState, first_desk, state_of}
use Rattle.nvm_laws.specs.job_progress.Hand.{HandState}
use Rattle.nvm_laws.specs.Halves.{IsAtRest}
use Rattle.nvm_laws.specs.nvm_device_laws.Turn.{TellsSlots}
use Rattle.nvm_laws.specs.Keeps.{StackKeeps}
use Rattle.nvm_found.specs.Found.{Finds}
use Rattle.nvm_found.proofs.Allowed.{found_marks_keep}
use Rattle.nvm_core.specs.Renewal.{MarksStay}

-- where something comes next nothing is at rest
something_next : (e : NextEntry) (n : Next) → IsNextEntry e n → e ≢ next.Nothing → n ≢ NoNext
something_next next.Nothing n is some = λ none. absurd (some refl)
something_next next.PickJob n is some = λ none. let next = is.1 in cc
something_next next.BeginSweep n is some = λ none. let next = is.1 in cc
something_next (next.PickMember block) n is some = λ none. let next = is.1 in cc
something_next (next.PostMember block) n is some = λ none. let next = is.1 in cc
something_next (next.EndSweep r) n is some = λ none. let next = is.1 in cc

never_true : (P : Type 0) → false ≡ true → P
never_true P is = cc

pub not_at_rest : (e : NextEntry) (desk : DeskState) (d : DeviceTold) → IsNextEntry e (next_of desk.config (state_of desk)) → e ≢ next.Nothing
    → IsTrue false ↔ IsAtRest desk d
not_at_rest e desk d is some =
    (λ never. never_true (IsAtRest desk d) never, λ rest. absurd (something_next e (next_of desk.config (state_of desk)) is some rest.next))

-- what the new history begins with keeps to the one before it
pub marks_stay : (desk mid new : DeskState) (hand : Option HandState) (d d_new : DeviceTold) (clock : Clock) (marks : List (Instance × Mark)) (ops : ℕ)
    → mid ≡ first_desk desk.config desk.cap → new.entries ≡ mid.entries ++ Found marks ops ∷ [] → Finds marks d d_new
    → (before : Part → PartTold) → TellsSlots d_new → StackKeeps before desk hand d clock → MarksStay desk new
marks_stay desk mid new hand d d_new clock marks ops empty more finds before tells kept = record {
  marks = marks;
  ops = ops;
  begins = more ∙ ap (λ (x : DeskState). x.entries ++ Found marks ops ∷ []) empty;
  keep = found_marks_keep desk.config desk.cap desk.entries before d clock d_new marks finds tells kept.started kept.keeps;
}

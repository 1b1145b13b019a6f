-- The work of the stack.
use Rattle.std.specs.Prelude.{option_map}
use Rattle.std.proofs.Common.{◌≡◌, ℕ, ◌≤◌, length, List, subst, ◌+◌, Bool, true, false, Option, Some, None, refl, arith}
use Rattle.nvm_laws.specs.memif.Told.{DeviceTold, is_open}
use Rattle.nvm_laws.specs.memif.Clock.{Clock}
use Rattle.nvm_laws.specs.memif.Calls.{InOrder}
use Rattle.nvm_laws.specs.block_machine.State.{State, Job}
use Rattle.nvm_laws.specs.block_machine.Results.{took_none}
use Rattle.nvm_laws.specs.job_programs.Program.{Program}
use Rattle.nvm_laws.specs.nvm_figures.Left.{stack_left}
use Rattle.nvm_laws.specs.job_progress.Begins.{hand_by, hand_for}
use Rattle.nvm_laws.specs.Work.{program_in_hand}
use Rattle.nvm_laws.proofs.nvm_figures.Figures.{picks_are_bounded}
use Rattle.nvm_core.specs.Lowers.{IsWithinMost, posts_left}
use Rattle.nvm_laws.specs.block_machine.Words.{Entry, Configuration}
use Rattle.nvm_laws.specs.nv_desk.Desk.{DeskState}

-- the history that a desk lends is its own
pub within : (desk : DeskState) (entries : List Entry) (cap : ℕ) → entries ≡ desk.entries → cap ≡ desk.cap → length entries ≤ cap → length desk.entries ≤ desk.cap
within desk entries cap same same_cap fits = subst (λ (n : ℕ). length desk.entries ≤ n) same_cap (subst (λ (es : List Entry). length es ≤ cap) same fits)

-- a hand that begins has at most the most turns of its job left
begun_within : (d : DeviceTold) (clock : Clock) → InOrder d clock → is_open d.stand ≡ false → (without : Bool) (c : Configuration) (s : State) (j : Job)
    → IsWithinMost (Some (hand_by without c s j).program) d
begun_within d clock order closed true c s j = picks_are_bounded d clock (hand_by true c s j).program order closed refl refl
begun_within d clock order closed false c s j = picks_are_bounded d clock (hand_by false c s j).program order closed refl refl

pub within_most : (d : DeviceTold) (clock : Clock) → InOrder d clock → is_open d.stand ≡ false → (c : Configuration) (s : State) (held : Option Job)
    → IsWithinMost (program_in_hand (option_map (hand_for c s) held)) d
within_most d clock order closed c s None = tt
within_most d clock order closed c s (Some j) = begun_within d clock order closed (took_none j.taken) c s j

pub post_left : (p : Program) (d : DeviceTold) → stack_left None d + posts_left (Some p) ≤ stack_left (Some p) d
post_left p d = omega arith

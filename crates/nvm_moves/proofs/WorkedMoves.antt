-- What moves do at the device, one behind another, and by a later clock.
use Rattle.nvm_moves.proofs.Common.{◌≡◌, ◌≤◌, ℕ, Bool, true, false, List, [], ◌∷◌, Some, arith, DeviceTold, Clock, Lasts, Entry, Ask, Configuration, State, after_from, Worn, Costs, Work, AreWorkedTo, worn_so_far, none_worked, worked_more, CountFailed, AreAsked, HadPages, ask_worked, worked_by}
use Rattle.nvm_core.specs.promise_blocks.Moves.{Moment, Move, moment_behind}
use Rattle.nvm_moves.proofs.DueAsked.{asked_moves}

-- requests leave what is open
pub asks_worked : (f : Costs) (room : ℕ → ℕ → Type 0) (worn : Worn) (c : Configuration) (now : Moment) (s : State) (w : Work) (es : List Entry) → AreAsked es → AreWorkedTo f room worn c now s w w (asked_moves now es)
asks_worked f room worn c now s w [] are = none_worked f room worn c now s w
asks_worked f room worn c now s w (Ask caller r reply ∷ es) are =
    worked_more f room worn c now s w w w (record { entry = Some (Ask caller r reply); behind = now } ∷ []) (asked_moves now es) (ask_worked f room worn c now s w caller r reply)
    (asks_worked f room worn c now (after_from c s (Ask caller r reply ∷ [])) w es are.1)
asks_worked f room worn c now s w (e ∷ es) are = absurd (let P : false ≡ true = are.0 in cc P)

pub worn_on : (d d_new : DeviceTold) (clock clock_new : Clock) → Lasts d clock d_new clock_new → (k n : ℕ) (urgent : Bool) → worn_so_far d clock k n urgent → worn_so_far d_new clock_new k n urgent
worn_on d d_new clock clock_new lasts k n urgent (few, is) = (let more = lasts.ops in omega (arith, few, more), lasts.past.worn k n urgent few is)

-- what had room by a later clock had it by an earlier one, and what was worn out is
pub worked_on : (d d_new : DeviceTold) (clock clock_new : Clock) → Lasts d clock d_new clock_new → (f : Costs) (failed : ℕ → Type 0) (c : Configuration) (before : Moment) (s : State) (w u : Work) (ms : List Move) → (moment_behind before ms).ops ≤ d.ops
    → CountFailed failed before ms → AreWorkedTo f (HadPages clock) (worn_so_far d clock) c before s w u ms → AreWorkedTo f (HadPages clock_new) (worn_so_far d_new clock_new) c before s w u ms
worked_on d d_new clock clock_new lasts f failed c before s w u ms within counts is = record {
  efforts = is.efforts;
  are =
      worked_by f (HadPages clock) (HadPages clock_new) (worn_so_far d clock) (worn_so_far d_new clock_new) failed d.ops (λ k p few had. (had.0, lasts.past.spare k had.0 few had.1, had.2)) (worn_on d d_new clock clock_new lasts) c before s w ms is.efforts
      within counts is.are;
  behind = is.behind;
}

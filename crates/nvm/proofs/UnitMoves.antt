-- What the calls of a unit keep of their turns, from its first start-up on.
use Rattle.std.proofs.Common.{◌≡◌, ◌∙◌, ℕ, Bool, List, [], ◌∷◌, refl, sym, subst}
use Rattle.std.specs.Prelude.{true, false, map}
use Rattle.nvm_flash.specs.nv_base.Count.{Rose}
use Rattle.nvm_flash.specs.memif.Told.{DeviceTold, PartTold, faults_of}
use Rattle.nvm_flash.specs.memif.Clock.{Clock}
use Rattle.nvm_flash.specs.memif.Trials.{Lasts}
use Rattle.nvm_flash.proofs.Turning.{same_clock, same_told}
use Rattle.nvm_flash.specs.fls_model.Told.{Told, Change}
use Rattle.nvm_flash.specs.nv_desk.Desk.{DeskState}
use Rattle.nvm_flash.specs.nvm_device_laws.Turn.{TellsSlots}
use Rattle.nvm_flash.specs.fee_core.Tells.{told_clock}
use Rattle.nvm_flash.specs.fee_told.Device.{told_of}
use Rattle.nvm_flash.specs.promise_device.Bridge.{Bridges, reading_of}
use Rattle.nvm_flash.specs.promise_run.Halves.{beyond_end}
use Rattle.nvm_flash.specs.promise_run.Promise.{making_of}
use Rattle.nvm_flash.specs.promise_run.Run.{Run, Course, End, FlashFault, Played}
use Rattle.nvm_flash.specs.promise_run.DeviceTurns.{HasMovesTo}
use Rattle.nvm_flash.specs.promise_run.Turns.{Moment, Move, AreMoves, entries_of, moment_behind, state_begun}
use Rattle.nvm_flash.proofs.DeviceTurns.{keeps_turns}
use Rattle.nvm_moves.specs.Moved.{MovesBy}
use Rattle.nvm_moves.specs.Seen.{moment_seen}
use Rattle.nvm_moves.proofs.Beginning.{moves_came}
use Rattle.nvm.specs.Closing.{UnitState, flash_run, run_of}
use Rattle.nvm.specs.Steps.{KeepsCalls, one_each, step_of}
use Rattle.nvm.specs.Turned.{HasTurned, unit_seen}
use Rattle.nvm.proofs.StepMoves.{all_each, behind_each, no_cuts, no_drains, none_to_find}

-- each call one move: a run that these moves came to keeps its turns
calls_keep : (r : Run) (first : Moment) (moves : List Move) (before : PartTold) (last now : DeviceTold) (clock clock_now : Clock) → Lasts last clock now clock_now → now.ops ≡ last.ops → (TellsSlots now → TellsSlots last)
    → Bridges (reading_of (making_of r.configuration)) true r.flash before now (beyond_end clock_now) → before.faults ≡ 0 → last.second.faults ≡ 0 → now.second.faults ≡ 0 → (r.end ≡ FlashFault → Rose (faults_of last) (faults_of now))
    → HasMovesTo false r.configuration r.history first moves last clock → AreMoves first (map step_of moves) (one_each moves) → KeepsCalls r
calls_keep r first moves before last now clock clock_now lasts same tells b none zero zero_now fault m calls = record {
  moves = moves;
  tell = m.tell;
  turns =
      keeps_turns r true before last now clock clock_now lasts same tells b (Played (map step_of moves) (map entries_of (one_each moves)) []) first moves none zero zero_now fault m (record {
        steps = record { moves = one_each moves; are = calls; tell = refl; behind = behind_each first moves };
        all = all_each moves;
        drains = λ calm. no_drains first moves;
        finds = none_to_find r.configuration first (state_begun r) moves;
        cuts = no_cuts r.configuration first (state_begun r) moves;
      });
}

-- A UNIT THAT IS CLOSED
never_both : {t : Bool} → t ≡ true → t ≡ false → ⊥
never_both {t} on off = never (sym on ∙ off)
  where
    never : true ≡ false → ⊥
    never e = cc

pub closed_turns : (s : UnitState) (was : HasTurned s) (entry exit : Told) (operations : List Change) (course : Course) (end : End) (before : PartTold) → (end ≡ FlashFault → s.ready ≡ false) → before.faults ≡ 0
    → Bridges (reading_of (making_of s.desk.config)) true (flash_run entry exit operations) before (told_of s.device) (beyond_end (told_clock s.device)) → KeepsCalls (run_of s entry exit operations course end)
closed_turns s was entry exit operations course end before fault none b = by s.ready refl
  where
    -- by the moves of its calls
    came : (t : UnitState) → MovesBy false was.moves (unit_seen was.began) (unit_seen t) → HasMovesTo false t.desk.config t.desk.entries (moment_seen (unit_seen was.began)) was.moves (told_of t.device) (told_clock t.device)
    came t by = subst (λ (ms : List Move). HasMovesTo false t.desk.config t.desk.entries (moment_seen (unit_seen was.began)) ms (told_of t.device) (told_clock t.device)) by.are (moves_came false (unit_seen was.began) (unit_seen t) was.begins by.moved)

    by : (x : Bool) → s.ready ≡ x → KeepsCalls (run_of s entry exit operations course end)
    by true is =
        calls_keep (run_of s entry exit operations course end) (moment_seen (unit_seen was.began)) was.moves before (told_of s.device) (told_of s.device) (told_clock s.device) (told_clock s.device)
        (same_told (told_of s.device) (told_clock s.device) (told_of s.device) (told_clock s.device) refl (same_clock (told_clock s.device))) refl (λ told. told) b none refl refl
        (λ ends. absurd (never_both is (fault ends))) (came s (was.up is)) was.calls
    by false is =
        let stood = was.down is in
        let since = stood.since in
        calls_keep (run_of s entry exit operations course end) (moment_seen (unit_seen was.began)) was.moves before (told_of stood.last.device) (told_of s.device) (told_clock stood.last.device) (told_clock s.device) since.lasts since.ops since.told b none refl refl (λ ends. since.risen)
        (subst (λ (x : DeskState). HasMovesTo false x.config x.entries (moment_seen (unit_seen was.began)) was.moves (told_of stood.last.device) (told_clock stood.last.device)) (sym since.desk) (came stood.last stood.moved)) was.calls

-- Turns of a stack whose application stores in memory.
use Rattle.script_player.proofs.Common.{◌≡◌, ◌+◌, ℕ, zero, suc, false, List, refl, sym, ap, ◌∙◌, subst, arith, DeviceTold, Part, PartTold, Clock, PlainBlock, Turned, StackState, Step, StackTold, Turns, MakesTurns, TurnMoves, IsTurned, none_moves, stack_turns, turned_ready, turns_keep, told_by, seen_by, kept_by}
use Rattle.uds_gateway.specs.StackCalls as stack
use Rattle.script_player.specs.Kept.{IsKept}
use Rattle.script_player.specs.PlainKept.{starts_found}
use Rattle.script_player.proofs.PlainBehind.{turns_told}
use Rattle.script_player.proofs.PlainHalves.{are_told, is_now, is_looked}
use Rattle.script_player.proofs.PlainPaying.{keeps_by, up_moves}
use Rattle.script_player.proofs.PlainStarts.{starts_stay, turn_founds, turned_starts}
use Rattle.script_player.proofs.Served.{TurnsSome}
use Rattle.script_player.proofs.Turned.{one_turn_more}

module _ {D : Type 0} (device : D → DeviceTold) (clock : D → Clock) where
  -- ONE TURN
  module _ (answer : Turned) (old new : StackState D (List PlainBlock)) (is : IsTurned device clock are_told is_now is_looked answer old new) where
    stays_up : new.ready ≡ old.ready
    stays_up = turned_ready device clock are_told is_now is_looked answer old new is.turns

    pub turn_told : Turns answer (told_by device old) (told_by device new)
    turn_told =
        turns_told device clock old new answer is.turns is.power
        (λ same. record { power = is.power_behind; counted = is.counted; lowers = is.lowers; tied = is.tied; tied_behind = is.tied_behind; synchronized = is.synchronized })

    pub turn_moved : TurnMoves (seen_by device clock old) (seen_by device clock new) (told_by device old) (told_by device new)
    turn_moved =
        let (e, adds, turns, moves) =
        stack_turns device clock are_told is_now is_looked answer old new is.turns is.ready is.keeps is.counted is.left is.lasts is.pays is.due is.seals is.kept is.tied (λ up. is.tied_behind) (λ up. is.power_behind) is.order is.order_behind in
        (e, adds, up_moves device clock _ old new is.ready (stays_up ∙ is.ready) moves)

    pub turn_keeps : (before : Part → PartTold) → kept_by device clock old before → kept_by device clock new before
    turn_keeps = keeps_by device clock old new is.ready stays_up is.keeps

    pub turn_starts : starts_found device old → starts_found device new
    turn_starts =
        let made = turn_told.made in
        starts_stay device old new made.entries (turn_founds old.desk.config _ _ made.entries made.turn.entry) stays_up (ap (λ (t : StackTold). t.entries) made.grows)
        (turned_starts device clock old new answer is.turns)

  -- SOME
  abbrev Made : ℕ → StackState D (List PlainBlock) → StackState D (List PlainBlock) → Type 0
  Made = stack.MakesTurns device clock are_told is_now is_looked

  made_so : (n : ℕ) (before : List Step) (old new : StackState D (List PlainBlock)) → Made n old new → IsKept before (told_by device old)
      → MakesTurns (seen_by device clock old) (seen_by device clock new) n before (told_by device old) (told_by device new) × IsKept before (told_by device new)
  made_so zero before old new same kept =
      subst (λ (s : StackState D (List PlainBlock)). MakesTurns (seen_by device clock old) (seen_by device clock s) 0 before (told_by device old) (told_by device s) × IsKept before (told_by device s)) (sym same)
      ((refl, none_moves false (seen_by device clock old)), kept)
  made_so (suc n) before old new (between, made, (answer, is)) kept =
      let (some, now) = made_so n before old between made kept in
      let all : n + 1 ≡ suc n = omega arith in
      let (more, then_kept) =
      one_turn_more (seen_by device clock old) (seen_by device clock between) (seen_by device clock new) n before (told_by device old) (told_by device between) (told_by device new) some now (turn_told answer between new is).made
      (turn_moved answer between new is) in
      (subst (λ (m : ℕ). MakesTurns (seen_by device clock old) (seen_by device clock new) m before (told_by device old) (told_by device new)) all more, then_kept)

  pub some_turns : (n : ℕ) (before : List Step) (old new : StackState D (List PlainBlock)) → Made (suc n) old new → IsKept before (told_by device old)
      → TurnsSome (seen_by device clock old) (seen_by device clock new) before (told_by device old) (told_by device new)
  some_turns n before old new made kept = let (some, now) = made_so (suc n) before old new made kept in (suc n, omega arith, some, now)

  pub turns_kept : (n : ℕ) (old new : StackState D (List PlainBlock)) → Made n old new → (before : Part → PartTold) → kept_by device clock old before → kept_by device clock new before
  turns_kept n old new made before = turns_keep device clock are_told is_now is_looked (λ s. kept_by device clock s before) (λ answer s t is. turn_keeps answer s t is before) n old new made

  pub turns_start : (n : ℕ) (old new : StackState D (List PlainBlock)) → Made n old new → starts_found device old → starts_found device new
  turns_start = turns_keep device clock are_told is_now is_looked (starts_found device) turn_starts

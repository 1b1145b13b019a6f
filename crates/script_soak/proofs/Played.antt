-- Each step of a soak run can be played.
use Rattle.std.proofs.Common.{◌==◌, ◌+◌, ◌-◌, ◌*◌, ◌%◌, ℕ, suc, zero, nat_lt, get_or, length, Bool, true, false, [], if◌then◌else◌, refl, arith}
use Rattle.std.specs.List.{range_with_len}
use Rattle.std.proofs.lemmas.List.Elements.{All-append, All-cons, All-map, All-nil}
use Rattle.block_config.specs.Config.{Configuration}
use Rattle.nvm_script.specs.declared.step.StepKind.{StepKind}
use Rattle.nvm_script.specs.Played.{CanBePlayed, IsPlayed, ArePlayed}
use Rattle.script_soak.specs.Draws.{draw}
use Rattle.script_soak.specs.Rounds.{step_by, step_of_round}
use Rattle.script_soak.specs.Soak.{step_at, rounds, ending}
use Rattle.script_soak.specs.Laws.{SoakIsPlayed}

either : (P : StepKind → Type 0) (b : Bool) (x y : StepKind) → P x → P y → P (if b then x else y)
either P true x y left right = left
either P false x y left right = right

kind_played : (c : Configuration) (kind block value : ℕ) → CanBePlayed c (step_by c kind block value)
kind_played c kind block value =
    either (CanBePlayed c) (nat_lt kind 4) _ _ refl
    (either (CanBePlayed c) (kind == 4) _ _ tt
    (either (CanBePlayed c) (kind == 5) _ _ (omega arith) (either (CanBePlayed c) (kind == 6) _ _ tt (either (CanBePlayed c) (nat_lt value 16) _ _ tt (omega arith)))))

step_played : (c : Configuration) (place : ℕ) (kind : StepKind) → CanBePlayed c kind → IsPlayed c (step_at place kind)
step_played c place kind can = record { caller = omega arith; kind = can }

round_played : (c : Configuration) (seed r : ℕ) → IsPlayed c (step_at r (step_of_round c seed r))
round_played c seed r =
    step_played c r (step_of_round c seed r) (kind_played c (draw seed (3 * r + 1) % 8) (2 + draw seed (3 * r + 2) % (length c.blocks - 1)) (draw seed (3 * r + 3) % 256))

rounds_played : (c : Configuration) (seed count : ℕ) → ArePlayed c (rounds c seed count)
rounds_played c seed count =
    All-map (IsPlayed c) (λ r. step_at r (step_of_round c seed r)) (range_with_len 0 count) (λ k d within. round_played c seed (get_or (range_with_len 0 count) k d))

ending_played : (c : Configuration) (count : ℕ) → ArePlayed c (ending count)
ending_played c zero = All-nil (IsPlayed c)
ending_played c (suc n) = All-cons (IsPlayed c) _ [] (step_played c (suc n) _ tt) (All-nil (IsPlayed c))

pub soak_is_played : SoakIsPlayed
soak_is_played c seed count = All-append (IsPlayed c) (rounds c seed count) (ending count) (rounds_played c seed count) (ending_played c count)

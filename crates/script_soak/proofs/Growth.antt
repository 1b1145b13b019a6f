-- One round more.
use Rattle.std.proofs.Common.{◌≡◌, ℕ, ◌+◌, ◌-◌, ◌*◌, ◌/◌, ◌%◌, ◌^◌, [], ◌∷◌, ◌++◌, length, refl, sym, ap, ◌∙◌, arith, add-one}
use Rattle.std.proofs.lemmas.List.FromFn.{map-range_with_len_more, length-map-range_with_len}
use Rattle.block_config.specs.Config.{Configuration}
use Rattle.nvm_script.specs.declared.step.StepKind.{StepKind}
use Rattle.script_soak.specs.Draws.{next_state, state_after, draw}
use Rattle.script_soak.specs.Rounds.{step_by, step_of_round}
use Rattle.script_soak.specs.Soak.{step_at, rounds}

pub state_more : (seed n : ℕ) → state_after seed (n + 1) ≡ next_state (state_after seed n)
state_more seed n = rw (add-one n) refl

pub rounds_more : (c : Configuration) (seed n : ℕ) → rounds c seed (n + 1) ≡ rounds c seed n ++ step_at n (step_of_round c seed n) ∷ []
rounds_more c seed n = map-range_with_len_more (λ r. step_at r (step_of_round c seed r)) 0 n n (omega arith)

-- the state after three more draws
pub state_after_round : (seed n : ℕ) → state_after seed (3 * (n + 1)) ≡ next_state (next_state (next_state (state_after seed (3 * n))))
state_after_round seed n =
    let three : 3 * (n + 1) ≡ 3 * n + 1 + 1 + 1 = omega arith in
    ap (state_after seed) three ∙ state_more seed (3 * n + 1 + 1) ∙ ap next_state (state_more seed (3 * n + 1)) ∙ ap (λ x. next_state (next_state x)) (state_more seed (3 * n))

pub rounds_count : (c : Configuration) (seed n : ℕ) → length (rounds c seed n) ≡ n
rounds_count c seed n = length-map-range_with_len (λ r. step_at r (step_of_round c seed r)) 0 n

-- a round's step, from its three draws
abbrev pub step_drawn : Configuration → ℕ → ℕ → ℕ → StepKind
step_drawn c first second third = step_by c (first % 8) (2 + second % (length c.blocks - 1)) (third % 256)

-- the draws from a state on, three for a round
drawn : ℕ → ℕ
drawn x = x / 2 ^ 33

pub round_drawn : (c : Configuration) (seed n s : ℕ) → s ≡ state_after seed (3 * n)
    → step_drawn c (next_state s / 2 ^ 33) (next_state (next_state s) / 2 ^ 33) (next_state (next_state (next_state s)) / 2 ^ 33) ≡ step_of_round c seed n
unfolding drawn
round_drawn c seed n s is =
    let first : next_state s ≡ state_after seed (3 * n + 1) = ap next_state is ∙ sym (state_more seed (3 * n)) in
    let second : next_state (next_state s) ≡ state_after seed (3 * n + 2) = ap next_state first ∙ sym (state_more seed (3 * n + 1)) ∙ ap (state_after seed) (omega arith) in
    let third : next_state (next_state (next_state s)) ≡ state_after seed (3 * n + 3) = ap next_state second ∙ sym (state_more seed (3 * n + 2)) ∙ ap (state_after seed) (omega arith) in
    ap (λ x. step_drawn c (drawn x) (drawn (next_state (next_state s))) (drawn (next_state (next_state (next_state s))))) first
    ∙ ap (λ x. step_drawn c (draw seed (3 * n + 1)) (drawn x) (drawn (next_state (next_state (next_state s))))) second
    ∙ ap (λ x. step_drawn c (draw seed (3 * n + 1)) (draw seed (3 * n + 2)) (drawn x)) third

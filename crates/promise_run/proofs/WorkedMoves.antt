-- What moves do at a device, where fewer pages are free, and where it is worn out sooner.
use Rattle.std.proofs.Common.{◌≡◌, ◌⊎◌, ◌≤◌, ℕ, Bool, Some, None, List, [], ◌∷◌, inl, inr, arith}
use Rattle.block_machine.specs.Words.{Configuration}
use Rattle.block_machine.specs.State.{State}
use Rattle.block_machine.specs.Steps.{after_from}
use Rattle.promise_blocks.specs.Payment.{Worn}
use Rattle.promise_blocks.specs.Moves.{Moment, Move, entry_list, moment_behind}
use Rattle.promise_blocks.specs.Work.{Costs, Work, Effort, EndsTry, IsWorked, AreWorked}
use Rattle.promise_run.specs.Turns.{CountFailed}
use Rattle.promise_run.proofs.Counted.{behind_later}

-- one move
one_by : (f : Costs) (room other : ℕ → ℕ → Type 0) (worn more : Worn) (c : Configuration) (before : Moment) (s : State) (w : Work) (m : Move) (e : Effort) → ((p : ℕ) → other before.ops p → room before.ops p)
    → ((k p : ℕ) (urgent : Bool) → worn k p urgent → more k p urgent) → IsWorked f room worn c before s w m e → IsWorked f other more c before s w m e
one_by f room other worn more c before s w m e less sooner one = record {
  begins = one.begins;
  adds = λ test has. one.adds test (λ n is. less n (has n is));
  ends = λ n is. ended n (one.ends n is);
  none = one.none;
  over = one.over;
  tries = one.tries;
}
  where
    why : (n : ℕ) → EndsTry worn c s n before m → EndsTry more c s n before m
    why n (inl here) = inl here
    why n (inr (j, hand, is)) = inr (j, hand, sooner m.behind.ops n _ is)

    ended : (n : ℕ) → (e.behind.trying ≡ Some n) ⊎ ((e.behind.trying ≡ None) × EndsTry worn c s n before m) → (e.behind.trying ≡ Some n) ⊎ ((e.behind.trying ≡ None) × EndsTry more c s n before m)
    ended n (inl on) = inl on
    ended n (inr (over, is)) = inr (over, why n is)

pub worked_by : (f : Costs) (room other : ℕ → ℕ → Type 0) (worn more : Worn) (failed : ℕ → Type 0) (n : ℕ) → ((k p : ℕ) → k ≤ n → other k p → room k p) → ((k p : ℕ) (urgent : Bool) → worn k p urgent → more k p urgent)
    → (c : Configuration) (before : Moment) (s : State) (w : Work) (ms : List Move) (es : List Effort) → (moment_behind before ms).ops ≤ n → CountFailed failed before ms → AreWorked f room worn c before s w ms es
    → AreWorked f other more c before s w ms es
worked_by f room other worn more failed n less sooner c before s w [] [] within counts are = tt
worked_by f room other worn more failed n less sooner c before s w [] (e ∷ es) within counts are = absurd are
worked_by f room other worn more failed n less sooner c before s w (m ∷ ms) [] within counts are = absurd are
worked_by f room other worn more failed n less sooner c before s w (m ∷ ms) (e ∷ es) within counts (one, rest) =
    let later = behind_later failed before (m ∷ ms) counts in (
      one_by f room other worn more c before s w m e (λ p. less before.ops p (omega (arith, later, within))) sooner one,
      worked_by f room other worn more failed n less sooner c m.behind (after_from c s (entry_list m.entry)) e.behind ms es within counts.1 rest,
    )

-- What moves of worked runs did at the device.
use Rattle.std.specs.Prelude.{if◌then◌else◌}
use Rattle.std.proofs.Common.{◌≡◌, ◌≤◌, ◌+◌, ℕ, Bool, true, false, Option, Some, None, refl, sym, ◌∙◌, inl, inr, arith}
use Rattle.block_machine.specs.Words.{Configuration}
use Rattle.block_machine.specs.State.{State}
use Rattle.block_machine.specs.Steps.{after_from}
use Rattle.promise_blocks.specs.Payment.{Worn}
use Rattle.promise_blocks.specs.Moves.{Moment, Move, entry_list, is_picked}
use Rattle.promise_blocks.specs.Work.{Costs, Work, Effort, MayBegin, EndsTry, IsWorked, adds_most, is_posted, tries_of}

-- None began, and behind it so much is left, and this try open; or so many may begin. Of one that began no further one may.
abbrev pub none_began : ℕ → Option ℕ → Effort
none_began left trying = record { begins = None; behind = record { left = left; trying = trying; tries = 0 } }

abbrev pub may_begin : ℕ → ℕ → Effort
may_begin left tries = record { begins = None; behind = record { left = left; trying = None; tries = tries } }

abbrev pub began : ℕ → ℕ → Effort
began n left = record { begins = Some n; behind = record { left = left; trying = Some n; tries = 0 } }

pub none_some : {X : Type 0} (n : ℕ) → None ≡ Some n → X
none_some n is = cc is

is_not : {X : Type 0} (b : Bool) → b ≡ false → b ≡ true → X
is_not true no_ is = cc no_
is_not false no_ is = cc is

module _ (f : Costs) (room : ℕ → ℕ → Type 0) (worn : Worn) (c : Configuration) (before : Moment) (s : State) (w : Work) (m : Move) (left : ℕ) where
  -- those that are known before it
  abbrev Has : ℕ
  Has = if is_picked m.entry then tries_of c (after_from c s (entry_list m.entry)) else w.tries

  -- none is open
  pub waits : (tries : ℕ) → tries ≤ Has → w.trying ≡ None → m.behind.ops + left ≤ before.ops + w.left → IsWorked f room worn c before s w m (may_begin left tries)
  waits tries few none less = record {
    begins = λ n is. none_some n is;
    adds = λ test has. omega (arith, less);
    ends = λ n is. none_some n (sym none ∙ is);
    none = λ is. refl;
    over = λ posted. none;
    tries = omega (arith, few);
  }

  pub rests : w.trying ≡ None → m.behind.ops + left ≤ before.ops + w.left → IsWorked f room worn c before s w m (none_began left None)
  rests = waits 0 (omega arith)

  module _ (n : ℕ) (not_posted : is_posted m.entry ≡ false) where
    -- one goes on
    pub goes : w.trying ≡ Some n → m.behind.ops + left ≤ before.ops + w.left → IsWorked f room worn c before s w m (none_began left (Some n))
    goes some less = record {
      begins = λ k is. none_some k is;
      adds = λ test has. omega (arith, less);
      ends = λ k is. inl (sym some ∙ is);
      none = λ is. none_some n (sym is ∙ some);
      over = λ posted. is_not (is_posted m.entry) not_posted posted;
      tries = omega arith;
    }

    -- one is over
    pub ends : w.trying ≡ Some n → m.behind.ops + left ≤ before.ops + w.left → EndsTry worn c s n before m → IsWorked f room worn c before s w m (none_began left None)
    ends some less over = record {
      begins = λ k is. none_some k is;
      adds = λ test has. omega (arith, less);
      ends = λ k is. inr (refl, ended k (sym some ∙ is));
      none = λ is. refl;
      over = λ posted. is_not (is_posted m.entry) not_posted posted;
      tries = omega arith;
    }
      where
        ended : (k : ℕ) → Some n ≡ Some k → EndsTry worn c s k before m
        ended k same = let is : n ≡ k = cc same in rw (← is) over

    -- one begins
    pub begins : 1 ≤ Has → MayBegin c s w n → ((test : ℕ → Bool) → m.behind.ops + left ≤ before.ops + w.left + adds_most f test c before s m (began n left)) → IsWorked f room worn c before s w m (began n left)
    begins one may less = record {
      begins = λ k is. let same : n ≡ k = cc is in rw (← same) may;
      adds = λ test has. less test;
      ends = λ k is. inl is;
      none = λ is. none_some n (sym is);
      over = λ posted. is_not (is_posted m.entry) not_posted posted;
      tries = omega (arith, one);
    }

-- What a flash counts, and what the device over it does.
use Rattle.std.specs.Prelude.{min, nat_le, ◌-◌, ◌&&◌, if◌then◌else◌}
use Rattle.std.proofs.Common.{◌≡◌, ◌⊎◌, inl, inr, ◌≤◌, ◌+◌, ◌++◌, ◌∷◌, ℕ, Bool, true, false, List, [], Some, refl, length, arith, length-append}
use Rattle.std.proofs.lemmas.Bool.{cases_lt}
use Rattle.nv_base.specs.Count.{Rose, next_count, last_count, WereCounted}
use Rattle.nv_base.specs.Plan.{Planning, planned}
use Rattle.fls_model.specs.declared.flash.FlashAnswer.{FlashAnswer}
use Rattle.fls_model.specs.declared.flash.FlashAnswer.TheVariants.{Done, Failed, Off}
use Rattle.fls_model.specs.Step.{HasCause, CountsUnplanned}
use Rattle.fls_model.specs.Told.{Told, Change}
use Rattle.fls_told.specs.Runs.{CountsCuts, CountsEachCut, counts_fault}

-- CUTS
more_by : (a b : ℕ) → Rose a b → a ≤ b
more_by a b (inl less) = omega arith
more_by a b (inr (big, le)) = le

more_counted : (s t : Told) (answer : FlashAnswer) → HasCause answer s t → s.cuts ≤ t.cuts
more_counted s t Done cause = let h = cause.1 in omega (arith, h)
more_counted s t Failed cause = let h = cause.1 in omega (arith, h)
more_counted s t Off cause = more_by s.cuts t.cuts cause.1

counted_by : (u0 c0 u c v e : ℕ) → c ≤ e → (v + c ≤ u + e) ⊎ (last_count ≤ e) → (u + c0 ≤ u0 + c) ⊎ (last_count ≤ c) → (v + c0 ≤ u0 + e) ⊎ (last_count ≤ e)
counted_by u0 c0 u c v e more (inl a) (inl b) = inl (omega arith)
counted_by u0 c0 u c v e more (inl a) (inr b) = inr (omega arith)
counted_by u0 c0 u c v e more (inr a) _ = inr a

pub still_counted : (entry s t : Told) (answer : FlashAnswer) → HasCause answer s t → CountsUnplanned s t → CountsEachCut entry s → CountsEachCut entry t
still_counted entry s t answer cause counted was = record {
  before = was.before;
  since = counted_by entry.planning.unplanned entry.cuts s.planning.unplanned s.cuts t.planning.unplanned t.cuts (more_counted s t answer cause) counted was.since;
}

run_by : (u0 c0 v e n : ℕ) → u0 ≤ c0 → (v + c0 ≤ u0 + e) ⊎ (last_count ≤ e) → WereCounted n u0 v → WereCounted n c0 e
run_by u0 c0 v e n low (inl a) (inl w) = inl (omega arith)
run_by u0 c0 v e n low (inl a) (inr w) = inr (omega arith)
run_by u0 c0 v e n low (inr a) w = inr a

pub run_counts : (entry t : Told) → CountsEachCut entry t → CountsCuts entry t
run_counts entry t c n were = run_by entry.planning.unplanned entry.cuts t.planning.unplanned t.cuts n c.before c.since were

-- A PLAN OF A CUT
same_cuts : (b : Bool) (p q : Planning) → q.unplanned ≡ p.unplanned → (if b then q else p).unplanned ≡ p.unplanned
same_cuts true p q e = e
same_cuts false p q e = refl

pub cuts_stay : (nth keep : ℕ) (p : Planning) → (planned nth keep p).unplanned ≡ p.unplanned
cuts_stay nth keep p = same_cuts (nat_le 1 p.takes && nat_le 1 nth) p (record p { plan = Some (record { left = nth; keep = keep }); takes = p.takes - 1 }) refl

pub came_stay : (nth keep : ℕ) (p : Planning) → ((planned nth keep p).came ≡ p.came) × ((planned nth keep p).withheld ≡ p.withheld)
came_stay nth keep p = by_test (nat_le 1 p.takes && nat_le 1 nth)
  where
    by_test : (b : Bool) → ((if b then record p { plan = Some (record { left = nth; keep = keep }); takes = p.takes - 1 } else p).came ≡ p.came)
        × ((if b then record p { plan = Some (record { left = nth; keep = keep }); takes = p.takes - 1 } else p).withheld ≡ p.withheld)
    by_test true = (refl, refl)
    by_test false = (refl, refl)

-- OPERATIONS
-- one more
pub next_length : (xs : List Change) (x : Change) (count : ℕ) → count ≡ min (length xs) last_count → next_count count ≡ min (length (xs ++ x ∷ [])) last_count
next_length xs x count is = let h = length-append xs (x ∷ []) in omega (arith, is, h)

pub one_later : (xs : List Change) (x : Change) → length xs ≤ length (xs ++ x ∷ [])
one_later xs x = (let h = length-append xs (x ∷ []) in omega (arith, h))

-- FAULTS
pub rose_next : (n : ℕ) → n ≤ last_count → Rose n (next_count n)
rose_next n few = elim (cases_lt n last_count) [ inl less ↦ inl (omega arith) | inr big ↦ inr (big, omega arith) ]

pub few_faults : (answer : FlashAnswer) (n : ℕ) → n ≤ last_count → counts_fault answer n ≤ last_count
few_faults Done n few = few
few_faults Failed n few = omega arith
few_faults Off n few = few

pub failure_counted : (answer : FlashAnswer) (n : ℕ) → n ≤ last_count → answer ≡ Failed → Rose n (counts_fault answer n)
failure_counted Done n few failed = cc
failure_counted Failed n few failed = rose_next n few
failure_counted Off n few failed = cc

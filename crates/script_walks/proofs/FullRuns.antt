-- Waits that stay over, and runs that meet a full history.
use Rattle.std.specs.Prelude.{slice_get, take, not}
use Rattle.std.proofs.Common.{◌≡◌, ◌==◌, ◌≤◌, ◌⊎◌, inl, inr, ℕ, zero, suc, false, IsTrue, List, [], length, Some, refl, subst, arith}
use Rattle.std.proofs.lemmas.Bool.{ne_eqb, false≢true}
use Rattle.std.proofs.lemmas.List.{take_all}
use Rattle.block_machine.specs.block_config.DemoConfig.{demo_config}
use Rattle.block_machine.specs.Words.{Status, Entry}
use Rattle.block_machine.specs.Reply.{fits}
use Rattle.block_machine.specs.Steps.{after}
use Rattle.block_machine.specs.Cases.{read}
use Rattle.script_walks.specs.Words.{Step, Await}
use Rattle.script_walks.specs.Callers.{program_of, requests_of, asks_of, is_over, WaitedFor, IsInOrder}
use Rattle.script_walks.specs.Looks.{AreInOrder}
use Rattle.script_walks.specs.Runs.{AskedAll, IsNextAsk, HadNoRoom, IsFullRun}
use Rattle.script_walks.specs.Cases.{both_write, pending_again, immediate_config, full_script, full_run}
use Rattle.script_walks.proofs.Runs.{KeepsAwaits, awaited, no_awaits, none_is, some_is}

-- A WAIT THAT STAYS OVER

over_once : WaitedFor 1 2 1 pending_again
over_once = record { entries = 5; some = omega arith; within = omega arith; asked = refl; over = refl }

pub next_ask : IsNextAsk demo_config both_write pending_again 1 (read 2)
next_ask = record { next = refl; waited = waited }
  where
    waited : (n block : ℕ) (x : Step) → slice_get (program_of 1 both_write) n ≡ Some x → x.kind ≡ Await block
        → length (requests_of demo_config (take n (program_of 1 both_write))) ≡ length (asks_of 1 pending_again) → WaitedFor 1 block (length (asks_of 1 pending_again)) pending_again
    waited zero block x at kind here = let same = some_is _ x at in cc
    waited (suc zero) block x at kind here = subst (λ (b : ℕ). WaitedFor 1 b 1 pending_again) (awaited x block at kind) over_once
    waited (suc (suc zero)) block x at kind here = let same = some_is _ x at in cc
    waited (suc (suc (suc n))) block x at kind here = absurd (none_is x at)

abbrev early : List Entry
early = take 4 pending_again

not_over : (n : ℕ) → n ≤ 4 → length (asks_of 1 (take n early)) ≡ 1 → IsTrue (is_over 2 (take n early)) → ⊥
not_over zero within asked over = omega arith
not_over (suc zero) within asked over = omega arith
not_over (suc (suc zero)) within asked over = false≢true over
not_over (suc (suc (suc zero))) within asked over = false≢true over
not_over (suc (suc (suc (suc zero)))) within asked over = false≢true over
not_over (suc (suc (suc (suc (suc n))))) within asked over = omega (arith, within)

still_waits : WaitedFor 1 2 1 early → ⊥
still_waits w = not_over w.entries w.within w.asked w.over

pub no_early_ask : IsNextAsk demo_config both_write early 1 (read 2) → ⊥
no_early_ask ask = still_waits (ask.waited 1 2 _ refl refl refl)

-- A FULL HISTORY

not_1 : (n : ℕ) → (1 == suc (suc (suc n))) ≡ false
not_1 n = ne_eqb 1 (suc (suc (suc n))) (λ e. omega arith)

not_2 : (n : ℕ) → (2 == suc (suc (suc n))) ≡ false
not_2 n = ne_eqb 2 (suc (suc (suc n))) (λ e. omega arith)

-- who has no program, and asks nothing, keeps to it
no_order : (caller : ℕ) → program_of caller full_script ≡ [] → asks_of caller full_run ≡ [] → IsInOrder immediate_config caller (program_of caller full_script) full_run
no_order caller none nothing = rw none (record { requests = rw nothing refl; awaits = no_awaits immediate_config _ _ })

order : (caller : ℕ) → IsInOrder immediate_config caller (program_of caller full_script) full_run
order zero = record { requests = refl; awaits = no_awaits immediate_config _ _ }
order (suc zero) = record { requests = refl; awaits = awaits }
  where
    awaits : KeepsAwaits immediate_config 1 (program_of 1 full_script) full_run
    awaits zero block x at kind more = let same = some_is _ x at in cc
    awaits (suc zero) block x at kind more = subst (λ (b : ℕ). WaitedFor 1 b 1 full_run) (awaited x block at kind) (record { entries = 5; some = omega arith; within = omega arith; asked = refl; over = refl })
    awaits (suc (suc zero)) block x at kind more = let same = some_is _ x at in cc
    awaits (suc (suc (suc n))) block x at kind more = absurd (none_is x at)
order (suc (suc zero)) = record { requests = refl; awaits = awaits }
  where
    awaits : KeepsAwaits immediate_config 2 (program_of 2 full_script) full_run
    awaits zero block x at kind more = let same = some_is _ x at in cc
    awaits (suc n) block x at kind more = absurd (none_is x at)
order (suc (suc (suc n))) = no_order (suc (suc (suc n))) (simp (not_1 n, not_2 n) refl) (simp (not_1 n) refl)

no_looks : AreInOrder []
no_looks i j a b less at there = absurd (none_is a at)

-- caller 2 had no room while the write held its entries
second_stops : HadNoRoom 8 immediate_config full_script full_run 2
second_stops = record { entries = 2; request = Status 2; next = record { next = refl; waited = waited }; full = refl; last = refl }
  where
    waited : (n block : ℕ) (x : Step) → slice_get (program_of 2 full_script) n ≡ Some x → x.kind ≡ Await block
        → length (requests_of immediate_config (take n (program_of 2 full_script))) ≡ length (asks_of 2 (take 2 full_run)) → WaitedFor 2 block (length (asks_of 2 (take 2 full_run))) (take 2 full_run)
    waited zero block x at kind here = let same = some_is _ x at in cc
    waited (suc n) block x at kind here = absurd (none_is x at)

others : (caller : ℕ) → AskedAll immediate_config full_script full_run caller ⊎ HadNoRoom 8 immediate_config full_script full_run caller
others zero = inl refl
others (suc zero) = inl refl
others (suc (suc zero)) = inr second_stops
others (suc (suc (suc n))) = inl (simp (not_1 n, not_2 n) refl)

pub full : IsFullRun 8 immediate_config full_script [] full_run
full = record {
  order = record { one_start = refl; order = order; in_order = no_looks; shown = (tt, (tt, (tt, (tt, (tt, (tt, tt)))))) };
  caller = 2;
  full = second_stops;
  others = others;
  ends = refl;
}

-- caller 1 has room once its write is posted, and waits before
abbrev stopped : List Entry
stopped = take 5 full_run

pending : (k n : ℕ) → k ≤ 4 → n ≤ k → length (asks_of 1 (take n (take k stopped))) ≡ 1 → IsTrue (is_over 2 (take n (take k stopped))) → ⊥
pending k zero few within asked over = omega arith
pending zero (suc n) few within asked over = omega (arith, within)
pending (suc k) (suc zero) few within asked over = omega arith
pending (suc zero) (suc (suc n)) few within asked over = omega (arith, within)
pending (suc (suc k)) (suc (suc zero)) few within asked over = false≢true over
pending (suc (suc zero)) (suc (suc (suc n))) few within asked over = omega (arith, within)
pending (suc (suc (suc k))) (suc (suc (suc zero))) few within asked over = false≢true over
pending (suc (suc (suc zero))) (suc (suc (suc (suc n)))) few within asked over = omega (arith, within)
pending (suc (suc (suc (suc k)))) (suc (suc (suc (suc zero)))) few within asked over = false≢true over
pending (suc (suc (suc (suc k)))) (suc (suc (suc (suc (suc n))))) few within asked over = omega (arith, few, within)

first_goes_on : HadNoRoom 8 immediate_config full_script stopped 1 → ⊥
first_goes_on w = by w.entries w.last w.full w.next.waited
  where
    by : (n : ℕ) → asks_of 1 stopped ≡ asks_of 1 (take n stopped) → IsTrue (not (fits immediate_config 8 (after immediate_config (take n stopped)) 1))
        → ((i block : ℕ) (x : Step) → slice_get (program_of 1 full_script) i ≡ Some x → x.kind ≡ Await block → length (requests_of immediate_config (take i (program_of 1 full_script))) ≡ length (asks_of 1 (take n stopped)) → WaitedFor 1 block (length (asks_of 1 (take n stopped))) (take n stopped))
        → ⊥
    by zero last is waited = cc
    by (suc zero) last is waited = cc
    by (suc (suc zero)) last is waited = let w = waited 1 2 _ refl refl refl in pending 2 w.entries (omega arith) w.within w.asked w.over
    by (suc (suc (suc zero))) last is waited = let w = waited 1 2 _ refl refl refl in pending 3 w.entries (omega arith) w.within w.asked w.over
    by (suc (suc (suc (suc zero)))) last is waited = let w = waited 1 2 _ refl refl refl in pending 4 w.entries (omega arith) w.within w.asked w.over
    by (suc (suc (suc (suc (suc n))))) last is waited = false≢true (subst (λ (h : List Entry). IsTrue (not (fits immediate_config 8 (after immediate_config h) 1))) (take_all (suc (suc (suc (suc (suc n))))) stopped (omega arith)) is)

not_all : AskedAll immediate_config full_script stopped 1 → ⊥
not_all all = cc

pub not_all_stop : IsFullRun 8 immediate_config full_script [] stopped → ⊥
not_all_stop run = elim (run.others 1) [ inl all ↦ not_all all | inr full ↦ first_goes_on full ]

pub no_job_in_hand : IsFullRun 8 immediate_config full_script [] (take 3 full_run) → ⊥
no_job_in_hand run = false≢true run.ends

has_room : (n : ℕ) → IsTrue (not (fits immediate_config 9 (after immediate_config (take n full_run)) 1)) → ⊥
has_room zero is = false≢true is
has_room (suc zero) is = false≢true is
has_room (suc (suc zero)) is = false≢true is
has_room (suc (suc (suc zero))) is = false≢true is
has_room (suc (suc (suc (suc zero)))) is = false≢true is
has_room (suc (suc (suc (suc (suc zero))))) is = false≢true is
has_room (suc (suc (suc (suc (suc (suc n)))))) is = false≢true (subst (λ (h : List Entry). IsTrue (not (fits immediate_config 9 (after immediate_config h) 1))) (take_all (suc (suc (suc (suc (suc (suc n)))))) full_run (omega arith)) is)

pub room_for_all : IsFullRun 9 immediate_config full_script [] full_run → ⊥
room_for_all run = has_room run.full.entries run.full.full

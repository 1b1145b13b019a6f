-- The callers' order in the worked runs.
use Rattle.std.specs.Prelude.{slice_get, take}
use Rattle.std.proofs.Common.{◌≡◌, ◌<◌, ◌==◌, ℕ, zero, suc, false, IsTrue, List, [], length, Some, None, refl, subst, arith}
use Rattle.std.proofs.lemmas.Bool.{ne_eqb, false≢true}
use Rattle.block_machine.specs.block_config.DemoConfig.{demo_config}
use Rattle.block_machine.specs.Words.{Configuration, Entry}
use Rattle.script_walks.specs.Words.{Step, Await}
use Rattle.script_walks.specs.Callers.{program_of, requests_of, asks_of, is_over, WaitedFor, IsInOrder}
use Rattle.script_walks.specs.Looks.{AreInOrder}
use Rattle.script_walks.specs.Runs.{IsRun, IsWholeRun}
use Rattle.script_walks.specs.Cases.{by, callers_script, two_callers, impatient_caller}

pub none_is : {X : Type 0} (x : X) → None ≡ Some x → ⊥
none_is x is = cc

pub some_is : {X : Type 0} (x y : X) → Some x ≡ Some y → x ≡ y
some_is x y is = cc

-- the step waits for block 2
pub awaited : (x : Step) (block : ℕ) → Some (by 1 (Await 2)) ≡ Some x → x.kind ≡ Await block → 2 ≡ block
awaited x block at kind = let same = some_is _ x at in cc

-- behind each `await` of the program a further request comes only once the wait was over
abbrev pub KeepsAwaits : Configuration → ℕ → List Step → List Entry → Type 0
KeepsAwaits c caller program h =
    (n block : ℕ) (x : Step) → slice_get program n ≡ Some x → x.kind ≡ Await block → length (requests_of c (take n program)) < length (asks_of caller h)
    → WaitedFor caller block (length (requests_of c (take n program))) h

pub no_awaits : (c : Configuration) (caller : ℕ) (h : List Entry) → KeepsAwaits c caller [] h
no_awaits c caller h n block x at = absurd (none_is x at)

awaits_1 : KeepsAwaits demo_config 1 (program_of 1 callers_script) two_callers
awaits_1 zero block x at kind more = let same = some_is _ x at in cc
awaits_1 (suc zero) block x at kind more = subst (λ (b : ℕ). WaitedFor 1 b 1 two_callers) (awaited x block at kind) (record { entries = 6; some = omega arith; within = omega arith; asked = refl; over = refl })
awaits_1 (suc (suc zero)) block x at kind more = let same = some_is _ x at in cc
awaits_1 (suc (suc (suc n))) block x at kind more = absurd (none_is x at)

awaits_2 : KeepsAwaits demo_config 2 (program_of 2 callers_script) two_callers
awaits_2 zero block x at kind more = let same = some_is _ x at in cc
awaits_2 (suc n) block x at kind more = absurd (none_is x at)

not_1 : (n : ℕ) → (1 == suc (suc (suc n))) ≡ false
not_1 n = ne_eqb 1 (suc (suc (suc n))) (λ e. omega arith)

not_2 : (n : ℕ) → (2 == suc (suc (suc n))) ≡ false
not_2 n = ne_eqb 2 (suc (suc (suc n))) (λ e. omega arith)

no_program : (n : ℕ) → program_of (suc (suc (suc n))) callers_script ≡ []
no_program n = simp (not_1 n, not_2 n) refl

no_asks : (n : ℕ) → asks_of (suc (suc (suc n))) two_callers ≡ []
no_asks n = simp (not_1 n, not_2 n) refl

order : (caller : ℕ) → IsInOrder demo_config caller (program_of caller callers_script) two_callers
order zero = record { requests = refl; awaits = no_awaits demo_config _ _ }
order (suc zero) = record { requests = refl; awaits = awaits_1 }
order (suc (suc zero)) = record { requests = refl; awaits = awaits_2 }
order (suc (suc (suc caller))) = rw (no_program caller) (record { requests = rw (no_asks caller) refl; awaits = no_awaits demo_config _ _ })

all : (caller : ℕ) → asks_of caller two_callers ≡ requests_of demo_config (program_of caller callers_script)
all zero = refl
all (suc zero) = refl
all (suc (suc zero)) = refl
all (suc (suc (suc caller))) = rw (no_program caller, no_asks caller) refl

no_looks : AreInOrder []
no_looks i j a b less at there = cc

pub two_callers_run : IsWholeRun demo_config callers_script [] two_callers
two_callers_run = record {
  order = record {
    one_start = refl;
    order = order;
    in_order = no_looks;
    shown = (tt, (tt, (tt, (tt, (tt, (tt, (tt, (tt, (tt, tt)))))))));
  };
  all = all;
  ends = refl;
}

-- the wait of caller 1 wasn't over before its read
no_wait : (n : ℕ) → length (asks_of 1 (take n impatient_caller)) ≡ 1 → IsTrue (is_over 2 (take n impatient_caller)) → ⊥
no_wait zero asked over = omega arith
no_wait (suc zero) asked over = omega arith
no_wait (suc (suc zero)) asked over = false≢true over
no_wait (suc (suc (suc zero))) asked over = false≢true over
no_wait (suc (suc (suc (suc zero)))) asked over = omega arith
no_wait (suc (suc (suc (suc (suc zero))))) asked over = omega arith
no_wait (suc (suc (suc (suc (suc (suc zero)))))) asked over = omega arith
no_wait (suc (suc (suc (suc (suc (suc (suc n))))))) asked over = omega arith

waits : WaitedFor 1 2 1 impatient_caller → ⊥
waits w = no_wait w.entries w.asked w.over

pub impatient_caller_no_run : IsRun demo_config callers_script [] impatient_caller → ⊥
impatient_caller_no_run run = waits ((run.order 1).awaits 1 2 _ refl refl (omega arith))

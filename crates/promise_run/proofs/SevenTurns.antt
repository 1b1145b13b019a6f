-- The turns of a write of the second device.
use Rattle.std.specs.Prelude.{slice_get, if◌then◌else◌}
use Rattle.std.proofs.Common.{◌≡◌, ◌≤◌, ◌<◌, ◌+◌, ◌-◌, ℕ, zero, suc, Bool, true, false, List, [], ◌∷◌, Option, Some, None, refl, ap, subst, inl, inr, arith, rules}
use Rattle.memif.specs.Clock.{TakesKept}
use Rattle.fls_model.specs.Told.{Change}
use Rattle.block_machine.specs.Words.{Fine, Content, Entry, Wrote, Post, Found}
use Rattle.block_machine.specs.State.{State}
use Rattle.block_machine.specs.Blocks.{job_block}
use Rattle.block_machine.specs.Steps.{after, after_from}
use Rattle.promise_blocks.specs.Work.{MayBegin}
use Rattle.promise_device.specs.FlashRun.{HasFailed}
use Rattle.promise_run.specs.Operations.{HasWork, costs_of_both}
use Rattle.promise_run.specs.Turns.{Moment, Move, moment_after, AreMoves, CountsOwn, EachMove, IsPostedWithin, PostsPicked}
use Rattle.promise_run.specs.TwoFlashes.{IsWornOfBoth, own_ops}
use Rattle.promise_run.specs.TurnsOfBoth.{HadFreeOfBoth, HasFailedOfBoth, HasTraitOfBoth, KeepsTurnsOfBoth}
use Rattle.promise_run.specs.Cases.{one, picks_one, always}
use Rattle.promise_run.specs.BothCases.{makes_five, makes_one, made_untold, seven_turns, two_devices}
use Rattle.promise_run.proofs.OneByOne.{asked_one, at_ops, at_work, no_sweep, none_urgent, some_same}
use Rattle.promise_run.proofs.Efforts.{may_begin, none_began, began, waits, rests, goes, ends, begins}

abbrev wrote : Move
wrote = record { entry = Some (Wrote (record { block = 2; index = 0 }) (Content one) 5); behind = at_ops 5 }

abbrev posted : Move
posted = record { entry = Some (Post 2 Fine None 0 5); behind = at_ops 5 }

abbrev nothing : ℕ → Move
nothing n = record { entry = None; behind = at_ops n }

abbrev behind_pick : List Move
behind_pick = nothing 1 ∷ nothing 2 ∷ nothing 3 ∷ nothing 4 ∷ wrote ∷ posted ∷ []

abbrev asks : Move
asks = record { entry = Some asked_one; behind = at_ops 0 }

abbrev picks : Move
picks = record { entry = Some picks_one; behind = at_ops 0 }

abbrev all : List Move
all = asks ∷ picks ∷ behind_pick

abbrev begun : State
begun = after two_devices (Found [] 0 ∷ [])

abbrev picked : State
picked = after_from two_devices (after two_devices (Found [] 0 ∷ asked_one ∷ [])) (picks_one ∷ [])

passes : (turns all : ℕ) (ops : ℕ) (ms : List Move) → 1 < turns → 1 < all → IsPostedWithin 2 8 (all - 1) (turns - 1) 0 ms → IsPostedWithin 2 8 all turns 0 (nothing ops ∷ ms)
passes turns all ops ms some more later = inr (inr (inr (inr (inr (some, more, later)))))

ends_there : IsPostedWithin 2 8 13 3 0 (posted ∷ [])
ends_there = inr (inr (inr (inr (inl refl))))

wrote_there : IsPostedWithin 2 8 14 4 0 (wrote ∷ posted ∷ [])
wrote_there = inr (inr (inr (inr (inr (omega arith, omega arith, ends_there)))))

in_time : IsPostedWithin 2 8 18 8 0 behind_pick
in_time =
    passes 8 18 1 (nothing 2 ∷ nothing 3 ∷ nothing 4 ∷ wrote ∷ posted ∷ []) (omega arith) (omega arith)
    (passes 7 17 2 (nothing 3 ∷ nothing 4 ∷ wrote ∷ posted ∷ []) (omega arith) (omega arith)
    (passes 6 16 3 (nothing 4 ∷ wrote ∷ posted ∷ []) (omega arith) (omega arith) (passes 5 15 4 (wrote ∷ posted ∷ []) (omega arith) (omega arith) wrote_there)))

posts : EachMove two_devices (PostsPicked two_devices (always 8)) begun all
posts = (
  λ is. absurd (cc is),
  (
    λ is j hand. subst (λ (id : ℕ). IsPostedWithin id 8 18 8 0 behind_pick) (ap job_block (some_same _ j hand)) in_time,
    (λ is. absurd (cc is), (λ is. absurd (cc is), (λ is. absurd (cc is), (λ is. absurd (cc is), (λ is. absurd (cc is), (λ is. absurd (cc is), tt)))))),
  ),
)

-- WORK
may_try : MayBegin two_devices picked (record { left = 0; trying = None; tries = 1 }) 128
may_try = record { none = refl; job = _; hand = refl; writes = λ is. cc is; index = 0; one = (0, omega arith, refl); number_is = refl }

five_adds : (room : Bool) → 5 ≤ 0 + ((if room then 5 else 5) + 0)
five_adds true = omega arith
five_adds false = omega arith

work : HasWork (costs_of_both two_devices) (HadFreeOfBoth seven_turns makes_five) (IsWornOfBoth seven_turns makes_five) two_devices (at_ops 0) begun all
work = record {
  left = 0;
  few = omega arith;
  efforts = none_began 0 None ∷ may_begin 0 1 ∷ began 128 4 ∷ none_began 3 (Some 128) ∷ none_began 2 (Some 128) ∷ none_began 1 (Some 128) ∷ none_began 0 None ∷ none_began 0 None ∷ [];
  are = (rests _ _ _ _ _ _ _ _ _ refl (omega arith), (waits _ _ _ _ _ _ _ _ _ 1 (omega arith) refl (omega arith), (begins _ _ _ _ _ _ _ _ _ 128 refl (omega arith) may_try (λ test. five_adds (test 5)), (goes _ _ _ _ _ _ _ _ _ 128 refl refl (omega arith), (goes _ _ _ _ _ _ _ _ _ 128 refl refl (omega arith), (goes _ _ _ _ _ _ _ _ _ 128 refl refl (omega arith), (ends _ _ _ _ _ _ _ _ _ 128 refl refl (omega arith) (inl refl), (rests _ _ _ _ _ _ _ _ _ refl (omega arith), tt))))))));
}

-- OPERATIONS
-- none failed
all_done : (n : ℕ) → HasFailed makes_five.flash n → ⊥
all_done zero (x, at, is) = cc (at, is)
all_done (suc zero) (x, at, is) = cc (at, is)
all_done (suc (suc zero)) (x, at, is) = cc (at, is)
all_done (suc (suc (suc zero))) (x, at, is) = cc (at, is)
all_done (suc (suc (suc (suc zero)))) (x, at, is) = cc (at, is)
all_done (suc (suc (suc (suc (suc n))))) (x, at, is) = cc at

done : (k : ℕ) → k < 5 → HasFailedOfBoth seven_turns makes_five k → ⊥
done zero few failed = all_done 0 failed
done (suc zero) few failed = all_done 1 failed
done (suc (suc zero)) few failed = all_done 2 failed
done (suc (suc (suc zero))) few failed = all_done 3 failed
done (suc (suc (suc (suc zero)))) few failed = all_done 4 failed
done (suc (suc (suc (suc (suc k))))) few failed = omega (arith, few)

none_fails : (n m : ℕ) {o : Option Entry} → n ≤ m → m ≤ 5 → CountsOwn (HasFailedOfBoth seven_turns makes_five) (at_ops n) (record { entry = o; behind = at_ops m })
none_fails n m more few = record { later = more; own = λ k le lt failed. absurd (done k (omega (arith, lt, few)) failed) }

-- the first flash made none
none_made : (n : ℕ) (x : Change) → slice_get [] n ≡ Some x → ⊥
none_made zero x is = cc is
none_made (suc n) x is = cc is

no_page : {P : Type 0} {from to : ℕ} → (k : ℕ) → from ≤ k → k < to → HasTraitOfBoth seven_turns makes_five TakesKept k → P
no_page k le lt (of, (x, at, is)) = absurd (none_made (own_ops seven_turns makes_five false k) x at)

-- A RUN
pub kept : KeepsTurnsOfBoth (always 8) seven_turns makes_five seven_turns.course
kept = record {
  first = at_ops 0;
  last = at_ops 5;
  moves = all;
  made = record {
    steps = record {
      moves = (asks ∷ []) ∷ (picks ∷ behind_pick) ∷ [];
      are = (refl, ((refl, search rules), tt));
      tell = refl;
      behind = refl;
    };
    all = refl;
    drains = λ calm. (λ drain. absurd (cc drain), (λ drain. absurd (cc drain), tt));
    finds = (λ drain. absurd (cc drain), (λ drain. absurd (cc drain), tt));
    cuts = (
      ((tt, tt), ((tt, (tt, (tt, (tt, (tt, (tt, (tt, tt))))))), tt)),
      ((tt, tt), ((tt, (tt, (tt, (tt, (tt, (tt, (tt, tt))))))), tt)),
    );
  };
  begins = refl;
  operations = refl;
  failed = (none_fails 0 0 (omega arith) (omega arith), (none_fails 0 0 (omega arith) (omega arith), (none_fails 0 1 (omega arith) (omega arith), (none_fails 1 2 (omega arith) (omega arith), (none_fails 2 3 (omega arith) (omega arith), (none_fails 3 4 (omega arith) (omega arith), (none_fails 4 5 (omega arith) (omega arith), (none_fails 5 5 (omega arith) (omega arith), tt))))))));
  counted = (0, 0, omega arith, inl (omega arith), inl (omega arith));
  ends = tt;
  serves = (
    λ no_ask no_found. absurd (cc no_ask),
    (
      λ no_ask no_found. (_, inl refl, (refl, λ sw is. absurd (no_sweep sw is))),
      (
        λ no_ask no_found. (_, inl refl, (refl, λ sw is. absurd (no_sweep sw is))),
        (
          λ no_ask no_found. (_, inl refl, (refl, λ sw is. absurd (no_sweep sw is))),
          (
            λ no_ask no_found. (_, inl refl, (refl, λ sw is. absurd (no_sweep sw is))),
            (
              λ no_ask no_found. (_, inl refl, (refl, λ sw is. absurd (no_sweep sw is))),
              (λ no_ask no_found. (_, inl refl, (refl, λ sw is. absurd (no_sweep sw is))), (λ no_ask no_found. (_, inl refl, (refl, λ sw is. absurd (no_sweep sw is))), tt)),
            ),
          ),
        ),
      ),
    ),
  );
  posts = posts;
  rests = (λ rest idle no_ask. absurd (cc no_ask), (at_work, (at_work, (at_work, (at_work, (at_work, (at_work, (at_work, tt))))))));
  work = work;
  kept = (no_page, (no_page, (no_page, (no_page, (no_page, (no_page, (no_page, (no_page, tt))))))));
  urgent = λ told sound. (λ first id is. absurd (none_urgent id is), (λ first id is. absurd (none_urgent id is), (λ first id is. absurd (none_urgent id is), (λ first id is. absurd (none_urgent id is), (λ first id is. absurd (none_urgent id is), (λ first id is. absurd (none_urgent id is), (λ first id is. absurd (none_urgent id is), (λ first id is. absurd (none_urgent id is), tt))))))));
  paid = λ told sound tells from. (inl (inl (omega arith)), (inl (inl (omega arith)), (inl (inl (omega arith)), (inl (inl (omega arith)), (inl (inl (omega arith)), (inl (inl (omega arith)), (inl (inl (omega arith)), (inl (inl (omega arith)), tt))))))));
}

pub not_untold : KeepsTurnsOfBoth (always 8) made_untold makes_one made_untold.course → ⊥
not_untold has = by has.made.steps.moves has.made.steps.are has.made.steps.behind
  where
    by : (mss : List (List Move)) → AreMoves has.first [] mss → moment_after has.first mss ≡ has.last → ⊥
    by [] are behind =
        let start = some_same 0 has.first.ops has.begins in
        let end = ap (λ (m : Moment). m.ops) behind in
        let all : has.last.ops ≡ 1 = has.operations in omega (arith, start, end, all)
    by (ms ∷ mss) are behind = are

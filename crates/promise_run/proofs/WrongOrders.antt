-- Runs that break the promise by their order.
use Rattle.std.specs.Prelude.{take, not}
use Rattle.std.proofs.Common.{◌≡◌, ◌≤◌, ℕ, zero, suc, IsTrue, List, length, get_or, refl, ap, subst, inl, inr, arith}
use Rattle.std.proofs.lemmas.Bool.{false≢true}
use Rattle.std.proofs.lemmas.List.{take_all}
use Rattle.block_machine.specs.Words.{Entry}
use Rattle.block_machine.specs.Reply.{fits}
use Rattle.block_machine.specs.Steps.{after}
use Rattle.script_walks.specs.Callers.{asks_of, is_over}
use Rattle.promise_run.specs.Run.{cap, HasOrder}
use Rattle.promise_run.specs.Cases.{blank, wiped, empty_at_11, stale_in_play, invented_store, second_found, unseen_stale, later_store, full_for_nothing}

differ : (a b : List ℕ) → get_or a 0 0 ≡ 255 → get_or b 0 0 ≡ 66 → a ≡ b → ⊥
differ a b is was same = omega (arith, is, was, ap (λ (bytes : List ℕ). get_or bytes 0 0) same)

pub not_wiped : HasOrder wiped wiped.history → ⊥
not_wiped order = elim order.2.bytes [
  | inl same ↦ differ blank _ refl refl same
  | inr grown ↦ differ blank _ refl refl grown
]

pub not_empty_at_11 : HasOrder empty_at_11 empty_at_11.history → ⊥
not_empty_at_11 order = order.0

pub no_stale_in_play : HasOrder stale_in_play stale_in_play.history → ⊥
no_stale_in_play order = cc (order.0.1.1.1.0.0.played)

pub no_invented_store : HasOrder invented_store invented_store.history → ⊥
no_invented_store order = cc (order.0.1.1.1.0.1.0)

pub no_second_found : HasOrder second_found second_found.history → ⊥
no_second_found order = cc (order.order.one_start)

pub no_unseen_stale : HasOrder unseen_stale unseen_stale.history → ⊥
no_unseen_stale order = order.order.shown.1.1.0

-- the write is pending where it takes the store
still_waits : (n : ℕ) → n ≤ 2 → length (asks_of 1 (take n (take 2 later_store.history))) ≡ 1 → IsTrue (is_over 2 (take n (take 2 later_store.history))) → ⊥
still_waits zero within asked over = omega arith
still_waits (suc zero) within asked over = omega arith
still_waits (suc (suc zero)) within asked over = false≢true over
still_waits (suc (suc (suc n))) within asked over = omega (arith, within)

pub no_later_store : HasOrder later_store later_store.history → ⊥
no_later_store order =
    let w = (order.order.shown.1.1.0.0.made 2 _ refl refl refl).waits 1 2 _ refl refl in
    still_waits w.entries w.within w.asked w.over

has_room : (entries : ℕ) → IsTrue (not (fits full_for_nothing.configuration cap (after full_for_nothing.configuration (take entries full_for_nothing.history)) 1)) → ⊥
has_room zero is = false≢true is
has_room (suc n) is = false≢true (subst (λ (h : List Entry). IsTrue (not (fits full_for_nothing.configuration cap (after full_for_nothing.configuration h) 1))) (take_all (suc n) full_for_nothing.history (omega arith)) is)

pub no_full_for_nothing : HasOrder full_for_nothing full_for_nothing.history → ⊥
no_full_for_nothing order = has_room order.full.entries order.full.full

use Rattle.promise_run.proofs.WrongOrders.{not_wiped, not_empty_at_11, no_stale_in_play, no_invented_store, no_second_found, no_unseen_stale, no_later_store, no_full_for_nothing}
use Rattle.promise_run.proofs.cases.wrong_orders_break_it.Goals as goal

pub returns-clause-wiped : goal.returns-clause-wiped
returns-clause-wiped c = (λ p. p.order, not_wiped)

pub returns-clause-empty_at_11 : goal.returns-clause-empty_at_11
returns-clause-empty_at_11 c = (λ p. p.order, not_empty_at_11)

pub returns-clause-stale_in_play : goal.returns-clause-stale_in_play
returns-clause-stale_in_play c = (λ p. p.order, no_stale_in_play)

pub returns-clause-invented_store : goal.returns-clause-invented_store
returns-clause-invented_store c = (λ p. p.order, no_invented_store)

pub returns-clause-second_found : goal.returns-clause-second_found
returns-clause-second_found c = (λ p. p.order, no_second_found)

pub returns-clause-unseen_stale : goal.returns-clause-unseen_stale
returns-clause-unseen_stale c = (λ p. p.order, no_unseen_stale)

pub returns-clause-later_store : goal.returns-clause-later_store
returns-clause-later_store c = (λ p. p.order, no_later_store)

pub returns-clause-full_for_nothing : goal.returns-clause-full_for_nothing
returns-clause-full_for_nothing c = (λ p. p.order, no_full_for_nothing)

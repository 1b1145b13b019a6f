-- Power cuts that are planned, from call to call and from step to step.
use Rattle.script_player.proofs.Common.{◌≡◌, ℕ, true, List, [], ◌∷◌, ◌++◌, Option, Some, None, refl, sym, ap, ◌∙◌, subst, inl, inr, arith, Request, Reply, Entry, Ask, Pick, Wrote, Post, Off, Found, Configuration, State, step, after_from, histories_step, Step, StepKind, AskStep, Refuse, IsTurn, Moment, Move, Planned, entries_of, moment_behind, moment_after, planned_by, IsInTime, AreInTime, AreMoves, all_moves, from_more, entries_more, StackTold, state_of, moment_of, IsComing, IsPending, PlansCuts, AddsAsk, MakesTurn, Refuses, planned_behind, CutsCome, none_in_time, Stands, CarriesCuts}
use Rattle.script_player.proofs.Grown.{state_grown}
use Rattle.uds_gateway.proofs.Power.{stays_off}

-- AT A MOMENT

pub in_time : (p : Planned) (t : StackTold) → IsComing p t → IsInTime (Some p) (moment_of t) (state_of t)
in_time p t (inl stands) = inl (let more = stands.later in let soon = stands.soon in omega (arith, more, soon))
in_time p t (inr off) = inr off

pending_in_time : (plan : Option Planned) (t : StackTold) → IsPending plan t → IsInTime plan (moment_of t) (state_of t)
pending_in_time None t pending = tt
pending_in_time (Some p) t pending = in_time p t pending

-- CALLS

stands_same : (p : Planned) (old new : StackTold) → new.causes.plan ≡ old.causes.plan → new.ops ≡ old.ops → new.faults ≡ old.faults → Stands p old → Stands p new
stands_same p old new plan ops faults stands = record {
  cut = stands.cut;
  is = plan ∙ stands.is;
  later = let more = stands.later in omega (arith, ops, more);
  soon = let soon = stands.soon in omega (arith, faults, soon);
}

-- nothing that is told of it changes, and the power that was off is so
pub pending_same : (plan : Option Planned) (old new : StackTold) → new.causes.plan ≡ old.causes.plan → new.ops ≡ old.ops → new.faults ≡ old.faults → ((state_of old).off ≡ true → (state_of new).off ≡ true)
    → IsPending plan old → IsPending plan new
pending_same None old new due ops faults off pending = tt
pending_same (Some p) old new due ops faults off (inl stands) = inl (stands_same p old new due ops faults stands)
pending_same (Some p) old new due ops faults off (inr (inl is)) = inr (inl (off is))
pending_same (Some p) old new due ops faults off (inr (inr full)) = inr (inr (omega (arith, faults, full)))

pub refuse_cuts : (block count : ℕ) (old new : StackTold) → Refuses block count old new → PlansCuts (Refuse block count) [] old new
refuse_cuts block count old new refuses one plan pending =
    (tt, pending_same plan old new (ap (λ t. t.causes.plan) refuses.only) (ap (λ t. t.ops) refuses.only) (ap (λ t. t.faults) refuses.only) (λ off. ap (λ (s : State). s.off) (ap state_of refuses.only) ∙ off) pending)

pub ask_cuts : (caller : ℕ) (asked r : Request) (reply : Reply) (old new : StackTold) → AddsAsk (Ask caller r reply) old new
    → PlansCuts (AskStep asked) (record { entry = Some (Ask caller r reply); behind = moment_of old } ∷ []) old new
ask_cuts caller asked r reply old new adds one plan pending = (
  (
    subst (λ (m : Moment). IsInTime plan m (after_from old.configuration (state_of old) (Ask caller r reply ∷ []))) (ap moment_of adds.adds)
        (subst (λ (s : State). IsInTime plan (moment_of new) s) state (pending_in_time plan new now)),
    tt,
  ),
  now,
)
  where
    state : state_of new ≡ step old.configuration (state_of old) (Ask caller r reply)
    state = ap state_of adds.adds ∙ histories_step old.configuration old.entries (Ask caller r reply)

    now : IsPending plan new
    now = pending_same plan old new adds.plan (ap (λ t. t.ops) adds.adds) (ap (λ t. t.faults) adds.adds)
        (λ off. ap (λ (s : State). s.off) state ∙ stays_off old.configuration (state_of old) (Ask caller r reply) refl off) pending

-- a turn
off_behind : (c : Configuration) (s : State) (stores : List (ℕ × List ℕ)) (es : List Entry) → IsTurn c s stores es → s.off ≡ true → (after_from c s es).off ≡ true
off_behind c s stores [] turn off = off
off_behind c s stores (Ask caller r reply ∷ []) turn off = absurd turn.entry
off_behind c s stores (Pick block kind t ops ∷ []) turn off = stays_off c s (Pick block kind t ops) refl off
off_behind c s stores (Wrote i mark ops ∷ []) turn off = stays_off c s (Wrote i mark ops) refl off
off_behind c s stores (Post block r given refused ops ∷ []) turn off = stays_off c s (Post block r given refused ops) refl off
off_behind c s stores (Off ops ∷ []) turn off = stays_off c s (Off ops) refl off
off_behind c s stores (Found marks ops ∷ []) turn off = absurd turn.entry
off_behind c s stores (e ∷ f ∷ es) turn off = absurd turn.entry

pub turn_coming : (old new : StackTold) → MakesTurn old new → old.one ≡ true → (p : Planned) → IsComing p old → IsComing p new
turn_coming old new turn one p (inl stands) = turn.cuts one p stands
turn_coming old new turn one p (inr (inl off)) =
    inr (inl (ap (λ (s : State). s.off) (state_grown old new turn.entries turn.grows) ∙ off_behind old.configuration (state_of old) old.stores turn.entries turn.turn off))
turn_coming old new turn one p (inr (inr full)) = inr (inr (let more = turn.counted in omega (arith, full, more)))

-- turns plan nothing
pub turns_cuts : (kind : StepKind) (ms : List Move) (old new : StackTold) → ((plan : Option Planned) (now : Moment) → planned_by kind now plan ≡ plan) → CarriesCuts ms old new → PlansCuts kind ms old new
turns_cuts kind ms old new same carries one plan pending =
    subst (λ (q : Option Planned). AreInTime old.configuration q (state_of old) ms × IsPending q new) (sym (same plan (moment_of old))) (by plan pending)
  where
    by : (q : Option Planned) → IsPending q old → AreInTime old.configuration q (state_of old) ms × IsPending q new
    by None pending = (none_in_time old.configuration (state_of old) ms, tt)
    by (Some p) pending = carries one p pending

-- STEPS

-- the plan behind one more step
pub planned_more : (plan : Option Planned) (now : Moment) (xs : List Step) (x : Step) (mss : List (List Move)) (ms : List Move) → AreMoves now xs mss
    → planned_behind plan now (xs ++ x ∷ []) (mss ++ ms ∷ []) ≡ planned_by x.kind (moment_after now mss) (planned_behind plan now xs mss)
planned_more plan now [] x [] ms are = refl
planned_more plan now (y ∷ ys) x (ns ∷ nss) ms are = planned_more (planned_by y.kind now plan) (moment_behind now ns) ys x nss ms are.1
planned_more plan now xs x mss ms are = absurd are

-- one more step
pub come_more : (c : Configuration) (plan : Option Planned) (now : Moment) (s : State) (xs : List Step) (x : Step) (mss : List (List Move)) (ms : List Move) → AreMoves now xs mss → CutsCome c plan now s xs mss
    → AreInTime c (planned_by x.kind (moment_after now mss) (planned_behind plan now xs mss)) (after_from c s (entries_of (all_moves mss))) ms → CutsCome c plan now s (xs ++ x ∷ []) (mss ++ ms ∷ [])
come_more c plan now s [] x [] ms are all own = (own, tt)
come_more c plan now s (y ∷ ys) x (ns ∷ nss) ms are all own = (
  all.0,
  come_more c (planned_by y.kind now plan) (moment_behind now ns) (after_from c s (entries_of ns)) ys x nss ms are.1 all.1
      (subst (λ (t : State). AreInTime c (planned_by x.kind (moment_after (moment_behind now ns) nss) (planned_behind (planned_by y.kind now plan) (moment_behind now ns) ys nss)) t ms)
      (ap (after_from c s) (entries_more ns (all_moves nss)) ∙ from_more c s (entries_of ns) (entries_of (all_moves nss))) own),
)
come_more c plan now s xs x mss ms are all own = absurd are

-- What explains refused copies and power cuts, from entries to entries.
use Rattle.script_player.proofs.Common.{map, ◌≡◌, ◌≤◌, ◌+◌, ℕ, zero, suc, List, [], ◌∷◌, ◌++◌, Option, None, refl, sym, ap, subst, inl, arith, map-append, ops_behind, Entry, Configuration, State, desc_of, step, after_from, StepKind, Cut, Refuse, Restart, DueCut, Event, Added, plan_after, copy_told, left_by, AreAsAsked, asked_by, StackTold, state_of, IsGrown, IsNoEarlier, AreCut, plan_behind, ops_at, AreExplained, Arms, Refuses, IsExplained}
use Rattle.script_player.proofs.Grown.{state_more}
use Rattle.script_player.proofs.Offs.{no_earlier_more, no_earlier_same, none_cut_same, step_before, are_earlier, are_more}

-- ENTRIES

-- copies that are refused as asked, and more behind them
asked_more : (c : Configuration) (id : ℕ) (s : State) (a b d : ℕ) (es more : List Entry) → AreAsAsked c id s a es b → AreAsAsked c id (after_from c s es) b more d
    → AreAsAsked c id s a (es ++ more) d
asked_more c id s a b d [] more one two = subst (λ (n : ℕ). AreAsAsked c id s n more d) one two
asked_more c id s a b d (e ∷ es) more one two =
    (one.0, asked_more c id (step c s e) (left_by ((desc_of c id).repeats + 1) a (copy_told c id s e)) b d es more one.1 two)

-- those of entries behind these
asked_behind : (id a b : ℕ) (old mid : StackTold) (es more : List Entry) → IsGrown es old mid → AreAsAsked mid.configuration id (state_of mid) a more b
    → AreAsAsked old.configuration id (after_from old.configuration (state_of old) es) a more b
asked_behind id a b old mid es more grows are =
    subst (λ (s : State). AreAsAsked old.configuration id s a more b) (state_more old.configuration old.entries es)
    (subst (λ (t : StackTold). AreAsAsked t.configuration id (state_of t) a more b) grows are)

pub explained_more : (plan : Option DueCut) (old mid new : StackTold) (es more : List Entry) → IsGrown es old mid → AreExplained plan es old mid → AreExplained mid.causes.plan more mid new
    → AreExplained plan (es ++ more) old new
explained_more plan old mid new es more grows one two = record {
  refusals = λ id.
      asked_more old.configuration id (state_of old) (old.causes.to_refuse id) (mid.causes.to_refuse id) (new.causes.to_refuse id) es more (one.refusals id)
      (asked_behind id (mid.causes.to_refuse id) (new.causes.to_refuse id) old mid es more grows (two.refusals id));
  off = subst (λ (xs : List Event). AreCut plan 0 xs old new) (sym (map-append Added es more))
      (are_more plan 0 (map Added es) (map Added more) old mid new one.off
      (are_earlier (plan_behind plan 0 (map Added es)) mid.causes.plan 0 (ops_at 0 (map Added es)) more mid new one.off.plan_stays two.off));
  takes = let a = one.takes in let b = two.takes in omega (arith, a, b);
}

pub none_explained : (t : StackTold) → AreExplained t.causes.plan [] t t
none_explained t = record {
  refusals = λ id. refl;
  off = none_cut_same t.causes.plan 0 t t refl refl (no_earlier_same t.causes.plan) refl refl;
  takes = omega arith;
}

-- STEPS

-- a step that plans nothing and asks for no refusals, by its entries
pub by_entries : (kind : StepKind) (es : List Entry) (old new : StackTold) → ((plan : Option DueCut) (ops : ℕ) → plan_after kind plan ops ≡ plan)
    → ((id left : ℕ) → asked_by id kind left ≡ left) → AreExplained old.causes.plan es old new → IsExplained kind es old new
by_entries kind es old new same none is = record {
  refusals = λ id. subst (λ (n : ℕ). AreAsAsked old.configuration id (state_of old) n es (new.causes.to_refuse id)) (sym (none id (old.causes.to_refuse id))) (is.refusals id);
  takes = let a = is.takes in omega (arith, a);
  offs = λ plan ops within few stays. step_before kind plan ops (map Added es) old new
      (subst (λ (p : Option DueCut). AreCut p ops (map Added es) old new) (sym (same plan ops)) (are_earlier plan old.causes.plan 0 ops es old new stays is.off));
}

pub by_restart : (es : List Entry) (old new : StackTold) → AreExplained None es old new → IsExplained Restart es old new
by_restart es old new is = record {
  refusals = is.refusals;
  takes = let a = is.takes in omega (arith, a);
  offs = λ plan ops within few stays. step_before Restart plan ops (map Added es) old new (are_earlier None None 0 ops es old new tt is.off);
}

-- a step plans its cut no earlier behind more operations
planned_later : (nth keep : ℕ) (plan : Option DueCut) (m n : ℕ) → m ≤ n → IsNoEarlier (plan_after (Cut nth keep) plan m) (plan_after (Cut nth keep) plan n)
planned_later zero keep plan m n less = no_earlier_same plan
planned_later (suc nth) keep plan m n less = (inl (omega (arith, less)), refl)

pub by_cut : (nth keep : ℕ) (old new : StackTold) → Arms nth keep old new → IsExplained (Cut nth keep) [] old new
by_cut nth keep old new arms = record {
  refusals = λ id. ap (λ t. t.causes.to_refuse id) arms.only;
  takes = arms.takes;
  offs = λ plan ops within few stays. step_before (Cut nth keep) plan ops [] old new
      (none_cut_same (plan_after (Cut nth keep) plan ops) ops old new (ap (λ t. t.causes.came) arms.only) (ap (λ t. t.causes.unplanned) arms.only)
      (no_earlier_more (plan_after (Cut nth keep) plan ops) (plan_after (Cut nth keep) plan (ops_behind 0 old.entries)) new.causes.plan
      (planned_later nth keep plan ops (ops_behind 0 old.entries) few) (arms.planned within plan stays))
      (ap (λ t. t.causes.off) arms.only) (ap state_of arms.only));
}

pub by_refuse : (block count : ℕ) (old new : StackTold) → Refuses block count old new → IsExplained (Refuse block count) [] old new
by_refuse block count old new refuses = record {
  refusals = refuses.more;
  takes = let same : new.causes.takes ≡ old.causes.takes = ap (λ t. t.causes.takes) refuses.only in omega (arith, same);
  offs = λ plan ops within few stays. step_before (Refuse block count) plan ops [] old new
      (none_cut_same plan ops old new (ap (λ t. t.causes.came) refuses.only) (ap (λ t. t.causes.unplanned) refuses.only)
      (subst (λ (p : Option DueCut). IsNoEarlier plan p) (sym (ap (λ t. t.causes.plan) refuses.only)) stays)
      (ap (λ t. t.causes.off) refuses.only) (ap state_of refuses.only));
}

-- one that leaves the causes as they were
pub by_nothing : (kind : StepKind) (old new : StackTold) → ((plan : Option DueCut) (ops : ℕ) → plan_after kind plan ops ≡ plan) → ((id left : ℕ) → asked_by id kind left ≡ left)
    → new.causes ≡ old.causes → state_of new ≡ state_of old → IsExplained kind [] old new
by_nothing kind old new same none is state = by_entries kind [] old new same none (record {
  refusals = λ id. ap (λ x. x.to_refuse id) is;
  off = none_cut_same old.causes.plan 0 old new (ap (λ x. x.came) is) (ap (λ x. x.unplanned) is)
      (subst (λ (p : Option DueCut). IsNoEarlier old.causes.plan p) (sym (ap (λ x. x.plan) is)) (no_earlier_same old.causes.plan)) (ap (λ x. x.off) is) state;
  takes = let t : new.causes.takes ≡ old.causes.takes = ap (λ x. x.takes) is in omega (arith, t);
})

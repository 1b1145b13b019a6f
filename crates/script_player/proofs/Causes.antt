-- What explains refused copies and power cuts, over all steps.
use Rattle.script_player.proofs.Common.{map, unwrap_or, ◌≡◌, ◌≤◌, ℕ, List, [], ◌∷◌, ◌++◌, Option, Some, None, length, refl, sym, ap, ◌∙◌, subst, arith, append-nil, append_assoc, ops_behind, Instance, Mark, Entry, Found, Configuration, State, after_from, histories_go_on, Step, joined, Event, Made, Added, events_of, AreAsAsked, asked_by, ops_at, fold-append, flat_map-append, StepsRefuse}
use Rattle.uds_gateway.specs.nv_base.Entry.{ops_of}

-- OPERATIONS

ops_further : (n : ℕ) (h more : List Entry) → ops_behind n (h ++ more) ≡ ops_behind (ops_behind n h) more
ops_further n h more = fold-append (λ k e. unwrap_or (ops_of e) k) n h more

ops_later_at : (a b : ℕ) (told : Option ℕ) → a ≤ b → unwrap_or told a ≤ unwrap_or told b
ops_later_at a b None less = less
ops_later_at a b (Some n) less = omega arith

ops_later : (a b : ℕ) (h : List Entry) → a ≤ b → ops_behind a h ≤ ops_behind b h
ops_later a b [] less = less
ops_later a b (e ∷ es) less = ops_later (unwrap_or (ops_of e) a) (unwrap_or (ops_of e) b) es (ops_later_at a b (ops_of e) less)

-- a history tells no fewer than what stands behind its start-up
pub ops_in_all : (marks : List (Instance × Mark)) (ops : ℕ) (h : List Entry) → ops_behind 0 h ≤ ops_behind 0 (Found marks ops ∷ h)
ops_in_all marks ops h = ops_later 0 ops h (omega arith)

-- EVENTS

ops_more : (ops : ℕ) (es more : List Event) → ops_at ops (es ++ more) ≡ ops_at (ops_at ops es) more
ops_more ops [] more = refl
ops_more ops (Made kind ∷ es) more = ops_more ops es more
ops_more ops (Added e ∷ es) more = ops_more (ops_behind ops (e ∷ [])) es more

ops_added : (ops : ℕ) (es : List Entry) → ops_at ops (map Added es) ≡ ops_behind ops es
ops_added ops [] = refl
ops_added ops (e ∷ es) = ops_added (ops_behind ops (e ∷ [])) es

-- those of steps are told by the entries of their pieces
pub events_tell : (ops : ℕ) (xs : List Step) (ps : List (List Entry)) → length ps ≡ length xs → ops_at ops (events_of xs ps) ≡ ops_behind ops (joined ps)
events_tell ops [] [] same = refl
events_tell ops [] (q ∷ qs) same = absurd (omega (arith, same))
events_tell ops (y ∷ ys) [] same = absurd (omega (arith, same))
events_tell ops (y ∷ ys) (q ∷ qs) same =
    ops_more ops (map Added q) (events_of ys qs) ∙ ap (λ n. ops_at n (events_of ys qs)) (ops_added ops q)
    ∙ events_tell (ops_behind ops q) ys qs (omega (arith, same)) ∙ sym (ops_further ops q (joined qs))

-- with one step more
pub events_more : (xs : List Step) (ps : List (List Entry)) (x : Step) (p : List Entry) → length ps ≡ length xs
    → events_of (xs ++ x ∷ []) (ps ++ p ∷ []) ≡ events_of xs ps ++ (Made x.kind ∷ map Added p)
events_more [] [] x p same = ap (λ (es : List Event). Made x.kind ∷ es) (append-nil (map Added p))
events_more [] (q ∷ qs) x p same = absurd (omega (arith, same))
events_more (y ∷ ys) [] x p same = absurd (omega (arith, same))
events_more (y ∷ ys) (q ∷ qs) x p same =
    ap (λ (es : List Event). Made y.kind ∷ map Added q ++ es) (events_more ys qs x p (omega (arith, same)))
    ∙ ap (λ (es : List Event). Made y.kind ∷ es) (sym (append_assoc (map Added q) (events_of ys qs) (Made x.kind ∷ map Added p)))

-- REFUSED COPIES

pub joined_more : (ps : List (List Entry)) (p : List Entry) → joined (ps ++ p ∷ []) ≡ joined ps ++ p
joined_more ps p = flat_map-append (λ (q : List Entry). q) ps (p ∷ []) ∙ ap (λ (es : List Entry). joined ps ++ es) (append-nil p)

-- copies are refused as asked, with one step more
pub refuses_more : (c : Configuration) (id : ℕ) (s : State) (xs : List Step) (ps : List (List Entry)) (x : Step) (p : List Entry) (a b d : ℕ) → length ps ≡ length xs
    → StepsRefuse c id s a xs ps b → AreAsAsked c id (after_from c s (joined ps)) (asked_by id x.kind b) p d → StepsRefuse c id s a (xs ++ x ∷ []) (ps ++ p ∷ []) d
refuses_more c id s [] [] x p a b d same one two = (d, subst (λ (n : ℕ). AreAsAsked c id s (asked_by id x.kind n) p d) one two, refl)
refuses_more c id s [] (q ∷ qs) x p a b d same one two = absurd (omega (arith, same))
refuses_more c id s (y ∷ ys) [] x p a b d same one two = absurd (omega (arith, same))
refuses_more c id s (y ∷ ys) (q ∷ qs) x p a b d same (next, here, one) two = (
  next,
  here,
  refuses_more c id (after_from c s q) ys qs x p next b d (omega (arith, same)) one
      (subst (λ (t : State). AreAsAsked c id t (asked_by id x.kind b) p d) (histories_go_on c s q (joined qs)) two),
)

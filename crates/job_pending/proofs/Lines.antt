-- Of the jobs of one priority one was picked at most.
use Rattle.std.proofs.Common.{◌≡◌, ◌≤◌, ◌<◌, ℕ, Bool, true, false, List, [], ◌∷◌, ◌++◌, refl, sym, ap, ◌∙◌, subst, arith, Option, Some, None, IsSome}
use Rattle.std.specs.Prelude.{option_to_list, Contains}
use Rattle.std.proofs.lemmas.Bool.Decides.{nat_tests}
use Rattle.std.proofs.lemmas.List.Elements.{Contains-append_right}
use Rattle.block_machine.specs.Words.{Configuration, Taken}
use Rattle.block_machine.specs.State.{Job}
use Rattle.block_machine.specs.Blocks.{rank_of}
use Rattle.block_machine.specs.Legal.{HandIsFree}
use Rattle.block_machine.specs.Next.{next_in}
use Rattle.block_machine.specs.Order.{Rank, goes_before}
use Rattle.block_machine.specs.Steps.{interrupted, without_job}
use Rattle.block_laws.specs.Consistent.{Each}
use Rattle.block_laws.proofs.NextLaws.{next_goes_first}
use Rattle.job_pending.specs.Line.{AreInLine, InLine, Leads}
use Rattle.job_pending.specs.Pending.{IsNew, IsOther, StandsApart}
use Rattle.job_pending.proofs.Splits.{SplitAt, all_parts, each_push, without_is}

pub each_of : (P : Job → Type 0) (xs : List Job) → ((x : Job) → Contains xs x → P x) → Each P xs
each_of P [] h = tt
each_of P (x ∷ xs) h = (h x (0, omega arith, refl), each_of P xs (λ y k. h y (Contains-append_right (x ∷ []) xs y k)))

no_job : (t : Option Taken) → t ≡ None → IsSome t → ⊥
no_job None none some = cc
no_job (Some t) none some = cc

-- THOSE THAT WAIT

pub line_waits : (c : Configuration) (held : Option Job) (xs : List Job) → AreInLine c (option_to_list held ++ xs) → AreInLine c xs
line_waits c None xs line = line
line_waits c (Some h) xs line = line.1

-- a new job stands behind all others
push_line : (c : Configuration) (xs : List Job) (j : Job) → AreInLine c xs → Each (λ x. InLine c x j) xs → AreInLine c (xs ++ j ∷ [])
push_line c [] j line each = (tt, tt)
push_line c (x ∷ xs) j line each = (each_push (InLine c x) xs j line.0 each.0, push_line c xs j line.1 each.1)

newer : (c : Configuration) (x j : Job) → x.number < j.number → j.taken ≡ None → InLine c x j
newer c x j less taken = λ standard alike. ((λ some same. (taken, less)), (λ some. absurd (no_job j.taken taken some)))

pub behind_all : (c : Configuration) (held : Option Job) (waiting : List Job) (j : Job) → AreInLine c (option_to_list held ++ waiting) → IsNew j waiting held → j.taken ≡ None
    → AreInLine c (option_to_list held ++ (waiting ++ j ∷ []))
behind_all c None waiting j line new taken = push_line c waiting j line (each_of (λ x. InLine c x j) waiting (λ x at. newer c x j (new x at).1 taken))
behind_all c (Some h) waiting j line new taken =
    let each = each_of (λ x. InLine c x j) (h ∷ waiting) (λ x at. newer c x j (new x at).1 taken) in
    (each_push (InLine c h) waiting j line.0 each.0, push_line c waiting j line.1 each.1)

-- one leaves the others in line
left_in_line : (c : Configuration) (before : List Job) (j : Job) (after : List Job) → AreInLine c (before ++ j ∷ after) → AreInLine c (before ++ after)
left_in_line c [] j after line = line.1
left_in_line c (x ∷ before) j after line = ((all_parts (InLine c x) before j after line.0).1, left_in_line c before j after line.1)

pub line_left : (c : Configuration) (held : Option Job) (before : List Job) (j : Job) (after : List Job) → AreInLine c (option_to_list held ++ (before ++ j ∷ after))
    → AreInLine c (option_to_list held ++ (before ++ after))
line_left c None before j after line = left_in_line c before j after line
line_left c (Some h) before j after line = ((all_parts (InLine c h) before j after line.0).1, left_in_line c before j after line.1)

-- THE NEXT ONE LEADS THEM

flip : (c : Configuration) (a b : Job) → InLine c a b → InLine c b a
flip c a b line = λ standard alike. ((line alike standard).1, (line alike standard).0)

with_all : (c : Configuration) (before : List Job) (j : Job) (after : List Job) → AreInLine c (before ++ j ∷ after) → Each (InLine c j) (before ++ after)
with_all c [] j after line = line.0
with_all c (x ∷ before) j after line = (flip c x j (all_parts (InLine c x) before j after line.0).0, with_all c before j after line.1)

all_others : (before : List Job) (j : Job) (after : List Job) → StandsApart j before → StandsApart j after → StandsApart j (before ++ after)
all_others [] j after others more = more
all_others (x ∷ before) j after others more = (others.0, all_others before j after others.1 more)

not_later : (ai bi : Bool) (p q n m : ℕ) → ai ≡ false → bi ≡ false
    → goes_before (record { immediate = ai; priority = p; number = n }) (record { immediate = bi; priority = q; number = m }) ≡ false → p ≡ q → m ≤ n
not_later true bi p q n m standard alike goes same = cc
not_later false true p q n m standard alike goes same = cc
not_later false false p q n m standard alike goes same = grind (arith, nat_tests)

leads_one : (c : Configuration) (j x : Job) → (rank_of c j).immediate ≡ false → (rank_of c x).immediate ≡ false → InLine c j x → IsOther x j
    → goes_before (rank_of c x) (rank_of c j) ≡ false → Leads c j x
leads_one c j x standard alike line other goes same = (taken x.taken refl, less)
  where
    less : j.number < x.number
    less =
        let most = not_later (rank_of c x).immediate (rank_of c j).immediate (rank_of c x).priority (rank_of c j).priority x.number j.number alike standard goes (sym same) in
        grind (arith, most, other.number)

    taken : (t : Option Taken) → x.taken ≡ t → x.taken ≡ None
    taken None is = is
    taken (Some t) is = let late = (line standard alike).1 (subst IsSome (sym is) refl) (sym same) in absurd (omega (arith, late.1, less))

leads_each : (c : Configuration) (j : Job) (xs : List Job) → (rank_of c j).immediate ≡ false → Each (InLine c j) xs → StandsApart j xs
    → Each (λ x. goes_before (rank_of c x) (rank_of c j) ≡ false) xs → Each (λ x. (rank_of c x).immediate ≡ false → Leads c j x) xs
leads_each c j [] standard line others goes = tt
leads_each c j (x ∷ xs) standard line others goes =
    ((λ alike. leads_one c j x standard alike line.0 others.0 goes.0), leads_each c j xs standard line.1 others.1 goes.1)

pub leads_all : (c : Configuration) (held : Option Job) (waiting : List Job) (j : Job) (sp : SplitAt waiting j) → AreInLine c (option_to_list held ++ waiting) → next_in c waiting ≡ Some j
    → (rank_of c j).immediate ≡ false → Each (λ x. (rank_of c x).immediate ≡ false → Leads c j x) (without_job j.number waiting)
leads_all c held waiting j sp line next standard =
    let goes = each_of (λ x. goes_before (rank_of c x) (rank_of c j) ≡ false) waiting (λ x at. next_goes_first c waiting j x next at) in
    rw (without_is waiting j sp) (leads_each c j (sp.before ++ sp.after) standard
    (with_all c sp.before j sp.after (subst (AreInLine c) sp.is (line_waits c held waiting line)))
    (all_others sp.before j sp.after sp.others sp.more)
    (all_parts (λ x. goes_before (rank_of c x) (rank_of c j) ≡ false) sp.before j sp.after (subst (Each (λ x. goes_before (rank_of c x) (rank_of c j) ≡ false)) sp.is goes)).1)

-- THE JOB IN HAND

same_rank : (c : Configuration) (g h : Job) → g.number ≡ h.number → g.request ≡ h.request → g.member ≡ h.member → rank_of c g ≡ rank_of c h
same_rank c g h number request member = rw (number, request, member) refl

-- one that has its rank, and was picked where it was, is in line as it is
pub stays_in_line : (c : Configuration) (waiting : List Job) (h g : Job) → g.taken ≡ h.taken → g.number ≡ h.number → g.request ≡ h.request → g.member ≡ h.member
    → Each (InLine c h) waiting → Each (InLine c g) waiting
stays_in_line c [] h g taken number request member line = tt
stays_in_line c (x ∷ xs) h g taken number request member line =
    let rank = same_rank c g h number request member in
    let immediate = ap (λ (r : Rank). r.immediate) rank in
    let priority = ap (λ (r : Rank). r.priority) rank in (
      (λ standard alike. let both = line.0 (sym immediate ∙ standard) alike in (
        (λ some same. let r = both.0 (subst IsSome taken some) (sym priority ∙ same) in (r.0, rw number r.1)),
        (λ some same. let r = both.1 some (same ∙ priority) in (taken ∙ r.0, rw number r.1)),
      )),
      stays_in_line c xs h g taken number request member line.1,
    )

-- one that was picked as the next one is in line
pub picked_in_line : (c : Configuration) (xs : List Job) (j g : Job) → g.number ≡ j.number → g.request ≡ j.request → g.member ≡ j.member
    → ((rank_of c j).immediate ≡ false → Each (λ x. (rank_of c x).immediate ≡ false → Leads c j x) xs) → Each (InLine c g) xs
picked_in_line c [] j g number request member leads = tt
picked_in_line c (x ∷ xs) j g number request member leads =
    let rank = same_rank c g j number request member in
    let immediate = ap (λ (r : Rank). r.immediate) rank in
    let priority = ap (λ (r : Rank). r.priority) rank in (
      (λ standard alike. let lead = (leads (sym immediate ∙ standard)).0 alike in (
        (λ some same. let r = lead (sym priority ∙ same) in (r.0, rw number r.1)),
        (λ some same. absurd (no_job x.taken (lead (sym priority ∙ sym same)).0 some)),
      )),
      picked_in_line c xs j g number request member (λ standard. (leads standard).1),
    )

-- where a job is interrupted, the next one isn't a standard one
pub leads_again : (c : Configuration) (held : Option Job) (j : Job) (xs : List Job) → HandIsFree c held j
    → ((rank_of c j).immediate ≡ false → Each (λ x. (rank_of c x).immediate ≡ false → Leads c j x) xs)
    → (rank_of c j).immediate ≡ false → Each (λ x. (rank_of c x).immediate ≡ false → Leads c j x) (interrupted held xs)
leads_again c None j xs free leads = leads
leads_again c (Some h) j xs free leads = λ standard. cc (standard, free.immediate)

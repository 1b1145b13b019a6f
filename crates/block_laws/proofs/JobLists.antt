-- Lists of jobs with numbers of their own.
use Rattle.std.specs.Prelude.{option_to_list}
use Rattle.std.proofs.Common.{◌≡◌, ◌≢◌, ℕ, ◌==◌, ◌+◌, ◌<◌, not, List, [], ◌∷◌, ◌++◌, filter, refl, sym, ap, arith, sum_by, Option, Some, None, inl, inr}
use Rattle.std.proofs.lemmas.Bool.{cases_Bool, eq-eqb, ne_eqb}
use Rattle.std.proofs.lemmas.List.Sums.{sum_by-append, sum_by-cons}
use Rattle.block_machine.specs.State.{Job}
use Rattle.block_machine.specs.Steps.{interrupted, without_job}
use Rattle.block_laws.specs.Consistent.{Each, HaveOthers, AreApart}

pub each_more : {X : Type 0} (P Q : X → Type 0) (xs : List X) → ((x : X) → P x → Q x) → Each P xs → Each Q xs
each_more P Q [] f h = tt
each_more P Q (x ∷ xs) f h = (f x h.0, each_more P Q xs f h.1)

pub each_push : {X : Type 0} (P : X → Type 0) (xs : List X) (x : X) → Each P xs → P x → Each P (xs ++ x ∷ [])
each_push P [] x h p = (p, tt)
each_push P (y ∷ xs) x h p = (h.0, each_push P xs x h.1 p)

-- what holds of all holds of one and of the others
pub each_parts : {X : Type 0} (P : X → Type 0) (before : List X) (x : X) (after : List X) → Each P (before ++ x ∷ after) → P x × Each P (before ++ after)
each_parts P [] x after h = (h.0, h.1)
each_parts P (y ∷ before) x after h = let r = each_parts P before x after h.1 in (r.0, (h.0, r.1))

pub apart_push : (jobs : List Job) (j : Job) → AreApart jobs → Each (λ x. x.number < j.number) jobs → AreApart (jobs ++ j ∷ [])
apart_push [] j h low = (tt, tt)
apart_push (x ∷ jobs) j h low = let l : x.number < j.number = low.0 in (each_push (λ y. y.number ≢ x.number) jobs j h.0 (λ e. omega (arith, e, l)), apart_push jobs j h.1 low.1)

-- one taken out of jobs that are apart leaves jobs that are apart, and have other numbers
pub apart_parts : (before : List Job) (j : Job) (after : List Job) → AreApart (before ++ j ∷ after) → HaveOthers j (before ++ after) × AreApart (before ++ after)
apart_parts [] j after h = (h.0, h.1)
apart_parts (x ∷ before) j after h =
    let (others, rest) = apart_parts before j after h.1 in
    let (at, left) = each_parts (λ y. y.number ≢ x.number) before j after h.0 in
    ((λ e. at (sym e), others), (left, rest))

others_stay : (n : ℕ) (jobs : List Job) → Each (λ x. x.number ≢ n) jobs → filter (λ (x : Job). not (x.number == n)) jobs ≡ jobs
others_stay n [] h = refl
others_stay n (x ∷ jobs) h = rw (ne_eqb x.number n h.0) (ap (λ xs. x ∷ xs) (others_stay n jobs h.1))

-- such a one is taken out, and nothing else
pub without_split : (before : List Job) (j : Job) (after : List Job) → HaveOthers j (before ++ after) → without_job j.number (before ++ j ∷ after) ≡ before ++ after
without_split [] j after h = rw (eq-eqb j.number j.number refl) (others_stay j.number after h)
without_split (x ∷ before) j after h = rw (ne_eqb x.number j.number h.0) (ap (λ xs. x ∷ xs) (without_split before j after h.1))

pub sum_split : (f : Job → ℕ) (before : List Job) (j : Job) (after : List Job) → sum_by f (before ++ j ∷ after) ≡ f j + sum_by f (before ++ after)
sum_split f before j after = rw (sum_by-append f before (j ∷ after), sum_by-append f before after, sum_by-cons f j after) (omega arith)

-- what holds of the job in hand and of those that wait, behind a Pick that takes one of these
pub each_without : (P : Job → Type 0) (n : ℕ) (jobs : List Job) → Each P jobs → Each P (without_job n jobs)
each_without P n [] each = tt
each_without P n (j ∷ jobs) each = elim (cases_Bool (j.number == n)) [
  | inl on ↦ rw on (each_without P n jobs each.1)
  | inr off ↦ rw off (each.0, each_without P n jobs each.1)
]

pub each_waits : (P : Job → Type 0) → ((x : Job) → P x → P (record x { reserved = x.reserved + 2 })) → (n : ℕ) (o : Option Job) (waiting : List Job) → Each P (option_to_list o ++ waiting) → Each P (interrupted o (without_job n waiting))
each_waits P stays n None waiting each = each_without P n waiting each
each_waits P stays n (Some x) waiting each = (stays x each.0, each_without P n waiting each.1)

pub waiting_of : (P : Job → Type 0) (o : Option Job) (waiting : List Job) → Each P (option_to_list o ++ waiting) → Each P waiting
waiting_of P None waiting each = each
waiting_of P (Some x) waiting each = each.1

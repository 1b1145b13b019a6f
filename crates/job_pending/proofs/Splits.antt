-- A list of jobs about one of them.
use Rattle.std.proofs.Common.{◌≡◌, ℕ, ◌==◌, ◌+◌, true, false, cond, inl, inr, List, [], ◌∷◌, ◌++◌, refl, sym, ap, arith, Some, None, sum_by, subst}
use Rattle.std.proofs.lemmas.Bool.Decides.{eqb_tells}
use Rattle.std.proofs.lemmas.Bool.{eq-eqb, ne_eqb}
use Rattle.std.proofs.lemmas.List.Sums.{sum_by-append, sum_by-cons}
use Rattle.block_machine.specs.State.{Job}
use Rattle.block_machine.specs.Blocks.{job_block}
use Rattle.block_machine.specs.Steps.{without_job}
use Rattle.block_laws.specs.Consistent.{Each}
use Rattle.job_queues.specs.Laws.{TellsJob}
use Rattle.job_pending.specs.Slots.{job_on}
use Rattle.job_pending.specs.Pending.{IsOther, StandsApart, StandApart}

-- one of these jobs, and the others before and behind it
pub record SplitAt (jobs : List Job) (j : Job) : Type 0 where
  pub before : List Job
  pub after : List Job
  pub is : jobs ≡ before ++ j ∷ after
  pub others : StandsApart j before
  pub more : StandsApart j after
  pub apart : StandApart (before ++ after)

flip : (a b : Job) → IsOther a b → IsOther b a
flip a b d = record { block = λ e. d.block (sym e); number = λ e. d.number (sym e) }

-- what holds of all holds of one and of the others
pub all_parts : (P : Job → Type 0) (b : List Job) (j : Job) (a : List Job) → Each P (b ++ j ∷ a) → P j × Each P (b ++ a)
all_parts P [] j a h = (h.0, h.1)
all_parts P (x ∷ b) j a h = let r = all_parts P b j a h.1 in (r.0, (h.0, r.1))

apart_parts : (b : List Job) (j : Job) (a : List Job) → StandApart (b ++ j ∷ a) → StandsApart j b × (StandsApart j a × StandApart (b ++ a))
apart_parts [] j a h = (tt, (h.0, h.1))
apart_parts (x ∷ b) j a h =
    let (others, (more, rest)) = apart_parts b j a h.1 in
    let (at, left) = all_parts (λ y. IsOther y x) b j a h.0 in
    ((flip j x at, others), (more, (left, rest)))

pub split_of : (jobs b : List Job) (j : Job) (a : List Job) → jobs ≡ b ++ j ∷ a → StandApart jobs → SplitAt jobs j
split_of jobs b j a is apart =
    let (others, (more, rest)) = apart_parts b j a (subst StandApart is apart) in
    record { before = b; after = a; is = is; others = others; more = more; apart = rest }

eqb_self : (n : ℕ) → (n == n) ≡ true
eqb_self n = eq-eqb n n refl

other_number : (x j : Job) → IsOther x j → (x.number == j.number) ≡ false
other_number x j d = ne_eqb x.number j.number d.number

other_block : (x j : Job) → IsOther x j → (job_block x == job_block j) ≡ false
other_block x j d = ne_eqb (job_block x) (job_block j) d.block

-- THE OTHERS WITHOUT IT

stay : (j : Job) (a : List Job) → StandsApart j a → without_job j.number a ≡ a
stay j [] h = refl
stay j (x ∷ a) h = rw (other_number x j h.0) (ap (λ zs. x ∷ zs) (stay j a h.1))

without_at : (b : List Job) (j : Job) (a : List Job) → StandsApart j b → StandsApart j a → without_job j.number (b ++ j ∷ a) ≡ b ++ a
without_at [] j a h m = rw (eqb_self j.number) (stay j a m)
without_at (x ∷ b) j a h m = rw (other_number x j h.0) (ap (λ zs. x ∷ zs) (without_at b j a h.1 m))

pub without_is : (jobs : List Job) (j : Job) (sp : SplitAt jobs j) → without_job j.number jobs ≡ sp.before ++ sp.after
without_is jobs j sp = rw sp.is (without_at sp.before j sp.after sp.others sp.more)

-- its number tells it
tells_by : (j : Job) (a : List Job) → StandsApart j a → TellsJob j a
tells_by j [] h = tt
tells_by j (x ∷ a) h = ((λ e. absurd (h.0.number e)), tells_by j a h.1)

tells_at : (b : List Job) (j : Job) (a : List Job) → StandsApart j b → StandsApart j a → TellsJob j (b ++ j ∷ a)
tells_at [] j a h m = ((λ e. refl), tells_by j a m)
tells_at (x ∷ b) j a h m = ((λ e. absurd (h.0.number e)), tells_at b j a h.1 m)

pub tells : (jobs : List Job) (j : Job) (sp : SplitAt jobs j) → TellsJob j jobs
tells jobs j sp = subst (TellsJob j) (sym sp.is) (tells_at sp.before j sp.after sp.others sp.more)

-- THE JOBS BY THEIR BLOCKS

pub none_on : (a : List Job) (j : Job) → StandsApart j a → job_on a (job_block j) ≡ None
none_on [] j m = refl
none_on (x ∷ a) j m = rw (other_block x j m.0) (none_on a j m.1)

on_here : (b : List Job) (j : Job) (a : List Job) → StandsApart j b → job_on (b ++ j ∷ a) (job_block j) ≡ Some j
on_here [] j a h = rw (eqb_self (job_block j)) refl
on_here (x ∷ b) j a h = rw (other_block x j h.0) (on_here b j a h.1)

pub on_block : (jobs : List Job) (j : Job) (sp : SplitAt jobs j) → job_on jobs (job_block j) ≡ Some j
on_block jobs j sp = rw sp.is (on_here sp.before j sp.after sp.others)

-- where it is taken out
pub on_left : (b : List Job) (j : Job) (a : List Job) → StandsApart j b → StandsApart j a → (id : ℕ) → job_on (b ++ a) id ≡ cond (job_block j == id) None (job_on (b ++ j ∷ a) id)
on_left [] j a h m id = elim (eqb_tells (job_block j) id) [
  | inl (t, is) ↦ rw t (subst (λ n. job_on a n ≡ None) is (none_on a j m))
  | inr (f, _) ↦ rw f refl
]
on_left (x ∷ b) j a h m id = elim (eqb_tells (job_block x) id) [
  | inl (t, is) ↦ rw (t, subst (λ n. (job_block j == n) ≡ false) is (ne_eqb (job_block j) (job_block x) (λ q. h.0.block (sym q)))) refl
  | inr (f, _) ↦ rw f (on_left b j a h.1 m id)
]

-- SUMS

pub less_at : (f : Job → ℕ) (b : List Job) (j : Job) (a : List Job) → sum_by f (b ++ a) + f j ≡ sum_by f (b ++ j ∷ a)
less_at f b j a = rw (sum_by-append f b a, sum_by-append f b (j ∷ a), sum_by-cons f j a) (omega arith)

-- PUSHED

pub each_push : (P : Job → Type 0) (xs : List Job) (j : Job) → Each P xs → P j → Each P (xs ++ j ∷ [])
each_push P [] j h p = (p, tt)
each_push P (x ∷ xs) j h p = (h.0, each_push P xs j h.1 p)

pub apart_push : (xs : List Job) (j : Job) → StandApart xs → StandsApart j xs → StandApart (xs ++ j ∷ [])
apart_push [] j h m = (tt, tt)
apart_push (x ∷ xs) j h m = (each_push (λ y. IsOther y x) xs j h.0 (flip x j m.0), apart_push xs j h.1 m.1)

-- Queues whose jobs go in the order in which they came.
use Rattle.std.proofs.Common.{◌≡◌, ℕ, zero, suc, ◌+◌, ◌-◌, ◌<◌, ◌==◌, ◌&&◌, ◌||◌, nat_lt, not, Bool, true, false, if◌then◌else◌, List, [], ◌∷◌, ◌++◌, length, take, drop, fold, slice_get, refl, sym, subst, ap, ◌∙◌, arith, add-one, Option, Some, None}
use Rattle.std.specs.Prelude.{IfSome}
use Rattle.std.proofs.lemmas.Bool.{ne_eqb, eq-eqb, le-ltb}
use Rattle.std.proofs.lemmas.Option.{slice_get_within, slice_get-get_or, get_or_from_slice_get}
use Rattle.std.proofs.lemmas.List.{length-take-le}
use Rattle.std.proofs.Math.Seq.{take-suc}
use Rattle.circular_buffer.proofs.Places.{slice_get-take}
use Rattle.circular_buffer.specs.Buffer.{Buffer, buffer}
use Rattle.block_machine.specs.Order.{goes_before}
use Rattle.job_queues.specs.declared.waiting.Waiting.{Waiting}
use Rattle.job_queues.specs.Order.{first_of, first_of_two, rank_of}
use Rattle.job_queues.specs.Jobs.{without}
use Rattle.job_queues.specs.InOrder.{Leads, LeadsAll, InOrder}

leads_on : (a b c : Waiting) → Leads a b → Leads b c → Leads a c
leads_on a b c l k = (l.0 ∙ k.0, omega (arith, l.1, k.1), omega (arith, l.2, k.2))

-- MORE JOBS

all_led : (a b : Waiting) (ws : List Waiting) → Leads a b → LeadsAll b ws → LeadsAll a ws
all_led a b [] l ls = tt
all_led a b (w ∷ ws) l ls = (leads_on a b w l ls.0, all_led a b ws l ls.1)

-- before the others comes a job that leads the first of them
pub in_order_before : (a b : Waiting) (ws : List Waiting) → InOrder ws → slice_get ws 0 ≡ Some b → Leads a b → InOrder (a ∷ ws)
in_order_before a b [] o is l = cc
in_order_before a b (w ∷ ws) o is l =
    let e : b ≡ w = cc in
    let l' : Leads a w = subst (λ y. Leads a y) e l in
    ((l', all_led a w ws l' o.0), o)

one_led : (a b : Waiting) (i : ℕ) (ws : List Waiting) → LeadsAll a ws → slice_get ws i ≡ Some b → Leads a b
one_led a b i [] ls is = cc
one_led a b zero (w ∷ ws) ls is = let e : w ≡ b = cc in subst (λ y. Leads a y) e ls.0
one_led a b (suc i) (w ∷ ws) ls is = one_led a b i ws ls.1 is

led_too : (a b : Waiting) (ws : List Waiting) → LeadsAll a ws → Leads a b → LeadsAll a (ws ++ b ∷ [])
led_too a b [] ls l = (l, tt)
led_too a b (w ∷ ws) ls l = (ls.0, led_too a b ws ls.1 l)

behind_at : (a b : Waiting) (i : ℕ) (ws : List Waiting) → InOrder ws → slice_get ws i ≡ Some a → suc i ≡ length ws → Leads a b → InOrder (ws ++ b ∷ [])
behind_at a b i [] o is last l = cc
behind_at a b zero (w ∷ []) o is last l = let e : a ≡ w = cc in ((subst (λ y. Leads y b) e l, tt), (tt, tt))
behind_at a b zero (w ∷ (x ∷ ws)) o is last l = absurd (omega (arith, last))
behind_at a b (suc i) (w ∷ ws) o is last l =
    (led_too w b ws o.0 (leads_on w a b (one_led w a i ws o.0 is) l), behind_at a b i ws o.1 is (omega (arith, last)) l)

-- behind the others comes a job that the last of them leads
pub in_order_behind : (a b : Waiting) (ws : List Waiting) → InOrder ws → slice_get ws (length ws - 1) ≡ Some a → Leads a b → InOrder (ws ++ b ∷ [])
in_order_behind a b ws o is l =
    let within = slice_get_within ws (length ws - 1) a is in
    behind_at a b (length ws - 1) ws o is (omega (arith, within)) l

-- of a list whose start is in order, one job more
pub in_order_next : (a b : Waiting) (i : ℕ) (ws : List Waiting) → 0 < i → slice_get ws (i - 1) ≡ Some a → slice_get ws i ≡ Some b → Leads a b → InOrder (take i ws) → InOrder (take (i + 1) ws)
in_order_next a b i ws some is next l o =
    let within = slice_get_within ws i b next in
    let long : length (take i ws) ≡ i = length-take-le i ws (omega (arith, within)) in
    let more : take (i + 1) ws ≡ take i ws ++ b ∷ [] = ap (λ n. take n ws) (add-one i) ∙ take-suc ws i b within ∙ ap (λ x. take i ws ++ x ∷ []) (get_or_from_slice_get ws i b b next) in
    let last : slice_get (take i ws) (length (take i ws) - 1) ≡ Some a = ap (λ n. slice_get (take i ws) (n - 1)) long ∙ slice_get-take i ws (i - 1) (omega (arith, some)) ∙ is in
    subst (λ (xs : List Waiting). InOrder xs) (sym more) (in_order_behind a b (take i ws) o last l)

pub in_order_one : (ws : List Waiting) → InOrder (take 1 ws)
in_order_one [] = tt
in_order_one (w ∷ ws) = (tt, tt)

-- and behind none any job
no_last : (ws : List Waiting) → slice_get ws (length ws - 1) ≡ None → ws ≡ []
no_last [] is = refl
no_last (w ∷ ws) is =
    let e : length (w ∷ ws) - 1 ≡ length ws = omega arith in
    let is' : slice_get (w ∷ ws) (length ws) ≡ None = rw e at is in
    let some = slice_get-get_or (w ∷ ws) (length ws) w (omega arith) in
    cc

pub in_order_alone : (a : Waiting) (ws : List Waiting) → slice_get ws (length ws - 1) ≡ None → InOrder ws × InOrder (ws ++ a ∷ [])
in_order_alone a ws is = rw (no_last ws is) (tt, (tt, tt))

pub in_order_first : (a : Waiting) (ws : List Waiting) → slice_get ws 0 ≡ None → InOrder ws × InOrder (a ∷ ws)
in_order_first a [] is = (tt, (tt, tt))
in_order_first a (w ∷ ws) is = cc

-- THE FIRST

both_by : (t n p same : Bool) → n ≡ false → p ≡ false → (if t then (if t then n else true) else (if t then false else (p || (same && n)))) ≡ false
both_by true n p same e f = e
both_by false n p true e f = rw (e, f) refl
both_by false n p false e f = rw f refl

behind_by : (a b : Waiting) → Leads a b → goes_before (rank_of b) (rank_of a) ≡ false
behind_by a b l = rw l.0 (both_by b.immediate (nat_lt b.number a.number) (nat_lt b.priority a.priority) (b.priority == a.priority) (le-ltb b.number a.number (omega (arith, l.2))) (le-ltb b.priority a.priority l.1))

first_stays : (a : Waiting) (ws : List Waiting) → LeadsAll a ws → fold first_of_two (Some a) ws ≡ Some a
first_stays a [] ls = refl
first_stays a (w ∷ ws) ls = rw (behind_by a w ls.0) (first_stays a ws ls.1)

-- the first that came goes first
pub first_in_order : (ws : List Waiting) → InOrder ws → first_of ws ≡ slice_get ws 0
first_in_order [] o = refl
first_in_order (w ∷ ws) o = first_stays w ws o.0

-- FEWER JOBS

others_stay : (a : Waiting) (ws : List Waiting) → LeadsAll a ws → without a.number ws ≡ ws
others_stay a [] ls = refl
others_stay a (w ∷ ws) ls =
    let other : (w.number == a.number) ≡ false = ne_eqb w.number a.number (λ e. omega (arith, e, ls.0.2)) in
    rw other (ap (λ ys. w ∷ ys) (others_stay a ws ls.1))

first_leaves_others : (a : Waiting) (ws : List Waiting) → InOrder ws → slice_get ws 0 ≡ Some a → without a.number ws ≡ drop 1 ws
first_leaves_others a [] o is = refl
first_leaves_others a (w ∷ ws) o is =
    let e : a ≡ w = cc in
    let out : (w.number == a.number) ≡ true = eq-eqb w.number a.number (ap (λ y. y.number) (sym e)) in
    rw out (subst (λ y. without y.number ws ≡ ws) (sym e) (others_stay w ws o.0))

-- a ring that it leaves
pub first_taken : (o : Option Waiting) (old new : Buffer Waiting) → InOrder old.items → o ≡ slice_get old.items 0 → new ≡ buffer (drop 1 old.items) old.capacity
    → IfSome o (λ w. new ≡ buffer (without w.number old.items) old.capacity)
first_taken None old new o is left = tt
first_taken (Some w) old new o is left = rw (first_leaves_others w old.items o (sym is)) left

pub in_order_drop : (ws : List Waiting) → InOrder ws → InOrder (drop 1 ws)
in_order_drop [] o = tt
in_order_drop (w ∷ ws) o = o.1

led_if : (t : Bool) (a w : Waiting) (ws : List Waiting) → Leads a w → LeadsAll a ws → LeadsAll a (if t then w ∷ ws else ws)
led_if true a w ws l ls = (l, ls)
led_if false a w ws l ls = ls

led_without : (n : ℕ) (a : Waiting) (ws : List Waiting) → LeadsAll a ws → LeadsAll a (without n ws)
led_without n a [] ls = tt
led_without n a (w ∷ ws) ls = led_if (not (w.number == n)) a w (without n ws) ls.0 (led_without n a ws ls.1)

in_order_if : (t : Bool) (w : Waiting) (ws : List Waiting) → LeadsAll w ws → InOrder ws → InOrder (if t then w ∷ ws else ws)
in_order_if true w ws ls o = (ls, o)
in_order_if false w ws ls o = o

pub in_order_without : (n : ℕ) (ws : List Waiting) → InOrder ws → InOrder (without n ws)
in_order_without n [] o = tt
in_order_without n (w ∷ ws) o = in_order_if (not (w.number == n)) w (without n ws) (led_without n w ws o.0) (in_order_without n ws o.1)

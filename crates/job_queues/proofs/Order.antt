-- The queues and the machine's order.
use Rattle.std.specs.Option.{option_map_or}
use Rattle.std.proofs.Common.{◌≡◌, ◌≢◌, ℕ, ◌+◌, ◌==◌, not, Bool, true, false, if◌then◌else◌, List, [], ◌∷◌, ◌++◌, length, map, fold, refl, sym, ap, ◌∙◌, arith, Option, Some, None, option_map}
use Rattle.std.proofs.lemmas.Bool.Decides.{nat_tests}
use Rattle.std.proofs.lemmas.List.{append-nil, map-append, length-append, nil_from_length}
use Rattle.std.proofs.lemmas.List.Elements.{filter-append}
use Rattle.block_machine.specs.Words.{Configuration}
use Rattle.block_machine.specs.State.{Job}
use Rattle.block_machine.specs.Order.{goes_before}
use Rattle.block_machine.specs.Blocks.{rank_of as machine_rank}
use Rattle.block_machine.specs.Next.{first_of_two as machine_two, next_in}
use Rattle.block_machine.specs.Steps.{without_job}
use Rattle.job_queues.specs.declared.waiting.Waiting.{Waiting}
use Rattle.job_queues.specs.Order.{first_of, first_of_two, rank_of}
use Rattle.job_queues.specs.Jobs.{Jobs, either, first_in, with_job, with_job_first, without}
use Rattle.job_queues.specs.Laws.{only, OneOrder, FirstIsNext, AddedWaits, PutBackWaits, TakenLeaves, NoneIsEmpty, ImmediateGoesFirst, waiting_of}

-- ONE ORDER

abbrev pub Are : Bool → Option Waiting → Type 0
Are t None = Unit {0}
Are t (Some w) = w.immediate ≡ t

two_are_by : (t u : Bool) (b w : Waiting) → b.immediate ≡ t → w.immediate ≡ t → Are t (if u then Some w else Some b)
two_are_by t true b w hb hw = hw
two_are_by t false b w hb hw = hb

pub two_are : (t : Bool) (o : Option Waiting) (w : Waiting) → Are t o → w.immediate ≡ t → Are t (first_of_two o w)
two_are t None w h e = e
two_are t (Some b) w h e = two_are_by t (goes_before (rank_of w) (rank_of b)) b w h e

either_by : (u : Bool) (b w : Waiting) (s : Option Waiting) → (if u then Some w else Some b) ≡ either (if u then Some w else Some b) s
either_by true b w s = refl
either_by false b w s = refl

immediate_two : (i s : Option Waiting) (w : Waiting) → Are false s → w.immediate ≡ true → first_of_two (either i s) w ≡ either (first_of_two i w) s
immediate_two None None w hs e = refl
immediate_two None (Some b) w hs e = rw (e, hs) refl
immediate_two (Some b) s w hs e = either_by (goes_before (rank_of w) (rank_of b)) b w s

standard_two : (i s : Option Waiting) (w : Waiting) → Are true i → w.immediate ≡ false → first_of_two (either i s) w ≡ either i (first_of_two s w)
standard_two None s w hi e = refl
standard_two (Some b) s w hi e = rw (e, hi) refl

both_by : (t : Bool) (w : Waiting) (ws : List Waiting) (i s : Option Waiting) → w.immediate ≡ t → Are true i → Are false s
    → ((i' s' : Option Waiting) → Are true i' → Are false s' → fold first_of_two (either i' s') ws ≡ either (fold first_of_two i' (only true ws)) (fold first_of_two s' (only false ws)))
    → fold first_of_two (first_of_two (either i s) w) ws ≡ either (fold first_of_two i (if t then w ∷ only true ws else only true ws)) (fold first_of_two s (if not t then w ∷ only false ws else only false ws))
both_by true w ws i s e hi hs h = ap (λ o. fold first_of_two o ws) (immediate_two i s w hs e) ∙ h (first_of_two i w) s (two_are true i w hi e) hs
both_by false w ws i s e hi hs h = ap (λ o. fold first_of_two o ws) (standard_two i s w hi e) ∙ h i (first_of_two s w) hi (two_are false s w hs e)

both : (ws : List Waiting) (i s : Option Waiting) → Are true i → Are false s → fold first_of_two (either i s) ws ≡ either (fold first_of_two i (only true ws)) (fold first_of_two s (only false ws))
both [] i s hi hs = refl
both (w ∷ ws) i s hi hs = both_by w.immediate w ws i s refl hi hs (both ws)

pub one_order : OneOrder
one_order ws = both ws None None tt tt

-- NONE

some_by : (t : Bool) (ws : List Waiting) (w x : Waiting) → ((y : Waiting) → fold first_of_two (Some y) ws ≢ None) → fold first_of_two (if t then Some x else Some w) ws ≢ None
some_by true ws w x h = h x
some_by false ws w x h = h w

some_left : (ws : List Waiting) (w : Waiting) → fold first_of_two (Some w) ws ≢ None
some_left [] w e = cc
some_left (x ∷ ws) w e = some_by (goes_before (rank_of x) (rank_of w)) ws w x (λ y. some_left ws y) e

either_some : (o p : Option Waiting) → o ≢ None → either o p ≢ None
either_some None p h e = h refl
either_some (Some w) p h e = cc

none_by : (i s : List Waiting) → either (first_of i) (first_of s) ≡ None → i ++ s ≡ []
none_by [] [] e = refl
none_by [] (w ∷ s) e = absurd (some_left s w e)
none_by (w ∷ i) s e = absurd (either_some (fold first_of_two (Some w) i) (first_of s) (some_left i w) e)

empty_by : (i s : List Waiting) → i ++ s ≡ [] → either (first_of i) (first_of s) ≡ None
empty_by [] [] e = refl
empty_by [] (w ∷ s) e = cc
empty_by (w ∷ i) s e = cc

pub none_is_empty : NoneIsEmpty
none_is_empty q = (none_by q.immediate q.standard, empty_by q.immediate q.standard)

-- no job goes first of empty queues
pub no_first : (q : Jobs) → length q.immediate + length q.standard ≡ 0 → None ≡ first_in q
no_first q e = sym (empty_by q.immediate q.standard (nil_from_length (q.immediate ++ q.standard) (length-append q.immediate q.standard ∙ e)))

-- THE MACHINE'S NEXT JOB

key_by : (t : Bool) (c : Configuration) (j b : Job) → option_map (waiting_of c) (if t then Some j else Some b) ≡ (if t then Some (waiting_of c j) else Some (waiting_of c b))
key_by true c j b = refl
key_by false c j b = refl

key_two : (c : Configuration) (o : Option Job) (j : Job) → option_map (waiting_of c) (machine_two c o j) ≡ first_of_two (option_map (waiting_of c) o) (waiting_of c j)
key_two c None j = refl
key_two c (Some b) j = key_by (goes_before (rank_of (waiting_of c j)) (rank_of (waiting_of c b))) c j b

key_fold : (c : Configuration) (jobs : List Job) (o : Option Job) → option_map (waiting_of c) (fold (machine_two c) o jobs) ≡ fold first_of_two (option_map (waiting_of c) o) (map (waiting_of c) jobs)
key_fold c [] o = refl
key_fold c (j ∷ jobs) o = key_fold c jobs (machine_two c o j) ∙ ap (λ o. fold first_of_two o (map (waiting_of c) jobs)) (key_two c o j)

pub first_is_next : FirstIsNext
first_is_next c jobs i s = key_fold c jobs None ∙ one_order (map (waiting_of c) jobs)

-- AN IMMEDIATE JOB

are_by : (t u : Bool) (w : Waiting) (ws : List Waiting) (o : Option Waiting) → (u ≡ true → w.immediate ≡ t) → Are t o → ((p : Option Waiting) → Are t p → Are t (fold first_of_two p (only t ws)))
    → Are t (fold first_of_two o (if u then w ∷ only t ws else only t ws))
are_by t true w ws o e h rest = rest (first_of_two o w) (two_are t o w h (e refl))
are_by t false w ws o e h rest = rest o h

no_immediate : (b : Bool) → not b ≡ true → b ≡ false
no_immediate true e = cc
no_immediate false e = refl

all_are : (t : Bool) (ws : List Waiting) (o : Option Waiting) → Are t o → Are t (fold first_of_two o (only t ws))
all_are t [] o h = h
all_are true (w ∷ ws) o h = are_by true w.immediate w ws o (λ e. e) h (all_are true ws)
all_are false (w ∷ ws) o h = are_by false (not w.immediate) w ws o (no_immediate w.immediate) h (all_are false ws)

abbrev immediate_in : Option Waiting → Bool
immediate_in o = option_map_or (λ w. w.immediate) o false

some_immediate : (o s : Option Waiting) → o ≢ None → Are true o → immediate_in (either o s) ≡ true
some_immediate None s some are = absurd (some refl)
some_immediate (Some w) s some are = are

none_immediate : (s : Option Waiting) → Are false s → immediate_in s ≡ false
none_immediate None are = refl
none_immediate (Some w) are = are

immediate_first : (i s : List Waiting) → Are true (first_of i) → Are false (first_of s) → immediate_in (either (first_of i) (first_of s)) ≡ not (length i == 0)
immediate_first [] s hi hs = none_immediate (first_of s) hs
immediate_first (w ∷ i) s hi hs =
    let some : (length (w ∷ i) == 0) ≡ false = grind (arith, nat_tests) in
    rw some (some_immediate (first_of (w ∷ i)) (first_of s) (some_left i w) hi)

as_waiting : (c : Configuration) (o : Option Job) → option_map_or (λ j. (machine_rank c j).immediate) o false ≡ immediate_in (option_map (waiting_of c) o)
as_waiting c None = refl
as_waiting c (Some j) = refl

pub immediate_goes_first : ImmediateGoesFirst
immediate_goes_first c jobs i s =
    let ws = map (waiting_of c) jobs in
    as_waiting c (next_in c jobs) ∙ ap immediate_in (first_is_next c jobs i s) ∙ immediate_first (only true ws) (only false ws) (all_are true ws None tt) (all_are false ws None tt)

-- A JOB THAT LEAVES

leaves_by : (t u k : Bool) (c : Configuration) (j : Job) (jobs : List Job) (n : ℕ) → (j.number == n) ≡ t → (if k then (waiting_of c j).immediate else not (waiting_of c j).immediate) ≡ u
    → only k (map (waiting_of c) (without_job n jobs)) ≡ without n (only k (map (waiting_of c) jobs))
    → only k (map (waiting_of c) (if not t then j ∷ without_job n jobs else without_job n jobs)) ≡ without n (if u then waiting_of c j ∷ only k (map (waiting_of c) jobs) else only k (map (waiting_of c) jobs))
leaves_by true true k c j jobs n e f h = rw e h
leaves_by true false k c j jobs n e f h = h
leaves_by false true k c j jobs n e f h = rw (f, e) (ap (λ ws. waiting_of c j ∷ ws) h)
leaves_by false false k c j jobs n e f h = rw f h

pub taken_leaves : TakenLeaves
taken_leaves c [] n k = refl
taken_leaves c (j ∷ jobs) n k = leaves_by (j.number == n) (if k then (waiting_of c j).immediate else not (waiting_of c j).immediate) k c j jobs n refl refl (taken_leaves c jobs n k)

-- A JOB THAT WAITS

abbrev queued : List Waiting → ℕ → ℕ → Jobs
queued ws i s = record { immediate = only true ws; standard = only false ws; immediate_size = i; standard_size = s }

added_by : (t : Bool) (w : Waiting) (ws : List Waiting) (i s : ℕ) → w.immediate ≡ t → queued (ws ++ w ∷ []) i s ≡ with_job w (queued ws i s)
added_by true w ws i s is = rw (filter-append (λ w. w.immediate) ws (w ∷ []), filter-append (λ w. not w.immediate) ws (w ∷ []), is, append-nil (only false ws)) refl
added_by false w ws i s is = rw (filter-append (λ w. w.immediate) ws (w ∷ []), filter-append (λ w. not w.immediate) ws (w ∷ []), is, append-nil (only true ws)) refl

pub added_waits : AddedWaits
added_waits c jobs j i s =
    rw (map-append (waiting_of c) jobs (j ∷ [])) (added_by (waiting_of c j).immediate (waiting_of c j) (map (waiting_of c) jobs) i s refl)

put_first : (t : Bool) (w : Waiting) (ws : List Waiting) (i s : ℕ) → w.immediate ≡ t → queued (w ∷ ws) i s ≡ with_job_first w (queued ws i s)
put_first true w ws i s is = rw is refl
put_first false w ws i s is = rw is refl

pub put_back_waits : PutBackWaits
put_back_waits c jobs j i s = put_first (waiting_of c j).immediate (waiting_of c j) (map (waiting_of c) jobs) i s refl

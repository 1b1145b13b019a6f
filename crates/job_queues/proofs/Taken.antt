-- The next job, taken.
use Rattle.std.proofs.Common.{◌≡◌, ℕ, ◌==◌, not, Bool, true, false, if◌then◌else◌, List, [], ◌∷◌, map, fold, refl, sym, ap, ◌∙◌, subst, Option, Some, None, option_map}
use Rattle.std.proofs.lemmas.Bool.{eqb-true}
use Rattle.block_machine.specs.Words.{Configuration}
use Rattle.block_machine.specs.State.{Job}
use Rattle.job_queues.specs.declared.waiting.Waiting.{Waiting}
use Rattle.job_queues.specs.Order.{first_of, first_of_two}
use Rattle.job_queues.specs.Jobs.{either, without, without_either}
use Rattle.job_queues.specs.Laws.{only, waiting_of, TellsJob, NextLeaves}
use Rattle.job_queues.proofs.Order.{Are, two_are, first_is_next, taken_leaves}

are_immediate_by : (u : Bool) (w : Waiting) (ws : List Waiting) (o : Option Waiting) → w.immediate ≡ u → Are true o
    → ((o' : Option Waiting) → Are true o' → Are true (fold first_of_two o' (only true ws))) → Are true (fold first_of_two o (if u then w ∷ only true ws else only true ws))
are_immediate_by true w ws o e h ih = ih (first_of_two o w) (two_are true o w h e)
are_immediate_by false w ws o e h ih = ih o h

are_immediate : (ws : List Waiting) (o : Option Waiting) → Are true o → Are true (fold first_of_two o (only true ws))
are_immediate [] o h = h
are_immediate (w ∷ ws) o h = are_immediate_by w.immediate w ws o refl h (are_immediate ws)

are_standard_by : (u : Bool) (w : Waiting) (ws : List Waiting) (o : Option Waiting) → w.immediate ≡ u → Are false o
    → ((o' : Option Waiting) → Are false o' → Are false (fold first_of_two o' (only false ws))) → Are false (fold first_of_two o (if not u then w ∷ only false ws else only false ws))
are_standard_by true w ws o e h ih = ih o h
are_standard_by false w ws o e h ih = ih (first_of_two o w) (two_are false o w h e)

are_standard : (ws : List Waiting) (o : Option Waiting) → Are false o → Are false (fold first_of_two o (only false ws))
are_standard [] o h = h
are_standard (w ∷ ws) o h = are_standard_by w.immediate w ws o refl h (are_standard ws)

-- the queue that it isn't in stays as it is
stays_by : (u v : Bool) (c : Configuration) (j x : Job) (k : Bool) (ws : List Waiting) → (if k then (waiting_of c x).immediate else not (waiting_of c x).immediate) ≡ u → (x.number == j.number) ≡ v
    → (if k then (waiting_of c j).immediate else not (waiting_of c j).immediate) ≡ false → (x.number ≡ j.number → x ≡ j) → without j.number ws ≡ ws
    → without j.number (if u then waiting_of c x ∷ ws else ws) ≡ (if u then waiting_of c x ∷ ws else ws)
stays_by false v c j x k ws e f g tells h = h
stays_by true false c j x k ws e f g tells h = rw f (ap (λ ys. waiting_of c x ∷ ys) h)
stays_by true true c j x k ws e f g tells h =
    let same : x ≡ j = tells (eqb-true x.number j.number f) in
    let e' = subst (λ y. (if k then (waiting_of c y).immediate else not (waiting_of c y).immediate) ≡ true) same e in
    cc

stays : (c : Configuration) (j : Job) (k : Bool) (jobs : List Job) → (if k then (waiting_of c j).immediate else not (waiting_of c j).immediate) ≡ false → TellsJob j jobs
    → without j.number (only k (map (waiting_of c) jobs)) ≡ only k (map (waiting_of c) jobs)
stays c j k [] g tells = refl
stays c j k (x ∷ xs) g tells =
    stays_by (if k then (waiting_of c x).immediate else not (waiting_of c x).immediate) (x.number == j.number) c j x k (only k (map (waiting_of c) xs)) refl refl g tells.0 (stays c j k xs g tells.1)

leaves : (a b : Option Waiting) (w : Waiting) (is ss js ts : List Waiting) (i s : ℕ) → either a b ≡ Some w → Are true a → Are false b
    → js ≡ without w.number is → ts ≡ without w.number ss → (w.immediate ≡ true → without w.number ss ≡ ss) → (w.immediate ≡ false → without w.number is ≡ is)
    → without_either a b (record { immediate = is; standard = ss; immediate_size = i; standard_size = s }) ≡ record { immediate = js; standard = ts; immediate_size = i; standard_size = s }
leaves (Some x) b w is ss js ts i s e ha hb f g p q =
    let same : x ≡ w = cc in
    let other = p (subst (λ y. y.immediate ≡ true) same ha) in
    rw (same, f, g, other) refl
leaves None (Some x) w is ss js ts i s e ha hb f g p q =
    let same : x ≡ w = cc in
    let other = q (subst (λ y. y.immediate ≡ false) same hb) in
    rw (same, f, g, other) refl
leaves None None w is ss js ts i s e ha hb f g p q = cc

pub next_leaves : NextLeaves
next_leaves c jobs j i s tells next =
    let ws = map (waiting_of c) jobs in
    leaves (first_of (only true ws)) (first_of (only false ws)) (waiting_of c j) (only true ws) (only false ws) _ _ i s
    (sym (first_is_next c jobs i s) ∙ ap (option_map (waiting_of c)) next) (are_immediate ws None tt) (are_standard ws None tt)
    (taken_leaves c jobs j.number true) (taken_leaves c jobs j.number false)
    (λ e. stays c j false jobs (ap not e) tells) (λ e. stays c j true jobs e tells)

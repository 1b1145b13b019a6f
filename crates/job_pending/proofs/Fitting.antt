-- As many jobs as may wait have room.
use Rattle.std.proofs.Common.{◌≡◌, ◌≢◌, ◌≤◌, ◌<◌, ℕ, zero, suc, ◌+◌, ◌&&◌, ◌||◌, not, Bool, true, false, cond, if◌then◌else◌, inl, inr, List, [], ◌∷◌, length, map, get_or, refl, sym, ap, ◌∙◌, arith, Option, Some, None, is_none, IsSome, slice_set, count_by}
use Rattle.std.specs.Prelude.{replicate}
use Rattle.std.proofs.lemmas.Bool.Decides.{eqb_tells}
use Rattle.std.proofs.lemmas.Bool.{cases_Bool, eq-eqb}
use Rattle.std.proofs.lemmas.List.{get_or-set_same, get_or-set_other, length-map, length-replicate, get_or-replicate}
use Rattle.std.proofs.lemmas.List.Sums.{sum_by-set, sum_by-cons, count_by-le-length}
use Rattle.block_machine.specs.Words.{Configuration, Taken}
use Rattle.block_machine.specs.State.{Job}
use Rattle.block_machine.specs.Blocks.{desc_of, job_block, rank_of}
use Rattle.block_laws.specs.Consistent.{Each}
use Rattle.job_queues.specs.declared.waiting.Waiting.{Waiting}
use Rattle.job_queues.specs.Jobs.{Jobs, jobs_of, size_of, with_job, with_job_first}
use Rattle.job_queues.specs.Laws.{only, waiting_of, queues_of}
use Rattle.job_pending.specs.Line.{AreInLine, InLine, IsFresh}
use Rattle.job_pending.specs.Room.{AreDistinct, HasRoom, HavePriorities, has_priority}
use Rattle.job_pending.specs.Pending.{StandApart, StandsApart, unpicked_of}

-- NUMBERS THAT ARE ALL IN A TABLE

abbrev pub one_if : Bool → ℕ
one_if b = cond b 1 0

in_table : (table : List Bool) (p : ℕ) → get_or table p false ≡ true → p < length table
in_table [] p is = cc
in_table (x ∷ xs) zero is = omega arith
in_table (x ∷ xs) (suc p) is = let below = in_table xs p is in omega (arith, below)

others_there : (table : List Bool) (p : ℕ) (ps : List ℕ) → Each (λ q. get_or table q false ≡ true) ps → Each (λ q. q ≢ p) ps
    → Each (λ q. get_or (slice_set table p false) q false ≡ true) ps
others_there table p [] there other = tt
others_there table p (q ∷ ps) there other = (get_or-set_other table p q false false other.0 ∙ there.0, others_there table p ps there.1 other.1)

-- distinct numbers are no more than the table has
pub few_there : (table : List Bool) (ps : List ℕ) → Each (λ p. get_or table p false ≡ true) ps → AreDistinct ps → length ps ≤ count_by (λ b. b) table
few_there table [] there distinct = omega arith
few_there table (p ∷ ps) there distinct =
    let set = sum_by-set one_if table p false false (in_table table p there.0) in
    let was = ap one_if there.0 in
    let less = few_there (slice_set table p false) ps (others_there table p ps there.1 distinct.0) distinct.1 in
    omega (arith, set, was, less)

-- ON EACH BLOCK ONE

distinct_blocks : (jobs : List Job) → StandApart jobs → AreDistinct (map job_block jobs)
distinct_blocks [] apart = tt
distinct_blocks (j ∷ js) apart = (others js apart.0, distinct_blocks js apart.1)
  where
    others : (xs : List Job) → StandsApart j xs → Each (λ m. m ≢ job_block j) (map job_block xs)
    others [] h = tt
    others (x ∷ xs) h = (h.0.block, others xs h.1)

blocks_there : (n : ℕ) (jobs : List Job) → Each (λ j. job_block j < n) jobs → Each (λ p. get_or (replicate n true) p false ≡ true) (map job_block jobs)
blocks_there n [] below = tt
blocks_there n (j ∷ js) below = (get_or-replicate n (job_block j) true false below.0, blocks_there n js below.1)

-- jobs that stand apart are no more than their blocks
pub few_jobs : (n : ℕ) (jobs : List Job) → StandApart jobs → Each (λ j. job_block j < n) jobs → length jobs ≤ n
few_jobs n jobs apart below =
    let few = few_there (replicate n true) (map job_block jobs) (blocks_there n jobs below) (distinct_blocks jobs apart) in
    let most = count_by-le-length (λ (b : Bool). b) (replicate n true) in
    omega (arith, few, most, length-replicate n true, length-map jobs job_block)

-- OF EACH PRIORITY ONE THAT WAS PICKED

-- the priorities of the standard jobs that were
abbrev picked_first : Bool → Option Taken → ℕ → List ℕ → List ℕ
picked_first true taken p ps = ps
picked_first false None p ps = ps
picked_first false (Some t) p ps = p ∷ ps

abbrev picked_in : Configuration → List Job → List ℕ
picked_in c [] = []
picked_in c (j ∷ js) = picked_first (rank_of c j).immediate j.taken (rank_of c j).priority (picked_in c js)

each_first : (P : ℕ → Type 0) (i : Bool) (t : Option Taken) (p : ℕ) (ps : List ℕ) → (i ≡ false → IsSome t → P p) → Each P ps → Each P (picked_first i t p ps)
each_first P true t p ps first each = each
each_first P false None p ps first each = each
each_first P false (Some t) p ps first each = (first refl refl, each)

each_picked : (P : ℕ → Type 0) (c : Configuration) (jobs : List Job) → Each (λ x. (rank_of c x).immediate ≡ false → IsSome x.taken → P (rank_of c x).priority) jobs → Each P (picked_in c jobs)
each_picked P c [] each = tt
each_picked P c (j ∷ js) each = each_first P (rank_of c j).immediate j.taken (rank_of c j).priority (picked_in c js) each.0 (each_picked P c js each.1)

not_both : (t : Option Taken) → IsSome t → t ≡ None → ⊥
not_both None some none = cc
not_both (Some t) some none = cc

distinct_first : (i : Bool) (t : Option Taken) (p : ℕ) (ps : List ℕ) → (i ≡ false → IsSome t → Each (λ m. m ≢ p) ps) → AreDistinct ps → AreDistinct (picked_first i t p ps)
distinct_first true t p ps first rest = rest
distinct_first false None p ps first rest = rest
distinct_first false (Some t) p ps first rest = (first refl refl, rest)

distinct_picked : (c : Configuration) (jobs : List Job) → AreInLine c jobs → AreDistinct (picked_in c jobs)
distinct_picked c [] line = tt
distinct_picked c (j ∷ js) line =
    distinct_first (rank_of c j).immediate j.taken (rank_of c j).priority (picked_in c js)
    (λ standard picked. each_picked (λ m. m ≢ (rank_of c j).priority) c js (others standard picked js line.0)) (distinct_picked c js line.1)
  where
    others : (rank_of c j).immediate ≡ false → IsSome j.taken → (xs : List Job) → Each (InLine c j) xs
        → Each (λ x. (rank_of c x).immediate ≡ false → IsSome x.taken → (rank_of c x).priority ≢ (rank_of c j).priority) xs
    others standard picked [] each = tt
    others standard picked (x ∷ xs) each =
        ((λ alike was same. not_both x.taken was ((each.0 standard alike).0 picked (sym same)).0), others standard picked xs each.1)

has_own : (c : Configuration) (ids id : ℕ) → id < ids → has_priority c ids (desc_of c id).priority ≡ true
has_own c zero id below = absurd (omega (arith, below))
has_own c (suc n) id below = elim (eqb_tells n id) [
  | inl (t, same) ↦ rw (eq-eqb (desc_of c n).priority (desc_of c id).priority (ap (λ k. (desc_of c k).priority) same)) (or_true (has_priority c n (desc_of c id).priority))
  | inr (f, other) ↦ rw (has_own c n id (grind (arith, below, other))) refl
]
  where
    or_true : (b : Bool) → (b || true) ≡ true
    or_true true = refl
    or_true false = refl

have_own : (c : Configuration) (ids : ℕ) (jobs : List Job) → Each (λ j. job_block j < ids) jobs
    → Each (λ x. (rank_of c x).immediate ≡ false → IsSome x.taken → has_priority c ids (rank_of c x).priority ≡ true) jobs
have_own c ids [] below = tt
have_own c ids (j ∷ js) below = ((λ standard picked. has_own c ids (job_block j) below.0), have_own c ids js below.1)

few_picked : (c : Configuration) (ids n : ℕ) (jobs : List Job) → HavePriorities c ids n → AreInLine c jobs → Each (λ j. job_block j < ids) jobs → length (picked_in c jobs) ≤ n
few_picked c ids n jobs have line below =
    have (picked_in c jobs) (each_picked (λ p. has_priority c ids p ≡ true) c jobs (have_own c ids jobs below)) (distinct_picked c jobs line)

-- HOW MANY WAIT

-- of one job: whether it is immediate, and whether it was picked
abbrev unpicked_standard : Configuration → Job → Bool
unpicked_standard c j = not (rank_of c j).immediate && is_none j.taken

abbrev unpicked_immediate : Configuration → Job → Bool
unpicked_immediate c j = (rank_of c j).immediate && is_none j.taken

standard_first : (i : Bool) (t : Option Taken) (p : ℕ) (ps : List ℕ) → one_if (not i) + length ps ≡ one_if (not i && is_none t) + length (picked_first i t p ps)
standard_first true t p ps = refl
standard_first false None p ps = refl
standard_first false (Some t) p ps = omega arith

abbrev pub is_standard : Configuration → Job → Bool
is_standard c j = not (rank_of c j).immediate

abbrev pub immediate_by : Configuration → Job → Bool
immediate_by c j = (rank_of c j).immediate

standard_count : (c : Configuration) (jobs : List Job) → count_by (is_standard c) jobs ≡ (unpicked_of c jobs).standard + length (picked_in c jobs)
standard_count c [] = refl
standard_count c (j ∷ js) =
    let more = sum_by-cons (λ j. one_if (is_standard c j)) j js in
    let unpicked = sum_by-cons (λ j. one_if (unpicked_standard c j)) j js in
    let first = standard_first (rank_of c j).immediate j.taken (rank_of c j).priority (picked_in c js) in
    let rest = standard_count c js in
    omega (arith, more, unpicked, first, rest)

fresh_first : (i : Bool) (t : Option Taken) → (i ≡ true → t ≡ None) → one_if i ≡ one_if (i && is_none t)
fresh_first true None fresh = refl
fresh_first true (Some t) fresh = cc (fresh refl)
fresh_first false t fresh = refl

immediate_count : (c : Configuration) (jobs : List Job) → Each (IsFresh c) jobs → count_by (immediate_by c) jobs ≡ (unpicked_of c jobs).immediate
immediate_count c [] fresh = refl
immediate_count c (j ∷ js) fresh =
    let more = sum_by-cons (λ j. one_if (immediate_by c j)) j js in
    let unpicked = sum_by-cons (λ j. one_if (unpicked_immediate c j)) j js in
    omega (arith, more, unpicked, fresh_first (rank_of c j).immediate j.taken fresh.0, immediate_count c js fresh.1)

all_count : (c : Configuration) (jobs : List Job) → length jobs ≡ count_by (is_standard c) jobs + count_by (immediate_by c) jobs
all_count c [] = refl
all_count c (j ∷ js) =
    let standard = sum_by-cons (λ j. one_if (is_standard c j)) j js in
    let immediate = sum_by-cons (λ j. one_if (immediate_by c j)) j js in
    omega (arith, standard, immediate, either (rank_of c j).immediate, all_count c js)
  where
    either : (i : Bool) → one_if (not i) + one_if i ≡ 1
    either true = refl
    either false = refl

queued_first : (i b : Bool) (w : Waiting) (ws : List Waiting) → w.immediate ≡ b → length (only i (w ∷ ws)) ≡ one_if (if i then b else not b) + length (only i ws)
queued_first true true w ws is = rw is (omega arith)
queued_first true false w ws is = rw is (omega arith)
queued_first false true w ws is = rw is (omega arith)
queued_first false false w ws is = rw is (omega arith)

pub standard_queue : (c : Configuration) (jobs : List Job) → length (only false (map (waiting_of c) jobs)) ≡ count_by (is_standard c) jobs
standard_queue c [] = refl
standard_queue c (j ∷ js) =
    queued_first false (rank_of c j).immediate (waiting_of c j) (map (waiting_of c) js) refl ∙ ap (λ n. one_if (is_standard c j) + n) (standard_queue c js)
    ∙ sym (sum_by-cons (λ j. one_if (is_standard c j)) j js)

pub immediate_queue : (c : Configuration) (jobs : List Job) → length (only true (map (waiting_of c) jobs)) ≡ count_by (immediate_by c) jobs
immediate_queue c [] = refl
immediate_queue c (j ∷ js) =
    queued_first true (rank_of c j).immediate (waiting_of c j) (map (waiting_of c) js) refl ∙ ap (λ n. one_if (immediate_by c j) + n) (immediate_queue c js)
    ∙ sym (sum_by-cons (λ j. one_if (immediate_by c j)) j js)

-- what is so of jobs that may wait together, on so many blocks
pub record MayWait (c : Configuration) (ids : ℕ) (jobs : List Job) : Type 0 where
  pub apart : StandApart jobs
  pub below : Each (λ j. job_block j < ids) jobs
  pub line : AreInLine c jobs
  pub fresh : Each (IsFresh c) jobs
  pub standard : (unpicked_of c jobs).standard ≤ c.standard
  pub immediate : (unpicked_of c jobs).immediate ≤ c.immediate

-- they all have room
pub all_fit : (c : Configuration) (ids all immediate standard : ℕ) (jobs : List Job) → HasRoom c ids all immediate standard → MayWait c ids jobs → length jobs ≤ all
all_fit c ids all immediate standard jobs room may =
    room.all (length jobs) (few_jobs ids jobs may.apart may.below)
    (omega (arith, all_count c jobs, standard_count c jobs, immediate_count c jobs may.fresh, few_picked c ids room.priorities jobs room.have may.line may.below, may.standard, may.immediate))

-- and so have those of each queue
pub queue_fits : (c : Configuration) (ids all immediate standard : ℕ) (jobs : List Job) (i : Bool) → HasRoom c ids all immediate standard → MayWait c ids jobs
    → length (jobs_of (queues_of c jobs immediate standard) i) ≤ size_of (queues_of c jobs immediate standard) i
queue_fits c ids all immediate standard jobs true room may =
    room.immediate (length (only true (map (waiting_of c) jobs)))
    (omega (arith, immediate_queue c jobs, all_count c jobs, few_jobs ids jobs may.apart may.below))
    (omega (arith, immediate_queue c jobs, immediate_count c jobs may.fresh, may.immediate))
queue_fits c ids all immediate standard jobs false room may =
    room.standard (length (only false (map (waiting_of c) jobs)))
    (omega (arith, standard_queue c jobs, all_count c jobs, few_jobs ids jobs may.apart may.below))
    (omega (arith, standard_queue c jobs, standard_count c jobs, few_picked c ids room.priorities jobs room.have may.line may.below, may.standard))

-- SIZES STAY

pub immediate_stays : (w : Waiting) (q : Jobs) → (with_job w q).immediate_size ≡ q.immediate_size
immediate_stays w q = elim (cases_Bool w.immediate) [ inl is ↦ rw is refl | inr is ↦ rw is refl ]

pub standard_stays : (w : Waiting) (q : Jobs) → (with_job w q).standard_size ≡ q.standard_size
standard_stays w q = elim (cases_Bool w.immediate) [ inl is ↦ rw is refl | inr is ↦ rw is refl ]

pub immediate_stays_first : (w : Waiting) (q : Jobs) → (with_job_first w q).immediate_size ≡ q.immediate_size
immediate_stays_first w q = elim (cases_Bool w.immediate) [ inl is ↦ rw is refl | inr is ↦ rw is refl ]

pub standard_stays_first : (w : Waiting) (q : Jobs) → (with_job_first w q).standard_size ≡ q.standard_size
standard_stays_first w q = elim (cases_Bool w.immediate) [ inl is ↦ rw is refl | inr is ↦ rw is refl ]

-- THE TABLE OF PRIORITIES

-- one block more is noted
pub one_noted : (c : Configuration) (id : ℕ) (table : List Bool) (q : ℕ) → ((p : ℕ) → get_or table p false ≡ has_priority c id p) → q < length table → q ≡ (desc_of c id).priority
    → (p : ℕ) → get_or (slice_set table q true) p false ≡ has_priority c (suc id) p
one_noted c id table q found below is p = elim (eqb_tells q p) [
  | inl (t, same) ↦ rw (sym is, t) (ap (λ n. get_or (slice_set table q true) n false) (sym same) ∙ get_or-set_same table q true false below ∙ sym (or_true (has_priority c id p)))
  | inr (f, other) ↦ rw (sym is, f) (get_or-set_other table q p true false (λ e. other (sym e)) ∙ found p ∙ sym (or_false (has_priority c id p)))
]
  where
    or_true : (b : Bool) → (b || true) ≡ true
    or_true true = refl
    or_true false = refl

    or_false : (b : Bool) → (b || false) ≡ b
    or_false true = refl
    or_false false = refl

-- before the first
pub none_noted : (n p : ℕ) → get_or (replicate n false) p false ≡ false
none_noted zero p = refl
none_noted (suc n) zero = refl
none_noted (suc n) (suc p) = none_noted n p

-- a table has as many as are true
pub have_noted : (c : Configuration) (ids n : ℕ) (table : List Bool) → ((p : ℕ) → get_or table p false ≡ has_priority c ids p) → n ≡ count_by (λ b. b) table → HavePriorities c ids n
have_noted c ids n table found count ps have distinct = rw count (few_there table ps (there ps have) distinct)
  where
    there : (ps : List ℕ) → Each (λ p. has_priority c ids p ≡ true) ps → Each (λ p. get_or table p false ≡ true) ps
    there [] have = tt
    there (p ∷ ps) have = (found p ∙ have.0, there ps have.1)

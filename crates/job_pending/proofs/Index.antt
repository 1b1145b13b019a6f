-- Jobs that stand where their blocks say.
use Rattle.std.proofs.Common.{◌≡◌, ◌≢◌, ◌⊎◌, ℕ, zero, suc, ◌+◌, ◌-◌, ◌==◌, ◌<◌, ◌≤◌, false, inl, inr, List, [], ◌∷◌, ◌++◌, length, get_or, refl, sym, ap, ◌∙◌, subst, arith, Option, Some, None, slice_set, is_some}
use Rattle.std.specs.Prelude.{slice_get, if◌then◌else◌}
use Rattle.std.proofs.lemmas.Bool.Decides.{eqb_tells}
use Rattle.std.proofs.lemmas.Bool.{eq-eqb}
use Rattle.std.proofs.lemmas.List.{get_or-set_same, get_or-set_other, length-set}
use Rattle.std.proofs.lemmas.Option.{slice_get_within, slice_get-get_or, get_or_from_slice_get}
use Rattle.block_machine.specs.State.{Job}
use Rattle.block_machine.specs.Blocks.{job_block}
use Rattle.job_pending.specs.Slots.{AreIndexed, IsLeft, IsSwapped, job_on}

same_number : (i k : ℕ) → Some i ≡ Some k → i ≡ k
same_number i k e = cc

same_job : (x y : Job) → Some x ≡ Some y → x ≡ y
same_job x y e = cc

-- FOUND

-- the jobs of this block stand at this place alone
abbrev pub IsOnly : List Job → ℕ → ℕ → Type 0
IsOnly jobs i id = (k : ℕ) (b : Job) → slice_get jobs k ≡ Some b → job_block b ≡ id → k ≡ i

pub found_here : (jobs : List Job) (i : ℕ) (j : Job) → slice_get jobs i ≡ Some j → IsOnly jobs i (job_block j) → job_on jobs (job_block j) ≡ Some j
found_here [] i j here only = cc
found_here (x ∷ xs) zero j here only = let e = same_job x j here in rw (eq-eqb (job_block x) (job_block j) (ap job_block e)) (ap Some e)
found_here (x ∷ xs) (suc i) j here only = elim (eqb_tells (job_block x) (job_block j)) [
  | inl (t, same) ↦ let e = only zero x refl same in absurd (omega (arith, e))
  | inr (f, _) ↦ rw f (found_here xs i j here (λ k b at on. let e = only (suc k) b at on in omega (arith, e)))
]

pub found_at : (jobs : List Job) (id : ℕ) (j : Job) → job_on jobs id ≡ Some j → (i : ℕ) × (slice_get jobs i ≡ Some j) × (job_block j ≡ id)
found_at [] id j is = cc
found_at (x ∷ xs) id j is = elim (eqb_tells (job_block x) id) [
  | inl (t, same) ↦ let e = same_job x j (rw t at is) in (zero, ap Some e, ap job_block (sym e) ∙ same)
  | inr (f, _) ↦ let (i, here, on) = found_at xs id j (rw f at is) in (suc i, here, on)
]

pub none_found : (jobs : List Job) (id : ℕ) → ((k : ℕ) (b : Job) → slice_get jobs k ≡ Some b → job_block b ≡ id → ⊥) → job_on jobs id ≡ None
none_found [] id none = refl
none_found (x ∷ xs) id none = elim (eqb_tells (job_block x) id) [
  | inl (t, same) ↦ absurd (none zero x refl same)
  | inr (f, _) ↦ rw f (none_found xs id (λ k b at on. none (suc k) b at on))
]

pub not_found : (jobs : List Job) (id k : ℕ) (b : Job) → job_on jobs id ≡ None → slice_get jobs k ≡ Some b → job_block b ≡ id → ⊥
not_found [] id k b none at on = cc
not_found (x ∷ xs) id zero b none at on = let t = eq-eqb (job_block x) id (ap job_block (same_job x b at) ∙ on) in let e = rw t at none in cc
not_found (x ∷ xs) id (suc k) b none at on = elim (eqb_tells (job_block x) id) [
  | inl (t, same) ↦ let e = rw t at none in cc
  | inr (f, _) ↦ not_found xs id k b (rw f at none) at on
]

-- BY THE INDEX

pub only_one : (at : List ℕ) (jobs : List Job) (i k : ℕ) (a b : Job) → AreIndexed at jobs → slice_get jobs i ≡ Some a → slice_get jobs k ≡ Some b
    → job_block a ≡ job_block b → i ≡ k
only_one at jobs i k a b indexed here there same = same_number i k (sym (indexed i a here) ∙ ap (slice_get at) same ∙ indexed k b there)

pub only_here : (at : List ℕ) (jobs : List Job) (i id : ℕ) (j : Job) → AreIndexed at jobs → slice_get jobs i ≡ Some j → job_block j ≡ id → IsOnly jobs i id
only_here at jobs i id j indexed here on k b there same = only_one at jobs k i b j indexed there here (same ∙ sym on)

-- what is looked up is what is there
pub looked_up : (at : List ℕ) (jobs : List Job) (i id : ℕ) (j : Job) → AreIndexed at jobs → slice_get jobs i ≡ Some j → job_block j ≡ id → job_on jobs id ≡ Some j
looked_up at jobs i id j indexed here on = subst (λ n. job_on jobs n ≡ Some j) on (found_here jobs i j here (only_here at jobs i (job_block j) j indexed here refl))

-- and there is nothing where nothing is looked up
pub none_there : (at : List ℕ) (jobs : List Job) (id : ℕ) → AreIndexed at jobs
    → ((i : ℕ) (j : Job) → slice_get at id ≡ Some i → slice_get jobs i ≡ Some j → job_block j ≡ id → ⊥) → job_on jobs id ≡ None
none_there at jobs id indexed none =
    none_found jobs id (λ k b there on. none k b (ap (slice_get at) (sym on) ∙ indexed k b there) there on)

-- a list that has the same jobs of a block finds the same one
pub same_slot : (at : List ℕ) (old new : List Job) (id : ℕ) → AreIndexed at new
    → ((i : ℕ) (j : Job) → slice_get old i ≡ Some j → job_block j ≡ id → (k : ℕ) × (slice_get new k ≡ Some j))
    → ((k : ℕ) (j : Job) → slice_get new k ≡ Some j → job_block j ≡ id → (i : ℕ) × (slice_get old i ≡ Some j)) → job_on new id ≡ job_on old id
same_slot at old new id indexed forth back = by (job_on old id) refl
  where
    by : (o : Option Job) → job_on old id ≡ o → job_on new id ≡ o
    by None none = none_found new id (λ k b there on. let (i, here) = back k b there on in not_found old id i b none here on)
    by (Some j) is =
        let (i, here, on) = found_at old id j is in
        let (k, there) = forth i j here on in looked_up at new k id j indexed there on

-- ONE MORE

pushed_at : (jobs : List Job) (j x : Job) (i : ℕ) → slice_get (jobs ++ j ∷ []) i ≡ Some x → (slice_get jobs i ≡ Some x) ⊎ ((i ≡ length jobs) × (x ≡ j))
pushed_at [] j x zero is = inr (refl, same_job x j (sym is))
pushed_at [] j x (suc i) is = cc
pushed_at (y ∷ ys) j x zero is = inl is
pushed_at (y ∷ ys) j x (suc i) is = elim (pushed_at ys j x i is) [
  | inl there ↦ inl there
  | inr (end, same) ↦ inr (ap suc end, same)
]

set_at : (at : List ℕ) (b i : ℕ) → b < length at → slice_get (slice_set at b i) b ≡ Some i
set_at at b i below =
    slice_get-get_or (slice_set at b i) b 0 (rw (length-set at b i) below) ∙ ap Some (get_or-set_same at b i 0 below)

set_other : (at : List ℕ) (b k i n : ℕ) → slice_get at k ≡ Some n → k ≢ b → slice_get (slice_set at b i) k ≡ Some n
set_other at b k i n is other =
    slice_get-get_or (slice_set at b i) k 0 (rw (length-set at b i) (slice_get_within at k n is))
    ∙ ap Some (get_or-set_other at b k i 0 other ∙ get_or_from_slice_get at k n 0 is)

-- a job is put behind the others, on a block that has none
pub indexed_more : (at : List ℕ) (jobs : List Job) (j : Job) → AreIndexed at jobs → job_on jobs (job_block j) ≡ None → job_block j < length at
    → AreIndexed (slice_set at (job_block j) (length jobs)) (jobs ++ j ∷ [])
indexed_more at jobs j indexed none below i x here = elim (pushed_at jobs j x i here) [
  | inl there ↦ set_other at (job_block j) (job_block x) (length jobs) i (indexed i x there) (λ same. not_found jobs (job_block j) i x none there same)
  | inr (end, same) ↦ rw (same, end) (set_at at (job_block j) (length jobs) below)
]

-- ONE FEWER

-- each job that is left stood at its place, or last
origin : (place : ℕ) (old new : List Job) → IsSwapped place old new → (k : ℕ) (x : Job) → slice_get new k ≡ Some x
    → ((k ≡ place) × (slice_get old (length old - 1) ≡ Some x)) ⊎ ((k ≢ place) × (slice_get old k ≡ Some x))
origin place old new swapped k x there =
    let n = swapped.count in
    let below = slice_get_within new k x there in
    let is = get_or_from_slice_get new k x x there in
    elim (eqb_tells k place) [
      | inl (t, same) ↦ inl (same, slice_get-get_or old (length old - 1) x (omega (arith, n, below)) ∙ ap Some (sym (swapped.last x (omega (arith, n, below, same))) ∙ ap (λ i. get_or new i x) (sym same) ∙ is))
      | inr (f, other) ↦ inr (other, slice_get-get_or old k x (omega (arith, n, below)) ∙ ap Some (sym (swapped.others k x other (omega (arith, n, below))) ∙ is))
    ]

module _ (at : List ℕ) (old new : List Job) (place : ℕ) (j : Job) (indexed : AreIndexed at old) (here : slice_get old place ≡ Some j) (swapped : IsSwapped place old new) where
  low : (k : ℕ) (x : Job) → slice_get new k ≡ Some x → k < length old - 1
  low k x there = let n = swapped.count in let below = slice_get_within new k x there in omega (arith, n, below)

  -- where the last one stood at the place, the index stays
  pub index_stays : length new ≡ place → AreIndexed at new
  index_stays end k x there = elim (origin place old new swapped k x there) [
    | inl (same, last) ↦ let below = slice_get_within new k x there in absurd (omega (arith, end, below, same))
    | inr (other, was) ↦ indexed k x was
  ]

  -- else it names the place of the one that moved there
  pub index_moves : (m : Job) → slice_get new place ≡ Some m → AreIndexed (slice_set at (job_block m) place) new
  index_moves m moved k x there =
      let last : slice_get old (length old - 1) ≡ Some m = elim (origin place old new swapped place m moved) [
        | inl (same, last) ↦ last
        | inr (other, was) ↦ absurd (other refl)
      ] in
      elim (origin place old new swapped k x there) [
        | inl (same, was) ↦
            let e : m ≡ x = same_job m x (sym last ∙ was) in
            rw (sym e, same) (set_at at (job_block m) place (slice_get_within at (job_block m) (length old - 1) (indexed (length old - 1) m last)))
        | inr (other, was) ↦ set_other at (job_block m) (job_block x) place k (indexed k x was)
            (λ same. let e = only_one at old k (length old - 1) x m indexed was last same in let below = low k x there in absurd (omega (arith, e, below)))
      ]

  module _ (now : List ℕ) (again : AreIndexed now new) where
    -- its block has no job any more
    pub none_left : job_on new (job_block j) ≡ None
    none_left = none_found new (job_block j) (λ k x there on. elim (origin place old new swapped k x there) [
      | inl (same, was) ↦ let e = only_one at old (length old - 1) place x j indexed was here on in let below = low k x there in absurd (omega (arith, e, below, same))
      | inr (other, was) ↦ absurd (other (only_one at old k place x j indexed was here on))
    ])

    kept : (id : ℕ) → job_block j ≢ id → (i : ℕ) (x : Job) → slice_get old i ≡ Some x → job_block x ≡ id → (k : ℕ) × (slice_get new k ≡ Some x)
    kept id other i x was on =
        let n = swapped.count in
        let below = slice_get_within old i x was in
        let is = get_or_from_slice_get old i x x was in
        let apart : i ≢ place = λ same. other (ap job_block (same_job j x (sym here ∙ ap (slice_get old) (sym same) ∙ was)) ∙ on) in
        let inside = slice_get_within old place j here in
        elim (eqb_tells i (length old - 1)) [
          | inl (t, end) ↦
              let more : place + 1 < length old = let differ : place ≢ length old - 1 = λ e. apart (end ∙ sym e) in less_by place (length old) inside differ in
              (place, slice_get-get_or new place x (omega (arith, n, more)) ∙ ap Some (swapped.last x more ∙ ap (λ a. get_or old a x) (sym end) ∙ is))
          | inr (f, early) ↦
              let more : i + 1 < length old = less_by i (length old) below early in
              (i, slice_get-get_or new i x (omega (arith, n, more)) ∙ ap Some (swapped.others i x apart more ∙ is))
        ]
      where
        not_last : (a b : ℕ) → a < b → a + 1 ≢ b → a + 1 < b
        not_last a b less e = grind (arith)

        less_by : (a b : ℕ) → a < b → a ≢ b - 1 → a + 1 < b
        less_by a b less differ = elim (eqb_tells (a + 1) b) [
          | inl (t, e) ↦ absurd (differ (omega (arith, e)))
          | inr (f, e) ↦ not_last a b less e
        ]

    -- another block's job stays
    pub others_stay : (id : ℕ) → job_block j ≢ id → job_on new id ≡ job_on old id
    others_stay id other = same_slot now old new id again (kept id other) (λ k x there on. elim (origin place old new swapped k x there) [
      | inl (same, was) ↦ (length old - 1, was)
      | inr (apart, was) ↦ (k, was)
    ])

    pub slots_left : (id : ℕ) → job_on new id ≡ (if job_block j == id then None else job_on old id)
    slots_left id = elim (eqb_tells (job_block j) id) [
      | inl (t, same) ↦ rw t (subst (λ n. job_on new n ≡ None) same none_left)
      | inr (f, other) ↦ rw f (others_stay id other)
    ]

-- the one that moved there has a place for its block
pub moved_below : (at : List ℕ) (old new : List Job) (place : ℕ) (m : Job) → AreIndexed at old → IsSwapped place old new → place < length new → m ≡ get_or new place m
    → job_block m < length at
moved_below at old new place m indexed swapped below read =
    let there : slice_get new place ≡ Some m = slice_get-get_or new place m below ∙ ap Some (sym read) in
    elim (origin place old new swapped place m there) [
      | inl (same, was) ↦ slice_get_within at (job_block m) (length old - 1) (indexed (length old - 1) m was)
      | inr (other, was) ↦ absurd (other refl)
    ]

-- WHAT IS LOOKED UP

-- a place that was read by equal names
pub read_at : (xs items : List ℕ) (i id p a : ℕ) → xs ≡ items → i ≡ id → p ≡ a → a ≡ get_or xs i a → p ≡ get_or items id p
read_at xs items i id p a same_list same_id same read = rw (same, ← same_list, ← same_id) read

module _ (at : List ℕ) (jobs : List Job) (id : ℕ) (indexed : AreIndexed at jobs) where
  pub no_place : length at ≤ id → job_on jobs id ≡ None
  no_place low = none_there at jobs id indexed (λ i j there here on. let below = slice_get_within at id i there in absurd (omega (arith, low, below)))

  module _ (p : ℕ) (read : p ≡ get_or at id p) where
    its_place : (i : ℕ) → slice_get at id ≡ Some i → p ≡ i
    its_place i there = read ∙ get_or_from_slice_get at id i p there

    pub no_job_there : length jobs ≤ p → job_on jobs id ≡ None
    no_job_there low = none_there at jobs id indexed (λ i j there here on.
        let below = slice_get_within jobs i j here in let same = its_place i there in absurd (omega (arith, low, below, same)))

    pub other_there : (x : Job) → x ≡ get_or jobs p x → job_block x ≢ id → job_on jobs id ≡ None
    other_there x held differs = none_there at jobs id indexed (λ i j there here on.
        let same : x ≡ j = held ∙ ap (λ n. get_or jobs n x) (its_place i there) ∙ get_or_from_slice_get jobs i j x here in
        differs (ap job_block same ∙ on))

    pub job_there : (x : Job) → p < length jobs → x ≡ get_or jobs p x → job_block x ≡ id → slice_get jobs p ≡ job_on jobs id
    job_there x below held is =
        let there : slice_get jobs p ≡ Some x = slice_get-get_or jobs p x below ∙ ap Some (sym held) in
        there ∙ sym (looked_up at jobs p id x indexed there is)

pub read_job : (xs items : List Job) (i : ℕ) (x : Job) → xs ≡ items → x ≡ get_or xs i x → x ≡ get_or items i x
read_job xs items i x same read = read ∙ ap (λ ys. get_or ys i x) same

-- by equal names
pub indexed_by : (at : List ℕ) (jobs new : List Job) (j : Job) (b n : ℕ) → AreIndexed at jobs → job_on jobs (job_block j) ≡ None → b < length at → b ≡ job_block j → n ≡ length jobs → new ≡ jobs ++ j ∷ []
    → AreIndexed (slice_set at b n) new
indexed_by at jobs new j b n indexed none below is end pushed =
    rw (pushed, is, end) (indexed_more at jobs j indexed none (omega (arith, below, is)))

-- the job of a block was taken out of its place
pub left_at : (at now : List ℕ) (old new : List Job) (place block room : ℕ) (j : Job) → AreIndexed at old → slice_get old place ≡ Some j → IsSwapped place old new → AreIndexed now new
    → length now ≡ length at → slice_get old place ≡ job_on old block
    → IsLeft block (record { jobs = old; places = length at; room = room }) (record { jobs = new; places = length now; room = room })
left_at at now old new place block room j indexed here swapped again places is =
    let (i, there, on) = found_at old block j (sym is ∙ here) in record {
      places = places;
      room = refl;
      slots = subst (λ b. (id : ℕ) → job_on new id ≡ (if b == id then None else job_on old id)) on (slots_left at old new place j indexed here swapped now again);
      count = λ x found. swapped.count;
    }

pub none_on : (jobs : List Job) (b : ℕ) (j : Job) → b ≡ job_block j → is_some (job_on jobs b) ≡ false → job_on jobs (job_block j) ≡ None
none_on jobs b j same none = ap (job_on jobs) (sym same) ∙ by (job_on jobs b) none
  where
    by : (o : Option Job) → is_some o ≡ false → o ≡ None
    by None none = refl
    by (Some x) none = cc

-- what `swap_remove` leaves
pub swapped_by : (place n m : ℕ) (old new : List Job) → n ≡ length old → m ≡ length new → m + 1 ≡ n
    → ((d : Job) → place + 1 < n → get_or new place d ≡ get_or old (n - 1) d) × ((k : ℕ) (d : Job) → k ≢ place → k + 1 < n → get_or new k d ≡ get_or old k d)
    → IsSwapped place old new
swapped_by place n m old new before after count by = record {
  count = omega (arith, before, after, count);
  last = λ d low. by.0 d (omega (arith, low, before)) ∙ ap (λ k. get_or old (k - 1) d) before;
  others = λ k d other low. by.1 k d other (omega (arith, low, before));
}

pub moved_there : (new : List Job) (place : ℕ) (m : Job) → place < length new → m ≡ get_or new place m → slice_get new place ≡ Some m
moved_there new place m below read = slice_get-get_or new place m below ∙ ap Some (sym read)

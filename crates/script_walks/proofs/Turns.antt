-- What a turn's entry takes.
use Rattle.std.specs.Prelude.{option_to_list}
use Rattle.std.specs.List.{list_all}
use Rattle.std.specs.Option.{is_some}
use Rattle.std.proofs.Common.{◌≡◌, ◌==◌, ◌&&◌, ◌||◌, ◌≤◌, ℕ, not, Bool, true, false, IsTrue, List, [], ◌∷◌, ◌++◌, length, get_or, refl, sym, ◌∙◌, subst, inl, inr, arith, Option, Some, None, if◌then◌else◌, length-append}
use Rattle.std.proofs.lemmas.Bool.{cases_Bool}
use Rattle.block_machine.specs.Words.{Request, Write, ReqResult, JobKind, WriteJob, Taken, TookNothing, TookContent, TookRefused, TookStale, Instance, Mark, Entry, Ask, Pick, Wrote, Post, Off, Found, BlockDesc, Configuration}
use Rattle.block_machine.specs.State.{State, BlockState, Job, Sweep}
use Rattle.block_machine.specs.Blocks.{desc_of, block_at, is_synchronized, names_ram, job_block, kind_of, asked_store, asked_block}
use Rattle.block_machine.specs.Sweeps.{member_job, member_request, is_picked}
use Rattle.block_machine.specs.Next.{Next, Nothing, PickJob, BeginSweep, PickMember, PostMember, EndSweep, next_of, next_in, next_by, next_member}
use Rattle.block_machine.specs.Steps.{step, after_from, without_job, interrupted, content_after, picked_job, picked, in_hand, with_member, wrote, posted, posted_next}
use Rattle.block_machine.specs.Legal.{TakesForWrite, TakesBy, IsPick, MayPick}
use Rattle.block_laws.specs.Consistent.{Each}
use Rattle.block_laws.proofs.HistoryLaws.{histories_go_on}
use Rattle.block_laws.proofs.NextLaws.{next_is_waiting}
use Rattle.script_walks.specs.Words.{Step}
use Rattle.script_walks.specs.Walk.{stores_of, store_content, copies_by, copies_next, TakesStore, TakesStores, TakesLast, TakesLasts, is_played, is_due, begins_with_pick_or_post}
use Rattle.script_walks.specs.Stores.{IsNewest, AreNewest, CopiesOf, IsStored, IsTakenStored, TookStored, JobsTookStored}
use Rattle.script_walks.specs.Turn.{TakesNewest, IsOfTurn, IsOneOrNone}
use Rattle.script_walks.specs.StoreLaws.{TurnsKeepStored, KeepingGoesOn, TurnsGrow}
use Rattle.script_walks.proofs.Jobs.{content_stored, each_in_hand, each_posted, each_wrote, member_copies, next_has, takes_by}

-- WHAT IS TAKEN

-- nothing is stale
IsFresh : Taken → Type 0
IsFresh (TookStale asked got count) = ⊥
IsFresh t = Unit {0}

-- a copy: the flags say whether the job names RAM, and whether that is synchronized
copy_taken : (c : Configuration) (before : List Step) (stores : List (ℕ × List ℕ)) (d : BlockDesc) (b : BlockState) (j : Job) (id : ℕ) (names sync : Bool) (t : Taken)
    → (sync ≡ true → IsNewest c before id (get_or stores id (0, []))) → ((names && sync) ≡ true → asked_store j.request ≤ length (stores_of id before))
    → (names ≡ false → asked_store j.request ≡ 0) → TakesForWrite d b j None sync t → TakesNewest stores (names && sync) id t
    → IsFresh t × ((names && sync) ≡ true → IsTakenStored c before id t)
unfolding IsFresh
copy_taken c before stores d b j id names false t newest asked zero takes is = (
  subst IsFresh (sym takes) tt,
  λ both. absurd (never names both),
)
  where
    never : (b : Bool) → (b && false) ≡ true → ⊥
    never true e = cc
    never false e = cc
copy_taken c before stores d b j id true true TookNothing newest asked zero takes is = absurd takes
copy_taken c before stores d b j id true true (TookContent bytes number) newest asked zero takes is = (
  tt,
  λ both. subst (λ (x : ℕ × List ℕ). store_content c before id x.0 ≡ Some x.1) is (newest refl).content,
)
copy_taken c before stores d b j id true true (TookRefused count) newest asked zero takes is = (tt, λ both. tt)
copy_taken c before stores d b j id true true (TookStale wanted got count) newest asked zero takes is =
    absurd (let small = asked refl in let number = (newest refl).number in let less = takes.1 in omega (arith, small, number, less, is))
copy_taken c before stores d b j id false true TookNothing newest asked zero takes is = absurd takes
copy_taken c before stores d b j id false true (TookContent bytes number) newest asked zero takes is = (tt, λ both. absurd (cc both))
copy_taken c before stores d b j id false true (TookRefused count) newest asked zero takes is = (tt, λ both. tt)
copy_taken c before stores d b j id false true (TookStale wanted got count) newest asked zero takes is =
    absurd (let none = zero refl in let less = takes.1 in omega (arith, none, less))

content_taken : (c : Configuration) (before : List Step) (stores : List (ℕ × List ℕ)) (d : BlockDesc) (b : BlockState) (j : Job) (id : ℕ) (content : Option (List ℕ × ℕ)) (names sync : Bool) (t : Taken)
    → (sync ≡ true → IsNewest c before id (get_or stores id (0, []))) → ((names && sync) ≡ true → asked_store j.request ≤ length (stores_of id before))
    → (names ≡ false → asked_store j.request ≡ 0) → ((names && sync) ≡ true → IsStored c before id content) → TakesForWrite d b j content sync t
    → TakesNewest stores (not (is_some content) && (names && sync)) id t → IsFresh t × ((names && sync) ≡ true → IsTakenStored c before id t)
unfolding IsFresh
content_taken c before stores d b j id (Some x) names sync t newest asked zero stored takes is = (
  subst IsFresh (sym takes) tt,
  λ both. subst (IsTakenStored c before id) (sym takes) (stored both),
)
content_taken c before stores d b j id None names sync t newest asked zero stored takes is = copy_taken c before stores d b j id names sync t newest asked zero takes is

nothing_taken : (c : Configuration) (before : List Step) (id : ℕ) (names : Type 0) (t : Taken) → t ≡ TookNothing → IsFresh t × (names → IsTakenStored c before id t)
unfolding IsFresh
nothing_taken c before id names t is = (subst IsFresh (sym is) tt, λ both. subst (IsTakenStored c before id) (sym is) tt)

kind_taken : (c : Configuration) (before : List Step) (stores : List (ℕ × List ℕ)) (d : BlockDesc) (b : BlockState) (j : Job) (id : ℕ) (names : Bool) (kind : JobKind) (t : Taken)
    → (is_synchronized d.ram ≡ true → IsNewest c before id (get_or stores id (0, []))) → ((names && is_synchronized d.ram) ≡ true → asked_store j.request ≤ length (stores_of id before))
    → (names ≡ false → asked_store j.request ≡ 0) → ((names && is_synchronized d.ram) ≡ true → IsStored c before id j.content) → TakesBy d b j kind t
    → TakesNewest stores (not (is_some j.content) && (names && is_synchronized d.ram)) id t → IsFresh t × ((names && is_synchronized d.ram) ≡ true → IsTakenStored c before id t)
kind_taken c before stores d b j id names WriteJob t newest asked zero stored takes is =
    content_taken c before stores d b j id j.content names (is_synchronized d.ram) t newest asked zero stored takes is
kind_taken c before stores d b j id names kind t newest asked zero stored takes is = nothing_taken c before id _ t takes

no_store : (r : Request) → names_ram r ≡ false → asked_store r ≡ 0
no_store (Write block None store) names = cc
no_store (Write block (Some content) store) names = refl
no_store r names = refl

-- the Pick of a job
job_taken : (c : Configuration) (before : List Step) (s : State) (stores : List (ℕ × List ℕ)) (j : Job) (block : ℕ) (kind : JobKind) (t : Taken) → AreNewest c before stores → TookStored c before j
    → IsPick c s j block kind t → TakesNewest stores (not (is_some j.content) && (names_ram j.request && is_synchronized (desc_of c (job_block j)).ram)) block t
    → IsFresh t × (CopiesOf c j → IsTakenStored c before (job_block j) t)
job_taken c before s stores j block kind t newest took pick is =
    kind_taken c before stores (desc_of c (job_block j)) (block_at s (job_block j)) j (job_block j) (names_ram j.request) (kind_of j) t (newest (job_block j)) took.asked (no_store j.request) took.content
    pick.takes (subst (λ (id : ℕ). TakesNewest stores (not (is_some j.content) && (names_ram j.request && is_synchronized (desc_of c (job_block j)).ram)) id t) pick.same_block is)

-- WHAT THE JOBS TOOK BEHIND IT

-- whatever is reserved for a job, and whatever it wrote
stays : (c : Configuration) (before : List Step) (j : Job) (reserved : ℕ) (written : List ℕ) → TookStored c before j → TookStored c before (record j { reserved = reserved; written = written })
stays c before j reserved written took = record { asked = took.asked; content = took.content }

-- a job that takes this
picked_stored : (c : Configuration) (before : List Step) (j : Job) (t : Taken) (handed_on : ℕ) → TookStored c before j → (CopiesOf c j → IsTakenStored c before (job_block j) t) → TookStored c before (picked_job t handed_on j)
picked_stored c before j t handed_on took taken = record {
  asked = took.asked;
  content = λ copies. content_stored c before (job_block j) j.content t (taken copies) (took.content copies);
}

-- a job comes in hand
in_hand_stored : (c : Configuration) (before : List Step) (s : State) (j : Job) (t : Taken) → JobsTookStored c before s → TookStored c before j → (CopiesOf c j → IsTakenStored c before (job_block j) t) → JobsTookStored c before (in_hand c s j t)
in_hand_stored c before s j t all took taken = each_in_hand c (TookStored c before) (stays c before) s j t all (picked_stored c before j t (if is_some s.hand then 2 else 0) took taken)

member_stored : (c : Configuration) (before : List Step) (sw : Sweep) (id : ℕ) → TookStored c before (member_job c sw id)
member_stored c before sw id = record { asked = λ copies. by_writes sw.writes; content = λ copies. tt }
  where
    by_writes : (b : Bool) → asked_store (member_request b id) ≤ length (stores_of (job_block (member_job c sw id)) before)
    by_writes true = omega arith
    by_writes false = omega arith

-- THE ENTRY OF A TURN

-- it is played, takes what was stored, a copy as the last one, and so do the jobs behind it
record Keeps (c : Configuration) (before : List Step) (s : State) (e : Entry) : Type 0 where
  pub played : is_played e ≡ true
  pub takes : TakesStore c before (copies_by c (next_of c s)) e
  pub last : TakesLast before e (copies_next c (next_of c s))
  pub jobs : JobsTookStored c before (step c s e)

fresh_is_played : (block : ℕ) (kind : JobKind) (t : Taken) (ops : ℕ) → IsFresh t → is_played (Pick block kind t ops) ≡ true
unfolding IsFresh
fresh_is_played block kind TookNothing ops fresh = refl
fresh_is_played block kind (TookContent bytes number) ops fresh = refl
fresh_is_played block kind (TookRefused count) ops fresh = refl
fresh_is_played block kind (TookStale wanted got count) ops fresh = absurd fresh

pick_keeps : (c : Configuration) (before : List Step) (s : State) (stores : List (ℕ × List ℕ)) (block : ℕ) (kind : JobKind) (t : Taken) (ops : ℕ) (n : Next) → next_of c s ≡ n → AreNewest c before stores
    → JobsTookStored c before s → MayPick c s block kind t n → TakesNewest stores (copies_next c n) block t
    → (is_played (Pick block kind t ops) ≡ true) × TakesStore c before (copies_by c n) (Pick block kind t ops) × JobsTookStored c before (picked c s t n)
unfolding IsFresh
pick_keeps c before s stores block kind t ops (PickJob j) is newest all may takes =
    let took = next_has c (TookStored c before) (stays c before) s j is all in
    let (fresh, taken) = job_taken c before s stores j block kind t newest took may takes in (
      fresh_is_played block kind t ops fresh,
      takes_by c before (names_ram j.request && is_synchronized (desc_of c (job_block j)).ram) block kind t ops
          (λ copies. subst (λ (id : ℕ). IsTakenStored c before id t) (sym may.same_block) (taken copies)),
      in_hand_stored c before s j t all took taken,
    )
pick_keeps c before s stores block kind t ops (PickMember sw id) is newest all may takes =
    let took = member_stored c before sw id in
    let (fresh, taken) = job_taken c before s stores (member_job c sw id) block kind t newest took may (subst (λ (b : Bool). TakesNewest stores b block t) (member_copies c sw id) takes) in (
      fresh_is_played block kind t ops fresh,
      takes_by c before (is_synchronized (desc_of c id).ram) block kind t ops
          (λ copies. subst (λ (n : ℕ). IsTakenStored c before n t) (sym may.same_block) (taken (sym (member_copies c sw id) ∙ copies))),
      in_hand_stored c before (with_member s sw id) (member_job c sw id) t all took taken,
    )
pick_keeps c before s stores block kind t ops (BeginSweep sw) is newest all may takes = (
  subst (λ (x : Taken). is_played (Pick block kind x ops) ≡ true) (sym may.takes_nothing) refl,
  tt,
  all,
)
pick_keeps c before s stores block kind t ops (PostMember sw id) is newest all may takes = absurd may
pick_keeps c before s stores block kind t ops (EndSweep sw) is newest all may takes = absurd may
pick_keeps c before s stores block kind t ops Nothing is newest all may takes = absurd may

right_of : (a b : Bool) → (a && b) ≡ true → b ≡ true
right_of true b both = both
right_of false b both = cc

-- what is copied is synchronized RAM
copied_synchronized : (c : Configuration) (s : State) (block : ℕ) (kind : JobKind) (t : Taken) (n : Next) → MayPick c s block kind t n → copies_next c n ≡ true → is_synchronized (desc_of c block).ram ≡ true
copied_synchronized c s block kind t (PickJob j) may copies =
    let named : (names_ram j.request && is_synchronized (desc_of c (job_block j)).ram) ≡ true = right_of (not (is_some j.content)) (names_ram j.request && is_synchronized (desc_of c (job_block j)).ram) copies in
    subst (λ (id : ℕ). is_synchronized (desc_of c id).ram ≡ true) (sym may.same_block) (right_of (names_ram j.request) (is_synchronized (desc_of c (job_block j)).ram) named)
copied_synchronized c s block kind t (PickMember sw id) may copies =
    let named : (names_ram (member_job c sw id).request && is_synchronized (desc_of c (job_block (member_job c sw id))).ram) ≡ true = sym (member_copies c sw id) ∙ copies in
    subst (λ (id : ℕ). is_synchronized (desc_of c id).ram ≡ true) (sym may.same_block) (right_of (names_ram (member_job c sw id).request) (is_synchronized (desc_of c (job_block (member_job c sw id))).ram) named)
copied_synchronized c s block kind t (BeginSweep sw) may copies = absurd (cc copies)
copied_synchronized c s block kind t (PostMember sw id) may copies = absurd may
copied_synchronized c s block kind t (EndSweep sw) may copies = absurd may
copied_synchronized c s block kind t Nothing may copies = absurd may

-- the newest store is the last one
pick_last : (c : Configuration) (before : List Step) (stores : List (ℕ × List ℕ)) (copies : Bool) (block : ℕ) (kind : JobKind) (t : Taken) (ops : ℕ)
    → (copies ≡ true → IsNewest c before block (get_or stores block (0, []))) → TakesNewest stores copies block t → TakesLast before (Pick block kind t ops) copies
pick_last c before stores true block kind (TookContent bytes number) ops newest is = subst (λ (x : ℕ × List ℕ). x.0 ≡ length (stores_of block before)) is (newest refl).number
pick_last c before stores true block kind TookNothing ops newest is = tt
pick_last c before stores true block kind (TookRefused count) ops newest is = tt
pick_last c before stores true block kind (TookStale wanted got count) ops newest is = tt
pick_last c before stores false block kind (TookContent bytes number) ops newest is = tt
pick_last c before stores false block kind TookNothing ops newest is = tt
pick_last c before stores false block kind (TookRefused count) ops newest is = tt
pick_last c before stores false block kind (TookStale wanted got count) ops newest is = tt

entry_keeps : (c : Configuration) (before : List Step) (s : State) (stores : List (ℕ × List ℕ)) (e : Entry) → AreNewest c before stores → JobsTookStored c before s → IsOfTurn c s stores e → Keeps c before s e
entry_keeps c before s stores (Ask caller r reply) newest all turn = absurd turn
entry_keeps c before s stores (Pick block kind t ops) newest all turn =
    let (played, takes, jobs) = pick_keeps c before s stores block kind t ops (next_of c s) refl newest all turn.may turn.newest in
    record {
      played = played;
      takes = takes;
      last = pick_last c before stores (copies_next c (next_of c s)) block kind t ops (λ copies. newest block (copied_synchronized c s block kind t (next_of c s) turn.may copies)) turn.newest;
      jobs = jobs;
    }
entry_keeps c before s stores (Wrote i mark ops) newest all turn = record { played = refl; takes = none_taken _; last = tt; jobs = each_wrote c (TookStored c before) (stays c before) s i mark s.hand refl all }
  where
    none_taken : (copies : Bool) → TakesStore c before copies (Wrote i mark ops)
    none_taken true = tt
    none_taken false = tt
entry_keeps c before s stores (Post block r given refused ops) newest all turn = record { played = refl; takes = none_taken _; last = tt; jobs = each_posted c (TookStored c before) (stays c before) s r given s.hand all }
  where
    none_taken : (copies : Bool) → TakesStore c before copies (Post block r given refused ops)
    none_taken true = tt
    none_taken false = tt
entry_keeps c before s stores (Off ops) newest all turn = record { played = refl; takes = none_taken _; last = tt; jobs = all }
  where
    none_taken : (copies : Bool) → TakesStore c before copies (Off ops)
    none_taken true = tt
    none_taken false = tt
entry_keeps c before s stores (Found marks ops) newest all turn = absurd turn

pub turns_keep_stored : TurnsKeepStored
turns_keep_stored c before s stores [] newest all turn = record { played = refl; stores = tt; last = tt; jobs = all }
turns_keep_stored c before s stores (e ∷ []) newest all turn =
    let keeps = entry_keeps c before s stores e newest all turn.entry in
    record { played = rw keeps.played refl; stores = (keeps.takes, tt); last = (keeps.last, tt); jobs = keeps.jobs }
turns_keep_stored c before s stores (e ∷ f ∷ es) newest all turn = absurd turn.entry

-- MORE

takes_more : (c : Configuration) (before : List Step) (s : State) (es more : List Entry) → TakesStores c before s es → TakesStores c before (after_from c s es) more → TakesStores c before s (es ++ more)
takes_more c before s [] more takes next = next
takes_more c before s (e ∷ es) more takes next = (takes.0, takes_more c before (step c s e) es more takes.1 next)

last_more : (c : Configuration) (before : List Step) (s : State) (es more : List Entry) → TakesLasts c before s es → TakesLasts c before (after_from c s es) more → TakesLasts c before s (es ++ more)
last_more c before s [] more last next = next
last_more c before s (e ∷ es) more last next = (last.0, last_more c before (step c s e) es more last.1 next)

all_more : (es more : List Entry) → list_all is_played es ≡ true → list_all is_played more ≡ true → list_all is_played (es ++ more) ≡ true
all_more [] more one two = two
all_more (e ∷ es) more one two = elim (cases_Bool (is_played e)) [
  | inl on ↦ rw on (all_more es more (rw on at one) two)
  | inr off ↦ let no_ : false ≡ true = rw off at one in cc
]

pub keeping_goes_on : KeepingGoesOn
keeping_goes_on c before s es more one two = record {
  played = all_more es more one.played two.played;
  stores = takes_more c before s es more one.stores two.stores;
  last = last_more c before s es more one.last two.last;
  jobs = subst (λ (t : State). JobsTookStored c before t) (sym (histories_go_on c s es more)) two.jobs;
}

few : (es : List Entry) (c : Configuration) (s : State) (stores : List (ℕ × List ℕ)) → IsOneOrNone c s stores es → length es ≤ 1
few [] c s stores one = omega arith
few (e ∷ []) c s stores one = omega arith
few (e ∷ f ∷ es) c s stores one = absurd one

begins_more : (due : Bool) (es more : List Entry) → IsTrue (not due || begins_with_pick_or_post es) → IsTrue (not due || begins_with_pick_or_post (es ++ more))
begins_more false es more begins = refl
begins_more true [] more begins = absurd (cc begins)
begins_more true (Pick block kind t ops ∷ es) more begins = refl
begins_more true (Post block r given refused ops ∷ es) more begins = refl
begins_more true (Ask caller r reply ∷ es) more begins = absurd (cc begins)
begins_more true (Wrote i mark ops ∷ es) more begins = absurd (cc begins)
begins_more true (Off ops ∷ es) more begins = absurd (cc begins)
begins_more true (Found marks ops ∷ es) more begins = absurd (cc begins)

pub turns_grow : TurnsGrow
turns_grow c s stores count es more turns some turn played = record {
  played = all_more es more turns.played played;
  few = let one = turns.few in let two = few more c (after_from c s es) stores turn.entry in omega (arith, one, two, length-append es more);
  begins = begins_more (is_due s) es more turns.begins;
}

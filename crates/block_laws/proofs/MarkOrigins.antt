-- Where the marks come from that may stand after a legal history, and how old they are.
use Rattle.std.specs.Prelude.{slice_get}
use Rattle.std.proofs.Common.{◌≡◌, ℕ, ◌+◌, ◌<◌, true, false, List, [], ◌∷◌, ◌++◌, length, Contains, refl, sym, ap, ◌∙◌, subst, ◌⊎◌, inl, inr, arith, append_assoc, length-append, Option, Some, None, IfSome, IsTrue, is_some, if◌then◌else◌}
use Rattle.std.proofs.lemmas.List.{get_or_at}
use Rattle.std.proofs.lemmas.Option.{slice_get-get_or}
use Rattle.block_machine.specs.block_config.Lengths.{lengths_of}
use Rattle.block_machine.specs.Words.{ReqResult, Fine, RedundancyFailed, Instance, Mark, JobKind, Taken, Entry, Ask, Pick, Wrote, Post, Off, Found, Configuration}
use Rattle.block_machine.specs.State.{State, InstanceState, Job}
use Rattle.block_machine.specs.Blocks.{instance_at, is_in, job_block, mark_of}
use Rattle.block_machine.specs.Sweeps.{member_job}
use Rattle.block_machine.specs.Next.{Next, Nothing, PickJob, BeginSweep, PickMember, PostMember, EndSweep, next_of}
use Rattle.block_machine.specs.StartUp.{at_first}
use Rattle.block_machine.specs.Steps.{step, after_from, with_member, picked_job, picked, wrote, posted, posted_next}
use Rattle.block_machine.specs.Legal.{IsPost, MayPick, MayWrite, MayPost, IsAllowed, IsLegalFrom}
use Rattle.block_machine.specs.History.{MayStandIn}
use Rattle.block_machine.specs.Accepted.{AtOne, AsksFor, IsAskOf, HasTaken, Takes, Brings, Tells, Acknowledges, IsTakenIn, IsNotOlderFrom}
use Rattle.block_laws.specs.Consistent.{IsJobInHand}
use Rattle.block_laws.specs.Laws.{is_found, MarksAreBrought, MarksAreNotOlder}
use Rattle.block_laws.proofs.Along.{asked_leaves}
use Rattle.block_laws.proofs.HistoryLaws.{asks_are_local}
use Rattle.block_laws.proofs.ConsistentSteps.{at_first_consistent}
use Rattle.block_laws.proofs.PendingJobs.{HasAsk, asks_for}
use Rattle.block_laws.proofs.MarkCells.{indices_in, at_instance, IsDoubt, StandsAlone, from_in, in_from, stand_doubt, stand_wrote, written_alone, found_alone, found_stands}
use Rattle.block_laws.proofs.MarkSteps.{Follows, job_in_hand, marks_in_hand, writes_of, steps_follow, at_first_follows}
use Rattle.block_laws.proofs.FinePosts.{fine_written}

-- AN ENTRY

-- a start-up stands behind each entry
picked_stays : (c : Configuration) (s : State) (t : Taken) (n : Next) → (picked c s t n).started ≡ s.started
picked_stays c s t (PickJob j) = refl
picked_stays c s t (BeginSweep sw) = refl
picked_stays c s t (PickMember sw id) = refl
picked_stays c s t n = refl

wrote_stays : (s : State) (i : Instance) (mark : Mark) (o : Option Job) → (wrote s i mark o).started ≡ s.started
wrote_stays s i mark None = refl
wrote_stays s i mark (Some j) = refl

-- and a Post leaves the marks
next_stays : (c : Configuration) (s : State) (r : ReqResult) (given : Option (List ℕ)) (n : Next) → ((posted_next c s r given n).started ≡ s.started) × ((posted_next c s r given n).instances ≡ s.instances)
next_stays c s r given (PostMember sw id) = (refl, refl)
next_stays c s r given (EndSweep sw) = (refl, refl)
next_stays c s r given n = (refl, refl)

pub posted_stays : (c : Configuration) (s : State) (r : ReqResult) (given : Option (List ℕ)) (o : Option Job) → ((posted c s r given o).started ≡ s.started) × ((posted c s r given o).instances ≡ s.instances)
posted_stays c s r given (Some j) = (refl, refl)
posted_stays c s r given None = next_stays c s r given (next_of c s)

pub starts : (c : Configuration) (cap : ℕ) (s : State) (e : Entry) → IsAllowed c cap s e → IsTrue (step c s e).started
starts c cap s (Ask caller r reply) allowed = (asked_leaves c s r reply).0 ∙ allowed.started
starts c cap s (Pick block kind t ops) allowed = picked_stays c s t (next_of c s) ∙ allowed.0.started
starts c cap s (Wrote i mark ops) allowed = wrote_stays s i mark s.hand ∙ allowed.0.started
starts c cap s (Post block r given refused ops) allowed = (posted_stays c s r given s.hand).0 ∙ allowed.0.started
starts c cap s (Off ops) allowed = allowed.started
starts c cap s (Found marks ops) allowed = refl

-- and stands before each but a start-up's own
pub stood : (c : Configuration) (cap : ℕ) (s : State) (e : Entry) → IsAllowed c cap s e → is_found e ≡ false → IsTrue s.started
stood c cap s (Ask caller r reply) allowed found = allowed.started
stood c cap s (Off ops) allowed found = allowed.started
stood c cap s (Found marks ops) allowed found = cc
stood c cap s e allowed found = allowed.0.started

ask_of : (h : List Entry) (j : Job) (i : Instance) (m : Mark) → HasAsk h j.number j.request j.content → i.block ≡ job_block j → mark_of j ≡ Some m → IsAskOf h j.number i.block m
ask_of h j i m (request, (caller, stands), suits) block takes = record { caller = caller; request = request; stands = stands; asks = subst (λ (id : ℕ). AsksFor request id m) (sym block) (asks_for request j.request j.content m suits takes) }

has_taken : (c : Configuration) (h : List Entry) (s : State) (j : Job) (i : Instance) (m : Mark) → s.hand ≡ Some j → Follows c h s → IsDoubt i m (job_block j) (indices_in c s.blocks (job_block j)) (mark_of j) → HasTaken c h s i m
has_taken c h s j i m is f (takes, block, index) = record {
  job = j;
  in_hand = is;
  block = sym block;
  index = subst (λ (id : ℕ). Contains (indices_in c s.blocks id) i.index) (sym block) (from_in (indices_in c s.blocks (job_block j)) i.index index);
  takes = takes;
  behind = (subst (λ (o : Option Job). IfSome o (IsJobInHand c s)) is f.sound.hand).number;
  ask = ask_of h j i m (job_in_hand h s j is f.jobs).each.0.ask block takes;
}

pick_takes : (c : Configuration) (h : List Entry) (s : State) (i : Instance) (m : Mark) (block : ℕ) (kind : JobKind) (t : Taken) (ops : ℕ) (n : Next) → MayPick c s block kind t n → Follows c h (record (picked c s t n) { count = s.count + 1; ops = ops })
    → MayStandIn (at_instance i (picked c s t n).instances) m → MayStandIn (instance_at s i) m ⊎ HasTaken c h (record (picked c s t n) { count = s.count + 1; ops = ops }) i m
pick_takes c h s i m block kind t ops (PickJob j) may f stands =
    let after = picked_job t (if is_some s.hand then 2 else 0) j in
    elim (stand_doubt i m (job_block j) (indices_in c s.blocks (job_block j)) (mark_of after) s.instances stands) [
      | inl before ↦ inl before
      | inr doubt ↦ inr (has_taken c h (record (picked c s t (PickJob j)) { count = s.count + 1; ops = ops }) after i m refl f doubt)
    ]
pick_takes c h s i m block kind t ops (PickMember sw id) may f stands =
    let j = member_job c sw id in
    let after = picked_job t (if is_some s.hand then 2 else 0) j in
    elim (stand_doubt i m (job_block j) (indices_in c (with_member s sw id).blocks (job_block j)) (mark_of after) s.instances stands) [
      | inl before ↦ inl before
      | inr doubt ↦ inr (has_taken c h (record (picked c s t (PickMember sw id)) { count = s.count + 1; ops = ops }) after i m refl f doubt)
    ]
pick_takes c h s i m block kind t ops (BeginSweep sw) may f stands = inl stands
pick_takes c h s i m block kind t ops (PostMember sw id) may f stands = absurd may
pick_takes c h s i m block kind t ops (EndSweep sw) may f stands = absurd may
pick_takes c h s i m block kind t ops Nothing may f stands = absurd may

wrote_takes : (c : Configuration) (h : List Entry) (s : State) (i w : Instance) (mark m : Mark) (o : Option Job) → s.hand ≡ o → MayWrite c s w mark o → Follows c h s → MayStandIn (at_instance i (wrote s w mark o).instances) m → MayStandIn (instance_at s i) m ⊎ ⊥
wrote_takes c h s i w mark m None is may f stands = absurd may
wrote_takes c h s i w mark m (Some j) is may f stands = stand_wrote c s.blocks j w mark i m ⊥ s.instances (writes_of c s w mark j may) (marks_in_hand c s j is f.marks) stands

abbrev MovesTo : State → Instance → Mark → List InstanceState → Type 0
MovesTo s i m xs = MayStandIn (at_instance i xs) m

-- a mark that may stand behind an entry could before, or the entry takes it
step_takes : (c : Configuration) (cap : ℕ) (h : List Entry) (s : State) (e : Entry) (i : Instance) (m : Mark) → IsTrue s.started → IsAllowed c cap s e → Follows c h s → Follows c h (step c s e)
    → MayStandIn (instance_at (step c s e) i) m → MayStandIn (instance_at s i) m ⊎ Takes c h s i m e
step_takes c cap h s (Ask caller r reply) i m on allowed f g stands = inl (subst (MovesTo s i m) (asks_are_local c s caller r reply).0 stands)
step_takes c cap h s (Pick block kind t ops) i m on allowed f g stands = pick_takes c h s i m block kind t ops (next_of c s) allowed.1 g stands
step_takes c cap h s (Wrote w mark ops) i m on allowed f g stands = wrote_takes c h s i w mark m s.hand refl allowed.1 f stands
step_takes c cap h s (Post block r given refused ops) i m on allowed f g stands = inl (subst (MovesTo s i m) (posted_stays c s r given s.hand).1 stands)
step_takes c cap h s (Off ops) i m on allowed f g stands = inl stands
step_takes c cap h s (Found marks ops) i m on allowed f g stands = found_stands marks i m ⊥ s.instances (lengths_of c) (f.instances on) allowed.stands stands

-- or brings it
step_brings : (c : Configuration) (cap : ℕ) (h : List Entry) (s : State) (e : Entry) (i : Instance) (m : Mark) → IsAllowed c cap s e → Follows c h s → Follows c h (step c s e) → MayStandIn (instance_at (step c s e) i) m → MayStandIn (instance_at s i) m ⊎ Brings c h s i m e
step_brings c cap h s (Ask caller r reply) i m allowed f g stands = step_takes c cap h s (Ask caller r reply) i m allowed.started allowed f g stands
step_brings c cap h s (Pick block kind t ops) i m allowed f g stands = step_takes c cap h s (Pick block kind t ops) i m allowed.0.started allowed f g stands
step_brings c cap h s (Wrote w mark ops) i m allowed f g stands = step_takes c cap h s (Wrote w mark ops) i m allowed.0.started allowed f g stands
step_brings c cap h s (Post block r given refused ops) i m allowed f g stands = step_takes c cap h s (Post block r given refused ops) i m allowed.0.started allowed f g stands
step_brings c cap h s (Off ops) i m allowed f g stands = step_takes c cap h s (Off ops) i m allowed.started allowed f g stands
step_brings c cap h s (Found marks ops) i m allowed f g stands = inr (sym (found_alone marks i (lengths_of c) m stands))

-- where an entry acknowledges a mark, no other may stand behind it
tells_written : (c : Configuration) (s : State) (j : Job) (m : Mark) (block : ℕ) (r : ReqResult) (given : Option (List ℕ)) (refused index : ℕ) → mark_of j ≡ Some m → IsPost c s j block (r, given) refused → Tells c s j r index → is_in j.written index ≡ true
tells_written c s j m block Fine given refused index takes post tells = fine_written c s j m block given refused index takes post tells
tells_written c s j m block RedundancyFailed given refused index takes post tells = in_from j.written index tells
tells_written c s j m block r given refused index takes post tells = absurd tells

acknowledged_alone : (c : Configuration) (cap : ℕ) (h : List Entry) (s : State) (e : Entry) (i : Instance) (a : Mark) → IsAllowed c cap s e → Follows c h s → Acknowledges c s i a e → StandsAlone (instance_at (step c s e) i) a
acknowledged_alone c cap h s (Post block r given refused ops) i a allowed f (j, is, own, takes, tells) =
    let post = subst (MayPost c s block (r, given) refused) is allowed.1 in
    subst (λ (xs : List InstanceState). StandsAlone (at_instance i xs) a) (sym (posted_stays c s r given s.hand).1)
    (written_alone c s.blocks j a i s.instances takes own (tells_written c s j a block r given refused i.index takes post tells) (marks_in_hand c s j is f.marks))
acknowledged_alone c cap h s (Found marks ops) i a allowed f is = subst (StandsAlone (instance_at (step c s (Found marks ops)) i)) is (found_alone marks i (lengths_of c))
acknowledged_alone c cap h s e i a allowed f acknowledges = absurd acknowledges

-- ALONG A HISTORY

-- these are the entries of a history from a number on
abbrev pub IsRest : List Entry → ℕ → List Entry → Type 0
IsRest h n es = (before : List Entry) × (h ≡ before ++ es) × (length before ≡ n)

pub head_of : (h : List Entry) (n : ℕ) (e : Entry) (es : List Entry) → IsRest h n (e ∷ es) → slice_get h n ≡ Some e
head_of h n e es (before, is, size) =
    let within : n < length (before ++ e ∷ es) = let l = length-append before (e ∷ es) in omega (arith, l, size) in
    rw is (slice_get-get_or (before ++ e ∷ es) n e within ∙ ap Some (get_or_at before e es e n size))

pub rest_of : (h : List Entry) (n : ℕ) (e : Entry) (es : List Entry) → IsRest h n (e ∷ es) → IsRest h (n + 1) es
rest_of h n e es (before, is, size) = (before ++ e ∷ [], is ∙ sym (append_assoc before (e ∷ []) es), let l = length-append before (e ∷ []) in omega (arith, l, size))

-- where each entry leads to the mark as a fact says, one of these did
along : (c : Configuration) (cap : ℕ) (h : List Entry) (i : Instance) (m : Mark) (On : State → Type 0) (P : State → Entry → Type 0) → ((s : State) (e : Entry) → IsAllowed c cap s e → On s → On (step c s e))
    → ((s : State) (e : Entry) → On s → IsAllowed c cap s e → Follows c h s → Follows c h (step c s e) → MayStandIn (instance_at (step c s e) i) m → MayStandIn (instance_at s i) m ⊎ P s e)
    → (s : State) (es : List Entry) → On s → IsLegalFrom c cap s es → IsRest h s.count es → Follows c h s → MayStandIn (instance_at (after_from c s es) i) m → MayStandIn (instance_at s i) m ⊎ AtOne c P s es
along c cap h i m On P stays one s [] on legal rest f stands = inl stands
along c cap h i m On P stays one s (e ∷ es) on legal rest f stands =
    let g = steps_follow c cap h s e (head_of h s.count e es rest) legal.0 f in
    elim (along c cap h i m On P stays one (step c s e) es (stays s e legal.0 on) legal.1 (rest_of h s.count e es rest) g stands) [
      | inl behind ↦ elim (one s e on legal.0 f g behind) [ inl before ↦ inl before | inr is ↦ inr (inl is) ]
      | inr later ↦ inr (inr later)
    ]

takes_along : (c : Configuration) (cap : ℕ) (h : List Entry) (s : State) (es : List Entry) (i : Instance) (m : Mark) → IsTrue s.started → IsLegalFrom c cap s es → IsRest h s.count es → Follows c h s
    → MayStandIn (instance_at (after_from c s es) i) m → MayStandIn (instance_at s i) m ⊎ IsTakenIn c h s i m es
takes_along c cap h s es i m on legal rest f stands = along c cap h i m (λ s. IsTrue s.started) (λ s e. Takes c h s i m e) (λ s e allowed was. starts c cap s e allowed) (λ s e on allowed f g behind. step_takes c cap h s e i m on allowed f g behind) s es on legal rest f stands

not_older_along : (c : Configuration) (cap : ℕ) (h : List Entry) (s : State) (es : List Entry) (i : Instance) (m : Mark) → IsLegalFrom c cap s es → IsRest h s.count es → Follows c h s → MayStandIn (instance_at (after_from c s es) i) m → IsNotOlderFrom c h s i m es
not_older_along c cap h s [] i m legal rest f stands = tt
not_older_along c cap h s (e ∷ es) i m legal rest f stands =
    let g = steps_follow c cap h s e (head_of h s.count e es rest) legal.0 f in
    let more = rest_of h s.count e es rest in (
      λ a acknowledges. elim (takes_along c cap h (step c s e) es i m (starts c cap s e legal.0) legal.1 more g stands) [
        | inl behind ↦ inl (acknowledged_alone c cap h s e i a legal.0 f acknowledges m behind)
        | inr taken ↦ inr taken
      ],
      not_older_along c cap h (step c s e) es i m legal.1 more g stands,
    )

pub marks_are_brought : MarksAreBrought
marks_are_brought c cap h i m legal stands = elim (along c cap h i m (λ s. Unit {0}) (λ s e. Brings c h s i m e) (λ s e allowed was. tt) (λ s e on allowed f g behind. step_brings c cap h s e i m allowed f g behind) at_first h tt legal ([], refl, refl) (at_first_follows c h (at_first_consistent c)) stands) [ inl none ↦ absurd none | inr brought ↦ brought ]

pub marks_are_not_older : MarksAreNotOlder
marks_are_not_older c cap h i m legal stands = not_older_along c cap h at_first h i m legal ([], refl, refl) (at_first_follows c h (at_first_consistent c)) stands

-- The driver's entries keep the state sound, whatever the device finds.
use Rattle.std.proofs.Common.{◌≡◌, ◌≢◌, ℕ, ◌+◌, ◌==◌, not, Bool, true, false, if◌then◌else◌, List, [], ◌∷◌, ◌++◌, length, map, get_or, option_to_list, option_map, IfSome, refl, sym, ap, ◌∙◌, subst, arith, Option, Some, None}
use Rattle.std.specs.List.{enumerate_from}
use Rattle.std.proofs.lemmas.List.{length-set, get_or-set_other}
use Rattle.block_machine.specs.Words.{ReqResult, BlockDesc, Configuration, Instance, Mark, Taken, TookNothing, TookContent, TookRefused, TookStale, Wrote, Post, Off, Found}
use Rattle.block_machine.specs.State.{State, BlockState, Job, Sweep}
use Rattle.block_machine.specs.Blocks.{no_block, desc_of, block_at, job_block, is_pending, keeps_ram, kind_of, names_ram, status_of}
use Rattle.block_machine.specs.Sweeps.{after_member}
use Rattle.block_machine.specs.StartUp.{started_block}
use Rattle.block_machine.specs.Steps.{step, wrote, posted, in_hand, content_after, interrupted, without_job, ended}
use Rattle.block_laws.specs.Consistent.{Each, IsConsistent, IsWaitingJob, IsJobInHand, IsPendingSweep}
use Rattle.nv_desk.specs.Sound.{IsPendingJob, IsSound}
use Rattle.block_laws.proofs.JobLists.{each_more}
use Rattle.nv_desk.proofs.Sound.{sound_same}

each_both : {X : Type 0} (P Q R : X → Type 0) (xs : List X) → ((x : X) → P x → Q x → R x) → Each P xs → Each Q xs → Each R xs
each_both P Q R [] step ps qs = tt
each_both P Q R (x ∷ xs) step ps qs = (step x ps.0 qs.0, each_both P Q R xs step ps.1 qs.1)

-- what stands for a pending job in one state stands in one with its status as before
carried : (c : Configuration) (s new : State) (x : Job) → status_of new (job_block x) ≡ status_of s (job_block x) → IsPendingJob c s x → IsPendingJob c new x
carried c s new x same h = record { pending = ap is_pending same ∙ h.pending; content = h.content; ram = h.ram }

-- the power goes off
pub sound_off : (c : Configuration) (s : State) (ops : ℕ) → IsSound c s → IsConsistent c (step c s (Off ops)) → IsSound c (step c s (Off ops))
sound_off c s ops sound consistent = sound_same c s (step c s (Off ops)) sound consistent refl refl refl

-- the job in hand wrote an instance
wrote_by : (c : Configuration) (s : State) (i : Instance) (mark : Mark) (count ops : ℕ) (o : Option Job) → s.hand ≡ o → IsSound c s
    → let new : State = record (wrote s i mark o) { count = count; ops = ops } in IsConsistent c new → IsSound c new
wrote_by c s i mark count ops None is sound consistent = sound_same c s (record s { count = count; ops = ops }) sound consistent refl refl refl
wrote_by c s i mark count ops (Some j) is sound consistent =
    let new : State = record (wrote s i mark (Some j)) { count = count; ops = ops } in
    let jobs : Each (IsPendingJob c s) (j ∷ s.waiting) = subst (λ (o : Option Job). Each (IsPendingJob c s) (option_to_list o ++ s.waiting)) is sound.jobs in
    record {
      consistent = consistent;
      places = sound.places;
      jobs = (
        record { pending = jobs.0.pending; content = jobs.0.content; ram = jobs.0.ram },
        each_more (IsPendingJob c s) (IsPendingJob c new) s.waiting (λ x h. carried c s new x refl h) jobs.1,
      );
    }

pub sound_wrote : (c : Configuration) (s : State) (i : Instance) (mark : Mark) (ops : ℕ) → IsSound c s
    → IsConsistent c (step c s (Wrote i mark ops)) → IsSound c (step c s (Wrote i mark ops))
sound_wrote c s i mark ops sound consistent = wrote_by c s i mark (s.count + 1) ops s.hand refl sound consistent

-- a job that waited comes in hand
by_test : (P : Job → Type 0) (n : ℕ) (j : Job) (js : List Job) (t : Bool) → P j → Each P (without_job n js)
    → Each P (if t then j ∷ without_job n js else without_job n js)
by_test P n j js true here rest = (here, rest)
by_test P n j js false here rest = rest

without : (P : Job → Type 0) (n : ℕ) (js : List Job) → Each P js → Each P (without_job n js)
without P n [] each = tt
without P n (j ∷ js) each = by_test P n j js (not (j.number == n)) each.0 (without P n js each.1)

waits_again : (c : Configuration) (s new : State) (o : Option Job) (js : List Job) → new.blocks ≡ s.blocks
    → Each (IsPendingJob c s) (option_to_list o) → Each (IsPendingJob c s) js → Each (IsPendingJob c new) (interrupted o js)
waits_again c s new None js same hand each = each_more (IsPendingJob c s) (IsPendingJob c new) js
    (λ x h. carried c s new x (ap (λ (bs : List BlockState). (get_or bs (job_block x) no_block).status) same) h) each
waits_again c s new (Some h) js same hand each = (
  record { pending = ap (λ (bs : List BlockState). is_pending (get_or bs (job_block h) no_block).status) same ∙ hand.0.pending; content = hand.0.content; ram = hand.0.ram },
  each_more (IsPendingJob c s) (IsPendingJob c new) js (λ x h. carried c s new x
      (ap (λ (bs : List BlockState). (get_or bs (job_block x) no_block).status) same) h) each,
)

front : (P : Job → Type 0) (xs ys : List Job) → Each P (xs ++ ys) → Each P xs × Each P ys
front P [] ys each = (tt, each)
front P (x ∷ xs) ys each = let rest = front P xs ys each.1 in ((each.0, rest.0), rest.1)

-- it had no content before where it has none behind
none_before : (content : Option (List ℕ × ℕ)) (t : Taken) → content_after content t ≡ None → content ≡ None
none_before content TookNothing none = none
none_before content (TookContent bytes store) none = cc
none_before content (TookRefused count) none = none
none_before content (TookStale asked got count) none = none

pub sound_pick : (c : Configuration) (s : State) (j : Job) (t : Taken) (count ops : ℕ)
    → let new : State = record (in_hand c s j t) { count = count; ops = ops } in IsSound c s → IsConsistent c new → IsPendingJob c s j
    → IfSome (content_after j.content t) (λ x. length x.0 ≡ (desc_of c (job_block j)).length) → IsSound c new
sound_pick c s j t count ops sound consistent pending content =
    let new : State = record (in_hand c s j t) { count = count; ops = ops } in
    let parts = front (IsPendingJob c s) (option_to_list s.hand) s.waiting sound.jobs in
    record {
      consistent = consistent;
      places = sound.places;
      jobs = (
        record { pending = pending.pending; content = content; ram = λ writes none. pending.ram writes (none_before j.content t none) },
        waits_again c s new s.hand (without_job j.number s.waiting) refl parts.0 (without (IsPendingJob c s) j.number s.waiting parts.1),
      );
    }

-- THE END OF THE JOB IN HAND

-- with whatever result and content
more_entries : (c : Configuration) (n : ℕ) (j : Job) → IsWaitingJob c n j → IsWaitingJob c (n + 1) j
more_entries c n j h = record { number = omega (arith, h.number); named = h.named; entries = h.entries }

left_by : (id : ℕ) (r : ReqResult) (sw : Sweep) (on : Bool) → sw.under_way ≡ on
    → ((after_member id r sw).number ≡ sw.number) × ((after_member id r sw).left ≡ sw.left)
left_by id r sw true is = rw is (refl, refl)
left_by id r sw false is = rw is (refl, refl)

sweep_by : (s new : State) (id : ℕ) (r : ReqResult) (o : Option Sweep) → new.count ≡ s.count + 1 → status_of new 0 ≡ status_of s 0
    → IfSome o (IsPendingSweep s) → IfSome (option_map (after_member id r) o) (IsPendingSweep new)
sweep_by s new id r None count same h = tt
sweep_by s new id r (Some sw) count same h = let e = left_by id r sw sw.under_way refl in record {
  number = omega (arith, h.number, count, e.0);
  pending = ap is_pending same ∙ h.pending;
  named = rw (e.1) h.named;
}

ended_by : (c : Configuration) (s : State) (r : ReqResult) (given : Option (List ℕ)) (ops : ℕ) (j : Job) → s.hand ≡ Some j → IsSound c s
    → Each (λ x. job_block x ≢ job_block j) s.waiting
    → IsSound c (record (posted c s r given (Some j)) { count = s.count + 1; ops = ops })
ended_by c s r given ops j is sound apart =
    let new : State = record (posted c s r given (Some j)) { count = s.count + 1; ops = ops } in
    let b = ended (desc_of c (job_block j)) (keeps_ram c (job_block j)) (kind_of j) (names_ram j.request) r given (block_at s (job_block j)) in
    let jobs : Each (IsPendingJob c s) (j ∷ s.waiting) = subst (λ (o : Option Job). Each (IsPendingJob c s) (option_to_list o ++ s.waiting)) is sound.jobs in
    let held : IsJobInHand c s j = subst (λ (o : Option Job). IfSome o (IsJobInHand c s)) is sound.consistent.hand in
    let size = length-set s.blocks (job_block j) b in
    let rest : (k : ℕ) → k ≢ job_block j → status_of new k ≡ status_of s k =
    λ k other. ap (λ (x : BlockState). x.status) (get_or-set_other s.blocks (job_block j) k b no_block other) in
    record {
      consistent = record {
        blocks = λ on. omega (arith, size, sound.consistent.blocks on);
        waiting = each_more (IsWaitingJob c s.count) (IsWaitingJob c (s.count + 1)) s.waiting (λ x h. more_entries c s.count x h) sound.consistent.waiting;
        apart = sound.consistent.apart;
        hand = tt;
        sweep = sweep_by s new (job_block j) r s.sweep refl (rest 0 (λ e. held.named (sym e))) sound.consistent.sweep;
      };
      places = λ on. size ∙ sound.places on;
      jobs = each_both (IsPendingJob c s) (λ x. job_block x ≢ job_block j) (IsPendingJob c new) s.waiting
          (λ x h other. carried c s new x (rest (job_block x) other) h) jobs.1 apart;
    }

pub sound_post : (c : Configuration) (s : State) (block refused ops : ℕ) (r : ReqResult) (given : Option (List ℕ)) (j : Job)
    → s.hand ≡ Some j → IsSound c s → Each (λ x. job_block x ≢ job_block j) s.waiting
    → IsSound c (step c s (Post block r given refused ops))
sound_post c s block refused ops r given j is sound apart =
    subst (λ o. IsSound c (record (posted c s r given o) { count = s.count + 1; ops = ops })) (sym is) (ended_by c s r given ops j is sound apart)

-- A START-UP

started_count : (c : Configuration) (marks : List (Instance × Mark)) (k : ℕ) (ds : List BlockDesc)
    → length (map (λ x. started_block c marks x.0 x.1) (enumerate_from k ds)) ≡ length ds
started_count c marks k [] = refl
started_count c marks k (d ∷ ds) = omega (arith, started_count c marks (k + 1) ds)

pub sound_found : (c : Configuration) (s : State) (marks : List (Instance × Mark)) (ops : ℕ) → IsSound c (step c s (Found marks ops))
sound_found c s marks ops = let size = started_count c marks 1 c.blocks in record {
  consistent = record { blocks = λ on. omega arith; waiting = tt; apart = tt; hand = tt; sweep = tt };
  places = λ on. omega (arith, size);
  jobs = tt;
}

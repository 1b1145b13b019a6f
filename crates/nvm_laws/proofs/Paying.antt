-- Posts that are paid for.
use Rattle.std.specs.Prelude.{unwrap_or}
use Rattle.std.specs.Option.{option_map_or}
use Rattle.std.specs.List.{Contains}
use Rattle.std.proofs.Common.{◌≡◌, ℕ, zero, suc, ◌+◌, ◌*◌, ◌⊎◌, Bool, true, false, if◌then◌else◌, List, [], ◌∷◌, ◌++◌, length, Option, Some, None, refl, sym, ap, ◌∙◌, inl, inr, arith}
use Rattle.block_machine.specs.Words.{Instance, Mark, Request, Reply, Entry, Ask, Pick, Wrote, Off, Found, Post, ReqResult, NotOk, Configuration}
use Rattle.block_machine.specs.State.{State, Job}
use Rattle.block_machine.specs.Blocks.{job_block, kind_of, rank_of}
use Rattle.block_machine.specs.StartUp.{at_first}
use Rattle.block_machine.specs.Steps.{step, after, wrote}
use Rattle.block_machine.specs.Results.{Answer, Own, own_of, result_of, open_sets, failed_set, took_none}
use Rattle.block_machine.specs.Prices.{device_tries, faults_of, price_in_faults}
use Rattle.promise_blocks.specs.Payment.{Worn, IsPaid, price_for}
use Rattle.nvm_device_laws.specs.Tries.{is_hand_urgent}
use Rattle.ram_blocks.specs.Told.{Told}
use Rattle.nv_desk_copies.specs.Posts.{IsHandedOver}
use Rattle.block_laws.proofs.FailedSets.{failed_sets_are_least}
use Rattle.block_laws.proofs.HistoryLaws.{histories_step}
use Rattle.nvm_device_laws.proofs.Payments.{no_price}
use Rattle.job_progress.proofs.Asking.{asked_hand}

-- AN ENTRY WITHOUT A PRICE
-- what has no price has none for some blocks
price_by : (b : Bool) (price : ℕ) → price ≡ 0 → (if b then price else 0) ≡ 0
price_by true price none = none
price_by false price none = refl

none_for : (of : ℕ → Bool) (c : Configuration) (s : State) (e : Entry) → price_in_faults c s e ≡ 0 → price_for of c s e ≡ 0
none_for of c s (Post block r given refused ops) none = price_by (of block) (price_in_faults c s (Post block r given refused ops)) none
none_for of c s (Ask caller r reply) none = refl
none_for of c s (Pick block kind t ops) none = refl
none_for of c s (Wrote i mark ops) none = refl
none_for of c s (Off ops) none = refl
none_for of c s (Found marks ops) none = refl

pub pays_free : (of : ℕ → Bool) (c : Configuration) (worn : Worn) (before now : ℕ) (h : List Entry) (e : Entry)
    → price_in_faults c (after c h) e ≡ 0 → IsPaid of c worn before now h → IsPaid of c worn before now (h ++ e ∷ [])
pays_free of c worn before now h e free paid =
    record { faults = paid.faults; counted = paid.counted; pay = no_price of c worn paid.faults at_first h e (none_for of c (after c h) e free) paid.pay }

-- IMMEDIATE OR NOT
-- while the job in hand is as it was
same_urgency : (c : Configuration) (s t : State) → t.hand ≡ s.hand → is_hand_urgent c s ≡ is_hand_urgent c t
same_urgency c s t same = sym (ap (λ (o : Option Job). option_map_or (λ j. (rank_of c j).immediate) o false) same)

-- nor does a request change its rank
pub asked_urgency : (c : Configuration) (h : List Entry) (caller : ℕ) (r : Request) (reply : Reply) → is_hand_urgent c (after c h) ≡ is_hand_urgent c (after c (h ++ Ask caller r reply ∷ []))
asked_urgency c h caller r reply = same_urgency c (after c h) (after c (h ++ Ask caller r reply ∷ [])) (ap (λ (t : State). t.hand) (histories_step c h (Ask caller r reply)) ∙ asked_hand c (after c h) r reply)

-- or a Wrote of it
pub wrote_urgency : (c : Configuration) (s : State) (i : Instance) (mark : Mark) (ops : ℕ) → is_hand_urgent c s ≡ is_hand_urgent c (step c s (Wrote i mark ops))
wrote_urgency c s i mark ops = by s.hand refl
  where
    by : (o : Option Job) → s.hand ≡ o → is_hand_urgent c s ≡ is_hand_urgent c (wrote s i mark o)
    by None none = refl
    by (Some j) some = ap (λ (o : Option Job). option_map_or (λ j. (rank_of c j).immediate) o false) some

-- PRICES
-- with no job in hand
pub free_alone : (c : Configuration) (s : State) (block : ℕ) (r : ReqResult) (given : Option (List ℕ)) (refused ops : ℕ) → s.hand ≡ None
    → price_in_faults c s (Post block r given refused ops) ≡ 0
free_alone c s block r given zero ops none = ap (λ (o : Option Job). option_map_or (λ j. faults_of (own_of c s (job_block j)) (r, given) j) o 0) none
free_alone c s block r given (suc n) ops none = refl

-- where each copy in was refused
pub free_refused : (c : Configuration) (s : State) (block : ℕ) (r : ReqResult) (given : Option (List ℕ)) (refused n ops : ℕ) → refused ≡ n + 1
    → price_in_faults c s (Post block r given refused ops) ≡ 0
free_refused c s block r given zero n ops is = absurd (omega (arith, is))
free_refused c s block r given (suc m) n ops is = refl

-- of a result for which nothing need have failed
pub free_unfailed : (c : Configuration) (s : State) (j : Job) (r : ReqResult) (given : Option (List ℕ)) (ops : ℕ) → s.hand ≡ Some j
    → Contains (open_sets (own_of c s (job_block j)) j (kind_of j)) [] → (r, given) ≡ result_of (own_of c s (job_block j)) j []
    → price_in_faults c s (Post (job_block j) r given 0 ops) ≡ 0
free_unfailed c s j r given ops hand at answer =
    ap (λ (o : Option Job). option_map_or (λ k. faults_of (own_of c s (job_block k)) (r, given) k) o 0) hand
    ∙ (ap (λ (a : Answer). faults_of (own_of c s (job_block j)) a j) answer ∙ nothing)
  where
    few : length (unwrap_or (failed_set (own_of c s (job_block j)) j (result_of (own_of c s (job_block j)) j [])) []) ≡ 0
    few = let most = (failed_sets_are_least c s j [] at).1 in omega (arith, most)

    nothing : faults_of (own_of c s (job_block j)) (result_of (own_of c s (job_block j)) j []) j ≡ 0
    nothing = ap (λ (n : ℕ). device_tries (own_of c s (job_block j)).desc (kind_of j) * n) few ∙ omega arith

-- and its result is 1, whatever failed
pub none_result : (o : Own) (j : Job) (failed : List ℕ) → took_none j.taken ≡ true → result_of o j failed ≡ (NotOk, None)
none_result o j failed none = rw none refl

-- the only set of a restore
pub only_none : (failed : List ℕ) → Contains ([] ∷ []) failed → failed ≡ []
only_none failed (zero, within, is) = sym is
only_none failed (suc k, within, is) = absurd (omega (arith, within))

-- WHAT WAS HANDED OVER
pub over_by : (goes : Bool) (ended posted : Answer) (refused n block : ℕ) (old new : List Told) → IsHandedOver goes ended posted refused (n + 1) block old new
    → ((posted ≡ ended) × (refused ≡ 0)) ⊎ (refused ≡ n + 1)
over_by false ended posted refused n block old new over = inl (over.0, over.1)
over_by true ended posted refused n block old new (inl same) = inl (same.0, same.1)
over_by true ended posted refused n block old new (inr each) = inr each.1

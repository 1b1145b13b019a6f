-- How the runs of callers grow.
use Rattle.std.specs.Prelude.{slice_get, take}
use Rattle.std.specs.List.{list_all}
use Rattle.std.proofs.Common.{◌≡◌, ◌==◌, ◌<◌, ◌≤◌, ◌+◌, ◌⊎◌, ℕ, zero, suc, not, Bool, true, false, List, [], ◌∷◌, ◌++◌, length, refl, sym, ap, ◌∙◌, subst, inl, inr, arith, Some, length-append, append-nil}
use Rattle.std.proofs.lemmas.Bool.{cases_Bool}
use Rattle.std.proofs.lemmas.Bool.Decides.{nat_tests}
use Rattle.std.proofs.lemmas.List.{append_assoc}
use Rattle.std.proofs.lemmas.List.Elements.{Contains-append_left}
use Rattle.std.proofs.lemmas.Option.{get_or_from_slice_get, slice_get_within}
use Rattle.std.proofs.Math.Seq.{take-suc}
use Rattle.nvm_script.specs.declared.step.Step.{Step}
use Rattle.block_machine.specs.Words.{Request, Reply, TookNothing, TookContent, TookRefused, TookStale, Entry, Ask, Pick, Wrote, Post, Off, Found, Configuration}
use Rattle.block_machine.specs.Next.{next_of}
use Rattle.block_machine.specs.Steps.{step, after}
use Rattle.script_walks.specs.Walk.{copies_next, StoresGrow}
use Rattle.script_walks.specs.Callers.{program_of, requests_of, asks_of, WaitedFor, IsInOrder}
use Rattle.script_walks.specs.Looks.{Look, AreInOrder, StepsStayMade, IsShown, CopyIsShown, CopiesAreShown}
use Rattle.script_walks.specs.Runs.{is_found, IsRun, IsNextAsk, RunsGrow}

-- STORES

pub stores_grow : StoresGrow
stores_grow c steps s [] e all one = (one, tt)
stores_grow c steps s (x ∷ es) e all one = (all.0, stores_grow c steps (step c s x) es e all.1 one)

-- LISTS

no_more : (k : ℕ) → k < 0 → ⊥
no_more k within = omega arith

pub take_more : {X : Type 0} (n : ℕ) (xs : List X) (x : X) → slice_get xs n ≡ Some x → take (suc n) xs ≡ take n xs ++ x ∷ []
take_more n xs x is = take-suc xs n x (slice_get_within xs n x is) ∙ ap (λ y. take n xs ++ y ∷ []) (get_or_from_slice_get xs n x x is)

take_front : {X : Type 0} (n : ℕ) (xs ys : List X) → n ≤ length xs → take n (xs ++ ys) ≡ take n xs
take_front zero xs ys few = refl
take_front (suc n) [] ys few = absurd (no_more n few)
take_front (suc n) (x ∷ xs) ys few = ap (λ zs. x ∷ zs) (take_front n xs ys (omega arith))

all_push : (P : Entry → Bool) (es : List Entry) (e : Entry) → list_all P es ≡ true → P e ≡ true → list_all P (es ++ e ∷ []) ≡ true
all_push P [] e all one = rw one refl
all_push P (x ∷ es) e all one = elim (cases_Bool (P x)) [
  | inl on ↦ rw on (all_push P es e (rw on at all) one)
  | inr off ↦ let no_ : false ≡ true = rw off at all in cc
]

-- REQUESTS

asks_more : (caller : ℕ) (es more : List Entry) → asks_of caller (es ++ more) ≡ asks_of caller es ++ asks_of caller more
asks_more caller [] more = refl
asks_more caller (Ask who r reply ∷ es) more = elim (cases_Bool (who == caller)) [
  | inl own ↦ rw own (ap (λ rs. r ∷ rs) (asks_more caller es more))
  | inr other ↦ rw other (asks_more caller es more)
]
asks_more caller (Pick block kind t ops ∷ es) more = asks_more caller es more
asks_more caller (Wrote i mark ops ∷ es) more = asks_more caller es more
asks_more caller (Post block r given refused ops ∷ es) more = asks_more caller es more
asks_more caller (Off ops ∷ es) more = asks_more caller es more
asks_more caller (Found marks ops ∷ es) more = asks_more caller es more

less_or_same : (k n : ℕ) → k < n + 1 → (k < n) ⊎ (k ≡ n)
less_or_same zero zero less = inr refl
less_or_same zero (suc n) less = inl (omega arith)
less_or_same (suc k) zero less = absurd (no_more k (omega arith))
less_or_same (suc k) (suc n) less = elim (less_or_same k n (omega arith)) [ inl below ↦ inl (omega arith) | inr same ↦ inr (ap (λ m. suc m) same) ]

-- WAITS

longer_by : (caller block k : ℕ) (h more : List Entry) → WaitedFor caller block k h → WaitedFor caller block k (h ++ more)
longer_by caller block k h more w = let l : length (h ++ more) ≡ length h + length more = length-append h more in let m = w.within in record {
  entries = w.entries;
  some = w.some;
  within = omega (arith, l, m);
  asked = rw (take_front w.entries h more w.within) w.asked;
  over = rw (take_front w.entries h more w.within) w.over;
}

longer : (caller block k : ℕ) (h : List Entry) (e : Entry) → WaitedFor caller block k h → WaitedFor caller block k (h ++ e ∷ [])
longer caller block k h e w = longer_by caller block k h (e ∷ []) w

pub steps_stay_made : StepsStayMade
steps_stay_made c caller done h more made = record {
  requests =
      let few = made.requests in
      let l : length (asks_of caller (h ++ more)) ≡ length (asks_of caller h) + length (asks_of caller more) = ap (λ (rs : List Request). length rs) (asks_more caller h more) ∙ length-append (asks_of caller h) (asks_of caller more) in
      omega (arith, few, l);
  waits = λ n block x at kind. longer_by caller block (length (requests_of c (take n done))) h more (made.waits n block x at kind);
}

-- a wait with k requests before it stays kept, if it is over where a further request comes behind k
waits : (caller block k : ℕ) (h : List Entry) (e : Entry) (r : Request) → asks_of caller (h ++ e ∷ []) ≡ asks_of caller h ++ r ∷ [] → (k ≡ length (asks_of caller h) → WaitedFor caller block k h)
    → (k < length (asks_of caller h) → WaitedFor caller block k h) → k < length (asks_of caller (h ++ e ∷ [])) → WaitedFor caller block k (h ++ e ∷ [])
waits caller block k h e r same over was more =
    let l : length (asks_of caller h ++ r ∷ []) ≡ length (asks_of caller h) + 1 = length-append (asks_of caller h) (r ∷ []) in
    let less : k < length (asks_of caller h ++ r ∷ []) = subst (λ (rs : List Request). k < length rs) same more in
    elim (less_or_same k (length (asks_of caller h)) (omega (arith, l, less))) [
      | inl before ↦ longer caller block k h e (was before)
      | inr now ↦ longer caller block k h e (over now)
    ]

-- THE ORDER

same_order : (c : Configuration) (steps : List Step) (caller : ℕ) (h : List Entry) (e : Entry) → asks_of caller (e ∷ []) ≡ [] → IsInOrder c caller (program_of caller steps) h → IsInOrder c caller (program_of caller steps) (h ++ e ∷ [])
same_order c steps caller h e none order =
    let same : asks_of caller (h ++ e ∷ []) ≡ asks_of caller h = asks_more caller h (e ∷ []) ∙ ap (λ rs. asks_of caller h ++ rs) none ∙ append-nil (asks_of caller h) in
    record {
      requests = subst (λ (rs : List Request). rs ≡ take (length rs) (requests_of c (program_of caller steps))) (sym same) order.requests;
      awaits = λ n block x at kind more.
          let k = length (requests_of c (take n (program_of caller steps))) in
          longer caller block k h e (order.awaits n block x at kind (subst (λ (rs : List Request). k < length rs) same more));
    }

next_order : (c : Configuration) (steps : List Step) (caller : ℕ) (x : Entry) (h : List Entry) (r : Request) (reply : Reply) (e : Entry) → asks_of caller (e ∷ []) ≡ r ∷ [] → IsNextAsk c steps (x ∷ h) caller r
    → IsInOrder c caller (program_of caller steps) (x ∷ h) → IsInOrder c caller (program_of caller steps) (x ∷ h ++ e ∷ [])
next_order c steps caller x h r reply e one ask order =
    let asks = asks_of caller (x ∷ h) in
    let reqs = requests_of c (program_of caller steps) in
    let same : asks_of caller (x ∷ h ++ e ∷ []) ≡ asks ++ r ∷ [] = asks_more caller (x ∷ h) (e ∷ []) ∙ ap (λ rs. asks ++ rs) one in
    let l : length (asks ++ r ∷ []) ≡ suc (length asks) = let m : length (asks ++ r ∷ []) ≡ length asks + 1 = length-append asks (r ∷ []) in omega (arith, m) in
    let all : asks ++ r ∷ [] ≡ take (length (asks ++ r ∷ [])) reqs = ap (λ rs. rs ++ r ∷ []) order.requests ∙ sym (take_more (length asks) reqs r ask.next) ∙ ap (λ n. take n reqs) (sym l) in
    record {
      requests = subst (λ (rs : List Request). rs ≡ take (length rs) reqs) (sym same) all;
      awaits = λ n block y at kind.
          let k = length (requests_of c (take n (program_of caller steps))) in
          waits caller block k (x ∷ h) e r same (λ now. subst (λ (m : ℕ). WaitedFor caller block m (x ∷ h)) (sym now) (ask.waited n block y at kind now)) (order.awaits n block y at kind);
    }

ask_order : (c : Configuration) (steps : List Step) (x : Entry) (h : List Entry) (who : ℕ) (r : Request) (reply : Reply) → IsNextAsk c steps (x ∷ h) who r → ((caller : ℕ) → IsInOrder c caller (program_of caller steps) (x ∷ h))
    → (caller : ℕ) → IsInOrder c caller (program_of caller steps) (x ∷ h ++ Ask who r reply ∷ [])
ask_order c steps x h who r reply ask order caller = elim (cases_Bool (who == caller)) [
  | inl own ↦
      let is : who ≡ caller = grind (arith, nat_tests, own) in
      next_order c steps caller x h r reply (Ask who r reply) (rw own refl) (subst (λ (n : ℕ). IsNextAsk c steps (x ∷ h) n r) is ask) (order caller)
  | inr other ↦ same_order c steps caller (x ∷ h) (Ask who r reply) (rw other refl) (order caller)
]

-- LOOKS

more_shown : (c : Configuration) (steps : List Step) (looks more : List Look) (before : List Entry) (block number : ℕ) → IsShown c steps looks before block number → IsShown c steps (looks ++ more) before block number
more_shown c steps looks more before block number is = record { seen = Contains-append_left looks more _ is.seen; made = is.made }

more_looks : (c : Configuration) (steps : List Step) (looks more : List Look) (before : List Entry) (e : Entry) (copies : Bool) → CopyIsShown c steps looks before e copies → CopyIsShown c steps (looks ++ more) before e copies
more_looks c steps looks more before (Pick block kind (TookStale asked got count) ops) copies is = absurd is
more_looks c steps looks more before (Pick block kind (TookContent bytes number) ops) true is = (more_shown c steps looks more before block number is.0, is.1)
more_looks c steps looks more before (Pick block kind (TookContent bytes number) ops) false is = tt
more_looks c steps looks more before (Pick block kind TookNothing ops) copies is = tt
more_looks c steps looks more before (Pick block kind (TookRefused count) ops) copies is = tt
more_looks c steps looks more before (Ask caller r reply) copies is = tt
more_looks c steps looks more before (Wrote i mark ops) copies is = tt
more_looks c steps looks more before (Post block r given refused ops) copies is = tt
more_looks c steps looks more before (Off ops) copies is = tt
more_looks c steps looks more before (Found marks ops) copies is = tt

abbrev Shows : Configuration → List Step → List Look → List Entry → Entry → Type 0
Shows c steps looks before e = CopyIsShown c steps looks before e (copies_next c (next_of c (after c before)))

copies_grow : (c : Configuration) (steps : List Step) (looks more : List Look) (before es whole : List Entry) (e : Entry) → whole ≡ before ++ es → CopiesAreShown c steps looks before es → Shows c steps (looks ++ more) whole e
    → CopiesAreShown c steps (looks ++ more) before (es ++ e ∷ [])
copies_grow c steps looks more before [] whole e is all one = (subst (λ (b : List Entry). Shows c steps (looks ++ more) b e) (is ∙ append-nil before) one, tt)
copies_grow c steps looks more before (x ∷ es) whole e is all one =
    (more_looks c steps looks more before x (copies_next c (next_of c (after c before))) all.0, copies_grow c steps looks more (before ++ x ∷ []) es whole e (is ∙ sym (append_assoc before (x ∷ []) es)) all.1 one)

ask_shows : (c : Configuration) (steps : List Step) (looks : List Look) (before : List Entry) (caller : ℕ) (r : Request) (reply : Reply) → Shows c steps looks before (Ask caller r reply)
ask_shows c steps looks before caller r reply = tt

driven : (c : Configuration) (steps : List Step) (looks more : List Look) (x : Entry) (h : List Entry) (e : Entry) → is_found e ≡ false → ((caller : ℕ) → asks_of caller (e ∷ []) ≡ []) → AreInOrder (looks ++ more) → Shows c steps (looks ++ more) (x ∷ h) e
    → IsRun c steps looks (x ∷ h) → IsRun c steps (looks ++ more) (x ∷ h ++ e ∷ [])
driven c steps looks more x h e driver none in_order shows run = record {
  one_start = all_push (λ e. not (is_found e)) h e run.one_start (ap not driver);
  order = λ caller. same_order c steps caller (x ∷ h) e (none caller) (run.order caller);
  in_order = in_order;
  shown = copies_grow c steps looks more [] (x ∷ h) (x ∷ h) e refl run.shown shows;
}

pub runs_grow : RunsGrow
runs_grow c steps looks more x h (Ask who r reply) run in_order follow = record {
  one_start = all_push (λ e. not (is_found e)) h (Ask who r reply) run.one_start refl;
  order = ask_order c steps x h who r reply follow run.order;
  in_order = in_order;
  shown = copies_grow c steps looks more [] (x ∷ h) (x ∷ h) (Ask who r reply) refl run.shown (ask_shows c steps (looks ++ more) (x ∷ h) who r reply);
}
runs_grow c steps looks more x h (Pick block kind t ops) run in_order follow = driven c steps looks more x h (Pick block kind t ops) refl (λ caller. refl) in_order follow run
runs_grow c steps looks more x h (Wrote i mark ops) run in_order follow = driven c steps looks more x h (Wrote i mark ops) refl (λ caller. refl) in_order follow run
runs_grow c steps looks more x h (Post block r given refused ops) run in_order follow = driven c steps looks more x h (Post block r given refused ops) refl (λ caller. refl) in_order follow run
runs_grow c steps looks more x h (Off ops) run in_order follow = driven c steps looks more x h (Off ops) refl (λ caller. refl) in_order follow run
runs_grow c steps looks more x h (Found marks ops) run in_order follow = absurd follow

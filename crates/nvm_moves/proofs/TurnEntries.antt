-- The entry of a driver's turn, if it adds one.
use Rattle.nvm_moves.proofs.Common.{IfSome, append-nil, ◌≡◌, ◌⊎◌, inl, inr, ℕ, true, false, List, [], Option, Some, None, refl, sym, ap, ◌∙◌, ops_of, Stand, Open, Closed, JobResult, JobOk, Mark, Entry, Ask, Found, Configuration, State, step, after_from, DeskState, state_of, settled_by, wrote_by, AddsBy, Turned, is_posted, asked_by, histories_go_on, entry_list, is_asked, is_found, urgent_block, is_of_jobs, jobs_keep_power, with_more}
use Rattle.nvm_core.specs.memif.Told as device
use Rattle.nvm_core.specs.nvm_laws.declared.turned.Turned.TheVariants as turned
use Rattle.promise_run.specs.Turns.{is_off}

-- an entry of a job, or an Off, with the operations so far
pub record IsOfTurn (ops : ℕ) (e : Entry) : Type 0 where
  pub told : ops_of e ≡ Some ops
  pub kind : (is_of_jobs e ≡ true) ⊎ (is_off (Some e) ≡ true)

-- at most one entry more, of a turn
pub record AddsOne (ops : ℕ) (old new : DeskState) (e : Option Entry) : Type 0 where
  pub adds : new ≡ with_more old (entry_list e)
  pub of : IfSome e (IsOfTurn ops)

-- WHAT IT ISN'T
no_ask : (e : Entry) → (is_of_jobs e ≡ true) ⊎ (is_off (Some e) ≡ true) → is_asked (Some e) ≡ false
no_ask (Ask caller r reply) (inl is) = cc is
no_ask (Ask caller r reply) (inr is) = cc is
no_ask e kind = refl

no_start : (e : Entry) → (is_of_jobs e ≡ true) ⊎ (is_off (Some e) ≡ true) → is_found (Some e) ≡ false
no_start (Found marks ops) (inl is) = cc is
no_start (Found marks ops) (inr is) = cc is
no_start e kind = refl

pub isnt_asked : (ops : ℕ) (e : Entry) → IsOfTurn ops e → is_asked (Some e) ≡ false
isnt_asked ops e of = no_ask e of.kind

pub isnt_found : (ops : ℕ) (e : Option Entry) → IfSome e (IsOfTurn ops) → is_found e ≡ false
isnt_found ops None of = refl
isnt_found ops (Some e) of = no_start e of.kind

never_asks : (c : Configuration) (s : State) (e : Entry) (id : ℕ) → is_asked (Some e) ≡ false → urgent_block c s (Some e) ≡ Some id → ⊥
never_asks c s (Ask caller r reply) id none is = cc none
never_asks c s e id none is = let P : ⊥ = cc is in P

-- an urgent write is accepted by a request alone
pub asks_urgent : (c : Configuration) (s : State) (e : Option Entry) (id : ℕ) → is_asked e ≡ false → urgent_block c s e ≡ Some id → ⊥
asks_urgent c s None id none is = let P : ⊥ = cc is in P
asks_urgent c s (Some e) id none is = never_asks c s e id none is

-- THE STATE BEHIND IT
pub state_behind : (ops : ℕ) (old new : DeskState) (e : Option Entry) → AddsOne ops old new e → state_of new ≡ after_from old.config (state_of old) (entry_list e)
state_behind ops old new e one = ap (λ (d : DeskState). state_of d) one.adds ∙ histories_go_on old.config _ old.entries (entry_list e)

on_by : (c : Configuration) (s : State) (e : Entry) → (is_of_jobs e ≡ true) ⊎ (is_off (Some e) ≡ true) → is_off (Some e) ≡ false → (step c s e).off ≡ s.off
on_by c s e (inl jobs) on = (jobs_keep_power c s e jobs).off
on_by c s e (inr off) on = absurd (let P : true ≡ false = sym off ∙ on in cc P)

-- the power stays on through any entry of a turn but an Off
pub on_behind : (ops : ℕ) (old new : DeskState) (e : Option Entry) → AddsOne ops old new e → is_off e ≡ false → (state_of new).off ≡ (state_of old).off
on_behind ops old new None one on = ap (λ (s : State). s.off) (state_behind ops old new None one)
on_behind ops old new (Some e) one on = ap (λ (s : State). s.off) (state_behind ops old new (Some e) one) ∙ on_by old.config (state_of old) e one.of.kind on

pub none_more : (desk : DeskState) → desk ≡ with_more desk []
none_more desk = ap (λ (h : List Entry). record desk { entries = h }) (sym (append-nil desk.entries))

none_added : (ops : ℕ) (old new : DeskState) → new ≡ old → AddsOne ops old new None
none_added ops old new same = record { adds = same ∙ none_more old; of = tt }

-- THE DEVICE'S TURN
by_one : (ops : ℕ) (o : Option Entry) (old new : DeskState) → IfSome o (IsOfTurn ops) → AddsBy o old new → AddsOne ops old new o
by_one ops None old new of is = none_added ops old new is
by_one ops (Some e) old new of is = record { adds = is.0; of = of }

wrote_of : (number : ℕ) (mark : Option Mark) (ops : ℕ) → IfSome (wrote_by number mark ops) (IsOfTurn ops)
wrote_of number None ops = tt
wrote_of number (Some mark) ops = record { told = refl; kind = inl refl }

ended_of : (j : device.Job) (r : JobResult) (given : List ℕ) (ops : ℕ) → IfSome (settled_by (Open j) (Closed r given) ops) (IsOfTurn ops)
ended_of j JobOk given ops = wrote_of j.number j.mark ops
ended_of j r given ops = tt

settled_of : (old new : Stand) (ops : ℕ) → IfSome (settled_by old new ops) (IsOfTurn ops)
settled_of (Open j) (Closed r given) ops = ended_of j r given ops
settled_of old new ops = tt

asked_of : (answer : Turned) (old new : Stand) (ops : ℕ) → IfSome (asked_by answer old new ops) (IsOfTurn ops)
asked_of turned.Off old new ops = record { told = refl; kind = inr refl }
asked_of answer old new ops = settled_of old new ops

pub device_adds_one : (answer : Turned) (a b : Stand) (ops : ℕ) (old new : DeskState) → AddsBy (asked_by answer a b ops) old new → AddsOne ops old new (asked_by answer a b ops)
device_adds_one answer a b ops old new adds = by_one ops (asked_by answer a b ops) old new (asked_of answer a b ops) adds

-- none is a Post
wrote_posts : (number : ℕ) (mark : Option Mark) (ops : ℕ) → is_posted (wrote_by number mark ops) ≡ false
wrote_posts number None ops = refl
wrote_posts number (Some mark) ops = refl

settled_posts : (old new : Stand) (ops : ℕ) → is_posted (settled_by old new ops) ≡ false
settled_posts (Open j) (Closed JobOk given) ops = wrote_posts j.number j.mark ops
settled_posts old new ops = refl

pub asked_posts : (answer : Turned) (old new : Stand) (ops : ℕ) → is_posted (asked_by answer old new ops) ≡ false
asked_posts turned.Off old new ops = refl
asked_posts answer old new ops = settled_posts old new ops

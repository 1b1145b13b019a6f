-- An urgent write, as it is accepted and as it is posted.
use Rattle.std.specs.Prelude.{IsTrue, not, ◌&&◌, if◌then◌else◌}
use Rattle.std.specs.List.{list_all}
use Rattle.std.proofs.Common.{◌≡◌, ◌≢◌, ℕ, Bool, true, false, List, Option, Some, None, refl, sym, ap, ◌∙◌}
use Rattle.std.proofs.lemmas.Bool.{and_parts, eq-eqb, ne_eqb}
use Rattle.block_machine.specs.Words.{ReqResult, Request, Write, Accepted, Entry, Ask, Pick, Wrote, Post, Off, Found, Configuration}
use Rattle.block_machine.specs.State.{State, jobs_of}
use Rattle.block_machine.specs.Blocks.{asked_block, is_immediate, rank_of}
use Rattle.promise_run.specs.Turns.{posts, posts_other, urgent_block}

-- A REQUEST THAT IS ACCEPTED
pub record IsUrgentAsk (c : Configuration) (s : State) (e : Entry) (id : ℕ) : Type 0 where
  pub caller : ℕ
  pub content : Option (List ℕ)
  pub store : ℕ
  pub entry : e ≡ Ask caller (Write id content store) Accepted
  pub immediate : is_immediate c (Write id content store) ≡ true
  pub alone : IsTrue (list_all (λ j. not (rank_of c j).immediate) (jobs_of s))
  pub on : s.off ≡ false

pub not_true : (t : Bool) → not t ≡ true → t ≡ false
not_true true is = cc is
not_true false is = refl

either : (t : Bool) (a id : ℕ) → (if t then Some a else None) ≡ Some id → (t ≡ true) × (a ≡ id)
either true a id is = (refl, cc is)
either false a id is = absurd (let P : ⊥ = cc is in P)

write_is : (c : Configuration) (r : Request) (id : ℕ) → is_immediate c r ≡ true → asked_block r ≡ id → (content : Option (List ℕ)) × (store : ℕ) × (r ≡ Write id content store)
write_is c (Write block content store) id immediate same = (content, store, ap (λ (n : ℕ). Write n content store) same)
write_is c r id immediate same = absurd (let P : ⊥ = cc immediate in P)

accepted_is : (c : Configuration) (s : State) (caller : ℕ) (r : Request) (id : ℕ) → urgent_block c s (Some (Ask caller r Accepted)) ≡ Some id → IsUrgentAsk c s (Ask caller r Accepted) id
accepted_is c s caller r id is =
    let (all, same) = either (not s.off && (is_immediate c r && list_all (λ j. not (rank_of c j).immediate) (jobs_of s))) (asked_block r) id is in
    let (on, more) = and_parts (not s.off) (is_immediate c r && list_all (λ j. not (rank_of c j).immediate) (jobs_of s)) all in
    let (immediate, alone) = and_parts (is_immediate c r) (list_all (λ j. not (rank_of c j).immediate) (jobs_of s)) more in
    let (content, store, write) = write_is c r id immediate same in
    record {
      caller = caller;
      content = content;
      store = store;
      entry = ap (λ (x : Request). Ask caller x Accepted) write;
      immediate = ap (is_immediate c) (sym write) ∙ immediate;
      alone = alone;
      on = not_true s.off on;
    }

pub urgent_is : (c : Configuration) (s : State) (e : Entry) (id : ℕ) → urgent_block c s (Some e) ≡ Some id → IsUrgentAsk c s e id
urgent_is c s (Ask caller r Accepted) id is = accepted_is c s caller r id is
urgent_is c s (Ask caller r reply) id is = absurd (let P : ⊥ = cc is in P)
urgent_is c s (Pick block kind t ops) id is = absurd (let P : ⊥ = cc is in P)
urgent_is c s (Wrote i mark ops) id is = absurd (let P : ⊥ = cc is in P)
urgent_is c s (Post block r given refused ops) id is = absurd (let P : ⊥ = cc is in P)
urgent_is c s (Off ops) id is = absurd (let P : ⊥ = cc is in P)
urgent_is c s (Found marks ops) id is = absurd (let P : ⊥ = cc is in P)

-- A POST
pub posts_own : (e : Option Entry) (id refused ops : ℕ) (r : ReqResult) (given : Option (List ℕ)) → e ≡ Some (Post id r given refused ops) → IsTrue (posts id e)
posts_own e id refused ops r given is = ap (posts id) is ∙ eq-eqb id id refl

pub posts_another : (e : Option Entry) (block id refused ops : ℕ) (r : ReqResult) (given : Option (List ℕ)) → e ≡ Some (Post block r given refused ops) → block ≢ id → IsTrue (posts_other id e)
posts_another e block id refused ops r given is isnt = ap (posts_other id) is ∙ ap not (ne_eqb block id isnt)

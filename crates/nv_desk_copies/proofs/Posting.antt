-- A Post, by the machine.
use Rattle.std.proofs.Common.{◌≡◌, ◌⊎◌, ℕ, ◌+◌, ◌==◌, ◌&&◌, Bool, true, false, List, [], ◌∷◌, ◌++◌, is_some, inl, inr, refl, sym, ap, ◌∙◌, subst, if◌then◌else◌, Option, Some, None, IsSome}
use Rattle.std.specs.Option.{option_map_or}
use Rattle.std.proofs.lemmas.Bool.{and_parts, eqb-true}
use Rattle.block_machine.specs.Words.{ReqResult, JobKind, ReadJob, NotOk, GivenFrom, FromDevice, BlockDesc, Configuration, Post}
use Rattle.block_machine.specs.State.{State, Job, Sweep}
use Rattle.block_machine.specs.Blocks.{desc_of, block_at, is_synchronized, job_block, kind_of, names_ram}
use Rattle.block_machine.specs.ResultTable.{table}
use Rattle.block_machine.specs.Results.{Answer, Own, own_of, outcomes_of, device_content, with_content, given_by, result_of, failed_set, took_none, checks_id, checked_id, unpicked_result}
use Rattle.block_machine.specs.Next.{Next, PostMember, next_of}
use Rattle.block_machine.specs.Legal.{IsDriving, MayPost, MayPostNext, ByTable, IsCopyRefused, IsAllowed}
use Rattle.ram_blocks.specs.Told.{Told}
use Rattle.ram_blocks.specs.Tries.{OthersStay}
use Rattle.nv_desk.specs.Desk.{DeskState, state_of}
use Rattle.nv_desk.specs.Driver.{block_now}
use Rattle.block_laws.proofs.FailedSets.{failed_sets_are_least}
use Rattle.nv_desk_copies.specs.Posts.{IsProgramEnd, IsEndOf, IsPosted, EndsAreTheMachines, given_from, answer_of, goes_over, IsHandedOver}
use Rattle.nv_desk_copies.proofs.Offers.{offers}
use Rattle.nv_desk_copies.proofs.Taking.{posts_of}

-- WHAT A JOB ENDS WITH

given_is : (o : Own) (content failed : List ℕ) (source : GivenFrom) → (source ≡ FromDevice → Some content ≡ device_content o.marks failed)
    → given_from o.desc o.state.index content source ≡ given_by o failed source
given_is o content failed FromDevice gives = gives refl
given_is o content failed source gives = refl

same_end : (took checks : Bool) (id : Option (List ℕ)) (a b : Answer) → (took ≡ false → a ≡ b)
    → (let none : Answer = (NotOk, None) in if took then none else (if checks then checked_id id a else a))
    ≡ (let none : Answer = (NotOk, None) in if took then none else (if checks then checked_id id b else b))
same_end true checks id a b same = refl
same_end false checks id a b same = ap (λ (x : Answer). if checks then checked_id id x else x) (same refl)

pub ends_are_the_machines : EndsAreTheMachines
ends_are_the_machines c s j r source content failed end =
    let o = own_of c s (job_block j) in
    same_end (took_none j.taken) (checks_id j (kind_of j)) o.desc.defaults (r, given_from o.desc o.state.index content source)
    (with_content o failed (table (is_some o.desc.defaults) (kind_of j) (outcomes_of (kind_of j) o.marks failed)))
    (λ got. ap (λ (x : Option (List ℕ)). (r, x)) (given_is o content failed source (end.gives got))
    ∙ ap (with_content o failed) (end.ends got))

-- what is posted is as the machine has it, or each copy of what it offers was refused
posts_by : (d : BlockDesc) (ram : Bool) (offered : Option (List ℕ)) (Keeps : Answer → Type 0) (ended posted : Answer) (refused block : ℕ) (before after : List Told)
    (goes : Bool) → goes_over d ram ended.1 ≡ goes → Keeps ended → (is_some ended.1 ≡ true → is_some offered ≡ true)
    → IsHandedOver goes ended posted refused (d.repeats + 1) block before after
    → ByTable refused (Keeps posted) ⊎ IsCopyRefused d ram offered posted refused
posts_by d ram offered Keeps ended posted refused block before after false is keeps so h = inl (h.1, subst Keeps (sym h.0) keeps)
posts_by d ram offered Keeps ended posted refused block before after true is keeps so (inl h) = inl (h.1, subst Keeps (sym h.0) keeps)
posts_by d ram offered Keeps ended posted refused block before after true is keeps so (inr h) =
    let (synchronized, something) = and_parts (ram && is_synchronized d.ram) (is_some ended.1) is in
    inr (record { synchronized = synchronized; something = so something; fails = h.0; each_try = h.1 })

pub job_posts : (c : Configuration) (cap : ℕ) (s : State) (j : Job) (r : ReqResult) (source : GivenFrom)
    (content failed : List ℕ) (posted : Answer) (refused ops : ℕ) (before after : List Told) → IsDriving s ops → s.hand ≡ Some j
    → IsProgramEnd c s j r source content failed
    → IsHandedOver (goes_over (desc_of c (job_block j)) (names_ram j.request) (answer_of c s j r source content).1) (answer_of c s j r source content)
    posted refused ((desc_of c (job_block j)).repeats + 1) (job_block j) before after
    → IsAllowed c cap s (Post (job_block j) posted.0 posted.1 refused ops)
job_posts c cap s j r source content failed posted refused ops before after driving hand end over =
    let o = own_of c s (job_block j) in
    let ended = answer_of c s j r source content in
    let is : ended ≡ result_of o j failed = ends_are_the_machines c s j r source content failed end in
    let explained = (failed_sets_are_least c s j failed end.open_set).0 in (
      driving,
      subst (λ (h : Option Job). MayPost c s (job_block j) (posted.0, posted.1) refused h) (sym hand)
          (record {
            same_block = refl;
            results = posts_by (desc_of c (job_block j)) (names_ram j.request) (result_of o j []).1 (λ a. IsSome (failed_set o j a)) ended posted refused
                (job_block j) before after (goes_over (desc_of c (job_block j)) (names_ram j.request) ended.1) refl
                (subst (λ (a : Answer). IsSome (failed_set o j a)) (sym is) explained)
                (λ h. offers o j failed (subst (λ (a : Answer). is_some a.1 ≡ true) is h)) over;
          }),
    )

pub member_posts : (c : Configuration) (cap : ℕ) (s : State) (sw : Sweep) (id : ℕ) (posted : Answer) (refused ops : ℕ) (before after : List Told)
    → IsDriving s ops → next_of c s ≡ PostMember sw id
    → IsHandedOver (goes_over (desc_of c id) true (unpicked_result (own_of c s id) sw.writes).1) (unpicked_result (own_of c s id) sw.writes) posted refused
    ((desc_of c id).repeats + 1) id before after
    → IsAllowed c cap s (Post id posted.0 posted.1 refused ops)
member_posts c cap s sw id posted refused ops before after driving is over =
    let ended = unpicked_result (own_of c s id) sw.writes in (
      driving,
      subst (λ (h : Option Job). MayPost c s id (posted.0, posted.1) refused h) (sym (posts_of c s sw id is).0)
          (subst (λ (n : Next). MayPostNext c s id (posted.0, posted.1) refused n) (sym is)
          (record {
            same_block = refl;
            results = posts_by (desc_of c id) true ended.1 (λ a. a ≡ ended) ended posted refused id before after
                (goes_over (desc_of c id) true ended.1) refl refl (λ h. h) over;
          })),
    )

-- THE JOB IN HAND

checks_by : (j : Job) (kind : JobKind) → checks_id j kind ≡ true → (job_block j == 1) ≡ true
checks_by j ReadJob h = (and_parts j.member (job_block j == 1) h).1
checks_by j kind h = cc

pub checked_answer : (c : Configuration) (s : State) (j : Job) (r : ReqResult) (source : GivenFrom) (content : List ℕ) (given : Option (List ℕ)) (is : Answer)
    → took_none j.taken ≡ false → checks_id j (kind_of j) ≡ true
    → given ≡ given_from (desc_of c (job_block j)) (block_at s (job_block j)).index content source
    → is ≡ checked_id (desc_of c 1).defaults (r, given) → is ≡ answer_of c s j r source content
checked_answer c s j r source content given is took checks from e =
    let block : job_block j ≡ 1 = eqb-true (job_block j) 1 (checks_by j (kind_of j) checks) in
    e ∙ ap (λ (x : Option (List ℕ)). checked_id (desc_of c 1).defaults (r, x)) from
    ∙ ap (λ (n : ℕ). checked_id (desc_of c n).defaults (r, given_from (desc_of c (job_block j)) (block_at s (job_block j)).index content source)) (sym block)
    ∙ rw (took, checks) refl

pub same_job : (x y : Job) → Some x ≡ Some y → x ≡ y
same_job x y e = cc

pub posted : (old new : DeskState) (j : Job) (r : ReqResult) (source : GivenFrom) (content : List ℕ) (ops : ℕ)
    (before after : List Told) (block : ℕ) (ram : Bool) (ended answer : Answer) (refused : ℕ) → (state_of old).hand ≡ Some j → block ≡ job_block j
    → ram ≡ names_ram j.request → ended ≡ answer_of old.config (state_of old) j r source content
    → IsHandedOver (goes_over (desc_of old.config block) ram ended.1) ended answer refused ((desc_of old.config block).repeats + 1) block before after
    → OthersStay block before after → new ≡ record old { entries = old.entries ++ Post (block_now (state_of old)) answer.0 answer.1 refused ops ∷ [] }
    → IsPosted (IsEndOf old j r source content ops) (job_block j) (names_ram j.request) (answer_of old.config (state_of old) j r source content) ops old new before after
posted old new j r source content ops before after block ram ended answer refused hand at names is over others adds =
    let c = old.config in
    let here : IsHandedOver (goes_over (desc_of c (job_block j)) ram ended.1) ended answer refused ((desc_of c (job_block j)).repeats + 1) (job_block j) before after
    = subst (λ (n : ℕ). IsHandedOver (goes_over (desc_of c n) ram ended.1) ended answer refused ((desc_of c n).repeats + 1) n before after) at over in
    let named : IsHandedOver (goes_over (desc_of c (job_block j)) (names_ram j.request) ended.1) ended answer refused ((desc_of c (job_block j)).repeats + 1) (job_block j) before after
    = subst (λ (t : Bool). IsHandedOver (goes_over (desc_of c (job_block j)) t ended.1) ended answer refused ((desc_of c (job_block j)).repeats + 1) (job_block j) before after) names here in
    let all = subst (λ (a : Answer). IsHandedOver (goes_over (desc_of c (job_block j)) (names_ram j.request) a.1) a answer refused
    ((desc_of c (job_block j)).repeats + 1) (job_block j) before after) is named in
    record {
      result = answer.0;
      given = answer.1;
      refused = refused;
      adds = adds ∙ ap (λ (o : Option Job). record old { entries = old.entries ++ Post (option_map_or job_block o 0) answer.0 answer.1 refused ops ∷ [] }) hand;
      over = all;
      others = subst (λ (n : ℕ). OthersStay n before after) at others;
      allowed = λ end. job_posts c old.cap (state_of old) j r source content end.failed answer refused ops before after end.driving hand end.ended all;
    }

-- A MEMBER

pub as_ended : (d : BlockDesc) (ended other answer : Answer) (refused block : ℕ) (before after : List Told) → ended ≡ other
    → IsHandedOver (goes_over d true ended.1) ended answer refused (d.repeats + 1) block before after
    → IsHandedOver (goes_over d true other.1) other answer refused (d.repeats + 1) block before after
as_ended d ended other answer refused block before after is over =
    subst (λ (a : Answer). IsHandedOver (goes_over d true a.1) a answer refused (d.repeats + 1) block before after) is over

pub member_posted : (old new : DeskState) (sw : Sweep) (id : ℕ) (ops : ℕ) (before after : List Told) (answer : Answer) (refused : ℕ)
    → IsDriving (state_of old) ops → next_of old.config (state_of old) ≡ PostMember sw id
    → IsHandedOver (goes_over (desc_of old.config id) true (unpicked_result (own_of old.config (state_of old) id) sw.writes).1)
    (unpicked_result (own_of old.config (state_of old) id) sw.writes) answer refused ((desc_of old.config id).repeats + 1) id before after
    → OthersStay id before after → new ≡ record old { entries = old.entries ++ Post id answer.0 answer.1 refused ops ∷ [] }
    → IsPosted (Unit {0}) id true (unpicked_result (own_of old.config (state_of old) id) sw.writes) ops old new before after
member_posted old new sw id ops before after answer refused driving is over others adds = record {
  result = answer.0;
  given = answer.1;
  refused = refused;
  adds = adds;
  over = over;
  others = others;
  allowed = λ u. member_posts old.config old.cap (state_of old) sw id answer refused ops before after driving is over;
}

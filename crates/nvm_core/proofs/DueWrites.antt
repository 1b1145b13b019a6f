-- An urgent write that is due, through a turn.
use Rattle.std.specs.Prelude.{IfSome}
use Rattle.std.proofs.Common.{◌≡◌, ◌≢◌, ◌⊎◌, inl, inr, ℕ, ◌+◌, ◌-◌, ◌==◌, ◌<◌, ◌≤◌, Bool, true, false, List, [], ◌∷◌, ◌++◌, Option, Some, None, refl, sym, ap, ◌∙◌, subst, arith}
use Rattle.std.proofs.lemmas.Bool.{cases_Bool, eqb-true, eqb-false}
use Rattle.nvm_laws.specs.memif.Told.{DeviceTold, is_open}
use Rattle.nvm_laws.specs.memif.Clock.{Clock}
use Rattle.nvm_laws.specs.memif.Calls.{InOrder}
use Rattle.nvm_laws.specs.block_machine.Words.{ReqResult, Entry, Post, Configuration}
use Rattle.nvm_laws.specs.block_machine.State.{Job}
use Rattle.nvm_laws.specs.block_machine.Blocks.{job_block}
use Rattle.nvm_laws.specs.block_machine.Next.{next_in}
use Rattle.nvm_laws.specs.block_machine.StartUp.{at_first}
use Rattle.nvm_laws.specs.block_machine.Steps.{after, after_from}
use Rattle.nvm_laws.specs.promise_blocks.Moves.{entry_list}
use Rattle.nvm_laws.specs.ram_blocks.Told.{Told}
use Rattle.nvm_laws.specs.nv_desk.Desk.{DeskState, state_of}
use Rattle.nvm_laws.specs.job_progress.Hand.{HandState, is_finished}
use Rattle.nvm_laws.specs.job_progress.JobInHand.{IsInHand, IsPaired}
use Rattle.nvm_laws.specs.Ties.{IsTied}
use Rattle.nvm_laws.specs.Turns.{hand_in}
use Rattle.nvm_laws.specs.AtDevice.{GoesOn}
use Rattle.nvm_laws.specs.declared.turned.Turned.{Turned}
use Rattle.nvm_laws.specs.declared.turned.Turned.TheVariants as turned
use Rattle.nvm_laws.specs.declared.turned.Act.TheVariants.{Ended}
use Rattle.nvm_laws.specs.Due.{StackNow, IsDue, IsDueNext, IsNearer, PostsDue, post_first}
use Rattle.nvm_laws.proofs.block_laws.HistoryLaws.{histories_go_on}
use Rattle.nvm_laws.proofs.DueTurning.{freed, never_picked, pick_due}
use Rattle.nvm_core.specs.Stack.{StackState, PowersOff}
use Rattle.nvm_core.specs.Turns as core
use Rattle.nvm_core.specs.Turns.{IsFirstHalf}
use Rattle.nvm_core.specs.Due.{now_of}
use Rattle.nvm_core.specs.JobNumbers.{IsOfBlock}
use Rattle.nvm_core.specs.DueWrites.{IsDueFor, IsPostOf, IsServedFor, free_turns}
use Rattle.nvm_core.proofs.JobNumbers.{stays_of_block}

-- TURNS
pub more_due : (number a b : ℕ) (now : StackNow) → a ≤ b → IsDue number a now → IsDue number b now
more_due number a b now less (inl due) = inl (record {
  job = due.job;
  is = due.is;
  earlier = due.earlier;
  next = due.next;
  standard = due.standard;
  ready = due.ready;
  within = let within = due.within in omega (arith, less, within);
})
more_due number a b now less (inr due) = inr (record {
  job = due.job;
  is = due.is;
  held = due.held;
  driver = due.driver;
  drives = due.drives;
  ready = due.ready;
  within = let (w, told, soon) = due.within in (w, told, omega (arith, less, soon));
})

pub takes_one : (number turns : ℕ) (now : StackNow) → IsDue number turns now → 1 ≤ turns
takes_one number turns now (inl due) = let within = due.within in omega (arith, within)
takes_one number turns now (inr due) = let (w, told, soon) = due.within in omega (arith, soon)

-- ENTRIES
entry_in : (e : Option Entry) (x : Entry) → x ∷ [] ≡ entry_list e → e ≡ Some x
entry_in None x is = cc is
entry_in (Some e) x is = let same : x ≡ e = cc is in ap (λ (y : Entry). Some y) (sym same)

pub added_is : (h : List Entry) (e : Option Entry) (x : Entry) → h ++ x ∷ [] ≡ h ++ entry_list e → e ≡ Some x
added_is [] e x is = entry_in e x is
added_is (y ∷ h) e x is = added_is h e x (cc is)

-- a Post is of this block or of another
posts_one : (e : Option Entry) (block id : ℕ) → IsPostOf block e → IsPostOf id e ⊎ ((other : ℕ) × (other ≢ id) × IsPostOf other e)
posts_one e block id post = elim (cases_Bool (block == id)) [
  | inl own ↦ inl (subst (λ (n : ℕ). IsPostOf n e) (eqb-true block id own) post)
  | inr other ↦ inr (block, eqb-false block id other, post)
]

-- the state behind one
pub state_behind : (old new : DeskState) (e : Option Entry) → new.config ≡ old.config → new.entries ≡ old.entries ++ entry_list e → state_of new ≡ after_from old.config (state_of old) (entry_list e)
state_behind old new e config adds = ap (λ (c : Configuration). after c new.entries) config ∙ ap (after old.config) adds ∙ histories_go_on old.config at_first old.entries (entry_list e)

pub of_block_behind : (old new : DeskState) (e : Option Entry) → new.config ≡ old.config → new.entries ≡ old.entries ++ entry_list e → (number id : ℕ) → IsOfBlock number id (state_of old) → IsOfBlock number id (state_of new)
of_block_behind old new e config adds number id of = subst (IsOfBlock number id) (sym (state_behind old new e config adds)) (stays_of_block old.config (state_of old) e number id of)

-- THE JOB IN HAND
-- a job that is finished has its Post first
first_or : (hand : Option HandState) → (post_first hand ≡ 0) ⊎ ((h : HandState) × (hand ≡ Some h) × (is_finished h.step ≡ true))
first_or None = inl refl
first_or (Some h) = elim (cases_Bool (is_finished h.step)) [ inl on ↦ inr (h, refl, on) | inr off ↦ inl (rw off refl) ]

first_one : (hand : Option HandState) (h : HandState) → hand ≡ Some h → is_finished h.step ≡ true → post_first hand ≡ 1
first_one hand h is finished = ap post_first is ∙ (rw finished refl)

true_false : {t : Bool} → t ≡ true → t ≡ false → ⊥
true_false {t} on off = never (sym on ∙ off)
  where
    never : true ≡ false → ⊥
    never e = cc

some_none : {j : Job} {o : Option Job} → o ≡ Some j → o ≡ None → ⊥
some_none {j} {o} some none = never (sym some ∙ none)
  where
    never : Some j ≡ None → ⊥
    never e = cc

-- BEHIND AN ENTRY
module _ (old new : StackNow) (e : Option Entry) (config : new.desk.config ≡ old.desk.config) (adds : new.desk.entries ≡ old.desk.entries ++ entry_list e) (on : (state_of new.desk).off ≡ false) (id : ℕ) where
  pub still_due : (number : ℕ) (one : Bool) (turns : ℕ) → IsOfBlock number id (state_of old.desk) → IsDue number turns new → IsDueFor id one turns new
  still_due number one turns of due = record {
    number = number;
    due = more_due number turns (turns + free_turns one new.hand) new (omega arith) due;
    block = of_block_behind old.desk new.desk e config adds number id of;
    on = on;
  }

  -- it is posted
  pub post_is_of : (number : ℕ) → IsOfBlock number id (state_of old.desk) → PostsDue number old.desk new.desk → IsPostOf id e
  post_is_of number of post =
      let entries = ap (λ (x : DeskState). x.entries) post.adds in
      let own = subst (λ (o : Option Job). IfSome o (λ j. j.number ≡ number → job_block j ≡ id)) post.held of.jobs.hand in
      let is = added_is old.desk.entries e _ (sym entries ∙ adds) in
      subst (λ (n : ℕ). IsPostOf n e) (own post.accepted) (record { result = post.result; given = post.given; refused = post.refused; ops = post.ops; is = is })

  -- it comes nearer
  pub nearer_for : (number : ℕ) (one : Bool) (turns : ℕ) → IsOfBlock number id (state_of old.desk) → IsNearer number turns new → (1 < turns) × IsDueFor id one (turns - 1) new
  nearer_for number one turns of (less, more, due) =
      let some = takes_one number less new due in (omega (arith, more, some), still_due number one (turns - 1) of (more_due number less (turns - 1) new (omega (arith, more)) due))

-- A TURN
-- that adds one entry, behind which the power is on
pub record IsTurning {D C : Type 0} (told : D → DeviceTold) (clock : D → Clock) (old new : StackState D C) (e : Option Entry) : Type 0 where
  pub config : new.desk.config ≡ old.desk.config
  pub adds : new.desk.entries ≡ old.desk.entries ++ entry_list e
  pub on : (state_of new.desk).off ≡ false
  pub tied : IsTied old.desk old.hand (told old.device)
  pub power : PowersOff new.desk (told new.device)
  pub order : InOrder (told new.device) (clock new.device)

module _ {D C : Type 0} (told : D → DeviceTold) (clock : D → Clock) (copies : C → List Told) (is_store : C → ℕ → ℕ → List ℕ → Type 0) (looked : C → C → ℕ → ℕ → Type 0) (old new : StackState D C) (e : Option Entry) (is : IsTurning told clock old new e) (id : ℕ) where
  abbrev Serves : Bool → ℕ → Type 0
  Serves one turns = IsServedFor id one turns e (now_of told new)

  abbrev Comes : ℕ → ℕ → Type 0
  Comes number turns = PostsDue number old.desk new.desk ⊎ IsNearer number turns (now_of told new)

  still : (number : ℕ) (one : Bool) (turns : ℕ) → IsOfBlock number id (state_of old.desk) → IsDue number turns (now_of told new) → IsDueFor id one turns (now_of told new)
  still number one turns of due = still_due (now_of told old) (now_of told new) e is.config is.adds is.on id number one turns of due

  posted : (number : ℕ) → IsOfBlock number id (state_of old.desk) → PostsDue number old.desk new.desk → IsPostOf id e
  posted number of post = post_is_of (now_of told old) (now_of told new) e is.config is.adds is.on id number of post

  nearer : (number : ℕ) (one : Bool) (turns : ℕ) → IsOfBlock number id (state_of old.desk) → IsNearer number turns (now_of told new) → (1 < turns) × IsDueFor id one (turns - 1) (now_of told new)
  nearer number one turns of near = nearer_for (now_of told old) (now_of told new) e is.config is.adds is.on id number one turns of near

  -- where no job in hand is finished, or its Post is a turn as any other
  goes_on : (number : ℕ) (one : Bool) (turns free : ℕ) → IsOfBlock number id (state_of old.desk) → free ≡ 0 → Comes number (turns + free) → Serves one turns
  goes_on number one turns free of none (inl post) = inl (posted number of post)
  goes_on number one turns free of none (inr (less, more, due)) = inr (inr (nearer number one turns of (less, omega (arith, more, none), due)))

  -- a finished one is posted, and its Post is free
  module _ (h : HandState) (hand : old.hand ≡ Some h) (finished : is_finished h.step ≡ true) where
    paired : IsInHand old.desk.config (state_of old.desk) h (told old.device)
    paired = subst (λ (o : Option HandState). IsPaired old.desk.config (state_of old.desk) o (told old.device)) hand is.tied.paired

    one_first : post_first old.hand ≡ 1
    one_first = first_one old.hand h hand finished

    posts_first : (number turns : ℕ) → IsOfBlock number id (state_of old.desk) → (block refused ops : ℕ) (r : ReqResult) (given : Option (List ℕ)) → new.desk.entries ≡ old.desk.entries ++ Post block r given refused ops ∷ []
        → Comes number (turns + post_first old.hand) → Serves true turns
    posts_first number turns of block refused ops r given entries (inl post) = inl (posted number of post)
    posts_first number turns of block refused ops r given entries (inr (less, one, due)) =
        elim (posts_one e block id (record { result = r; given = given; refused = refused; ops = ops; is = added_is old.desk.entries e _ (sym entries ∙ is.adds) })) [
          | inl own ↦ inl own
          | inr other ↦ inr (inl (refl, other, still number false turns of (more_due number less turns (now_of told new) (omega (arith, one, one_first)) due)))
        ]

    -- nothing but an urgent write is picked over it
    picks_over : (number turns : ℕ) → IsOfBlock number id (state_of old.desk) → IsFirstHalf told copies is_store looked (Ended turned.Picked) old new → IsDue number (turns + post_first old.hand) (now_of told old) → Serves true turns
    picks_over number turns of half (inl due) =
        let p = half.half.1 in
        let alone : IsDueNext number turns (record { desk = old.desk; hand = None; device = told old.device }) =
        record {
          job = due.job;
          is = due.is;
          earlier = due.earlier;
          next = due.next;
          standard = due.standard;
          ready = due.ready;
          within = let within = due.within in omega (arith, within, one_first);
        } in
        let near = pick_due number turns old.desk None (told old.device) (told new.device) (clock new.device) is.order alone (freed (told old.device) (told new.device) (is_open (told old.device).stand) refl half.at_device.1)
        half.half.0 _ p.kind p.taken new.hand (half.at_device.0 ∙ ap hand_in p.adds) in
        inr (inr (nearer number true turns of (subst (λ (x : DeskState). IsNearer number turns (record { desk = x; hand = new.hand; device = told new.device })) (sym p.adds) near)))
    picks_over number turns of half (inr due) =
        absurd (never_picked old.desk.config (state_of old.desk) due.job half.half.0 half.half.1.kind half.half.1.taken (next_in old.desk.config (state_of old.desk).waiting) (state_of old.desk).hand (state_of old.desk).sweep due.held due.held
        due.is.urgent.is_urgent half.half.1.allowed.1)

    ended : (answer : Turned) (number turns : ℕ) → IsOfBlock number id (state_of old.desk) → IsFirstHalf told copies is_store looked (Ended answer) old new → IsDue number (turns + post_first old.hand) (now_of told old)
        → Comes number (turns + post_first old.hand) → Serves true turns
    ended turned.Picked number turns of half due comes = picks_over number turns of half due
    ended turned.Posted number turns of half due comes = elim half.half [
      | inl held ↦ posts_first number turns of (job_block held.job) held.is.refused _ held.is.result held.is.given (ap (λ (x : DeskState). x.entries) held.is.adds) comes
      | inr next ↦ absurd (some_none paired.hand next.0)
    ]
    ended turned.Off number turns of half due comes = absurd (true_false (is.power half.half.1) is.on)
    ended turned.Idle number turns of half due comes = absurd (some_none paired.hand half.half.1.hand)
    ended turned.Worked number turns of half due comes = absurd half.half

    finished_serves : (answer : Turned) (number turns : ℕ) → IsOfBlock number id (state_of old.desk) → core.Turns told clock copies is_store looked answer old new → IsDue number (turns + post_first old.hand) (now_of told old)
        → Comes number (turns + post_first old.hand) → Serves true turns
    finished_serves answer number turns of (inl half) due comes = ended answer number turns of half due comes
    finished_serves answer number turns of (inr (between, first, second)) due comes = absurd (true_false finished (unfinished old.hand hand first.at_device))
      where
        unfinished : (o : Option HandState) → o ≡ Some h → GoesOn o (told old.device) between.hand (told between.device) → is_finished h.step ≡ false
        unfinished None at goes = cc at
        unfinished (Some x) at goes = let same : x ≡ h = cc at in subst (λ (y : HandState). is_finished y.step ≡ false) same goes.0

  -- what is due is posted, or comes nearer
  pub turn_serves : (answer : Turned) (one : Bool) (turns : ℕ) → core.Turns told clock copies is_store looked answer old new → ((number turns : ℕ) → IsDue number turns (now_of told old) → Comes number turns) → IsDueFor id one turns (now_of told old)
      → Serves one turns
  turn_serves answer false turns made comes was = goes_on was.number false turns 0 was.block refl (comes was.number (turns + 0) was.due)
  turn_serves answer true turns made comes was =
      elim (first_or old.hand) [
        | inl none ↦ goes_on was.number true turns (post_first old.hand) was.block none (comes was.number (turns + post_first old.hand) was.due)
        | inr (h, hand, finished) ↦ finished_serves h hand finished answer was.number turns was.block made was.due (comes was.number (turns + post_first old.hand) was.due)
      ]

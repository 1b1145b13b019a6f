-- What is due, in one turn.
use Rattle.nvm_moves.proofs.Common.{IsTrue, ◌&&◌, ◌≡◌, ◌⊎◌, inl, inr, ℕ, Bool, false, List, [], ◌∷◌, ◌++◌, Option, refl, sym, ap, ◌∙◌, subst, cases_Bool, Rose, DeviceTold, faults_of, Clock, InOrder, Lasts, Told, Entry, DeskState, state_of, IsTied, Turned, Ended, StackNow, IsDue, IsNearer, TurnServesDue, StackState, PowersOff, IsFirstHalf, now_of, IsOfBlock, IsDueFor, true_false, Moment, entry_list, PostsDue, IsServedBy, IsServedFor, IsTurning, nearer_for, of_block_behind, turn_serves, posts_another, posts_own, is_off_entry, posts_other, IsPostedSoon}
use Rattle.nvm_core.specs.nvm_laws.declared.turned.Turned.TheVariants as turned
use Rattle.nvm_core.specs.Turns as core
use Rattle.nvm_moves.proofs.Counts.{rose_in, rose_or}
use Rattle.nvm_moves.proofs.TurnEntries.{AddsOne, on_behind}

-- A MOVE
module _ (old new : StackNow) (e : Option Entry) (ops : ℕ) (adds : AddsOne ops old.desk new.desk e) (behind : Moment) where
  -- what is due behind it is posted soon in it
  abbrev pub IsSoon : (one : Bool) → (id turns : ℕ) → Type 0
  IsSoon one id turns = IsPostedSoon (λ o n. IsDueFor id o n new) one id turns (faults_of old.device) (record { entry = e; behind = behind } ∷ [])

  config_same : new.desk.config ≡ old.desk.config
  config_same = ap (λ (x : DeskState). x.config) adds.adds

  entries_are : new.desk.entries ≡ old.desk.entries ++ entry_list e
  entries_are = ap (λ (x : DeskState). x.entries) adds.adds

  pub on_then : (state_of old.desk).off ≡ false → is_off_entry e ≡ false → (state_of new.desk).off ≡ false
  on_then on none = on_behind ops old.desk new.desk e adds none ∙ on

  pub of_block : (number id : ℕ) → IsOfBlock number id (state_of old.desk) → IsOfBlock number id (state_of new.desk)
  of_block number id of = of_block_behind old.desk new.desk e config_same entries_are number id of

  soon_by : (one : Bool) (id turns : ℕ) → IsServedFor id one turns e new → IsSoon one id turns
  soon_by one id turns (inl post) = inr (inr (inr (inr (inr (inl (posts_own e id post.refused post.ops post.result post.given post.is))))))
  soon_by one id turns (inr (inl (free, (other, isnt, post), due))) =
      inr (inr (inl (subst (λ (b : Bool). IsTrue (b && posts_other id e)) (sym free) (posts_another e other id post.refused post.ops post.result post.given post.is isnt), due)))
  soon_by one id turns (inr (inr near)) = inr (inr (inr (inr (inr (inr near)))))

  -- it comes nearer
  pub nearer : (one : Bool) (id number turns : ℕ) → IsOfBlock number id (state_of old.desk) → (state_of old.desk).off ≡ false → is_off_entry e ≡ false → IsNearer number turns new → IsSoon one id turns
  nearer one id number turns of on none near = inr (inr (inr (inr (inr (inr (nearer_for old new e config_same entries_are (on_then on none) id number one turns of near))))))

-- A WHOLE TURN
module _ {D C : Type 0} (told : D → DeviceTold) (clock : D → Clock) (copies : C → List Told) (is_store : C → ℕ → ℕ → List ℕ → Type 0) (looked : C → C → ℕ → ℕ → Type 0) (old new : StackState D C) (e : Option Entry) (adds : AddsOne (told new.device).ops old.desk new.desk e) (behind : Moment) (same : behind.faults ≡ faults_of (told new.device))
    (order : InOrder (told new.device) (clock new.device)) (power : PowersOff new.desk (told new.device)) (tied : IsTied old.desk old.hand (told old.device)) (lasts : Lasts (told old.device) (clock old.device) (told new.device) (clock new.device)) where
  abbrev Soon : (one : Bool) → (id turns : ℕ) → Type 0
  Soon one id turns = IsSoon (now_of told old) (now_of told new) e (told new.device).ops adds behind one id turns

  module _ (answer : Turned) (made : core.Turns told clock copies is_store looked answer old new) (comes : TurnServesDue (now_of told old) (now_of told new)) where
    calm_soon : ¬ Rose (faults_of (told old.device)) (faults_of (told new.device)) → is_off_entry e ≡ false → (one : Bool) (id turns : ℕ) → IsDueFor id one turns (now_of told old) → Soon one id turns
    calm_soon calm none one id turns was =
        let on = on_then (now_of told old) (now_of told new) e (told new.device).ops adds behind was.on none in
        let turning : IsTurning told clock old new e =
        record { config = ap (λ (x : DeskState). x.config) adds.adds; adds = ap (λ (x : DeskState). x.entries) adds.adds; on = on; tied = tied; power = power; order = order } in
        let first : ¬ Rose (told old.device).first.faults (told new.device).first.faults =
        λ rose. calm (rose_in (told old.device).first.faults (told new.device).first.faults (told old.device).second.faults (told new.device).second.faults lasts.faults.1 rose) in
        soon_by (now_of told old) (now_of told new) e (told new.device).ops adds behind one id turns
        (turn_serves told clock copies is_store looked old new e turning id answer one turns made (λ number more due. comes number more (record { faultless = first; on = on }) due) was)

    -- what is due is posted, or comes nearer
    pub turn_soon : (one : Bool) (id turns : ℕ) → IsDueFor id one turns (now_of told old) → Soon one id turns
    turn_soon one id turns was = elim (rose_or (faults_of (told old.device)) (faults_of (told new.device))) [
      | inl rose ↦ inr (inr (inr (inl (subst (λ (n : ℕ). Rose (faults_of (told old.device)) n) (sym same) rose))))
      | inr calm ↦ elim (cases_Bool (is_off_entry e)) [
        | inl off ↦ inr (inr (inr (inr (inl off))))
        | inr none ↦ calm_soon calm none one id turns was
      ]
    ]

  -- A FIRST HALF ALONE
  module _ (answer : Turned) (half : IsFirstHalf told copies is_store looked (Ended answer) old new) (serves : (number turns : ℕ) → IsDue number turns (now_of told old) → IsServedBy (Ended answer) number turns (now_of told old) (now_of told new)) where
    comes : (a : Turned) (number turns : ℕ) → (a ≡ turned.Off → ⊥) → IsServedBy (Ended a) number turns (now_of told old) (now_of told new) → PostsDue number old.desk new.desk ⊎ IsNearer number turns (now_of told new)
    comes turned.Off number turns never served = absurd (never refl)
    comes a number turns never served = served

    -- the power is on behind it
    never_off : (state_of new.desk).off ≡ false → answer ≡ turned.Off → ⊥
    never_off on is =
        let half' = subst (λ (a : Turned). IsFirstHalf told copies is_store looked (Ended a) old new) is half in
        true_false (state_of new.desk).off (power half'.half.1) on

    pub ended_soon : (one : Bool) (id turns : ℕ) → IsDueFor id one turns (now_of told old) → Soon one id turns
    ended_soon = turn_soon answer (inl half) (λ number turns calm due. comes answer number turns (never_off calm.on) (serves number turns due))

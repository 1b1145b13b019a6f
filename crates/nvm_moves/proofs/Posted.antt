-- A job is posted within its turns, by the law along moves.
use Rattle.nvm_moves.proofs.Common.{IfSome, ◌||◌, is_none, option_map, ◌≡◌, inl, inr, ◌≤◌, ℕ, Bool, true, false, List, [], ◌∷◌, ◌++◌, Option, Some, None, refl, sym, ap, ◌∙◌, subst, arith, cases_Bool, Rose, last_count, ops_of, Clock, Request, Reply, Entry, Ask, Pick, Wrote, Post, Off, Found, State, Job, job_block, next_of, after_from, picked, wrote, has_risen, asked_hand, Moment, Move, EachMove, PostsPicked, entry_list, is_asked, is_found, is_picked, Along, Bound, Cursor, Frame, bound_of, left_behind, next_by, one_less, renewed, FitsHand, IsLawful, nat_le, nat_lt, ◌-◌, eq-eqb, leb-true, ltb-true, IsMoveMade, IsPostedWithin, ends, fails, PostsAt, asked_stays, wrote_stays, picked_stays}

-- COUNTS
risen_rose : (before behind : ℕ) → before ≤ behind → has_risen before behind ≡ true → Rose before behind
risen_rose before behind more risen = elim (cases_Bool (nat_lt before behind)) [
  | inl less ↦ inl (ltb-true before behind less)
  | inr none ↦ inr (leb-true last_count before (full none), more)
]
  where
    full : (nat_lt before behind) ≡ false → nat_le last_count before ≡ true
    full none = subst (λ (t : Bool). (t || nat_le last_count before) ≡ true) none risen

-- a request doesn't change the moment
asked_still : (before : Moment) (m : Move) (caller : ℕ) (r : Request) (reply : Reply) → m.entry ≡ Some (Ask caller r reply) → IsMoveMade before m → m.behind ≡ before
asked_still before m caller r reply is (inl asks) = asks.1
asked_still before m caller r reply is (inr turns) = let none : None ≡ Some m.behind.ops = subst (λ (o : Option Entry). IfSome o (λ e. ops_of e ≡ Some m.behind.ops)) is turns.told in absurd (cc none)

never_less : (before : Moment) (m : Move) → IsMoveMade before m → before.faults ≤ m.behind.faults
never_less before m (inl asks) = let same = ap (λ (n : Moment). n.faults) asks.1 in omega (arith, same)
never_less before m (inr turns) = turns.faults

module _ (f : Frame) (clock : Clock) (k : Cursor) (m : Move) (one : IsLawful f.config clock k m) where
  abbrev next : State
  next = after_from f.config k.state (entry_list m.entry)

  -- A JOB IN HAND
  module _ (ms : List Move) (j : Job) (id : ℕ) (b : Bound) (held : k.state.hand ≡ Some j) (own : job_block j ≡ id) (on : k.state.off ≡ false) (left : k.left ≡ Some b)
      (later : (i : Job) (b' : Bound) → next.hand ≡ Some i → job_block i ≡ id → next.off ≡ false → left_behind f k m ≡ Some b' → IsPostedWithin id b'.most b'.all b'.left m.behind.faults ms) where
    abbrev Goal : Type 0
    Goal = IsPostedWithin id b.most b.all b.left k.now.faults (m ∷ ms)

    -- a turn that leaves it
    goes : is_asked m.entry ≡ false → is_found m.entry ≡ false → is_picked m.entry ≡ false → (i : Job) → next.hand ≡ Some i → job_block i ≡ id → next.off ≡ false → Goal
    goes asked found picked i hand block up =
        let some : is_none next.hand ≡ false = ap is_none hand in
        let drops : (next.off || is_none next.hand) ≡ false = rw (up, some) refl in
        let (more, few) = (subst (λ (o : Option Bound). PostsAt f.config (record k { left = o }) m) left one.posts) asked found picked up some in
        elim (cases_Bool (has_risen k.now.faults m.behind.faults)) [
          | inl risen ↦
              let then_ : left_behind f k m ≡ Some (renewed b) = rw (asked, found, picked, drops, risen) (ap (option_map renewed) left) in
              inr (inr (inl (risen_rose k.now.faults m.behind.faults (never_less k.now m one.made) risen, more, later i (renewed b) hand block up then_)))
          | inr calm ↦
              let then_ : left_behind f k m ≡ Some (one_less b) = rw (asked, found, picked, drops, calm) (ap (option_map one_less) left) in
              inr (inr (inr (inr (inr (few calm, more, later i (one_less b) hand block up then_)))))
        ]

    by : (e : Option Entry) → m.entry ≡ e → Goal
    by None is =
        goes (ap is_asked is) (ap is_found is) (ap is_picked is) j (ap (λ (o : Option Entry). (after_from f.config k.state (entry_list o)).hand) is ∙ held) own (ap (λ (o : Option Entry). (after_from f.config k.state (entry_list o)).off) is ∙ on)
    by (Some (Ask caller r reply)) is =
        let asked : is_asked m.entry ≡ true = ap is_asked is in
        let same : m.behind ≡ k.now = asked_still k.now m caller r reply is one.made in
        let rest = later j b (ap (λ (o : Option Entry). (after_from f.config k.state (entry_list o)).hand) is ∙ asked_hand f.config k.state r reply ∙ held) own
        (ap (λ (o : Option Entry). (after_from f.config k.state (entry_list o)).off) is ∙ (asked_stays f.config k.state r reply).off ∙ on) (rw asked left) in
        inr (inl (asked, subst (λ (faults : ℕ). IsPostedWithin id b.most b.all b.left faults ms) (ap (λ (x : Moment). x.faults) same) rest))
    by (Some (Pick block kind t ops)) is = inr (inr (inr (inr (inl (ap (ends id) is)))))
    by (Some (Wrote i mark ops)) is =
        goes (ap is_asked is) (ap is_found is) (ap is_picked is) (record j { reserved = j.reserved - 1; written = j.written ++ i.index ∷ [] })
        (ap (λ (o : Option Entry). (after_from f.config k.state (entry_list o)).hand) is ∙ ap (λ (o : Option Job). (wrote k.state i mark o).hand) held) own
        (ap (λ (o : Option Entry). (after_from f.config k.state (entry_list o)).off) is ∙ (wrote_stays k.state i mark k.state.hand).off ∙ on)
    by (Some (Post block r given refused ops)) is =
        let fits : IfSome k.state.hand (λ x. job_block x ≡ block) = subst (λ (o : Option Entry). FitsHand k.state o) is one.fits in
        let same : job_block j ≡ block = subst (λ (o : Option Job). IfSome o (λ x. job_block x ≡ block)) held fits in inr (inr (inr (inr (inl (ap (ends id) is ∙ eq-eqb block id (sym same ∙ own))))))
    by (Some (Off ops)) is = inr (inr (inr (inl (ap fails is))))
    by (Some (Found marks ops)) is = inl (ap is_found is)

  -- A PICK
  picks : is_picked m.entry ≡ true → (e : Option Entry) → m.entry ≡ e → (is_asked m.entry ≡ false) × (is_found m.entry ≡ false) × (next.off ≡ false)
  picks picked (Some (Pick block kind t ops)) is =
      let on : k.state.off ≡ false = subst (λ (o : Option Entry). FitsHand k.state o) is one.fits in
      (ap is_asked is, ap is_found is, ap (λ (o : Option Entry). (after_from f.config k.state (entry_list o)).off) is ∙ (picked_stays f.config k.state t (next_of f.config k.state)).off ∙ on)
  picks picked None is = absurd (none (sym picked ∙ ap is_picked is))
    where
      none : true ≡ false → ⊥
      none e = cc
  picks picked o is = absurd (let no_ : true ≡ false = sym picked ∙ ap is_picked is in cc no_)

  picked_left : (j : Job) → is_picked m.entry ≡ true → next.hand ≡ Some j → left_behind f k m ≡ Some (bound_of f next j)
  picked_left j picked held = let (asked, found, on) = picks picked m.entry refl in rw (asked, found, picked) (ap (option_map (bound_of f next)) held)

module _ (f : Frame) (clock : Clock) where
  posted_within : (k : Cursor) (ms : List Move) (j : Job) (id : ℕ) (b : Bound) → k.state.hand ≡ Some j → job_block j ≡ id → k.state.off ≡ false → k.left ≡ Some b → Along f (IsLawful f.config clock) k ms → IsPostedWithin id b.most b.all b.left k.now.faults ms
  posted_within k [] j id b held own on left along = tt
  posted_within k (m ∷ ms) j id b held own on left (one, rest) =
      by f clock k m one ms j id b held own on left (λ i b' hand block up more. posted_within (next_by f k m) ms i id b' hand block up more rest) m.entry refl

  -- each job that is picked
  pub posts_picked : (k : Cursor) (ms : List Move) → Along f (IsLawful f.config clock) k ms → EachMove f.config (PostsPicked f.config f.most) k.state ms
  posts_picked k [] along = tt
  posts_picked k (m ∷ ms) (one, rest) = (
    λ picked j held. posted_within (next_by f k m) ms j (job_block j) (bound_of f (after_from f.config k.state (entry_list m.entry)) j) held refl (picks f clock k m one picked m.entry refl).2 (picked_left f clock k m one j picked held) rest,
    posts_picked (next_by f k m) ms rest,
  )

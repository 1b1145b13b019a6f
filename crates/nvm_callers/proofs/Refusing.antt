-- No copy is refused where none is to be.
use Rattle.nvm_callers.proofs.Common.{is_some, ◌≡◌, ◌+◌, ◌⊎◌, ℕ, Bool, true, false, List, Option, Some, None, refl, sym, ap, ◌∙◌, subst, inl, inr, arith, eqb_tells, JobKind, WriteJob, Taken, TookRefused, Pick, Post, BlockDesc, Configuration, State, BlockState, Job, desc_of, block_at, is_synchronized, job_block, kind_of, member_job, Answer, TakesForWrite, TakesBy, MayPick, Next, PickJob, BeginSweep, PickMember, Told, DeskState, AreSynchronized, IsPosted, tells_no_refusal, RefusesNone, ◌&&◌, nat_le, option_map, leb_tells, Synchronized, told_at, to_refuse_by, to_refuse_of, Spends, OthersStay, took_refused, copies_out_by, copies_out_next, IsCopied, goes_over, IsHandedOver}
use Rattle.std.specs.Prelude.{◌-◌}
use Rattle.std.proofs.Common.{IfSome}

-- ONE BLOCK
abbrev IsNone : Told → Type 0
IsNone o = IfSome o (λ s. s.to_refuse ≡ Some 0)

none_of : (o : Told) (n : ℕ) → option_map (λ (s : Synchronized). s.bytes) o ≡ Some n → IsNone o → to_refuse_by o ≡ Some 0
none_of (Some s) n is none = none
none_of None n is none = cc is

none_left : (tries : ℕ) (p : Told) → to_refuse_by p ≡ Some (0 - (tries + 1)) → IsNone p
none_left tries (Some s) is = is ∙ ap Some (omega arith)
none_left tries None is = tt

no_tries : (tries : ℕ) → nat_le (tries + 1) 0 ≡ false
no_tries tries = elim (leb_tells (tries + 1) 0) [ inl all ↦ absurd (let few = all.1 in omega (arith, few)) | inr few ↦ few.0 ]

-- tries of a copy
spent : (refused : Bool) (tries : ℕ) (o p : Told) → to_refuse_by o ≡ Some 0 → Spends refused (tries + 1) (to_refuse_by o) (to_refuse_by p) → (refused ≡ false) × IsNone p
spent refused tries o p none spends = (
  subst (λ (x : Option ℕ). IfSome x (λ n. refused ≡ nat_le (tries + 1) n)) none spends.0 ∙ no_tries tries,
  none_left tries p (spends.1 ∙ ap (option_map (λ (n : ℕ). n - (tries + 1))) none),
)

-- ALL BLOCKS
module _ (c : Configuration) (block : ℕ) (before after : List Told) where
  abbrev tries : ℕ
  tries = (desc_of c block).repeats

  -- nothing is told otherwise, or of this block alone, none of whose copies is to be refused
  abbrev Rests : Type 0
  Rests = (after ≡ before) ⊎ (IsNone (told_at after block) × OthersStay block before after)

  rests : RefusesNone before → Rests → RefusesNone after
  rests none (inl same) = subst RefusesNone (sym same) none
  rests none (inr (here, others)) = λ b. elim (eqb_tells b block) [
    | inl is ↦ subst (λ (k : ℕ). IsNone (told_at after k)) (sym is.1) here
    | inr other ↦ subst IsNone (sym (others b other.1)) (none b)
  ]

  -- none of a synchronized block is
  to_refuse : AreSynchronized c before → RefusesNone before → (id : ℕ) → is_synchronized (desc_of c id).ram ≡ true → to_refuse_of before id ≡ Some 0
  to_refuse are none id synchronized = none_of (told_at before id) (desc_of c id).length (are id synchronized) (none id)

  -- A PICK
  module _ (P : ℕ → List ℕ → Type 0) where
    by_content : (d : BlockDesc) (b : BlockState) (j : Job) (content : Option (List ℕ × ℕ)) (synchronized : Bool) (t : Taken)
        → IsCopied P c block before after (copies_out_by WriteJob content synchronized) t → TakesForWrite d b j content synchronized t
        → (synchronized ≡ true → to_refuse_of before block ≡ Some 0) → (took_refused t ≡ false) × Rests
    by_content d b j (Some x) synchronized t is takes none = (ap took_refused takes, inl is)
    by_content d b j None true t is takes none =
        let (all, left) = spent (took_refused t) tries (told_at before block) (told_at after block) (none refl) is.spends in (all, inr (left, is.others))
    by_content d b j None false t is takes none = (ap took_refused takes, inl is)

    by_kind : (d : BlockDesc) (b : BlockState) (j : Job) (kind : JobKind) (t : Taken)
        → IsCopied P c block before after (copies_out_by kind j.content (is_synchronized d.ram)) t → TakesBy d b j kind t
        → (is_synchronized d.ram ≡ true → to_refuse_of before block ≡ Some 0) → (took_refused t ≡ false) × Rests
    by_kind d b j WriteJob t is takes none = by_content d b j j.content (is_synchronized d.ram) t is takes none
    by_kind d b j kind t is takes none = (ap took_refused takes, inl is)

    by_next : (s : State) (kind : JobKind) (t : Taken) (n : Next) → IsCopied P c block before after (copies_out_next c n) t → MayPick c s block kind t n
        → ((id : ℕ) → is_synchronized (desc_of c id).ram ≡ true → to_refuse_of before id ≡ Some 0) → (took_refused t ≡ false) × Rests
    by_next s kind t (PickJob j) is may none =
        by_kind (desc_of c (job_block j)) (block_at s (job_block j)) j (kind_of j) t is may.takes
        (λ synchronized. subst (λ (id : ℕ). to_refuse_of before id ≡ Some 0) (sym may.same_block) (none (job_block j) synchronized))
    by_next s kind t (PickMember sw id) is may none =
        let j = member_job c sw id in
        by_kind (desc_of c (job_block j)) (block_at s (job_block j)) j (kind_of j) t is may.takes
        (λ synchronized. subst (λ (id : ℕ). to_refuse_of before id ≡ Some 0) (sym may.same_block) (none (job_block j) synchronized))
    by_next s kind t (BeginSweep sw) is may none = (ap took_refused may.takes_nothing, inl is)
    by_next s kind t n is may none = absurd may

    not_refused : (kind : JobKind) (t : Taken) (ops : ℕ) → took_refused t ≡ false → tells_no_refusal (Pick block kind t ops) ≡ true
    not_refused kind (TookRefused count) ops none = absurd (cc none)
    not_refused kind t ops none = refl

    pub pick_refuses_none : (s : State) (kind : JobKind) (t : Taken) (n : Next) (ops : ℕ) → AreSynchronized c before → RefusesNone before
        → IsCopied P c block before after (copies_out_next c n) t → MayPick c s block kind t n
        → RefusesNone after × (tells_no_refusal (Pick block kind t ops) ≡ true)
    pick_refuses_none s kind t n ops are none is may =
        let (not, left) = by_next s kind t n is may (to_refuse are none) in (rests none left, not_refused kind t ops not)

  -- A POST
  handed : (goes : Bool) (ended posted : Answer) (refused : ℕ) → IsHandedOver goes ended posted refused (tries + 1) block before after → OthersStay block before after
      → (goes ≡ true → to_refuse_of before block ≡ Some 0) → (refused ≡ 0) × Rests
  handed false ended posted refused over others none = (over.1, inl over.2)
  handed true ended posted refused (inl took) others none =
      let left = spent false tries (told_at before block) (told_at after block) (none refl) took.3 in (took.1, inr (left.1, others))
  handed true ended posted refused (inr all) others none =
      let left = spent true tries (told_at before block) (told_at after block) (none refl) all.3 in absurd (let no_ = left.0 in cc no_)

  over_synchronized : (ram synchronized given : Bool) → ((ram && synchronized) && given) ≡ true → synchronized ≡ true
  over_synchronized true true given is = refl
  over_synchronized ram synchronized given is = cc is

-- of the block that is posted
pub post_refuses_none : (Premise : Type 0) (block : ℕ) (ram : Bool) (ended : Answer) (ops : ℕ) (old new : DeskState) (before after : List Told)
    → AreSynchronized old.config before → RefusesNone before → (is : IsPosted Premise block ram ended ops old new before after)
    → RefusesNone after × (tells_no_refusal (Post block is.result is.given is.refused ops) ≡ true)
post_refuses_none Premise block ram ended ops old new before after are none is =
    let c = old.config in
    let (zero_, left) = handed c block before after (goes_over (desc_of c block) ram ended.1) ended (is.result, is.given) is.refused is.over is.others
    (λ goes. to_refuse c block before after are none block (over_synchronized c block before after ram (is_synchronized (desc_of c block).ram) (is_some ended.1) goes)) in
    (rests c block before after none left, ap (λ (n : ℕ). tells_no_refusal (Post block is.result is.given n ops)) zero_)

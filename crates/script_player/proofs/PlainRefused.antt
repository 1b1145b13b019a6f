-- Copies that are refused, as entries tell of them.
use Rattle.script_player.proofs.Common.{◌==◌, ◌&&◌, ◌-◌, not, nat_le, is_some, map, unwrap_or, if◌then◌else◌, ◌≡◌, ◌≢◌, ◌+◌, ◌⊎◌, ℕ, zero, suc, add-one, Bool, true, false, List, [], ◌∷◌, length, Option, Some, None, refl, sym, ap, ◌∙◌, subst, inl, inr, eqb_tells, JobKind, WriteJob, Taken, TookNothing, TookContent, TookRefused, Entry, Configuration, State, BlockState, Job, desc_of, block_at, is_synchronized, job_block, kind_of, member_job, Answer, TakesBy, MayPick, Next, PickJob, BeginSweep, PickMember, PlainBlock, Told, Synchronized, IsSynchronized, told_at, to_refuse_by, told_of, AreSynchronized, copies_out_by, copies_out_next, IsCopied, copied_in, copy_told, left_by, AreAsAsked, to_refuse_in, asked_store, TakesCopy, TakesForWrite, to_refuse_of, Spends, OthersStay, IsCopiedOut, goes_over, IsHandedOver, copied_out, has_content, IsAsAsked}
use Rattle.std.proofs.Common.{option_map, IfSome}

-- A post is on the block of the job in hand, if there is one.
abbrev pub IsOn : ℕ → Option Job → Type 0
IsOn block None = Unit {0}
IsOn block (Some j) = job_block j ≡ block

-- ONE COPY

-- what a copy of a block came to, by what is told before and behind it
pub record IsSpent (tries block : ℕ) (before after : List Told) (copy : Option ℕ) : Type 0 where
  pub asked : IsAsAsked tries (to_refuse_in before block) copy
  pub left : to_refuse_in after block ≡ left_by tries (to_refuse_in before block) copy
  pub others : OthersStay block before after

-- none was tried
none_tried : (tries block : ℕ) (before after : List Told) → after ≡ before → IsSpent tries block before after None
none_tried tries block before after same = record {
  asked = tt;
  left = ap (λ (ts : List Told). to_refuse_in ts block) same;
  others = λ b other. ap (λ (ts : List Told). told_at ts b) same;
}

no_copy : (tries block : ℕ) (before after : List Told) (copy : Option ℕ) → copy ≡ None → after ≡ before → IsSpent tries block before after copy
no_copy tries block before after copy none same = subst (IsSpent tries block before after) (sym none) (none_tried tries block before after same)

-- an application in memory tells how many are to be refused
left_one : (b : PlainBlock) (n : ℕ) → option_map (λ (s : Synchronized). s.bytes) (told_of b) ≡ Some n → to_refuse_by (told_of b) ≡ Some b.to_refuse
left_one b n is = by (length b.content == 0) refl is
  where
    by : (t : Bool) → (length b.content == 0) ≡ t
        → option_map (λ (s : Synchronized). s.bytes) (if t then None else Some (record { bytes = length b.content; refusals = b.refusals; to_refuse = Some b.to_refuse; handed = b.handed; last = b.last })) ≡ Some n
        → to_refuse_by (told_of b) ≡ Some b.to_refuse
    by true empty none = cc none
    by false full some = rw full refl

told_left : (bs : List PlainBlock) (k n : ℕ) → IsSynchronized (map told_of bs) k n → (m : ℕ) × (to_refuse_of (map told_of bs) k ≡ Some m)
told_left [] k n is = cc is
told_left (x ∷ xs) zero n is = (x.to_refuse, left_one x n is)
told_left (x ∷ xs) (suc k) n is = told_left xs k n is

spent_by : (refused : Bool) (tries m : ℕ) (before after : Option ℕ) → before ≡ Some m → Spends refused tries before after
    → (refused ≡ nat_le tries m) × (unwrap_or after 0 ≡ m - tries)
spent_by refused tries m before after is spends = (
  subst (λ (o : Option ℕ). IfSome o (λ n. refused ≡ nat_le tries n)) is spends.0,
  ap (λ (o : Option ℕ). unwrap_or o 0) (spends.1 ∙ ap (option_map (λ (n : ℕ). n - tries)) is),
)

-- one was tried
a_copy : (bs : List PlainBlock) (after : List Told) (refused : Bool) (tries block n count : ℕ) → IsSynchronized (map told_of bs) block n
    → Spends refused tries (to_refuse_of (map told_of bs) block) (to_refuse_of after block) → count ≡ (if refused then tries else 0) → OthersStay block (map told_of bs) after
    → IsSpent tries block (map told_of bs) after (Some count)
a_copy bs after refused tries block n count synchronized spends counts others =
    let (m, is) = told_left bs block n synchronized in
    let (all, behind) = spent_by refused tries m (to_refuse_of (map told_of bs) block) (to_refuse_of after block) is spends in
    let left : m ≡ to_refuse_in (map told_of bs) block = sym (ap (λ (o : Option ℕ). unwrap_or o 0) is) in
    record {
      asked = counts ∙ ap (λ (t : Bool). if t then tries else 0) all ∙ ap (λ (k : ℕ). if nat_le tries k then tries else 0) left;
      left = behind ∙ ap (λ (k : ℕ). k - tries) left;
      others = others;
    }

-- A PICK
module _ (IsStore : ℕ → List ℕ → Type 0) (c : Configuration) (block : ℕ) (bs : List PlainBlock) (after : List Told) (are : AreSynchronized c (map told_of bs)) where
  abbrev Spent : Option ℕ → Type 0
  Spent copy = IsSpent ((desc_of c block).repeats + 1) block (map told_of bs) after copy

  nothing_copied : (copy : Option ℕ) → copy ≡ None → after ≡ map told_of bs → Spent copy
  nothing_copied copy none same = no_copy ((desc_of c block).repeats + 1) block (map told_of bs) after copy none same

  by_copy : is_synchronized (desc_of c block).ram ≡ true → (t : Taken) (store : ℕ) → IsCopiedOut IsStore c block (map told_of bs) after t → TakesCopy (desc_of c block) store t
      → Spent (copied_out true t)
  by_copy sync (TookRefused count) store is takes = a_copy bs after true ((desc_of c block).repeats + 1) block (desc_of c block).length count (are block sync) is.spends takes is.others
  by_copy sync TookNothing store is takes = absurd takes
  by_copy sync _ store is takes = a_copy bs after false ((desc_of c block).repeats + 1) block (desc_of c block).length 0 (are block sync) is.spends refl is.others

  own : (synchronized : Bool) (bytes : List ℕ) (number : ℕ) → copied_out (synchronized && not true) (TookContent bytes number) ≡ None
  own true bytes number = refl
  own false bytes number = refl

  write_spent : (b : BlockState) (j : Job) (content : Option (List ℕ × ℕ)) (synchronized : Bool) (t : Taken) → synchronized ≡ is_synchronized (desc_of c block).ram
      → IsCopied IsStore c block (map told_of bs) after (copies_out_by WriteJob content synchronized) t → TakesForWrite (desc_of c block) b j content synchronized t
      → Spent (copied_out (synchronized && not (is_some content)) t)
  write_spent b j (Some x) synchronized t same is takes =
      nothing_copied (copied_out (synchronized && not true) t) (ap (copied_out (synchronized && not true)) takes ∙ own synchronized x.0 x.1) is
  write_spent b j None true t same is takes = by_copy (sym same) t (asked_store j.request) is takes
  write_spent b j None false t same is takes = nothing_copied (copied_out false t) (ap (copied_out false) takes) is

  job_spent : (b : BlockState) (j : Job) (kind : JobKind) (t : Taken)
      → IsCopied IsStore c block (map told_of bs) after (copies_out_by kind j.content (is_synchronized (desc_of c block).ram)) t → TakesBy (desc_of c block) b j kind t
      → Spent (copied_out (is_synchronized (desc_of c block).ram && not (is_some j.content)) t)
  job_spent b j WriteJob t is takes = write_spent b j j.content (is_synchronized (desc_of c block).ram) t refl is takes
  job_spent b j kind t is takes =
      let copies = is_synchronized (desc_of c block).ram && not (is_some j.content) in nothing_copied (copied_out copies t) (ap (copied_out copies) takes) is

  -- the Pick of a job on this block
  on_block : (s : State) (j : Job) (t : Taken) → block ≡ job_block j
      → IsCopied IsStore c block (map told_of bs) after (copies_out_by (kind_of j) j.content (is_synchronized (desc_of c (job_block j)).ram)) t
      → TakesBy (desc_of c (job_block j)) (block_at s (job_block j)) j (kind_of j) t
      → Spent (copied_out (is_synchronized (desc_of c block).ram && not (is_some j.content)) t)
  on_block s j t at is takes =
      job_spent (block_at s (job_block j)) j (kind_of j) t
      (subst (λ (k : ℕ). IsCopied IsStore c block (map told_of bs) after (copies_out_by (kind_of j) j.content (is_synchronized (desc_of c k).ram)) t) (sym at) is)
      (subst (λ (k : ℕ). TakesBy (desc_of c k) (block_at s (job_block j)) j (kind_of j) t) (sym at) takes)

  pub pick_spent : (s : State) (kind : JobKind) (t : Taken) (n : Next) → IsCopied IsStore c block (map told_of bs) after (copies_out_next c n) t → MayPick c s block kind t n
      → Spent (copied_out (is_synchronized (desc_of c block).ram && not (has_content n)) t)
  pick_spent s kind t (PickJob j) is may = on_block s j t may.same_block is may.takes
  pick_spent s kind t (PickMember sw id) is may = on_block s (member_job c sw id) t may.same_block is may.takes
  pick_spent s kind t (BeginSweep sw) is may =
      let copies = is_synchronized (desc_of c block).ram && not (not true) in nothing_copied (copied_out copies t) (ap (copied_out copies) may.takes_nothing) is
  pick_spent s kind t n is may = absurd may

  -- A POST
  over_spent : (goes : Bool) (ended posted : Answer) (refused : ℕ) → (goes ≡ true → is_synchronized (desc_of c block).ram ≡ true) → OthersStay block (map told_of bs) after
      → IsHandedOver (goes && is_some ended.1) ended posted refused ((desc_of c block).repeats + 1) block (map told_of bs) after → Spent (copied_in goes posted.1 refused)
  over_spent false ended posted refused sync others over = nothing_copied (copied_in false posted.1 refused) (ap (copied_in false posted.1) over.1) over.2
  over_spent true (r, None) posted refused sync others over =
      nothing_copied (copied_in true posted.1 refused) (ap (λ (a : Answer). copied_in true a.1 refused) over.0 ∙ ap (copied_in true None) over.1) over.2
  over_spent true (r, Some x) posted refused sync others (inl took) =
      subst Spent (sym (ap (λ (a : Answer). copied_in true a.1 refused) took.0 ∙ ap (copied_in true (Some x)) took.1))
      (a_copy bs after false ((desc_of c block).repeats + 1) block (desc_of c block).length 0 (are block (sync refl)) took.3 refl others)
  over_spent true (r, Some x) posted refused sync others (inr all) =
      let tries = (desc_of c block).repeats + 1 in
      subst Spent (sym (ap (λ (a : Answer). copied_in true a.1 refused) all.0 ∙ ap (copied_in true None) (all.1 ∙ add-one (desc_of c block).repeats) ∙ ap Some (sym (add-one (desc_of c block).repeats))))
      (a_copy bs after true tries block (desc_of c block).length tries (are block (sync refl)) all.3 refl others)

  pub post_spent : (ram : Bool) (ended posted : Answer) (refused : ℕ) → OthersStay block (map told_of bs) after
      → IsHandedOver (goes_over (desc_of c block) ram ended.1) ended posted refused ((desc_of c block).repeats + 1) block (map told_of bs) after
      → Spent (copied_in (ram && is_synchronized (desc_of c block).ram) posted.1 refused)
  post_spent ram ended posted refused others over = over_spent (ram && is_synchronized (desc_of c block).ram) ended posted refused (second ram) others over
    where
      second : (t : Bool) → (t && is_synchronized (desc_of c block).ram) ≡ true → is_synchronized (desc_of c block).ram ≡ true
      second true is = is
      second false is = cc is

-- ENTRIES

abbrev AskedSo : Configuration → (before after : List Told) → ℕ → Option ℕ → Type 0
AskedSo c before after k o = IsAsAsked ((desc_of c k).repeats + 1) (to_refuse_in before k) o × (to_refuse_in after k ≡ left_by ((desc_of c k).repeats + 1) (to_refuse_in before k) o)

-- an entry of one block that tells of its copy
pub entry_asked : (c : Configuration) (s : State) (id block : ℕ) (before after : List Told) (e : Entry) (copy : Option ℕ) → copy_told c id s e ≡ (if block == id then copy else None)
    → IsSpent ((desc_of c block).repeats + 1) block before after copy → AreAsAsked c id s (to_refuse_in before id) (e ∷ []) (to_refuse_in after id)
entry_asked c s id block before after e copy tells spent = by (eqb_tells block id)
  where
    by : (((block == id) ≡ true) × (block ≡ id)) ⊎ (((block == id) ≡ false) × (block ≢ id)) → AskedSo c before after id (copy_told c id s e)
    by (inl own) =
        subst (AskedSo c before after id) (sym (tells ∙ ap (λ (t : Bool). if t then copy else None) own.0))
        (subst (λ (k : ℕ). AskedSo c before after k copy) own.1 (spent.asked, spent.left))
    by (inr other) =
        subst (AskedSo c before after id) (sym (tells ∙ ap (λ (t : Bool). if t then copy else None) other.0))
        (tt, ap (λ (t : Told). unwrap_or (to_refuse_by t) 0) (spent.others id (λ is. other.1 (sym is))))

-- one that tells of no copy
pub silent_asked : (c : Configuration) (s : State) (id : ℕ) (before after : List Told) (e : Entry) → copy_told c id s e ≡ None → after ≡ before
    → AreAsAsked c id s (to_refuse_in before id) (e ∷ []) (to_refuse_in after id)
silent_asked c s id before after e none same = rw none (tt, ap (λ (ts : List Told). to_refuse_in ts id) same)

-- What was stored into each block, whose side one caller had.
use Rattle.nvm_callers.proofs.Common.{slice_get, is_some, map, unwrap_or, All, IfSome, option_and_then, ◌≡◌, ◌⊎◌, ◌==◌, inl, inr, ◌<◌, ◌≤◌, ◌+◌, ℕ, zero, suc, Bool, true, false, List, [], ◌∷◌, ◌++◌, length, get_or, Option, Some, None, refl, sym, ap, ◌∙◌, subst, arith, cases_Bool, cases_lt, eqb-true, eq-eqb, or-true, get_or_past, slice_get_past, slice_get-map, slice_get-get_or, option_map, All-contains, View, Entry, Configuration, is_synchronized, EndValue, AreClosed, AreMade, EndGoesOn, EndList, EndsGoOn, Pairs, SideList, SideValue, end_at, side_at, sync_length_of, Step, store_content, program_of, Deed, Store, Await, Program, MayDo, deeds_of, program_by, programs_of, AreRun, by_owner, programs_are_apart, deeds_may_be_done, Terms, MayStore, AllMade, HaveRun, AllDealt, AllGathered, AreApart, AreBelow, HasPlaces, is_store_into, store_into, IsClosedBy, BeginsUnasked, Share, Along, SidesValue, bytes_at, bytes_by, stores_at, Ending, replicate, RamKind, block_of, plain_block, PairValue, AreIn, IsClosed, IsMade, pair_at, length_where_sync, stores_by}
use Rattle.std.proofs.Common.{◌||◌}
use Rattle.driver_moves.specs.block_config.declared.block.BlockDesc.{BlockDesc}
use Rattle.driver_moves.specs.block_config.declared.block.RamKind.TheVariants as ram
use Rattle.script_callers.specs.declared.deed.Deed.TheVariants.{Ask}
use Rattle.nvm_callers.proofs.DealtSides.{HaveBytes, dealt_apart, dealt_left, dealt_own, dealt_places, dealt_was, gathered_bytes, gathered_was, none_still, there_still}
use Rattle.nvm_callers.proofs.KeptSteps.{contained, made_at, same_place, stored_by}
use Rattle.nvm_callers.proofs.Moving.{of_any}
use Rattle.nvm_callers.proofs.Shown.{deeds_are_steps}
use Rattle.nvm_callers.proofs.StoresTaken.{WasStored, WereStored}

-- WHO STORES INTO A BLOCK
-- one of the deeds that does
pub record IsStoreIn (block : ℕ) (ds : List Deed) : Type 0 where
  pub before : List Deed
  pub after : List Deed
  pub line : ℕ
  pub number : ℕ
  pub content : List ℕ
  pub is : ds ≡ before ++ Store line block number content ∷ after

behind : (block : ℕ) (d : Deed) (ds : List Deed) → IsStoreIn block ds → IsStoreIn block (d ∷ ds)
behind block d ds one = record { before = d ∷ one.before; after = one.after; line = one.line; number = one.number; content = one.content; is = ap (λ (l : List Deed). d ∷ l) one.is }

store_in : (block : ℕ) (ds : List Deed) → store_into block ds ≡ true → IsStoreIn block ds
store_in block [] goes = absurd (cc goes)
store_in block (Ask line r ∷ ds) goes = behind block (Ask line r) ds (store_in block ds goes)
store_in block (Await line id ∷ ds) goes = behind block (Await line id) ds (store_in block ds goes)
store_in block (Store line id number content ∷ ds) goes = elim (cases_Bool (id == block)) [
  | inl own ↦ record { before = []; after = ds; line = line; number = number; content = content; is = ap (λ (n : ℕ). Store line n number content ∷ ds) (eqb-true id block own) }
  | inr other ↦ behind block (Store line id number content) ds (store_in block ds (sym (ap (λ (b : Bool). b || store_into block ds) other) ∙ goes))
]

-- a deed that stores into it is one of them
stores_there : (block line number : ℕ) (content : List ℕ) (ds : List Deed) (k : ℕ) (e : Deed) → k < length ds → get_or ds k e ≡ Store line block number content → store_into block ds ≡ true
stores_there block line number content [] k e low is = absurd (omega (arith, low))
stores_there block line number content (d ∷ ds) zero e low is =
    ap (λ (x : Deed). is_store_into block x || store_into block ds) is ∙ ap (λ (b : Bool). b || store_into block ds) (eq-eqb block block refl)
stores_there block line number content (d ∷ ds) (suc k) e low is =
    ap (λ (b : Bool). is_store_into block d || b) (stores_there block line number content ds k e (omega (arith, low)) is) ∙ or-true (is_store_into block d)

module _ (c : Configuration) (steps : List Step) (run : AreRun c steps) where
  -- who stores into a block is one caller
  owner : (block : ℕ) (p q : Program) → deeds_of c (program_of p.caller steps) ≡ p.deeds → deeds_of c (program_of q.caller steps) ≡ q.deeds
      → store_into block p.deeds ≡ true → store_into block q.deeds ≡ true → p.caller ≡ q.caller
  owner block p q is_p is_q goes also =
      let one = store_in block p.deeds goes in
      let two = store_in block q.deeds also in
      let first = deeds_are_steps c steps p.caller one.before one.after one.line block one.number one.content (is_p ∙ one.is) in
      let other = deeds_are_steps c steps q.caller two.before two.after two.line block two.number two.content (is_q ∙ two.is) in
      sym first.of ∙ sym (by_owner c steps first.place block first.step one.content run first.at first.kind other.place other.step two.content other.at other.kind) ∙ other.of

  deeds_at : (i : ℕ) (p : Program) → slice_get (programs_of c steps) i ≡ Some p → deeds_of c (program_of p.caller steps) ≡ p.deeds
  deeds_at i p at =
      sym (ap (λ (q : Program). q.deeds) (All-contains (λ (q : Program). q ≡ program_by c steps q.caller) (programs_of c steps) p (programs_are_apart c steps run).each (contained (programs_of c steps) i p at)))

  -- no program before this one stores into the block
  alone : (block i j : ℕ) (p q : Program) → slice_get (programs_of c steps) i ≡ Some p → store_into block p.deeds ≡ true → j < i → slice_get (programs_of c steps) j ≡ Some q
      → store_into block q.deeds ≡ false
  alone block i j p q at goes low there = by (store_into block q.deeds) refl
    where
      by : (b : Bool) → store_into block q.deeds ≡ b → store_into block q.deeds ≡ false
      by false is = is
      by true is =
          let place = same_place (programs_of c steps) i j p q (programs_are_apart c steps run).apart at there (owner block p q (deeds_at i p at) (deeds_at j q there) goes is) in
          absurd (omega (arith, low, place))

-- MIRRORS BEFORE THE FIRST STORE
module _ (c : Configuration) (mirrors : Pairs) (ends : EndList Along) (sides : SideList Along) (made : AreMade c mirrors ends sides) where
  -- nothing was stored
  none_stored : (block : ℕ) → stores_at sides block ≡ []
  none_stored block = by (pair_at mirrors block) (end_at ends block) (side_at sides block) (made block)
    where
      by : (p : Option PairValue) (e : Option (EndValue Along)) (s : Option (SideValue Along)) → IsMade block (block_of c block) p e s → stores_by s ≡ []
      by (Some p) (Some e) (Some s) is = is.new.stores
      by p e None is = refl
      by None None (Some s) is = absurd is
      by p e (Some s) is = absurd is

  -- a store is of the block's length
  synchronized_bytes : (block n : ℕ) → sync_length_of c block ≡ Some n → bytes_at sides block ≡ Some n
  synchronized_bytes block n sync = by (pair_at mirrors block) (end_at ends block) (side_at sides block) (block_of c block) (made block) sync
    where
      length_of : (d : BlockDesc) → length_where_sync d.ram d.length ≡ Some n → (is_synchronized d.ram ≡ true) × (d.length ≡ n)
      length_of d is = of d.ram d.length is
        where
          of : (kind : RamKind) (m : ℕ) → length_where_sync kind m ≡ Some n → (is_synchronized kind ≡ true) × (m ≡ n)
          of ram.Sync m same = (refl, cc same)
          of kind m same = absurd (cc same)

      by : (p : Option PairValue) (e : Option (EndValue Along)) (s : Option (SideValue Along)) (d : Option BlockDesc) → IsMade block d p e s
          → option_and_then (λ b. length_where_sync b.ram b.length) d ≡ Some n → bytes_by s ≡ Some n
      by (Some p) (Some e) (Some s) d is there =
          let desc = is.desc in
          let found : length_where_sync desc.ram desc.length ≡ Some n = subst (λ (o : Option BlockDesc). option_and_then (λ b. length_where_sync b.ram b.length) o ≡ Some n) is.is there in
          ap (λ (m : ℕ). Some m) (is.new.length_side ∙ (length_of desc found).1)
      by None None None (Some d) is there = let no_ : true ≡ false = sym (length_of d there).0 ∙ is in absurd (cc no_)
      by None None None None is there = absurd (cc there)
      by p e s d is there = absurd is

  -- no block past the last one has a side
  none_past : (block : ℕ) → length c.blocks < block → side_at sides block ≡ None
  none_past zero past = absurd (omega (arith, past))
  none_past (suc i) past = by (pair_at mirrors (suc i)) (end_at ends (suc i)) (side_at sides (suc i)) (made (suc i))
    where
      by : (p : Option PairValue) (e : Option (EndValue Along)) (s : Option (SideValue Along)) → IsMade (suc i) (block_of c (suc i)) p e s → s ≡ None
      by (Some p) (Some e) (Some s) is = let no_ : None ≡ Some is.desc = sym (slice_get_past c.blocks i (omega (arith, past))) ∙ is.is in absurd (cc no_)
      by p e None is = refl
      by None None (Some s) is = absurd is
      by p e (Some s) is = absurd is

  -- and before the first store the application has what the script has
  first_content : (steps : List Step) (news : EndList Along) (block : ℕ) (e : EndValue Along) → EndGoesOn (end_at ends block) (Some e) → store_content c steps block 0 ≡ Some e.first
  first_content steps news block e on = by (pair_at mirrors block) (end_at ends block) (side_at sides block) (made block) on
    where
      by : (p : Option PairValue) (o : Option (EndValue Along)) (s : Option (SideValue Along)) → IsMade block (block_of c block) p o s → EndGoesOn o (Some e) → store_content c steps block 0 ≡ Some e.first
      by (Some p) (Some o) (Some s) is goes =
          ap (λ (d : Option BlockDesc). Some (unwrap_or (unwrap_or d (plain_block 0)).defaults (replicate (unwrap_or d (plain_block 0)).length 0))) is.is
          ∙ ap (λ (l : List ℕ). Some l) (sym (goes.first ∙ is.new.first))
      by p None s is goes = absurd goes
      by p (Some o) s is goes = absurd is

-- BEHIND A RUN
-- what the stores of each were
abbrev pub sides_in : SidesValue → SideList Along
sides_in s = s.sides

map_at : {A B : Type 0} (f : A → B) (xs : List A) (i : ℕ) (y : B) → slice_get (map f xs) i ≡ Some y → (x : A) × (slice_get xs i ≡ Some x) × (f x ≡ y)
map_at f [] i y at = absurd (cc at)
map_at f (x ∷ xs) zero y at = (x, refl, cc at)
map_at f (x ∷ xs) (suc i) y at = map_at f xs i y at

at_map : {A B : Type 0} (f : A → B) (xs : List A) (i : ℕ) (x : A) → slice_get xs i ≡ Some x → slice_get (map f xs) i ≡ Some (f x)
at_map f xs i x at = slice_get-map f xs i ∙ ap (option_map f) at

all_by : {A : Type 0} (P : A → Type 0) (xs : List A) → ((i : ℕ) (x : A) → slice_get xs i ≡ Some x → P x) → All P xs
all_by P xs each = λ i d low. each i (get_or xs i d) (slice_get-get_or xs i d low)

-- each has as many bytes as before
pub made_bytes : (t : Terms) (ps : List Program) (ss : List Share) (es : List Ending) (fs ns : List SidesValue)
    → AllMade (λ (s : SidesValue). bytes_at s.sides) (λ (s : SidesValue). stores_at s.sides) (λ (s : SidesValue). s.mirrors) t ps ss es fs ns → HaveBytes (map sides_in fs) (map sides_in ns)
made_bytes t [] [] [] [] [] made = tt
made_bytes t (p ∷ ps) (s ∷ ss) (e ∷ es) (f ∷ fs) (n ∷ ns) made = (made.0.same_bytes, made_bytes t ps ss es fs ns made.1)
made_bytes t ps ss es fs ns made = absurd made

-- what comes back from the callers
module _ (t : Terms) (programs : List Program) (mirrors : Pairs) (ends : EndList Along) (sides left : SideList Along) (made : AreMade t.config mirrors ends sides) (firsts nows : List SidesValue) (ending : Ending) (v : View Entry Terms)
    (dealt : AllDealt programs sides (map sides_in firsts) left)
    (ran : HaveRun (λ (s : SidesValue). bytes_at s.sides) (λ (s : SidesValue). stores_at s.sides) (λ (s : SidesValue). s.mirrors) t programs firsts nows ending v) where
  pub still_bytes : HaveBytes (map sides_in firsts) (map sides_in nows)
  still_bytes = made_bytes t programs ran.shares ran.endings firsts nows ran.made

  pub back_apart : AreApart (map sides_in nows) left
  back_apart = dealt_apart programs (map sides_in firsts) (map sides_in nows) sides left dealt still_bytes

  pub back_into : All (λ (s : SidesValue). s.mirrors ≡ mirrors) firsts → All (λ (s : SidesValue). s.mirrors ≡ mirrors) nows
  back_into into = all_by (λ (s : SidesValue). s.mirrors ≡ mirrors) nows (λ i n at.
      let (p, s, e, f, is_p, is_s, is_f, made_f) = made_at (λ (s : SidesValue). bytes_at s.sides) (λ (s : SidesValue). stores_at s.sides) (λ (s : SidesValue). s.mirrors) t programs ran.shares ran.endings firsts nows i n ran.made at in
      made_f.same_mirrors ∙ All-contains (λ (s : SidesValue). s.mirrors ≡ mirrors) firsts f into (contained firsts i f is_f))

  -- no side that wasn't there
  none_new : (i : ℕ) (n : SidesValue) → slice_get nows i ≡ Some n → (block : ℕ) → side_at sides block ≡ None → side_at n.sides block ≡ None
  none_new i n at block none =
      let (p, s, e, f, is_p, is_s, is_f, made_f) = made_at (λ (s : SidesValue). bytes_at s.sides) (λ (s : SidesValue). stores_at s.sides) (λ (s : SidesValue). s.mirrors) t programs ran.shares ran.endings firsts nows i n ran.made at in
      none_still (side_at f.sides block) (side_at n.sides block) (made_f.same_bytes block)
      (elim (dealt_was programs (map sides_in firsts) sides left i block f.sides dealt (at_map sides_in firsts i f is_f)) [ inl is ↦ is | inr same ↦ same ∙ none ])

  pub back_places : All (λ (s : SidesValue). HasPlaces s.sides left) nows
  back_places = all_by (λ (s : SidesValue). HasPlaces s.sides left) nows (λ i n at block. by i n at block (cases_lt block (length sides)))
    where
      by : (i : ℕ) (n : SidesValue) → slice_get nows i ≡ Some n → (block : ℕ) → (block < length sides) ⊎ (length sides ≤ block) → IfSome (side_at n.sides block) (λ s. block < length left)
      by i n at block (inl low) = of_any (side_at n.sides block) (block < length left) (omega (arith, low, dealt_places programs (map sides_in firsts) sides left dealt))
      by i n at block (inr past) = subst (λ (o : Option (SideValue Along)). IfSome o (λ s. block < length left)) (sym (none_new i n at block (get_or_past sides block None past))) tt

  pub back_below : (places : ℕ) → places ≡ length t.config.blocks + 1 → All (λ (s : SidesValue). AreBelow places s.sides) nows
  back_below places are = all_by (λ (s : SidesValue). AreBelow places s.sides) nows (λ i n at block high. none_new i n at block (none_past t.config mirrors ends sides made block (omega (arith, are, high))))

  -- all are in again
  pub all_in : (all : SideList Along) → AllGathered (map sides_in nows) left all → AreIn mirrors sides → AreIn mirrors all
  all_in all back are block =
      there_still sides all block (gathered_bytes programs (map sides_in firsts) (map sides_in nows) sides left all block dealt still_bytes back) ∙ are block

module _ (t : Terms) (steps : List Step) (run : AreRun t.config steps) (mirrors : Pairs) (ends : EndList Along) (sides left all : SideList Along) (made : AreMade t.config mirrors ends sides) (firsts nows : List SidesValue) (ending : Ending) (v : View Entry Terms) (h : List Entry)
    (dealt : AllDealt (programs_of t.config steps) sides (map sides_in firsts) left)
    (ran : HaveRun (λ (s : SidesValue). bytes_at s.sides) (λ (s : SidesValue). stores_at s.sides) (λ (s : SidesValue). s.mirrors) t (programs_of t.config steps) firsts nows ending v)
    (closed : IsClosedBy v h) (first : BeginsUnasked h) where
  abbrev c : Configuration
  c = t.config

  abbrev programs : List Program
  programs = programs_of t.config steps

  -- a program's caller stored nothing yet, and its deeds' stores are of as many bytes as their blocks take
  may_store : (i : ℕ) (p : Program) (f : SidesValue) → slice_get programs i ≡ Some p → slice_get firsts i ≡ Some f → ((block : ℕ) → stores_at f.sides block ≡ []) × All (MayStore (bytes_at f.sides)) p.deeds
  may_store i p f at there = (
    λ block. nothing block,
    λ k e inside. of_deed k e inside (get_or p.deeds k e) refl,
  )
    where
      here : slice_get (map sides_in firsts) i ≡ Some f.sides
      here = at_map sides_in firsts i f there

      nothing : (block : ℕ) → stores_at f.sides block ≡ []
      nothing block = elim (dealt_was programs (map sides_in firsts) sides left i block f.sides dealt here) [
        | inl none ↦ ap stores_by none
        | inr same ↦ ap stores_by same ∙ none_stored c mirrors ends sides made block
      ]

      may_do : All (MayDo c) p.deeds
      may_do = subst (λ (ds : List Deed). All (MayDo c) ds) (deeds_at c steps run i p at) (deeds_may_be_done c steps p.caller run)

      of_deed : (k : ℕ) (e : Deed) → k < length p.deeds → (d : Deed) → get_or p.deeds k e ≡ d → MayStore (bytes_at f.sides) (get_or p.deeds k e)
      of_deed k e inside (Ask line r) is = subst (MayStore (bytes_at f.sides)) (sym is) tt
      of_deed k e inside (Await line block) is = subst (MayStore (bytes_at f.sides)) (sym is) tt
      of_deed k e inside (Store line block number content) is =
          let may : sync_length_of c block ≡ Some (length content) = subst (MayDo c) is (may_do k e inside) in
          let goes = stores_there block line number content p.deeds k e inside is in
          let own = dealt_own programs (map sides_in firsts) sides left i block p f.sides dealt at here goes (λ j q low is_q. alone c steps run block i j p q at goes low is_q) in
          subst (MayStore (bytes_at f.sides)) (sym is) (ap bytes_by own ∙ synchronized_bytes c mirrors ends sides made block (length content) may)

  -- what the driver's end of a block took was stored by one caller, or nothing was
  pub were_stored : (news : EndList Along) → EndsGoOn ends news → AllGathered (map sides_in nows) left all → HaveBytes (map sides_in firsts) (map sides_in nows) → AreClosed news all
      → WereStored c t.cap h steps news
  were_stored news on back same shut block = by (end_at news block) (on block) (shut block)
    where
      there : (s : Option (SideValue Along)) → side_at all block ≡ s → is_some (side_at sides block) ≡ true → (x : SideValue Along) × (s ≡ Some x)
      there (Some x) is has = (x, refl)
      there None is has =
          let no_ : false ≡ true = ap is_some (sym is) ∙ there_still sides all block (gathered_bytes programs (map sides_in firsts) (map sides_in nows) sides left all block dealt same back) ∙ has in absurd (cc no_)

      has_side : (p : Option PairValue) (o : Option (EndValue Along)) (s : Option (SideValue Along)) (e : EndValue Along) → IsMade block (block_of c block) p o s → EndGoesOn o (Some e) → is_some s ≡ true
      has_side (Some p) (Some o) (Some s) e is goes = refl
      has_side p None s e is goes = absurd goes
      has_side p (Some o) s e is goes = absurd is

      of_side : (e : EndValue Along) (s : SideValue Along) → side_at all block ≡ Some s → EndGoesOn (end_at ends block) (Some e) → IsClosed e s → WasStored c t.cap h steps block e
      of_side e s is goes took = record {
        stores = s.up.stores;
        got = took.got;
        first = first_content c mirrors ends sides made steps news block e goes;
        by = elim (gathered_was (map sides_in nows) left all block s back is) [
          | inl (i, o, at, here) ↦ (
              let (now, is_now, same_sides) = map_at sides_in nows i o at in
              let (caller, has) = stored_by (λ (x : SidesValue). bytes_at x.sides) (λ (x : SidesValue). stores_at x.sides) (λ (x : SidesValue). x.mirrors) t steps firsts nows ending v h run ran closed first i now is_now
              (λ p f is_p is_f. may_store i p f is_p is_f) in
              inr (caller, stores_at now.sides, has, ap (λ (l : SideList Along). stores_at l block) same_sides ∙ ap stores_by here))
          | inr rest ↦ inl (ap stores_by (sym (dealt_left programs (map sides_in firsts) sides left block s dealt rest)) ∙ none_stored c mirrors ends sides made block)
        ];
      }

      by : (o : Option (EndValue Along)) → EndGoesOn (end_at ends block) o → IfSome o (λ e. IfSome (side_at all block) (λ s. IsClosed e s)) → IfSome o (WasStored c t.cap h steps block)
      by None goes took = tt
      by (Some e) goes took =
          let (s, is) = there (side_at all block) refl (has_side (pair_at mirrors block) (end_at ends block) (side_at sides block) e (made block) goes) in
          of_side e s is goes (subst (λ (o : Option (SideValue Along)). IfSome o (λ x. IsClosed e x)) is took)

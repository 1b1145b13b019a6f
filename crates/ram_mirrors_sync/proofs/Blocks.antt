-- Mirrors that are made, block by block.
use Rattle.std.specs.Prelude.{is_some, slice_get, unwrap_or, IfSome, replicate}
use Rattle.std.proofs.Common.{◌≡◌, ℕ, zero, suc, ◌+◌, ◌<◌, ◌≤◌, true, false, List, [], ◌∷◌, ◌++◌, length, map, get_or, option_map, Option, Some, None, refl, sym, ap, ◌∙◌, subst, arith, length-append, lt_of_not-le}
use Rattle.std.proofs.lemmas.List.{get_or_append_left, get_or_past, length-replicate}
use Rattle.std.proofs.Math.Seq.{get_or-append_seam}
use Rattle.std.proofs.Math.ListN.{get_or-map}
use mathlib.Core.Logic.{dite}
use native.Mathlib.Decide.{ℕ_discrete, dec_le}
use Rattle.block_machine.specs.block_config.declared.block.BlockDesc.{BlockDesc}
use Rattle.block_machine.specs.block_config.declared.block.BlockKind.{BlockKind}
use Rattle.block_machine.specs.block_config.declared.block.BlockKind.TheVariants.{Native, Redundant, Dataset}
use Rattle.block_machine.specs.block_config.Block.{plain_block, manager_block}
use Rattle.block_machine.specs.block_config.Config.{Configuration, block_of}
use Rattle.block_machine.specs.block_config.Rules.{IsLegalBlock, AreDefaults}
use Rattle.block_machine.specs.Blocks.{desc_of, is_synchronized}
use Rattle.ram_blocks.specs.Told.{Synchronized, IsSynchronized}
use Rattle.ram_mirrors_sync.specs.Ends.{PairValue, EndValue}
use Rattle.ram_mirrors_sync.specs.Blocks.{SideValue, Pairs, EndList, SideList, pair_at, end_at, side_at, HasEnd, IsSideBy, IsSideIn, AreEndsOf, AreSidesOf, AreIn, IsMirrored, IsMade, AreMade, first_of, told_by}

-- what stands before the last stays, and the last is at the end
before_last : {A : Type 0} (xs ys : List (Option A)) (x : Option A) (n id : ℕ) → ys ≡ xs ++ x ∷ [] → length xs ≡ n → id < n → get_or ys id None ≡ get_or xs id None
before_last xs ys x n id is count below = ap (λ l. get_or l id None) is ∙ get_or_append_left xs (x ∷ []) None id (omega (arith, count, below))

at_end : {A : Type 0} (xs ys : List (Option A)) (x : Option A) (n : ℕ) → ys ≡ xs ++ x ∷ [] → length xs ≡ n → get_or ys n None ≡ x
at_end xs ys x n is count = ap (λ l. get_or l n None) is ∙ subst (λ (k : ℕ). get_or (xs ++ x ∷ []) k None ≡ x) count (get_or-append_seam xs x [] None)

longer : {A : Type 0} (xs ys : List (Option A)) (x : Option A) (n : ℕ) → ys ≡ xs ++ x ∷ [] → length xs ≡ n → length ys ≡ n + 1
longer xs ys x n is count = ap length is ∙ length-append xs (x ∷ []) ∙ ap (λ (k : ℕ). k + 1) count

-- ALL OF THEM
no_desc : (bs : List BlockDesc) (i : ℕ) → length bs ≤ i → slice_get bs i ≡ None
no_desc [] i out = refl
no_desc (b ∷ bs) zero out = absurd (omega (arith, out))
no_desc (b ∷ bs) (suc i) out = no_desc bs i (omega (arith, out))

no_block : (c : Configuration) (id : ℕ) → length c.blocks + 1 ≤ id → block_of c id ≡ None
no_block c zero out = absurd (omega (arith, out))
no_block c (suc i) out = no_desc c.blocks i (omega (arith, out))

not_synchronized : (d : Option BlockDesc) (X : Type 0) → IfSome d (λ x. is_synchronized x.ram ≡ false) → is_synchronized (unwrap_or d (plain_block 0)).ram ≡ true → X
not_synchronized None X is sync = cc
not_synchronized (Some d) X is sync = cc

-- THE FIRST CONTENT
content_of : (kind : BlockKind) (n : ℕ) (defaults : Option (List ℕ)) → AreDefaults kind n defaults → length (unwrap_or defaults (replicate n 0)) ≡ n
content_of kind n None are = length-replicate n 0
content_of Native n (Some bytes) are = are
content_of Redundant n (Some bytes) are = are
content_of Dataset n (Some bytes) are = absurd are

pub legal_first : (manager id : ℕ) (d : BlockDesc) → 1 ≤ id → (id ≡ 1 → d ≡ manager_block manager) → (2 ≤ id → IsLegalBlock d) → is_synchronized d.ram ≡ true → length (first_of d) ≡ d.length
legal_first manager id d pos first others sync = dite (ℕ_discrete id 1)
    (λ one. absurd (never (ap (λ (b : BlockDesc). is_synchronized b.ram) (sym (first one)) ∙ sync)))
    (λ more. content_of d.kind d.length d.defaults (others (omega (arith, pos, more))).defaults)
  where
    never : false ≡ true → ⊥
    never e = cc

-- of a block that is described
pub legal_all : {X : Type 0} (manager id : ℕ) (o : Option X) (now : X → BlockDesc) → 1 ≤ id → IfSome o (λ b. id ≡ 1 → now b ≡ manager_block manager) → IfSome o (λ b. 2 ≤ id → IsLegalBlock (now b))
    → IfSome o (λ d. is_synchronized (now d).ram ≡ true → length (first_of (now d)) ≡ (now d).length)
legal_all manager id None now pos first others = tt
legal_all manager id (Some b) now pos first others = legal_first manager id (now b) pos first others

module _ {N : Type 0} where
  -- those of the ids below a number
  pub record AreMadeTo (c : Configuration) (n : ℕ) (ps : Pairs) (es : EndList N) (ss : SideList N) : Type 0 where
    pub pairs : length ps ≡ n
    pub ends : length es ≡ n
    pub sides : length ss ≡ n
    pub each : (id : ℕ) → id < n → IsMade id (block_of c id) (pair_at ps id) (end_at es id) (side_at ss id)

  made_as : (id : ℕ) (d : Option BlockDesc) (p q : Option PairValue) (e f : Option (EndValue N)) (s t : Option (SideValue N)) → q ≡ p → f ≡ e → t ≡ s → IsMade id d p e s → IsMade id d q f t
  made_as id d p q e f s t one two three is =
      subst (λ (x : Option (SideValue N)). IsMade id d q f x) (sym three)
      (subst (λ (x : Option (EndValue N)). IsMade id d q x s) (sym two) (subst (λ (x : Option PairValue). IsMade id d x e s) (sym one) is))

  pub one_more : (c : Configuration) (n m : ℕ) (ps qs : Pairs) (es fs : EndList N) (ss ts : SideList N) (p : Option PairValue) (e : Option (EndValue N)) (s : Option (SideValue N)) → m ≡ n + 1
      → AreMadeTo c n ps es ss → qs ≡ ps ++ p ∷ [] → fs ≡ es ++ e ∷ [] → ts ≡ ss ++ s ∷ [] → IsMade n (block_of c n) p e s → AreMadeTo c m qs fs ts
  one_more c n m ps qs es fs ss ts p e s next made pairs ends sides is = record {
    pairs = longer ps qs p n pairs made.pairs ∙ sym next;
    ends = longer es fs e n ends made.ends ∙ sym next;
    sides = longer ss ts s n sides made.sides ∙ sym next;
    each = λ id below. dite (ℕ_discrete id n)
        (λ same. subst (λ (k : ℕ). IsMade k (block_of c k) (pair_at qs k) (end_at fs k) (side_at ts k)) (sym same)
        (made_as n (block_of c n) p (pair_at qs n) e (end_at fs n) s (side_at ts n) (at_end ps qs p n pairs made.pairs) (at_end es fs e n ends made.ends) (at_end ss ts s n sides made.sides) is))
        (λ other. let less : id < n = omega (arith, below, next, other) in
        made_as id (block_of c id) (pair_at ps id) (pair_at qs id) (end_at es id) (end_at fs id) (side_at ss id) (side_at ts id)
        (before_last ps qs p n id pairs made.pairs less) (before_last es fs e n id ends made.ends less) (before_last ss ts s n id sides made.sides less) (made.each id less));
  }

  -- none before the first
  pub none_yet : (c : Configuration) → AreMadeTo c 0 [] [] []
  none_yet c = record { pairs = refl; ends = refl; sides = refl; each = λ id below. absurd (omega (arith, below)) }

  pub all_made : (c : Configuration) (n : ℕ) (ps : Pairs) (es : EndList N) (ss : SideList N) → n ≡ length c.blocks + 1 → AreMadeTo c n ps es ss → AreMade c ps es ss
  all_made c n ps es ss all made id = dite (dec_le n id)
      (λ out. subst (λ (d : Option BlockDesc). IsMade id d (pair_at ps id) (end_at es id) (side_at ss id)) (sym (no_block c id (omega (arith, out, all))))
      (made_as id None None (pair_at ps id) None (end_at es id) None (side_at ss id)
      (get_or_past ps id None (omega (arith, out, made.pairs))) (get_or_past es id None (omega (arith, out, made.ends))) (get_or_past ss id None (omega (arith, out, made.sides))) tt))
      (λ below. made.each id (lt_of_not-le below))

  -- WHAT IS SO OF THEM
  -- what is so of all three, and of none of them, is so of what is made
  made_cases : (P : Option PairValue → Option (EndValue N) → Option (SideValue N) → Type 0) (id : ℕ) (d : Option BlockDesc) (p : Option PairValue) (e : Option (EndValue N)) (s : Option (SideValue N)) → IsMade id d p e s
      → ((q : PairValue) (f : EndValue N) (t : SideValue N) → IsMirrored id d q f t → P (Some q) (Some f) (Some t)) → (IfSome d (λ x. is_synchronized x.ram ≡ false) → P None None None) → P p e s
  made_cases P id d (Some p) (Some e) (Some s) is all none = all p e s is
  made_cases P id d (Some p) (Some e) None is all none = absurd is
  made_cases P id d (Some p) None (Some s) is all none = absurd is
  made_cases P id d (Some p) None None is all none = absurd is
  made_cases P id d None (Some e) (Some s) is all none = absurd is
  made_cases P id d None (Some e) None is all none = absurd is
  made_cases P id d None None (Some s) is all none = absurd is
  made_cases P id d None None None is all none = none is

  pub ends_made : (c : Configuration) (ps : Pairs) (es : EndList N) (ss : SideList N) → AreMade c ps es ss → AreEndsOf ps es
  ends_made c ps es ss made id = made_cases (λ p e _. HasEnd p e) id (block_of c id) (pair_at ps id) (end_at es id) (side_at ss id) (made id) (λ p e s is. is.end) (λ _. tt)

  pub sides_made : (c : Configuration) (ps : Pairs) (es : EndList N) (ss : SideList N) → AreMade c ps es ss → AreSidesOf ps ss
  sides_made c ps es ss made id = made_cases (λ p _ s. pair_at ps id ≡ p → IfSome s (λ x. (x.block ≡ id) × IsSideIn ps x)) id (block_of c id) (pair_at ps id) (end_at es id) (side_at ss id) (made id)
      (λ p e s is at. (is.block, subst (λ (k : ℕ). IsSideBy (pair_at ps k) s) (sym is.block) (subst (λ (o : Option PairValue). IsSideBy o s) (sym at) is.side)))
      (λ _ _. tt) refl

  pub all_in : (c : Configuration) (ps : Pairs) (es : EndList N) (ss : SideList N) → AreMade c ps es ss → AreIn ps ss
  all_in c ps es ss made id = made_cases (λ p _ s. is_some s ≡ is_some p) id (block_of c id) (pair_at ps id) (end_at es id) (side_at ss id) (made id) (λ p e s is. refl) (λ _. refl)

  synchronized_by : (id : ℕ) (d : Option BlockDesc) (p : Option PairValue) (e : Option (EndValue N)) (s : Option (SideValue N)) → IsMade id d p e s
      → is_synchronized (unwrap_or d (plain_block 0)).ram ≡ true → option_map (λ (x : Synchronized). x.bytes) (told_by e) ≡ Some (unwrap_or d (plain_block 0)).length
  synchronized_by id d p e s is sync = made_cases (λ _ f _. option_map (λ (x : Synchronized). x.bytes) (told_by f) ≡ Some (unwrap_or d (plain_block 0)).length) id d p e s is
      (λ p e s is. ap Some is.new.length_up ∙ ap (λ (o : Option BlockDesc). Some (unwrap_or o (plain_block 0)).length) (sym is.is))
      (λ none. not_synchronized d _ none sync)

  pub synchronized_made : (c : Configuration) (ps : Pairs) (es : EndList N) (ss : SideList N) → AreMade c ps es ss
      → (id : ℕ) → is_synchronized (desc_of c id).ram ≡ true → IsSynchronized (map told_by es) id (desc_of c id).length
  synchronized_made c ps es ss made id sync =
      ap (option_map (λ (x : Synchronized). x.bytes)) (get_or-map told_by es id None)
      ∙ synchronized_by id (block_of c id) (pair_at ps id) (end_at es id) (side_at ss id) (made id) sync

-- Mirrors that are closed, block by block.
use Rattle.std.specs.Prelude.{is_some, IfSome}
use Rattle.std.proofs.Common.{◌≡◌, ℕ, ◌+◌, ◌<◌, ◌≤◌, List, length, get_or, slice_set, Option, Some, None, refl, sym, ap, ◌∙◌, subst, arith, length-set, get_or-set_other, lt_of_not-le}
use Rattle.std.proofs.lemmas.List.{get_or_past}
use mathlib.Core.Logic.{dite}
use native.Mathlib.Decide.{ℕ_discrete, dec_le}
use Rattle.ram_mirrors_sync.specs.Ends.{PairValue, EndValue, IsEndOf}
use Rattle.ram_mirrors_sync.specs.Blocks.{SideValue, Pairs, EndList, SideList, pair_at, end_at, side_at, HasEnd, IsSideBy, IsSideIn, IsSideOf, AreEndsOf, AreSidesOf, AreIn, IsClosed, AreClosed}

set_as : {A : Type 0} (xs ys : List (Option A)) (i j : ℕ) → ys ≡ slice_set xs i None → i < j → get_or ys j None ≡ get_or xs j None
set_as xs ys i j is less = ap (λ l. get_or l j None) is ∙ get_or-set_other xs i j None None (λ same. omega (arith, less, same))

module _ {N : Type 0} where
  -- what is so of a block's ends at the end
  abbrev pub IsClosedAt : Option (EndValue N) → Option (SideValue N) → Type 0
  IsClosedAt e s = IfSome e (λ x. IfSome s (λ y. IsClosed x y))

  -- those of the ids below a number are closed, the others are there
  pub record AreClosedTo (n : ℕ) (ps qs : Pairs) (es fs : EndList N) (ss ts : SideList N) : Type 0 where
    pub count : length qs ≡ length ps
    pub closed : (id : ℕ) → id < n → IsClosedAt (end_at es id) (side_at ss id)
    pub pairs : (id : ℕ) → n ≤ id → pair_at qs id ≡ pair_at ps id
    pub ends : (id : ℕ) → n ≤ id → end_at fs id ≡ end_at es id
    pub sides : (id : ℕ) → n ≤ id → side_at ts id ≡ side_at ss id

  pub none_closed : (ps : Pairs) (es : EndList N) (ss : SideList N) → AreClosedTo 0 ps ps es es ss ss
  none_closed ps es ss = record { count = refl; closed = λ id below. absurd (omega (arith, below)); pairs = λ id from. refl; ends = λ id from. refl; sides = λ id from. refl }

  pub one_closed : (n m : ℕ) (ps qs rs : Pairs) (es fs gs : EndList N) (ss ts us : SideList N) → m ≡ n + 1 → AreClosedTo n ps qs es fs ss ts
      → rs ≡ slice_set qs n None → gs ≡ slice_set fs n None → us ≡ slice_set ts n None → IsClosedAt (end_at es n) (side_at ss n) → AreClosedTo m ps rs es gs ss us
  one_closed n m ps qs rs es fs gs ss ts us next to pairs ends sides now = record {
    count = ap length pairs ∙ length-set qs n None ∙ to.count;
    closed = λ id below. dite (ℕ_discrete id n) (λ same. subst (λ (k : ℕ). IsClosedAt (end_at es k) (side_at ss k)) (sym same) now) (λ other. to.closed id (omega (arith, below, next, other)));
    pairs = λ id from. set_as qs rs n id pairs (omega (arith, from, next)) ∙ to.pairs id (omega (arith, from, next));
    ends = λ id from. set_as fs gs n id ends (omega (arith, from, next)) ∙ to.ends id (omega (arith, from, next));
    sides = λ id from. set_as ts us n id sides (omega (arith, from, next)) ∙ to.sides id (omega (arith, from, next));
  }

  -- ALL OF THEM
  no_end : (p : Option PairValue) (e : Option (EndValue N)) (s : Option (SideValue N)) → p ≡ None → HasEnd p e → IsClosedAt e s
  no_end p None s none has = tt
  no_end p (Some e) s none has = absurd (subst (λ (x : Option PairValue). HasEnd x (Some e)) none has)

  pub all_closed : (n : ℕ) (ps qs : Pairs) (es fs : EndList N) (ss ts : SideList N) → length qs ≤ n → AreEndsOf ps es → AreClosedTo n ps qs es fs ss ts → AreClosed es ss
  all_closed n ps qs es fs ss ts all are to id = dite (dec_le n id)
      (λ out. no_end (pair_at ps id) (end_at es id) (side_at ss id) (get_or_past ps id None (omega (arith, all, out, to.count))) (are id))
      (λ below. to.closed id (lt_of_not-le below))

  -- A BLOCK
  -- the side that stands at a block's place is that of its mirrors
  pub side_here : (ps : Pairs) (i : ℕ) (o : Option (SideValue N)) → IfSome o (λ s. (s.block ≡ i) × IsSideIn ps s) → IfSome o (λ s. IsSideBy (pair_at ps i) s)
  side_here ps i None is = tt
  side_here ps i (Some s) (block, is) = subst (λ (k : ℕ). IsSideBy (pair_at ps k) s) block is

  -- all sides are in where those of as many places are as there are
  pub all_in : (ps : Pairs) (ss : SideList N) (n : ℕ) → length ss ≤ n → length ps ≤ n → ((id : ℕ) → id < n → is_some (side_at ss id) ≡ is_some (pair_at ps id)) → AreIn ps ss
  all_in ps ss n sides pairs are id = dite (dec_le n id)
      (λ out. ap is_some (get_or_past ss id None (omega (arith, sides, out))) ∙ sym (ap is_some (get_or_past ps id None (omega (arith, pairs, out)))))
      (λ below. are id (lt_of_not-le below))

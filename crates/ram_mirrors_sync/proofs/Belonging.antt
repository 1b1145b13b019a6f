-- The ends of a block's mirrors.
use Rattle.std.specs.Prelude.{IfSome, IsSome, unwrap_or}
use Rattle.std.proofs.Common.{◌≡◌, ℕ, zero, suc, [], ◌∷◌, ◌++◌, map, get_or, option_map, slice_set, Option, Some, None, refl, sym, ap, ◌∙◌, subst}
use Rattle.std.proofs.Math.ListN.{get_or-map}
use Rattle.ram_blocks.specs.Told.{Synchronized, IsSynchronized}
use Rattle.ram_mirrors_sync.specs.Ends.{PairValue, EndValue, IsEndOf}
use Rattle.ram_mirrors_sync.specs.Blocks.{Pairs, EndList, SideValue, SideList, HasEnd, AreEndsOf, AreSidesOf, IsSideIn, end_at, pair_at, side_at, told_by}
use Rattle.ram_mirrors_sync.proofs.Copies.{told_one}

module _ {N : Type 0} where
  has_end : (o : Option PairValue) (q : Option (EndValue N)) (p : PairValue) (e : EndValue N) → o ≡ Some p → q ≡ Some e → HasEnd o q → IsEndOf p e
  has_end o q p e one two has = subst (λ (x : Option (EndValue N)). HasEnd (Some p) x) two (subst (λ (x : Option PairValue). HasEnd x q) one has)

  pub owns : (ps : Pairs) (es : EndList N) (b i : ℕ) (p : PairValue) (e : EndValue N) → AreEndsOf ps es → i ≡ b → end_at es i ≡ Some e → pair_at ps b ≡ Some p → IsEndOf p e
  owns ps es b i p e are same at pair = has_end (pair_at ps b) (end_at es b) p e pair (subst (λ (k : ℕ). end_at es k ≡ Some e) same at) (are b)

  -- a side that takes a place
  pub set_holds : (P : ℕ → SideValue N → Type 0) (xs : SideList N) (i : ℕ) (s : SideValue N) → P i s → ((id : ℕ) → IfSome (side_at xs id) (P id)) → (id : ℕ) → IfSome (side_at (slice_set xs i (Some s)) id) (P id)
  set_holds P [] i s new all id = all id
  set_holds P (y ∷ ys) zero s new all zero = new
  set_holds P (y ∷ ys) zero s new all (suc id) = all (suc id)
  set_holds P (y ∷ ys) (suc i) s new all zero = all zero
  set_holds P (y ∷ ys) (suc i) s new all (suc id) = set_holds (λ n. P (suc n)) ys i s new (λ n. all (suc n)) id

  -- no side is a side of any mirrors
  pub none_are_sides : (ps : Pairs) (ss : SideList N) → ((id : ℕ) → side_at ss id ≡ None) → AreSidesOf ps ss
  none_are_sides ps ss none id = subst (λ (o : Option (SideValue N)). IfSome o (λ s. (s.block ≡ id) × IsSideIn ps s)) (sym (none id)) tt

  -- one more place without a side
  pub none_more : (ss : SideList N) → ((id : ℕ) → side_at ss id ≡ None) → (id : ℕ) → side_at (ss ++ None ∷ []) id ≡ None
  none_more [] none zero = refl
  none_more [] none (suc id) = refl
  none_more (x ∷ xs) none zero = none zero
  none_more (x ∷ xs) none (suc id) = none_more xs (λ n. none (suc n)) id

  -- an end that takes a place
  set_end : (P : ℕ → Option (EndValue N) → Type 0) (es : EndList N) (i : ℕ) (new : EndValue N) → P i (Some new) → ((id : ℕ) → P id (end_at es id)) → (id : ℕ) → P id (end_at (slice_set es i (Some new)) id)
  set_end P [] i new is all id = all id
  set_end P (y ∷ ys) zero new is all zero = is
  set_end P (y ∷ ys) zero new is all (suc id) = all (suc id)
  set_end P (y ∷ ys) (suc i) new is all zero = all zero
  set_end P (y ∷ ys) (suc i) new is all (suc id) = set_end (λ n. P (suc n)) ys i new is (λ n. all (suc n)) id

  pub ends_set : (ps : Pairs) (es : EndList N) (b i : ℕ) (p : PairValue) (new : EndValue N) → AreEndsOf ps es → i ≡ b → pair_at ps b ≡ Some p → IsEndOf p new → AreEndsOf ps (slice_set es i (Some new))
  ends_set ps es b i p new are same pair is =
      set_end (λ id q. HasEnd (pair_at ps id) q) es i new
      (subst (λ (k : ℕ). HasEnd (pair_at ps k) (Some new)) (sym same) (subst (λ (o : Option PairValue). HasEnd o (Some new)) (sym pair) is)) are

  -- a block with an end has mirrors
  some_pair : (o : Option PairValue) (q : Option (EndValue N)) (e : EndValue N) → q ≡ Some e → HasEnd o q → IsSome o
  some_pair (Some p) q e is has = refl
  some_pair None (Some f) e is has = absurd has
  some_pair None None e is has = cc

  pub pair_there : (ps : Pairs) (es : EndList N) (b i : ℕ) (e : EndValue N) → AreEndsOf ps es → i ≡ b → end_at es i ≡ Some e → IsSome (pair_at ps b)
  pair_there ps es b i e are same at = some_pair (pair_at ps b) (end_at es b) e (subst (λ (k : ℕ). end_at es k ≡ Some e) same at) (are b)

  -- a content of its length is of the length of its mirrors
  pub size_there : (es : EndList N) (b i n : ℕ) (e : EndValue N) → i ≡ b → end_at es i ≡ Some e → IsSynchronized (map told_by es) b n → n ≡ e.up.size
  size_there es b i n e same at is =
      ap (λ (o : Option ℕ). unwrap_or o 0) (sym is ∙ ap (option_map (λ (s : Synchronized). s.bytes)) (told_one es b e (subst (λ (k : ℕ). end_at es k ≡ Some e) same at)))

  -- a synchronized block has an end
  no_bytes : (q : Option (EndValue N)) (n : ℕ) → q ≡ None → option_map (λ (s : Synchronized). s.bytes) (told_by q) ≡ Some n → ⊥
  no_bytes None n none is = cc
  no_bytes (Some e) n none is = cc

  none_read : (o q : Option (EndValue N)) → o ≡ None → o ≡ q → q ≡ None
  none_read o q none read = sym read ∙ none

  pub none_there : (es : EndList N) (b i n : ℕ) (o : Option (EndValue N)) → i ≡ b → o ≡ get_or es i o → o ≡ None → IsSynchronized (map told_by es) b n → ⊥
  none_there es b i n o same read none is =
      no_bytes (end_at es b) n
      (subst (λ (k : ℕ). end_at es k ≡ None) same (none_read o (end_at es i) none (subst (λ (z : Option (EndValue N)). o ≡ get_or es i z) none read)))
      (sym (ap (option_map (λ (s : Synchronized). s.bytes)) (get_or-map told_by es b None)) ∙ is)

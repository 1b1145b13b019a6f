-- Sides go over to callers.
use Rattle.nvm_callers.proofs.Common.{◌||◌, ◌≡◌, ◌<◌, ℕ, Bool, true, false, List, [], ◌∷◌, ◌++◌, length, Option, Some, None, refl, sym, ap, ◌∙◌, subst, inl, inr, arith, eqb_tells, eqb-false, eq-eqb, ne_eqb, or-true, or-false, or_assoc, cases_lt, get_or_past, length-set, SideList, SideValue, side_at, Deed, Store, is_store_into, store_into, moved, kept, IsDealt, HasPlaces, IsFree, GoesOver, set, get_or-set_same, get_or-set_other}
use Rattle.std.specs.Prelude.{◌==◌}
use Rattle.std.proofs.Common.{IfSome}

-- what holds anyway holds of a value, if there is one
pub of_any : {A : Type 0} (o : Option A) (P : Type 0) → P → IfSome o (λ _. P)
of_any (Some x) P is = is
of_any None P is = tt

pub goes_over : {N : Type 0} (block : ℕ) (from to from_new to_new : SideList N) (side : SideValue N) → Some side ≡ side_at from block → from_new ≡ set from block None → to_new ≡ set to side.block (Some side)
    → side.block ≡ block → block < length to → block < length from → GoesOver block from to from_new to_new
goes_over {N} block from to from_new to_new side taken left put own place here =
    let put_at : to_new ≡ set to block (Some side) = put ∙ ap (λ (n : ℕ). set to n (Some side)) own in
    record {
      others = λ b other. (
        ap (λ (l : SideList N). side_at l b) put_at ∙ get_or-set_other to block b (Some side) None (eqb-false b block other),
        ap (λ (l : SideList N). side_at l b) left ∙ get_or-set_other from block b None None (eqb-false b block other),
      );
      none = λ none. let no_ : Some side ≡ None = taken ∙ none in absurd (cc no_);
      some = λ s is.
          let same : Some side ≡ Some s = taken ∙ is in (
            ap (λ (l : SideList N). side_at l block) put_at ∙ get_or-set_same to block (Some side) None place ∙ same,
            ap (λ (l : SideList N). side_at l block) left ∙ get_or-set_same from block None None here,
          );
      places = ap length put_at ∙ length-set to block (Some side);
      left_places = ap length left ∙ length-set from block None;
    }

pub stays_over : {N : Type 0} (block : ℕ) (from to : SideList N) → side_at from block ≡ None → GoesOver block from to from to
stays_over block from to none = record {
  others = λ b other. (refl, refl);
  none = λ is. (refl, is);
  some = λ s is. let no_ : None ≡ Some s = sym none ∙ is in absurd (cc no_);
  places = refl;
  left_places = refl;
}

-- DEEDS
store_more : (block : ℕ) (ds : List Deed) (d : Deed) → store_into block (ds ++ d ∷ []) ≡ (store_into block ds || is_store_into block d)
store_more block [] d = or-false (is_store_into block d)
store_more block (x ∷ xs) d = ap (λ (b : Bool). is_store_into block x || b) (store_more block xs d) ∙ sym (or_assoc (is_store_into block x) (store_into block xs) (is_store_into block d))

module _ {N : Type 0} (ds : List Deed) (first own left : SideList N) (dealt : IsDealt ds first own left) where
  pub free_at : IsFree left own
  free_at block = by (store_into block ds) (dealt.own_at block) (dealt.left_at block)
    where
      by : (b : Bool) → side_at own block ≡ moved b (side_at first block) → side_at left block ≡ kept b (side_at first block) → IfSome (side_at left block) (λ _. side_at own block ≡ None)
      by true here there = subst (λ (o : Option (SideValue N)). IfSome o (λ _. side_at own block ≡ None)) (sym there) tt
      by false here there = of_any (side_at left block) (side_at own block ≡ None) here

  -- a deed that stores into none
  pub dealt_same : (d : Deed) → ((block : ℕ) → is_store_into block d ≡ false) → IsDealt (ds ++ d ∷ []) first own left
  dealt_same d none =
      let same : (block : ℕ) → store_into block (ds ++ d ∷ []) ≡ store_into block ds = λ block. store_more block ds d ∙ ap (λ (b : Bool). store_into block ds || b) (none block) ∙ or-false (store_into block ds) in
      record {
        own_at = λ block. subst (λ (b : Bool). side_at own block ≡ moved b (side_at first block)) (sym (same block)) (dealt.own_at block);
        left_at = λ block. subst (λ (b : Bool). side_at left block ≡ kept b (side_at first block)) (sym (same block)) (dealt.left_at block);
        places = dealt.places;
      }

  -- one that stores into this block
  module _ (block : ℕ) (own_new left_new : SideList N) (over : GoesOver block left own left_new own_new) where
    abbrev At : ℕ → Bool → Type 0
    At b goes = (side_at own_new b ≡ moved goes (side_at first b)) × (side_at left_new b ≡ kept goes (side_at first b))

    -- of this block
    here : (goes : Bool) → side_at own block ≡ moved goes (side_at first block) → side_at left block ≡ kept goes (side_at first block) → At block true
    here true mine rest = let is = over.none rest in (is.0 ∙ mine, is.1)
    here false mine rest = by (side_at first block) refl
      where
        by : (o : Option (SideValue N)) → side_at first block ≡ o → At block true
        by (Some s) is = let went = over.some s (rest ∙ is) in (went.0 ∙ sym is, went.1)
        by None is = let stays = over.none (rest ∙ is) in (stays.0 ∙ mine ∙ sym is, stays.1)

    at : (b : ℕ) → At b (store_into b ds || (block == b))
    at b = elim (eqb_tells b block) [
      | inl is ↦
          let now : (store_into b ds || (block == b)) ≡ true = ap (λ (n : ℕ). store_into b ds || (block == n)) is.1 ∙ ap (λ (t : Bool). store_into b ds || t) (eq-eqb block block refl) ∙ or-true (store_into b ds) in
          subst (At b) (sym now) (subst (λ (n : ℕ). At n true) (sym is.1) (here (store_into block ds) (dealt.own_at block) (dealt.left_at block)))
      | inr other ↦
          let now : (store_into b ds || (block == b)) ≡ store_into b ds = ap (λ (t : Bool). store_into b ds || t) (ne_eqb block b (λ same. other.1 (sym same))) ∙ or-false (store_into b ds) in
          let stays = over.others b other.0 in
          subst (At b) (sym now) (stays.0 ∙ dealt.own_at b, stays.1 ∙ dealt.left_at b)
    ]

    pub dealt_more : (line number : ℕ) (content : List ℕ) → IsDealt (ds ++ Store line block number content ∷ []) first own_new left_new
    dealt_more line number content = record {
      own_at = λ b. subst (λ (t : Bool). side_at own_new b ≡ moved t (side_at first b)) (sym (store_more b ds (Store line block number content))) (at b).0;
      left_at = λ b. subst (λ (t : Bool). side_at left_new b ≡ kept t (side_at first b)) (sym (store_more b ds (Store line block number content))) (at b).1;
      places = over.left_places ∙ dealt.places;
    }

    -- places stay
    pub places_stay : HasPlaces left own → HasPlaces left_new own_new
    places_stay places b = elim (eqb_tells b block) [
      | inl is ↦ subst (λ (o : Option (SideValue N)). IfSome o (λ s. b < length own_new)) (sym (ap (side_at left_new) is.1 ∙ gone)) tt
      | inr other ↦
          subst (λ (o : Option (SideValue N)). IfSome o (λ s. b < length own_new)) (sym (over.others b other.0).1)
          (subst (λ (n : ℕ). IfSome (side_at left b) (λ s. b < n)) (sym over.places) (places b))
    ]
      where
        gone : side_at left_new block ≡ None
        gone = by (side_at left block) refl
          where
            by : (o : Option (SideValue N)) → side_at left block ≡ o → side_at left_new block ≡ None
            by (Some s) is = (over.some s is).1
            by None is = (over.none is).1

-- as many places
pub places_like : {N : Type 0} (from to : SideList N) → length to ≡ length from → HasPlaces from to
places_like {N} from to same block = elim (cases_lt block (length from)) [
  | inl within ↦ of_any (side_at from block) (block < length to) (omega (arith, within, same))
  | inr past ↦ subst (λ (o : Option (SideValue N)). IfSome o (λ s. block < length to)) (sym (get_or_past from block None past)) tt
]

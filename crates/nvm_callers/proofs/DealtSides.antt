-- Sides that were dealt to callers, and come back from them.
use Rattle.nvm_callers.proofs.Common.{slice_get, is_some, map, IfSome, ◌≡◌, ◌⊎◌, inl, inr, ◌≤◌, ◌<◌, ◌+◌, ℕ, zero, suc, Bool, true, false, List, [], ◌∷◌, ◌++◌, length, Option, Some, None, refl, sym, ap, ◌∙◌, subst, arith, append_assoc, cases_lt, append-nil, ne_eqb, SideList, SideValue, side_at, Program, Along, SidesValue, bytes_at, bytes_by, AllDealt, AllGathered, AreApart, AreBelow, GoesOver, HasPlaces, IsDealt, IsFree, IsGathered, kept, moved, store_into, NoneIn, either_side}
use Rattle.nvm_callers.proofs.Moving.{of_any}

-- DEALT
module _ {N : Type 0} where
  -- to one program more
  pub dealt_one_more : (ps : List Program) (p : Program) (os : List (SideList N)) (o first between left : SideList N) → AllDealt ps first os between → IsDealt p.deeds between o left
      → AllDealt (ps ++ p ∷ []) first (os ++ o ∷ []) left
  dealt_one_more [] p [] o first between left all one = (left, subst (λ (l : SideList N). IsDealt p.deeds l o left) all one, refl)
  dealt_one_more (q ∷ ps) p (x ∷ os) o first between left (next, is, rest) one = (next, is, dealt_one_more ps p os o next between left rest one)
  dealt_one_more ps p os o first between left all one = absurd all

  -- as many places are left
  pub dealt_places : (ps : List Program) (os : List (SideList N)) (first left : SideList N) → AllDealt ps first os left → length left ≡ length first
  dealt_places [] [] first left all = ap length all
  dealt_places (p ∷ ps) (x ∷ os) first left (between, is, rest) = dealt_places ps os between left rest ∙ is.places
  dealt_places ps os first left all = absurd all

  -- what is left was there
  left_was : (block : ℕ) (b : Bool) (first between : Option (SideValue N)) (s : SideValue N) → between ≡ kept b first → between ≡ Some s → first ≡ Some s
  left_was block true first between s left is = let no_ : None ≡ Some s = sym left ∙ is in absurd (cc no_)
  left_was block false first between s left is = sym left ∙ is

  pub dealt_left : (ps : List Program) (os : List (SideList N)) (first left : SideList N) (block : ℕ) (s : SideValue N) → AllDealt ps first os left → side_at left block ≡ Some s
      → side_at first block ≡ Some s
  dealt_left [] [] first left block s all is = subst (λ (l : SideList N). side_at l block ≡ Some s) all is
  dealt_left [] (x ∷ os) first left block s all is = absurd all
  dealt_left (p ∷ ps) [] first left block s all is = absurd all
  dealt_left (p ∷ ps) (x ∷ os) first left block s (between, one, rest) is =
      left_was block (store_into block p.deeds) (side_at first block) (side_at between block) s (one.left_at block) (dealt_left ps os between left block s rest is)

  -- what was dealt was there
  own_was : (b : Bool) (first own : Option (SideValue N)) → own ≡ moved b first → (own ≡ None) ⊎ (own ≡ first)
  own_was true first own is = inr is
  own_was false first own is = inl is

  left_or_none : (b : Bool) (first between : Option (SideValue N)) → between ≡ kept b first → (between ≡ None) ⊎ (between ≡ first)
  left_or_none true first between is = inl is
  left_or_none false first between is = inr is

  none_or : (a b c : Option (SideValue N)) → (a ≡ None) ⊎ (a ≡ b) → (b ≡ None) ⊎ (b ≡ c) → (a ≡ None) ⊎ (a ≡ c)
  none_or a b c (inl none) other = inl none
  none_or a b c (inr same) (inl none) = inl (same ∙ none)
  none_or a b c (inr same) (inr is) = inr (same ∙ is)

  pub dealt_was : (ps : List Program) (os : List (SideList N)) (first left : SideList N) (i block : ℕ) (o : SideList N) → AllDealt ps first os left → slice_get os i ≡ Some o
      → (side_at o block ≡ None) ⊎ (side_at o block ≡ side_at first block)
  dealt_was ps [] first left i block o all at = absurd (cc at)
  dealt_was [] (x ∷ os) first left i block o all at = absurd all
  dealt_was (p ∷ ps) (x ∷ os) first left zero block o (between, one, rest) at =
      own_was (store_into block p.deeds) (side_at first block) (side_at o block)
      (subst (λ (l : SideList N). side_at l block ≡ moved (store_into block p.deeds) (side_at first block)) (cc at) (one.own_at block))
  dealt_was (p ∷ ps) (x ∷ os) first left (suc i) block o (between, one, rest) at =
      none_or (side_at o block) (side_at between block) (side_at first block) (dealt_was ps os between left i block o rest at)
      (left_or_none (store_into block p.deeds) (side_at first block) (side_at between block) (one.left_at block))

  -- who alone stores into a block has its side
  pub dealt_own : (ps : List Program) (os : List (SideList N)) (first left : SideList N) (i block : ℕ) (p : Program) (o : SideList N) → AllDealt ps first os left
      → slice_get ps i ≡ Some p → slice_get os i ≡ Some o → store_into block p.deeds ≡ true
      → ((j : ℕ) (q : Program) → j < i → slice_get ps j ≡ Some q → store_into block q.deeds ≡ false) → side_at o block ≡ side_at first block
  dealt_own ps [] first left i block p o all at there goes alone = absurd (cc there)
  dealt_own [] (x ∷ os) first left i block p o all at there goes alone = absurd all
  dealt_own (q ∷ ps) (x ∷ os) first left zero block p o (between, one, rest) at there goes alone =
      subst (λ (l : SideList N). side_at l block ≡ side_at first block) (cc there)
      (one.own_at block ∙ ap (λ (b : Bool). moved b (side_at first block)) (ap (λ (y : Program). store_into block y.deeds) (same at) ∙ goes))
    where
      same : Some q ≡ Some p → q ≡ p
      same is = cc is
  dealt_own (q ∷ ps) (x ∷ os) first left (suc i) block p o (between, one, rest) at there goes alone =
      dealt_own ps os between left i block p o rest at there goes (λ j y low is. alone (suc j) y (omega (arith, low)) is)
      ∙ one.left_at block ∙ ap (λ (b : Bool). kept b (side_at first block)) (alone zero q (omega arith) refl)

pub map_push : {A B : Type 0} (f : A → B) (xs : List A) (x : A) → map f (xs ++ x ∷ []) ≡ map f xs ++ f x ∷ []
map_push f [] x = refl
map_push f (y ∷ ys) x = ap (λ zs. f y ∷ zs) (map_push f ys x)

-- WHAT COMES BACK
module _ {N : Type 0} where
  pub gathered_places : (os : List (SideList N)) (left all : SideList N) → AllGathered os left all → length all ≡ length left
  gathered_places [] left all is = ap length is
  gathered_places (o ∷ os) left all (between, rest, one) = one.places ∙ gathered_places os left between rest

  -- where none had the side of a block it is not there
  pub gathered_none : (os : List (SideList N)) (left all : SideList N) (block : ℕ) → AllGathered os left all → NoneIn block os left → side_at all block ≡ None
  gathered_none [] left all block is none = subst (λ (l : SideList N). side_at l block ≡ None) (sym is) none
  gathered_none (o ∷ os) left all block (between, rest, one) (none, others) =
      one.at block ∙ ap (λ (x : Option (SideValue N)). either_side x (side_at between block)) none ∙ gathered_none os left between block rest others

  -- each that is there was one's, or was left
  either_was : (own left all : Option (SideValue N)) (s : SideValue N) → all ≡ either_side own left → all ≡ Some s → (own ≡ Some s) ⊎ (left ≡ Some s)
  either_was (Some x) left all s is at = inl (sym is ∙ at)
  either_was None left all s is at = inr (sym is ∙ at)

  pub gathered_was : (os : List (SideList N)) (left all : SideList N) (block : ℕ) (s : SideValue N) → AllGathered os left all → side_at all block ≡ Some s
      → ((i : ℕ) × (o : SideList N) × (slice_get os i ≡ Some o) × (side_at o block ≡ Some s)) ⊎ (side_at left block ≡ Some s)
  gathered_was [] left all block s is at = inr (subst (λ (l : SideList N). side_at l block ≡ Some s) is at)
  gathered_was (o ∷ os) left all block s (between, rest, one) at = elim (either_was (side_at o block) (side_at between block) (side_at all block) s (one.at block) at) [
    | inl own ↦ inl (0, o, refl, own)
    | inr other ↦ elim (gathered_was os left between block s rest other) [
      | inl (i, x, there, is) ↦ inl (suc i, x, there, is)
      | inr was ↦ inr was
    ]
  ]

-- OF AS MANY BYTES AS BEFORE
-- each is of as many bytes as the other at its place
abbrev pub HaveBytes : (olds news : List (SideList Along)) → Type 0
HaveBytes [] [] = Unit {0}
HaveBytes (o ∷ os) (n ∷ ns) = ((block : ℕ) → bytes_at n block ≡ bytes_at o block) × HaveBytes os ns
HaveBytes os ns = ⊥

pub none_still : (old new : Option (SideValue Along)) → bytes_by new ≡ bytes_by old → old ≡ None → new ≡ None
none_still old None same none = refl
none_still old (Some s) same none = let no_ : Some s.up.size ≡ None = same ∙ ap bytes_by none in absurd (cc no_)

some_still : (old new : Option (SideValue Along)) → bytes_by new ≡ bytes_by old → is_some new ≡ is_some old
some_still (Some o) None same = absurd (cc same)
some_still None (Some n) same = absurd (cc same)
some_still old new same = refl

pub there_still : (old new : SideList Along) (block : ℕ) → bytes_at new block ≡ bytes_at old block → is_some (side_at new block) ≡ is_some (side_at old block)
there_still old new block same = some_still (side_at old block) (side_at new block) same

-- a block whose side isn't there is dealt to none
none_dealt : (ps : List Program) (os ns : List (SideList Along)) (first left : SideList Along) (block : ℕ) → AllDealt ps first os left → HaveBytes os ns → side_at first block ≡ None → NoneIn block ns left
none_dealt [] [] [] first left block all have none = subst (λ (l : SideList Along). side_at l block ≡ None) (sym all) none
none_dealt [] [] (n ∷ ns) first left block all have none = absurd have
none_dealt [] (o ∷ os) ns first left block all have none = absurd all
none_dealt (p ∷ ps) [] ns first left block all have none = absurd all
none_dealt (p ∷ ps) (o ∷ os) [] first left block all have none = absurd have
none_dealt (p ∷ ps) (o ∷ os) (n ∷ ns) first left block (between, one, rest) (same, have) none = (
  none_still (side_at o block) (side_at n block) (same block) (own (store_into block p.deeds) (one.own_at block)),
  none_dealt ps os ns between left block rest have (other (store_into block p.deeds) (one.left_at block)),
)
  where
    own : (b : Bool) → side_at o block ≡ moved b (side_at first block) → side_at o block ≡ None
    own true is = is ∙ none
    own false is = is

    other : (b : Bool) → side_at between block ≡ kept b (side_at first block) → side_at between block ≡ None
    other true is = is
    other false is = is ∙ none

-- so no two have a side of one block
pub dealt_apart : (ps : List Program) (os ns : List (SideList Along)) (first left : SideList Along) → AllDealt ps first os left → HaveBytes os ns → AreApart ns left
dealt_apart [] [] [] first left all have = tt
dealt_apart [] [] (n ∷ ns) first left all have = absurd have
dealt_apart [] (o ∷ os) ns first left all have = absurd all
dealt_apart (p ∷ ps) [] ns first left all have = absurd all
dealt_apart (p ∷ ps) (o ∷ os) [] first left all have = absurd have
dealt_apart (p ∷ ps) (o ∷ os) (n ∷ ns) first left (between, one, rest) (same, have) = (
  λ block. apart block (store_into block p.deeds) (one.own_at block) (one.left_at block),
  dealt_apart ps os ns between left rest have,
)
  where
    apart : (block : ℕ) (b : Bool) → side_at o block ≡ moved b (side_at first block) → side_at between block ≡ kept b (side_at first block) → IfSome (side_at n block) (λ _. NoneIn block ns left)
    apart block true own other = of_any (side_at n block) (NoneIn block ns left) (none_dealt ps os ns between left block rest have other)
    apart block false own other = subst (λ (x : Option (SideValue Along)). IfSome x (λ _. NoneIn block ns left)) (sym (none_still (side_at o block) (side_at n block) (same block) own)) tt

-- and all are there again, of as many bytes
pub gathered_bytes : (ps : List Program) (os ns : List (SideList Along)) (first left all : SideList Along) (block : ℕ) → AllDealt ps first os left → HaveBytes os ns → AllGathered ns left all
    → bytes_at all block ≡ bytes_at first block
gathered_bytes [] [] [] first left all block dealt have is = ap (λ (l : SideList Along). bytes_at l block) (is ∙ dealt)
gathered_bytes [] [] (n ∷ ns) first left all block dealt have is = absurd have
gathered_bytes [] (o ∷ os) ns first left all block dealt have is = absurd dealt
gathered_bytes (p ∷ ps) [] ns first left all block dealt have is = absurd dealt
gathered_bytes (p ∷ ps) (o ∷ os) [] first left all block dealt have is = absurd have
gathered_bytes (p ∷ ps) (o ∷ os) (n ∷ ns) first left all block (between, one, rest) (same, have) (back, others, own) =
    ap bytes_by (own.at block) ∙ by (gathered_bytes ps os ns between left back block rest have others) (store_into block p.deeds) (one.own_at block) (one.left_at block) (side_at n block) (same block)
  where
    by : bytes_at back block ≡ bytes_at between block → (b : Bool) → side_at o block ≡ moved b (side_at first block) → side_at between block ≡ kept b (side_at first block) → (x : Option (SideValue Along)) → bytes_by x ≡ bytes_at o block
        → bytes_by (either_side x (side_at back block)) ≡ bytes_at first block
    by behind true mine other (Some s) bytes = bytes ∙ ap bytes_by mine
    by behind true mine other None bytes = behind ∙ ap bytes_by other ∙ bytes ∙ ap bytes_by mine
    by behind false mine other (Some s) bytes = let no_ : Some s.up.size ≡ None = bytes ∙ ap bytes_by mine in absurd (cc no_)
    by behind false mine other None bytes = behind ∙ ap bytes_by other

-- ONE CALLER'S, BLOCK BY BLOCK
-- those of the blocks below this one are back
pub record AreBack {N : Type 0} (places : ℕ) (own_first left own now : SideList N) : Type 0 where
  pub below : (block : ℕ) → block < places → side_at now block ≡ either_side (side_at own_first block) (side_at left block)
  pub rest : (block : ℕ) → places ≤ block → (side_at own block ≡ side_at own_first block) × (side_at now block ≡ side_at left block)
  pub out : (block : ℕ) → block < places → side_at own block ≡ None
  pub places_stay : length now ≡ length left

pub none_back : {N : Type 0} (own_first left : SideList N) → AreBack 0 own_first left own_first left
none_back own_first left = record { below = λ block low. absurd (omega (arith, low)); rest = λ block low. (refl, refl); out = λ block low. absurd (omega (arith, low)); places_stay = refl }

module _ {N : Type 0} (places : ℕ) (own_first left : SideList N) where
  module _ (own now : SideList N) (are : AreBack places own_first left own now) where
    -- the next one may go over
    pub next_free : IsFree own_first left → IsFree own now
    next_free free block = elim (cases_lt block places) [
      | inl low ↦ subst (λ (x : Option (SideValue N)). IfSome x (λ _. side_at now block ≡ None)) (sym (are.out block low)) tt
      | inr out ↦
          let is = are.rest block out in
          subst (λ (x : Option (SideValue N)). IfSome x (λ _. side_at now block ≡ None)) (sym is.0) (subst (λ (y : Option (SideValue N)). IfSome (side_at own_first block) (λ _. y ≡ None)) (sym is.1) (free block))
    ]

    pub next_places : HasPlaces own_first left → HasPlaces own now
    next_places has block = elim (cases_lt block places) [
      | inl low ↦ subst (λ (x : Option (SideValue N)). IfSome x (λ _. block < length now)) (sym (are.out block low)) tt
      | inr out ↦
          let is = are.rest block out in
          subst (λ (x : Option (SideValue N)). IfSome x (λ _. block < length now)) (sym is.0) (subst (λ (n : ℕ). IfSome (side_at own_first block) (λ _. block < n)) (sym are.places_stay) (has block))
    ]

    pub one_back : (own_new now_new : SideList N) → GoesOver places own now own_new now_new → AreBack (places + 1) own_first left own_new now_new
    one_back own_new now_new over = record {
      below = λ block low. below block low;
      rest = λ block high. rest block high;
      out = λ block low. out block low;
      places_stay = over.places ∙ are.places_stay;
    }
      where
        here : (x : Option (SideValue N)) → side_at own places ≡ x → (side_at now_new places ≡ either_side x (side_at now places)) × (side_at own_new places ≡ None)
        here (Some s) is = over.some s is
        here None is = over.none is

        at_places : (block : ℕ) → block < places + 1 → (block < places) ⊎ (block ≡ places)
        at_places block low = elim (cases_lt block places) [ inl less ↦ inl less | inr high ↦ inr (omega (arith, low, high)) ]

        below : (block : ℕ) → block < places + 1 → side_at now_new block ≡ either_side (side_at own_first block) (side_at left block)
        below block low = elim (at_places block low) [
          | inl less ↦ (over.others block (ne_eqb block places (λ is. omega (arith, is, less)))).0 ∙ are.below block less
          | inr same ↦ subst (λ (n : ℕ). side_at now_new n ≡ either_side (side_at own_first n) (side_at left n)) (sym same)
              (let is = are.rest places (omega arith) in
              (here (side_at own places) refl).0 ∙ ap (λ (x : Option (SideValue N)). either_side x (side_at now places)) is.0 ∙ ap (either_side (side_at own_first places)) is.1)
        ]

        rest : (block : ℕ) → places + 1 ≤ block → (side_at own_new block ≡ side_at own_first block) × (side_at now_new block ≡ side_at left block)
        rest block high =
            let other = over.others block (ne_eqb block places (λ is. omega (arith, is, high))) in
            let was = are.rest block (omega (arith, high)) in
            (other.1 ∙ was.0, other.0 ∙ was.1)

        out : (block : ℕ) → block < places + 1 → side_at own_new block ≡ None
        out block low = elim (at_places block low) [
          | inl less ↦ (over.others block (ne_eqb block places (λ is. omega (arith, is, less)))).1 ∙ are.out block less
          | inr same ↦ subst (λ (n : ℕ). side_at own_new n ≡ None) (sym same) (here (side_at own places) refl).1
        ]

    -- at the end all are
    pub all_back : AreBelow places own_first → IsGathered own_first left now
    all_back few = record {
      at = λ block. elim (cases_lt block places) [
        | inl low ↦ are.below block low
        | inr high ↦ (are.rest block high).1 ∙ ap (λ (x : Option (SideValue N)). either_side x (side_at left block)) (sym (few block high))
      ];
      places = are.places_stay;
    }

-- ALL CALLERS', FROM THE LAST ON
-- of these the ones behind the first are back
pub record HaveComeBack (items rest : List SidesValue) (left now : SideList Along) : Type 0 where
  pub done : List SidesValue
  pub is : items ≡ rest ++ done
  pub gathered : AllGathered (map (λ (s : SidesValue). s.sides) done) left now

pub none_came_back : (items : List SidesValue) (left : SideList Along) → HaveComeBack items items left left
none_came_back items left = record { done = []; is = sym (append-nil items); gathered = refl }

apart_behind : {A N : Type 0} (f : A → SideList N) (front done : List A) (left : SideList N) → AreApart (map f (front ++ done)) left → AreApart (map f done) left
apart_behind f [] done left apart = apart
apart_behind f (x ∷ front) done left apart = apart_behind f front done left apart.1

module _ (items rest front : List SidesValue) (x : SidesValue) (left now : SideList Along) (have : HaveComeBack items rest left now) (last : rest ≡ front ++ x ∷ []) where
  behind_first : items ≡ front ++ (x ∷ have.done)
  behind_first = have.is ∙ ap (λ (l : List SidesValue). l ++ have.done) last ∙ append_assoc front (x ∷ []) have.done

  pub last_is_free : AreApart (map (λ (s : SidesValue). s.sides) items) left → IsFree x.sides now
  last_is_free apart block =
      let here = apart_behind (λ (s : SidesValue). s.sides) front (x ∷ have.done) left (subst (λ (l : List SidesValue). AreApart (map (λ (s : SidesValue). s.sides) l) left) behind_first apart) in
      by (side_at x.sides block) (here.0 block)
    where
      by : (o : Option (SideValue Along)) → IfSome o (λ _. NoneIn block (map (λ (s : SidesValue). s.sides) have.done) left) → IfSome o (λ _. side_at now block ≡ None)
      by (Some s) none = gathered_none (map (λ (s : SidesValue). s.sides) have.done) left now block have.gathered none
      by None none = tt

  pub last_has_places : HasPlaces x.sides left → HasPlaces x.sides now
  last_has_places has block = subst (λ (n : ℕ). IfSome (side_at x.sides block) (λ s. block < n)) (sym (gathered_places (map (λ (s : SidesValue). s.sides) have.done) left now have.gathered)) (has block)

  pub last_came_back : (all : SideList Along) → IsGathered x.sides now all → HaveComeBack items front left all
  last_came_back all one = record { done = x ∷ have.done; is = behind_first; gathered = (now, have.gathered, one) }

pub all_came_back : (items : List SidesValue) (rest : List SidesValue) (left now : SideList Along) → HaveComeBack items rest left now → rest ≡ [] → AllGathered (map (λ (s : SidesValue). s.sides) items) left now
all_came_back items rest left now have none =
    subst (λ (l : List SidesValue). AllGathered (map (λ (s : SidesValue). s.sides) l) left now) (sym (have.is ∙ ap (λ (l : List SidesValue). l ++ have.done) none)) have.gathered

-- What rounds leave of the workers.
use Rattle.nvm_callers.proofs.Common.{slice_get, slice_index_or, set, All, IsSome, ◌≡◌, ◌<◌, ◌≤◌, ◌+◌, ℕ, List, [], ◌∷◌, length, Option, Some, None, true, false, refl, sym, subst, arith, ◌∙◌, ⊎_elim, cases_lt, length-set, get_or-set_same, get_or-set_other, knows, PassValue, SharedState, Pairs, Program, Stored, AllChanged, AllPlaced, GoesOn, HasMade, HasWorked, IsFresh, WorkerMayGoOn, share_of, Worker, Ending, get_or_default}
use Rattle.nvm_callers.proofs.Passing.{program_before}
use Rattle.nvm_callers.proofs.Working.{begun_ended, none_begun}

-- BY PLACE
-- what holds at a place of two elements holds of what these are
pub moved : {P : Type 0} (changes : ℕ → P → P → Type 0) {i j : ℕ} {x y z w : P} → i ≡ j → x ≡ y → z ≡ w → changes i x z → changes j y w
moved changes {i} {j} {x} {y} {z} {w} place one two is = subst (λ n. changes n y w) place (subst (λ a. changes i a w) one (subst (changes i x) two is))

none_is_below : (n : ℕ) → n < 0 → ⊥
none_is_below n low = omega (arith, low)

-- what holds of each by its place holds of a first one
pub first_placed : {P : Type 0} (holds : ℕ → P → Type 0) (xs : List P) → 0 < length xs → AllPlaced holds xs → (x : P) × holds 0 x
first_placed holds [] low each = absurd (none_is_below 0 low)
first_placed holds (x ∷ xs) low each = (x, each 0 x low)

-- what holds of each and beside them holds of as many others, where there is one
pub placed_on : {P : Type 0} (holds : ℕ → P → Type 0) (A B : Type 0) (xs ys : List P) → 0 < length xs → AllPlaced (λ k x. holds k x × A × B) xs → AllPlaced holds ys → AllPlaced (λ k x. holds k x × A × B) ys
placed_on holds A B xs ys some each others = let one = first_placed (λ k x. holds k x × A × B) xs some each in λ place d low. (others place d low, one.1.1, one.1.2)

-- nothing changed
pub none_changed : {P : Type 0} (changes : ℕ → P → P → Type 0) (xs : List P) → ((place : ℕ) (x : P) → changes place x x) → AllChanged changes xs xs
none_changed changes xs stays = λ place d low. stays place (slice_index_or xs place d)

-- one change behind another
pub changed_more : {P : Type 0} (changes : ℕ → P → P → Type 0) (xs ys zs : List P) → ((place : ℕ) (x y z : P) → changes place x y → changes place y z → changes place x z) → length ys ≡ length xs
    → AllChanged changes xs ys → AllChanged changes ys zs → AllChanged changes xs zs
changed_more changes xs ys zs follow same one two = λ place d low.
    follow place (slice_index_or xs place d) (slice_index_or ys place d) (slice_index_or zs place d) (one place d low) (two place d (omega (arith, low, same)))

-- those below a place changed, and the others are as they were
abbrev pub ChangedBelow : {P : Type 0} → (ℕ → P → P → Type 0) → List P → List P → ℕ → Type 0
ChangedBelow {P} changes xs ys k =
    (length ys ≡ length xs) × ((place : ℕ) (d : P) → k ≤ place → slice_index_or ys place d ≡ slice_index_or xs place d)
    × ((place : ℕ) (d : P) → place < k → changes place (slice_index_or xs place d) (slice_index_or ys place d))

pub none_below : {P : Type 0} (changes : ℕ → P → P → Type 0) (xs : List P) → ChangedBelow changes xs xs 0
none_below changes xs = (refl, λ place d high. refl, λ place d low. absurd (none_is_below place low))

-- the one at the place too
pub one_below : {P : Type 0} (changes : ℕ → P → P → Type 0) (xs ys : List P) (k : ℕ) (old new : P) → k < length ys → ChangedBelow changes xs ys k → changes k (slice_index_or ys k old) new
    → ChangedBelow changes xs (set ys k new) (k + 1)
one_below changes xs ys k old new low (same, rest, below) one = (
  length-set ys k new ∙ same,
  λ place d high. get_or-set_other ys k place new d (λ e. omega (arith, e, high)) ∙ rest place d (omega (arith, high)),
  λ place d within.
      ⊎_elim (λ l. subst (changes place (slice_index_or xs place d)) (sym (get_or-set_other ys k place new d (λ e. omega (arith, e, l)))) (below place d l))
      (λ r.
      let at : place ≡ k = omega (arith, r, within) in
      let before : slice_index_or xs k d ≡ slice_index_or ys k old = sym (rest k d (omega arith)) ∙ get_or_default ys k d old low in
      let there = subst (λ y. changes k (slice_index_or xs k d) y) (sym (get_or-set_same ys k new d low)) (subst (λ x. changes k x new) (sym before) one) in
      subst (λ p. changes p (slice_index_or xs p d) (slice_index_or (set ys k new) p d)) (sym at) there)
      (cases_lt place k),
)

-- ENDINGS
never : false ≡ true → ⊥
never is = cc

ended_of : (o : Option Ending) → IsSome o → (e : Ending) × (o ≡ Some e)
ended_of (Some e) some = (e, refl)
ended_of None some = absurd (never some)

module _ {S : Type 0} (bytes : S → ℕ → Option ℕ) (stored : S → ℕ → List Stored) (mirrors : S → Pairs) (g : SharedState) (programs : List Program) where
  abbrev W : Type 0
  W = Worker PassValue S

  -- a worker that went on from nothing, and ended
  worked_at : (place : ℕ) (old new : W) (first : S) → place < length programs → IsFresh g old.pass old.made old.ending → old.stores ≡ first → GoesOn bytes stored mirrors g programs place old new
      → WorkerMayGoOn g programs place new.pass new.made → IsSome new.ending → HasWorked bytes stored mirrors g programs place new.pass new.made new.ending new.seen first new.stores
  worked_at place old new first low fresh same goes_on may some =
      let (ended, is) = ended_of new.ending some in
      let worked : (p : Program) → slice_get programs place ≡ Some p → HasMade bytes stored mirrors g.terms p (share_of p new.made (knows new.pass)) ended first new.stores × (new.seen ≡ length (knows new.pass).seen) =
      λ p at.
      begun_ended bytes stored mirrors g.terms p (knows new.pass) new.made new.ending new.seen first new.stores ended
      (goes_on p first at (none_begun bytes stored mirrors g.terms p (knows old.pass) old.made old.ending old.seen first old.stores fresh.none fresh.first fresh.goes_on same)) is in
      let (program, at, _rest) = program_before programs place low in
      record {
        own = may.own;
        part = may.part;
        ended = ended;
        is = is;
        made_it = λ p there. (worked p there).0;
        saw = (worked program at).1;
      }

  -- so did all
  pub all_worked : (firsts : List S) (olds news : List W) → length firsts ≡ length programs → length olds ≡ length programs → length news ≡ length olds
      → AllPlaced (λ place w. IsFresh g w.pass w.made w.ending × (w.stores ≡ slice_index_or firsts place w.stores)) olds → AllChanged (GoesOn bytes stored mirrors g programs) olds news
      → AllPlaced (λ place w. WorkerMayGoOn g programs place w.pass w.made) news → All (λ w. IsSome w.ending) news
      → AllPlaced (λ place w. HasWorked bytes stored mirrors g programs place w.pass w.made w.ending w.seen (slice_index_or firsts place w.stores) w.stores) news
  all_worked firsts olds news one two three fresh goes_on may ended = λ place d low.
      let old = slice_index_or olds place d in
      let new = slice_index_or news place d in
      let is = fresh place d (omega (arith, low, three)) in
      worked_at place old new (slice_index_or firsts place new.stores) (omega (arith, low, two, three)) is.0
      (is.1 ∙ get_or_default firsts place old.stores new.stores (omega (arith, low, one, two, three))) (goes_on place d (omega (arith, low, three))) (may place d low) (ended place d low)

-- What the driver's pass knows with the callers' passes taken in.
use Rattle.nvm_callers.proofs.Common.{slice_get, ◌||◌, ◌≡◌, Option, ℕ, zero, suc, ◌<◌, ◌≤◌, true, false, Bool, List, [], ◌∷◌, length, drop, refl, sym, ap, subst, arith, ◌∙◌, DeviceTold, Clock, Entry, Told, View, both, knows, Terms, desk_with, IsUserOf, PassValue, SharedState, DriverState, Drives, IsDriverOf, Program, Share, Collects, AllMade, HasMade, HaveRun, share_of, worse, Stored, Pairs, Ending, EndsAll, Memory, cond, le-ltb, longer, KeepsShares}
use Rattle.std.specs.Prelude.{Some}
use Rattle.nvm_callers.proofs.JoinedPasses.{joins_collect, nothing_is_collected}
use Rattle.nvm_callers.proofs.Doing.{none_is_done}
use Rattle.nvm_callers.proofs.Storing.{none_is_stored}

abbrev V : Type 0
V = View Entry Terms

never : false ≡ true → ⊥
never is = cc

-- PROGRAMS
-- the last of the programs before these
pub program_before : (programs : List Program) (k : ℕ) → k < length programs → (p : Program) × (slice_get programs k ≡ Some p) × (drop k programs ≡ p ∷ drop (suc k) programs)
program_before [] k low = absurd (omega (arith, low))
program_before (p ∷ ps) zero low = (p, refl, refl)
program_before (p ∷ ps) (suc k) low = program_before ps k (omega (arith, low))

-- LISTS THAT WERE SEEN
pub longer_first : (xs ys : List Entry) → length ys ≤ length xs → longer xs ys ≡ xs
longer_first xs ys few = ap (λ (b : Bool). cond b ys xs) (le-ltb (length xs) (length ys) few)

-- JOINS
module _ (v w : V) (few : length w.seen ≤ length v.seen) where
  pub seen_still : (both v w).seen ≡ v.seen
  seen_still = longer_first v.seen w.seen few

module _ {S : Type 0} (bytes : S → ℕ → Option ℕ) (stored : S → ℕ → List Stored) (mirrors : S → Pairs) where
  -- one program more, before those that were made
  pub have_run_more : (v w : V) (t : Terms) (p : Program) (programs : List Program) (made : ℕ) (one other : Ending) (first now : S) (firsts nows : List S)
      → HasMade bytes stored mirrors t p (share_of p made w) one first now → HaveRun bytes stored mirrors t programs firsts nows other v
      → HaveRun bytes stored mirrors t (p ∷ programs) (first ∷ firsts) (now ∷ nows) (worse one other) (both v w)
  have_run_more v w t p programs made one other first now firsts nows is ran = record {
    shares = share_of p made w ∷ ran.shares;
    endings = one ∷ ran.endings;
    made = (is, ran.made);
    collects = joins_collect ran.shares v w (share_of p made w) refl refl refl ran.collects;
    ends = ap (worse one) ran.ends;
  }

  -- none was joined
  pub none_has_run : (t : Terms) (v : V) → Collects [] v → HaveRun bytes stored mirrors t [] [] [] EndsAll v
  none_has_run t v collects = record { shares = []; endings = []; made = tt; collects = collects; ends = refl }

-- the driver's pass with another one taken in is the driver's still
pub still_drives : {D C : Type 0} (told : D → DeviceTold) (clock : D → Clock) (copies : C → List Told) (shared : SharedState) (p p_new : PassValue) (w : V) (s : DriverState D C)
    → IsDriverOf told clock copies shared p s → IsUserOf shared p_new → knows p_new ≡ both (knows p) w → length w.seen ≤ length (knows p).seen
    → IsDriverOf told clock copies shared p_new s
still_drives told clock copies shared p p_new w s drives own is few = record {
  own = own;
  mark = ap (λ (z : V). z.mark) is ∙ marked (knows p).mark drives.mark;
  drives = subst (λ (l : List Entry). Drives told clock copies shared.terms.tells (desk_with shared.terms l) s)
      (sym (ap (λ (z : V). z.seen) is ∙ longer_first (knows p).seen w.seen few)) drives.drives;
}
  where
    marked : (b : Bool) → b ≡ true → (b || w.mark) ≡ true
    marked true is = refl
    marked false is = absurd (never is)

-- WITHOUT MEMORY
-- no caller made a deed
abbrev nothing_of : Program → Share
nothing_of p = record { caller = p.caller; deeds = []; own = []; seen = []; notes = [] }

abbrev nothings : List Program → List Share
nothings [] = []
nothings (p ∷ ps) = nothing_of p ∷ nothings ps

abbrev memories : List Program → List Ending
memories [] = []
memories (p ∷ ps) = Memory ∷ memories ps

none_collected : (ps : List Program) (v : V) → Collects [] v → Collects (nothings ps) v
none_collected [] v collects = collects
none_collected (p ∷ ps) v collects = nothing_is_collected (nothings ps) v (nothing_of p) refl refl refl (none_collected ps v collects)

module _ {S : Type 0} (bytes : S → ℕ → Option ℕ) (stored : S → ℕ → List Stored) (mirrors : S → Pairs) where
  none_made : (t : Terms) (ps : List Program) (stores : List S) → length stores ≡ length ps → AllMade bytes stored mirrors t ps (nothings ps) (memories ps) stores stores
  none_made t [] [] same = tt
  none_made t [] (x ∷ xs) same = absurd (omega (arith, same))
  none_made t (p ∷ ps) [] same = absurd (omega (arith, same))
  none_made t (p ∷ ps) (x ∷ xs) same = (
    record {
      made = 0;
      caller = refl;
      deeds = refl;
      done = none_is_done t.config t.cap [] [] p.caller;
      ends = tt;
      stores = λ none may. (none_is_stored t.config t.cap [] [] [] p.caller (stored x) none, λ block. ap (λ (l : List Stored). length l) (none block));
      same_bytes = λ block. refl;
      same_mirrors = refl;
    },
    none_made t ps xs (omega (arith, same)),
  )

  pub memory_is_wanting : (t : Terms) (ps : List Program) (stores : List S) (v : V) → length stores ≡ length ps → 0 < length ps → Collects [] v → HaveRun bytes stored mirrors t ps stores stores Memory v
  memory_is_wanting t [] stores v same some collects = absurd (omega (arith, some))
  memory_is_wanting t (p ∷ ps) stores v same some collects = record {
    shares = nothings (p ∷ ps);
    endings = memories (p ∷ ps);
    made = none_made t (p ∷ ps) stores same;
    collects = none_collected (p ∷ ps) v collects;
    ends = refl;
  }

  -- what ran is told of a pass that keeps what it took in
  pub have_run_on : (t : Terms) (ps : List Program) (firsts nows : List S) (ending : Ending) (v w : V) → KeepsShares v w → HaveRun bytes stored mirrors t ps firsts nows ending v
      → HaveRun bytes stored mirrors t ps firsts nows ending w
  have_run_on t ps firsts nows ending v w keeps ran = record { shares = ran.shares; endings = ran.endings; made = ran.made; collects = keeps ran.shares ran.collects; ends = ran.ends }

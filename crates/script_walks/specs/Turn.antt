-- What a turn may add.
use Rattle.std.specs.Prelude.{◌≡◌, ◌||◌, ℕ, not, Bool, true, IsTrue, List, [], ◌∷◌, get_or, None}
use Rattle.block_machine.specs.Words.{JobKind, Taken, TookContent, TookStale, Entry, Ask, Pick, Post, Found, Configuration}
use Rattle.block_machine.specs.State.{State}
use Rattle.block_machine.specs.Next.{next_of}
use Rattle.block_machine.specs.Legal.{MayPick, MayPostNext}
use Rattle.script_walks.specs.Walk.{copies_next, is_due, begins_with_pick_or_post}

-- what is copied is the newest store of the block, or that is older than the request asks for
abbrev pub TakesNewest : List (ℕ × List ℕ) → Bool → ℕ → Taken → Type 0
TakesNewest stores true block (TookContent bytes number) = get_or stores block (0, []) ≡ (number, bytes)
TakesNewest stores true block (TookStale asked got count) = got ≡ (get_or stores block (0, [])).0
TakesNewest stores copies block t = Unit {0}

-- a Pick of what the machine turns to next
pub record MakesPick (c : Configuration) (s : State) (stores : List (ℕ × List ℕ)) (block : ℕ) (kind : JobKind) (t : Taken) : Type 0 where
  pub may : MayPick c s block kind t (next_of c s)
  pub newest : TakesNewest stores (copies_next c (next_of c s)) block t

-- a Pick is of what comes next, and so is a Post where nothing is in hand
abbrev pub IsOfTurn : Configuration → State → List (ℕ × List ℕ) → Entry → Type 0
IsOfTurn c s stores (Ask caller r reply) = ⊥
IsOfTurn c s stores (Pick block kind t ops) = MakesPick c s stores block kind t
IsOfTurn c s stores (Post block r given refused ops) = s.hand ≡ None → MayPostNext c s block (r, given) refused (next_of c s)
IsOfTurn c s stores (Found marks ops) = ⊥
IsOfTurn c s stores e = Unit {0}

-- one entry, or none
abbrev pub IsOneOrNone : Configuration → State → List (ℕ × List ℕ) → List Entry → Type 0
IsOneOrNone c s stores [] = Unit {0}
IsOneOrNone c s stores (e ∷ []) = IsOfTurn c s stores e
IsOneOrNone c s stores es = ⊥

-- and no turn goes by that would pick or post
pub record IsTurn (c : Configuration) (s : State) (stores : List (ℕ × List ℕ)) (es : List Entry) : Type 0 where
  pub entry : IsOneOrNone c s stores es
  pub begins : IsTrue (not (is_due s) || begins_with_pick_or_post es)

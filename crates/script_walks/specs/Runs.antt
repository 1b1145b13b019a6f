-- The histories that callers beside each other may have in `run`.
use Rattle.std.specs.Prelude.{◌≡◌, ◌⊎◌, ℕ, ◌||◌, not, Bool, true, false, IsTrue, List, [], ◌∷◌, ◌++◌, length, take, drop, slice_get, Some}
use Rattle.std.specs.List.{list_all}
use Rattle.script_walks.specs.Words.{Step, Await}
use Rattle.block_machine.specs.Words.{Request, Entry, Ask, Found, Configuration}
use Rattle.block_machine.specs.Next.{next_of}
use Rattle.block_machine.specs.Reply.{fits}
use Rattle.block_machine.specs.Steps.{after}
use Rattle.script_walks.specs.Walk.{copies_next, is_at_rest}
use Rattle.script_walks.specs.Callers.{program_of, requests_of, asks_of, WaitedFor, IsInOrder}
use Rattle.script_walks.specs.Looks.{Look, AreInOrder, CopyIsShown, CopiesAreShown}

abbrev pub is_found : Entry → Bool
is_found (Found marks ops) = true
is_found e = false

-- One start-up, every caller keeps to its program, nobody else asks, and what is copied of synchronized RAM was stored by then, as
-- the driver's looks showed it.
pub record IsRun (c : Configuration) (steps : List Step) (looks : List Look) (h : List Entry) : Type 0 where
  pub one_start : IsTrue (list_all (λ e. not (is_found e)) (drop 1 h))
  pub order : (caller : ℕ) → IsInOrder c caller (program_of caller steps) h
  pub in_order : AreInOrder looks
  pub shown : CopiesAreShown c steps looks [] h

-- the caller made each request of its program
abbrev pub AskedAll : Configuration → List Step → List Entry → ℕ → Type 0
AskedAll c steps h caller = asks_of caller h ≡ requests_of c (program_of caller steps)

-- nothing is pending, or the power is off
abbrev pub has_ended : Configuration → List Entry → Bool
has_ended c h = is_at_rest (after c h) || (after c h).off

-- a run that came to its end: every request was made, and nothing is pending or the power is off
pub record IsWholeRun (c : Configuration) (steps : List Step) (looks : List Look) (h : List Entry) : Type 0 where
  pub order : IsRun c steps looks h
  pub all : (caller : ℕ) → AskedAll c steps h caller
  pub ends : IsTrue (has_ended c h)

-- a caller's next request, where no wait before it holds it back
pub record IsNextAsk (c : Configuration) (steps : List Step) (h : List Entry) (caller : ℕ) (r : Request) : Type 0 where
  pub next : slice_get (requests_of c (program_of caller steps)) (length (asks_of caller h)) ≡ Some r
  pub waited : (n block : ℕ) (x : Step) → slice_get (program_of caller steps) n ≡ Some x → x.kind ≡ Await block
      → length (requests_of c (take n (program_of caller steps))) ≡ length (asks_of caller h) → WaitedFor caller block (length (asks_of caller h)) h

-- Behind so many entries the caller's next request had no room in a history of at most `cap` entries, and it made no more.
pub record HadNoRoom (cap : ℕ) (c : Configuration) (steps : List Step) (h : List Entry) (caller : ℕ) : Type 0 where
  pub entries : ℕ
  pub request : Request
  pub next : IsNextAsk c steps (take entries h) caller request
  pub full : IsTrue (not (fits c cap (after c (take entries h)) 1))
  pub last : asks_of caller h ≡ asks_of caller (take entries h)

-- A run that met a full history: a caller's request had no room, each other caller made all of its own or had no room either,
-- and nothing is pending or the power is off.
pub record IsFullRun (cap : ℕ) (c : Configuration) (steps : List Step) (looks : List Look) (h : List Entry) : Type 0 where
  pub order : IsRun c steps looks h
  pub caller : ℕ
  pub full : HadNoRoom cap c steps h caller
  pub others : (other : ℕ) → AskedAll c steps h other ⊎ HadNoRoom cap c steps h other
  pub ends : IsTrue (has_ended c h)

-- HOW A RUN GROWS

-- what may come next: such a request, or an entry of the driver but a start-up
abbrev pub MayFollow : Configuration → List Step → List Look → List Entry → Entry → Type 0
MayFollow c steps looks h (Ask caller r reply) = IsNextAsk c steps h caller r
MayFollow c steps looks h (Found marks ops) = ⊥
MayFollow c steps looks h e = CopyIsShown c steps looks h e (copies_next c (next_of c (after c h)))

-- a run with it behind it, and with the looks that were made for it, is a run
abbrev pub RunsGrow : Type 0
RunsGrow =
    (c : Configuration) (steps : List Step) (looks more : List Look) (x : Entry) (h : List Entry) (e : Entry) → IsRun c steps looks (x ∷ h)
    → AreInOrder (looks ++ more) → MayFollow c steps (looks ++ more) (x ∷ h) e → IsRun c steps (looks ++ more) (x ∷ h ++ e ∷ [])

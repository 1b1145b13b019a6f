-- The rule of the table, and what each kind of step tells. Word 0 is the ticket that is served, word 1 the next ticket, and
-- word w + 2 the last entry that gave the word w a status, times 256, plus that status.
use Rattle.std.specs.Prelude.{◌≡◌, ◌≢◌, ℕ, ◌+◌, ◌-◌, ◌/◌, ◌%◌, ◌^◌, ◌<◌, ◌≤◌, List, [], ◌∷◌, length, Bool, true, false, Option, Some, slice_index, nat_lt, cond}
use mathlib.Core.Option as maybe
use lib.ListN.{get_elem?}
use Rattle.atomic_table.specs.Table.{State, Me, Step}
use Rattle.turn_gate.specs.declared.pass.View.{View}
use Rattle.turn_gate.specs.declared.pass.Place.{Place}
use Rattle.turn_gate.specs.declared.pass.Place.TheVariants.{Here, Told, Empty}
use Rattle.turn_gate.specs.Entries.{StartsWith, AllAgree, AllHeard, NotBelow, Tells, OpenFrom}
use Rattle.turn_gate.specs.Pass.{all_parts, Has, IsKin, grown, went_out, noted}

abbrev pub total : {A : Type 0} → (A → ℕ) → List A → ℕ
total f [] = 0
total f (x ∷ xs) = f x + total f xs

-- what is so of the words, where the history is `log`: the tickets, and each status word
pub record Posted {E : Type 0} (gives : E → ℕ → Option ℕ) (n : ℕ) (log : List E) (words : List ℕ) : Type 0 where
  pub wide : length words ≡ n + 2
  pub below : slice_index words 0 ≤ slice_index words 1
  pub small : slice_index words 1 < 2 ^ 64
  pub each_word : (w : ℕ) → w < n → Tells gives log w (slice_index words (w + 2))

module _ {E R : Type 0} (gives : E → ℕ → Option ℕ) (is_open : E → Bool) where
  -- what is so of each pass, where the history is `log`
  pub record Knows (log : List E) (base : R) (serving next j : ℕ) (v : View E R) : Type 0 where
    pub same : 0 < v.parts → v.root ≡ Some base
    pub some_seen : 0 < v.parts → 0 < length v.seen
    pub idle : v.parts ≡ 0 → (v.own ≡ []) × (v.waits ≡ false) × (v.inside ≡ false)
    pub own_seen : (k : ℕ) → Has v.own k → k < length v.seen
    pub starts : StartsWith log v.seen
    pub waits : v.waits ≡ true → (serving ≤ v.ticket) × (v.ticket < next)
    pub inside : v.inside ≡ true → (v.waits ≡ true) × (v.ticket ≡ serving) × (v.seen ≡ log)
    pub agree : AllAgree gives log v.notes
    pub heard : AllHeard log v.heard
    pub mark : v.mark ≡ true → OpenFrom is_open log (length v.seen)
    pub served : v.served ≤ serving

-- the value at home stands for the list
abbrev pub Rests : {V E R : Type 0} → (V → List E) → (V → R) → List E → R → List (maybe.Option (Place V)) → Type 0
Rests {V} entries root log base homes = (x : V) × (homes ≡ maybe.some (Here x) ∷ []) × (entries x ≡ log) × (root x ≡ base)

module _ {V E R : Type 0} (entries : V → List E) (gives : E → ℕ → Option ℕ) (is_open : E → Bool) (root : V → R) where
  -- there is one history. Each of its entries after the first is some pass's own, and each word tells its last status
  pub record Gated (n : ℕ) (base : R) (s : State (Place V) (View E R)) : Type 0 where
    pub log : List E
    pub short : length log < 2 ^ 32
    pub parts : total (λ (u : View E R). u.parts) s.views ≡ all_parts
    pub covered : (k : ℕ) → 0 < k → k < length log → (j : ℕ) × (u : View E R) × (get_elem? s.views j ≡ maybe.some u) × Has u.own k
    pub one : length s.homes ≡ 1
    pub posted : Posted gives n log s.words
    pub open posted use *
    pub each : (j : ℕ) (v : View E R) → get_elem? s.views j ≡ maybe.some v → Knows gives is_open log base (slice_index s.words 0) (slice_index s.words 1) j v
    pub apart : (i j : ℕ) (u v : View E R) → get_elem? s.views i ≡ maybe.some u → get_elem? s.views j ≡ maybe.some v → u.waits ≡ true → v.waits ≡ true → u.ticket ≡ v.ticket → i ≡ j
    pub one_mark : (i j : ℕ) (u v : View E R) → get_elem? s.views i ≡ maybe.some u → get_elem? s.views j ≡ maybe.some v → u.mark ≡ true → v.mark ≡ true → i ≡ j
    pub rests : ((j : ℕ) (v : View E R) → get_elem? s.views j ≡ maybe.some v → v.inside ≡ false) → Rests entries root log base s.homes

  -- the pass took the value. Its list was seen, begins with all that was seen before, and agrees with all notes. A pass that is
  -- alone finds what it had seen.
  abbrev pub HasEntered : View E R → Me (Place V) (View E R) → Type 0
  HasEntered v m' =
      (x : V) × (m'.1 ≡ (0, Here x) ∷ []) × (m'.0.inside ≡ true) × (m'.0.seen ≡ entries x)
      × IsKin v m'.0 × StartsWith (entries x) v.seen × AllAgree gives (entries x) v.notes × (v.root ≡ Some (root x))
      × (v.mark ≡ true → OpenFrom is_open (entries x) (length v.seen)) × (0 < v.parts) × (v.parts ≡ all_parts → entries x ≡ v.seen) × AllHeard (entries x) v.heard

  -- nothing, or the value is taken
  abbrev pub Enters : Step (Place V) → Me (Place V) (View E R) → ℕ → Me (Place V) (View E R) → Type 0
  Enters st m r m' = (r ≢ m.0.ticket → m' ≡ m) × (r ≡ m.0.ticket → HasEntered m.0 m')

  abbrev pub Arrives : Step (Place V) → Me (Place V) (View E R) → ℕ → Me (Place V) (View E R) → Type 0
  Arrives st m r m' = (r ≢ st.first → m' ≡ m) × (r ≡ st.first → HasEntered m.0 m')

module _ {E R : Type 0} where
  -- a ticket was seen served
  abbrev pub looked : View E R → ℕ → View E R
  looked v ticket = record v { served = ticket }

  -- the views after a ticket was drawn, and after the value was taken by it
  abbrev pub queued : View E R → ℕ → View E R
  queued v t = record v { waits = true; ticket = t }

  abbrev pub entered : View E R → List E → View E R
  entered v log = record v { seen = log; inside = true }

  -- out again, with one entry more if the list is longer than was seen
  abbrev pub left : View E R → List E → View E R
  left v log = went_out (cond (nat_lt (length v.seen) (length log)) (grown v log) v)

abbrev pub Looks : {S E R : Type 0} → Step S → Me S (View E R) → ℕ → Me S (View E R) → Type 0
Looks st m r m' = (m'.1 ≡ m.1) × (m'.0 ≡ looked m.0 r)

abbrev pub HasDrawn : {S E R : Type 0} → View E R → ℕ → Me S (View E R) → Type 0
HasDrawn v t m' = (m'.0 ≡ queued v t) × (m'.1 ≡ [])

abbrev pub Draws : {S E R : Type 0} → Step S → Me S (View E R) → ℕ → Me S (View E R) → Type 0
Draws st m r m' = (m'.1 ≡ m.1) × (r ≡ st.first → m'.0 ≡ queued m.0 r) × (r ≢ st.first → m'.0 ≡ m.0)

-- in the lock, all that the pass heard and was told stands in the list that it has seen
abbrev pub Compares : {S E R : Type 0} → (E → ℕ → Option ℕ) → Step S → Me S (View E R) → ℕ → Me S (View E R) → Type 0
Compares gives st m r m' = (m' ≡ m) × (m.0.inside ≡ true → AllHeard m.0.seen m.0.heard × AllAgree gives m.0.seen m.0.notes)

module _ {V E : Type 0} (entries : V → List E) where
  -- the list of the value that lies in the slot taken last, or that was told there
  abbrev pub list_of : Place V → List E
  list_of (Here x) = entries x
  list_of (Told x) = entries x.value
  list_of Empty = []

  abbrev pub list_in : List (ℕ × Place V) → List E
  list_in [] = []
  list_in (x ∷ xs) = list_of x.1

  abbrev pub Sets : {R : Type 0} → Step (Place V) → Me (Place V) (View E R) → ℕ → Me (Place V) (View E R) → Type 0
  Sets st m r m' = (m'.1 ≡ m.1) × (m'.0 ≡ grown m.0 (list_in m.1))

  abbrev pub Leaves : {R : Type 0} → Step (Place V) → Me (Place V) (View E R) → ℕ → Me (Place V) (View E R) → Type 0
  Leaves st m r m' = (m'.1 ≡ []) × (m'.0 ≡ left m.0 (list_in m.1))

-- a status is read, not an older one than was seen or noted
abbrev pub Polls : {S E R : Type 0} → (E → ℕ → Option ℕ) → Step S → Me S (View E R) → ℕ → Me S (View E R) → Type 0
Polls gives st m r m' = (m'.1 ≡ m.1) × (m'.0 ≡ noted m.0 (st.word - 2) (r / 256) (r % 256)) × NotBelow gives m.0.seen m.0.notes (st.word - 2) (r / 256) × (r / 256 < 2 ^ 32)

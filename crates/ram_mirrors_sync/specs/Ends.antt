-- The two mirrors of a synchronized block, and the driver's ends of them. The application's ends, its side, and the calls of a side stand in
-- Blocks.
use Rattle.std.specs.Prelude.{Option, Some, None, ◌≡◌, ◌⊎◌, ◌+◌, ◌≤◌, ℕ, List, [], ◌∷◌, ◌++◌, length}
use mathlib.Core.Option.{some}
use lib.ListN.{get_elem?}
use Rattle.ram_mirrors.specs.declared.view.Store.{Store}
use Rattle.ram_mirrors.specs.Stores.{Contents, store_number, store_of}
use Rattle.ram_mirrors.specs.Ends.{MirrorValue, OwnerValue, TakerValue, IsOwnerOf, IsTakerOf, ShowsNewest}
use Rattle.ram_blocks.specs.Told.{Synchronized}

-- nothing is handed along with what the driver hands over
abbrev pub Nothing : Type 0
Nothing = Unit {0}

-- from the application to the driver, and back
pub record PairValue : Type 0 where
  pub up : MirrorValue
  pub down : MirrorValue

-- the driver's ends, and what the application has before its first store; N is what its stores hand along
pub record EndValue (N : Type 0) : Type 0 where
  pub up : TakerValue N
  pub down : OwnerValue Nothing
  pub first : List ℕ

-- the last of some contents, none before the first
abbrev pub last_of : Contents Nothing → List ℕ → List ℕ
last_of [] last = last
last_of (x ∷ xs) last = last_of xs x.content

-- nothing was taken yet, or the last pair is the one that is shown, with its content and its note
abbrev pub IsShown : {N : Type 0} → TakerValue N → Type 0
IsShown {N} t = ((t.got ≡ []) × (t.shown ≡ 0)) ⊎ ((front : List (ℕ × Store N)) × (t.got ≡ front ++ (store_number t.shown, store_of t.content t.note) ∷ []))

-- the ends are those of these mirrors, and all have the same length
pub record IsEndOf {N : Type 0} (p : PairValue) (e : EndValue N) : Type 0 where
  pub up : IsTakerOf p.up e.up
  pub down : IsOwnerOf p.down e.down
  pub same : e.down.size ≡ e.up.size
  pub first : length e.first ≡ e.up.size
  pub content : length e.up.content ≡ e.up.size
  pub shown : IsShown e.up

-- what is told of a block by its end. No copy of it is refused.
abbrev pub told_of : {N : Type 0} → EndValue N → Synchronized
told_of e = record { bytes = e.up.size; refusals = 0; to_refuse = Some 0; handed = store_number (length e.down.stores); last = last_of e.down.stores [] }

-- a pair that was taken; number 0 is what the application has before its first store
abbrev pub IsTaken : {N : Type 0} → EndValue N → ℕ → List ℕ → Type 0
IsTaken {N} e n content = ((n ≡ 0) × (content ≡ e.first)) ⊎ ((i : ℕ) × (note : Option N) × (get_elem? e.up.got i ≡ some (n, store_of content note)))

-- The one goes on from the other: it was shown and took all that the other was and did, and was shown no older store since. What the
-- application has before its first store stays.
pub record GoesOn {N : Type 0} (old new : EndValue N) : Type 0 where
  pub shown : (i k : ℕ) → get_elem? old.up.all_shown i ≡ some k → get_elem? new.up.all_shown i ≡ some k
  pub longer : length old.up.all_shown ≤ length new.up.all_shown
  pub later : old.up.shown ≤ new.up.shown
  pub took : (i : ℕ) (p : ℕ × Store N) → get_elem? old.up.got i ≡ some p → get_elem? new.up.got i ≡ some p
  pub first : new.first ≡ old.first

-- a look between these two showed the store with this number as the newest: none that is older than was shown before it, or newer
-- than is shown behind it
abbrev pub HasShown : {N : Type 0} → (old new : EndValue N) → ℕ → Type 0
HasShown old new n =
    (i : ℕ) × (k : ℕ) × (length old.up.all_shown ≤ i) × (get_elem? new.up.all_shown i ≡ some k) × (n ≡ store_number k) × (old.up.shown ≤ k) × (k ≤ new.up.shown)

-- so later looks show no older store
abbrev pub LooksAscend : Type 1
LooksAscend = (N : Type 0) (a b c : EndValue N) (n m : ℕ) → HasShown a b n → HasShown b c m → n ≤ m

-- ONE LOOK
-- a look shows a store as the newest, and nothing else is told otherwise
pub record LooksEnd {N : Type 0} (old : EndValue N) (n : ℕ) (new : EndValue N) : Type 0 where
  pub shown : HasShown old new n
  pub stays : (m : ℕ) (x : List ℕ) → IsTaken old m x → IsTaken new m x
  pub goes_on : GoesOn old new
  pub rest : told_of new ≡ told_of old

-- ONE COPY
-- a copy out looks once, and gives the store that this look showed as the newest, whole
pub record CopiesEndOut {N : Type 0} (old : EndValue N) (n : ℕ) (content : List ℕ) (new : EndValue N) : Type 0 where
  pub looks : new.up.looks ≡ old.up.looks + 1
  pub shown : n ≡ store_number new.up.shown
  pub shows : ShowsNewest old.up new.up
  pub later : old.up.shown ≤ new.up.shown
  pub taken : IsTaken new n content
  pub stays : (m : ℕ) (x : List ℕ) → IsTaken old m x → IsTaken new m x
  pub goes_on : GoesOn old new
  pub rest : told_of new ≡ told_of old

-- a copy in stores a content
pub record CopiesEndIn {N : Type 0} (old : EndValue N) (n : ℕ) (content : List ℕ) (new : EndValue N) : Type 0 where
  pub stored : new ≡ record old { down = record old.down { stores = old.down.stores ++ store_of content None ∷ [] } }
  pub number : n ≡ store_number (length new.down.stores)

-- The mirrors of all synchronized blocks, the driver's ends of them, and the application's sides, by id: nothing of a block that
-- isn't synchronized.
use Rattle.std.specs.Prelude.{◌≡◌, ◌⊎◌, ◌++◌, ◌∷◌, ◌≤◌, ℕ, true, false, List, [], length, get_or, option_map, is_some, unwrap_or, replicate, Option, Some, None, IfSome, IfNone}
use Rattle.std.specs.Option.{option_and_then}
use Rattle.block_machine.specs.block_config.declared.block.BlockDesc.{BlockDesc}
use Rattle.block_machine.specs.block_config.Config.{Configuration, block_of}
use Rattle.block_machine.specs.Blocks.{is_synchronized}
use Rattle.ram_blocks.specs.Told.{Told}
use mathlib.Core.Option.{some}
use lib.ListN.{get_elem?}
use Rattle.ram_mirrors.specs.declared.view.Store.{Store}
use Rattle.ram_mirrors.specs.Stores.{AllStored, store_of}
use Rattle.ram_mirrors.specs.Ends.{OwnerValue, TakerValue, IsOwnerOf, IsTakerOf, NothingNewer, TakesNewest}
use Rattle.ram_mirrors_sync.specs.Ends.{Nothing, PairValue, EndValue, IsEndOf, IsTaken, GoesOn, HasShown, told_of}

-- the application's side of a block: what it stored, with what it handed along, and what it took
pub record SideValue (N : Type 0) : Type 0 where
  pub block : ℕ
  pub up : OwnerValue N
  pub down : TakerValue Nothing

abbrev pub Pairs : Type 0
Pairs = List (Option PairValue)

abbrev pub EndList : Type 0 → Type 0
EndList N = List (Option (EndValue N))

abbrev pub SideList : Type 0 → Type 0
SideList N = List (Option (SideValue N))

abbrev pub pair_at : Pairs → ℕ → Option PairValue
pair_at ps id = get_or ps id None

abbrev pub end_at : {N : Type 0} → EndList N → ℕ → Option (EndValue N)
end_at es id = get_or es id None

abbrev pub side_at : {N : Type 0} → SideList N → ℕ → Option (SideValue N)
side_at ss id = get_or ss id None

-- WHAT BELONGS TOGETHER
-- each block with mirrors has the driver's ends of them
abbrev pub HasEnd : {N : Type 0} → Option PairValue → Option (EndValue N) → Type 0
HasEnd (Some p) (Some e) = IsEndOf p e
HasEnd None None = Unit {0}
HasEnd p e = ⊥

abbrev pub AreEndsOf : {N : Type 0} → Pairs → EndList N → Type 0
AreEndsOf ps es = (id : ℕ) → HasEnd (pair_at ps id) (end_at es id)

-- the ends are those of these mirrors, and have the same length
pub record IsSideOf {N : Type 0} (p : PairValue) (s : SideValue N) : Type 0 where
  pub up : IsOwnerOf p.up s.up
  pub down : IsTakerOf p.down s.down
  pub same : s.down.size ≡ s.up.size

-- a side is that of its block's mirrors
abbrev pub IsSideBy : {N : Type 0} → Option PairValue → SideValue N → Type 0
IsSideBy (Some p) s = IsSideOf p s
IsSideBy None s = ⊥

abbrev pub IsSideIn : {N : Type 0} → Pairs → SideValue N → Type 0
IsSideIn ps s = IsSideBy (pair_at ps s.block) s

-- each side that is in stands at its block's place
abbrev pub AreSidesOf : {N : Type 0} → Pairs → SideList N → Type 0
AreSidesOf ps ss = (id : ℕ) → IfSome (side_at ss id) (λ s. (s.block ≡ id) × IsSideIn ps s)

-- each block with mirrors has its side in
abbrev pub AreIn : {N : Type 0} → Pairs → SideList N → Type 0
AreIn ps ss = (id : ℕ) → is_some (side_at ss id) ≡ is_some (pair_at ps id)

-- CALLS OF A SIDE
-- one store more, of this content, with this handed along
abbrev pub IsNextStore : {N : Type 0} → List ℕ → Option N → SideValue N → SideValue N → Type 0
IsNextStore content note s t = t ≡ record s { up = record s.up { stores = s.up.stores ++ store_of content note ∷ [] } }

-- it looked once, and took the newest content that was read since, or there was none
pub record IsNextRead {N : Type 0} (number : Option ℕ) (s t : SideValue N) : Type 0 where
  pub only : t ≡ record s { down = t.down }
  pub none : IfNone number (NothingNewer s.down t.down)
  pub some : IfSome number (λ n. TakesNewest s.down n t.down)

-- THE DRIVER'S COPIES
pub record SyncValue (N : Type 0) : Type 0 where
  pub mirrors : Pairs
  pub ends : EndList N

abbrev pub told_by : {N : Type 0} → Option (EndValue N) → Told
told_by o = option_map told_of o

-- this content was the application's store of a block with this number
abbrev pub IsStore : {N : Type 0} → EndList N → ℕ → ℕ → List ℕ → Type 0
IsStore es b n x = IfSome (end_at es b) (λ e. IsTaken e n x)

-- between these two values a look of the driver at this block showed the store with this number as the newest
abbrev pub WasShown : {N : Type 0} → Option (EndValue N) → Option (EndValue N) → ℕ → Type 0
WasShown (Some e) (Some f) n = HasShown e f n
WasShown e f n = ⊥

abbrev pub HasLooked : {N : Type 0} → EndList N → EndList N → ℕ → ℕ → Type 0
HasLooked old new b n = WasShown (end_at old b) (end_at new b) n

-- each end goes on from that of the same block
abbrev pub EndGoesOn : {N : Type 0} → Option (EndValue N) → Option (EndValue N) → Type 0
EndGoesOn (Some e) (Some f) = GoesOn e f
EndGoesOn None None = Unit {0}
EndGoesOn e f = ⊥

abbrev pub EndsGoOn : {N : Type 0} → EndList N → EndList N → Type 0
EndsGoOn old new = (b : ℕ) → EndGoesOn (end_at old b) (end_at new b)

-- Copies go on from these: they are over the same mirrors, and were shown and took all that these were and did.
pub record IsOver {N : Type 0} (first now : SyncValue N) : Type 0 where
  pub mirrors : now.mirrors ≡ first.mirrors
  pub ends : EndsGoOn first.ends now.ends

-- WHAT IS KNOWN OF LOOKS
-- What lies between two is between earlier and later ones too, and no look shows an older store than one before it.
pub record LooksGoOn (N : Type 0) : Type 0 where
  pub itself : (s : SyncValue N) → IsOver s s
  pub further : (r s t : SyncValue N) → IsOver r s → IsOver s t → IsOver r t
  pub later : (r s t : SyncValue N) (b n : ℕ) → HasLooked r.ends s.ends b n → IsOver s t → HasLooked r.ends t.ends b n
  pub earlier : (r s t : SyncValue N) (b n : ℕ) → IsOver r s → HasLooked s.ends t.ends b n → HasLooked r.ends t.ends b n
  pub ascend : (r s t : SyncValue N) (b n m : ℕ) → HasLooked r.ends s.ends b n → HasLooked s.ends t.ends b m → n ≤ m

-- WHAT CAME ALONG
-- what came along with the last store that was taken of a block, where it is there
abbrev pub note_by : {N : Type 0} → Option (EndValue N) → Option N
note_by o = option_and_then (λ e. e.up.note) o

abbrev pub note_at : {N : Type 0} → EndList N → ℕ → Option N
note_at es b = note_by (end_at es b)

-- A look showed the store with this number: it is that before the first, or it or a later one was taken, of whose note this holds.
abbrev pub CameWith : {N : Type 0} → (Option N → Type 0) → EndValue N → ℕ → Type 0
CameWith {N} holds e n = (n ≡ 0) ⊎ ((i : ℕ) × (m : ℕ) × (x : Store N) × (get_elem? e.up.got i ≡ some (m, x)) × (n ≤ m) × holds x.note)

-- so of a block
abbrev pub HasCameWith : {N : Type 0} → (Option N → Type 0) → EndList N → ℕ → ℕ → Type 0
HasCameWith holds es b n = IfSome (end_at es b) (λ e. CameWith holds e n)

-- and it is the note that is there now
abbrev pub HasCome : {N : Type 0} → EndList N → ℕ → ℕ → Type 0
HasCome es b n = HasCameWith (λ note. note ≡ note_at es b) es b n

-- BEFORE THE FIRST STORE
-- the application has the defaults, or zeros
abbrev pub first_of : BlockDesc → List ℕ
first_of d = unwrap_or d.defaults (replicate d.length 0)

-- nothing was stored or taken yet
pub record IsNew {N : Type 0} (d : BlockDesc) (e : EndValue N) (s : SideValue N) : Type 0 where
  pub length_up : e.up.size ≡ d.length
  pub length_side : s.up.size ≡ d.length
  pub got : e.up.got ≡ []
  pub shown : e.up.shown ≡ 0
  pub handed : e.down.stores ≡ []
  pub first : e.first ≡ first_of d
  pub stores : s.up.stores ≡ []
  pub read : s.down.got ≡ []

-- the mirrors of a synchronized block, with both their ends
pub record IsMirrored {N : Type 0} (id : ℕ) (d : Option BlockDesc) (p : PairValue) (e : EndValue N) (s : SideValue N) : Type 0 where
  pub desc : BlockDesc
  pub is : d ≡ Some desc
  pub synchronized : is_synchronized desc.ram ≡ true
  pub end : IsEndOf p e
  pub side : IsSideOf p s
  pub block : s.block ≡ id
  pub new : IsNew desc e s

-- a block has mirrors, ends and a side exactly where it is synchronized
abbrev pub IsMade : {N : Type 0} → ℕ → Option BlockDesc → Option PairValue → Option (EndValue N) → Option (SideValue N) → Type 0
IsMade id d (Some p) (Some e) (Some s) = IsMirrored id d p e s
IsMade id d None None None = IfSome d (λ x. is_synchronized x.ram ≡ false)
IsMade id d p e s = ⊥

abbrev pub AreMade : {N : Type 0} → Configuration → Pairs → EndList N → SideList N → Type 0
AreMade c ps es ss = (id : ℕ) → IsMade id (block_of c id) (pair_at ps id) (end_at es id) (side_at ss id)

-- AT THE END
-- each pair that an end took is a store of the other end, whole, with its number, and it was shown no store that wasn't made
pub record IsClosed {N : Type 0} (e : EndValue N) (s : SideValue N) : Type 0 where
  pub got : AllStored s.up.stores e.up.got
  pub shown : e.up.shown ≤ length s.up.stores
  pub read : AllStored e.down.stores s.down.got

abbrev pub AreClosed : {N : Type 0} → EndList N → SideList N → Type 0
AreClosed es ss = (id : ℕ) → IfSome (end_at es id) (λ e. IfSome (side_at ss id) (λ s. IsClosed e s))

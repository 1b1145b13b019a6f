-- What the callers of a run did, each of its program, and how they ended.
use Rattle.std.specs.Prelude.{◌≡◌, ◌≤◌, ℕ, List, [], ◌∷◌, length, take, slice_get, All, Option, Some, None, IfSome}
use Rattle.turn_gate.specs.declared.pass.View.{View}
use Rattle.turn_gate.specs.Entries.{StartsWith}
use Rattle.turn_gate.specs.Pass.{knows}
use Rattle.driver_moves.specs.block_machine.Words.{Request, Entry, Configuration}
use Rattle.driver_moves.specs.nvm_shared.declared.terms.Terms.{Terms}
use Rattle.driver_moves.specs.nvm_shared.Passes.{PassValue, SharedState, IsUserOf}
use Rattle.ram_mirrors_sync.specs.Blocks.{Pairs}
use Rattle.script_callers.specs.declared.deed.Deed.{Deed}
use Rattle.script_callers.specs.declared.deed.Deed.TheVariants.{Ask}
use Rattle.script_callers.specs.declared.program.Program.{Program}
use Rattle.nvm_callers.specs.Deeds.{HasDone}
use Rattle.nvm_callers.specs.Order.{FoundNoRoom}
use Rattle.nvm_callers.specs.Shares.{Share}
use Rattle.nvm_callers.specs.Joins.{Collects}
use Rattle.nvm_callers.specs.Stored.{Stored, HasStored, AreAsMany}
use Rattle.nvm_callers.specs.Calls.{Did, MayMake, MayStore}
use Rattle.nvm_callers.specs.declared.threads.WorkerOf.{WorkerOf as Worker}
use Rattle.nvm_callers.specs.declared.ending.Ending.{Ending}
use Rattle.nvm_callers.specs.declared.ending.Ending.TheVariants.{All as EndsAll, NoRoom, Memory}

-- the program of a caller from 0 to 15, all of which it may make
abbrev pub MayRun : Configuration → Program → Type 0
MayRun c p = (p.caller ≤ 15) × All (MayMake c) p.deeds

-- behind its deeds, in a list that it saw, the caller's next request had no room
pub record HadFull (t : Terms) (s : Share) : Type 0 where
  pub seen : List Entry
  pub starts : StartsWith s.seen seen
  pub found : FoundNoRoom t.config t.cap s.own seen s.notes s.caller s.deeds

-- so many deeds of a program were made, and then its caller ended
abbrev pub EndsAt : Terms → List Deed → (made : ℕ) → Share → Ending → Type 0
EndsAt t deeds made s EndsAll = made ≡ length deeds
EndsAt t deeds made s NoRoom = HadFull t s × ((line : ℕ) × (r : Request) × (slice_get deeds made ≡ Some (Ask line r)))
EndsAt t deeds made s Memory = Unit {0}

-- the share of a caller that made so many of its deeds, and whose pass knows this
abbrev pub share_of : Program → (made : ℕ) → View Entry Terms → Share
share_of p made v = record { caller = p.caller; deeds = take made p.deeds; own = v.own; seen = v.seen; notes = v.notes }

-- of two endings the one that is told of both: want of memory, else want of room
abbrev pub worse : Ending → Ending → Ending
worse EndsAll e = e
worse NoRoom Memory = Memory
worse NoRoom e = NoRoom
worse Memory e = Memory

abbrev pub worst : List Ending → Ending
worst [] = EndsAll
worst (e ∷ es) = worse e (worst es)

-- WORKERS
-- a worker whose caller did nothing yet: its pass added nothing
pub record IsFresh (g : SharedState) (p : PassValue) (made : ℕ) (ending : Option Ending) : Type 0 where
  pub own : IsUserOf g p
  pub none : (knows p).own ≡ []
  pub part : (knows p).parts ≡ 1
  pub first : made ≡ 0
  pub goes_on : ending ≡ None

-- the worker at this place may go on with its program, of which it made so many deeds
pub record WorkerMayGoOn (g : SharedState) (programs : List Program) (place : ℕ) (p : PassValue) (made : ℕ) : Type 0 where
  pub own : IsUserOf g p
  pub part : (knows p).parts ≡ 1
  pub few : (one : Program) → slice_get programs place ≡ Some one → made ≤ length one.deeds

-- the same view with so many parts
abbrev pub with_parts : View Entry Terms → ℕ → View Entry Terms
with_parts v parts = record v { parts = parts }

-- where a caller's stores go: of how many bytes each is, by block, which there are, and the mirrors that they go into
module _ {S : Type 0} (bytes : S → ℕ → Option ℕ) (stored : S → ℕ → List Stored) (mirrors : S → Pairs) where
  -- A caller's share is that of its program's first deeds. Where none was stored before, and each is of as many bytes as its block
  -- takes, its stores are those of these deeds. They are of as many bytes as before, and go into the same mirrors.
  pub record HasMade (t : Terms) (p : Program) (s : Share) (ending : Ending) (first now : S) : Type 0 where
    pub made : ℕ
    pub caller : s.caller ≡ p.caller
    pub deeds : s.deeds ≡ take made p.deeds
    pub done : HasDone t.config t.cap s.own s.seen s.notes s.caller s.deeds
    pub ends : EndsAt t p.deeds made s ending
    pub stores : ((block : ℕ) → stored first block ≡ []) → All (MayStore (bytes first)) s.deeds
        → HasStored t.config t.cap s.own s.seen s.notes s.caller s.deeds (stored now) × AreAsMany s.deeds (stored now)
    pub same_bytes : (block : ℕ) → bytes now block ≡ bytes first block
    pub same_mirrors : mirrors now ≡ mirrors first

  -- so it is of each program, with the share, the ending and the stores at its place
  abbrev pub AllMade : Terms → List Program → List Share → List Ending → (firsts nows : List S) → Type 0
  AllMade t [] [] [] [] [] = Unit {0}
  AllMade t (p ∷ ps) (s ∷ ss) (e ∷ es) (f ∷ fs) (n ∷ ns) = HasMade t p s e f n × AllMade t ps ss es fs ns
  AllMade t ps ss es fs ns = ⊥

  -- The pass took in all that these programs' callers know, they ended so, and of what was stored at first this is there now.
  pub record HaveRun (t : Terms) (programs : List Program) (firsts nows : List S) (ending : Ending) (v : View Entry Terms) : Type 0 where
    pub shares : List Share
    pub endings : List Ending
    pub made : AllMade t programs shares endings firsts nows
    pub collects : Collects shares v
    pub ends : ending ≡ worst endings

  -- A caller made so many deeds of its program, as its pass knows, with the stores that these make; and where it ended, it ended so,
  -- and saw so many entries then.
  pub record HasBegun (t : Terms) (p : Program) (v : View Entry Terms) (made : ℕ) (ending : Option Ending) (seen : ℕ) (first now : S) : Type 0 where
    pub did : Did t p.caller (take made p.deeds) v (bytes first) (stored first) (stored now)
    pub same_bytes : (block : ℕ) → bytes now block ≡ bytes first block
    pub same_mirrors : mirrors now ≡ mirrors first
    pub ended : IfSome ending (λ e. EndsAt t p.deeds made (share_of p made v) e × (seen ≡ length v.seen))

  -- whatever a worker at this place made of its program, it goes on from there
  abbrev pub GoesOn : SharedState → List Program → (place : ℕ) → (old new : Worker PassValue S) → Type 0
  GoesOn g programs place old new =
      (p : Program) (first : S) → slice_get programs place ≡ Some p → HasBegun g.terms p (knows old.pass) old.made old.ending old.seen first old.stores
      → HasBegun g.terms p (knows new.pass) new.made new.ending new.seen first new.stores

  -- the worker at this place made its program, ended so, and saw so many entries then
  pub record HasWorked (g : SharedState) (programs : List Program) (place : ℕ) (pass : PassValue) (made : ℕ) (ending : Option Ending) (seen : ℕ) (first now : S) : Type 0 where
    pub own : IsUserOf g pass
    pub part : (knows pass).parts ≡ 1
    pub ended : Ending
    pub is : ending ≡ Some ended
    pub made_it : (p : Program) → slice_get programs place ≡ Some p → HasMade g.terms p (share_of p made (knows pass)) ended first now
    pub saw : seen ≡ length (knows pass).seen

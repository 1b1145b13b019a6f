-- The job of a request, from its acceptance to its Post.
use Rattle.std.specs.Prelude.{◌≡◌, ◌⊎◌, ℕ, Bool, true, false, IsTrue, List, [], ◌∷◌, ◌++◌, Option, Some, None}
use Rattle.std.specs.List.{list_all}
use Rattle.nvm_moves.specs.block_machine.Words.{ReqResult, Request, Read, Write, Accepted, Refused, Refusal, Entry, Ask, Pick, Wrote, Post, Off}
use Rattle.nvm_moves.specs.block_machine.State.{State, Job}
use Rattle.nvm_moves.specs.block_machine.Blocks.{asked_block}

-- WHAT IS PENDING

-- no job is pending
pub record HasNone (s : State) : Type 0 where
  pub hand : s.hand ≡ None
  pub waiting : s.waiting ≡ []
  pub sweep : s.sweep ≡ None

-- the job of this request waits, or it is in hand
pub record Waits (asked : Request) (s : State) : Type 0 where
  pub job : Job
  pub request : job.request ≡ asked
  pub hand : s.hand ≡ None
  pub waiting : s.waiting ≡ job ∷ []

pub record IsInHand (asked : Request) (s : State) : Type 0 where
  pub job : Job
  pub request : job.request ≡ asked
  pub hand : s.hand ≡ Some job
  pub waiting : s.waiting ≡ []

-- no other job is pending, and the power is on
pub record HasOne (asked : Request) (s : State) : Type 0 where
  pub on : s.off ≡ false
  pub sweep : s.sweep ≡ None
  pub job : Waits asked s ⊎ IsInHand asked s

-- it reads to the caller's own buffer, or writes the content that it brings
abbrev pub IsOwn : Request → Type 0
IsOwn (Read block ram) = ram ≡ false
IsOwn (Write block (Some content) store) = store ≡ 0
IsOwn asked = ⊥

-- ENTRIES

-- on the way to the Post
abbrev pub is_under_way : Entry → Bool
is_under_way (Pick block kind taken ops) = true
is_under_way (Wrote i mark ops) = true
is_under_way e = false

-- the entries of an accepted request: its Ask, those on the way, and this one last
pub record EndsWith (asked : Request) (end : Entry) (piece : List Entry) : Type 0 where
  pub way : List Entry
  pub under_way : IsTrue (list_all is_under_way way)
  pub is : piece ≡ Ask 0 asked Accepted ∷ way ++ end ∷ []

-- its Post, of its block
pub record EndsPosted (asked : Request) (piece : List Entry) : Type 0 where
  pub result : ReqResult
  pub given : Option (List ℕ)
  pub refused : ℕ
  pub ops : ℕ
  pub ends : EndsWith asked (Post (asked_block asked) result given refused ops) piece

-- or the power went off
pub record EndsOff (asked : Request) (piece : List Entry) : Type 0 where
  pub ops : ℕ
  pub ends : EndsWith asked (Off ops) piece

-- a request that was refused has its Ask alone
abbrev pub IsRefused : Request → List Entry → Type 0
IsRefused asked piece = (why : Refusal) × (piece ≡ Ask 0 asked (Refused why) ∷ [])

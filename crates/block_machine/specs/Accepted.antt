-- Where a mark comes from that may stand in an instance, and how old it may be.
use Rattle.std.specs.Prelude.{◌≡◌, ◌⊎◌, ◌<◌, ℕ, IsTrue, List, [], ◌∷◌, slice_get, Contains, Some, None}
use Rattle.block_machine.specs.Words.{ReqResult, Fine, RedundancyFailed, Instance, Mark, Content, Invalid, Erased, Request, Write, Invalidate, Erase, WriteAll, Accepted, Entry, Ask, Pick, Post, Found, Configuration}
use Rattle.block_machine.specs.State.{State, Job}
use Rattle.block_machine.specs.Blocks.{indices_of, job_block, mark_of}
use Rattle.block_machine.specs.StartUp.{at_first, listed_mark}
use Rattle.block_machine.specs.Steps.{step}
use Rattle.block_machine.specs.Legal.{has_length}

-- from a state on, a fact on an entry and the state before it holds of one of these
abbrev pub AtOne : Configuration → (State → Entry → Type 0) → State → List Entry → Type 0
AtOne c P s [] = ⊥
AtOne c P s (e ∷ es) = P s e ⊎ AtOne c P (step c s e) es

-- ACCEPTED

-- a request asks for this mark of a block: for its own content, for what RAM holds when it is taken, for Invalid or Erased
abbrev pub AsksFor : Request → ℕ → Mark → Type 0
AsksFor (Write block (Some content) store) id mark = (block ≡ id) × (mark ≡ Content content)
AsksFor (Write block None store) id (Content bytes) = block ≡ id
AsksFor (Invalidate block) id mark = (block ≡ id) × (mark ≡ Invalid)
AsksFor (Erase block) id mark = (block ≡ id) × (mark ≡ Erased)
AsksFor WriteAll id (Content bytes) = Unit {0}
AsksFor request id mark = ⊥

-- entry `number` of a history is an Ask that accepted such a request
pub record IsAskOf (h : List Entry) (number id : ℕ) (mark : Mark) : Type 0 where
  pub caller : ℕ
  pub request : Request
  pub stands : slice_get h number ≡ Some (Ask caller request Accepted)
  pub asks : AsksFor request id mark

-- the job in hand in this state has taken this mark for the instance, behind its accepted Ask
pub record HasTaken (c : Configuration) (h : List Entry) (s : State) (i : Instance) (mark : Mark) : Type 0 where
  pub job : Job
  pub in_hand : s.hand ≡ Some job
  pub block : job_block job ≡ i.block
  pub index : Contains (indices_of c s i.block) i.index
  pub takes : mark_of job ≡ Some mark
  pub behind : job.number < s.count
  pub ask : IsAskOf h job.number i.block mark

-- a Pick takes this mark for the instance
abbrev pub Takes : Configuration → List Entry → State → Instance → Mark → Entry → Type 0
Takes c h s i mark (Pick block kind taken ops) = HasTaken c h (step c s (Pick block kind taken ops)) i mark
Takes c h s i mark e = ⊥

-- an entry brings this mark to the instance: a start-up found it there, or a job took it
abbrev pub Brings : Configuration → List Entry → State → Instance → Mark → Entry → Type 0
Brings c h s i mark (Found marks ops) = listed_mark marks i ≡ mark
Brings c h s i mark e = Takes c h s i mark e

-- from a state on, one of these entries brings it
abbrev pub IsBroughtBy : Configuration → List Entry → State → Instance → Mark → List Entry → Type 0
IsBroughtBy c h s i mark es = AtOne c (λ s e. Brings c h s i mark e) s es

-- a mark is whole, and an entry of the history brought it
pub record IsAccepted (c : Configuration) (h : List Entry) (i : Instance) (mark : Mark) : Type 0 where
  pub whole : IsTrue (has_length c i mark)
  pub brought : IsBroughtBy c h at_first i mark h

-- ACKNOWLEDGED

-- a Post tells of an instance that it was written: with 0 of each of its block, with 7 of the copy that was
abbrev pub Tells : Configuration → State → Job → ReqResult → ℕ → Type 0
Tells c s j Fine index = Contains (indices_of c s (job_block j)) index
Tells c s j RedundancyFailed index = Contains j.written index
Tells c s j r index = ⊥

-- an entry acknowledges this mark of an instance: a Post, or a start-up that found it
abbrev pub Acknowledges : Configuration → State → Instance → Mark → Entry → Type 0
Acknowledges c s i mark (Post block r given refused ops) = (j : Job) × (s.hand ≡ Some j) × (job_block j ≡ i.block) × (mark_of j ≡ Some mark) × Tells c s j r i.index
Acknowledges c s i mark (Found marks ops) = listed_mark marks i ≡ mark
Acknowledges c s i mark e = ⊥

-- from a state on, a job took the mark in one of these entries
abbrev pub IsTakenIn : Configuration → List Entry → State → Instance → Mark → List Entry → Type 0
IsTakenIn c h s i mark es = AtOne c (λ s e. Takes c h s i mark e) s es

-- from a state on, each mark that one of these entries acknowledges is this one, or a job took this one later
abbrev pub IsNotOlderFrom : Configuration → List Entry → State → Instance → Mark → List Entry → Type 0
IsNotOlderFrom c h s i mark [] = Unit {0}
IsNotOlderFrom c h s i mark (e ∷ es) =
    ((acknowledged : Mark) → Acknowledges c s i acknowledged e → (mark ≡ acknowledged) ⊎ IsTakenIn c h (step c s e) i mark es)
    × IsNotOlderFrom c h (step c s e) i mark es

-- so it is no older than the last that was acknowledged
abbrev pub IsNotOlder : Configuration → List Entry → Instance → Mark → Type 0
IsNotOlder c h i mark = IsNotOlderFrom c h at_first i mark h

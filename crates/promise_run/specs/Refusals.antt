-- What `refuse` steps do: the next copies of synchronized RAM are refused, as many as were asked for, and no others.
use Rattle.std.specs.Prelude.{◌≡◌, ℕ, zero, suc, ◌+◌, ◌-◌, ◌==◌, ◌&&◌, not, min, nat_le, is_some, Bool, true, List, [], ◌∷◌, take, if◌then◌else◌, Option, Some, None}
use Rattle.std.specs.Option.{option_map_or}
use Rattle.block_machine.specs.nv_base.Count.{last_count}
use Rattle.block_machine.specs.Words.{Taken, TookContent, TookRefused, TookStale, Entry, Pick, Post, Configuration}
use Rattle.block_machine.specs.State.{State}
use Rattle.block_machine.specs.Blocks.{desc_of, is_synchronized, names_ram}
use Rattle.block_machine.specs.Next.{Next, PickJob, next_of}
use Rattle.block_machine.specs.StartUp.{at_first}
use Rattle.block_machine.specs.Steps.{step, after, after_from}
use Rattle.script_walks.specs.Words.{Step, StepKind, Refuse}
use Rattle.promise_run.specs.Run.{Course, Played, Ran}

-- how many of a block's next copies are to be refused behind a step, where so many were before it
abbrev pub asked_by : ℕ → StepKind → ℕ → ℕ
asked_by id (Refuse block count) left = if block == id then min (left + count) last_count else left
asked_by id kind left = left

-- WHAT AN ENTRY TELLS OF A COPY: how many copies were refused, if all tries were, and 0 if one was made; nothing where none was tried
abbrev pub copied_out : (copies : Bool) → Taken → Option ℕ
copied_out copies (TookRefused count) = Some count
copied_out copies (TookStale wanted got count) = Some 0
copied_out true (TookContent bytes number) = Some 0
copied_out copies t = None

abbrev pub copied_in : (ram : Bool) → Option (List ℕ) → (refused : ℕ) → Option ℕ
copied_in ram given (suc n) = Some (suc n)
copied_in true (Some content) zero = Some 0
copied_in ram given zero = None

-- the job that is picked next has its content already: its own, or that which it took before it was interrupted
abbrev pub has_content : Next → Bool
has_content (PickJob j) = is_some j.content
has_content next = not true

-- of the copies of one block; a member that is posted without a Pick goes to RAM
abbrev pub copy_told : Configuration → ℕ → State → Entry → Option ℕ
copy_told c id s (Pick block kind t ops) = if block == id then copied_out (is_synchronized (desc_of c block).ram && not (has_content (next_of c s))) t else None
copy_told c id s (Post block r given refused ops) =
    if block == id then copied_in (option_map_or (λ j. names_ram j.request) s.hand true && is_synchronized (desc_of c block).ram) given refused else None
copy_told c id s e = None

-- a copy is refused at each try exactly where as many are left to refuse, and takes as many of them as it has tries
abbrev pub IsAsAsked : (tries left : ℕ) → Option ℕ → Type 0
IsAsAsked tries left (Some refused) = refused ≡ (if nat_le tries left then tries else 0)
IsAsAsked tries left None = Unit {0}

abbrev pub left_by : (tries left : ℕ) → Option ℕ → ℕ
left_by tries left (Some refused) = left - tries
left_by tries left None = left

-- so it is of each entry, from so many copies that are left to refuse before them to so many behind
abbrev pub AreAsAsked : Configuration → ℕ → State → (left : ℕ) → List Entry → (behind : ℕ) → Type 0
AreAsAsked c id s left [] behind = behind ≡ left
AreAsAsked c id s left (e ∷ es) behind =
    let tries = (desc_of c id).repeats + 1 in
    let copy = copy_told c id s e in IsAsAsked tries left copy × AreAsAsked c id (step c s e) (left_by tries left copy) es behind

-- and of each step's piece, behind what the step asks for
abbrev pub StepsRefuse : Configuration → ℕ → State → (left : ℕ) → List Step → List (List Entry) → (behind : ℕ) → Type 0
StepsRefuse c id s left (x ∷ xs) (p ∷ ps) behind =
    (next : ℕ) × AreAsAsked c id s (asked_by id x.kind left) p next × StepsRefuse c id (after_from c s p) next xs ps behind
StepsRefuse c id s left xs ps behind = behind ≡ left

-- The copies of a block are refused as its `refuse` steps ask, from the first start-up on. In `run` none is refused.
abbrev pub RefusesAsAsked : Configuration → Course → List Entry → ℕ → Type 0
RefusesAsAsked c (Played made pieces left) h id = (behind : ℕ) × StepsRefuse c id (after c (take 1 h)) 0 made pieces behind
RefusesAsAsked c (Ran steps looks) h id = AreAsAsked c id at_first 0 h 0

-- How a run ends in which nothing fails, and with which results.
use Rattle.std.specs.Prelude.{◌≡◌, ◌≢◌, ◌⊎◌, ◌==◌, ℕ, suc, Bool, true, false, IsTrue, List, [], ◌∷◌, Some, None}
use Rattle.std.specs.List.{list_all}
use Rattle.block_machine.specs.nv_base.Count.{Rose}
use Rattle.script_walks.specs.Words.{Step}
use Rattle.block_machine.specs.Words.{TookRefused, TookStale, Entry, Pick, Post, Off, Configuration}
use Rattle.block_machine.specs.State.{State, Job}
use Rattle.block_machine.specs.Blocks.{job_block}
use Rattle.block_machine.specs.StartUp.{at_first}
use Rattle.block_machine.specs.Results.{own_of, failed_set}
use Rattle.block_machine.specs.Steps.{step, after}
use Rattle.promise_blocks.specs.Payment.{Worn, IsExcused}
use Rattle.script_walks.specs.Walk.{is_at_rest}
use Rattle.promise_device.specs.FlashRun.{TellsBytes, StartsSound}
use Rattle.promise_device.specs.Bridge.{IsWornOut}
use Rattle.promise_run.specs.Promise.{making_of}
use Rattle.promise_run.specs.Run.{Run, Course, Played, Ran, FlashFault, Memory, HasOrder}
use Rattle.script_walks.specs.Looks.{Look}

-- NOTHING FAILS

abbrev pub is_calm_entry : Entry → Bool
is_calm_entry (Off ops) = false
is_calm_entry (Pick block kind (TookRefused count) ops) = false
is_calm_entry (Pick block kind (TookStale asked got count) ops) = false
is_calm_entry (Post block r given (suc refused) ops) = false
is_calm_entry e = true

-- no fault was counted, the power stayed on, and no copy was refused or stale
pub record IsCalm (r : Run) : Type 0 where
  pub no_fault : ¬ Rose r.flash.entry.faults r.flash.exit.faults
  pub entries : IsTrue (list_all is_calm_entry r.history)

-- a job of this block is posted, or another Pick interrupts it
abbrev pub ends_job : ℕ → Entry → Bool
ends_job id (Post block r given refused ops) = block == id
ends_job id (Pick block kind t ops) = true
ends_job id e = false

-- EACH RESULT

-- what each entry keeps: a fact on the state before it
abbrev pub EachEntry : Configuration → (State → Entry → Type 0) → State → List Entry → Type 0
EachEntry c P s [] = Unit {0}
EachEntry c P s (e ∷ es) = P s e × EachEntry c P (step c s e) es

-- A job in hand is posted with the result of the machine where no operation failed: the least failed set that explains it is
-- empty. Or the device was worn out.
abbrev pub PostsWell : Configuration → Worn → State → Entry → Type 0
PostsWell c worn s (Post block r given refused ops) =
    ((j : Job) → s.hand ≡ Some j → failed_set (own_of c s (job_block j)) j (r, given) ≡ Some []) ⊎ IsExcused c worn s (Post block r given refused ops)
PostsWell c worn s e = Unit {0}

abbrev pub PostWell : Run → Type 0
PostWell r = EachEntry r.configuration (PostsWell r.configuration (IsWornOut (making_of r.configuration) r.flash)) at_first r.history

-- A run over one flash in which nothing fails: it doesn't end at a fault, and over a flash that tells its bytes, from a sound
-- image on, no result is one of a failure.
pub record EndsWell (r : Run) : Type 0 where
  pub ends : r.end ≢ FlashFault
  pub results : r.beside ≡ None → TellsBytes r.flash → StartsSound (making_of r.configuration) r.flash → PostWell r

-- completeness of a run of callers in which nothing fails: nothing is pending at its end, so each accepted job has its Post
pub record ServesCallers (r : Run) : Type 0 where
  pub ends : r.end ≢ FlashFault
  pub rests : r.end ≢ Memory → IsTrue (is_at_rest (after r.configuration r.history))

-- That of `play` ends well: what its steps post and leave, its walk and its turns say.
abbrev pub Completeness : Run → Course → Type 0
Completeness r (Played made pieces left) = IsCalm r → EndsWell r
Completeness r (Ran steps looks) = IsCalm r → ServesCallers r

-- a run over one flash that follows its callers' programs has it
abbrev pub CallersAreServed : Type 0
CallersAreServed = (r : Run) (steps : List Step) (looks : List Look) → r.course ≡ Ran steps looks → r.beside ≡ None → HasOrder r r.history → Completeness r (Ran steps looks)

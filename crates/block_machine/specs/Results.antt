-- What a job is posted with: the table of results, which stands in ResultTable, over what its block is and holds, and the device
-- operations that failed.
use Rattle.std.specs.Prelude.{ℕ, ◌-◌, ◌==◌, ◌&&◌, not, Bool, true, false, List, [], ◌∷◌, ◌++◌, map, filter, find, slice_get, is_some, if◌then◌else◌, Option, Some, None}
use Rattle.std.specs.Option.{option_eq, option_and_then}
use Rattle.std.specs.Str.{bytes_eq}
use Rattle.nv_base.specs.Result.{code_of}
use Rattle.block_machine.specs.Words.{ReqResult, NotOk, Restored, Mark, Content, Invalid, Erased, Taken, TookRefused, TookStale, JobKind, ReadJob, RestoreJob, Outcome, WroteMark, ReadContent, FoundErased, FoundInvalid, Failed, GivenFrom, FromNowhere, FromDevice, FromDefaults, FromRom, BlockDesc, Configuration}
use Rattle.block_machine.specs.State.{State, BlockState, Job}
use Rattle.block_machine.specs.Blocks.{desc_of, block_at, is_in, indices_of, settled_at, job_block, kind_of}
use Rattle.block_machine.specs.ResultTable.{table, unpicked}

-- a result, and the content that is given with it, if one is
abbrev pub Answer : Type 0
Answer = ReqResult × Option (List ℕ)

-- all that a result depends on, beside the job: its block's description and state, and the settled marks of the instances
-- that it works on, by index
pub record Own : Type 0 where
  pub desc : BlockDesc
  pub state : BlockState
  pub marks : List (ℕ × Mark)

abbrev pub own_of : Configuration → State → ℕ → Own
own_of c s id = record { desc = desc_of c id; state = block_at s id; marks = map (λ index. (index, settled_at s (record { block = id; index = index }))) (indices_of c s id) }

-- OUTCOMES

-- the outcome of a device operation, where it failed at every try or didn't. Only a content can fail to be read.
abbrev pub outcome_of : JobKind → Mark → Bool → Outcome
outcome_of ReadJob Invalid failed = FoundInvalid
outcome_of ReadJob Erased failed = FoundErased
outcome_of ReadJob (Content bytes) failed = if failed then Failed else ReadContent
outcome_of kind mark failed = if failed then Failed else WroteMark

-- those of a job whose operations failed on the instances of this set
abbrev pub outcomes_of : JobKind → List (ℕ × Mark) → List ℕ → List Outcome
outcomes_of kind marks failed = map (λ x. outcome_of kind x.1 (is_in failed x.0)) marks

-- WHAT IS GIVEN

abbrev pub content_of : Mark → Option (List ℕ)
content_of (Content bytes) = Some bytes
content_of mark = None

-- what the device gave: the first content whose read didn't fail
abbrev pub device_content : List (ℕ × Mark) → List ℕ → Option (List ℕ)
device_content marks failed = option_and_then (λ x. content_of x.1) (find (λ x. is_some (content_of x.1) && not (is_in failed x.0)) marks)

abbrev pub given_by : Own → List ℕ → GivenFrom → Option (List ℕ)
given_by o failed FromNowhere = None
given_by o failed FromDevice = device_content o.marks failed
given_by o failed FromDefaults = o.desc.defaults
given_by o failed FromRom = slice_get o.desc.rom (o.state.index - o.desc.nv)

abbrev pub with_content : Own → List ℕ → ReqResult × GivenFrom → Answer
with_content o failed e = (e.0, given_by o failed e.1)

-- RESULTS

-- a RAM write whose last Pick got no content, since every copy out was refused or stale
abbrev pub took_none : Option Taken → Bool
took_none (Some (TookRefused count)) = true
took_none (Some (TookStale asked got count)) = true
took_none t = false

-- Block 1 holds the configuration id, which is its defaults too. In a ReadAll it is posted as read where it gives just
-- that id, and else is restored to it.
abbrev pub checked_id : Option (List ℕ) → Answer → Answer
checked_id id (r, given) = if option_eq bytes_eq given id then (r, given) else (Restored, id)

abbrev pub checks_id : Job → JobKind → Bool
checks_id j ReadJob = j.member && (job_block j == 1)
checks_id j kind = false

abbrev pub result_by : Own → Job → JobKind → List ℕ → Answer
result_by o j kind failed =
    let a = with_content o failed (table (is_some o.desc.defaults) kind (outcomes_of kind o.marks failed)) in
    if took_none j.taken then (NotOk, None) else (if checks_id j kind then checked_id o.desc.defaults a else a)

-- what a job is posted with, where the operations on these instances failed
abbrev pub result_of : Own → Job → List ℕ → Answer
result_of o j failed = result_by o j (kind_of j) failed

-- what a member is posted with that isn't picked
abbrev pub unpicked_result : Own → Bool → Answer
unpicked_result o writes = with_content o [] (unpicked writes (is_some o.desc.defaults))

-- THE FAILED SET

-- all sets of some of these, each after those that it contains
abbrev pub sets_of : List ℕ → List (List ℕ)
sets_of [] = [] ∷ []
sets_of (x ∷ xs) = sets_of xs ++ map (λ ys. x ∷ ys) (sets_of xs)

abbrev pub own_indices : Own → List ℕ
own_indices o = map (λ x. x.0) o.marks

-- the instances of the job that have no Wrote since its last Pick
abbrev pub unwritten : Own → Job → List ℕ
unwritten o j = filter (λ index. not (is_in j.written index)) (own_indices o)

-- The failed sets that the history leaves open: of a read any, of a write, invalidate or erase the instances that weren't
-- written, and of a job without an operation of the device none.
abbrev pub open_sets : Own → Job → JobKind → List (List ℕ)
open_sets o j ReadJob = sets_of (own_indices o)
open_sets o j RestoreJob = [] ∷ []
open_sets o j kind = (if took_none j.taken then [] else unwritten o j) ∷ []

abbrev pub same_answer : Answer → Answer → Bool
same_answer a b = (code_of a.0 == code_of b.0) && option_eq bytes_eq a.1 b.1

-- the least failed set that explains what a job is posted with, if one does
abbrev pub failed_set : Own → Job → Answer → Option (List ℕ)
failed_set o j answer = find (λ failed. same_answer (result_of o j failed) answer) (open_sets o j (kind_of j))

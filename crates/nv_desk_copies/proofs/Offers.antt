-- Where a job gives something though operations failed, it also would if none had.
use Rattle.std.proofs.Common.{◌≡◌, ℕ, Bool, true, false, List, [], ◌∷◌, is_some, if◌then◌else◌, refl, Option, Some, None}
use Rattle.std.specs.Str.{bytes_eq}
use Rattle.block_machine.specs.Words.{ReqResult, NotOk, Restored, Mark, Content, Invalid, Erased, JobKind, ReadJob, BlockDesc}
use Rattle.block_machine.specs.State.{BlockState, Job}
use Rattle.block_machine.specs.Blocks.{kind_of}
use Rattle.block_machine.specs.ResultTable.{table}
use Rattle.block_machine.specs.Results.{Answer, Own, with_content, outcomes_of, took_none, checks_id, checked_id, result_of}

abbrev Gives : Answer → Type 0
Gives a = is_some a.1 ≡ true

-- of a read, by what its instances hold
read_offers : (d : BlockDesc) (b : BlockState) (marks : List (ℕ × Mark)) (failed : List ℕ) (defaults : Bool)
    → let o : Own = record { desc = d; state = b; marks = marks } in
    Gives (with_content o failed (table defaults ReadJob (outcomes_of ReadJob marks failed)))
    → Gives (with_content o [] (table defaults ReadJob (outcomes_of ReadJob marks [])))
read_offers d b [] failed defaults h = h
read_offers d b ((i, Content x) ∷ []) failed defaults h = refl
read_offers d b ((i, Invalid) ∷ []) failed defaults h = h
read_offers d b ((i, Erased) ∷ []) failed true h = h
read_offers d b ((i, Erased) ∷ []) failed false h = h
read_offers d b ((i, Content x) ∷ m ∷ marks) failed defaults h = refl
read_offers d b ((i, Invalid) ∷ m ∷ marks) failed defaults h = h
read_offers d b ((i, Erased) ∷ (k, Content x) ∷ marks) failed defaults h = refl
read_offers d b ((i, Erased) ∷ (k, Invalid) ∷ marks) failed defaults h = h
read_offers d b ((i, Erased) ∷ (k, Erased) ∷ marks) failed true h = h
read_offers d b ((i, Erased) ∷ (k, Erased) ∷ marks) failed false h = h

table_offers : (d : BlockDesc) (b : BlockState) (marks : List (ℕ × Mark)) (kind : JobKind) (failed : List ℕ) (defaults : Bool)
    → let o : Own = record { desc = d; state = b; marks = marks } in
    Gives (with_content o failed (table defaults kind (outcomes_of kind marks failed)))
    → Gives (with_content o [] (table defaults kind (outcomes_of kind marks [])))
table_offers d b marks ReadJob failed defaults h = read_offers d b marks failed defaults h
table_offers d b marks kind failed defaults h = h

some_by : (r : ReqResult) (y x : List ℕ) (t : Bool) → Gives (if t then (r, Some y) else (Restored, Some x))
some_by r y x true = refl
some_by r y x false = refl

checked_offers : (id : Option (List ℕ)) (a b : Answer) → (Gives a → Gives b) → Gives (checked_id id a) → Gives (checked_id id b)
checked_offers (Some x) a (s, None) so h = refl
checked_offers (Some x) a (s, Some y) so h = some_by s y x (bytes_eq y x)
checked_offers None (r, None) b so h = cc
checked_offers None (r, Some y) b so h = cc

check_offers : (t : Bool) (id : Option (List ℕ)) (a b : Answer) → (Gives a → Gives b)
    → Gives (if t then checked_id id a else a) → Gives (if t then checked_id id b else b)
check_offers true id a b so h = checked_offers id a b so h
check_offers false id a b so h = so h

took_offers : (t : Bool) (a b : Answer) → (Gives a → Gives b) → Gives (if t then (NotOk, None) else a) → Gives (if t then (NotOk, None) else b)
took_offers true a b so h = h
took_offers false a b so h = so h

pub offers : (o : Own) (j : Job) (failed : List ℕ) → is_some (result_of o j failed).1 ≡ true → is_some (result_of o j []).1 ≡ true
offers o j failed h =
    let kind = kind_of j in
    let defaults = is_some o.desc.defaults in
    let a = with_content o failed (table defaults kind (outcomes_of kind o.marks failed)) in
    let b = with_content o [] (table defaults kind (outcomes_of kind o.marks [])) in
    took_offers (took_none j.taken) (if checks_id j kind then checked_id o.desc.defaults a else a) (if checks_id j kind then checked_id o.desc.defaults b else b)
    (check_offers (checks_id j kind) o.desc.defaults a b (table_offers o.desc o.state o.marks kind failed defaults)) h

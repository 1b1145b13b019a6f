-- What a Post may say: never PENDING, and of a read with 0 or 7 what is settled in one of its own instances, or ROM.
use Rattle.std.specs.Prelude.{find, IsSome}
use Rattle.std.specs.Option.{option_eq}
use Rattle.std.specs.Str.{bytes_eq}
use Rattle.std.proofs.Common.{◌≡◌, ℕ, suc, ◌==◌, ◌&&◌, not, Bool, true, false, if◌then◌else◌, List, [], ◌∷◌, map, Contains, refl, sym, ap, ◌∙◌, subst, inl, inr, arith, Option, Some, None, is_some}
use Rattle.std.proofs.lemmas.Bool.{cases_Bool}
use Rattle.std.proofs.lemmas.Slice.Eq.{bytes_eq-Decides}
use Rattle.block_machine.specs.nv_base.Result.{code_of}
use Rattle.block_machine.specs.Words.{ReqResult, Fine, NotOk, Pending, IntegrityFailed, Canceled, RedundancyFailed, Mark, Content, Invalid, Erased, JobKind, ReadJob, WriteJob, RestoreJob, EraseJob, InvalidateJob, ReadAllJob, WriteAllJob, Outcome, WroteMark, ReadContent, FoundErased, FoundInvalid, GivenFrom, FromDevice, Configuration}
use Rattle.block_machine.specs.State.{State, Job}
use Rattle.block_machine.specs.Blocks.{is_pending, desc_of, is_in, indices_of, settled_at, job_block, kind_of}
use Rattle.block_machine.specs.Sweeps.{is_done}
use Rattle.block_machine.specs.Next.{Next, Nothing, PickJob, BeginSweep, PickMember, PostMember, EndSweep, next_of}
use Rattle.block_machine.specs.ResultTable.{defaults_or, read_one, read_copies, write_result, table, unpicked}
use Rattle.block_machine.specs.Results.{Answer, Own, own_of, outcome_of, outcomes_of, content_of, device_content, given_by, with_content, took_none, checked_id, checks_id, result_by, result_of, open_sets, failed_set, same_answer}
use Rattle.block_machine.specs.Legal.{IsPost, MayPost, MayPostNext}
use Rattle.block_laws.specs.Laws.{PostsAreNotPending, ReadsGiveSettled, GivesSettled}

-- THE TABLE

some_default : (d : Bool) (r : ReqResult) → is_pending r ≡ false → is_pending (defaults_or d r).0 ≡ false
some_default true r not_r = refl
some_default false r not_r = not_r

one_ends : (d : Bool) (o : Outcome) → is_pending (read_one d o).0 ≡ false
one_ends d ReadContent = refl
one_ends d FoundInvalid = refl
one_ends d FoundErased = some_default d IntegrityFailed refl
one_ends d o = some_default d NotOk refl

two_end : (d : Bool) (o p : Outcome) → is_pending (read_copies d o p).0 ≡ false
two_end d ReadContent p = refl
two_end d FoundInvalid p = refl
two_end d FoundErased ReadContent = refl
two_end d FoundErased FoundInvalid = refl
two_end d FoundErased FoundErased = some_default d IntegrityFailed refl
two_end d FoundErased p = some_default d NotOk refl
two_end d o ReadContent = refl
two_end d o FoundInvalid = refl
two_end d o p = some_default d NotOk refl

write_ends : (os : List Outcome) → is_pending (write_result os) ≡ false
write_ends [] = refl
write_ends (WroteMark ∷ []) = refl
write_ends (WroteMark ∷ WroteMark ∷ rest) = refl
write_ends (WroteMark ∷ p ∷ rest) = refl
write_ends (o ∷ []) = refl
write_ends (o ∷ WroteMark ∷ rest) = refl
write_ends (o ∷ p ∷ rest) = refl

table_ends : (d : Bool) (kind : JobKind) (os : List Outcome) → is_pending (table d kind os).0 ≡ false
table_ends d ReadJob [] = refl
table_ends d ReadJob (o ∷ []) = one_ends d o
table_ends d ReadJob (o ∷ p ∷ rest) = two_end d o p
table_ends d RestoreJob os = refl
table_ends d WriteJob os = write_ends os
table_ends d EraseJob os = write_ends os
table_ends d InvalidateJob os = write_ends os
table_ends d ReadAllJob os = write_ends os
table_ends d WriteAllJob os = write_ends os

checked_ends : (id : Option (List ℕ)) (a : Answer) → is_pending a.0 ≡ false → is_pending (checked_id id a).0 ≡ false
checked_ends id a ends = elim (cases_Bool (option_eq bytes_eq a.1 id)) [
  | inl same ↦ rw same ends
  | inr other ↦ rw other refl
]

result_ends : (took checks : Bool) (id : Option (List ℕ)) (a : Answer) → is_pending a.0 ≡ false → let b : Answer = (NotOk, None) in is_pending (if took then b else (if checks then checked_id id a else a)).0 ≡ false
result_ends true checks id a ends = refl
result_ends false false id a ends = ends
result_ends false true id a ends = checked_ends id a ends

same_code : (x r : ReqResult) → (code_of x == code_of r) ≡ true → is_pending x ≡ false → is_pending r ≡ false
same_code Pending r same ends = cc
same_code x Pending same ends = cc
same_code x r same ends = refl

-- POSTS

two_tests : (p q : Bool) → (p && q) ≡ true → (p ≡ true) × (q ≡ true)
two_tests true q is = (refl, is)
two_tests false q is = cc

one_passes : {X : Type 0} (test : X → Bool) (xs : List X) → IsSome (find test xs) → (x : X) × (test x ≡ true)
one_passes test [] some = cc
one_passes test (x ∷ xs) some = elim (cases_Bool (test x)) [
  | inl on ↦ (x, on)
  | inr off ↦ one_passes test xs (rw off at some)
]

explained : (o : Own) (j : Job) (answer : Answer) → IsSome (failed_set o j answer) → (failed : List ℕ) × ((code_of (result_of o j failed).0 == code_of answer.0) ≡ true) × (option_eq bytes_eq (result_of o j failed).1 answer.1 ≡ true)
explained o j answer some =
    let (failed, is) = one_passes (λ failed. same_answer (result_of o j failed) answer) (open_sets o j (kind_of j)) some in
    let (code, bytes) = two_tests (code_of (result_of o j failed).0 == code_of answer.0) (option_eq bytes_eq (result_of o j failed).1 answer.1) is in
    (failed, code, bytes)

first_of : (a b : Answer) → a ≡ b → a.0 ≡ b.0
first_of a b is = ap (λ (x : Answer). x.0) is

fails_end : (r : ReqResult) → r ≡ NotOk → is_pending r ≡ false
fails_end r is = ap is_pending is

job_ends : (c : Configuration) (s : State) (j : Job) (block : ℕ) (r : ReqResult) (given : Option (List ℕ)) (refused : ℕ) → IsPost c s j block (r, given) refused → is_pending r ≡ false
job_ends c s j block r given refused post = elim post.results [
  | inl (none, some) ↦
      let o = own_of c s (job_block j) in
      let (failed, code, bytes) = explained o j (r, given) some in
      same_code (result_of o j failed).0 r code (result_ends (took_none j.taken) (checks_id j (kind_of j)) o.desc.defaults (with_content o failed (table (is_some o.desc.defaults) (kind_of j) (outcomes_of (kind_of j) o.marks failed)))
      (table_ends (is_some o.desc.defaults) (kind_of j) (outcomes_of (kind_of j) o.marks failed)))
  | inr copies ↦ fails_end r (first_of (r, given) (NotOk, None) copies.fails)
]

unpicked_ends : (writes d : Bool) → is_pending (unpicked writes d).0 ≡ false
unpicked_ends true d = refl
unpicked_ends false d = some_default d IntegrityFailed refl

sweep_ends_by : (canceled spoiled : Bool) → is_pending (if canceled then Canceled else (if spoiled then NotOk else Fine)) ≡ false
sweep_ends_by true spoiled = refl
sweep_ends_by false true = refl
sweep_ends_by false false = refl

next_ends : (c : Configuration) (s : State) (block : ℕ) (r : ReqResult) (given : Option (List ℕ)) (refused : ℕ) (n : Next) → MayPostNext c s block (r, given) refused n → is_pending r ≡ false
next_ends c s block r given refused (PostMember sw id) may = elim may.results [
  | inl (none, is) ↦ ap is_pending (first_of (r, given) _ is) ∙ unpicked_ends sw.writes (is_some (desc_of c id).defaults)
  | inr copies ↦ fails_end r (first_of (r, given) (NotOk, None) copies.fails)
]
next_ends c s block r given refused (EndSweep sw) may = ap is_pending (first_of (r, given) _ may.results) ∙ sweep_ends_by sw.canceled sw.spoiled
next_ends c s block r given refused (PickJob j) may = absurd may
next_ends c s block r given refused (PickMember sw id) may = absurd may
next_ends c s block r given refused (BeginSweep sw) may = absurd may
next_ends c s block r given refused Nothing may = absurd may

pub posts_end : (c : Configuration) (s : State) (block : ℕ) (r : ReqResult) (given : Option (List ℕ)) (refused : ℕ) (o : Option Job) → MayPost c s block (r, given) refused o → is_pending r ≡ false
posts_end c s block r given refused (Some j) may = job_ends c s j block r given refused may
posts_end c s block r given refused None may = next_ends c s block r given refused (next_of c s) may

pub posts_are_not_pending : PostsAreNotPending
posts_are_not_pending c cap s block refused ops r given allowed = posts_end c s block r given refused s.hand allowed.1

-- READS

-- one of these outcomes is a content that was read
abbrev Reads : List Outcome → Type 0
Reads [] = ⊥
Reads (ReadContent ∷ os) = Unit {0}
Reads (o ∷ os) = Reads os

not_done : (d : Bool) (r : ReqResult) (R : Type 0) → is_done r ≡ false → is_done (defaults_or d r).0 ≡ true → R
not_done true r R off on = cc
not_done false r R off on = cc

abbrev FromReads : GivenFrom → List Outcome → Type 0
FromReads source os = (source ≡ FromDevice) × Reads os

one_reads : (d : Bool) (o : Outcome) → is_done (read_one d o).0 ≡ true → FromReads (read_one d o).1 (o ∷ [])
one_reads d ReadContent done = (refl, tt)
one_reads d FoundInvalid done = cc
one_reads d FoundErased done = not_done d IntegrityFailed _ refl done
one_reads d o done = not_done d NotOk _ refl done

two_read : (d : Bool) (o p : Outcome) (rest : List Outcome) → is_done (read_copies d o p).0 ≡ true → FromReads (read_copies d o p).1 (o ∷ p ∷ rest)
two_read d ReadContent p rest done = (refl, tt)
two_read d FoundInvalid p rest done = cc
two_read d FoundErased ReadContent rest done = (refl, tt)
two_read d FoundErased FoundInvalid rest done = cc
two_read d FoundErased FoundErased rest done = not_done d IntegrityFailed _ refl done
two_read d FoundErased p rest done = not_done d NotOk _ refl done
two_read d o ReadContent rest done = (refl, tt)
two_read d o FoundInvalid rest done = cc
two_read d o p rest done = not_done d NotOk _ refl done

-- what is read is a content of the marks
abbrev Given : (ℕ → Mark) → List ℕ → List ℕ → Type 0
Given g ns failed = (index : ℕ) × (bytes : List ℕ) × (device_content (map (λ (n : ℕ). (n, g n)) ns) failed ≡ Some bytes) × Contains ns index × (g index ≡ Content bytes)

given_more : (g : ℕ → Mark) (n : ℕ) (ns failed : List ℕ) → (is_some (content_of (g n)) && not (is_in failed n)) ≡ false → Given g ns failed → Given g (n ∷ ns) failed
given_more g n ns failed off (index, bytes, is, (k, within, at), holds) = (index, bytes, rw off is, (suc k, omega arith, at), holds)

given_at : (g : ℕ → Mark) (n : ℕ) (ns failed : List ℕ) (m : Mark) (b : Bool) → g n ≡ m → is_in failed n ≡ b → (Reads (outcomes_of ReadJob (map (λ (n : ℕ). (n, g n)) ns) failed) → Given g ns failed)
    → Reads (outcome_of ReadJob m b ∷ outcomes_of ReadJob (map (λ (n : ℕ). (n, g n)) ns) failed) → Given g (n ∷ ns) failed
given_at g n ns failed (Content bytes) false is off rest reads = (n, bytes, rw (is, off) refl, (0, omega arith, refl), is)
given_at g n ns failed (Content bytes) true is off rest reads = given_more g n ns failed (rw (is, off) refl) (rest reads)
given_at g n ns failed Invalid b is off rest reads = given_more g n ns failed (rw is refl) (rest reads)
given_at g n ns failed Erased b is off rest reads = given_more g n ns failed (rw is refl) (rest reads)

given_of : (g : ℕ → Mark) (ns failed : List ℕ) → Reads (outcomes_of ReadJob (map (λ (n : ℕ). (n, g n)) ns) failed) → Given g ns failed
given_of g [] failed reads = absurd reads
given_of g (n ∷ ns) failed reads = given_at g n ns failed (g n) (is_in failed n) refl refl (given_of g ns failed) reads

same_given : (x y : Option (List ℕ)) → option_eq bytes_eq x y ≡ true → x ≡ y
same_given None None is = refl
same_given None (Some y) is = cc
same_given (Some x) None is = cc
same_given (Some x) (Some y) is = ap Some ((bytes_eq-Decides x y).0 is)

same_done : (x r : ReqResult) → (code_of x == code_of r) ≡ true → is_done r ≡ true → is_done x ≡ true
same_done Fine r same done = refl
same_done RedundancyFailed r same done = refl
same_done x Fine same done = cc
same_done x RedundancyFailed same done = cc
same_done x r same done = cc

checked_done : (id : Option (List ℕ)) (a : Answer) → is_done (checked_id id a).0 ≡ true → checked_id id a ≡ a
checked_done id a done = elim (cases_Bool (option_eq bytes_eq a.1 id)) [
  | inl same ↦ rw same refl
  | inr other ↦ let no_ : false ≡ true = rw other at done in cc
]

done_by : (took checks : Bool) (id : Option (List ℕ)) (a : Answer) → let b : Answer = (NotOk, None) in is_done (if took then b else (if checks then checked_id id a else a)).0 ≡ true → (if took then b else (if checks then checked_id id a else a)) ≡ a
done_by true checks id a done = cc
done_by false false id a done = refl
done_by false true id a done = checked_done id a done

-- the settled mark of an instance of a block
abbrev settled_of : State → ℕ → ℕ → Mark
settled_of s id n = settled_at s (record { block = id; index = n })

gives : (c : Configuration) (s : State) (id : ℕ) (ns failed : List ℕ) (source : GivenFrom) → ns ≡ indices_of c s id → source ≡ FromDevice → Given (settled_of s id) ns failed → GivesSettled c s id (given_by (own_of c s id) failed source)
gives c s id ns failed source is device (index, bytes, given, has, holds) =
    subst (λ (f : GivenFrom). GivesSettled c s id (given_by (own_of c s id) failed f)) (sym device)
    (inl (index, bytes, subst (λ (ks : List ℕ). device_content (map (λ (n : ℕ). (n, settled_of s id n)) ks) failed ≡ Some bytes) is given, subst (λ (ks : List ℕ). Contains ks index) is has, holds))

table_gives : (c : Configuration) (s : State) (id : ℕ) (d : Bool) (ns failed : List ℕ) → ns ≡ indices_of c s id → is_done (table d ReadJob (outcomes_of ReadJob (map (λ (n : ℕ). (n, settled_of s id n)) ns) failed)).0 ≡ true
    → GivesSettled c s id (given_by (own_of c s id) failed (table d ReadJob (outcomes_of ReadJob (map (λ (n : ℕ). (n, settled_of s id n)) ns) failed)).1)
table_gives c s id d [] failed is done = inr (sym is, refl)
table_gives c s id d (n ∷ []) failed is done =
    let (device, reads) = one_reads d (outcome_of ReadJob (settled_of s id n) (is_in failed n)) done in
    gives c s id (n ∷ []) failed _ is device (given_of (settled_of s id) (n ∷ []) failed reads)
table_gives c s id d (n ∷ m ∷ ns) failed is done =
    let os = outcomes_of ReadJob (map (λ (k : ℕ). (k, settled_of s id k)) ns) failed in
    let (device, reads) = two_read d (outcome_of ReadJob (settled_of s id n) (is_in failed n)) (outcome_of ReadJob (settled_of s id m) (is_in failed m)) os done in
    gives c s id (n ∷ m ∷ ns) failed _ is device (given_of (settled_of s id) (n ∷ m ∷ ns) failed reads)

read_gives : (c : Configuration) (s : State) (j : Job) (failed : List ℕ) (kind : JobKind) → kind ≡ ReadJob → is_done (result_by (own_of c s (job_block j)) j kind failed).0 ≡ true → GivesSettled c s (job_block j) (result_by (own_of c s (job_block j)) j kind failed).1
read_gives c s j failed ReadJob reads done =
    let o = own_of c s (job_block j) in
    let d = is_some o.desc.defaults in
    let a = with_content o failed (table d ReadJob (outcomes_of ReadJob o.marks failed)) in
    let same = done_by (took_none j.taken) (checks_id j ReadJob) o.desc.defaults a done in
    subst (λ (x : Answer). GivesSettled c s (job_block j) x.1) (sym same)
    (table_gives c s (job_block j) d (indices_of c s (job_block j)) failed refl (subst (λ (x : Answer). is_done x.0 ≡ true) same done))
read_gives c s j failed kind reads done = cc

post_gives : (c : Configuration) (s : State) (j : Job) (block : ℕ) (r : ReqResult) (given : Option (List ℕ)) (refused : ℕ) → IsPost c s j block (r, given) refused → kind_of j ≡ ReadJob → is_done r ≡ true → GivesSettled c s (job_block j) given
post_gives c s j block r given refused post reads done = elim post.results [
  | inl (none, some) ↦
      let o = own_of c s (job_block j) in
      let (failed, code, bytes) = explained o j (r, given) some in
      subst (GivesSettled c s (job_block j)) (same_given (result_of o j failed).1 given bytes) (read_gives c s j failed (kind_of j) reads (same_done (result_of o j failed).0 r code done))
  | inr copies ↦ let fails : r ≡ NotOk = first_of (r, given) (NotOk, None) copies.fails in let no_ : false ≡ true = sym (ap is_done fails) ∙ done in cc
]

pub reads_give_settled : ReadsGiveSettled
reads_give_settled c cap s j block refused ops r given allowed is reads done =
    let post = subst (MayPost c s block (r, given) refused) is allowed.1 in
    subst (λ (id : ℕ). GivesSettled c s id given) (sym post.same_block) (post_gives c s j block r given refused post reads done)

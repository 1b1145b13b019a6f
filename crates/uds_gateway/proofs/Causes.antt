-- What a request that failed tells of the flash.
use Rattle.std.specs.Prelude.{◌==◌, ◌&&◌, ◌||◌, IsTrue, nat_le, map, find, is_some, unwrap_or}
use Rattle.std.specs.List.{list_all}
use Rattle.std.specs.Option.{option_eq}
use Rattle.std.specs.Str.{bytes_eq}
use Rattle.std.proofs.Common.{◌≡◌, ◌⊎◌, ℕ, Bool, true, false, if◌then◌else◌, List, [], ◌∷◌, ◌++◌, Option, Some, Result, Ok, Err, Contains, refl, sym, ap, ◌∙◌, subst, inl, inr, arith}
use Rattle.std.proofs.lemmas.Bool.{cases_Bool, and_parts, eqb-true, eq-eqb}
use Rattle.nvm_moves.specs.nv_base.Result.{code_of}
use Rattle.nvm_moves.specs.block_machine.Words.{ReqResult, Fine, Pending, Instance, Mark, Content, Invalid, Erased, Request, Read, Write, Accepted, JobKind, ReadJob, WriteJob, Taken, Entry, Ask, Pick, Wrote, Post, Off, Found, RomIndex, BlockKind, Native, Redundant, Dataset, BlockDesc, Configuration}
use Rattle.nvm_moves.specs.block_machine.State.{State, BlockState, Job}
use Rattle.nvm_moves.specs.block_machine.Blocks.{desc_of, block_at, is_synchronized, is_dataset, names_rom, indices_by, indices_of, settled_at, asked_block, job_block, job_kind, kind_of, asked_content}
use Rattle.nvm_moves.specs.block_machine.ResultTable.{read_one, read_copies, write_result, table}
use Rattle.nvm_moves.specs.block_machine.Results.{Answer, own_of, outcome_of, outcomes_of, with_content, took_none, checked_id, checks_id, result_by, result_of, open_sets, failed_set, same_answer}
use Rattle.nvm_moves.specs.block_machine.Reply.{reply_of}
use Rattle.nvm_moves.specs.block_machine.Next.{Next, PickJob, next_of}
use Rattle.nvm_moves.specs.block_machine.Legal.{TakesForWrite, TakesBy, IsPick, MayPick, MayPost, IsLegalFrom}
use Rattle.nvm_moves.specs.block_machine.Steps.{step, after_from, job_at, picked_job, picked, wrote}
use Rattle.nvm_moves.proofs.BlockFields.{field_kept}
use Rattle.nvm_moves.proofs.HistoryLaws.{after_push}
use Rattle.nvm_moves.proofs.NextLaws.{accepted_pass}
use Rattle.uds_gateway.specs.Jobs.{HasNone, HasOne, IsInHand, IsOwn, is_under_way, EndsPosted}
use Rattle.uds_gateway.specs.declared.code.NegativeCode.{NegativeCode}
use Rattle.uds_gateway.specs.Services.{asked_by}
use Rattle.uds_gateway.specs.Served.{HasPiece, IsServedBy}
use Rattle.uds_gateway.specs.Codes.{is_read, gives_content}
use Rattle.uds_gateway.specs.Causes.{LacksContent, HasNoContent, before_end, ReadsFailByMarks, WritesSucceed}
use Rattle.uds_gateway.proofs.Jobs.{next_waiting, next_in_hand, accepted_one, refused_none, picks_one, writes_one, posts_none, posts_in_hand, own_cases}
use Rattle.uds_gateway.proofs.Codes.{asked_is_own}

-- RESULTS

-- a code tells whether a content is given, and 0
gives_by : (r : ReqResult) → gives_content r ≡ ((code_of r == 0) || (code_of r == 7) || (code_of r == 8))
gives_by Fine = refl
gives_by _ = refl

fine_by : (r : ReqResult) → (code_of r == 0) ≡ true → r ≡ Fine
fine_by Fine is = refl
fine_by _ is = absurd (cc is)

-- A READ

lacks_one : (d : Bool) (mark : Mark) → gives_content (read_one d (outcome_of ReadJob mark false)).0 ≡ false → LacksContent d mark
lacks_one d (Content bytes) off = absurd (cc off)
lacks_one d Invalid off = inl refl
lacks_one true Erased off = absurd (cc off)
lacks_one false Erased off = inr (refl, refl)

lacks_two : (d : Bool) (a b : Mark) → gives_content (read_copies d (outcome_of ReadJob a false) (outcome_of ReadJob b false)).0 ≡ false → LacksContent d a ⊎ LacksContent d b
lacks_two d (Content bytes) b off = absurd (cc off)
lacks_two d Invalid b off = inl (inl refl)
lacks_two d Erased (Content bytes) off = absurd (cc off)
lacks_two d Erased Invalid off = inr (inl refl)
lacks_two true Erased Erased off = absurd (cc off)
lacks_two false Erased Erased off = inl (inr (refl, refl))

-- of the instances that it reads one lacks a content
lacks_all : (d : Bool) (g : ℕ → Mark) (ns : List ℕ) → gives_content (table d ReadJob (outcomes_of ReadJob (map (λ (n : ℕ). (n, g n)) ns) [])).0 ≡ false → (n : ℕ) × Contains ns n × LacksContent d (g n)
lacks_all d g [] off = absurd (cc off)
lacks_all d g (n ∷ []) off = (n, (0, omega arith, refl), lacks_one d (g n) off)
lacks_all d g (n ∷ m ∷ ns) off = elim (lacks_two d (g n) (g m) off) [
  | inl first ↦ (n, (0, omega arith, refl), first)
  | inr second ↦ (m, (1, omega arith, refl), second)
]

-- the check of block 1 gives a content where it changes the result
unchecked : (checks : Bool) (id : Option (List ℕ)) (a : Answer) → gives_content (if checks then checked_id id a else a).0 ≡ false → gives_content a.0 ≡ false
unchecked false id a off = off
unchecked true id a off = elim (cases_Bool (option_eq bytes_eq a.1 id)) [
  | inl same ↦ rw same at off
  | inr other ↦ let gives : true ≡ false = rw other at off in absurd (cc gives)
]

-- A WRITE

wrote_all : (kind : BlockKind) (nv index : ℕ) (g : ℕ → Mark) → (is_dataset kind && nat_le nv index) ≡ false → write_result (outcomes_of WriteJob (map (λ (n : ℕ). (n, g n)) (indices_by kind nv index)) []) ≡ Fine
wrote_all Native nv index g stored = refl
wrote_all Redundant nv index g stored = refl
wrote_all Dataset nv index g stored = rw stored refl

-- WHERE NOTHING FAILED

passes : {X : Type 0} (test : X → Bool) (xs : List X) (x : X) → find test xs ≡ Some x → test x ≡ true
passes test [] x is = absurd (cc is)
passes {X} test (y ∷ ys) x is = elim (cases_Bool (test y)) [
  | inl on ↦ let same : Some y ≡ Some x = rw on at is in ap test (sym (some_same same)) ∙ on
  | inr off ↦ passes test ys x (rw off at is)
]
  where
    some_same : {a b : X} → Some a ≡ Some b → a ≡ b
    some_same e = cc e

-- the result is that of the machine with no failed operation
same_result : (c : Configuration) (s : State) (j : Job) (r : ReqResult) (given : Option (List ℕ)) → failed_set (own_of c s (job_block j)) j (r, given) ≡ Some [] → (code_of (result_of (own_of c s (job_block j)) j []).0 == code_of r) ≡ true
same_result c s j r given is =
    let o = own_of c s (job_block j) in
    (and_parts (code_of (result_of o j []).0 == code_of r) (option_eq bytes_eq (result_of o j []).1 given) (passes (λ failed. same_answer (result_of o j failed) (r, given)) (open_sets o j (kind_of j)) [] is)).0

same_gives : (x r : ReqResult) → (code_of x == code_of r) ≡ true → gives_content x ≡ gives_content r
same_gives x r same =
    let codes_are : code_of x ≡ code_of r = eqb-true (code_of x) (code_of r) same in
    gives_by x ∙ ap (λ (n : ℕ). (n == 0) || (n == 7) || (n == 8)) codes_are ∙ sym (gives_by r)

-- so a read that gives nothing
read_lacks : (c : Configuration) (s : State) (j : Job) (kind : JobKind) → kind ≡ ReadJob → took_none j.taken ≡ false → gives_content (result_by (own_of c s (job_block j)) j kind []).0 ≡ false → HasNoContent c s (job_block j)
read_lacks c s j kind read took off =
    let o = own_of c s (job_block j) in
    let a = with_content o [] (table (is_some o.desc.defaults) ReadJob (outcomes_of ReadJob o.marks [])) in
    let of_read : gives_content (result_by o j ReadJob []).0 ≡ false = subst (λ (k : JobKind). gives_content (result_by o j k []).0 ≡ false) read off in
    let plain : gives_content (if checks_id j ReadJob then checked_id o.desc.defaults a else a).0 ≡ false = rw took at of_read in
    let lacks = lacks_all (is_some o.desc.defaults) (λ n. settled_at s (record { block = job_block j; index = n })) (indices_of c s (job_block j)) (unchecked (checks_id j ReadJob) o.desc.defaults a plain) in
    record { index = lacks.0; own = lacks.1; lacks = lacks.2 }

-- and a write
write_succeeds : (c : Configuration) (s : State) (j : Job) (kind : JobKind) → kind ≡ WriteJob → took_none j.taken ≡ false → names_rom (desc_of c (job_block j)) (block_at s (job_block j)) ≡ false → (result_by (own_of c s (job_block j)) j kind []).0 ≡ Fine
write_succeeds c s j kind write took stored =
    let o = own_of c s (job_block j) in
    let of_write : (result_by o j WriteJob []).0 ≡ Fine = rw took (wrote_all (desc_of c (job_block j)).kind (desc_of c (job_block j)).nv (block_at s (job_block j)).index (λ n. settled_at s (record { block = job_block j; index = n })) stored) in
    subst (λ (k : JobKind). (result_by o j k []).0 ≡ Fine) (sym write) of_write

-- THE JOB ON ITS WAY

-- the one job that is pending brings its own content, and once picked took it; of a write the block's index names no ROM
record IsOwnJob (c : Configuration) (asked : Request) (s : State) : Type 0 where
  one : HasOne asked s
  content : (j : Job) → s.waiting ≡ j ∷ [] → j.content ≡ asked_content asked
  took : (j : Job) → s.hand ≡ Some j → took_none j.taken ≡ false
  stored : is_read asked ≡ false → names_rom (desc_of c (asked_block asked)) (block_at s (asked_block asked)) ≡ false

head_same : {x y : Job} → x ∷ [] ≡ y ∷ [] → x ≡ y
head_same is = cc is

hand_same : {x y : Job} → Some x ≡ Some y → x ≡ y
hand_same is = cc is

-- what it takes is no reason to write nothing
takes_own : (d : BlockDesc) (b : BlockState) (j : Job) (asked : Request) (t : Taken) → IsOwn asked → j.request ≡ asked → j.content ≡ asked_content asked → TakesBy d b j (kind_of j) t → took_none (Some t) ≡ false
takes_own d b j asked t own is content takes =
    own_cases (λ r. TakesBy d b j (unwrap_or (job_kind r) ReadJob) t → j.content ≡ asked_content r → took_none (Some t) ≡ false)
    (λ block nothing brought. ap (λ (x : Taken). took_none (Some x)) nothing)
    (λ block bytes took brought. ap (λ (x : Taken). took_none (Some x)) (subst (λ (x : Option (List ℕ × ℕ)). TakesForWrite d b j x (is_synchronized d.ram) t) brought took))
    asked own (subst (λ (r : Request). TakesBy d b j (unwrap_or (job_kind r) ReadJob) t) is takes) content

asked_own : (c : Configuration) (cap : ℕ) (s : State) (asked : Request) → IsOwn asked → HasNone s → reply_of c cap s asked ≡ Accepted → IsOwnJob c asked (step c s (Ask 0 asked Accepted))
asked_own c cap s asked own none =
    own_cases (λ r. reply_of c cap s r ≡ Accepted → IsOwnJob c r (step c s (Ask 0 r Accepted)))
    (λ block is. record {
      one = accepted_one c cap s 0 (Read block false) refl none is;
      content = λ j waits. ap (λ (x : Job). x.content) (head_same (sym waits ∙ ap (λ (js : List Job). js ++ job_at c s.count (Read block false) ∷ []) none.waiting));
      took = λ j hand. absurd (cc (sym none.hand ∙ hand));
      stored = λ write. absurd (cc write);
    })
    (λ block bytes is. record {
      one = accepted_one c cap s 0 (Write block (Some bytes) 0) refl none is;
      content = λ j waits. ap (λ (x : Job). x.content) (head_same (sym waits ∙ ap (λ (js : List Job). js ++ job_at c s.count (Write block (Some bytes) 0) ∷ []) none.waiting));
      took = λ j hand. absurd (cc (sym none.hand ∙ hand));
      stored = λ write. ap (λ (n : ℕ). is_dataset (desc_of c block).kind && nat_le (desc_of c block).nv n) (field_kept (λ (b : BlockState). b.index) s.blocks block (record (block_at s block) { status = Pending }) block refl)
          ∙ accepted_pass c cap s (Write block (Some bytes) 0) RomIndex is (8, omega arith, refl);
    })
    asked own

picked_own : (c : Configuration) (s : State) (asked : Request) (block ops : ℕ) (kind : JobKind) (t : Taken) → IsOwn asked → IsOwnJob c asked s → MayPick c s block kind t (next_of c s) → IsOwnJob c asked (step c s (Pick block kind t ops))
picked_own c s asked block ops kind t own job may = elim job.one.job [
  | inl w ↦
      let next = next_waiting c asked s w in
      let pick : IsPick c s w.job block kind t = subst (λ (n : Next). MayPick c s block kind t n) next may in
      let hand_is : (picked c s t (next_of c s)).hand ≡ Some (picked_job t (if is_some s.hand then 2 else 0) w.job) = ap (λ (n : Next). (picked c s t n).hand) next in
      let none_waits : (picked c s t (PickJob w.job)).waiting ≡ [] = rw (w.hand, w.waiting, eq-eqb w.job.number w.job.number refl) refl in
      let waiting_is : (picked c s t (next_of c s)).waiting ≡ [] = ap (λ (n : Next). (picked c s t n).waiting) next ∙ none_waits in
      let took_is : took_none (Some t) ≡ false = takes_own (desc_of c (job_block w.job)) (block_at s (job_block w.job)) w.job asked t own w.request (job.content w.job w.waiting) pick.takes in
      record {
        one = picks_one c s asked block ops kind t job.one may;
        content = λ j waits. absurd (cc (sym waiting_is ∙ waits));
        took = λ j hand. ap (λ (x : Job). took_none x.taken) (hand_same (sym hand ∙ hand_is)) ∙ took_is;
        stored = λ write. ap (λ (n : Next). names_rom (desc_of c (asked_block asked)) (block_at (picked c s t n) (asked_block asked))) next ∙ job.stored write;
      }
  | inr h ↦ absurd (subst (λ (n : Next). MayPick c s block kind t n) (next_in_hand c asked s h) may)
]

wrote_own : (c : Configuration) (s : State) (asked : Request) (i : Instance) (mark : Mark) (ops : ℕ) → IsOwnJob c asked s → IsOwnJob c asked (step c s (Wrote i mark ops))
wrote_own c s asked i mark ops job = elim job.one.job [
  | inl w ↦ record {
    one = writes_one c s asked i mark ops job.one;
    content = λ j waits. job.content j (sym (ap (λ (x : Option Job). (wrote s i mark x).waiting) w.hand) ∙ waits);
    took = λ j hand. job.took j (sym (ap (λ (x : Option Job). (wrote s i mark x).hand) w.hand) ∙ hand);
    stored = λ write. ap (λ (x : Option Job). names_rom (desc_of c (asked_block asked)) (block_at (wrote s i mark x) (asked_block asked))) w.hand ∙ job.stored write;
  }
  | inr h ↦ record {
    one = writes_one c s asked i mark ops job.one;
    content = λ j waits. job.content j (sym (ap (λ (x : Option Job). (wrote s i mark x).waiting) h.hand) ∙ waits);
    took = λ j hand. ap (λ (x : Job). took_none x.taken) (hand_same (sym hand ∙ ap (λ (x : Option Job). (wrote s i mark x).hand) h.hand)) ∙ job.took h.job h.hand;
    stored = λ write. ap (λ (x : Option Job). names_rom (desc_of c (asked_block asked)) (block_at (wrote s i mark x) (asked_block asked))) h.hand ∙ job.stored write;
  }
]

-- it stays so on the way
module _ (c : Configuration) (cap : ℕ) (asked : Request) (own : IsOwn asked) where
  along : (s : State) (way rest : List Entry) → IsTrue (list_all is_under_way way) → IsLegalFrom c cap s (way ++ rest) → IsOwnJob c asked s → IsOwnJob c asked (after_from c s way) × IsLegalFrom c cap (after_from c s way) rest
  along s [] rest under legal job = (job, legal)
  along s (Pick block kind t ops ∷ es) rest under legal job =
      along (step c s (Pick block kind t ops)) es rest (and_parts true (list_all is_under_way es) under).1 legal.1 (picked_own c s asked block ops kind t own job legal.0.1)
  along s (Wrote i mark ops ∷ es) rest under legal job = along (step c s (Wrote i mark ops)) es rest (and_parts true (list_all is_under_way es) under).1 legal.1 (wrote_own c s asked i mark ops job)
  along s (Ask caller r reply ∷ es) rest under legal job = absurd (cc (and_parts false (list_all is_under_way es) under).0)
  along s (Post block r given refused ops ∷ es) rest under legal job = absurd (cc (and_parts false (list_all is_under_way es) under).0)
  along s (Off ops ∷ es) rest under legal job = absurd (cc (and_parts false (list_all is_under_way es) under).0)
  along s (Found marks ops ∷ es) rest under legal job = absurd (cc (and_parts false (list_all is_under_way es) under).0)

  -- a job that is posted was in hand
  posted_in_hand : (s : State) (block refused : ℕ) (answer : Answer) → IsOwnJob c asked s → MayPost c s block answer refused s.hand → IsInHand asked s
  posted_in_hand s block refused answer job may = elim job.one.job [
    | inl w ↦ absurd (posts_in_hand c s asked block refused answer job.one w.hand (subst (λ (h : Option Job). MayPost c s block answer refused h) w.hand may))
    | inr h ↦ h
  ]

  -- the state before the Post
  before_post : (s : State) (piece : List Entry) → (p : EndsPosted asked piece) → HasNone s → IsLegalFrom c cap s piece → IsOwnJob c asked (before_end c s asked p.ends.way) × IsInHand asked (before_end c s asked p.ends.way)
  before_post s piece p none legal =
      let all = subst (λ (es : List Entry). IsLegalFrom c cap s es) p.ends.is legal in
      let (job, post) = along (step c s (Ask 0 asked Accepted)) p.ends.way (Post (asked_block asked) p.result p.given p.refused p.ops ∷ []) p.ends.under_way all.1 (asked_own c cap s asked own none (sym all.0.replies)) in
      (job, posted_in_hand (before_end c s asked p.ends.way) (asked_block asked) p.refused (p.result, p.given) job post.0.1)

-- at its Post the job of a request is in hand
pub posted_hand : (c : Configuration) (cap : ℕ) (asked : Request) (s : State) (piece : List Entry) → (p : EndsPosted asked piece) → IsOwn asked → HasNone s → IsLegalFrom c cap s piece → IsInHand asked (before_end c s asked p.ends.way)
posted_hand c cap asked s piece p own none legal = (before_post c cap asked own s piece p none legal).1

-- BEHIND IT

-- the first of legal entries, and those behind them
pub legal_parts : (c : Configuration) (cap : ℕ) (s : State) (es more : List Entry) → IsLegalFrom c cap s (es ++ more) → IsLegalFrom c cap s es × IsLegalFrom c cap (after_from c s es) more
legal_parts c cap s [] more legal = (tt, legal)
legal_parts c cap s (e ∷ es) more legal = let (first, rest) = legal_parts c cap (step c s e) es more legal.1 in ((legal.0, first), rest)

posted_none : (c : Configuration) (cap : ℕ) (asked : Request) (s : State) (piece : List Entry) → EndsPosted asked piece → IsOwn asked → HasNone s → IsLegalFrom c cap s piece → HasNone (after_from c s piece)
posted_none c cap asked s piece p own none legal =
    let t = before_end c s asked p.ends.way in
    let e = Post (asked_block asked) p.result p.given p.refused p.ops in
    let (job, h) = before_post c cap asked own s piece p none legal in
    let behind : after_from c s piece ≡ step c t e = ap (λ (es : List Entry). after_from c s es) p.ends.is ∙ after_push c (step c s (Ask 0 asked Accepted)) p.ends.way e in
    subst HasNone (sym behind) (posts_none c t asked h.job (asked_block asked) p.refused p.ops p.result p.given job.one h.hand).0

-- behind a request that was served nothing is pending
pub served_none : (c : Configuration) (cap : ℕ) (request : List ℕ) (s : State) (piece : List Entry) → IsServedBy c request piece → HasNone s → IsLegalFrom c cap s piece → HasNone (after_from c s piece)
served_none c cap request s piece served none legal = by (asked_by c request) refl served
  where
    by : (asked : Result Request NegativeCode) → asked_by c request ≡ asked → HasPiece asked piece → HasNone (after_from c s piece)
    by (Err code) is empty = subst (λ (es : List Entry). HasNone (after_from c s es)) (sym empty) none
    by (Ok asked) is (inl refused) = subst (λ (es : List Entry). HasNone (after_from c s es)) (sym refused.1) (refused_none c s 0 asked refused.0 none)
    by (Ok asked) is (inr p) = posted_none c cap asked s piece p (asked_is_own c request asked is) none legal

-- THE LAWS

kind_read : (asked : Request) → IsOwn asked → is_read asked ≡ true → unwrap_or (job_kind asked) ReadJob ≡ ReadJob
kind_read asked = own_cases (λ r. is_read r ≡ true → unwrap_or (job_kind r) ReadJob ≡ ReadJob) (λ block is. refl) (λ block bytes is. absurd (cc is)) asked

kind_write : (asked : Request) → IsOwn asked → is_read asked ≡ false → unwrap_or (job_kind asked) ReadJob ≡ WriteJob
kind_write asked = own_cases (λ r. is_read r ≡ false → unwrap_or (job_kind r) ReadJob ≡ WriteJob) (λ block is. absurd (cc is)) (λ block bytes is. refl) asked

pub reads_fail_by_marks : ReadsFailByMarks
reads_fail_by_marks c cap s asked piece p none own legal read fails nothing =
    let t = before_end c s asked p.ends.way in
    let (job, h) = before_post c cap asked own s piece p none legal in
    let same = same_result c t h.job p.result p.given (nothing h.job h.hand) in
    let off : gives_content (result_of (own_of c t (job_block h.job)) h.job []).0 ≡ false = same_gives (result_of (own_of c t (job_block h.job)) h.job []).0 p.result same ∙ fails in
    let kind : kind_of h.job ≡ ReadJob = ap (λ (r : Request). unwrap_or (job_kind r) ReadJob) h.request ∙ kind_read asked own read in
    subst (λ (id : ℕ). HasNoContent c t id) (ap asked_block h.request) (read_lacks c t h.job (kind_of h.job) kind (job.took h.job h.hand) off)

pub writes_succeed : WritesSucceed
writes_succeed c cap s asked piece p none own legal write nothing =
    let t = before_end c s asked p.ends.way in
    let (job, h) = before_post c cap asked own s piece p none legal in
    let x = (result_of (own_of c t (job_block h.job)) h.job []).0 in
    let same : code_of x ≡ code_of p.result = eqb-true (code_of x) (code_of p.result) (same_result c t h.job p.result p.given (nothing h.job h.hand)) in
    let kind : kind_of h.job ≡ WriteJob = ap (λ (r : Request). unwrap_or (job_kind r) ReadJob) h.request ∙ kind_write asked own write in
    let stored : names_rom (desc_of c (job_block h.job)) (block_at t (job_block h.job)) ≡ false = subst (λ (id : ℕ). names_rom (desc_of c id) (block_at t id) ≡ false) (sym (ap asked_block h.request)) (job.stored write) in
    let fine : x ≡ Fine = write_succeeds c t h.job (kind_of h.job) kind (job.took h.job h.hand) stored in
    fine_by p.result (ap (λ (n : ℕ). n == 0) (sym same ∙ ap code_of fine))

-- The parts of a line are read back from their texts: the part, and what stands behind it.
use Rattle.std.proofs.Common.{◌≡◌, ◌<◌, ◌^◌, ◌==◌, ℕ, Bool, true, false, nat_eq, if◌then◌else◌, List, [], ◌∷◌, ◌++◌, slice_index, codes, Option, Some, None, refl, sym, ap, ◌∙◌, append_assoc, arith}
use Rattle.std.specs.Cmp.Lexicographic.{pointwise}
use Rattle.std.specs.Fmt.{decimal}
use Rattle.std.specs.List.{find}
use Rattle.std.specs.Option.{unwrap_or}
use Rattle.std.specs.Str.Parse.{digits_value}
use Rattle.std.proofs.lemmas.Bool.{eqb-true}
use Rattle.std.proofs.lemmas.Fmt.{digits_value-decimal}
use Rattle.std.proofs.lemmas.List.{append-nil}
use Rattle.nv_base.specs.Refusal.{number_of_refusal}
use Rattle.nv_base.specs.declared.request.Refusal.{Refusal}
use Rattle.nv_base.specs.declared.request.Refusal.TheVariants as refusal
use Rattle.nv_base.specs.Result.{code_of}
use Rattle.nv_base.specs.declared.result.ReqResult.{ReqResult}
use Rattle.nv_base.specs.declared.result.ReqResult.TheVariants as outcome
use Rattle.nv_base.specs.declared.mark.Mark.{Mark}
use Rattle.nv_base.specs.declared.mark.Mark.TheVariants as mark
use Rattle.nv_base.specs.declared.request.Request.{Request}
use Rattle.nv_base.specs.declared.request.Request.TheVariants as request
use Rattle.nv_base.specs.declared.request.Reply.{Reply}
use Rattle.nv_base.specs.declared.request.Reply.TheVariants as reply
use Rattle.nv_base.specs.declared.request.JobKind.{JobKind}
use Rattle.nv_base.specs.declared.request.JobKind.TheVariants as job
use Rattle.nvm_script.specs.declared.word.Word.{Word}
use Rattle.nvm_script.specs.declared.word.Word.TheVariants.{Read, ReadRam, Write, WriteRam, Restore, RestoreRam, Erase, Invalidate, SetIndex, GetIndex, Protect, Lock, SetRam, Ram, Status, WriteAll, Cancel}
use Rattle.nvm_script.specs.Word.{word_of}
use Rattle.nvm_script.specs.Words.{content_text, mark_text, switch_text, request_text, reply_text, job_text}
use Rattle.nvm_script.specs.Values.{IsNumber, IsBlockNumber, IsContent, IsRequestValue, IsReplyValue, IsMarkValue}
use Rattle.nvm_script.proofs.ContentLaws.{content-lacks, content_from, content_from-text}
use Rattle.nvm_script.proofs.Cuts.{Lacks}
use Rattle.nvm_script.proofs.Fields.{before, behind, before-field, behind-field, number_to, number_to-field, behind-number}
use Rattle.nvm_script.proofs.Numerals.{model, decimal-lacks}

-- REFUSALS, RESULTS, JOBS

all_refusals : List Refusal
all_refusals =
    refusal.UnknownBlock ∷ refusal.NotStarted ∷ refusal.WrongType ∷ refusal.BadIndex ∷ refusal.BadLength ∷ refusal.NoRam ∷ refusal.NoDefaults ∷ refusal.NotImmediate ∷ refusal.WriteOnce
    ∷ refusal.MultiPending ∷ refusal.Pending ∷ refusal.Locked ∷ refusal.Protected ∷ refusal.RomIndex ∷ refusal.NothingToCancel ∷ refusal.QueueFull ∷ refusal.HistoryFull ∷ []

refusal_from : ℕ → Refusal
refusal_from n = unwrap_or (find (λ r. number_of_refusal r == n) all_refusals) refusal.UnknownBlock

refusal_from-number : (r : Refusal) → refusal_from (number_of_refusal r) ≡ r
unfolding refusal_from all_refusals
refusal_from-number refusal.UnknownBlock = refl
refusal_from-number _ = refl

all_results : List ReqResult
all_results =
    outcome.Fine ∷ outcome.NotOk ∷ outcome.Pending ∷ outcome.IntegrityFailed ∷ outcome.BlockSkipped ∷ outcome.Invalidated ∷ outcome.Canceled ∷ outcome.RedundancyFailed ∷ outcome.Restored ∷ []

pub result_from : ℕ → ReqResult
result_from n = unwrap_or (find (λ r. code_of r == n) all_results) outcome.Fine

pub result_from-code : (r : ReqResult) → result_from (code_of r) ≡ r
unfolding result_from all_results
result_from-code outcome.Fine = refl
result_from-code _ = refl

pub code-small : (r : ReqResult) → code_of r < 2 ^ 64
code-small outcome.Fine = omega arith
code-small _ = omega arith

refusal-small : (r : Refusal) → number_of_refusal r < 2 ^ 64
refusal-small refusal.UnknownBlock = omega arith
refusal-small _ = omega arith

all_jobs : List JobKind
all_jobs = job.Read ∷ job.Write ∷ job.Restore ∷ job.Erase ∷ job.Invalidate ∷ job.ReadAll ∷ job.WriteAll ∷ []

pub job_from : List ℕ → JobKind
job_from word = unwrap_or (find (λ j. pointwise nat_eq (job_text j) word) all_jobs) job.Read

pub job_from-text : (j : JobKind) → job_from (job_text j) ≡ j
unfolding job_from all_jobs
job_from-text job.Read = refl
job_from-text _ = refl

pub job_text-lacks : (j : JobKind) → Lacks 32 (job_text j)
job_text-lacks job.Read = refl
job_text-lacks _ = refl

-- MARKS

pub read_mark : List ℕ → Mark × List ℕ
read_mark l =
    if slice_index l 0 == 100 then (mark.Content (content_from (before 32 (behind 32 l))), behind 32 (behind 32 l))
    else if slice_index l 0 == 105 then (mark.Invalid, behind 32 l)
    else (mark.Erased, behind 32 l)

content_and : {A : Type 0} (f : List ℕ → A) (bytes s : List ℕ) → IsContent bytes → ◌≡◌ {A = A × List ℕ} (f (content_from (before 32 (content_text bytes ++ 32 ∷ s))), behind 32 (content_text bytes ++ 32 ∷ s)) (f bytes, s)
content_and f bytes s is =
    let lacks = content-lacks 32 bytes refl is in
    rw (before-field 32 (content_text bytes) s lacks, behind-field 32 (content_text bytes) s lacks, content_from-text bytes is) refl

pub read_mark-text : (m : Mark) (s : List ℕ) → IsMarkValue m → read_mark (mark_text m ++ 32 ∷ s) ≡ (m, s)
unfolding read_mark
read_mark-text (mark.Content bytes) s is = content_and (λ b. mark.Content b) bytes s is
read_mark-text mark.Invalid s is = refl
read_mark-text mark.Erased s is = refl

-- REQUESTS

stored_write : ℕ → List ℕ → Request × List ℕ
stored_write block l =
    if slice_index l 0 == 115 then (request.Write block None (number_to 32 (behind 32 l)), behind 32 (behind 32 l))
    else (request.Write block None 0, l)

-- a block, and a field behind it
of_block : (ℕ → Request) → List ℕ → Request × List ℕ
of_block f l = (f (number_to 32 l), behind 32 l)

of_block_with : (ℕ → List ℕ → Request) → List ℕ → Request × List ℕ
of_block_with f l = (f (number_to 32 l) (before 32 (behind 32 l)), behind 32 (behind 32 l))

asked_by : Word → List ℕ → Request × List ℕ
asked_by Read l = of_block (λ b. request.Read b false) l
asked_by ReadRam l = of_block (λ b. request.Read b true) l
asked_by Write l = of_block_with (λ b field. request.Write b (Some (content_from field)) 0) l
asked_by WriteRam l = stored_write (number_to 32 l) (behind 32 l)
asked_by Restore l = of_block (λ b. request.Restore b false) l
asked_by RestoreRam l = of_block (λ b. request.Restore b true) l
asked_by Erase l = of_block (λ b. request.Erase b) l
asked_by Invalidate l = of_block (λ b. request.Invalidate b) l
asked_by SetIndex l = of_block_with (λ b field. request.SetIndex b (digits_value 10 field)) l
asked_by GetIndex l = of_block (λ b. request.GetIndex b) l
asked_by Protect l = of_block_with (λ b field. request.SetProtection b (digits_value 10 field == 1)) l
asked_by Lock l = of_block_with (λ b field. request.SetLock b (digits_value 10 field == 1)) l
asked_by SetRam l = of_block_with (λ b field. request.SetRam b (digits_value 10 field == 1)) l
asked_by Ram l = of_block_with (λ b field. request.PutRam b (content_from field)) l
asked_by Status l = of_block (λ b. request.Status b) l
asked_by WriteAll l = (request.WriteAll, l)
asked_by Cancel l = (request.CancelWriteAll, l)
asked_by _ l = (request.ReadAll, l)

by_word : Option Word → List ℕ → Request × List ℕ
by_word (Some w) l = asked_by w l
by_word None l = (request.ReadAll, l)

pub read_request : List ℕ → Request × List ℕ
read_request l = by_word (word_of (before 32 l)) (behind 32 l)

block_fits : (block : ℕ) → IsBlockNumber block → IsNumber block
block_fits block le = omega arith

block_read : (f : ℕ → Request) (block : ℕ) (s : List ℕ) → IsBlockNumber block → of_block f (decimal block ++ 32 ∷ s) ≡ (f block, s)
unfolding of_block
block_read f block s fits = rw (number_to-field 32 block s refl (block_fits block fits), behind-number 32 block s refl (block_fits block fits)) refl

with_read : (f : ℕ → List ℕ → Request) (block : ℕ) (field s : List ℕ) → IsBlockNumber block → Lacks 32 field → of_block_with f ((decimal block ++ 32 ∷ field) ++ 32 ∷ s) ≡ (f block field, s)
unfolding of_block_with
with_read f block field s fits lacks =
    rw (append_assoc (decimal block) (32 ∷ field) (32 ∷ s), number_to-field 32 block (field ++ 32 ∷ s) refl (block_fits block fits), behind-number 32 block (field ++ 32 ∷ s) refl (block_fits block fits), before-field 32 field s lacks, behind-field 32 field s lacks) refl

with_content : (f : ℕ → List ℕ → Request) (block : ℕ) (bytes s : List ℕ) → IsBlockNumber block → IsContent bytes → of_block_with (λ b field. f b (content_from field)) ((decimal block ++ 32 ∷ content_text bytes) ++ 32 ∷ s) ≡ (f block bytes, s)
with_content f block bytes s fits is =
    with_read (λ b field. f b (content_from field)) block (content_text bytes) s fits (content-lacks 32 bytes refl is) ∙ ap (λ (c : List ℕ). (f block c, s)) (content_from-text bytes is)

switch-lacks : (on : Bool) → Lacks 32 (switch_text on)
switch-lacks true = refl
switch-lacks false = refl

switch-value : (on : Bool) → (digits_value 10 (switch_text on) == 1) ≡ on
switch-value true = refl
switch-value false = refl

with_switch : (f : ℕ → Bool → Request) (block : ℕ) (on : Bool) (s : List ℕ) → IsBlockNumber block → of_block_with (λ b field. f b (digits_value 10 field == 1)) ((decimal block ++ 32 ∷ switch_text on) ++ 32 ∷ s) ≡ (f block on, s)
with_switch f block on s fits =
    with_read (λ b field. f b (digits_value 10 field == 1)) block (switch_text on) s fits (switch-lacks on) ∙ ap (λ (b : Bool). (f block b, s)) (switch-value on)

with_index : (block index : ℕ) (s : List ℕ) → IsBlockNumber block → IsNumber index → of_block_with (λ b field. request.SetIndex b (digits_value 10 field)) ((decimal block ++ 32 ∷ decimal index) ++ 32 ∷ s) ≡ (request.SetIndex block index, s)
with_index block index s fits small =
    with_read (λ b field. request.SetIndex b (digits_value 10 field)) block (decimal index) s fits (decimal-lacks 32 index refl small) ∙ ap (λ (n : ℕ). (request.SetIndex block n, s)) (digits_value-decimal model index small)

-- a write of the RAM, with its store where it isn't 0
ram_write : (block store : ℕ) (s : List ℕ) (b : Bool) → (store == 0) ≡ b → IsBlockNumber block → IsNumber store
    → by_word (Some WriteRam) ((decimal block ++ (if b then [] else codes " store " ++ decimal store)) ++ 32 ∷ (45 ∷ s)) ≡ (request.Write block None store, 45 ∷ s)
unfolding by_word asked_by stored_write
ram_write block store s true none fits small =
    let zero_store : store ≡ 0 = eqb-true store 0 none in
    rw (append-nil (decimal block), number_to-field 32 block (45 ∷ s) refl (block_fits block fits), behind-number 32 block (45 ∷ s) refl (block_fits block fits), zero_store) refl
ram_write block store s false some fits small =
    rw (append_assoc (decimal block) (codes " store " ++ decimal store) (32 ∷ (45 ∷ s)), number_to-field 32 block (codes "store " ++ (decimal store ++ 32 ∷ (45 ∷ s))) refl (block_fits block fits), behind-number 32 block (codes "store " ++ (decimal store ++ 32 ∷ (45 ∷ s))) refl (block_fits block fits), number_to-field 32 store (45 ∷ s) refl small, behind-number 32 store (45 ∷ s) refl small) refl

-- what a request's own write brings has no store
abbrev pub NoStore : Request → Type 0
NoStore (request.Write block (Some bytes) store) = store ≡ 0
NoStore _ = Unit {0}

pub read_request-text : (r : Request) (s : List ℕ) → IsRequestValue r → NoStore r → read_request (request_text r ++ 32 ∷ (45 ∷ s)) ≡ (r, 45 ∷ s)
unfolding read_request by_word asked_by word_of
read_request-text (request.Read block false) s is none = block_read (λ b. request.Read b false) block (45 ∷ s) is
read_request-text (request.Read block true) s is none = block_read (λ b. request.Read b true) block (45 ∷ s) is
read_request-text (request.Write block (Some bytes) store) s is none =
    with_content (λ b c. request.Write b (Some c) 0) block bytes (45 ∷ s) is.0 is.1 ∙ ap (λ (n : ℕ). (request.Write block (Some bytes) n, 45 ∷ s)) (sym none)
read_request-text (request.Write block None store) s is none = ram_write block store s (store == 0) refl is.0 is.1
read_request-text (request.Restore block false) s is none = block_read (λ b. request.Restore b false) block (45 ∷ s) is
read_request-text (request.Restore block true) s is none = block_read (λ b. request.Restore b true) block (45 ∷ s) is
read_request-text (request.Erase block) s is none = block_read (λ b. request.Erase b) block (45 ∷ s) is
read_request-text (request.Invalidate block) s is none = block_read (λ b. request.Invalidate b) block (45 ∷ s) is
read_request-text (request.SetIndex block index) s is none = with_index block index (45 ∷ s) is.0 (omega (arith, is.1))
read_request-text (request.GetIndex block) s is none = block_read (λ b. request.GetIndex b) block (45 ∷ s) is
read_request-text (request.SetProtection block on) s is none = with_switch (λ b on. request.SetProtection b on) block on (45 ∷ s) is
read_request-text (request.SetLock block on) s is none = with_switch (λ b on. request.SetLock b on) block on (45 ∷ s) is
read_request-text (request.SetRam block on) s is none = with_switch (λ b on. request.SetRam b on) block on (45 ∷ s) is
read_request-text (request.PutRam block bytes) s is none = with_content (λ b c. request.PutRam b c) block bytes (45 ∷ s) is.0 is.1
read_request-text (request.Status block) s is none = block_read (λ b. request.Status b) block (45 ∷ s) is
read_request-text request.ReadAll s is none = refl
read_request-text request.WriteAll s is none = refl
read_request-text request.CancelWriteAll s is none = refl

-- REPLIES

pub read_reply : List ℕ → Reply × List ℕ
read_reply l =
    if slice_index l 0 == 111 then (reply.Accepted, behind 10 l)
    else if slice_index l 0 == 114 then (reply.Refused (refusal_from (number_to 10 (behind 32 l))), behind 10 (behind 32 l))
    else if slice_index l 0 == 115 then (reply.StatusIs (result_from (number_to 10 (behind 32 l))), behind 10 (behind 32 l))
    else (reply.IndexIs (number_to 10 (behind 32 l)), behind 10 (behind 32 l))

number_ends : {A : Type 0} (f : ℕ → A) (n : ℕ) (s : List ℕ) → IsNumber n → ◌≡◌ {A = A × List ℕ} (f (number_to 10 (decimal n ++ 10 ∷ s)), behind 10 (decimal n ++ 10 ∷ s)) (f n, s)
number_ends f n s fits = rw (number_to-field 10 n s refl fits, behind-number 10 n s refl fits) refl

pub read_reply-text : (p : Reply) (s : List ℕ) → IsReplyValue p → read_reply (reply_text p ++ 10 ∷ s) ≡ (p, s)
unfolding read_reply
read_reply-text reply.Accepted s is = refl
read_reply-text (reply.Refused r) s is = number_ends (λ n. reply.Refused (refusal_from n)) (number_of_refusal r) s (refusal-small r) ∙ ap (λ (r : Refusal). (reply.Refused r, s)) (refusal_from-number r)
read_reply-text (reply.StatusIs r) s is = number_ends (λ n. reply.StatusIs (result_from n)) (code_of r) s (code-small r) ∙ ap (λ (r : ReqResult). (reply.StatusIs r, s)) (result_from-code r)
read_reply-text (reply.IndexIs i) s is = number_ends (λ n. reply.IndexIs n) i s is

-- An entry is read back from its line, and a history from its text.
use Rattle.std.proofs.Common.{◌≡◌, ◌==◌, ℕ, zero, suc, Bool, true, false, if◌then◌else◌, List, [], ◌∷◌, ◌++◌, length, drop, slice_index, codes, Option, Some, None, refl, sym, ap, ◌∙◌, append_assoc}
use Rattle.std.proofs.lemmas.Bool.{eqb-true}
use Rattle.std.specs.Fmt.{decimal}
use Rattle.std.specs.List.{concat, flat_map, list_all}
use Rattle.nv_base.specs.Result.{code_of}
use Rattle.nv_base.specs.declared.instance.Instance.{Instance}
use Rattle.nv_base.specs.declared.mark.Mark.{Mark}
use Rattle.nv_base.specs.declared.request.Request.{Request}
use Rattle.nv_base.specs.declared.request.Request.TheVariants as request
use Rattle.nv_base.specs.declared.request.Reply.{Reply}
use Rattle.nv_base.specs.declared.request.JobKind.{JobKind}
use Rattle.nv_base.specs.declared.result.ReqResult.{ReqResult}
use Rattle.nv_base.specs.declared.entry.Taken.{Taken}
use Rattle.nv_base.specs.declared.entry.Taken.TheVariants as taken
use Rattle.nv_base.specs.declared.entry.Entry.{Entry}
use Rattle.nv_base.specs.declared.entry.Entry.TheVariants.{Ask, Pick, Wrote, Post, Off, Found}
use Rattle.nvm_script.specs.Words.{content_text, mark_text, store_text, request_text, reply_text, job_text, taken_text, given_text, refused_text}
use Rattle.nvm_script.specs.Lines.{found_text, entry_line, end_line}
use Rattle.nvm_script.specs.Printed.{HasNoStore, CountsTries, IsPrinted, history_lines, history_text, BeginsNoEntry, LinesTellEntries, LinesLeaveOut, TextsTellHistories, EndsBeginNoEntry}
use Rattle.nvm_script.specs.Values.{IsNumber, IsContent, IsTakenValue, IsGivenValue, IsInstanceValue, AreMarkValues, IsEntryValue}
use Rattle.nvm_script.proofs.ContentLaws.{is_content_byte, content_bytes, content-lacks, content_from, content_from-text}
use Rattle.nvm_script.proofs.Fields.{before, behind, before-field, behind-field, number_to, number_to-field, behind-number}
use Rattle.nvm_script.proofs.Readers.{result_from, result_from-code, code-small, job_from, job_from-text, job_text-lacks, read_mark, read_mark-text, NoStore, read_request, read_request-text, read_reply, read_reply-text}

-- THE OPERATIONS AT A LINE'S END

-- the line's end, with something behind it
abbrev end_of : ℕ → List ℕ → List ℕ
end_of ops s = codes "ops " ++ (decimal ops ++ 10 ∷ s)

read_ops : List ℕ → ℕ × List ℕ
read_ops l = (number_to 10 (behind 32 l), behind 10 (behind 32 l))

read_ops-text : (ops : ℕ) (s : List ℕ) → IsNumber ops → read_ops (end_of ops s) ≡ (ops, s)
unfolding read_ops
read_ops-text ops s fits = rw (number_to-field 10 ops s refl fits, behind-number 10 ops s refl fits) refl

-- ASK

read_ask : List ℕ → Entry × List ℕ
read_ask l =
    let r = read_request (behind 32 l) in
    let p = read_reply (drop 3 r.1) in
    (Ask (number_to 32 l) r.0 p.0, p.1)

read_ask-text : (caller : ℕ) (r : Request) (p : Reply) (s : List ℕ) → IsEntryValue (Ask caller r p) → NoStore r
    → read_ask (decimal caller ++ 32 ∷ (request_text r ++ 32 ∷ (45 ∷ (62 ∷ (32 ∷ (reply_text p ++ 10 ∷ s)))))) ≡ (Ask caller r p, s)
unfolding read_ask
read_ask-text caller r p s is none =
    rw (number_to-field 32 caller (request_text r ++ 32 ∷ (45 ∷ (62 ∷ (32 ∷ (reply_text p ++ 10 ∷ s))))) refl is.0, behind-number 32 caller (request_text r ++ 32 ∷ (45 ∷ (62 ∷ (32 ∷ (reply_text p ++ 10 ∷ s))))) refl is.0, read_request-text r (62 ∷ (32 ∷ (reply_text p ++ 10 ∷ s))) is.1 none, read_reply-text p s is.2) refl

no_store_of : (caller : ℕ) (r : Request) (p : Reply) → HasNoStore (Ask caller r p) → NoStore r
no_store_of caller (request.Write block (Some bytes) store) p h = h
no_store_of caller _ p h = tt

-- PICK

read_taken_content : List ℕ → List ℕ → Taken × List ℕ
read_taken_content bytes l =
    if slice_index l 0 == 115 then (taken.Content bytes (number_to 32 (behind 32 l)), behind 32 (behind 32 l))
    else (taken.Content bytes 0, l)

-- what was taken, of a block with so many tries
read_taken : ℕ → List ℕ → Taken × List ℕ
read_taken tries l =
    if list_all is_content_byte (before 32 l) then read_taken_content (content_from (before 32 l)) (behind 32 l)
    else if slice_index l 0 == 111 then (taken.Nothing, l)
    else if slice_index l 0 == 114 then (taken.Refused (number_to 32 (behind 32 l)), behind 32 (behind 32 l))
    else (taken.Stale (number_to 32 (behind 32 l)) (number_to 32 (behind 32 (behind 32 l))) tries, behind 32 (behind 32 (behind 32 l)))

-- as the text has it, behind its first space
taken_behind : Taken → List ℕ → List ℕ
taken_behind t rest = drop 1 (taken_text t ++ 32 ∷ rest)

taken_begins : (t : Taken) (rest : List ℕ) → taken_text t ++ 32 ∷ rest ≡ 32 ∷ taken_behind t rest
unfolding taken_behind
taken_begins taken.Nothing rest = refl
taken_begins _ rest = refl

-- where the count is that of the tries
abbrev Counts : ℕ → Taken → Type 0
Counts tries (taken.Stale asked got count) = count ≡ tries
Counts tries _ = Unit {0}

stored_content : (bytes : List ℕ) (store : ℕ) (rest : List ℕ) (b : Bool) → (store == 0) ≡ b → IsNumber store
    → read_taken_content bytes (drop 1 ((if b then [] else codes " store " ++ decimal store) ++ 32 ∷ (111 ∷ rest))) ≡ (taken.Content bytes store, 111 ∷ rest)
unfolding read_taken_content
stored_content bytes store rest true none fits = let zero_store : store ≡ 0 = eqb-true store 0 none in rw zero_store refl
stored_content bytes store rest false some fits = rw (number_to-field 32 store (111 ∷ rest) refl fits, behind-number 32 store (111 ∷ rest) refl fits) refl

store_begins : (store : ℕ) (rest : List ℕ) (b : Bool) → (if b then [] else codes " store " ++ decimal store) ++ 32 ∷ rest ≡ 32 ∷ drop 1 ((if b then [] else codes " store " ++ decimal store) ++ 32 ∷ rest)
store_begins store rest true = refl
store_begins store rest false = refl

content_taken : (tries : ℕ) (bytes tail : List ℕ) → IsContent bytes → read_taken tries (content_text bytes ++ 32 ∷ tail) ≡ read_taken_content bytes tail
unfolding read_taken
content_taken tries bytes tail is =
    let lacks = content-lacks 32 bytes refl is in
    rw (before-field 32 (content_text bytes) tail lacks, content_bytes bytes is, behind-field 32 (content_text bytes) tail lacks, content_from-text bytes is) refl

content_read : (tries : ℕ) (bytes : List ℕ) (store : ℕ) (rest : List ℕ) → IsContent bytes → IsNumber store → read_taken tries ((content_text bytes ++ store_text store) ++ 32 ∷ (111 ∷ rest)) ≡ (taken.Content bytes store, 111 ∷ rest)
content_read tries bytes store rest is fits =
    ap (read_taken tries) (append_assoc (content_text bytes) (store_text store) (32 ∷ (111 ∷ rest)) ∙ ap (λ (l : List ℕ). content_text bytes ++ l) (store_begins store (111 ∷ rest) (store == 0)))
    ∙ content_taken tries bytes (drop 1 (store_text store ++ 32 ∷ (111 ∷ rest))) is
    ∙ stored_content bytes store rest (store == 0) refl fits

read_taken-text : (tries : ℕ) (t : Taken) (rest : List ℕ) → IsTakenValue t → Counts tries t → read_taken tries (taken_behind t (codes "ops " ++ rest)) ≡ (t, codes "ops " ++ rest)
unfolding read_taken taken_behind
read_taken-text tries taken.Nothing rest is counts = refl
read_taken-text tries (taken.Content bytes store) rest is counts = content_read tries bytes store (codes "ps " ++ rest) is.0 is.1
read_taken-text tries (taken.Refused count) rest is counts = rw (number_to-field 32 count (codes "ops " ++ rest) refl is, behind-number 32 count (codes "ops " ++ rest) refl is) refl
read_taken-text tries (taken.Stale asked got count) rest is counts =
    rw (append_assoc (decimal asked) (32 ∷ decimal got) (32 ∷ (codes "ops " ++ rest)), number_to-field 32 asked (decimal got ++ 32 ∷ (codes "ops " ++ rest)) refl is.0, behind-number 32 asked (decimal got ++ 32 ∷ (codes "ops " ++ rest)) refl is.0, number_to-field 32 got (codes "ops " ++ rest) refl is.1, behind-number 32 got (codes "ops " ++ rest) refl is.1, counts) refl

read_pick : (ℕ → ℕ) → List ℕ → Entry × List ℕ
read_pick tries l =
    let t = read_taken (tries (number_to 32 l)) (behind 32 (behind 32 l)) in
    let n = read_ops t.1 in
    (Pick (number_to 32 l) (job_from (before 32 (behind 32 l))) t.0 n.0, n.1)

read_pick-text : (tries : ℕ → ℕ) (block : ℕ) (j : JobKind) (t : Taken) (ops : ℕ) (s : List ℕ) → IsEntryValue (Pick block j t ops) → Counts (tries block) t
    → read_pick tries (decimal block ++ 32 ∷ (job_text j ++ 32 ∷ taken_behind t (end_of ops s))) ≡ (Pick block j t ops, s)
unfolding read_pick
read_pick-text tries block j t ops s is counts =
    rw (number_to-field 32 block (job_text j ++ 32 ∷ taken_behind t (end_of ops s)) refl is.0, behind-number 32 block (job_text j ++ 32 ∷ taken_behind t (end_of ops s)) refl is.0, before-field 32 (job_text j) (taken_behind t (end_of ops s)) (job_text-lacks j), behind-field 32 (job_text j) (taken_behind t (end_of ops s)) (job_text-lacks j), job_from-text j, read_taken-text (tries block) t (decimal ops ++ 10 ∷ s) is.1 counts, read_ops-text ops s is.2) refl

counts_of : (tries : ℕ → ℕ) (block : ℕ) (j : JobKind) (t : Taken) (ops : ℕ) → CountsTries tries (Pick block j t ops) → Counts (tries block) t
counts_of tries block j (taken.Stale asked got count) ops h = h
counts_of tries block j _ ops h = tt

-- WROTE AND FOUND

read_instance : List ℕ → Instance × List ℕ
read_instance l = (record { block = number_to 46 l; index = number_to 32 (behind 46 l) }, behind 32 (behind 46 l))

read_instance-text : (i : Instance) (s : List ℕ) → IsInstanceValue i → read_instance (decimal i.block ++ 46 ∷ (decimal i.index ++ 32 ∷ s)) ≡ (i, s)
unfolding read_instance
read_instance-text i s is =
    rw (number_to-field 46 i.block (decimal i.index ++ 32 ∷ s) refl is.0, behind-number 46 i.block (decimal i.index ++ 32 ∷ s) refl is.0, number_to-field 32 i.index s refl is.1, behind-number 32 i.index s refl is.1) refl

read_wrote : List ℕ → Entry × List ℕ
read_wrote l =
    let i = read_instance l in
    let m = read_mark i.1 in
    let n = read_ops m.1 in
    (Wrote i.0 m.0 n.0, n.1)

read_wrote-text : (i : Instance) (m : Mark) (ops : ℕ) (s : List ℕ) → IsEntryValue (Wrote i m ops) → read_wrote (decimal i.block ++ 46 ∷ (decimal i.index ++ 32 ∷ (mark_text m ++ 32 ∷ end_of ops s))) ≡ (Wrote i m ops, s)
unfolding read_wrote
read_wrote-text i m ops s is = rw (read_instance-text i (mark_text m ++ 32 ∷ end_of ops s) is.0, read_mark-text m (end_of ops s) is.1, read_ops-text ops s is.2) refl

-- the marks, of so many instances
read_marks : ℕ → List ℕ → List (Instance × Mark) × List ℕ
read_marks zero l = ([], l)
read_marks (suc count) l =
    let i = read_instance l in
    let m = read_mark i.1 in
    let r = read_marks count m.1 in
    ((i.0, m.0) ∷ r.0, r.1)

-- as the text has them, behind its first space
marks_behind : List (Instance × Mark) → List ℕ → List ℕ
marks_behind marks rest = drop 1 (flat_map found_text marks ++ 32 ∷ rest)

marks_begin : (marks : List (Instance × Mark)) (rest : List ℕ) → flat_map found_text marks ++ 32 ∷ rest ≡ 32 ∷ marks_behind marks rest
unfolding marks_behind
marks_begin [] rest = refl
marks_begin (x ∷ marks) rest = refl

regroup_marks : (b i m f r : List ℕ) → ((b ++ 46 ∷ (i ++ 32 ∷ m)) ++ f) ++ 32 ∷ r ≡ b ++ 46 ∷ (i ++ 32 ∷ (m ++ (f ++ 32 ∷ r)))
regroup_marks b i m f r = simp append_assoc

marks_behind-cons : (x : Instance × Mark) (marks : List (Instance × Mark)) (rest : List ℕ)
    → marks_behind (x ∷ marks) rest ≡ decimal x.0.block ++ 46 ∷ (decimal x.0.index ++ 32 ∷ (mark_text x.1 ++ 32 ∷ marks_behind marks rest))
unfolding marks_behind
marks_behind-cons x marks rest =
    regroup_marks (decimal x.0.block) (decimal x.0.index) (mark_text x.1) (flat_map found_text marks) rest
    ∙ ap (λ (l : List ℕ). decimal x.0.block ++ 46 ∷ (decimal x.0.index ++ 32 ∷ (mark_text x.1 ++ l))) (marks_begin marks rest)

marks_behind-nil : (rest : List ℕ) → marks_behind [] rest ≡ rest
unfolding marks_behind
marks_behind-nil rest = refl

read_marks-text : (marks : List (Instance × Mark)) (rest : List ℕ) → AreMarkValues marks → read_marks (length marks) (marks_behind marks rest) ≡ (marks, rest)
unfolding read_marks
read_marks-text [] rest is = rw (marks_behind-nil rest) refl
read_marks-text (x ∷ marks) rest is =
    rw (marks_behind-cons x marks rest, read_instance-text x.0 (mark_text x.1 ++ 32 ∷ marks_behind marks rest) is.0, read_mark-text x.1 (marks_behind marks rest) is.1, read_marks-text marks rest is.2) refl

read_found : List ℕ → Entry × List ℕ
read_found l =
    let r = read_marks (number_to 32 l) (behind 32 l) in
    let n = read_ops r.1 in
    (Found r.0 n.0, n.1)

read_found-text : (marks : List (Instance × Mark)) (ops : ℕ) (s : List ℕ) → IsEntryValue (Found marks ops) → read_found (decimal (length marks) ++ 32 ∷ marks_behind marks (end_of ops s)) ≡ (Found marks ops, s)
unfolding read_found
read_found-text marks ops s is =
    rw (number_to-field 32 (length marks) (marks_behind marks (end_of ops s)) refl is.0, behind-number 32 (length marks) (marks_behind marks (end_of ops s)) refl is.0, read_marks-text marks (end_of ops s) is.1, read_ops-text ops s is.2) refl

-- POST

read_given : List ℕ → Option (List ℕ) × List ℕ
read_given l =
    if slice_index l 0 == 100 then (Some (content_from (before 32 (behind 32 l))), behind 32 (behind 32 l))
    else (None, l)

read_refused : List ℕ → ℕ × List ℕ
read_refused l =
    if slice_index l 0 == 114 then (number_to 32 (behind 32 l), behind 32 (behind 32 l))
    else (0, l)

-- as the text has them, each behind its first space
refused_behind : ℕ → List ℕ → List ℕ
refused_behind count rest = drop 1 (refused_text count ++ 32 ∷ rest)

given_behind : Option (List ℕ) → List ℕ → List ℕ
given_behind given rest = drop 1 (given_text given ++ 32 ∷ rest)

given_begins : (given : Option (List ℕ)) (rest : List ℕ) → given_text given ++ 32 ∷ rest ≡ 32 ∷ given_behind given rest
unfolding given_behind
given_begins None rest = refl
given_begins (Some bytes) rest = refl

begins_where : (count : ℕ) (rest : List ℕ) (b : Bool) → (if b then [] else codes " refused " ++ decimal count) ++ 32 ∷ rest ≡ 32 ∷ drop 1 ((if b then [] else codes " refused " ++ decimal count) ++ 32 ∷ rest)
begins_where count rest true = refl
begins_where count rest false = refl

refused_begins : (count : ℕ) (rest : List ℕ) → refused_text count ++ 32 ∷ rest ≡ 32 ∷ refused_behind count rest
unfolding refused_behind
refused_begins count rest = begins_where count rest (count == 0)

refused_where : (count : ℕ) (rest : List ℕ) (b : Bool) → (count == 0) ≡ b → IsNumber count → read_refused (drop 1 ((if b then [] else codes " refused " ++ decimal count) ++ 32 ∷ (codes "ops " ++ rest))) ≡ (count, codes "ops " ++ rest)
unfolding read_refused
refused_where count rest true none fits = let is_zero : count ≡ 0 = eqb-true count 0 none in rw is_zero refl
refused_where count rest false some fits = rw (number_to-field 32 count (codes "ops " ++ rest) refl fits, behind-number 32 count (codes "ops " ++ rest) refl fits) refl

read_refused-text : (count : ℕ) (rest : List ℕ) → IsNumber count → read_refused (refused_behind count (codes "ops " ++ rest)) ≡ (count, codes "ops " ++ rest)
unfolding refused_behind
read_refused-text count rest fits = refused_where count rest (count == 0) refl fits

-- what stands there doesn't begin as a content does
other_where : (count : ℕ) (rest : List ℕ) (b : Bool) → (slice_index (drop 1 ((if b then [] else codes " refused " ++ decimal count) ++ 32 ∷ (codes "ops " ++ rest))) 0 == 100) ≡ false
other_where count rest true = refl
other_where count rest false = refl

refused_other : (count : ℕ) (rest : List ℕ) → (slice_index (refused_behind count (codes "ops " ++ rest)) 0 == 100) ≡ false
unfolding refused_behind
refused_other count rest = other_where count rest (count == 0)

read_given-text : (given : Option (List ℕ)) (rest : List ℕ) → IsGivenValue given → (slice_index rest 0 == 100) ≡ false → read_given (given_behind given rest) ≡ (given, rest)
unfolding read_given given_behind
read_given-text None rest is other = rw other refl
read_given-text (Some bytes) rest is other =
    let lacks = content-lacks 32 bytes refl is in
    rw (before-field 32 (content_text bytes) rest lacks, behind-field 32 (content_text bytes) rest lacks, content_from-text bytes is) refl

read_post : List ℕ → Entry × List ℕ
read_post l =
    let g = read_given (behind 32 (behind 32 l)) in
    let r = read_refused g.1 in
    let n = read_ops r.1 in
    (Post (number_to 32 l) (result_from (number_to 32 (behind 32 l))) g.0 r.0 n.0, n.1)

read_post-text : (block : ℕ) (r : ReqResult) (given : Option (List ℕ)) (refused ops : ℕ) (s : List ℕ) → IsEntryValue (Post block r given refused ops)
    → read_post (decimal block ++ 32 ∷ (decimal (code_of r) ++ 32 ∷ given_behind given (refused_behind refused (end_of ops s)))) ≡ (Post block r given refused ops, s)
unfolding read_post
read_post-text block r given refused ops s is =
    rw (number_to-field 32 block (decimal (code_of r) ++ 32 ∷ given_behind given (refused_behind refused (end_of ops s))) refl is.0, behind-number 32 block (decimal (code_of r) ++ 32 ∷ given_behind given (refused_behind refused (end_of ops s))) refl is.0, number_to-field 32 (code_of r) (given_behind given (refused_behind refused (end_of ops s))) refl (code-small r), behind-number 32 (code_of r) (given_behind given (refused_behind refused (end_of ops s))) refl (code-small r), result_from-code r, read_given-text given (refused_behind refused (end_of ops s)) is.1 (refused_other refused (decimal ops ++ 10 ∷ s)), read_refused-text refused (decimal ops ++ 10 ∷ s) is.2, read_ops-text ops s is.3) refl

-- ENTRIES

read_off : List ℕ → Entry × List ℕ
read_off l = let n = read_ops l in (Off n.0, n.1)

read_off-text : (ops : ℕ) (s : List ℕ) → IsNumber ops → read_off (end_of ops s) ≡ (Off ops, s)
unfolding read_off
read_off-text ops s fits = rw (read_ops-text ops s fits) refl

pub read_entry : (ℕ → ℕ) → List ℕ → Entry × List ℕ
read_entry tries l =
    if slice_index l 0 == 97 then read_ask (behind 32 l)
    else if slice_index l 0 == 119 then read_wrote (behind 32 l)
    else if slice_index l 0 == 111 then read_off (behind 32 l)
    else if slice_index l 0 == 102 then read_found (behind 32 l)
    else if slice_index l 1 == 105 then read_pick tries (behind 32 l)
    else read_post (behind 32 l)

-- what stands behind a line's first word, grouped to the right
regroup_ask : (c r p s : List ℕ) → (c ++ 32 ∷ (r ++ (codes " -> " ++ (p ++ 10 ∷ [])))) ++ s ≡ c ++ 32 ∷ (r ++ 32 ∷ (45 ∷ (62 ∷ (32 ∷ (p ++ 10 ∷ s)))))
regroup_ask c r p s = simp append_assoc

regroup_pick : (b j t n s : List ℕ) → (b ++ 32 ∷ (j ++ (t ++ (codes " ops " ++ (n ++ 10 ∷ []))))) ++ s ≡ b ++ 32 ∷ (j ++ (t ++ (codes " ops " ++ (n ++ 10 ∷ s))))
regroup_pick b j t n s = simp append_assoc

regroup_wrote : (b i m n s : List ℕ) → ((b ++ 46 ∷ (i ++ 32 ∷ m)) ++ (codes " ops " ++ (n ++ 10 ∷ []))) ++ s ≡ b ++ 46 ∷ (i ++ 32 ∷ (m ++ (codes " ops " ++ (n ++ 10 ∷ s))))
regroup_wrote b i m n s = simp append_assoc

regroup_post : (b c g r n s : List ℕ) → (b ++ 32 ∷ (c ++ (g ++ (r ++ (codes " ops " ++ (n ++ 10 ∷ [])))))) ++ s ≡ b ++ 32 ∷ (c ++ (g ++ (r ++ (codes " ops " ++ (n ++ 10 ∷ s)))))
regroup_post b c g r n s = simp append_assoc

regroup_off : (n s : List ℕ) → (codes "ops " ++ (n ++ 10 ∷ [])) ++ s ≡ codes "ops " ++ (n ++ 10 ∷ s)
regroup_off n s = simp append_assoc

regroup_found : (c f n s : List ℕ) → (c ++ (f ++ (codes " ops " ++ (n ++ 10 ∷ [])))) ++ s ≡ c ++ (f ++ (codes " ops " ++ (n ++ 10 ∷ s)))
regroup_found c f n s = simp append_assoc

pub read_entry-line : (tries : ℕ → ℕ) (e : Entry) (s : List ℕ) → IsPrinted tries e → read_entry tries (entry_line e ++ s) ≡ (e, s)
unfolding read_entry
read_entry-line tries (Ask caller r p) s is =
    ap read_ask (regroup_ask (decimal caller) (request_text r) (reply_text p) s) ∙ read_ask-text caller r p s is.value (no_store_of caller r p is.no_store)
read_entry-line tries (Pick block j t ops) s is =
    ap (read_pick tries) (regroup_pick (decimal block) (job_text j) (taken_text t) (decimal ops) s ∙ ap (λ (l : List ℕ). decimal block ++ 32 ∷ (job_text j ++ l)) (taken_begins t (end_of ops s)))
    ∙ read_pick-text tries block j t ops s is.value (counts_of tries block j t ops is.each_try)
read_entry-line tries (Wrote i m ops) s is =
    ap read_wrote (regroup_wrote (decimal i.block) (decimal i.index) (mark_text m) (decimal ops) s) ∙ read_wrote-text i m ops s is.value
read_entry-line tries (Post block r given refused ops) s is =
    ap read_post (regroup_post (decimal block) (decimal (code_of r)) (given_text given) (refused_text refused) (decimal ops) s
    ∙ ap (λ (l : List ℕ). decimal block ++ 32 ∷ (decimal (code_of r) ++ (given_text given ++ l))) (refused_begins refused (end_of ops s))
    ∙ ap (λ (l : List ℕ). decimal block ++ 32 ∷ (decimal (code_of r) ++ l)) (given_begins given (refused_behind refused (end_of ops s))))
    ∙ read_post-text block r given refused ops s is.value
read_entry-line tries (Off ops) s is = ap read_off (regroup_off (decimal ops) s) ∙ read_off-text ops s is.value
read_entry-line tries (Found marks ops) s is =
    ap read_found (regroup_found (decimal (length marks)) (flat_map found_text marks) (decimal ops) s ∙ ap (λ (l : List ℕ). decimal (length marks) ++ l) (marks_begin marks (end_of ops s)))
    ∙ read_found-text marks ops s is.value

-- THE LAWS

pub lines_tell_entries : LinesTellEntries
lines_tell_entries tries a b s t is_a is_b e =
    let same : ◌≡◌ {A = Entry × List ℕ} (a, s) (b, t) = sym (read_entry-line tries a s is_a) ∙ ap (read_entry tries) e ∙ read_entry-line tries b t is_b in
    (ap (λ (p : Entry × List ℕ). p.0) same, ap (λ (p : Entry × List ℕ). p.1) same)

pub lines_leave_out : LinesLeaveOut
lines_leave_out = (λ caller block store other bytes reply. refl, λ block asked got count other ops job. refl)

-- the lines joined are the text
pub lines_joined : (h : List Entry) → concat (history_lines h) ≡ history_text h
lines_joined [] = refl
lines_joined (e ∷ h) = ap (λ (l : List ℕ). entry_line e ++ l) (lines_joined h)

lines-append : (e : Entry) (es : List Entry) (s : List ℕ) → history_text (e ∷ es) ++ s ≡ entry_line e ++ (history_text es ++ s)
lines-append e es s = append_assoc (entry_line e) (history_text es) s

pub texts_tell_histories : TextsTellHistories
texts_tell_histories tries [] [] s t are_a are_b no_a no_b e = (refl, e)
texts_tell_histories tries [] (y ∷ b) s t are_a are_b no_a no_b e = absurd (no_a y (history_text b ++ t) (e ∙ lines-append y b t))
texts_tell_histories tries (x ∷ a) [] s t are_a are_b no_a no_b e = absurd (no_b x (history_text a ++ s) (sym e ∙ lines-append x a s))
texts_tell_histories tries (x ∷ a) (y ∷ b) s t are_a are_b no_a no_b e =
    let first = lines_tell_entries tries x y (history_text a ++ s) (history_text b ++ t) are_a.0 are_b.0 (sym (lines-append x a s) ∙ e ∙ lines-append y b t) in
    let rest = texts_tell_histories tries a b s t are_a.1 are_b.1 no_a no_b first.1 in
    let head : x ≡ y = first.0 in
    let tail : a ≡ b = rest.0 in
    (cc, rest.1)

nothing_begins : BeginsNoEntry []
nothing_begins (Ask caller r p) rest e = cc
nothing_begins _ rest e = cc

last_begins : (count : ℕ) → BeginsNoEntry (end_line count)
last_begins count (Ask caller r p) rest e = let first : true ≡ false = ap (λ (l : List ℕ). slice_index l 0 == 101) e in cc first
last_begins count _ rest e = let first : true ≡ false = ap (λ (l : List ℕ). slice_index l 0 == 101) e in cc first

pub ends_begin_no_entry : EndsBeginNoEntry
ends_begin_no_entry = (nothing_begins, last_begins)

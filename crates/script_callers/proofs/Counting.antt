-- The stores of a program, counted by block.
use Rattle.std.specs.Prelude.{slice_get, slice_set, replicate, is_some}
use Rattle.std.specs.Option.{unwrap_or, option_and_then}
use Rattle.std.proofs.Common.{◌≡◌, ◌≢◌, ◌==◌, ◌≤◌, ◌<◌, ◌+◌, ℕ, zero, suc, Bool, true, false, List, [], ◌∷◌, ◌++◌, length, get_or, refl, sym, ap, ◌∙◌, subst, inl, inr, arith, Some, None, Option, if◌then◌else◌, get_or-set_same, get_or-set_other, length-set, length-append, append-nil}
use Rattle.std.proofs.lemmas.Bool.{cases_Bool, cases_lt, eqb-true, eq-eqb}
use Rattle.std.proofs.lemmas.List.{get_or_past, get_or-replicate, length-replicate}
use Rattle.std.proofs.lemmas.List.Elements.{filter-append}
use Rattle.std.proofs.lemmas.Option.{slice_get_within}
use Rattle.block_config.specs.Config.{block_of}
use Rattle.block_config.specs.declared.block.BlockDesc.{BlockDesc}
use Rattle.block_config.specs.declared.block.RamKind.{RamKind}
use Rattle.block_config.specs.declared.block.RamKind.TheVariants as ram
use Rattle.block_machine.specs.block_config.Block.{plain_block}
use Rattle.block_machine.specs.Words.{Request, Write, Configuration}
use Rattle.block_machine.specs.Blocks.{desc_of, is_synchronized}
use Rattle.script_walks.specs.Words.{Step, StepKind, AskStep, Store}
use Rattle.script_walks.specs.Walk.{stores_of, last_store, request_after}
use Rattle.script_walks.specs.StoreLaws.{is_store}
use Rattle.script_walks.specs.Callers.{program_of}
use Rattle.script_walks.proofs.Newest.{same_stores, stores_more, stores_are_few}
use Rattle.nvm_script.specs.Owners.{ram_block_of}
use Rattle.nvm_script.specs.Rules.{length_where_sync, sync_length_of}
use Rattle.script_callers.specs.declared.deed.Deed.{Deed}
use Rattle.script_callers.specs.Deeds.{deeds_by}
use Rattle.script_callers.specs.Counting.{ram_write, AreOf, AreCounted, AddsDeed}
use Rattle.script_callers.proofs.Growing.{last_of}

-- SYNCHRONIZED BLOCKS ARE COUNTED

sync_in : (blocks : List BlockDesc) (i : ℕ) (o : Option BlockDesc) → slice_get blocks i ≡ o → is_synchronized (unwrap_or o (plain_block 0)).ram ≡ true → i < length blocks
sync_in blocks i None at sync = absurd (cc sync)
sync_in blocks i (Some b) at sync = slice_get_within blocks i b at

pub sync_within : (c : Configuration) (block : ℕ) → is_synchronized (desc_of c block).ram ≡ true → block < length c.blocks + 1
sync_within c zero sync = absurd (cc sync)
sync_within c (suc i) sync = let within : i < length c.blocks = sync_in c.blocks i (slice_get c.blocks i) refl sync in omega arith

-- a block whose RAM is synchronized has the length of that
length_by : (kind : RamKind) (n : ℕ) → is_synchronized kind ≡ true → is_some (length_where_sync kind n) ≡ true
length_by ram.Sync n sync = refl
length_by kind n sync = absurd (cc sync)

length_in : (o : Option BlockDesc) → is_synchronized (unwrap_or o (plain_block 0)).ram ≡ true → is_some (option_and_then (λ b. length_where_sync b.ram b.length) o) ≡ true
length_in None sync = absurd (cc sync)
length_in (Some b) sync = length_by b.ram b.length sync

-- the number that a RAM write gets
pub number_is : (c : Configuration) (before own : List Step) (caller block : ℕ) (counts : List ℕ) → AreOf caller own → (is_some (sync_length_of c block) ≡ true → stores_of block own ≡ stores_of block before)
    → AreCounted before counts → length counts ≡ length c.blocks + 1
    → (if is_synchronized (desc_of c block).ram then get_or counts block 0 else 0) ≡ (if is_synchronized (desc_of c block).ram then last_store caller block own else 0)
number_is c before own caller block counts of owns counted size =
    elim (cases_Bool (is_synchronized (desc_of c block).ram)) [
      | inl sync ↦
          let within : block < length counts = let w = sync_within c block sync in omega (arith, size, w) in
          let same : stores_of block own ≡ stores_of block before = owns (length_in (block_of c block) sync) in
          rw sync (counted block within ∙ ap length (sym same) ∙ sym (last_of caller block own of))
      | inr other ↦ rw other refl
    ]

pub as_asked : (c : Configuration) (before : List Step) (caller : ℕ) (r : Request) → ram_write r ≡ None → request_after c before caller r ≡ r
as_asked c before caller (Write block None store) other = absurd (cc other)
as_asked c before caller (Write block (Some bytes) store) other = refl
as_asked c before caller r other = refl

pub as_written : (c : Configuration) (before : List Step) (caller block : ℕ) (r : Request) → ram_write r ≡ Some block
    → request_after c before caller r ≡ Write block None (if is_synchronized (desc_of c block).ram then last_store caller block before else 0)
as_written c before caller block (Write named None store) is =
    let same : named ≡ block = cc is in
    ap (λ (n : ℕ). Write n None (if is_synchronized (desc_of c n).ram then last_store caller n before else 0)) same
as_written c before caller block (Write named (Some bytes) store) is = absurd (cc is)
as_written c before caller block r is = absurd (cc is)

pub names_written : (block : ℕ) (r : Request) → ram_write r ≡ Some block → ram_block_of (AskStep r) ≡ Some block
names_written block (Write named None store) is = is
names_written block (Write named (Some bytes) store) is = is
names_written block r is = absurd (cc is)

-- ONE STEP MORE

pub none_counted : (n : ℕ) → AreCounted [] (replicate n 0)
none_counted n block within = get_or-replicate n block 0 0 (subst (λ (m : ℕ). block < m) (length-replicate n 0) within)

pub same_counted : (before : List Step) (x : Step) (counts : List ℕ) → is_store x.kind ≡ false → AreCounted before counts → AreCounted (before ++ x ∷ []) counts
same_counted before x counts none counted block within = counted block within ∙ sym (ap length (same_stores block before x none))

abbrev one_if : Bool → ℕ
one_if b = if b then 1 else 0

length_stored : (id block line caller : ℕ) (content : List ℕ) → length (stores_of id (record { line = line; caller = caller; kind = Store block content } ∷ [])) ≡ one_if (block == id)
length_stored id block line caller content = elim (cases_Bool (block == id)) [ inl own ↦ rw own refl | inr other ↦ rw other refl ]

stored_length : (id block line caller : ℕ) (content : List ℕ) (before : List Step)
    → length (stores_of id (before ++ record { line = line; caller = caller; kind = Store block content } ∷ [])) ≡ length (stores_of id before) + one_if (block == id)
stored_length id block line caller content before =
    let x : Step = record { line = line; caller = caller; kind = Store block content } in
    ap length (stores_more id before x) ∙ length-append (stores_of id before) (stores_of id (x ∷ [])) ∙ ap (λ n. length (stores_of id before) + n) (length_stored id block line caller content)

pub store_counted : (before : List Step) (line caller block : ℕ) (content : List ℕ) (counts : List ℕ) → AreCounted before counts
    → AreCounted (before ++ record { line = line; caller = caller; kind = Store block content } ∷ []) (slice_set counts block (get_or counts block 0 + 1))
store_counted before line caller block content counts counted id within =
    let inside : id < length counts = subst (λ (n : ℕ). id < n) (length-set counts block (get_or counts block 0 + 1)) within in
    let more = stored_length id block line caller content before in
    elim (cases_Bool (block == id)) [
      | inl own ↦
          let is : block ≡ id = eqb-true block id own in
          let set : get_or (slice_set counts block (get_or counts block 0 + 1)) id 0 ≡ get_or counts id 0 + 1 = subst (λ (n : ℕ). get_or (slice_set counts block (get_or counts block 0 + 1)) n 0 ≡ get_or counts n 0 + 1) is (get_or-set_same counts block (get_or counts block 0 + 1) 0 (subst (λ (n : ℕ). n < length counts) (sym is) inside)) in
          let one : one_if (block == id) ≡ 1 = ap one_if own in
          omega (arith, set, more, one, counted id inside)
      | inr other ↦
          let apart : id ≢ block = λ same. let is : (block == id) ≡ true = eq-eqb block id (sym same) in cc in
          let set : get_or (slice_set counts block (get_or counts block 0 + 1)) id 0 ≡ get_or counts id 0 = get_or-set_other counts block id (get_or counts block 0 + 1) 0 apart in
          let none : one_if (block == id) ≡ 0 = ap one_if other in
          omega (arith, set, more, none, counted id inside)
    ]

-- no count is more than there are steps
pub few_counted : (before : List Step) (counts : List ℕ) (most : ℕ) → AreCounted before counts → length before ≤ most → (block : ℕ) → get_or counts block 0 ≤ most
few_counted before counts most counted few block =
    elim (cases_lt block (length counts)) [
      | inl within ↦ let is = counted block within in let less = stores_are_few block before in omega (arith, is, less)
      | inr past ↦ let is : get_or counts block 0 ≡ 0 = get_or_past counts block 0 (omega arith) in omega (arith, is)
    ]

-- one step more of a program
by_caller : (caller : ℕ) (p : List Step) (x : Step) (b : Bool) → p ++ (if b then x ∷ [] else []) ≡ (if b then p ++ x ∷ [] else p)
by_caller caller p x true = refl
by_caller caller p x false = append-nil p

program_more : (caller : ℕ) (before : List Step) (x : Step) → program_of caller (before ++ x ∷ []) ≡ (if x.caller == caller then program_of caller before ++ x ∷ [] else program_of caller before)
program_more caller before x = filter-append (λ (y : Step). y.caller == caller) before (x ∷ []) ∙ by_caller caller (program_of caller before) x (x.caller == caller)

pub program_own : (before : List Step) (x : Step) → program_of x.caller (before ++ x ∷ []) ≡ program_of x.caller before ++ x ∷ []
program_own before x = program_more x.caller before x ∙ ap (λ (b : Bool). if b then program_of x.caller before ++ x ∷ [] else program_of x.caller before) (eq-eqb x.caller x.caller refl)

pub program_other : (caller : ℕ) (before : List Step) (x : Step) → (x.caller == caller) ≡ false → program_of caller (before ++ x ∷ []) ≡ program_of caller before
program_other caller before x apart = program_more caller before x ∙ ap (λ (b : Bool). if b then program_of caller before ++ x ∷ [] else program_of caller before) apart

-- a program has no more steps than the script
kept_few : (b : Bool) (x : Step) (ys : List Step) (n : ℕ) → length ys ≤ n → length (if b then x ∷ ys else ys) ≤ n + 1
kept_few true x ys n few = omega arith
kept_few false x ys n few = omega arith

pub program_few : (caller : ℕ) (steps : List Step) → length (program_of caller steps) ≤ length steps
program_few caller [] = omega arith
program_few caller (x ∷ xs) = let few = kept_few (x.caller == caller) x (program_of caller xs) (length xs) (program_few caller xs) in omega (arith, few)

-- WHAT A STEP ADDS

pub adds_one : (c : Configuration) (before own : List Step) (x : Step) (counts : List ℕ) (old new : List Deed) (d : Deed) → new ≡ old ++ d ∷ [] → deeds_by c own x.line x.caller x.kind ≡ d ∷ []
    → AreCounted (before ++ x ∷ []) counts → AddsDeed c before own x counts old new
adds_one c before own x counts old new d is by counted = record { deeds = is ∙ ap (λ ds. old ++ ds) (sym by); counted = counted }

pub counted_by : (before : List Step) (x : Step) (kind : StepKind) (counts : List ℕ) → x.kind ≡ kind → is_store kind ≡ false → AreCounted before counts → AreCounted (before ++ x ∷ []) counts
counted_by before x kind counts is none counted = same_counted before x counts (ap is_store is ∙ none) counted

pub stored_by : (before : List Step) (x : Step) (block : ℕ) (content : List ℕ) (counts : List ℕ) → x.kind ≡ Store block content → AreCounted before counts
    → AreCounted (before ++ x ∷ []) (slice_set counts block (get_or counts block 0 + 1))
stored_by before x block content counts is counted =
    subst (λ (k : StepKind). AreCounted (before ++ record { line = x.line; caller = x.caller; kind = k } ∷ []) (slice_set counts block (get_or counts block 0 + 1))) (sym is) (store_counted before x.line x.caller block content counts counted)

pub block_stored : (c : Configuration) (block : ℕ) (content : List ℕ) → sync_length_of c block ≡ Some (length content) → block < length c.blocks + 1
block_stored c zero content sync = absurd (cc sync)
block_stored c (suc i) content sync = let within : i < length c.blocks = stored_in c.blocks i (slice_get c.blocks i) content refl sync in omega arith
  where
    stored_in : (blocks : List BlockDesc) (i : ℕ) (o : Option BlockDesc) (content : List ℕ) → slice_get blocks i ≡ o → option_and_then (λ b. length_where_sync b.ram b.length) o ≡ Some (length content) → i < length blocks
    stored_in blocks i None content at sync = absurd (cc sync)
    stored_in blocks i (Some b) content at sync = slice_get_within blocks i b at

-- How a program grows, step by step.
use Rattle.std.specs.Prelude.{fold}
use Rattle.std.specs.List.{enumerate_from, All}
use Rattle.std.proofs.Common.{◌≡◌, ◌==◌, ◌+◌, ℕ, Bool, true, false, List, [], ◌∷◌, ◌++◌, length, refl, sym, ap, ◌∙◌, inl, inr, arith, Some, None, if◌then◌else◌, append-nil, append_assoc}
use Rattle.std.proofs.lemmas.Bool.{cases_Bool, eqb-true, eq-eqb}
use Rattle.std.proofs.lemmas.List.Elements.{All-append, All-cons, All-nil, All-head, All-tail, All-filter}
use Rattle.block_machine.specs.Words.{Request, Write, Configuration}
use Rattle.block_machine.specs.Blocks.{desc_of, is_synchronized}
use Rattle.block_machine.specs.Legal.{HasStore}
use Rattle.script_walks.specs.Words.{Step, StepKind, AskStep, Store, Turn, Drain, Restart, Cut, CutSecond, Refuse, Await}
use Rattle.script_walks.specs.Walk.{stores_of, last_store, request_after}
use Rattle.script_walks.specs.Callers.{program_of, request_of_step, requests_from}
use Rattle.script_callers.specs.declared.deed.Deed.{Deed}
use Rattle.script_callers.specs.declared.deed.Deed.TheVariants.{Ask, Store as StoreDeed, Await as AwaitDeed}
use Rattle.script_callers.specs.Deeds.{requests_in, deeds_by, deeds_from, deeds_of, MayDo}
use Rattle.script_callers.specs.RunScripts.{CanBeRun, IsRunBy}
use Rattle.script_callers.specs.Counting.{AreOf}
use Rattle.script_callers.specs.Laws.{DeedsHaveTheRequests, DeedsGrow, DeedsMayBeDone, LastStoresAreNewest}

-- ONE STEP MORE

-- those of more steps come behind
pub deeds_append : (c : Configuration) (before xs ys : List Step) → deeds_from c before (xs ++ ys) ≡ deeds_from c before xs ++ deeds_from c (before ++ xs) ys
deeds_append c before [] ys = ap (λ b. deeds_from c b ys) (sym (append-nil before))
deeds_append c before (x ∷ xs) ys =
    ap (λ ds. deeds_by c before x.line x.caller x.kind ++ ds)
    (deeds_append c (before ++ x ∷ []) xs ys ∙ ap (λ b. deeds_from c (before ++ x ∷ []) xs ++ deeds_from c b ys) (append_assoc before (x ∷ []) xs))
    ∙ sym (append_assoc (deeds_by c before x.line x.caller x.kind) (deeds_from c (before ++ x ∷ []) xs) (deeds_from c (before ++ x ∷ xs) ys))

pub deeds_grow : DeedsGrow
deeds_grow c before x = deeds_append c [] before (x ∷ []) ∙ ap (λ ds. deeds_of c before ++ ds) (append-nil (deeds_by c before x.line x.caller x.kind))

-- THE REQUESTS

pub requests_append : (ds es : List Deed) → requests_in (ds ++ es) ≡ requests_in ds ++ requests_in es
requests_append [] es = refl
requests_append (Ask line r ∷ ds) es = ap (λ rs. r ∷ rs) (requests_append ds es)
requests_append (StoreDeed line block number content ∷ ds) es = requests_append ds es
requests_append (AwaitDeed line block ∷ ds) es = requests_append ds es

requests_by : (c : Configuration) (before : List Step) (line caller : ℕ) (kind : StepKind) → requests_in (deeds_by c before line caller kind) ≡ request_of_step c before caller kind
requests_by c before line caller (AskStep r) = refl
requests_by c before line caller kind = refl

have_from : (c : Configuration) (before xs : List Step) → requests_in (deeds_from c before xs) ≡ requests_from c before xs
have_from c before [] = refl
have_from c before (x ∷ xs) =
    requests_append (deeds_by c before x.line x.caller x.kind) (deeds_from c (before ++ x ∷ []) xs)
    ∙ ap (λ rs. rs ++ requests_in (deeds_from c (before ++ x ∷ []) xs)) (requests_by c before x.line x.caller x.kind)
    ∙ ap (λ rs. request_of_step c before x.caller x.kind ++ rs) (have_from c (before ++ x ∷ []) xs)

pub deeds_have_the_requests : DeedsHaveTheRequests
deeds_have_the_requests c steps = have_from c [] steps

-- WHAT MAY BE DONE

has_store : (c : Configuration) (before : List Step) (caller : ℕ) (r : Request) → CanBeRun c (AskStep r) → HasStore c (request_after c before caller r)
has_store c before caller (Write block None store) can =
    elim (cases_Bool (is_synchronized (desc_of c block).ram)) [ inl sync ↦ inl sync | inr other ↦ rw other (inr refl) ]
has_store c before caller (Write block (Some bytes) store) can = can
has_store c before caller r can = tt

may_by : (c : Configuration) (before : List Step) (line caller : ℕ) (kind : StepKind) → CanBeRun c kind → All (MayDo c) (deeds_by c before line caller kind)
may_by c before line caller (AskStep r) can = All-cons (MayDo c) _ [] (has_store c before caller r can) (All-nil (MayDo c))
may_by c before line caller (Store block content) can = All-cons (MayDo c) _ [] can (All-nil (MayDo c))
may_by c before line caller (Await block) can = All-cons (MayDo c) _ [] can (All-nil (MayDo c))
may_by c before line caller (Turn count) can = absurd can
may_by c before line caller Drain can = absurd can
may_by c before line caller Restart can = absurd can
may_by c before line caller (Cut nth keep) can = absurd can
may_by c before line caller (CutSecond nth keep) can = absurd can
may_by c before line caller (Refuse block count) can = absurd can

may_from : (c : Configuration) (before xs : List Step) → All (IsRunBy c) xs → All (MayDo c) (deeds_from c before xs)
may_from c before [] run = All-nil (MayDo c)
may_from c before (x ∷ xs) run =
    All-append (MayDo c) (deeds_by c before x.line x.caller x.kind) (deeds_from c (before ++ x ∷ []) xs) (may_by c before x.line x.caller x.kind (All-head (IsRunBy c) x xs run).kind)
    (may_from c (before ++ x ∷ []) xs (All-tail (IsRunBy c) x xs run))

pub deeds_may_be_done : DeedsMayBeDone
deeds_may_be_done c steps caller run = may_from c [] (program_of caller steps) (All-filter (λ x. x.caller == caller) (IsRunBy c) steps run.each)

-- ONE CALLER

of_if : (caller : ℕ) (b : Bool) (x : Step) (ys : List Step) → (x.caller == caller) ≡ b → AreOf caller ys → AreOf caller (if b then x ∷ ys else ys)
of_if caller true x ys is of = (eqb-true x.caller caller is, of)
of_if caller false x ys is of = of

pub program_is_of : (caller : ℕ) (steps : List Step) → AreOf caller (program_of caller steps)
program_is_of caller [] = tt
program_is_of caller (x ∷ xs) = of_if caller (x.caller == caller) x (program_of caller xs) refl (program_is_of caller xs)

-- stores of one caller
AreStoresOf : ℕ → List (ℕ × List ℕ) → Type 0
AreStoresOf caller [] = Unit {0}
AreStoresOf caller (x ∷ xs) = (x.0 ≡ caller) × AreStoresOf caller xs

of_kind : (id caller line who : ℕ) (kind : StepKind) (xs : List Step) → who ≡ caller → AreStoresOf caller (stores_of id xs)
    → AreStoresOf caller (stores_of id (record { line = line; caller = who; kind = kind } ∷ xs))
unfolding AreStoresOf
of_kind id caller line who (Store block content) xs same of = elim (cases_Bool (block == id)) [ inl own ↦ rw own (same, of) | inr other ↦ rw other of ]
of_kind id caller line who (AskStep r) xs same of = of
of_kind id caller line who (Turn count) xs same of = of
of_kind id caller line who Drain xs same of = of
of_kind id caller line who Restart xs same of = of
of_kind id caller line who (Cut nth keep) xs same of = of
of_kind id caller line who (CutSecond nth keep) xs same of = of
of_kind id caller line who (Refuse block count) xs same of = of
of_kind id caller line who (Await block) xs same of = of

stores_are_of : (id caller : ℕ) (xs : List Step) → AreOf caller xs → AreStoresOf caller (stores_of id xs)
unfolding AreStoresOf
stores_are_of id caller [] of = tt
stores_are_of id caller (x ∷ xs) of = of_kind id caller x.line x.caller x.kind xs of.0 (stores_are_of id caller xs of.1)

-- the number of the newest, counted from n
newest : ℕ → ℕ → List (ℕ × List ℕ) → ℕ
newest n last [] = last
newest n last (x ∷ xs) = n + length xs

newest_next : (n : ℕ) (xs : List (ℕ × List ℕ)) → newest (n + 1) n xs ≡ n + length xs
unfolding newest
newest_next n [] = omega arith
newest_next n (x ∷ xs) = omega arith

last_from : (caller n last : ℕ) (xs : List (ℕ × List ℕ)) → AreStoresOf caller xs
    → fold (λ last x. if x.1.0 == caller then x.0 else last) last (enumerate_from n xs) ≡ newest n last xs
unfolding AreStoresOf newest
last_from caller n last [] of = refl
last_from caller n last (x ∷ xs) of =
    let own : (x.0 == caller) ≡ true = eq-eqb x.0 caller of.0 in
    ap (λ m. fold (λ last x. if x.1.0 == caller then x.0 else last) m (enumerate_from (n + 1) xs)) (ap (λ (b : Bool). if b then n else last) own)
    ∙ last_from caller (n + 1) n xs of.1 ∙ newest_next n xs

newest_all : (xs : List (ℕ × List ℕ)) → newest 1 0 xs ≡ length xs
unfolding newest
newest_all [] = refl
newest_all (x ∷ xs) = omega arith

pub last_of : (caller id : ℕ) (before : List Step) → AreOf caller before → last_store caller id before ≡ length (stores_of id before)
last_of caller id before of = last_from caller 1 0 (stores_of id before) (stores_are_of id caller before of) ∙ newest_all (stores_of id before)

pub last_stores_are_newest : LastStoresAreNewest
last_stores_are_newest caller block steps = last_of caller block (program_of caller steps) (program_is_of caller steps)

-- How histories grow, and what a request changes.
use Rattle.std.specs.List.{list_any}
use Rattle.std.proofs.Common.{◌≡◌, ◌≢◌, ℕ, ◌+◌, Bool, true, false, List, [], ◌∷◌, ◌++◌, length, refl, ap, arith, Option, Some, None}
use Rattle.std.proofs.lemmas.Bool.{or_right}
use Rattle.std.proofs.lemmas.List.{get_or-set_other}
use Rattle.block_machine.specs.Words.{Pending, Request, SetIndex, SetProtection, SetLock, SetRam, PutRam, ReadAll, WriteAll, Accepted, Refused, StatusIs, IndexIs, Entry, Configuration, JobKind}
use Rattle.block_machine.specs.State.{State, BlockState}
use Rattle.block_machine.specs.Blocks.{block_at, no_block, asked_block, job_kind}
use Rattle.block_machine.specs.StartUp.{at_first}
use Rattle.block_machine.specs.Steps.{step, after, after_from, accepted_by, changed, with_block}
use Rattle.block_machine.specs.Legal.{IsAllowed, IsLegalFrom}
use Rattle.block_machine.specs.History.{is_driver_until, up_to}
use Rattle.block_laws.specs.Laws.{HistoriesStep, HistoriesGoOn, HistoriesStayLegal, BeginningsAreLegal, EntriesAreCounted, AsksAreLocal, LateEntriesAreCutOff, EarlyEntriesAreKept, UpToIsABeginning, SumsGrow}

pub after_push : (c : Configuration) (s : State) (es : List Entry) (e : Entry) → after_from c s (es ++ e ∷ []) ≡ step c (after_from c s es) e
after_push c s [] e = refl
after_push c s (x ∷ es) e = after_push c (step c s x) es e

pub legal_push : (c : Configuration) (cap : ℕ) (s : State) (es : List Entry) (e : Entry) → IsLegalFrom c cap s es → IsAllowed c cap (after_from c s es) e → IsLegalFrom c cap s (es ++ e ∷ [])
legal_push c cap s [] e legal allowed = (allowed, tt)
legal_push c cap s (x ∷ es) e legal allowed = (legal.0, legal_push c cap (step c s x) es e legal.1 allowed)

pub count_after : (c : Configuration) (s : State) (es : List Entry) → (after_from c s es).count ≡ s.count + length es
count_after c s [] = omega arith
count_after c s (e ∷ es) = let rest : (after_from c (step c s e) es).count ≡ s.count + 1 + length es = count_after c (step c s e) es in omega (arith, rest)

pub histories_step : HistoriesStep
histories_step c h e = after_push c at_first h e

pub histories_stay_legal : HistoriesStayLegal
histories_stay_legal c cap h e = legal_push c cap at_first h e

pub entries_are_counted : EntriesAreCounted
entries_are_counted c h = let count : (after c h).count ≡ 0 + length h = count_after c at_first h in omega (arith, count)

pub histories_go_on : HistoriesGoOn
histories_go_on c s [] more = refl
histories_go_on c s (x ∷ es) more = histories_go_on c (step c s x) es more

legal_beginning : (c : Configuration) (cap : ℕ) (s : State) (es more : List Entry) → IsLegalFrom c cap s (es ++ more) → IsLegalFrom c cap s es
legal_beginning c cap s [] more legal = tt
legal_beginning c cap s (x ∷ es) more legal = (legal.0, legal_beginning c cap (step c s x) es more legal.1)

pub beginnings_are_legal : BeginningsAreLegal
beginnings_are_legal c cap h more = legal_beginning c cap at_first h more

pub sums_grow : SumsGrow
sums_grow c price s [] e = omega arith
sums_grow c price s (x ∷ es) e = let rest = sums_grow c price (step c s x) es e in omega (arith, rest)

-- ASKS

other_block : (s : State) (id : ℕ) (change : BlockState → BlockState) (j : ℕ) → j ≢ id → block_at (with_block id change s) j ≡ block_at s j
other_block s id change j other = get_or-set_other s.blocks id j (change (block_at s id)) no_block other

changed_local : (c : Configuration) (s : State) (r : Request) → ((changed c s r).instances ≡ s.instances) × ((id : ℕ) → id ≢ asked_block r → block_at (changed c s r) id ≡ block_at s id)
changed_local c s (SetIndex block index) = (refl, other_block s block (λ b. record b { index = index }))
changed_local c s (SetProtection block on) = (refl, other_block s block (λ b. record b { protected = on }))
changed_local c s (SetLock block on) = (refl, other_block s block (λ b. record b { locked = on }))
changed_local c s (SetRam block on) = (refl, other_block s block (λ b. record b { valid = on; changed = on }))
changed_local c s (PutRam block content) = (refl, other_block s block (λ b. record b { ram = content }))
changed_local c s ReadAll = (refl, other_block s 0 (λ b. record b { status = Pending }))
changed_local c s WriteAll = (refl, other_block s 0 (λ b. record b { status = Pending }))
changed_local c s r = (refl, λ id other. refl)

accepted_local : (c : Configuration) (s : State) (r : Request) (kind : Option JobKind) → ((accepted_by c s r kind).instances ≡ s.instances) × ((id : ℕ) → id ≢ asked_block r → block_at (accepted_by c s r kind) id ≡ block_at s id)
accepted_local c s r (Some kind) = (refl, other_block s (asked_block r) (λ b. record b { status = Pending }))
accepted_local c s r None = changed_local c s r

pub asks_are_local : AsksAreLocal
asks_are_local c s caller r Accepted = accepted_local c s r (job_kind r)
asks_are_local c s caller r (Refused refusal) = (refl, λ id other. refl)
asks_are_local c s caller r (StatusIs status) = (refl, λ id other. refl)
asks_are_local c s caller r (IndexIs index) = (refl, λ id other. refl)

-- THE HISTORY UP TO AN OPERATION

any_late : (k : ℕ) (h : List Entry) (e : Entry) → is_driver_until k e ≡ false → list_any (is_driver_until k) (h ++ e ∷ []) ≡ list_any (is_driver_until k) h
any_late k [] e late = rw late refl
any_late k (x ∷ h) e late = rw (any_late k h e late) refl

any_early : (k : ℕ) (h : List Entry) (e : Entry) → is_driver_until k e ≡ true → list_any (is_driver_until k) (h ++ e ∷ []) ≡ true
any_early k [] e early = rw early refl
any_early k (x ∷ h) e early = rw (any_early k h e early) (or_right (is_driver_until k x) true refl)

pub late_entries_are_cut_off : LateEntriesAreCutOff
late_entries_are_cut_off k [] e late = rw late refl
late_entries_are_cut_off k (x ∷ h) e late = rw (any_late k h e late, late_entries_are_cut_off k h e late) refl

pub early_entries_are_kept : EarlyEntriesAreKept
early_entries_are_kept k [] e early = rw early refl
early_entries_are_kept k (x ∷ h) e early = rw (any_early k h e early, or_right (is_driver_until k x) true refl, early_entries_are_kept k h e early) refl

beginning_by : (k : ℕ) (x : Entry) (h : List Entry) (b : Bool) → list_any (is_driver_until k) (x ∷ h) ≡ b → ((more : List Entry) × (h ≡ up_to k h ++ more)) → (more : List Entry) × (x ∷ h ≡ up_to k (x ∷ h) ++ more)
beginning_by k x h true is rest = rw is (rest.0, ap (λ es. x ∷ es) rest.1)
beginning_by k x h false is rest = rw is (x ∷ h, refl)

pub up_to_is_a_beginning : UpToIsABeginning
up_to_is_a_beginning k [] = ([], refl)
up_to_is_a_beginning k (x ∷ h) = beginning_by k x h (list_any (is_driver_until k) (x ∷ h)) refl (up_to_is_a_beginning k h)

-- The refused copies of which Posts tell were asked for.
use Rattle.std.specs.Prelude.{◌==◌, take, sum_by, if◌then◌else◌}
use Rattle.std.specs.Option.{option_map_or}
use Rattle.std.proofs.Common.{◌≡◌, ◌≢◌, ◌≤◌, ◌+◌, ◌⊎◌, ℕ, zero, suc, Bool, true, false, List, [], ◌∷◌, ◌++◌, length, Option, Some, None, refl, sym, ap, ◌∙◌, subst, inl, inr, arith}
use Rattle.std.proofs.lemmas.Bool.Decides.{eqb_tells, leb_tells}
use Rattle.std.proofs.lemmas.List.Sums.{sum_by-cons}
use Rattle.block_machine.specs.Words.{ReqResult, Instance, Mark, Request, SetIndex, SetProtection, SetLock, SetRam, PutRam, ReadAll, WriteAll, CancelWriteAll, Reply, Accepted, JobKind, Taken, TookNothing, TookContent, TookRefused, TookStale, Entry, Ask, Pick, Wrote, Post, Off, Found, Configuration}
use Rattle.block_machine.specs.State.{State, Job}
use Rattle.block_machine.specs.Blocks.{desc_of, job_block, job_kind}
use Rattle.block_machine.specs.StartUp.{at_first}
use Rattle.block_machine.specs.Prices.{refused_copies, price_in_refusals, block_price, sum_from}
use Rattle.block_machine.specs.Legal.{IsAllowed, IsLegalFrom, MayPick, MayPost}
use Rattle.block_machine.specs.Next.{Next, Nothing, PickJob, BeginSweep, PickMember, PostMember, EndSweep, next_of}
use Rattle.block_machine.specs.Steps.{step, after_from, asked, accepted_by, changed, picked, wrote, posted, posted_next}
use Rattle.script_walks.specs.Words.{Step, StepKind, AskStep, Store, Turn, Drain, Restart, Cut, CutSecond, Refuse, Await}
use Rattle.script_walks.specs.Walk.{joined}
use Rattle.promise_run.specs.Refusals.{copied_out, copied_in, copy_told, IsAsAsked, left_by, AreAsAsked, StepsRefuse, asked_by}
use Rattle.promise_run.specs.RefusalLaws.{refusals_of, RefusalsArePaid}

-- THE COPIES OF WHICH THE JOB IN HAND MAY TELL

abbrev untold_of : ℕ → Option Job → ℕ
untold_of id hand = option_map_or (λ (j : Job). if job_block j == id then refused_copies j.taken else 0) hand 0

fewer_left : (tries left : ℕ) (copy : Option ℕ) → left_by tries left copy ≤ left
fewer_left tries left None = omega arith
fewer_left tries left (Some n) = omega arith

-- refused copies were left, and are taken off
taken_off : (tries left n : ℕ) → IsAsAsked tries left (Some n) → n + left_by tries left (Some n) ≤ left
taken_off tries left n is = elim (leb_tells tries left) [
  | inl all ↦ (let count : n ≡ tries = is ∙ rw all.0 refl in let enough = all.1 in omega (arith, count, enough))
  | inr few ↦ (let none : n ≡ 0 = is ∙ rw few.0 refl in omega (arith, none))
]

-- ASK

changed_hand : (c : Configuration) (s : State) (r : Request) → (changed c s r).hand ≡ s.hand
changed_hand c s (SetIndex block index) = refl
changed_hand c s (SetProtection block on) = refl
changed_hand c s (SetLock block on) = refl
changed_hand c s (SetRam block on) = refl
changed_hand c s (PutRam block content) = refl
changed_hand c s ReadAll = refl
changed_hand c s WriteAll = refl
changed_hand c s CancelWriteAll = refl
changed_hand c s r = refl

accepted_hand : (c : Configuration) (s : State) (r : Request) (kind : Option JobKind) → (accepted_by c s r kind).hand ≡ s.hand
accepted_hand c s r (Some kind) = refl
accepted_hand c s r None = changed_hand c s r

asked_hand : (c : Configuration) (s : State) (r : Request) (reply : Reply) → (asked c s r reply).hand ≡ s.hand
asked_hand c s r Accepted = accepted_hand c s r (job_kind r)
asked_hand c s r reply = refl

-- PICK

-- behind the Pick of a block the job in hand is on it, and took this; that of a request on all blocks leaves the hand
record Holds (block : ℕ) (t : Taken) (before after : Option Job) : Type 0 where
  which : ((j : Job) × (after ≡ Some j) × (job_block j ≡ block) × (j.taken ≡ Some t)) ⊎ (after ≡ before)

pick_holds : (c : Configuration) (s : State) (block : ℕ) (kind : JobKind) (t : Taken) (n : Next) → MayPick c s block kind t n → Holds block t s.hand (picked c s t n).hand
pick_holds c s block kind t (PickJob j) may = record { which = inl (_, refl, sym may.same_block, refl) }
pick_holds c s block kind t (PickMember sw id) may = record { which = inl (_, refl, sym may.same_block, refl) }
pick_holds c s block kind t (BeginSweep sw) may = record { which = inr refl }
pick_holds c s block kind t (PostMember sw id) may = absurd may
pick_holds c s block kind t (EndSweep sw) may = absurd may
pick_holds c s block kind t Nothing may = absurd may

-- those that it tells were left
out_paid : (copies : Bool) (tries left : ℕ) (t : Taken) → IsAsAsked tries left (copied_out copies t) → refused_copies (Some t) + left_by tries left (copied_out copies t) ≤ left
out_paid copies tries left (TookRefused count) is = taken_off tries left count is
out_paid copies tries left (TookStale wanted got count) is = omega arith
out_paid true tries left (TookContent bytes number) is = omega arith
out_paid false tries left (TookContent bytes number) is = omega arith
out_paid copies tries left TookNothing is = omega arith

pick_paid : (id block tries left : ℕ) (copies : Bool) (t : Taken) (before after : Option Job) → Holds block t before after
    → IsAsAsked tries left (if block == id then copied_out copies t else None)
    → left_by tries left (if block == id then copied_out copies t else None) + untold_of id after ≤ left + untold_of id before
pick_paid id block tries left copies t before after holds is = by (eqb_tells block id) holds.which
  where
    few : left_by tries left (if block == id then copied_out copies t else None) ≤ left
    few = fewer_left tries left (if block == id then copied_out copies t else None)

    by : (((block == id) ≡ true) × (block ≡ id)) ⊎ (((block == id) ≡ false) × (block ≢ id)) → ((j : Job) × (after ≡ Some j) × (job_block j ≡ block) × (j.taken ≡ Some t)) ⊎ (after ≡ before)
        → left_by tries left (if block == id then copied_out copies t else None) + untold_of id after ≤ left + untold_of id before
    by which (inr same) = let as_many = ap (untold_of id) same in omega (arith, as_many, few)
    by (inl own) (inl (j, now, on, took)) =
        let told : untold_of id after ≡ refused_copies (Some t) = ap (untold_of id) now ∙ ap (λ (k : ℕ). if k == id then refused_copies j.taken else 0) on
        ∙ ap (λ (b : Bool). if b then refused_copies j.taken else 0) own.0 ∙ ap refused_copies took in
        let paid = out_paid copies tries left t (subst (λ (b : Bool). IsAsAsked tries left (if b then copied_out copies t else None)) own.0 is) in
        let same = ap (λ (b : Bool). left_by tries left (if b then copied_out copies t else None)) own.0 in omega (arith, told, paid, same)
    by (inr other) (inl (j, now, on, took)) =
        let told : untold_of id after ≡ 0 = ap (untold_of id) now ∙ ap (λ (k : ℕ). if k == id then refused_copies j.taken else 0) on
        ∙ ap (λ (b : Bool). if b then refused_copies j.taken else 0) other.0 in omega (arith, told, few)

-- POST

next_hand : (c : Configuration) (s : State) (r : ReqResult) (given : Option (List ℕ)) (n : Next) → (posted_next c s r given n).hand ≡ s.hand
next_hand c s r given (PostMember sw id) = refl
next_hand c s r given (EndSweep sw) = refl
next_hand c s r given (PickJob j) = refl
next_hand c s r given (PickMember sw id) = refl
next_hand c s r given (BeginSweep sw) = refl
next_hand c s r given Nothing = refl

posted_hand : (c : Configuration) (s : State) (r : ReqResult) (given : Option (List ℕ)) (h : Option Job) → s.hand ≡ h → (posted c s r given h).hand ≡ None
posted_hand c s r given None is = next_hand c s r given (next_of c s) ∙ is
posted_hand c s r given (Some j) is = refl

-- what a Post without refused copies of its own tells of
last_told : (c : Configuration) (s : State) (block ops : ℕ) (r : ReqResult) (given : Option (List ℕ)) (h : Option Job) → s.hand ≡ h → MayPost c s block (r, given) 0 h
    → price_in_refusals s (Post block r given 0 ops) ≤ untold_of block s.hand
last_told c s block ops r given None is may = rw is (omega arith)
last_told c s block ops r given (Some j) is may = rw is (by (eqb_tells (job_block j) block))
  where
    by : (((job_block j == block) ≡ true) × (job_block j ≡ block)) ⊎ (((job_block j == block) ≡ false) × (job_block j ≢ block))
        → refused_copies j.taken ≤ (if job_block j == block then refused_copies j.taken else 0)
    by (inl own) = rw own.0 (omega arith)
    by (inr other) = absurd (other.1 (sym may.same_block))

post_paid : (c : Configuration) (s : State) (id block refused ops tries left : ℕ) (ram : Bool) (r : ReqResult) (given : Option (List ℕ)) → MayPost c s block (r, given) refused s.hand
    → IsAsAsked tries left (if block == id then copied_in ram given refused else None)
    → block_price id s (Post block r given refused ops) + left_by tries left (if block == id then copied_in ram given refused else None) ≤ left + untold_of id s.hand
post_paid c s id block refused ops tries left ram r given may is = by (eqb_tells block id)
  where
    own_paid : (n : ℕ) → MayPost c s block (r, given) n s.hand → IsAsAsked tries left (copied_in ram given n)
        → price_in_refusals s (Post block r given n ops) + left_by tries left (copied_in ram given n) ≤ left + untold_of block s.hand
    own_paid zero can asked =
        let told = last_told c s block ops r given s.hand refl can in
        let few = fewer_left tries left (copied_in ram given 0) in omega (arith, told, few)
    own_paid (suc n) can asked = let paid = taken_off tries left (suc n) asked in omega (arith, paid)

    by : (((block == id) ≡ true) × (block ≡ id)) ⊎ (((block == id) ≡ false) × (block ≢ id))
        → block_price id s (Post block r given refused ops) + left_by tries left (if block == id then copied_in ram given refused else None) ≤ left + untold_of id s.hand
    by (inl own) =
        let paid = own_paid refused may (subst (λ (b : Bool). IsAsAsked tries left (if b then copied_in ram given refused else None)) own.0 is) in
        let at = ap (λ (k : ℕ). untold_of k s.hand) own.1 in
        rw own.0 (omega (arith, paid, at))
    by (inr other) = rw other.0 (omega arith)

-- WROTE

wrote_hand : (s : State) (i : Instance) (mark : Mark) (h : Option Job) (id : ℕ) → s.hand ≡ h → untold_of id (wrote s i mark h).hand ≡ untold_of id h
wrote_hand s i mark None id is = ap (untold_of id) is
wrote_hand s i mark (Some j) id is = refl

-- ENTRIES

one_paid : (c : Configuration) (cap id : ℕ) (s : State) (left : ℕ) (e : Entry) → IsAllowed c cap s e → IsAsAsked ((desc_of c id).repeats + 1) left (copy_told c id s e)
    → block_price id s e + left_by ((desc_of c id).repeats + 1) left (copy_told c id s e) + untold_of id (step c s e).hand ≤ left + untold_of id s.hand
one_paid c cap id s left (Ask caller r reply) may is = let same = ap (untold_of id) (asked_hand c s r reply) in omega (arith, same)
one_paid c cap id s left (Pick block kind t ops) may is =
    let paid = pick_paid id block ((desc_of c id).repeats + 1) left _ t s.hand (picked c s t (next_of c s)).hand (pick_holds c s block kind t (next_of c s) may.1) is in omega (arith, paid)
one_paid c cap id s left (Wrote i mark ops) may is = let same = wrote_hand s i mark s.hand id refl in omega (arith, same)
one_paid c cap id s left (Post block r given refused ops) may is =
    let paid = post_paid c s id block refused ops ((desc_of c id).repeats + 1) left _ r given may.1 is in
    let none = ap (untold_of id) (posted_hand c s r given s.hand refl) in omega (arith, paid, none)
one_paid c cap id s left (Off ops) may is = omega arith
one_paid c cap id s left (Found marks ops) may is = omega arith

entries_paid : (c : Configuration) (cap id : ℕ) (s : State) (left : ℕ) (es : List Entry) (behind : ℕ) → IsLegalFrom c cap s es → AreAsAsked c id s left es behind
    → sum_from c (block_price id) s es + behind + untold_of id (after_from c s es).hand ≤ left + untold_of id s.hand
entries_paid c cap id s left [] behind legal is = omega (arith, is)
entries_paid c cap id s left (e ∷ es) behind legal is =
    let one = one_paid c cap id s left e legal.0 is.0 in
    let more = entries_paid c cap id (step c s e) (left_by ((desc_of c id).repeats + 1) left (copy_told c id s e)) es behind legal.1 is.1 in omega (arith, one, more)

legal_front : (c : Configuration) (cap : ℕ) (s : State) (es more : List Entry) → IsLegalFrom c cap s (es ++ more) → IsLegalFrom c cap s es × IsLegalFrom c cap (after_from c s es) more
legal_front c cap s [] more legal = (tt, legal)
legal_front c cap s (e ∷ es) more legal = let rest = legal_front c cap (step c s e) es more legal.1 in ((legal.0, rest.0), rest.1)

sum_more : (c : Configuration) (price : State → Entry → ℕ) (s : State) (es more : List Entry) → sum_from c price s (es ++ more) ≡ sum_from c price s es + sum_from c price (after_from c s es) more
sum_more c price s [] more = omega arith
sum_more c price s (e ∷ es) more = let rest = sum_more c price (step c s e) es more in omega (arith, rest)

-- STEPS

asked_more : (id left : ℕ) (kind : StepKind) → asked_by id kind left ≤ left + refusals_of id kind
asked_more id left (Refuse block count) = by (eqb_tells block id)
  where
    by : (((block == id) ≡ true) × (block ≡ id)) ⊎ (((block == id) ≡ false) × (block ≢ id)) → asked_by id (Refuse block count) left ≤ left + refusals_of id (Refuse block count)
    by (inl own) = rw own.0 (omega arith)
    by (inr other) = rw other.0 (omega arith)
asked_more id left (AskStep r) = omega arith
asked_more id left (Store block content) = omega arith
asked_more id left (Turn count) = omega arith
asked_more id left Drain = omega arith
asked_more id left Restart = omega arith
asked_more id left (Cut nth keep) = omega arith
asked_more id left (CutSecond nth keep) = omega arith
asked_more id left (Await block) = omega arith

steps_paid : (c : Configuration) (cap id : ℕ) (s : State) (left : ℕ) (xs : List Step) (ps : List (List Entry)) (behind : ℕ) → length ps ≡ length xs → IsLegalFrom c cap s (joined ps)
    → StepsRefuse c id s left xs ps behind → (n : ℕ) → sum_from c (block_price id) s (joined (take n ps)) ≤ left + untold_of id s.hand + sum_by (λ (x : Step). refusals_of id x.kind) (take n xs)
steps_paid c cap id s left [] [] behind same legal is zero = omega arith
steps_paid c cap id s left [] [] behind same legal is (suc n) = omega arith
steps_paid c cap id s left [] (q ∷ qs) behind same legal is n = absurd (omega (arith, same))
steps_paid c cap id s left (x ∷ xs) [] behind same legal is n = absurd (omega (arith, same))
steps_paid c cap id s left (x ∷ xs) (p ∷ ps) behind same legal (next, here, more) zero = omega arith
steps_paid c cap id s left (x ∷ xs) (p ∷ ps) behind same legal (next, here, more) (suc n) =
    let (own, rest) = legal_front c cap s p (joined ps) legal in
    let piece = entries_paid c cap id s (asked_by id x.kind left) p next own here in
    let asked = asked_more id left x.kind in
    let later = steps_paid c cap id (after_from c s p) next xs ps behind (omega (arith, same)) rest more n in
    let sum = sum_more c (block_price id) s p (joined (take n ps)) in
    let steps = sum_by-cons (λ (y : Step). refusals_of id y.kind) x (take n xs) in omega (arith, piece, asked, later, sum, steps)

-- the first entry is a start-up, since nothing else may come before one
first_free : (c : Configuration) (cap id : ℕ) (e : Entry) → IsAllowed c cap at_first e → (block_price id at_first e ≡ 0) × (untold_of id (step c at_first e).hand ≡ 0)
first_free c cap id (Found marks ops) may = (refl, refl)
first_free c cap id (Ask caller r reply) may = let started = may.started in cc started
first_free c cap id (Pick block kind t ops) may = let started = may.0.started in cc started
first_free c cap id (Wrote i mark ops) may = let started = may.0.started in cc started
first_free c cap id (Post block r given refused ops) may = let started = may.0.started in cc started
first_free c cap id (Off ops) may = let started = may.started in cc started

pub refusals_are_paid : RefusalsArePaid
refusals_are_paid c cap id first made left pieces same legal (behind, is) n =
    let (price, none) = first_free c cap id first legal.0 in
    let paid = steps_paid c cap id (step c at_first first) 0 made pieces behind same legal.1 is n in omega (arith, price, none, paid)

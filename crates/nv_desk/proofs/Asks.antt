-- What an accepted request has passed.
use Rattle.std.proofs.Common.{◌≡◌, ◌≢◌, ℕ, ◌==◌, ◌+◌, ◌≤◌, ◌||◌, not, Bool, true, false, cond, List, [], ◌∷◌, refl, sym, Option, Some, None, is_some, find, nat_le, nat_lt, length, get_or, ap, ◌∙◌, IfSome}
use Rattle.std.specs.Option.{option_map_or}
use Rattle.std.proofs.lemmas.Bool.{ltb-false, eq-eqb, eqb-true, not-false, or_parts, or_right}
use Rattle.block_machine.specs.Words.{Configuration, Entry, Request, Read, Write, Restore, Erase, Invalidate, PutRam, ReadAll, WriteAll, Reply, Accepted, Refused, Refusal, RamKind, NoRamBlock, Permanent, Sync}
use Rattle.block_machine.specs.State.{State}
use Rattle.block_machine.specs.Blocks.{asked_block, asked_content, job_kind, desc_of, is_immediate, is_pending, is_permanent, is_synchronized, names_ram, status_of}
use Rattle.block_machine.specs.Reply.{reply_of, is_queue_full, holds, tested, answer_to, fits, needed, reserved_entries, has_no_ram}
use Rattle.block_machine.specs.Steps.{after}
use Rattle.block_laws.proofs.HistoryLaws.{entries_are_counted}
use Rattle.block_states.specs.States.{rooms_of}
use Rattle.block_states.proofs.Started.{rooms_have_lengths}
use Rattle.nv_desk.specs.Asks.{IsJobAccepted, IsSweepAccepted}
use Rattle.nv_desk.specs.Desk.{sweep_request}
use Rattle.nv_desk.specs.Sound.{HasRam}

-- none of these passes the test
abbrev NonePass : {X : Type 0} → (X → Bool) → List X → Type 0
NonePass test [] = Unit {0}
NonePass test (x ∷ xs) = (test x ≡ false) × NonePass test xs

by_first : {X : Type 0} (x : X) (t : Bool) (rest : Option X) → cond t (Some x) rest ≡ None → (t ≡ false) × (rest ≡ None)
by_first x true rest none = cc
by_first x false rest none = (refl, none)

none_pass : {X : Type 0} (test : X → Bool) (xs : List X) → find test xs ≡ None → NonePass test xs
none_pass test [] none = tt
none_pass test (x ∷ xs) none = let (here, rest) = by_first x (test x) (find test xs) none in (here, none_pass test xs rest)

none_refused : (o : Option Refusal) (d : Reply) → option_map_or Refused o d ≡ Accepted → o ≡ None
none_refused None d e = refl
none_refused (Some x) d e = cc

passed : (c : Configuration) (cap : ℕ) (s : State) (r : Request) → Accepted ≡ reply_of c cap s r → NonePass (λ x. holds c cap s x r) (tested r)
passed c cap s r is = none_pass (λ x. holds c cap s x r) (tested r) (none_refused (find (λ x. holds c cap s x r) (tested r)) (answer_to s r) (sym is))

length_is : (a b : ℕ) → not (a == b) ≡ false → a ≡ b
length_is a b e = eqb-true a b (not-false (a == b) e)

-- a block that isn't without RAM has one
kept_or_shared : (ram : RamKind) (t : Bool) → has_no_ram ram ≡ false → ((t || is_permanent ram) || is_synchronized ram) ≡ true
kept_or_shared NoRamBlock t some = cc
kept_or_shared ram true some = refl
kept_or_shared Permanent false some = refl
kept_or_shared Sync false some = refl

pub has_ram : (c : Configuration) (id : ℕ) → has_no_ram (desc_of c id).ram ≡ false → HasRam c id
has_ram c id some = kept_or_shared (desc_of c id).ram (id == 1) some

by_parts : (c : Configuration) (cap : ℕ) (s : State) (r : Request) → ((asked_block r == 0) || nat_lt (length c.blocks) (asked_block r)) ≡ false
    → IfSome (asked_content r) (λ x. length x.0 ≡ (desc_of c (asked_block r)).length) → (names_ram r ≡ true → HasRam c (asked_block r))
    → is_pending (status_of s 0) ≡ false → is_pending (status_of s (asked_block r)) ≡ false → is_queue_full c s.waiting (is_immediate c r) ≡ false
    → not (fits c cap s (1 + needed c r)) ≡ false
    → IsJobAccepted c cap s r
by_parts c cap s r known content ram alone free queue room =
    record { known = known; content = content; ram = ram; alone = alone; free = free; queue = queue; room = not-false (fits c cap s (1 + needed c r)) room }

pub job_accepted : (c : Configuration) (cap : ℕ) (s : State) (r : Request) → is_some (job_kind r) ≡ true → Accepted ≡ reply_of c cap s r
    → IsJobAccepted c cap s r
job_accepted c cap s (Read block false) job is = let p = passed c cap s (Read block false) is in
    by_parts c cap s (Read block false) p.0 tt (λ e. cc) p.1.1.0 p.1.1.1.0 p.1.1.1.1.0 p.1.1.1.1.1.0
job_accepted c cap s (Read block true) job is = let p = passed c cap s (Read block true) is in
    by_parts c cap s (Read block true) p.0 tt (λ e. has_ram c block p.1.1.0) p.1.1.1.0 p.1.1.1.1.0 p.1.1.1.1.1.0 p.1.1.1.1.1.1.0
job_accepted c cap s (Write block (Some content) store) job is = let p = passed c cap s (Write block (Some content) store) is in
    by_parts c cap s (Write block (Some content) store) p.0 (length_is (length content) (desc_of c block).length p.1.1.1.0) (λ e. cc) p.1.1.1.1.0 p.1.1.1.1.1.0 p.1.1.1.1.1.1.1.1.1.0 p.1.1.1.1.1.1.1.1.1.1.0
job_accepted c cap s (Write block None store) job is = let p = passed c cap s (Write block None store) is in
    by_parts c cap s (Write block None store) p.0 tt (λ e. has_ram c block p.1.1.1.0) p.1.1.1.1.0 p.1.1.1.1.1.0 p.1.1.1.1.1.1.1.1.1.0 p.1.1.1.1.1.1.1.1.1.1.0
job_accepted c cap s (Restore block false) job is = let p = passed c cap s (Restore block false) is in
    by_parts c cap s (Restore block false) p.0 tt (λ e. cc) p.1.1.1.1.0 p.1.1.1.1.1.0 p.1.1.1.1.1.1.0 p.1.1.1.1.1.1.1.0
job_accepted c cap s (Restore block true) job is = let p = passed c cap s (Restore block true) is in
    by_parts c cap s (Restore block true) p.0 tt (λ e. has_ram c block p.1.1.1.0) p.1.1.1.1.1.0 p.1.1.1.1.1.1.0 p.1.1.1.1.1.1.1.0 p.1.1.1.1.1.1.1.1.0
job_accepted c cap s (Erase block) job is = let p = passed c cap s (Erase block) is in
    by_parts c cap s (Erase block) p.0 tt (λ e. cc) p.1.1.1.1.0 p.1.1.1.1.1.0 p.1.1.1.1.1.1.1.1.1.0 p.1.1.1.1.1.1.1.1.1.1.0
job_accepted c cap s (Invalidate block) job is = let p = passed c cap s (Invalidate block) is in
    by_parts c cap s (Invalidate block) p.0 tt (λ e. cc) p.1.1.1.0 p.1.1.1.1.0 p.1.1.1.1.1.1.1.1.0 p.1.1.1.1.1.1.1.1.1.0
job_accepted c cap s r job is = cc

pub sweep_accepted : (c : Configuration) (cap : ℕ) (s : State) (writes : Bool) → Accepted ≡ reply_of c cap s (sweep_request writes)
    → IsSweepAccepted c cap s (sweep_request writes)
sweep_accepted c cap s false is = let p = passed c cap s ReadAll is in record { alone = p.1.0; room = not-false _ p.1.1.0 }
sweep_accepted c cap s true is = let p = passed c cap s WriteAll is in record { alone = p.1.0; room = not-false _ p.1.1.0 }

-- WHAT THAT MEANS

-- whether so many more entries fit, by what is kept
pub fits_is : (c : Configuration) (cap : ℕ) (h : List Entry) (more count reserved most : ℕ) → count ≡ length h → reserved ≡ reserved_entries c (after c h)
    → most ≡ cap → nat_le (count + reserved + more) most ≡ fits c cap (after c h) more
fits_is c cap h more count reserved most counted value size =
    rw (counted, value, size) (ap (λ (n : ℕ). nat_le (n + reserved_entries c (after c h) + more) cap) (sym (entries_are_counted c h)))

pub known_of : (n id : ℕ) → ((id == 0) || nat_lt n id) ≡ false → (id ≢ 0) × (id ≤ n)
known_of n id is = let (a, b) = or_parts (id == 0) (nat_lt n id) is in ((λ e. cc (a, eq-eqb id 0 e)), ltb-false n id b)

pub put_fits : (c : Configuration) (cap : ℕ) (s : State) (block : ℕ) (content : List ℕ)
    → Accepted ≡ reply_of c cap s (PutRam block content) → length content ≡ get_or (rooms_of c) block 0
put_fits c cap s block content is =
    let p = passed c cap s (PutRam block content) is in
    length_is (length content) (desc_of c block).length p.1.1.1.0 ∙ sym (rooms_have_lengths c block (or_right (block == 1) (is_permanent (desc_of c block).ram) (not-false _ p.1.1.1.1.0)))

-- What a start-up leaves.
use Rattle.std.proofs.Common.{◌≡◌, ◌<◌, ℕ, zero, suc, ◌+◌, ◌==◌, ◌||◌, Bool, true, false, if◌then◌else◌, List, [], ◌∷◌, map, length, get_or, slice_get, replicate, unwrap_or, slice_set, ◌++◌, refl, sym, ap, subst, ◌∙◌, arith, inl, inr, Some}
use Rattle.std.specs.List.{enumerate_from, list_any}
use Rattle.std.proofs.lemmas.Bool.{cases_Bool}
use Rattle.std.proofs.lemmas.Bool.Decides.{nat_tests}
use Rattle.std.proofs.lemmas.List.{length-replicate}
use Rattle.block_machine.specs.block_config.Block.{plain_block}
use Rattle.block_machine.specs.block_config.Config.{block_of}
use Rattle.block_machine.specs.Words.{Instance, Mark, BlockDesc, Configuration}
use Rattle.block_machine.specs.State.{BlockState}
use Rattle.block_machine.specs.Blocks.{no_block, desc_of, is_permanent, keeps_ram}
use Rattle.block_machine.specs.StartUp.{started_block}
use Rattle.ram_blocks.specs.declared.kept.RamBlock.{RamBlock}
use Rattle.ram_blocks.specs.Kept.{zeros, ram_of, no_ram, kept_of}
use Rattle.block_states.specs.declared.facts.BlockFacts.{BlockFacts}
use Rattle.block_states.specs.Shown.{state_of, states_of, rooms_in}
use Rattle.block_states.specs.States.{KeptBlocks, rooms_of, started_blocks, no_facts, started_facts, started_by, state_at, changed_at, RoomsHaveLengths}

-- the RAM of enumerated blocks
abbrev rams_from : ℕ → List BlockDesc → List RamBlock
rams_from k ds = map (λ x. ram_of x.0 x.1) (enumerate_from k ds)

-- ROOMS

zeros_by : (t : Bool) (n : ℕ) → length (zeros (if t then n else 0)).content ≡ (if t then n else 0)
zeros_by t n = length-replicate (if t then n else 0) 0

-- RAM that was made is zeros already
again : (k : ℕ) (ds : List BlockDesc) → map (λ (r : RamBlock). zeros (length r.content)) (rams_from k ds) ≡ rams_from k ds
again k [] = refl
again k (d ∷ ds) = ap (λ n. zeros n ∷ map (λ (r : RamBlock). zeros (length r.content)) (rams_from (k + 1) ds))
    (zeros_by ((k == 1) || is_permanent d.ram) d.length) ∙ ap (λ ys. ram_of k d ∷ ys) (again (k + 1) ds)

fused : (rs : List RamBlock) → map (λ (r : RamBlock). zeros (length r.content)) rs ≡ map {A = ℕ} {B = RamBlock} (λ n. zeros n) (rooms_in rs)
fused [] = refl
fused (r ∷ rs) = ap (λ ys. zeros (length r.content) ∷ ys) (fused rs)

-- zeros in the room of each block are the RAM at first
pub zeroed : (c : Configuration) (rs : List RamBlock) → rooms_in rs ≡ rooms_of c → map (λ (r : RamBlock). zeros (length r.content)) rs ≡ kept_of c
zeroed c rs same = fused rs ∙ ap (map {A = ℕ} {B = RamBlock} (λ n. zeros n)) same ∙ sym (fused (kept_of c)) ∙ ap (λ ys. no_ram ∷ ys) (again 1 c.blocks)

counted : (k : ℕ) (ds : List BlockDesc) → length (rams_from k ds) ≡ length ds
counted k [] = refl
counted k (d ∷ ds) = omega (arith, counted (k + 1) ds)

in_each : (rs : List RamBlock) → length (rooms_in rs) ≡ length rs
in_each [] = refl
in_each (r ∷ rs) = omega (arith, in_each rs)

pub kept_count : (c : Configuration) → length (kept_of c) ≡ length c.blocks + 1
kept_count c = omega (arith, counted 1 c.blocks)

pub rooms_count : (c : Configuration) (rs : List RamBlock) → rooms_in rs ≡ rooms_of c → length rs ≡ length c.blocks + 1
rooms_count c rs same = let e = ap length same in let a = in_each rs in let b = in_each (kept_of c) in let n = kept_count c in omega arith

same_either : (t : Bool) (n : ℕ) → n ≡ 0 → 0 ≡ (if t then n else 0)
same_either true n is = sym is
same_either false n is = refl

room_from : (ds : List BlockDesc) (k i : ℕ) → get_or (rooms_in (rams_from k ds)) i 0
    ≡ (if ((k + i) == 1) || is_permanent (unwrap_or (slice_get ds i) (plain_block 0)).ram then (unwrap_or (slice_get ds i) (plain_block 0)).length else 0)
room_from [] k i = same_either (((k + i) == 1) || is_permanent (plain_block 0).ram) 0 refl
room_from (d ∷ ds) k zero = let e : k + 0 ≡ k = omega arith in rw e (zeros_by ((k == 1) || is_permanent d.ram) d.length)
room_from (d ∷ ds) k (suc i) = let e : k + suc i ≡ k + 1 + i = omega arith in rw e (room_from ds (k + 1) i)

pub rooms_have_lengths : RoomsHaveLengths
rooms_have_lengths c zero keeps = refl
rooms_have_lengths c (suc i) keeps = let e : 1 + i ≡ suc i = omega arith in let h = room_from c.blocks 1 i in rw keeps at (rw e at h)

-- STATES

ram_by : (t : Bool) (n : ℕ) → replicate {A = ℕ} (if t then n else 0) 0 ≡ (if t then replicate n 0 else [])
ram_by true n = refl
ram_by false n = refl

one_started : (c : Configuration) (marks : List (Instance × Mark)) (k : ℕ) (d : BlockDesc) → desc_of c k ≡ d
    → state_of (started_facts marks k d) (ram_of k d) ≡ started_block c marks k d
one_started c marks k d is = rw is (ap (λ (ram : List ℕ). state_of (started_facts marks k d) (record no_ram { content = ram }))
    (ram_by ((k == 1) || is_permanent d.ram) d.length))

all_started : (c : Configuration) (marks : List (Instance × Mark)) (ds : List BlockDesc) (fs : List BlockFacts) (k : ℕ)
    → length fs ≡ length ds → ((i : ℕ) → slice_get ds i ≡ block_of c (k + i))
    → ((i : ℕ) → i < length fs → get_or fs i no_facts ≡ started_by marks (k + i) (block_of c (k + i)))
    → states_of fs (rams_from k ds) ≡ map (λ x. started_block c marks x.0 x.1) (enumerate_from k ds)
all_started c marks [] [] k same blocks each = refl
all_started c marks [] (f ∷ fs) k same blocks each = absurd (omega (arith, same))
all_started c marks (d ∷ ds) [] k same blocks each = absurd (omega (arith, same))
all_started c marks (d ∷ ds) (f ∷ fs) k same blocks each =
    let e : k + 0 ≡ k = omega arith in
    let here : Some d ≡ block_of c k = rw e at (blocks 0) in
    let first : f ≡ started_by marks k (block_of c k) = rw e at (each 0 (omega arith)) in
    let head : state_of f (ram_of k d) ≡ started_block c marks k d =
    ap (λ x. state_of x (ram_of k d)) (first ∙ ap (started_by marks k) (sym here))
    ∙ one_started c marks k d (ap (λ o. unwrap_or o (plain_block 0)) (sym here)) in
    let rest = all_started c marks ds fs (k + 1) (omega (arith, same))
    (λ i. let n : k + 1 + i ≡ k + suc i = omega arith in rw n (blocks (suc i)))
    (λ i below. let n : k + 1 + i ≡ k + suc i = omega arith in rw n (each (suc i) (omega arith))) in
    ap (λ x. x ∷ states_of fs (rams_from (k + 1) ds)) head ∙ ap (λ ys. started_block c marks k d ∷ ys) rest

pub started_are : (c : Configuration) (marks : List (Instance × Mark)) (fs : List BlockFacts) → length fs ≡ length c.blocks + 1
    → ((i : ℕ) → i < length fs → get_or fs i no_facts ≡ started_by marks i (block_of c i)) → states_of fs (kept_of c) ≡ started_blocks c marks
started_are c marks [] same each = absurd (omega (arith, same))
started_are c marks (f ∷ fs) same each =
    let rest = all_started c marks c.blocks fs 1 (omega (arith, same)) (λ i. let n : 1 + i ≡ suc i = omega arith in rw n refl)
    (λ i below. let n : 1 + i ≡ suc i = omega arith in rw n (each (suc i) (omega arith))) in
    ap (λ x. state_of x no_ram ∷ states_of fs (rams_from 1 c.blocks)) (each 0 (omega arith)) ∙ ap (λ ys. no_block ∷ ys) rest

-- what is shown of them
pub start_shown : (c : Configuration) (marks : List (Instance × Mark)) (fs : List BlockFacts) (old new : List RamBlock)
    → rooms_in old ≡ rooms_of c → new ≡ map (λ (r : RamBlock). zeros (length r.content)) old
    → length fs ≡ length old → ((i : ℕ) → i < length fs → get_or fs i no_facts ≡ started_by marks i (block_of c i))
    → let shown : KeptBlocks = record { states = states_of fs new; rooms = rooms_in new } in
    shown ≡ record { states = started_blocks c marks; rooms = rooms_in old }
start_shown c marks fs old new same cleared long each =
    let is = cleared ∙ zeroed c old same in
    let count = rooms_count c old same in
    let started = started_are c marks fs (omega arith) each in
    rw (is, started, same) refl

-- ONE MARK MORE

or_false : (a : Bool) → (a || false) ≡ a
or_false true = refl
or_false false = refl

or_true : (a : Bool) → (a || true) ≡ true
or_true true = refl
or_true false = refl

or_assoc : (a b c : Bool) → (a || (b || c)) ≡ ((a || b) || c)
or_assoc true b c = refl
or_assoc false b c = refl

any_more : {X : Type 0} (p : X → Bool) (xs : List X) (x : X) → list_any p (xs ++ x ∷ []) ≡ (list_any p xs || p x)
any_more p [] x = or_false (p x)
any_more p (y ∷ ys) x = ap (λ b. p y || b) (any_more p ys x) ∙ or_assoc (p y) (list_any p ys) (p x)

own_test : (n : ℕ) → (n == n) ≡ true
own_test n = grind (arith, nat_tests)

other_test : (a b : ℕ) → (a ≡ b → ⊥) → (a == b) ≡ false
other_test a b other = elim (cases_Bool (a == b)) [
  | inr off ↦ off
  | inl on ↦ let same : a ≡ b = grind (arith, nat_tests) in absurd (other same)
]

-- a write-once block is protected by a mark of its own
protects : (once own before : Bool) (now protected : Bool) → now ≡ (before || own) → once ≡ true → own ≡ true → (if once then now else protected) ≡ true
protects true true before now protected is once own = is ∙ or_true before
protects true false before now protected is once own = absurd (cc own)
protects false own before now protected is once on = absurd (cc once)

-- and by no other one
leaves : (once own before now protected : Bool) → now ≡ (before || own) → (once ≡ true → own ≡ true → ⊥) → (if once then now else protected) ≡ (if once then before else protected)
leaves true true before now protected is never = absurd (never refl refl)
leaves true false before now protected is never = is ∙ or_false before
leaves false own before now protected is never = refl

abbrev with_protected : (c : Configuration) (id : ℕ) (d : BlockDesc) → Bool → BlockState
with_protected c id d protected = record no_block { protected = protected; ram = if keeps_ram c id then replicate d.length 0 else [] }

noted_one : (c : Configuration) (marks : List (Instance × Mark)) (m : Instance × Mark) (id : ℕ) (d : BlockDesc) → d.once ≡ true → m.0.block ≡ id
    → started_block c (marks ++ m ∷ []) id d ≡ record (started_block c marks id d) { protected = true }
noted_one c marks m id d once own =
    let on : (m.0.block == id) ≡ true = subst (λ n. (m.0.block == n) ≡ true) own (own_test m.0.block) in
    ap (with_protected c id d) (protects d.once (m.0.block == id) (list_any (λ x. x.0.block == id) marks) (list_any (λ x. x.0.block == id) (marks ++ m ∷ [])) d.protected
    (any_more (λ x. x.0.block == id) marks m) once on)

kept_one : (c : Configuration) (marks : List (Instance × Mark)) (m : Instance × Mark) (id : ℕ) (d : BlockDesc) → (d.once ≡ true → m.0.block ≡ id → ⊥)
    → started_block c (marks ++ m ∷ []) id d ≡ started_block c marks id d
kept_one c marks m id d never =
    ap (with_protected c id d) (leaves d.once (m.0.block == id) (list_any (λ x. x.0.block == id) marks) (list_any (λ x. x.0.block == id) (marks ++ m ∷ [])) d.protected
    (any_more (λ x. x.0.block == id) marks m) (λ once on. let same : m.0.block ≡ id = grind (arith, nat_tests) in never once same))

-- whether the block at a place is a write-once one
abbrev once_at : List BlockDesc → ℕ → Bool
once_at ds n = (unwrap_or (slice_get ds n) (plain_block 0)).once

abbrev started_from : Configuration → List (Instance × Mark) → ℕ → List BlockDesc → List BlockState
started_from c marks k ds = map (λ x. started_block c marks x.0 x.1) (enumerate_from k ds)

kept_from : (c : Configuration) (marks : List (Instance × Mark)) (m : Instance × Mark) (ds : List BlockDesc) (k : ℕ)
    → ((n : ℕ) → once_at ds n ≡ true → m.0.block ≡ k + n → ⊥) → started_from c (marks ++ m ∷ []) k ds ≡ started_from c marks k ds
kept_from c marks m [] k never = refl
kept_from c marks m (d ∷ ds) k never =
    let head = kept_one c marks m k d (λ once own. never 0 once (omega (arith, own))) in
    let rest = kept_from c marks m ds (k + 1) (λ n once own. never (suc n) once (omega (arith, own))) in
    λ i. head i ∷ rest i

noted_from : (c : Configuration) (marks : List (Instance × Mark)) (m : Instance × Mark) (ds : List BlockDesc) (k n : ℕ) → once_at ds n ≡ true → m.0.block ≡ k + n
    → started_from c (marks ++ m ∷ []) k ds ≡ slice_set (started_from c marks k ds) n (record (state_at (started_from c marks k ds) n) { protected = true })
noted_from c marks m [] k n once own = absurd (cc once)
noted_from c marks m (d ∷ ds) k zero once own =
    let head = noted_one c marks m k d once (omega (arith, own)) in
    let rest = kept_from c marks m ds (k + 1) (λ n other there. omega (arith, own, there)) in
    λ i. head i ∷ rest i
noted_from c marks m (d ∷ ds) k (suc n) once own =
    let head = kept_one c marks m k d (λ other there. omega (arith, own, there)) in
    let rest = noted_from c marks m ds (k + 1) n once (omega (arith, own)) in
    λ i. head i ∷ rest i

noted_blocks : (c : Configuration) (marks : List (Instance × Mark)) (m : Instance × Mark) (id : ℕ) → (desc_of c id).once ≡ true → m.0.block ≡ id
    → started_blocks c (marks ++ m ∷ []) ≡ slice_set (started_blocks c marks) id (record (state_at (started_blocks c marks) id) { protected = true })
noted_blocks c marks m zero once own = absurd (cc once)
noted_blocks c marks m (suc n) once own = ap (λ xs. no_block ∷ xs) (noted_from c marks m c.blocks 1 n once (omega (arith, own)))

kept_blocks : (c : Configuration) (marks : List (Instance × Mark)) (m : Instance × Mark) (id : ℕ) → (desc_of c id).once ≡ false → m.0.block ≡ id
    → started_blocks c (marks ++ m ∷ []) ≡ started_blocks c marks
kept_blocks c marks m zero never own = ap (λ xs. no_block ∷ xs) (kept_from c marks m c.blocks 1 (λ n once there. omega (arith, own, there)))
kept_blocks c marks m (suc k) never own = ap (λ xs. no_block ∷ xs) (kept_from c marks m c.blocks 1
    (λ n once there. let same : n ≡ k = omega (arith, own, there) in absurd (cc (never, subst (λ x. once_at c.blocks x ≡ true) same once))))

-- the blocks that a start-up leaves, with one mark more
pub mark_noted : (c : Configuration) (marks : List (Instance × Mark)) (i : Instance) (mark : Mark) (id : ℕ) (old new : KeptBlocks)
    → (desc_of c id).once ≡ true → new ≡ changed_at id (λ b. record b { protected = true }) old
    → old.states ≡ started_blocks c marks → i.block ≡ id → new ≡ record old { states = started_blocks c (marks ++ (i, mark) ∷ []) }
mark_noted c marks i mark id old new once is was own =
    is ∙ ap (λ states. record old { states = states })
    (ap (λ s. slice_set s id (record (state_at s id) { protected = true })) was ∙ sym (noted_blocks c marks (i, mark) id once own))

pub mark_passed : (c : Configuration) (marks : List (Instance × Mark)) (i : Instance) (mark : Mark) (id : ℕ) (old : KeptBlocks) → (desc_of c id).once ≡ false
    → old.states ≡ started_blocks c marks → i.block ≡ id → old ≡ record old { states = started_blocks c (marks ++ (i, mark) ∷ []) }
mark_passed c marks i mark id old never was own =
    ap (λ states. record old { states = states }) (was ∙ sym (kept_blocks c marks (i, mark) id never own))

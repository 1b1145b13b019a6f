-- How what the fields show changes with them.
use Rattle.std.proofs.Common.{◌≡◌, ◌<◌, ℕ, zero, suc, Bool, true, false, List, [], ◌∷◌, length, get_or, slice_set, refl, sym, ap, ◌∙◌, arith}
use Rattle.std.proofs.Math.Seq.{map-set_same}
use Rattle.ram_blocks.specs.declared.kept.RamBlock.{RamBlock}
use Rattle.ram_blocks.specs.declared.kept.RamFlags.{RamFlags}
use Rattle.ram_blocks.specs.Kept.{no_ram}
use Rattle.block_machine.specs.State.{BlockState}
use Rattle.block_states.specs.declared.facts.BlockFacts.{BlockFacts}
use Rattle.block_states.specs.Shown.{state_of, states_of, shown_states, rooms_in}
use Rattle.block_states.specs.States.{KeptBlocks, state_at, changed_at, no_facts, with_facts, with_flags}

-- a block of them
at_states : (fs : List BlockFacts) (rs : List RamBlock) (id : ℕ) → length fs ≡ length rs
    → state_at (states_of fs rs) id ≡ state_of (get_or fs id no_facts) (get_or rs id no_ram)
at_states [] [] id same = refl
at_states [] (r ∷ rs) id same = absurd (omega (arith, same))
at_states (f ∷ fs) [] id same = absurd (omega (arith, same))
at_states (f ∷ fs) (r ∷ rs) zero same = refl
at_states (f ∷ fs) (r ∷ rs) (suc id) same = at_states fs rs id (omega (arith, same))

set_facts : (fs : List BlockFacts) (rs : List RamBlock) (id : ℕ) (f : BlockFacts)
    → states_of (slice_set fs id f) rs ≡ slice_set (states_of fs rs) id (state_of f (get_or rs id no_ram))
set_facts [] rs id f = refl
set_facts (x ∷ fs) [] zero f = refl
set_facts (x ∷ fs) [] (suc id) f = refl
set_facts (x ∷ fs) (r ∷ rs) zero f = refl
set_facts (x ∷ fs) (r ∷ rs) (suc id) f = ap (λ ys. state_of x r ∷ ys) (set_facts fs rs id f)

set_ram : (fs : List BlockFacts) (rs : List RamBlock) (id : ℕ) (r : RamBlock)
    → states_of fs (slice_set rs id r) ≡ slice_set (states_of fs rs) id (state_of (get_or fs id no_facts) r)
set_ram [] rs id r = refl
set_ram (f ∷ fs) [] id r = refl
set_ram (f ∷ fs) (x ∷ rs) zero r = refl
set_ram (f ∷ fs) (x ∷ rs) (suc id) r = ap (λ ys. state_of f x ∷ ys) (set_ram fs rs id r)

-- WHAT IS SHOWN

pub at_shown : (started : Bool) (fs : List BlockFacts) (rs : List RamBlock) (id : ℕ) → length fs ≡ length rs → started ≡ true
    → state_at (shown_states started fs rs) id ≡ state_of (get_or fs id no_facts) (get_or rs id no_ram)
at_shown true fs rs id same is = at_states fs rs id same
at_shown false fs rs id same is = cc

abbrev shown : Bool → List BlockFacts → List RamBlock → KeptBlocks
shown started fs rs = record { states = shown_states started fs rs; rooms = rooms_in rs }

pub facts_changed : (started : Bool) (fs : List BlockFacts) (rs : List RamBlock) (id : ℕ) (f : BlockFacts) → length fs ≡ length rs
    → shown started (slice_set fs id f) rs ≡ changed_at id (with_facts f) (shown started fs rs)
facts_changed false fs rs id f same = refl
facts_changed true fs rs id f same =
    ap (λ states. record { states = states; rooms = rooms_in rs })
    (set_facts fs rs id f ∙ ap (λ b. slice_set (states_of fs rs) id (with_facts f b)) (sym (at_states fs rs id same)))

-- a change of RAM that leaves its length
ram_changed : (started : Bool) (fs : List BlockFacts) (rs : List RamBlock) (id : ℕ) (r : RamBlock) (change : BlockState → BlockState)
    → length fs ≡ length rs → length r.content ≡ length (get_or rs id no_ram).content
    → state_of (get_or fs id no_facts) r ≡ change (state_of (get_or fs id no_facts) (get_or rs id no_ram))
    → shown started fs (slice_set rs id r) ≡ changed_at id change (shown started fs rs)
ram_changed false fs rs id r change same long is = ap (λ rooms. record { states = []; rooms = rooms })
    (map-set_same (λ (r : RamBlock). length r.content) rs id r no_ram long)
ram_changed true fs rs id r change same long is =
    ap (λ rooms. record { states = states_of fs (slice_set rs id r); rooms = rooms }) (map-set_same (λ (r : RamBlock). length r.content) rs id r no_ram long)
    ∙ ap (λ states. record { states = states; rooms = rooms_in rs })
    (set_ram fs rs id r ∙ ap (slice_set (states_of fs rs) id) (is ∙ ap change (sym (at_states fs rs id same))))

pub flags_changed : (started : Bool) (fs : List BlockFacts) (rs : List RamBlock) (id : ℕ) (flags : RamFlags) → length fs ≡ length rs
    → shown started fs (slice_set rs id (record (get_or rs id no_ram) { flags = flags })) ≡ changed_at id (with_flags flags) (shown started fs rs)
flags_changed started fs rs id flags same = ram_changed started fs rs id (record (get_or rs id no_ram) { flags = flags }) (with_flags flags) same refl refl

pub content_changed : (started : Bool) (fs : List BlockFacts) (rs : List RamBlock) (id : ℕ) (content : List ℕ) → length fs ≡ length rs
    → length content ≡ length (get_or rs id no_ram).content
    → shown started fs (slice_set rs id (record (get_or rs id no_ram) { content = content })) ≡ changed_at id
    (λ b. record b { ram = content }) (shown started fs rs)
content_changed started fs rs id content same long = ram_changed started fs rs id (record (get_or rs id no_ram) { content = content })
    (λ b. record b { ram = content }) same long refl

-- the room of a block's RAM
pub room_at : (rs : List RamBlock) (id : ℕ) → get_or (rooms_in rs) id 0 ≡ length (get_or rs id no_ram).content
room_at [] id = refl
room_at (r ∷ rs) zero = refl
room_at (r ∷ rs) (suc id) = room_at rs id

-- which it fills, where blocks are shown
pub ram_fills : (started : Bool) (fs : List BlockFacts) (rs : List RamBlock) (id : ℕ) → length fs ≡ length rs
    → 0 < length (shown_states started fs rs) → length (state_at (shown_states started fs rs) id).ram ≡ get_or (rooms_in rs) id 0
ram_fills true fs rs id same some = ap (λ (b : BlockState). length b.ram) (at_states fs rs id same) ∙ sym (room_at rs id)
ram_fills false fs rs id same some = absurd (omega (arith, some))

-- two changes of a block, one after the other
set_twice : (states : List BlockState) (id : ℕ) (f g : BlockState → BlockState)
    → slice_set (slice_set states id (f (state_at states id))) id
    (g (state_at (slice_set states id (f (state_at states id))) id)) ≡ slice_set states id (g (f (state_at states id)))
set_twice [] id f g = refl
set_twice (b ∷ bs) zero f g = refl
set_twice (b ∷ bs) (suc id) f g = ap (λ ys. b ∷ ys) (set_twice bs id f g)

pub changed_twice : (id : ℕ) (f g : BlockState → BlockState) (k : KeptBlocks) → changed_at id g (changed_at id f k) ≡ changed_at id (λ b. g (f b)) k
changed_twice id f g k = ap (λ states. record { states = states; rooms = k.rooms }) (set_twice k.states id f g)

-- An application in memory behind its own steps and behind copies.
use Rattle.script_player.proofs.Common.{◌==◌, slice_set, map, if◌then◌else◌, option_map, ◌≡◌, ℕ, suc, Bool, true, false, List, [], ◌∷◌, length, get_or, Some, None, refl, sym, ap, ◌∙◌, subst, map-set, Configuration, AreSynchronized, sync_length_of, PlainBlock, Told, Synchronized, IsSynchronized, told_at, told_of, store_of, stored, refusing, no_plain, map-set_same}
use Rattle.script_player.proofs.Table.{is_sync}

-- a block among others, by what is seen of it
pub store_here : (bs : List PlainBlock) (k : ℕ) → get_or (map store_of bs) k (0, []) ≡ store_of (get_or bs k no_plain)
store_here (x ∷ xs) (suc k) = store_here xs k
store_here bs k = refl

pub told_here : (bs : List PlainBlock) (k : ℕ) → told_at (map told_of bs) k ≡ told_of (get_or bs k no_plain)
told_here (x ∷ xs) (suc k) = told_here xs k
told_here bs k = refl

-- A STORE

size_found : (b : PlainBlock) (n : ℕ) → option_map (λ (s : Synchronized). s.bytes) (told_of b) ≡ Some n → length b.content ≡ n
size_found b n is = by (length b.content == 0) refl is
  where
    by : (t : Bool) → (length b.content == 0) ≡ t
        → option_map (λ (s : Synchronized). s.bytes) (if t then None else Some (record { bytes = length b.content; refusals = b.refusals; to_refuse = Some b.to_refuse; handed = b.handed; last = b.last })) ≡ Some n → length b.content ≡ n
    by true empty none = cc none
    by false full some = cc some

-- it changes nothing of what is told of the block
pub stored_told : (bs : List PlainBlock) (k : ℕ) (content : List ℕ) → IsSynchronized (map told_of bs) k (length content)
    → map told_of (slice_set bs k (stored content (get_or bs k no_plain))) ≡ map told_of bs
stored_told bs k content is =
    let b = get_or bs k no_plain in
    let size : length b.content ≡ length content = size_found b (length content) (sym (ap (option_map (λ (s : Synchronized). s.bytes)) (told_here bs k)) ∙ is) in
    map-set_same told_of bs k (stored content b) no_plain
    (ap (λ (n : ℕ). if n == 0 then None else Some (record { bytes = n; refusals = b.refusals; to_refuse = Some b.to_refuse; handed = b.handed; last = b.last })) (sym size))

pub stored_stores : (bs : List PlainBlock) (k n : ℕ) (content : List ℕ) → n ≡ (stored content (get_or bs k no_plain)).number
    → map store_of (slice_set bs k (stored content (get_or bs k no_plain))) ≡ slice_set (map store_of bs) k (n, content)
stored_stores bs k n content is =
    map-set store_of bs k (stored content (get_or bs k no_plain)) ∙ ap (λ (m : ℕ). slice_set (map store_of bs) k (m, content)) (sym is)

-- COPIES THAT ARE TO BE REFUSED

pub refusing_stores : (bs : List PlainBlock) (k count : ℕ) → map store_of (slice_set bs k (refusing count (get_or bs k no_plain))) ≡ map store_of bs
refusing_stores bs k count = map-set_same store_of bs k (refusing count (get_or bs k no_plain)) no_plain refl

-- a store of a player has its block's length
pub may_store : (c : Configuration) (told : List Told) (id n : ℕ) → AreSynchronized c told → sync_length_of c id ≡ Some n → IsSynchronized told id n
may_store c told id n are is = let sync = is_sync c id n is in subst (λ (m : ℕ). IsSynchronized told id m) sync.1 (are id sync.0)

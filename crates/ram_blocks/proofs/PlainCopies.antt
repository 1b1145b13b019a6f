-- Copies of blocks in memory, by the blocks' own.
use Rattle.std.proofs.Common.{◌≡◌, ◌<◌, ℕ, zero, suc, ◌-◌, ◌==◌, Option, IfSome, Bool, true, false, if◌then◌else◌, List, [], ◌∷◌, map, length, get_or, slice_set, refl, sym, ap, ◌∙◌, arith, Some, None, option_map, subst}
use Rattle.std.proofs.lemmas.List.{map-set, set-get_or}
use Rattle.std.proofs.Math.ListN.{get_or-map}
use Rattle.std.proofs.Math.Seq.{map-set_same}
use Rattle.block_machine.specs.nv_base.Count.{next_count, Rose}
use Rattle.ram_blocks.specs.declared.sync_calls.Copied.{Copied}
use Rattle.ram_blocks.specs.declared.sync_calls.Copied.TheVariants.{Got, Refused}
use Rattle.ram_blocks.specs.declared.plain_block.PlainBlock.{PlainBlock}
use Rattle.ram_blocks.specs.Told.{Told, Synchronized, told_at, IsSynchronized, refusals_by, refusals_of, handed_by, to_refuse_by, to_refuse_of}
use Rattle.ram_blocks.specs.Copies.{CopiesOut, CopiesIn, Refuses, NoneIsRefused, with_refused, next_number, changed, handed_over as told_over}
use Rattle.ram_blocks.specs.Plain.{told_of, store_of, no_plain, refused, handed_over, IsCopiedOut, IsCopiedIn}

-- what is told of one
pub told_one : (xs : List PlainBlock) (i : ℕ) → told_at (map told_of xs) i ≡ told_of (get_or xs i no_plain)
told_one xs i = get_or-map told_of xs i no_plain

no_bytes : (i n : ℕ) (X : Type 0) → IsSynchronized (map told_of []) i n → X
no_bytes i n X e = cc

pub within : (xs : List PlainBlock) (i n : ℕ) → IsSynchronized (map told_of xs) i n → i < length xs
within [] i n e = no_bytes i n (i < 0) e
within (x ∷ xs) zero n e = omega arith
within (x ∷ xs) (suc i) n e = let h = within xs i n e in omega (arith, h)

bytes_by : (t : Bool) (b : PlainBlock) (n : ℕ) → option_map (λ (s : Synchronized). s.bytes) (if t then None else Some (record { bytes = length b.content; refusals = b.refusals; to_refuse = Some b.to_refuse; handed = b.handed; last = b.last })) ≡ Some n → length b.content ≡ n
bytes_by true b n e = cc
bytes_by false b n e = cc

pub told_set : (xs : List PlainBlock) (i : ℕ) (y : PlainBlock) → map told_of (slice_set xs i y) ≡ slice_set (map told_of xs) i (told_of y)
told_set xs i y = map-set told_of xs i y

some_told_by : (t : Bool) (b : PlainBlock) (r : ℕ)
    → (if t then None else Some (record { bytes = length b.content; refusals = r; to_refuse = Some (b.to_refuse - 1); handed = b.handed; last = b.last }))
    ≡ option_map (with_refused r) (if t then None else Some (record { bytes = length b.content; refusals = b.refusals; to_refuse = Some b.to_refuse; handed = b.handed; last = b.last }))
some_told_by true b r = refl
some_told_by false b r = refl

told_refused : (b : PlainBlock) → told_of (refused b) ≡ option_map (with_refused (next_count b.refusals)) (told_of b)
told_refused b = some_told_by (length b.content == 0) b (next_count b.refusals)

handed_told_by : (t : Bool) (content : List ℕ) (b : PlainBlock) → (if t then None else Some (record { bytes = length b.content; refusals = b.refusals; to_refuse = Some b.to_refuse; handed = next_number b.handed; last = content })) ≡ option_map (told_over content) (if t then None else Some (record { bytes = length b.content; refusals = b.refusals; to_refuse = Some b.to_refuse; handed = b.handed; last = b.last }))
handed_told_by true content b = refl
handed_told_by false content b = refl

told_handed : (content : List ℕ) (b : PlainBlock) → told_of (handed_over content b) ≡ option_map (told_over content) (told_of b)
told_handed content b = handed_told_by (length b.content == 0) content b

-- what is told of a synchronized block
record IsToldOf (t : Told) (b : PlainBlock) : Type 0 where
  pub refusals : refusals_by t ≡ b.refusals
  pub handed : handed_by t ≡ b.handed
  pub left : to_refuse_by t ≡ Some b.to_refuse

some_told : (t : Bool) (b : PlainBlock) (n : ℕ) → option_map (λ (s : Synchronized). s.bytes) (if t then None else Some (record { bytes = length b.content; refusals = b.refusals; to_refuse = Some b.to_refuse; handed = b.handed; last = b.last })) ≡ Some n
    → IsToldOf (if t then None else Some (record { bytes = length b.content; refusals = b.refusals; to_refuse = Some b.to_refuse; handed = b.handed; last = b.last })) b
some_told true b n e = cc
some_told false b n e = record { refusals = refl; handed = refl; left = refl }

told_there : (xs : List PlainBlock) (i n : ℕ) → IsSynchronized (map told_of xs) i n → IsToldOf (told_at (map told_of xs) i) (get_or xs i no_plain)
told_there xs i n e =
    let b = get_or xs i no_plain in
    subst (λ (t : Told). IsToldOf t b) (sym (told_one xs i)) (some_told (length b.content == 0) b n (ap (option_map (λ (s : Synchronized). s.bytes)) (sym (told_one xs i)) ∙ e))

-- what is told of one block changes
told_changed : (xs : List PlainBlock) (i : ℕ) (y : PlainBlock) (change : Synchronized → Synchronized) → told_of y ≡ option_map change (told_of (get_or xs i no_plain)) → map told_of (slice_set xs i y) ≡ changed i change (map told_of xs)
told_changed xs i y change e = told_set xs i y ∙ ap (slice_set (map told_of xs) i) (e ∙ ap (option_map change) (sym (told_one xs i)))

same_told : (xs : List PlainBlock) (i : ℕ) (y : PlainBlock) → y ≡ get_or xs i no_plain → map told_of (slice_set xs i y) ≡ map told_of xs
same_told xs i y e = ap (map told_of) (ap (slice_set xs i) e ∙ set-get_or xs i no_plain)

rose_at : (xs : List PlainBlock) (i n : ℕ) (y : PlainBlock) → IsSynchronized (map told_of xs) i n → Rose (get_or xs i no_plain).refusals y.refusals → y ≡ refused (get_or xs i no_plain) → Rose (refusals_of (map told_of xs) i) (next_count (get_or xs i no_plain).refusals)
rose_at xs i n y at rose e = subst (λ r. Rose r (next_count (get_or xs i no_plain).refusals)) (sym (told_there xs i n at).refusals) (subst (λ r. Rose (get_or xs i no_plain).refusals r) (ap (λ (b : PlainBlock). b.refusals) e) rose)

none_left : (xs : List PlainBlock) (i n : ℕ) → IsSynchronized (map told_of xs) i n → (get_or xs i no_plain).to_refuse ≡ 0 → NoneIsRefused (map told_of xs) i
none_left xs i n at none = subst (λ (o : Option ℕ). IfSome o (λ k. k ≡ 0)) (sym (told_there xs i n at).left) none

some_left : (xs : List PlainBlock) (i n : ℕ) → IsSynchronized (map told_of xs) i n → 0 < (get_or xs i no_plain).to_refuse → IfSome (to_refuse_of (map told_of xs) i) (λ k. 0 < k)
some_left xs i n at some = subst (λ (o : Option ℕ). IfSome o (λ k. 0 < k)) (sym (told_there xs i n at).left) some

copy_refused : (xs : List PlainBlock) (i n : ℕ) (y : PlainBlock) → IsSynchronized (map told_of xs) i n → 0 < (get_or xs i no_plain).to_refuse
    → Rose (get_or xs i no_plain).refusals y.refusals → y ≡ refused (get_or xs i no_plain) → Refuses i (map told_of xs) (map told_of (slice_set xs i y))
copy_refused xs i n y at some rose is = (
  next_count (get_or xs i no_plain).refusals,
  rose_at xs i n y at rose is,
  some_left xs i n at some,
  told_changed xs i y _ (ap told_of is ∙ told_refused (get_or xs i no_plain)),
)

pub copies_out : (r : Copied) (xs : List PlainBlock) (i n : ℕ) (content : List ℕ) (y : PlainBlock) → IsSynchronized (map told_of xs) i n → IsCopiedOut r content (get_or xs i no_plain) y → CopiesOut r i (map told_of xs) (map told_of (slice_set xs i y))
copies_out (Got m) xs i n content y at h = (none_left xs i n at h.0, same_told xs i y h.3)
copies_out Refused xs i n content y at h = copy_refused xs i n y at h.0 h.1 h.2

pub copies_in : (r : Copied) (xs : List PlainBlock) (i n : ℕ) (content : List ℕ) (y : PlainBlock) → IsSynchronized (map told_of xs) i n → IsCopiedIn r content (get_or xs i no_plain) y → CopiesIn r i content (map told_of xs) (map told_of (slice_set xs i y))
copies_in (Got m) xs i n content y at h = (
  none_left xs i n at h.0,
  h.1 ∙ ap next_number (sym (told_there xs i n at).handed),
  told_changed xs i y (told_over content) (ap told_of h.2 ∙ told_handed content (get_or xs i no_plain)),
)
copies_in Refused xs i n content y at h = copy_refused xs i n y at h.0 h.1 h.2

-- the stores stay
pub out_stays : (r : Copied) (content : List ℕ) (b y : PlainBlock) → IsCopiedOut r content b y → store_of y ≡ store_of b
out_stays (Got m) content b y h = ap store_of h.3
out_stays Refused content b y h = ap store_of h.2

pub in_stays : (r : Copied) (content : List ℕ) (b y : PlainBlock) → IsCopiedIn r content b y → store_of y ≡ store_of b
in_stays (Got m) content b y h = ap store_of h.2
in_stays Refused content b y h = ap store_of h.2

pub stores_stay : (xs : List PlainBlock) (i : ℕ) (y : PlainBlock) → store_of y ≡ store_of (get_or xs i no_plain) → map store_of (slice_set xs i y) ≡ map store_of xs
stores_stay xs i y e = map-set_same store_of xs i y no_plain e

-- OF A BLOCK IN ITS PLACE

get_any : (xs : List PlainBlock) (i : ℕ) (d e : PlainBlock) → i < length xs → get_or xs i d ≡ get_or xs i e
get_any [] i d e below = absurd (omega arith)
get_any (x ∷ xs) zero d e below = refl
get_any (x ∷ xs) (suc i) d e below = get_any xs i d e (omega arith)

module _ (xs now : List PlainBlock) (i j n : ℕ) (x y : PlainBlock) (is : xs ≡ now) (same : i ≡ j) (at : IsSynchronized (map told_of now) j n) (read : x ≡ get_or xs i x) where
  there : IsSynchronized (map told_of xs) i n
  there = rw (is, same) at

  the_block : x ≡ get_or xs i no_plain
  the_block = read ∙ get_any xs i x no_plain (within xs i n there)

  pub out_told : (r : Copied) (content : List ℕ) → IsCopiedOut r content x y → CopiesOut r j (map told_of now) (map told_of (slice_set xs i y))
  out_told r content h = subst (λ l. CopiesOut r j (map told_of l) (map told_of (slice_set xs i y))) is (subst (λ k. CopiesOut r k (map told_of xs) (map told_of (slice_set xs i y))) same (copies_out r xs i n content y there (subst (λ z. IsCopiedOut r content z y) the_block h)))

  pub in_told : (r : Copied) (content : List ℕ) → IsCopiedIn r content x y → CopiesIn r j content (map told_of now) (map told_of (slice_set xs i y))
  in_told r content h = subst (λ l. CopiesIn r j content (map told_of l) (map told_of (slice_set xs i y))) is (subst (λ k. CopiesIn r k content (map told_of xs) (map told_of (slice_set xs i y))) same (copies_in r xs i n content y there (subst (λ z. IsCopiedIn r content z y) the_block h)))

  stays_by : store_of y ≡ store_of x → map store_of now ≡ map store_of (slice_set xs i y)
  stays_by e = sym (stores_stay xs i y (e ∙ ap store_of the_block) ∙ ap (map store_of) is)

  pub out_stores : (r : Copied) (content : List ℕ) → IsCopiedOut r content x y → map store_of now ≡ map store_of (slice_set xs i y)
  out_stores r content h = stays_by (out_stays r content x y h)

  pub in_stores : (r : Copied) (content : List ℕ) → IsCopiedIn r content x y → map store_of now ≡ map store_of (slice_set xs i y)
  in_stores r content h = stays_by (in_stays r content x y h)

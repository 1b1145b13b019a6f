-- Tries, one after the other.
use Rattle.std.proofs.Common.{◌≡◌, ◌<◌, ◌≤◌, ℕ, zero, suc, ◌+◌, ◌-◌, true, false, not, is_some, inl, inr, List, [], ◌∷◌, option_map, refl, ap, sym, ◌∙◌, arith, Option, Some, None, get_or-set_other}
use Rattle.block_machine.specs.nv_base.Count.{Rose, WereCounted}
use Rattle.ram_blocks.specs.Told.{Told, Synchronized, IsSynchronized, told_at, refusals_by, refusals_of, to_refuse_by, to_refuse_of, sizes_of}
use Rattle.ram_blocks.specs.Copies.{Refuses, NoneIsRefused, with_refused, changed, handed_over}
use Rattle.ram_blocks.specs.Tries.{Spends, OnlyCounts, OnlyRefuses, OthersStay}
use Rattle.ram_blocks.proofs.Spending.{spends_none, spends_refused, spends_made}

-- A CHANGE OF WHAT IS TOLD OF ONE BLOCK

bytes_by : (f : Synchronized → Synchronized) → ((s : Synchronized) → (f s).bytes ≡ s.bytes) → (t : Told)
    → option_map (λ (s : Synchronized). s.bytes) (option_map f t) ≡ option_map (λ (s : Synchronized). s.bytes) t
bytes_by f same None = refl
bytes_by f same (Some s) = ap Some (same s)

sizes_stay : (f : Synchronized → Synchronized) → ((s : Synchronized) → (f s).bytes ≡ s.bytes) → (ts : List Told) (k : ℕ)
    → sizes_of (changed k f ts) ≡ sizes_of ts
sizes_stay f same [] k = refl
sizes_stay f same (t ∷ ts) zero = ap (λ x. x ∷ sizes_of ts) (bytes_by f same t)
sizes_stay f same (t ∷ ts) (suc k) = ap (λ xs. option_map (λ (s : Synchronized). s.bytes) t ∷ xs) (sizes_stay f same ts k)

now_at : (f : Synchronized → Synchronized) (ts : List Told) (k : ℕ) → told_at (changed k f ts) k ≡ option_map f (told_at ts k)
now_at f [] k = refl
now_at f (t ∷ ts) zero = refl
now_at f (t ∷ ts) (suc k) = now_at f ts k

still : (f : Synchronized → Synchronized) → ((s : Synchronized) → (f s).bytes ≡ s.bytes) → (ts : List Told) (k bytes : ℕ)
    → IsSynchronized ts k bytes → IsSynchronized (changed k f ts) k bytes
still f same ts k bytes h = ap (option_map (λ (s : Synchronized). s.bytes)) (now_at f ts k) ∙ bytes_by f same (told_at ts k) ∙ h

others_stay : (f : Synchronized → Synchronized) (ts : List Told) (k : ℕ) → OthersStay k ts (changed k f ts)
others_stay f ts k b other = get_or-set_other ts k b (option_map f (told_at ts k)) None other

-- COUNTS OF ONE BLOCK

abbrev counting : ℕ → Option ℕ → Synchronized → Synchronized
counting n left s = record s { refusals = n; to_refuse = left }

same_by : (t : Told) → option_map (counting (refusals_by t) (to_refuse_by t)) t ≡ t
same_by None = refl
same_by (Some s) = refl

same_counts : (ts : List Told) (k : ℕ) → ts ≡ changed k (counting (refusals_of ts k) (to_refuse_of ts k)) ts
same_counts [] k = refl
same_counts (t ∷ ts) zero = ap (λ x. x ∷ ts) (sym (same_by t))
same_counts (t ∷ ts) (suc k) = ap (λ xs. t ∷ xs) (same_counts ts k)

abbrev one_fewer : Option ℕ → Option ℕ
one_fewer left = option_map (λ k. k - 1) left

twice_by : (n m : ℕ) (left : Option ℕ) (t : Told) → option_map (with_refused m) (option_map (counting n left) t) ≡ option_map (counting m (one_fewer left)) t
twice_by n m left None = refl
twice_by n m left (Some s) = refl

counted_twice : (n m : ℕ) (left : Option ℕ) (ts : List Told) (k : ℕ) → changed k (with_refused m) (changed k (counting n left) ts) ≡ changed k (counting m (one_fewer left)) ts
counted_twice n m left [] k = refl
counted_twice n m left (t ∷ ts) zero = ap (λ x. x ∷ ts) (twice_by n m left t)
counted_twice n m left (t ∷ ts) (suc k) = ap (λ xs. t ∷ xs) (counted_twice n m left ts k)

refusals_at : (n bytes : ℕ) (t : Told) → option_map (λ (s : Synchronized). s.bytes) t ≡ Some bytes → refusals_by (option_map (with_refused n) t) ≡ n
refusals_at n bytes None h = cc
refusals_at n bytes (Some s) h = refl

pub counts_sizes : (old new : List Told) (block : ℕ) → OnlyCounts block old new → sizes_of new ≡ sizes_of old
counts_sizes old new block (n, left, is) = rw is (sizes_stay (counting n left) (λ s. refl) old block)

-- one fewer is to be refused, or as many as before
fewer_by : (n : ℕ) (t : Told) → to_refuse_by (option_map (with_refused n) t) ≡ one_fewer (to_refuse_by t)
fewer_by n None = refl
fewer_by n (Some s) = refl

fewer : (old new : List Told) (block n : ℕ) → new ≡ changed block (with_refused n) old → to_refuse_of new block ≡ one_fewer (to_refuse_of old block)
fewer old new block n is = ap (λ ts. to_refuse_of ts block) is ∙ ap to_refuse_by (now_at (with_refused n) old block) ∙ fewer_by n (told_at old block)

as_many_by : (content : List ℕ) (t : Told) → to_refuse_by (option_map (handed_over content) t) ≡ to_refuse_by t
as_many_by content None = refl
as_many_by content (Some s) = refl

as_many : (old new : List Told) (block : ℕ) (content : List ℕ) → new ≡ changed block (handed_over content) old → to_refuse_of new block ≡ to_refuse_of old block
as_many old new block content is =
    ap (λ ts. to_refuse_of ts block) is ∙ ap to_refuse_by (now_at (handed_over content) old block) ∙ as_many_by content (told_at old block)

-- REFUSALS
refuses_by : (n : ℕ) (t : Told) → refusals_by t ≤ n → refusals_by t ≤ refusals_by (option_map (with_refused n) t)
refuses_by n None low = omega arith
refuses_by n (Some s) low = low

counts_refuse : (n : ℕ) (ts : List Told) (k : ℕ) → refusals_of ts k ≤ n → OnlyRefuses ts (changed k (with_refused n) ts)
counts_refuse n [] k low b = omega arith
counts_refuse n (t ∷ ts) zero low zero = refuses_by n t low
counts_refuse n (t ∷ ts) zero low (suc b) = omega arith
counts_refuse n (t ∷ ts) (suc k) low zero = omega arith
counts_refuse n (t ∷ ts) (suc k) low (suc b) = counts_refuse n ts k low b

handed_by : (content : List ℕ) (t : Told) → refusals_by t ≤ refusals_by (option_map (handed_over content) t)
handed_by content None = omega arith
handed_by content (Some s) = omega arith

hands_refuse : (content : List ℕ) (ts : List Told) (k : ℕ) → OnlyRefuses ts (changed k (handed_over content) ts)
hands_refuse content [] k b = omega arith
hands_refuse content (t ∷ ts) zero zero = handed_by content t
hands_refuse content (t ∷ ts) zero (suc b) = omega arith
hands_refuse content (t ∷ ts) (suc k) zero = omega arith
hands_refuse content (t ∷ ts) (suc k) (suc b) = hands_refuse content ts k b

refuses_on : (old mid new : List Told) → OnlyRefuses old mid → OnlyRefuses mid new → OnlyRefuses old new
refuses_on old mid new first next b = omega (arith, first b, next b)

rose_low : (before after : ℕ) → Rose before after → before ≤ after
rose_low before after (inl rose) = omega (arith, rose)
rose_low before after (inr end) = end.1

-- SO MANY TRIES

-- what holds of the block between two tries
pub record IsTrying (old now : List Told) (block bytes : ℕ) : Type 0 where
  pub counts : OnlyCounts block old now
  pub refuses : OnlyRefuses old now
  pub synchronized : IsSynchronized now block bytes

begins : (old : List Told) (block bytes : ℕ) → IsSynchronized old block bytes → IsTrying old old block bytes
begins old block bytes h = record { counts = (refusals_of old block, to_refuse_of old block, same_counts old block); refuses = λ b. omega arith; synchronized = h }

pub refused_try : (old now new : List Told) (block bytes : ℕ) → IsTrying old now block bytes → Refuses block now new → IsTrying old new block bytes
refused_try old now new block bytes h (n, rose, some, is) = rw is (record {
  counts = (n, one_fewer h.counts.1, ap (changed block (with_refused n)) h.counts.2 ∙ counted_twice h.counts.0 n h.counts.1 old block);
  refuses = refuses_on old now (changed block (with_refused n) now) h.refuses (counts_refuse n now block (rose_low (refusals_of now block) n rose));
  synchronized = still (with_refused n) (λ s. refl) now block bytes h.synchronized;
})

counted_by : (i before mid next : ℕ) → WereCounted i before mid → Rose mid next → WereCounted (i + 1) before next
counted_by i before mid next (inl so) (inl rose) = inl (omega (arith, so, rose))
counted_by i before mid next (inl so) (inr rose) = inr (omega (arith, rose.0, rose.1))
counted_by i before mid next (inr end) (inl rose) = inr (omega (arith, end, rose))
counted_by i before mid next (inr end) (inr rose) = inr (omega (arith, rose.0, rose.1))

refused_counted : (old now new : List Told) (block bytes i : ℕ) → IsSynchronized now block bytes → Refuses block now new
    → WereCounted i (refusals_of old block) (refusals_of now block) → WereCounted (i + 1) (refusals_of old block) (refusals_of new block)
refused_counted old now new block bytes i h (n, rose, some, is) so =
    let count : refusals_of new block ≡ n = ap (λ ts. refusals_of ts block) is
    ∙ ap refusals_by (now_at (with_refused n) now block) ∙ refusals_at n bytes (told_at now block) h in
    rw count (counted_by i (refusals_of old block) (refusals_of now block) n so rose)

-- A CONTENT IS HANDED OVER

last_at : (content : List ℕ) (bytes : ℕ) (t : Told) → option_map (λ (s : Synchronized). s.bytes) t ≡ Some bytes
    → option_map (λ (s : Synchronized). s.last) (option_map (handed_over content) t) ≡ Some content
last_at content bytes None h = cc
last_at content bytes (Some s) h = refl

pub handed_sizes : (old now new : List Told) (block bytes : ℕ) (content : List ℕ) → IsTrying old now block bytes
    → new ≡ changed block (handed_over content) now → sizes_of new ≡ sizes_of old
handed_sizes old now new block bytes content h is = rw is (sizes_stay (handed_over content) (λ s. refl) now block ∙ counts_sizes old now block h.counts)

pub handed_refuses : (old now new : List Told) (block bytes : ℕ) (content : List ℕ) → IsTrying old now block bytes
    → new ≡ changed block (handed_over content) now → OnlyRefuses old new
handed_refuses old now new block bytes content h is = rw is (refuses_on old now (changed block (handed_over content) now) h.refuses (hands_refuse content now block))

-- THE LOOPS

-- a store with this number is too old for what was asked, and was some content
pub record IsOlder (asked n : ℕ) (IsStore : ℕ → List ℕ → Type 0) : Type 0 where
  pub low : n < asked
  pub content : List ℕ
  pub is : IsStore n content

abbrev pub AreOlder : ℕ → Option ℕ → (ℕ → List ℕ → Type 0) → Type 0
AreOlder asked None IsStore = Unit {0}
AreOlder asked (Some n) IsStore = IsOlder asked n IsStore

-- after so many tries of a copy out, of which none was new enough
pub record IsTriedOut (old now : List Told) (block bytes asked i : ℕ) (last : Option ℕ) (IsStore : ℕ → List ℕ → Type 0) : Type 0 where
  pub trying : IsTrying old now block bytes
  pub older : AreOlder asked last IsStore
  pub counted : last ≡ None → WereCounted i (refusals_of old block) (refusals_of now block)
  pub spent : Spends (not (is_some last)) i (to_refuse_of old block) (to_refuse_of now block)

pub begins_out : (old : List Told) (block bytes asked : ℕ) (IsStore : ℕ → List ℕ → Type 0) → IsSynchronized old block bytes
    → IsTriedOut old old block bytes asked 0 None IsStore
begins_out old block bytes asked IsStore h = record {
  trying = begins old block bytes h;
  older = tt;
  counted = λ e. inl (omega arith);
  spent = spends_none (to_refuse_of old block);
}

older_stays : (asked : ℕ) (last : Option ℕ) (Before After : ℕ → List ℕ → Type 0) → ((n : ℕ) (x : List ℕ) → Before n x → After n x)
    → AreOlder asked last Before → AreOlder asked last After
older_stays asked None Before After stays h = tt
older_stays asked (Some n) Before After stays h = record { low = h.low; content = h.content; is = stays n h.content h.is }

pub refused_out : (old now new : List Told) (block bytes asked i : ℕ) (last : Option ℕ) (Before After : ℕ → List ℕ → Type 0)
    → ((n : ℕ) (x : List ℕ) → Before n x → After n x)
    → IsTriedOut old now block bytes asked i last Before → Refuses block now new → IsTriedOut old new block bytes asked (i + 1) last After
refused_out old now new block bytes asked i last Before After stays h refuses = record {
  trying = refused_try old now new block bytes h.trying refuses;
  older = older_stays asked last Before After stays h.older;
  counted = λ e. refused_counted old now new block bytes i h.trying.synchronized refuses (h.counted e);
  spent = spends_refused (not (is_some last)) i (to_refuse_of old block) (to_refuse_of now block) h.spent refuses.2 (to_refuse_of new block) (fewer now new block refuses.0 refuses.3);
}

pub stale_out : (old now new : List Told) (block bytes asked i n : ℕ) (last : Option ℕ) (Before After : ℕ → List ℕ → Type 0) (content : List ℕ)
    → IsTriedOut old now block bytes asked i last Before → NoneIsRefused now block × (new ≡ now) → n < asked → After n content
    → IsTriedOut old new block bytes asked (i + 1) (Some n) After
stale_out old now new block bytes asked i n last Before After content h (none, is) low store = record {
  trying = rw is h.trying;
  older = record { low = low; content = content; is = store };
  counted = λ e. cc (e);
  spent = spends_made (not (is_some last)) i (i + 1) (to_refuse_of old block) (to_refuse_of now block) h.spent none (omega arith) (to_refuse_of new block)
      (ap (λ ts. to_refuse_of ts block) is);
}

-- a copy that was made spends those that were to be refused
pub made_out : (old now new : List Told) (block bytes asked i tries : ℕ) (last : Option ℕ) (IsStore : ℕ → List ℕ → Type 0)
    → IsTriedOut old now block bytes asked i last IsStore → NoneIsRefused now block × (new ≡ now) → i < tries
    → Spends false tries (to_refuse_of old block) (to_refuse_of new block)
made_out old now new block bytes asked i tries last IsStore h (none, is) below =
    spends_made (not (is_some last)) i tries (to_refuse_of old block) (to_refuse_of now block) h.spent none below (to_refuse_of new block)
    (ap (λ ts. to_refuse_of ts block) is)

-- after so many tries of a copy in, each of which was refused
pub record IsTriedIn (old now : List Told) (block bytes i : ℕ) : Type 0 where
  pub trying : IsTrying old now block bytes
  pub counted : WereCounted i (refusals_of old block) (refusals_of now block)
  pub spent : Spends true i (to_refuse_of old block) (to_refuse_of now block)

pub begins_in : (old : List Told) (block bytes : ℕ) → IsSynchronized old block bytes → IsTriedIn old old block bytes 0
begins_in old block bytes h = record { trying = begins old block bytes h; counted = inl (omega arith); spent = spends_none (to_refuse_of old block) }

pub refused_in : (old now new : List Told) (block bytes i : ℕ) → IsTriedIn old now block bytes i → Refuses block now new
    → IsTriedIn old new block bytes (i + 1)
refused_in old now new block bytes i h refuses = record {
  trying = refused_try old now new block bytes h.trying refuses;
  counted = refused_counted old now new block bytes i h.trying.synchronized refuses h.counted;
  spent = spends_refused true i (to_refuse_of old block) (to_refuse_of now block) h.spent refuses.2 (to_refuse_of new block) (fewer now new block refuses.0 refuses.3);
}

pub made_in : (old now new : List Told) (block bytes i tries : ℕ) (content : List ℕ) → IsTriedIn old now block bytes i → NoneIsRefused now block
    → new ≡ changed block (handed_over content) now → i < tries → Spends false tries (to_refuse_of old block) (to_refuse_of new block)
made_in old now new block bytes i tries content h none is below =
    spends_made true i tries (to_refuse_of old block) (to_refuse_of now block) h.spent none below (to_refuse_of new block) (as_many now new block content is)

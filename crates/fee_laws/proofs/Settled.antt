-- What a commit beside a switch changes of what its target may show.
use Rattle.std.specs.Prelude.{◌||◌, not, map, IfSome, IsTrue}
use Rattle.std.proofs.Common.{◌≡◌, ◌≢◌, ◌≤◌, ◌<◌, ◌==◌, ℕ, suc, Bool, true, false, if◌then◌else◌, List, [], ◌∷◌, length, Option, Some, None, refl, sym, ap, ◌∙◌, arith}
use Rattle.std.proofs.lemmas.Bool.{cond_both, eqb-true, eqb-false, eq-eqb, ne_eqb}
use Rattle.nv_base.specs.Lengths.{AreLengths}
use Rattle.nv_base.specs.declared.instance.DeviceNumber.{DeviceNumber}
use Rattle.nv_base.specs.declared.mark.Mark.{Mark}
use Rattle.memif.specs.Told.{Held, held_next, never_written, IfElse, at_number, length_of, slot_at}
use Rattle.memif.specs.Marks.{Keeps, SettlesAs}
use Rattle.fee_format.specs.declared.rec_head.RecHead.{RecHead}
use Rattle.fee_image.specs.Bank.{Bank}
use Rattle.fee_image.specs.Image.{Layout, bank_in}
use Rattle.fee_image.specs.declared.place.Place.{Place}
use Rattle.fee_image.specs.declared.place.Place.TheVariants.{Content, Invalid, Erased, Unwritten}
use Rattle.fee_image.specs.Places.{count_at, held_at, is_written, noted, place_at}
use Rattle.fee_image.specs.Copies.{Flag, Each, Copies, is_done, settled_at}
use Rattle.fee_switch_laws.specs.fee_switch.declared.active.ActiveBank.{ActiveBank}
use Rattle.fee_image.specs.Found.{fits}
use Rattle.fee_switch_laws.specs.fee_log.Index.{place_in}
use Rattle.fee_switch_laws.specs.fee_log.Log.{LogState}
use Rattle.fee_course.specs.declared.course.Copying.{Copying}
use Rattle.fee_course.specs.declared.course.Course.{Course}
use Rattle.fee_course.specs.declared.course.Course.TheVariants as course
use Rattle.fee_switch_laws.specs.fee_switch.Banks.{appended_at}
use Rattle.fee_switch_laws.specs.Flags.{IsOpenFor}
use Rattle.fee_switch_laws.specs.Shown.{old_shown}
use Rattle.fee_switch_laws.proofs.Flags.{is_placed}
use Rattle.fee_told.specs.Slots.{held_all, settled_in, slots_with, writes_of}
use Rattle.fee_laws.specs.Copied.{flags_of, IsCopyIn}
use Rattle.fee_laws.proofs.Beside.{or_left}
use Rattle.fee_laws.proofs.Marks.{place_of_number, settled_of, shows_at}
use Rattle.fee_laws.proofs.Noted.{not_fits}

-- WHAT IS SETTLED
abbrev at : List (DeviceNumber × ℕ) → List Held → ℕ → Held
at ns ms n = at_number never_written ns ms n

head_at : (x : DeviceNumber × ℕ) (xs : List (DeviceNumber × ℕ)) (m : Held) (ms : List Held) → at (x ∷ xs) (m ∷ ms) x.0.0 ≡ m
head_at x xs m ms = rw (eq-eqb x.0.0 x.0.0 refl) refl

tail_at : (x : DeviceNumber × ℕ) (xs : List (DeviceNumber × ℕ)) (m : Held) (ms : List Held) (n : ℕ) → x.0.0 ≢ n → at (x ∷ xs) (m ∷ ms) n ≡ at xs ms n
tail_at x xs m ms n differs = rw (ne_eqb x.0.0 n differs) refl

-- one number's is settled then, and all others stay
pub record SettlesOne (low number : ℕ) (settled : Held) (ns : List (DeviceNumber × ℕ)) (ms next : List Held) : Type 0 where
  pub one : low < number → at ns next number ≡ settled
  pub others : (n : ℕ) → low < n → n ≢ number → at ns next n ≡ at ns ms n

later : (low number : ℕ) (settled : Held) (x : DeviceNumber × ℕ) (xs : List (DeviceNumber × ℕ)) (m k : Held) (ms next : List Held) → low < x.0.0 → SettlesOne low number settled (x ∷ xs) (m ∷ ms) (k ∷ next) → SettlesOne x.0.0 number settled xs ms next
later low number settled x xs m k ms next less is = record {
  one = λ more. (let differs : x.0.0 ≢ number = λ same. omega (arith, more, same) in sym (tail_at x xs k next number differs) ∙ is.one (omega (arith, less, more)));
  others = λ n more other. (let differs : x.0.0 ≢ n = λ same. omega (arith, more, same) in sym (tail_at x xs k next n differs) ∙ is.others n (omega (arith, less, more)) other ∙ tail_at x xs m ms n differs);
}

-- behind a record its number has a place
-- a record that is noted is its number's
abbrev pub Notes : RecHead → List (DeviceNumber × ℕ) → Type 0
Notes h [] = Unit {0}
Notes h (x ∷ xs) = (fits x.0.0 x.1 h ≡ (x.0.0 == h.number.0)) × Notes h xs

differs_by : (x : DeviceNumber × ℕ) (h : RecHead) → x.0.0 ≢ h.number.0 → fits x.0.0 x.1 h ≡ (x.0.0 == h.number.0)
differs_by x h differs = rw (not_fits x.0.0 x.1 h (λ same. differs (sym same)), ne_eqb x.0.0 h.number.0 differs) refl

notes_above : (low : ℕ) (h : RecHead) (ns : List (DeviceNumber × ℕ)) → AreLengths low ns → h.number.0 ≤ low → Notes h ns
notes_above low h [] are le = tt
notes_above low h (x ∷ xs) are le =
    let more = are.0 in
    (differs_by x h (λ same. omega (arith, more, same, le)), notes_above x.0.0 h xs are.4 (omega (arith, more, le)))

pub notes : (low : ℕ) (h : RecHead) (size : ℕ) (ns : List (DeviceNumber × ℕ)) → AreLengths low ns → length_of ns h.number.0 ≡ Some size → fits h.number.0 size h ≡ true → Notes h ns
notes low h size [] are is fit = tt
notes low h size (x ∷ xs) are is fit = by_test (λ at. notes x.0.0 h size xs are.4 at fit) (x.0.0 == h.number.0) refl is
  where
    by_test : (length_of xs h.number.0 ≡ Some size → Notes h xs) → (b : Bool) → (x.0.0 == h.number.0) ≡ b → (if b then Some x.1 else length_of xs h.number.0) ≡ Some size → Notes h (x ∷ xs)
    by_test rest true e is =
        let same : x.0.0 ≡ h.number.0 = eqb-true x.0.0 h.number.0 e in
        let one : x.1 ≡ size = cc is in
        ((λ i. fits (same i) (one i) h) ∙ fit ∙ sym e, notes_above x.0.0 h xs are.4 (omega (arith, same)))
    by_test rest false e is = (differs_by x h (eqb-false x.0.0 h.number.0 e), rest is)

-- one flag, behind a record that is noted for its number alone
flag_then : (low : ℕ) (h : RecHead) (settled : Held) (x : DeviceNumber × ℕ) (xs : List (DeviceNumber × ℕ)) (p q : Place) (c : Bool) (m k : Held) (ms next : List Held) → low < x.0.0 → true ≡ is_written q → fits x.0.0 x.1 h ≡ (x.0.0 == h.number.0)
    → SettlesOne low h.number.0 settled (x ∷ xs) (m ∷ ms) (k ∷ next)
    → record { number = x.0.0; length = x.1; copied = c; written = is_written (if fits x.0.0 x.1 h then q else p); settled = k }
    ≡ (let f : Flag = record { number = x.0.0; length = x.1; copied = c; written = is_written p; settled = m } in if x.0.0 == h.number.0 then record f { written = true; settled = settled } else f)
flag_then low h settled x xs p q c m k ms next less new fit is = by_test (fits x.0.0 x.1 h) (x.0.0 == h.number.0) refl fit
  where
    by_test : (a b : Bool) → (x.0.0 == h.number.0) ≡ b → a ≡ b → record { number = x.0.0; length = x.1; copied = c; written = is_written (if a then q else p); settled = k }
        ≡ (let f : Flag = record { number = x.0.0; length = x.1; copied = c; written = is_written p; settled = m } in if b then record f { written = true; settled = settled } else f)
    by_test true true e both =
        let same : x.0.0 ≡ h.number.0 = eqb-true x.0.0 h.number.0 e in
        let path : k ≡ settled = sym (head_at x xs k next) ∙ ap (at (x ∷ xs) (k ∷ next)) same ∙ is.one (omega (arith, less, same)) in
        λ i. record { number = x.0.0; length = x.1; copied = c; written = sym new i; settled = path i }
    by_test false false e both =
        let path : k ≡ m = sym (head_at x xs k next) ∙ is.others x.0.0 less (eqb-false x.0.0 h.number.0 e) ∙ head_at x xs m ms in
        λ i. record { number = x.0.0; length = x.1; copied = c; written = is_written p; settled = path i }
    by_test true false e both = cc both
    by_test false true e both = cc both

pub flags_settled : (low : ℕ) (h : RecHead) (end : ℕ) (settled : Held) (ns : List (DeviceNumber × ℕ)) (ps : List Place) (flags : List Bool) (ms next : List Held) → AreLengths low ns → Notes h ns → length ms ≡ length ns → length next ≡ length ns
    → SettlesOne low h.number.0 settled ns ms next → flags_of ns (noted ns ps end h) flags next ≡ settled_at h.number.0 settled (flags_of ns ps flags ms)
flags_settled low h end settled [] ps flags ms next are fit a b is = refl
flags_settled low h end settled (x ∷ xs) [] flags ms next are fit a b is = refl
flags_settled low h end settled (x ∷ xs) (p ∷ ps) [] ms next are fit a b is = refl
flags_settled low h end settled (x ∷ xs) (p ∷ ps) (c ∷ flags) [] next are fit a b is = absurd (omega (arith, a))
flags_settled low h end settled (x ∷ xs) (p ∷ ps) (c ∷ flags) (m ∷ ms) [] are fit a b is = absurd (omega (arith, b))
flags_settled low h end settled (x ∷ xs) (p ∷ ps) (c ∷ flags) (m ∷ ms) (k ∷ next) are fit a b is =
    let rest = flags_settled x.0.0 h end settled xs ps flags ms next are.4 fit.1 (omega (arith, a)) (omega (arith, b)) (later low h.number.0 settled x xs m k ms next are.0 is) in
    λ i. flag_then low h settled x xs p (place_at end h) c m k ms next are.0 (is_placed h end) fit.0 is i ∷ rest i

-- as their slots say
if_of : (b : Bool) (P Q : Type 0) → b ≡ true → IfElse b P Q → P
if_of true P Q e is = is
if_of false P Q e is = cc e

else_of : (b : Bool) (P Q : Type 0) → b ≡ false → IfElse b P Q → Q
else_of true P Q e is = cc e
else_of false P Q e is = is

pub settles_one : (number : ℕ) (mark : Mark) (settled : Held) (shown then_shown : ℕ → ℕ → Held) (more then_more : ℕ → List Mark) (ns : List (DeviceNumber × ℕ)) (ms next : List Held) → held_next mark (at ns ms number) ≡ settled
    → ((n : ℕ) → IfElse (n == number) (SettlesAs mark (slot_at ns (slots_with shown more ns ms) n) (slot_at ns (slots_with then_shown then_more ns next) n)) (Keeps (slot_at ns (slots_with shown more ns ms) n) (slot_at ns (slots_with then_shown then_more ns next) n)))
    → SettlesOne 0 number settled ns ms next
settles_one number mark settled shown then_shown more then_more ns ms next counted is = record {
  one = λ low. (let s = if_of (number == number) _ _ (eq-eqb number number refl) (is number) in
      sym (settled_of then_shown then_more ns next number) ∙ s.settled ∙ ap (held_next mark) (settled_of shown more ns ms number) ∙ counted);
  others = λ n low other. (let s = else_of (n == number) _ _ (ne_eqb n number other) (is n) in
      sym (settled_of then_shown then_more ns next n) ∙ s.settled ∙ settled_of shown more ns ms n);
}

-- a place shows how often its number was written
held_count : (b : Bank) (bytes : List ℕ) (length : ℕ) (p : Place) → (held_at b bytes length p).count ≡ count_at p
held_count b bytes length (Content at count) = refl
held_count b bytes length (Invalid count) = refl
held_count b bytes length (Erased count) = refl
held_count b bytes length Unwritten = refl

pub settled_count : (b : Bank) (bytes : List ℕ) (ns : List (DeviceNumber × ℕ)) (ps : List Place) (n size : ℕ) → length_of ns n ≡ Some size → (at ns (held_all b bytes ns ps) n).count ≡ writes_of ns ps n
settled_count b bytes ns ps n size is =
    ap (λ (h : Held). h.count) (shows_at b bytes ns ps n size is) ∙ held_count b bytes size (place_in ns ps n) ∙ ap count_at (place_of_number ns ps n)

-- as many as there are places
held_many : (b : Bank) (bytes : List ℕ) (ns : List (DeviceNumber × ℕ)) (ps : List Place) → length ps ≡ length ns → length (held_all b bytes ns ps) ≡ length ns
held_many b bytes [] ps same = refl
held_many b bytes (n ∷ ns) [] same = absurd (omega (arith, same))
held_many b bytes (n ∷ ns) (q ∷ ps) same = ap suc (held_many b bytes ns ps (omega (arith, same)))

none_many : (ns : List (DeviceNumber × ℕ)) → length (map (λ (n : DeviceNumber × ℕ). never_written) ns) ≡ length ns
none_many [] = refl
none_many (n ∷ ns) = ap suc (none_many ns)

pub settled_many : (l : Layout) (ns : List (DeviceNumber × ℕ)) (bytes : List ℕ) (active : Option ActiveBank) (log : LogState) (body : List ℕ) → length log.places ≡ length ns → length (settled_in l ns bytes (old_shown active log body)) ≡ length ns
settled_many l ns bytes None log body same = none_many ns
settled_many l ns bytes (Some a) log body same = held_many (bank_in l a.head.format a.bank) bytes ns log.places same

pub noted_many : (ns : List (DeviceNumber × ℕ)) (ps : List Place) (at : ℕ) (h : RecHead) → length (noted ns ps at h) ≡ length ps
noted_many [] ps at h = refl
noted_many (n ∷ ns) [] at h = refl
noted_many (n ∷ ns) (q ∷ ps) at h = ap suc (noted_many ns ps at h)

-- THE COPY IN WORK
or_both : (a b : Bool) → a ≡ false → b ≡ false → a || b ≡ false
or_both true b e f = e
or_both false b e f = f

settles_open : (number n : ℕ) (settled : Held) (fs : List Flag) → IsOpenFor number fs → IsOpenFor number (settled_at n settled fs)
settles_open number n settled [] open' = tt
settles_open number n settled (f ∷ fs) open' = (
  cond_both (f.number == n) (record f { written = true; settled = settled }) f (λ (g : Flag). IsTrue (g.number == number) → is_done g ≡ false)
      (λ e same. or_both f.copied false (or_left f.copied (not f.written) (open'.0 same)) refl) (λ e. open'.0),
  settles_open number n settled fs open'.1,
)

settles_copies : (h : RecHead) (body : List ℕ) (n : ℕ) (settled : Held) (fs : List Flag) → h.number.0 ≢ n → Each (Copies h body) fs → Each (Copies h body) (settled_at n settled fs)
settles_copies h body n settled [] differs copies = tt
settles_copies h body n settled (f ∷ fs) differs copies = (
  cond_both (f.number == n) (record f { written = true; settled = settled }) f (Copies h body)
      (λ e same. absurd (differs (sym (eqb-true f.number h.number.0 same) ∙ eqb-true f.number n e))) (λ e. copies.0),
  settles_copies h body n settled fs differs copies.1,
)

-- a copy of another number, or one that sets no flag, goes on
pub settles_in : (sets : Bool) (work : Option RecHead) (buffer : List ℕ) (n : ℕ) (settled : Held) (fs : List Flag) → (sets ≡ true → IfSome work (λ h. h.number.0 ≢ n))
    → IsCopyIn sets work buffer fs → IsCopyIn sets work buffer (settled_at n settled fs)
settles_in sets None buffer n settled fs differs copy = tt
settles_in true (Some h) buffer n settled fs differs copy = (settles_copies h _ n settled fs (differs refl) copy.0, settles_open h.number.0 n settled fs copy.1)
settles_in false (Some h) buffer n settled fs differs copy = (settles_open h.number.0 n settled fs copy.0, settles_open h.number.0 n settled fs copy.1)

-- where an append to its number changes nothing it sets none
abbrev sets_of : Option Course → Bool
sets_of (Some (course.Copy (Some w))) = w.sets
sets_of _ = false

pub sets_none : (w : Copying) → appended_at (Some w.index) (Some (course.Copy (Some w))) ≡ Some (course.Copy (Some w)) → w.sets ≡ false
sets_none w alone =
    let first : appended_at (Some w.index) (Some (course.Copy (Some w))) ≡ Some (course.Copy (Some (record w { sets = false }))) =
    ap (λ (b : Bool). Some (if b then course.Copy (Some (record w { sets = false })) else course.Copy (Some w))) (eq-eqb w.index w.index refl) in
    ap sets_of (sym alone ∙ first)

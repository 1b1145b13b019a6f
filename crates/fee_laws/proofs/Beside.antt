-- What a record that begins changes of an open switch.
use Rattle.std.specs.Prelude.{◌||◌, not, is_some, slice_get, IsTrue}
use Rattle.std.proofs.Common.{◌≡◌, ◌==◌, ℕ, zero, suc, Bool, true, false, if◌then◌else◌, List, [], ◌∷◌, Option, Some, None, refl, ap}
use Rattle.std.proofs.lemmas.Bool.{cond_both, eqb-true}
use Rattle.nv_base.specs.declared.instance.DeviceNumber.{DeviceNumber}
use Rattle.memif.specs.Told.{Held, length_of}
use Rattle.fee_format.specs.declared.rec_head.RecHead.{RecHead}
use Rattle.fee_format.specs.declared.rec_head.RecordKind.{RecordKind}
use Rattle.fee_format.specs.declared.rec_head.RecordKind.TheVariants as kind
use Rattle.fee_image.specs.declared.place.Place.{Place}
use Rattle.fee_image.specs.Places.{is_written}
use Rattle.fee_image.specs.Copies.{Flag, Each, Copies, is_done, cleared}
use Rattle.fee_switch_laws.specs.fee_log.Index.{with_flag}
use Rattle.fee_switch_laws.specs.fee_log.Log.{LogState}
use Rattle.fee_course.specs.declared.course.Course.{Course}
use Rattle.fee_course.specs.declared.course.Course.TheVariants as course
use Rattle.fee_course.specs.Course.{appended_to}
use Rattle.fee_switch_laws.specs.fee_switch.Banks.{BanksState, TakesRecord, appended_at}
use Rattle.fee_switch_laws.specs.Flags.{IsOpenFor}
use Rattle.fee_switch_laws.specs.Shown.{phase_shown}
use Rattle.fee_laws.specs.Copied.{flags_of, IsCopyIn, IsCopying}
use Rattle.fee_laws.specs.Work.{takes_append}
use Rattle.fee_image.specs.Copies.{at_number as flag_at_number}
use Rattle.fee_laws.specs.Inside.{is_copying}

-- THE COURSE
-- it changes no phase
pub appended_phase : (o : Option ℕ) (c : Option Course) (s : BanksState) (log : LogState) (next : Option Course) (content : List ℕ) → phase_shown (appended_at o c) (record s { log = log; course = next }) content ≡ phase_shown c s content
appended_phase None None s log next content = refl
appended_phase None (Some (course.Erase n)) s log next content = refl
appended_phase None (Some (course.Copy w)) s log next content = refl
appended_phase None (Some course.Head) s log next content = refl
appended_phase None (Some (course.Gate failed)) s log next content = refl
appended_phase (Some i) None s log next content = refl
appended_phase (Some i) (Some (course.Erase n)) s log next content = refl
appended_phase (Some i) (Some (course.Copy None)) s log next content = refl
appended_phase (Some i) (Some (course.Copy (Some w))) s log next content =
    cond_both (w.index == i) (course.Copy (Some (record w { sets = false }))) (course.Copy (Some w))
    (λ (c : Course). phase_shown (Some c) (record s { log = log; course = next }) content ≡ phase_shown (Some (course.Copy (Some w))) s content) (λ e. refl) (λ e. refl)
appended_phase (Some i) (Some course.Head) s log next content = refl
appended_phase (Some i) (Some (course.Gate failed)) s log next content = refl

-- and a target is copied as before
pub still_copied : (o : Option ℕ) (c : Option Course) → is_copying (appended_at o c) ≡ is_copying c
still_copied None None = refl
still_copied None (Some c) = refl
still_copied (Some i) None = refl
still_copied (Some i) (Some (course.Erase n)) = refl
still_copied (Some i) (Some (course.Copy None)) = refl
still_copied (Some i) (Some (course.Copy (Some w))) =
    cond_both (w.index == i) (course.Copy (Some (record w { sets = false }))) (course.Copy (Some w)) (λ (c : Course). is_copying (Some c) ≡ true) (λ e. refl) (λ e. refl)
still_copied (Some i) (Some course.Head) = refl
still_copied (Some i) (Some (course.Gate failed)) = refl

-- twice is once
pub appended_again : (o : Option ℕ) (c : Option Course) → appended_at o (appended_at o c) ≡ appended_at o c
appended_again None None = refl
appended_again None (Some c) = refl
appended_again (Some i) None = refl
appended_again (Some i) (Some (course.Erase n)) = refl
appended_again (Some i) (Some (course.Copy None)) = refl
appended_again (Some i) (Some (course.Copy (Some w))) = by_test (w.index == i) refl
  where
    by_test : (b : Bool) → (w.index == i) ≡ b → appended_at (Some i) (Some (if b then course.Copy (Some (record w { sets = false })) else course.Copy (Some w))) ≡ Some (if b then course.Copy (Some (record w { sets = false })) else course.Copy (Some w))
    by_test true e = ap (λ (b : Bool). Some (if b then course.Copy (Some (record w { sets = false })) else course.Copy (Some (record w { sets = false })))) e
    by_test false e = ap (λ (b : Bool). Some (if b then course.Copy (Some (record w { sets = false })) else course.Copy (Some w))) e
appended_again (Some i) (Some course.Head) = refl
appended_again (Some i) (Some (course.Gate failed)) = refl

pub appended_takes : (k : RecordKind) (o : Option ℕ) (c : Option Course) → TakesRecord k c → TakesRecord k (appended_at o c)
appended_takes k None None taken = taken
appended_takes k None (Some c) taken = taken
appended_takes k (Some i) None taken = taken
appended_takes k (Some i) (Some (course.Erase n)) taken = taken
appended_takes k (Some i) (Some (course.Copy None)) taken = taken
appended_takes k (Some i) (Some (course.Copy (Some w))) taken =
    cond_both (w.index == i) (course.Copy (Some (record w { sets = false }))) (course.Copy (Some w)) (λ (c : Course). TakesRecord k (Some c)) (λ e. taken) (λ e. taken)
appended_takes k (Some i) (Some course.Head) taken = taken
appended_takes k (Some i) (Some (course.Gate failed)) taken = taken

-- one is open exactly where one was
pub appended_some : (o : Option ℕ) (c : Option Course) → is_some (appended_at o c) ≡ is_some c
appended_some None None = refl
appended_some None (Some c) = refl
appended_some (Some i) None = refl
appended_some (Some i) (Some c) = refl

pub appended_none : (o : Option ℕ) (c : Option Course) → appended_at o c ≡ None → c ≡ None
appended_none o None none = refl
appended_none o (Some c) none = (let some = appended_some o (Some c) in let shut = ap (λ (x : Option Course). is_some x) none in cc (some, shut))

pub takes_now : (k : RecordKind) (c : Option Course) → TakesRecord k c → takes_append c ≡ true
takes_now k None taken = refl
takes_now k (Some (course.Erase n)) taken = refl
takes_now k (Some (course.Copy w)) taken = refl
takes_now k (Some course.Head) taken = absurd taken
takes_now k (Some (course.Gate failed)) taken = absurd taken

-- beside a switch a content alone begins
pub content_beside : (k : RecordKind) (c : Course) → TakesRecord k (Some c) → k ≡ kind.Content
content_beside k (course.Erase n) taken = taken
content_beside k (course.Copy w) taken = taken
content_beside k course.Head taken = absurd taken
content_beside k (course.Gate failed) taken = absurd taken

-- THE FLAGS
clear_one : (b c : Bool) → (if b then false else (if b then false else c)) ≡ (if b then false else c)
clear_one true c = refl
clear_one false c = refl

pub clear_again : (ns : List (DeviceNumber × ℕ)) (flags : List Bool) (number : ℕ) → with_flag ns (with_flag ns flags number false) number false ≡ with_flag ns flags number false
clear_again [] flags number = refl
clear_again (x ∷ xs) [] number = refl
clear_again (x ∷ xs) (c ∷ cs) number = λ i. clear_one (x.0.0 == number) c i ∷ clear_again xs cs number i

one_set : (x : DeviceNumber × ℕ) (w c b on : Bool) (y : Held)
    → record { number = x.0.0; length = x.1; copied = if b then on else c; written = w; settled = y } ≡ (let f : Flag = record { number = x.0.0; length = x.1; copied = c; written = w; settled = y } in if b then record f { copied = on } else f)
one_set x w c true on y = refl
one_set x w c false on y = refl

-- of one number
pub flags_set : (ns : List (DeviceNumber × ℕ)) (ps : List Place) (flags : List Bool) (held : List Held) (number : ℕ) (on : Bool)
    → flags_of ns ps (with_flag ns flags number on) held ≡ flag_at_number number (λ f. record f { copied = on }) (flags_of ns ps flags held)
flags_set [] ps flags held number on = refl
flags_set (x ∷ xs) [] [] held number on = refl
flags_set (x ∷ xs) [] (c ∷ cs) held number on = refl
flags_set (x ∷ xs) (p ∷ ps) [] held number on = refl
flags_set (x ∷ xs) (p ∷ ps) (c ∷ cs) [] number on = refl
flags_set (x ∷ xs) (p ∷ ps) (c ∷ cs) (y ∷ ys) number on = λ i. one_set x (is_written p) c (x.0.0 == number) on y i ∷ flags_set xs ps cs ys number on i

-- where a configured number stands
pub named : (ns : List (DeviceNumber × ℕ)) (n size : ℕ) → length_of ns n ≡ Some size → (i : ℕ) × (slice_get ns i ≡ Some (record { 0 = n }, size))
named [] n size is = cc is
named (x ∷ xs) n size is = by_test (λ e. named xs n size e) (x.0.0 == n) refl is
  where
    by_test : (length_of xs n ≡ Some size → (i : ℕ) × (slice_get xs i ≡ Some (record { 0 = n }, size))) → (b : Bool) → (x.0.0 == n) ≡ b → (if b then Some x.1 else length_of xs n) ≡ Some size
        → (i : ℕ) × (slice_get (x ∷ xs) i ≡ Some (record { 0 = n }, size))
    by_test rest true e is' = (let same : x.0.0 ≡ n = eqb-true x.0.0 n e in let long : x.1 ≡ size = cc is' in (zero, λ i. Some (record { 0 = same i }, long i)))
    by_test rest false e is' = (let at = rest is' in (suc at.0, at.1))

-- THE COPY IN WORK
pub or_left : (a b : Bool) → a || b ≡ false → a ≡ false
or_left true b e = cc e
or_left false b e = refl

or_right : (a b : Bool) → a || b ≡ false → b ≡ false
or_right true b e = cc e
or_right false b e = e

clears_open : (number n : ℕ) (fs : List Flag) → IsOpenFor number fs → IsOpenFor number (cleared n fs)
clears_open number n [] open' = tt
clears_open number n (f ∷ fs) open' = (
  cond_both (f.number == n) (record f { copied = false }) f (λ (g : Flag). IsTrue (g.number == number) → is_done g ≡ false) (λ e same. or_right f.copied (not f.written) (open'.0 same)) (λ e. open'.0),
  clears_open number n fs open'.1,
)

clears_copies : (h : RecHead) (body : List ℕ) (n : ℕ) (fs : List Flag) → Each (Copies h body) fs → Each (Copies h body) (cleared n fs)
clears_copies h body n [] copies = tt
clears_copies h body n (f ∷ fs) copies = (cond_both (f.number == n) (record f { copied = false }) f (Copies h body) (λ e. copies.0) (λ e. copies.0), clears_copies h body n fs copies.1)

clears_in : (sets : Bool) (work : Option RecHead) (buffer : List ℕ) (n : ℕ) (fs : List Flag) → IsCopyIn sets work buffer fs → IsCopyIn sets work buffer (cleared n fs)
clears_in sets None buffer n fs copy = tt
clears_in true (Some h) buffer n fs copy = (clears_copies h _ n fs copy.0, clears_open h.number.0 n fs copy.1)
clears_in false (Some h) buffer n fs copy = (clears_open h.number.0 n fs copy.0, clears_open h.number.0 n fs copy.1)

sets_none : (sets : Bool) (work : Option RecHead) (buffer : List ℕ) (fs : List Flag) → IsCopyIn sets work buffer fs → IsCopyIn false work buffer fs
sets_none sets None buffer fs copy = tt
sets_none sets (Some h) buffer fs copy = (copy.1, copy.1)

pub clears_copying : (n : ℕ) (c : Course) (work : Option RecHead) (buffer : List ℕ) (fs : List Flag) → IsCopying c work buffer fs → IsCopying c work buffer (cleared n fs)
clears_copying n (course.Erase d) work buffer fs copy = tt
clears_copying n (course.Copy None) work buffer fs copy = tt
clears_copying n (course.Copy (Some w)) work buffer fs copy = clears_in w.sets work buffer n fs copy
clears_copying n course.Head work buffer fs copy = tt
clears_copying n (course.Gate failed) work buffer fs copy = tt

pub appended_copying : (i n : ℕ) (c : Course) (work : Option RecHead) (buffer : List ℕ) (fs : List Flag) → IsCopying c work buffer fs → IsCopying (appended_to i c) work buffer (cleared n fs)
appended_copying i n (course.Erase d) work buffer fs copy = tt
appended_copying i n (course.Copy None) work buffer fs copy = tt
appended_copying i n (course.Copy (Some w)) work buffer fs copy =
    cond_both (w.index == i) (course.Copy (Some (record w { sets = false }))) (course.Copy (Some w)) (λ (c : Course). IsCopying c work buffer (cleared n fs))
    (λ e. clears_in false work buffer n fs (sets_none w.sets work buffer fs copy)) (λ e. clears_in w.sets work buffer n fs copy)
appended_copying i n course.Head work buffer fs copy = tt
appended_copying i n (course.Gate failed) work buffer fs copy = tt

-- THE SETTLED MARKS

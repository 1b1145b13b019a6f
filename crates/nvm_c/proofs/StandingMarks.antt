-- What stands on the flash of a unit, as a list, and as the line of its last start-up.
use Rattle.std.specs.Prelude.{◌↔◌, ◌||◌, ◌&&◌, is_some, min, IfOk, OnErr, IsSome, IsSomeAnd, IsTrue, length, option_map, slice_get, take}
use Rattle.std.specs.declared.alloc.AllocError.{AllocError}
use Rattle.std.proofs.Common.{◌≡◌, ◌<◌, ◌≤◌, ◌+◌, ◌-◌, ◌==◌, ℕ, zero, suc, Bool, true, false, if◌then◌else◌, List, [], ◌∷◌, ◌++◌, get_or, Option, Some, None, Result, Ok, Err, refl, sym, ap, ◌∙◌, subst, arith, append_assoc}
use Rattle.std.proofs.lemmas.Bool.{cond_both, eqb-true}
use Rattle.nvm.specs.nv_base.Count.{last_count}
use Rattle.nvm.specs.nv_base.Lengths.{AreLengths, last_or}
use Rattle.nvm.specs.nv_base.Marks.{instance_of, listed, next_or, number_of}
use Rattle.nvm.specs.nv_base.declared.entry.Entry.{Entry}
use Rattle.nvm.specs.nv_base.declared.instance.DeviceNumber.{DeviceNumber}
use Rattle.nvm.specs.nv_base.declared.instance.Instance.{Instance}
use Rattle.nvm.specs.nv_base.declared.mark.Mark.{Mark}
use Rattle.nvm.specs.nv_base.declared.mark.Mark.TheVariants.{Content, Invalid, Erased}
use Rattle.nvm.specs.memif.Told.{length_of, ops_of}
use Rattle.nvm.specs.fls_model.Attach.{IsFilled}
use Rattle.nvm.specs.fls_model.Told.{IfBothTold, Told, ToldBytes, bytes_now}
use Rattle.fee_core.specs.fee_image.Sound.{IsSoundImage, is_sound_image}
use Rattle.fee_core.proofs.Soundness.{sound_images_compute}
use Rattle.nvm.specs.nvm_flash.fee_laws.Made.{IsMadeOf}
use Rattle.nvm.specs.nvm_flash.fls_told.Device.{is_told_sound}
use Rattle.nvm.specs.nvm_flash.fee_told.Device.{Device, slots_in, tells_now, told_of}
use Rattle.nvm.specs.nvm_flash.nvm_laws.Standing.{marks_standing, settled_marks}
use Rattle.nvm.specs.nvm_flash.promise_device.Bridge.{reading_of}
use Rattle.nvm.specs.nvm_flash.promise_device.Making.{Making, banks_of}
use Rattle.nvm.specs.Unit.{ListsStanding}
use Rattle.nvm_script.specs.Lines.{entry_line}
use Rattle.nvm_c.specs.Unit.{KnowsImage, UnitState, last_line}
use Rattle.nvm_c.specs.declared.standing.LineFault.{LineFault}
use Rattle.nvm_c.specs.declared.standing.LineFault.TheVariants.{Memory}

-- NUMBERS
pub above_last : (low : ℕ) (ns : List (DeviceNumber × ℕ)) (i : ℕ) (d : DeviceNumber × ℕ) → AreLengths low ns → i < length ns → last_or low (take i ns) < (get_or ns i d).0.0
above_last low [] i d ascend few = absurd (omega (arith, few))
above_last low (x ∷ xs) zero d ascend few = ascend.0
above_last low (x ∷ xs) (suc i) d ascend few = above_last x.0.0 xs i d ascend.4 (omega (arith, few))

pub some_bytes : (low : ℕ) (ns : List (DeviceNumber × ℕ)) (i : ℕ) (d : DeviceNumber × ℕ) → AreLengths low ns → i < length ns → 1 ≤ (get_or ns i d).1
some_bytes low [] i d ascend few = absurd (omega (arith, few))
some_bytes low (x ∷ xs) zero d ascend few = ascend.2
some_bytes low (x ∷ xs) (suc i) d ascend few = some_bytes x.0.0 xs i d ascend.4 (omega (arith, few))

above_low : (low : ℕ) (ns : List (DeviceNumber × ℕ)) (i : ℕ) (d : DeviceNumber × ℕ) → AreLengths low ns → i < length ns → low < (get_or ns i d).0.0
above_low low [] i d ascend few = absurd (omega (arith, few))
above_low low (x ∷ xs) zero d ascend few = ascend.0
above_low low (x ∷ xs) (suc i) d ascend few = (let rest = above_low x.0.0 xs i d ascend.4 (omega (arith, few)) in let first = ascend.0 in omega (arith, rest, first))

length_there : (x : DeviceNumber × ℕ) (xs : List (DeviceNumber × ℕ)) (n k : ℕ) → x.0.0 < n → length_of xs n ≡ Some k → length_of (x ∷ xs) n ≡ Some k
length_there x xs n k less is = cond_both (x.0.0 == n) (Some x.1) (length_of xs n) (λ (o : Option ℕ). o ≡ Some k) (λ e. absurd (let same = eqb-true x.0.0 n e in omega (arith, less, same))) (λ e. is)

length_here : (x : DeviceNumber × ℕ) (xs : List (DeviceNumber × ℕ)) → length_of (x ∷ xs) x.0.0 ≡ Some x.1
length_here x xs = grind (arith)

pub configured_at : (low : ℕ) (ns : List (DeviceNumber × ℕ)) (i : ℕ) (d : DeviceNumber × ℕ) → AreLengths low ns → i < length ns → length_of ns (get_or ns i d).0.0 ≡ Some (get_or ns i d).1
configured_at low [] i d ascend few = absurd (omega (arith, few))
configured_at low (x ∷ xs) zero d ascend few = length_here x xs
configured_at low (x ∷ xs) (suc i) d ascend few =
    length_there x xs (get_or xs i d).0.0 (get_or xs i d).1 (above_low x.0.0 xs i d ascend.4 (omega (arith, few))) (configured_at x.0.0 xs i d ascend.4 (omega (arith, few)))

pub last_more : (low : ℕ) (xs : List (DeviceNumber × ℕ)) (x : DeviceNumber × ℕ) → last_or low (xs ++ x ∷ []) ≡ x.0.0
last_more low [] x = refl
last_more low (y ∷ xs) x = last_more y.0.0 xs x

-- MARKS
listed_first : (i : Instance) (mark : Mark) (marks : List (Instance × Mark)) → listed i mark [] ++ marks ≡ listed i mark marks
listed_first i (Content bytes) marks = refl
listed_first i Invalid marks = refl
listed_first i Erased marks = refl

pub standing_more : (held : ℕ → Mark) (xs : List (DeviceNumber × ℕ)) (x : DeviceNumber × ℕ) → marks_standing held (xs ++ x ∷ []) ≡ marks_standing held xs ++ listed (instance_of x.0) (held x.0.0) []
standing_more held [] x = refl
standing_more held (y ∷ xs) x =
    sym (listed_first (instance_of y.0) (held y.0.0) (marks_standing held (xs ++ x ∷ [])))
    ∙ ap (λ ms. listed (instance_of y.0) (held y.0.0) [] ++ ms) (standing_more held xs x)
    ∙ sym (append_assoc (listed (instance_of y.0) (held y.0.0) []) (marks_standing held xs) (listed (instance_of x.0) (held x.0.0) []))
    ∙ ap (λ ms. ms ++ listed (instance_of x.0) (held x.0.0) []) (listed_first (instance_of y.0) (held y.0.0) (marks_standing held xs))

next_listed : (low : ℕ) (i : Instance) (mark : Mark) → low ≤ number_of i → next_or low (listed i mark []) ≤ number_of i + 1
next_listed low i (Content bytes) below = omega arith
next_listed low i Invalid below = omega arith
next_listed low i Erased below = omega (arith, below)

next_append : (low : ℕ) (ms ns : List (Instance × Mark)) → next_or low (ms ++ ns) ≡ next_or (next_or low ms) ns
next_append low [] ns = refl
next_append low (m ∷ ms) ns = next_append (number_of m.0 + 1) ms ns

pub next_on : (ms : List (Instance × Mark)) (n : DeviceNumber) (mark : Mark) → next_or 0 ms ≤ n.0 → next_or 0 (ms ++ listed (instance_of n) mark []) ≤ n.0 + 1
next_on ms n mark below =
    let own : number_of (instance_of n) ≡ n.0 = omega arith in
    let step = next_listed (next_or 0 ms) (instance_of n) mark (omega (arith, below, own)) in
    let all = next_append 0 ms (listed (instance_of n) mark []) in
    omega (arith, step, all, own)

-- so many numbers are listed, and one more
pub listed_more : (o : Option (List ℕ)) (ms added : List (Instance × Mark)) (held : List ℕ → ℕ → Mark) (ns : List (DeviceNumber × ℕ)) (x : DeviceNumber × ℕ) (mark : Mark)
    → added ≡ ms ++ listed (instance_of x.0) mark [] → IsSomeAnd o (λ bytes. ms ≡ marks_standing (held bytes) ns) → IsSomeAnd o (λ bytes. mark ≡ held bytes x.0.0)
    → IsSomeAnd o (λ bytes. added ≡ marks_standing (held bytes) (ns ++ x ∷ []))
listed_more None ms added held ns x mark is so_far one = so_far
listed_more (Some bytes) ms added held ns x mark is so_far one =
    is ∙ (λ i. so_far i ++ listed (instance_of x.0) (one i) []) ∙ sym (standing_more (held bytes) ns x)

-- what a number holds, whatever the bytes are
pub settled_so : (o p : Option (List ℕ)) (size : ℕ) (mark : Mark) (held : List ℕ → Mark) → o ≡ p → IsSomeAnd p (λ bytes. size ≡ length bytes) → ((bytes : List ℕ) → mark ≡ held bytes) → IsSomeAnd o (λ bytes. mark ≡ held bytes)
settled_so (Some bytes) p size mark held same some is = is bytes
settled_so None (Some bytes) size mark held same some is = cc same
settled_so None None size mark held same some is = absurd some

pub none_standing : (o p : Option (List ℕ)) (size : ℕ) (ms : List (Instance × Mark)) (held : List ℕ → ℕ → Mark) → o ≡ p → IsSomeAnd p (λ bytes. size ≡ length bytes) → ms ≡ [] → IsSomeAnd o (λ bytes. ms ≡ marks_standing (held bytes) [])
none_standing (Some bytes) p size ms held same some is = is
none_standing None (Some bytes) size ms held same some is = cc same
none_standing None None size ms held same some is = absurd some

-- THE LINE
-- that of a start-up
pub found_last : (o : Option Entry) (marks : List (Instance × Mark)) (ops : ℕ) → o ≡ Some (Entry.Found marks ops) → (ms : List (Instance × Mark)) × (o ≡ Some (Entry.Found ms ops))
found_last o marks ops is = (marks, is)

-- its device tells what it holds
pub told_sound : (making : Making) (entry : Told) (d : Device) → d.making ≡ making → d.entry ≡ entry → KnowsImage true making entry → tells_now d ≡ true
told_sound making entry d made over knows =
    let sound : is_told_sound (reading_of d.making) (bytes_now d.entry) ≡ true = (λ i. is_told_sound (reading_of (made i)) (bytes_now (over i))) ∙ sym knows.known in
    ap (λ (b : Bool). b || (is_some (bytes_now d.entry) && (length d.operations == 0))) sound

no_length : (n : ℕ) → min n last_count ≡ 0 → (n == 0) ≡ true
no_length n none = grind (arith, none)

or_true : (b : Bool) → (b || true) ≡ true
or_true true = refl
or_true false = refl

pub told_first : (sound : Bool) (making : Making) (entry : Told) (d : Device) → d.making ≡ making → d.entry ≡ entry → KnowsImage sound making entry → ops_of (told_of d) ≡ 0 → tells_now d ≡ true
told_first sound making entry d made over knows none =
    let told : is_some (bytes_now d.entry) ≡ true = ap (λ (t : Told). is_some (bytes_now t)) over ∙ knows.told in
    (λ i. is_told_sound (reading_of d.making) (bytes_now d.entry) || (told i && no_length (length d.operations) none i)) ∙ or_true (is_told_sound (reading_of d.making) (bytes_now d.entry))

line_by : (s : UnitState) (marks : List (Instance × Mark)) (ops : ℕ) (line : List ℕ) → ListsStanding s → s.ready ≡ true → slice_get s.desk.entries (length s.desk.entries - 1) ≡ Some (Entry.Found marks ops)
    → tells_now s.device ≡ true → (o : Option (List ℕ)) → bytes_now s.device.flash ≡ o
    → IsSomeAnd o (λ bytes. line ≡ entry_line (Entry.Found (settled_marks s.device.making.numbers (slots_in s.device bytes)) ops)) → Some line ≡ last_line s
line_by s marks ops line lists ready last tells None is told = absurd told
line_by s marks ops line lists ready last tells (Some bytes) is told =
    let slots : (told_of s.device).slots ≡ Some (slots_in s.device bytes) =
    ap (λ (b : Bool). if b then option_map (slots_in s.device) (bytes_now s.device.flash) else None) tells ∙ ap (λ (o : Option (List ℕ)). option_map (slots_in s.device) o) is in
    let same = lists marks ops (slots_in s.device bytes) ready slots last in
    ap Some (told ∙ ap (λ (ms : List (Instance × Mark)). entry_line (Entry.Found ms ops)) (sym same)) ∙ sym (ap (λ (o : Option Entry). option_map entry_line o) last)

pub line_standing : (s : UnitState) (marks : List (Instance × Mark)) (ops : ℕ) (line : List ℕ) → ListsStanding s → s.ready ≡ true → slice_get s.desk.entries (length s.desk.entries - 1) ≡ Some (Entry.Found marks ops)
    → tells_now s.device ≡ true
    → IsSomeAnd (bytes_now s.device.flash) (λ bytes. line ≡ entry_line (Entry.Found (settled_marks s.device.making.numbers (slots_in s.device bytes)) ops)) → Some line ≡ last_line s
line_standing s marks ops line lists ready last tells told = line_by s marks ops line lists ready last tells (bytes_now s.device.flash) refl told

-- and is told where it is written
pub line_told : (r : Result (List ℕ) AllocError) (t : Result (Option (List ℕ)) LineFault) (want : Option (List ℕ)) (P : List ℕ → Type 0) → IfOk r (λ bytes. t ≡ Ok (Some bytes)) → OnErr r (t ≡ Err Memory) → IfOk r P
    → ((bytes : List ℕ) → P bytes → Some bytes ≡ want) → IfOk t (λ line. line ≡ want)
line_told (Ok bytes) t want P ok err written is = subst (λ (x : Result (Option (List ℕ)) LineFault). IfOk x (λ line. line ≡ want)) (sym ok) (is bytes written)
line_told (Err e) t want P ok err written is = subst (λ (x : Result (Option (List ℕ)) LineFault). IfOk x (λ line. line ≡ want)) (sym err) tt

-- THE IMAGE
same_truth : (a b : Bool) (P : Type 0) → IsTrue a ↔ P → IsTrue b ↔ P → a ≡ b
same_truth true true P is so = refl
same_truth false false P is so = refl
same_truth true false P is so = sym (so.1 (is.0 refl))
same_truth false true P is so = is.1 (so.0 refl)

known_by : (m : Making) (o p : Option ToldBytes) (r : Bool) → IfBothTold o p (IsFilled m.geometry) → IsSomeAnd (option_map (λ (b : ToldBytes). b.now) p) (λ bytes. IsTrue r ↔ IsSoundImage (banks_of m) bytes)
    → IsSome (option_map (λ (b : ToldBytes). b.now) o) × (r ≡ is_told_sound (reading_of m) (option_map (λ (b : ToldBytes). b.now) o))
known_by m (Some a) (Some b) r filled is = (
  refl,
  same_truth r (is_sound_image (banks_of m) b.now) (IsSoundImage (banks_of m) b.now) is (sound_images_compute (banks_of m) b.now) ∙ ap (λ (image : List ℕ). is_sound_image (banks_of m) image) filled.bytes,
)
known_by m o None r filled is = absurd is
known_by m None (Some b) r filled is = absurd filled

pub image_known : (making : Making) (entry : Told) (d : Device) (r : Bool) → IsMadeOf making entry d → IsSomeAnd (bytes_now d.flash) (λ bytes. IsTrue r ↔ IsSoundImage (banks_of making) bytes) → KnowsImage r making entry
image_known making entry d r made is =
    let attached : IfBothTold d.entry.bytes d.flash.bytes (IsFilled making.geometry) = subst (λ (m : Making). IfBothTold d.entry.bytes d.flash.bytes (IsFilled m.geometry)) made.making made.made.attaches.bytes in
    let known = known_by making entry.bytes d.flash.bytes r (subst (λ (t : Told). IfBothTold t.bytes d.flash.bytes (IsFilled making.geometry)) made.told_entry attached) is in
    record { told = known.0; known = known.1 }

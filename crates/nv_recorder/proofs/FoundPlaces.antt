-- Lists of places.
use Rattle.std.proofs.Common.{◌≡◌, ℕ, zero, suc, ◌+◌, ◌<◌, ◌≤◌, List, [], ◌∷◌, ◌++◌, map, length, get_or, set, refl, sym, ap, subst, ◌∙◌, arith, append_assoc, Option, Some, None, MatchOption}
use Rattle.std.proofs.lemmas.List.{length-replicate, length-set, map-set}
use Rattle.std.proofs.Math.Seq.{map-set_same}
use Rattle.nv_base.specs.Lengths.{AreLengths}
use Rattle.nv_base.specs.Marks.{instance_of, number_of, listed, next_or}
use Rattle.nv_base.specs.declared.instance.Instance.{Instance}
use Rattle.nv_base.specs.declared.instance.DeviceNumber.{DeviceNumber}
use Rattle.nv_base.specs.declared.mark.Mark.{Mark}
use Rattle.nv_base.specs.declared.mark.Mark.TheVariants.{Content, Invalid, Erased}
use Rattle.nv_recorder.specs.declared.found_marks.FoundPlace.{FoundPlace}
use Rattle.nv_recorder.specs.declared.event.MarkKind.{MarkKind}
use Rattle.nv_recorder.specs.declared.event.MarkKind.TheVariants as mark
use Rattle.nv_recorder.specs.FoundMarks.{number_at, content_at, IsWhole, AreWhole, zeros_for, place_for, mark_at, listed_at, marks_at, with_mark, with_content}

-- PLACES THAT HOLD NOTHING
pub numbers_first : (ns : List (DeviceNumber × ℕ)) → map number_at (map place_for ns) ≡ ns
numbers_first [] = refl
numbers_first (n ∷ ns) = ap (λ xs. n ∷ xs) (numbers_first ns)

pub whole_first : (ns : List (DeviceNumber × ℕ)) → AreWhole (map place_for ns)
whole_first [] = tt
whole_first (n ∷ ns) = (length-replicate n.1 0, whole_first ns)

pub contents_first : (ns : List (DeviceNumber × ℕ)) → map content_at (map place_for ns) ≡ map zeros_for ns
contents_first [] = refl
contents_first (n ∷ ns) = ap (λ xs. zeros_for n ∷ xs) (contents_first ns)

-- ONE AT AN INDEX
pub whole_at : (ps : List FoundPlace) (i : ℕ) (d : FoundPlace) → i < length ps → AreWhole ps → IsWhole (get_or ps i d)
whole_at [] i d few whole = absurd (omega (arith, few))
whole_at (p ∷ ps) zero d few whole = whole.0
whole_at (p ∷ ps) (suc i) d few whole = whole_at ps i d (omega (arith, few)) whole.1

pub content_whole : (ps : List FoundPlace) (i : ℕ) (d : List ℕ) (p : FoundPlace) → i < length ps → AreWhole ps
    → length (get_or (map content_at ps) i d) ≡ (get_or ps i p).length
content_whole [] i d p few whole = absurd (omega (arith, few))
content_whole (q ∷ ps) zero d p few whole = whole.0
content_whole (q ∷ ps) (suc i) d p few whole = content_whole ps i d p (omega (arith, few)) whole.1

pub whole_set : (ps : List FoundPlace) (i : ℕ) (p : FoundPlace) → AreWhole ps → IsWhole p → AreWhole (set ps i p)
whole_set [] i p whole one = tt
whole_set (q ∷ ps) zero p whole one = (one, whole.1)
whole_set (q ∷ ps) (suc i) p whole one = (whole.0, whole_set ps i p whole.1 one)

pub numbers_set : (ps : List FoundPlace) (i : ℕ) (p d : FoundPlace) → i < length ps → number_at p ≡ number_at (get_or ps i d)
    → map number_at (set ps i p) ≡ map number_at ps
numbers_set [] i p d few same = absurd (omega (arith, few))
numbers_set (q ∷ ps) zero p d few same = ap (λ x. x ∷ map number_at ps) same
numbers_set (q ∷ ps) (suc i) p d few same = ap (λ xs. number_at q ∷ xs) (numbers_set ps i p d (omega (arith, few)) same)

-- THE MARKS
listed_first : (i : Instance) (mark : Mark) (marks : List (Instance × Mark)) → listed i mark [] ++ marks ≡ listed i mark marks
listed_first i (Content bytes) marks = refl
listed_first i Invalid marks = refl
listed_first i Erased marks = refl

-- the marks so far and those of the places that are left
pub marks_on : (so_far : List (Instance × Mark)) (p : FoundPlace) (ps : List FoundPlace)
    → (so_far ++ listed_at p []) ++ marks_at ps ≡ so_far ++ marks_at (p ∷ ps)
marks_on so_far p ps = append_assoc so_far (listed_at p []) (marks_at ps) ∙ ap (λ ms. so_far ++ ms) (listed_first (instance_of p.number) (mark_at p) (marks_at ps))

-- the marks of places with one more
pub marks_more : (ps : List FoundPlace) (p : FoundPlace) → marks_at (ps ++ p ∷ []) ≡ marks_at ps ++ listed_at p []
marks_more [] p = refl
marks_more (q ∷ ps) p =
    sym (listed_first (instance_of q.number) (mark_at q) (marks_at (ps ++ p ∷ [])))
    ∙ ap (λ ms. listed_at q [] ++ ms) (marks_more ps p)
    ∙ sym (append_assoc (listed_at q []) (marks_at ps) (listed_at p []))
    ∙ ap (λ ms. ms ++ listed_at p []) (listed_first (instance_of q.number) (mark_at q) (marks_at ps))

next_listed : (low : ℕ) (i : Instance) (mark : Mark) → low ≤ number_of i → next_or low (listed i mark []) ≤ number_of i + 1
next_listed low i (Content bytes) below = omega arith
next_listed low i Invalid below = omega arith
next_listed low i Erased below = omega (arith, below)

next_append : (low : ℕ) (ms ns : List (Instance × Mark)) → next_or low (ms ++ ns) ≡ next_or (next_or low ms) ns
next_append low [] ns = refl
next_append low (m ∷ ms) ns = next_append (number_of m.0 + 1) ms ns

-- the next place behind the mark of a number
pub next_on : (so_far : List (Instance × Mark)) (p : FoundPlace) → next_or 0 so_far ≤ p.number.0
    → next_or 0 (so_far ++ listed_at p []) ≤ p.number.0 + 1
next_on so_far p below =
    let own : number_of (instance_of p.number) ≡ p.number.0 = omega arith in
    let step = next_listed (next_or 0 so_far) (instance_of p.number) (mark_at p) (omega (arith, below, own)) in
    let all = next_append 0 so_far (listed_at p []) in
    omega (arith, step, all, own)

-- what is held
pub held_number : (kind : MarkKind) (bytes : List ℕ) (p : FoundPlace) → number_at (with_mark kind bytes p) ≡ number_at p
held_number mark.Content bytes p = refl
held_number mark.Invalid bytes p = refl
held_number mark.Erased bytes p = refl

pub held_whole : (kind : MarkKind) (bytes : List ℕ) (p : FoundPlace) → (kind ≡ mark.Content → length bytes ≡ p.length) → IsWhole p → IsWhole (with_mark kind bytes p)
held_whole mark.Content bytes p fits whole = fits refl
held_whole mark.Invalid bytes p fits whole = whole
held_whole mark.Erased bytes p fits whole = whole

-- the contents with what is held at an index
pub held_contents : (kind : MarkKind) (bytes : List ℕ) (ps : List FoundPlace) (i : ℕ) (d : FoundPlace)
    → map content_at (set ps i (with_mark kind bytes (get_or ps i d))) ≡ with_content kind bytes i (map content_at ps)
held_contents mark.Content bytes ps i d = map-set content_at ps i (with_mark mark.Content bytes (get_or ps i d))
held_contents mark.Invalid bytes ps i d = map-set_same content_at ps i (with_mark mark.Invalid bytes (get_or ps i d)) d refl
held_contents mark.Erased bytes ps i d = map-set_same content_at ps i (with_mark mark.Erased bytes (get_or ps i d)) d refl

pub held_length : (kind : MarkKind) (bytes : List ℕ) (i : ℕ) (contents : List (List ℕ)) → length (with_content kind bytes i contents) ≡ length contents
held_length mark.Content bytes i contents = length-set contents i bytes
held_length mark.Invalid bytes i contents = refl
held_length mark.Erased bytes i contents = refl

-- THE PLACES THAT ARE LEFT
-- the first of them is above what is listed so far
pub record IsNext (next : ℕ) (p : FoundPlace) (rest : List FoundPlace) : Type 0 where
  pub above : next ≤ p.number.0
  pub some : 1 ≤ p.length
  pub whole : IsWhole p
  pub ascend : AreLengths p.number.0 (map number_at rest)
  pub others : AreWhole rest

pub next_place : (next low : ℕ) (all : List FoundPlace) (p : FoundPlace) (rest : List FoundPlace) → all ≡ p ∷ rest → next ≤ low + 1
    → AreLengths low (map number_at all) → AreWhole all → IsNext next p rest
next_place next low all p rest is below ascend whole =
    let ascends : AreLengths low (map number_at (p ∷ rest)) = subst (λ (ps : List FoundPlace). AreLengths low (map number_at ps)) is ascend in
    let wholes : AreWhole (p ∷ rest) = subst (λ (ps : List FoundPlace). AreWhole ps) is whole in
    let above = ascends.0 in
    record { above = omega (arith, below, above); some = ascends.2; whole = wholes.0; ascend = ascends.4; others = wholes.1 }

-- the next content is that of the first one
pub next_content : (r : Option (List ℕ)) (n m : ℕ) (old new : List (List ℕ)) (x : List ℕ) (xs : List (List ℕ)) → old ≡ x ∷ xs → n ≡ length old
    → MatchOption r ((n ≡ 0) × (m ≡ 0)) (λ y. (old ≡ y ∷ new) × (m + 1 ≡ n)) → (r ≡ Some x) × (new ≡ xs) × (m ≡ length new)
next_content (Some y) n m old new x xs is count steps =
    let same : y ∷ new ≡ x ∷ xs = sym steps.0 ∙ is in
    let more = ap length steps.0 in
    (ap Some (cc same), cc same, omega (arith, steps.1, count, more))
next_content None n m old new x xs is count steps = let some = ap length is in absurd (omega (arith, steps.0, count, some))

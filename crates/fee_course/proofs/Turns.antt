-- Turns that are left, before and behind an operation.
use Rattle.std.proofs.Common.{◌≡◌, ◌<◌, ◌≤◌, ◌+◌, ◌-◌, ◌*◌, ◌/◌, ℕ, suc, Bool, true, false, ◌&&◌, List, [], ◌∷◌, length, set, Option, Some, None, option_map, refl, subst, cond, eqb, arith}
use Rattle.std.specs.Prelude.{is_some}
use Rattle.std.proofs.lemmas.Bool.{eqb-false, eqb-true, cond_both}
use Rattle.std.proofs.lemmas.Nat.{div-mul-add}
use Rattle.nv_base.specs.Pages.{record_pages_of}
use Rattle.nv_base.specs.declared.instance.DeviceNumber.{DeviceNumber}
use Rattle.fee_image.specs.declared.place.Place.{Place}
use Rattle.fee_image.specs.declared.place.Place.TheVariants.{Content, Invalid, Erased, Unwritten}
use Rattle.fee_course.specs.declared.copies.Source.{Source}
use Rattle.fee_course.specs.declared.course.Copying.{Copying}
use Rattle.fee_course.specs.declared.course.Course.{Course}
use Rattle.fee_course.specs.declared.course.Course.TheVariants.{Erase, Copy, Head, Gate}
use Rattle.fee_course.specs.Copies.{is_left, later, next_copy, turns_of, copies_left, as_copied, as_cleared, as_appended, copies_most, greatest}
use Rattle.fee_course.specs.Course.{pages_begun, begun, settled, page_done, after_done, flag_due, copied_by, turns_left, most_turns, IsFew, IsUnderWay}
use Rattle.fee_course.specs.Laws.{IsBeforeGate, TurnsFall, StaysUnderWay, TurnsAreFew}

-- SUMS
most_is_content : (p length : ℕ) (place : Place) (c : Bool) → turns_of p length place c ≤ record_pages_of length p + 1
most_is_content p length place true = omega arith
most_is_content p length (Content at count) false = omega arith
most_is_content p length (Invalid count) false = omega arith
most_is_content p length (Erased count) false = omega arith
most_is_content p length Unwritten false = omega arith

-- THE NEXT COPY
-- its turns, beside those of the others, are all
abbrev Chosen : ℕ → List (DeviceNumber × ℕ) → List Place → List Bool → Source → Type 0
Chosen p ns ps cs s = (is_left s.place false ≡ true) × (copies_left p ns ps cs ≡ turns_of p s.length s.place false + copies_left p ns ps (set cs s.index true)) × (record_pages_of s.length p ≤ greatest p ns)

none_is_some : {A : Type 0} (x : A) → None ≡ Some x → ⊥
none_is_some x e = cc

chosen_later : (p : ℕ) (n : DeviceNumber × ℕ) (ns : List (DeviceNumber × ℕ)) (x : Place) (ps : List Place) (c : Bool) (cs : List Bool) (o : Option Source) (s : Source)
    → ((t : Source) → o ≡ Some t → Chosen p ns ps cs t) → option_map (later 1) o ≡ Some s → Chosen p (n ∷ ns) (x ∷ ps) (c ∷ cs) s
chosen_later p n ns x ps c cs None s behind e = absurd (none_is_some s e)
chosen_later p n ns x ps c cs (Some t) s behind e =
    let h = behind t refl in
    let same : later 1 t ≡ s = cc in
    let one : t.index + 1 ≡ suc t.index = omega arith in
    let moved : Chosen p (n ∷ ns) (x ∷ ps) (c ∷ cs) (record t { index = suc t.index }) = (h.0, omega (arith, h.1), omega (arith, h.2)) in
    let again : Chosen p (n ∷ ns) (x ∷ ps) (c ∷ cs) (record t { index = t.index + 1 }) = rw one moved in
    subst (Chosen p (n ∷ ns) (x ∷ ps) (c ∷ cs)) same again

chosen_here : (p : ℕ) (n : DeviceNumber × ℕ) (ns : List (DeviceNumber × ℕ)) (x : Place) (ps : List Place) (c : Bool) (cs : List Bool) (s : Source)
    → is_left x c ≡ true → record { index = 0; length = n.1; place = x } ≡ s → Chosen p (n ∷ ns) (x ∷ ps) (c ∷ cs) s
chosen_here p n ns (Content at count) ps false cs s is same = subst (Chosen p (n ∷ ns) (Content at count ∷ ps) (false ∷ cs)) same (refl, omega arith, omega arith)
chosen_here p n ns (Invalid count) ps false cs s is same = subst (Chosen p (n ∷ ns) (Invalid count ∷ ps) (false ∷ cs)) same (refl, omega arith, omega arith)
chosen_here p n ns (Erased count) ps false cs s is same = subst (Chosen p (n ∷ ns) (Erased count ∷ ps) (false ∷ cs)) same (refl, omega arith, omega arith)
chosen_here p n ns Unwritten ps false cs s is same = absurd cc
chosen_here p n ns x ps true cs s is same = absurd cc

chosen_by : (p : ℕ) (n : DeviceNumber × ℕ) (ns : List (DeviceNumber × ℕ)) (x : Place) (ps : List Place) (c : Bool) (cs : List Bool) (s : Source) (b : Bool)
    → is_left x c ≡ b → ((t : Source) → next_copy ns ps cs ≡ Some t → Chosen p ns ps cs t)
    → cond b (Some (record { index = 0; length = n.1; place = x })) (option_map (later 1) (next_copy ns ps cs)) ≡ Some s → Chosen p (n ∷ ns) (x ∷ ps) (c ∷ cs) s
chosen_by p n ns x ps c cs s true is behind e = chosen_here p n ns x ps c cs s is cc
chosen_by p n ns x ps c cs s false is behind e = chosen_later p n ns x ps c cs (next_copy ns ps cs) s behind e

chosen : (p : ℕ) (ns : List (DeviceNumber × ℕ)) (ps : List Place) (cs : List Bool) (s : Source) → next_copy ns ps cs ≡ Some s → Chosen p ns ps cs s
chosen p [] ps cs s e = absurd (none_is_some s e)
chosen p (n ∷ ns) [] cs s e = absurd (none_is_some s e)
chosen p (n ∷ ns) (x ∷ ps) [] s e = absurd (none_is_some s e)
chosen p (n ∷ ns) (x ∷ ps) (c ∷ cs) s e = chosen_by p n ns x ps c cs s (is_left x c) refl (λ (t : Source) h. chosen p ns ps cs t h) e

-- none is left
nothing_left : (p length : ℕ) (place : Place) (c : Bool) → is_left place c ≡ false → turns_of p length place c ≡ 0
nothing_left p length place true is = refl
nothing_left p length Unwritten false is = refl
nothing_left p length (Content at count) false is = absurd cc
nothing_left p length (Invalid count) false is = absurd cc
nothing_left p length (Erased count) false is = absurd cc

none_by : (b : Bool) (s : Source) (o : Option Source) → cond b (Some s) (option_map (later 1) o) ≡ None → (b ≡ false) × (o ≡ None)
none_by true s o e = absurd cc
none_by false s None e = (refl, refl)
none_by false s (Some t) e = absurd cc

none_left : (p : ℕ) (ns : List (DeviceNumber × ℕ)) (ps : List Place) (cs : List Bool) → next_copy ns ps cs ≡ None → copies_left p ns ps cs ≡ 0
none_left p [] ps cs e = refl
none_left p (n ∷ ns) [] cs e = refl
none_left p (n ∷ ns) (x ∷ ps) [] e = refl
none_left p (n ∷ ns) (x ∷ ps) (c ∷ cs) e =
    let h = none_by (is_left x c) _ (next_copy ns ps cs) e in
    omega (arith, nothing_left p n.1 x c h.0, none_left p ns ps cs h.1)

-- a mark without content
three_pages : (p : ℕ) → 16 ≤ p → record_pages_of 0 p ≡ 3
three_pages p low =
    let e = div-mul-add 0 p (p - 1) (omega arith) in
    let f : 0 * p + (p - 1) ≡ 0 + (p - 1) = omega arith in
    let g : (0 + (p - 1)) / p ≡ 0 = subst (λ (x : ℕ). x / p ≡ 0) f e in
    omega (arith, g)

mark_pages : (p length : ℕ) → 16 ≤ p → record_pages_of 0 p ≤ record_pages_of length p
mark_pages p length low = omega (arith, three_pages p low)

pages_are : (p length : ℕ) (place : Place) → 16 ≤ p → is_left place false ≡ true → pages_begun p length place + 1 ≡ turns_of p length place false
pages_are p length (Content at count) low is = refl
pages_are p length (Invalid count) low is = omega (arith, three_pages p low)
pages_are p length (Erased count) low is = omega (arith, three_pages p low)
pages_are p length Unwritten low is = absurd cc

none_is : (o : Option Source) → is_some o ≡ false → o ≡ None
none_is None e = refl
none_is (Some s) e = absurd cc

-- OPERATIONS
module _ (p sectors : ℕ) (ns : List (DeviceNumber × ℕ)) (ps : List Place) where
  settled_turns : (cs : List Bool) → turns_left p sectors ns ps cs None (settled ns ps cs) ≡ copies_left p ns ps cs + 2
  settled_turns cs =
      cond_both (is_some (next_copy ns ps cs)) (Copy None) Head (λ (c : Course). turns_left p sectors ns ps cs None c ≡ copies_left p ns ps cs + 2)
      (λ _. omega arith) (λ e. omega (arith, none_left p ns ps cs (none_is (next_copy ns ps cs) e)))

  erase_falls : (cs : List Bool) (done : ℕ) → done < sectors → turns_left p sectors ns ps cs None (after_done p sectors ns ps cs (Erase done)) + 1 ≡ sectors - done + copies_left p ns ps cs + 2
  erase_falls cs done lt =
      cond_both (eqb (done + 1) sectors) (settled ns ps cs) (Erase (done + 1)) (λ (c : Course). turns_left p sectors ns ps cs None c + 1 ≡ sectors - done + copies_left p ns ps cs + 2)
      (λ e. (let last = eqb-true (done + 1) sectors e in omega (arith, settled_turns cs, last))) (λ e. omega (arith, lt))

  begun_falls : (cs : List Bool) (o : Option Source) → 16 ≤ p → next_copy ns ps cs ≡ o → is_some o ≡ true → turns_left p sectors ns ps cs None (begun p o) + 1 ≡ copies_left p ns ps cs + 2
  begun_falls cs None low is some = absurd cc
  begun_falls cs (Some s) low is some =
      let h = chosen p ns ps cs s is in
      let f = pages_are p s.length s.place low h.0 in
      omega (arith, h.1, f)

  page_falls : (cs : List Bool) (i pages : ℕ) (sets last : Bool) → eqb pages 1 ≡ last → 0 < pages
      → let w : Copying = record { index = i; pages = pages; sets = sets } in
      let done = as_copied (cond (sets && last) (Some i) None) cs in
      turns_left p sectors ns ps done None (cond last (settled ns ps done) (Copy (Some (record w { pages = pages - 1 })))) + 1 ≡ turns_left p sectors ns ps cs None (Copy (Some w))
  page_falls cs i pages true true e some = let one = eqb-true pages 1 e in omega (arith, settled_turns (set cs i true), one)
  page_falls cs i pages false true e some = let one = eqb-true pages 1 e in omega (arith, settled_turns cs, one)
  page_falls cs i pages true false e some = omega arith
  page_falls cs i pages false false e some = omega arith

  falls : (cs : List Bool) (c : Course) → 16 ≤ p → IsUnderWay p sectors ns ps cs c → IsBeforeGate c
      → let done = as_copied (flag_due c) cs in
      turns_left p sectors ns ps done None (after_done p sectors ns ps done c) + 1 ≡ turns_left p sectors ns ps cs None c
  falls cs (Erase done) low is before = erase_falls cs done is.short
  falls cs (Copy None) low is before = omega (arith, begun_falls cs (next_copy ns ps cs) low refl is.fitting)
  falls cs (Copy (Some w)) low is before = page_falls cs w.index w.pages w.sets (eqb w.pages 1) refl is.short
  falls cs Head low is before = refl
  falls cs (Gate failed) low is before = absurd before

  -- UNDER WAY
  settled_stays : (cs : List Bool) → IsUnderWay p sectors ns ps cs (settled ns ps cs)
  settled_stays cs =
      cond_both (is_some (next_copy ns ps cs)) (Copy None) Head (λ (c : Course). IsUnderWay p sectors ns ps cs c)
      (λ e. record { short = tt; fitting = e; few = tt }) (λ e. record { short = tt; fitting = none_is (next_copy ns ps cs) e; few = tt })

  begun_stays : (cs : List Bool) (o : Option Source) → 16 ≤ p → next_copy ns ps cs ≡ o → is_some o ≡ true → IsUnderWay p sectors ns ps cs (begun p o)
  begun_stays cs None low is some = absurd cc
  begun_stays cs (Some s) low is some = let h = chosen p ns ps cs s is in record { short = begun_short s.length s.place; fitting = tt; few = begun_few s.length s.place h.2 }
    where
      begun_short : (length : ℕ) (place : Place) → 0 < pages_begun p length place
      begun_short length (Content at count) = omega arith
      begun_short length (Invalid count) = omega arith
      begun_short length (Erased count) = omega arith
      begun_short length Unwritten = omega arith

      begun_few : (length : ℕ) (place : Place) → record_pages_of length p ≤ greatest p ns → pages_begun p length place ≤ greatest p ns
      begun_few length (Content at count) le = le
      begun_few length (Invalid count) le = omega (arith, mark_pages p length low)
      begun_few length (Erased count) le = omega (arith, mark_pages p length low)
      begun_few length Unwritten le = omega (arith, mark_pages p length low)

  page_stays : (cs : List Bool) (w : Copying) → 0 < w.pages → w.pages ≤ greatest p ns → IsUnderWay p sectors ns ps cs (page_done ns ps cs w)
  page_stays cs w some few =
      cond_both (eqb w.pages 1) (settled ns ps cs) (Copy (Some (record w { pages = w.pages - 1 }))) (λ (c : Course). IsUnderWay p sectors ns ps cs c)
      (λ _. settled_stays cs) (λ e. record { short = more e; fitting = tt; few = omega arith })
    where
      more : eqb w.pages 1 ≡ false → 0 < w.pages - 1
      more e = let h = eqb-false w.pages 1 e in omega arith

  stays : (cs : List Bool) (c : Course) → 16 ≤ p → 0 < sectors → IsUnderWay p sectors ns ps cs c
      → let done = as_copied (flag_due c) cs in IsUnderWay p sectors ns ps done (after_done p sectors ns ps done c)
  stays cs (Erase done) low many is =
      cond_both (eqb (done + 1) sectors) (settled ns ps cs) (Erase (done + 1)) (λ (c : Course). IsUnderWay p sectors ns ps cs c)
      (λ _. settled_stays cs) (λ e. let h = eqb-false (done + 1) sectors e in record { short = let lt = is.short in omega arith; fitting = tt; few = tt })
  stays cs (Copy None) low many is = begun_stays cs (next_copy ns ps cs) low refl is.fitting
  stays cs (Copy (Some w)) low many is = page_stays (as_copied (flag_due (Copy (Some w))) cs) w is.short is.few
  stays cs Head low many is = record { short = tt; fitting = is.fitting; few = tt }
  stays cs (Gate failed) low many is = is

pub stays_under_way : StaysUnderWay
stays_under_way p sectors ns ps cs c low many is = stays p sectors ns ps cs c low many is

-- THE GREATEST FIGURE
copies_few : (p : ℕ) (ns : List (DeviceNumber × ℕ)) (ps : List Place) (cs : List Bool) → copies_left p ns ps cs ≤ copies_most p ns
copies_few p [] ps cs = omega arith
copies_few p (n ∷ ns) [] cs = omega arith
copies_few p (n ∷ ns) (x ∷ ps) [] = omega arith
copies_few p (n ∷ ns) (x ∷ ps) (c ∷ cs) = omega (arith, most_is_content p n.1 x c, copies_few p ns ps cs)

few_by : (p sectors : ℕ) (ns : List (DeviceNumber × ℕ)) (ps : List Place) (cs : List Bool) (a : Option ℕ) (c : Course) → IsFew p ns c → turns_left p sectors ns ps cs a c ≤ most_turns p sectors ns
few_by p sectors ns ps cs a (Erase done) few = omega (arith, copies_few p ns (as_appended a ps) (as_cleared a cs))
few_by p sectors ns ps cs a (Copy None) few = omega (arith, copies_few p ns (as_appended a ps) (as_cleared a cs))
few_by p sectors ns ps cs a (Copy (Some w)) few = omega (arith, copies_few p ns (as_appended a ps) (as_cleared a (as_copied (copied_by (Some w)) cs)))
few_by p sectors ns ps cs a Head few = omega arith
few_by p sectors ns ps cs a (Gate failed) few = omega arith

pub turns_are_few : TurnsAreFew
turns_are_few p sectors ns ps cs a c is = few_by p sectors ns ps cs a c is.few

pub turns_fall : TurnsFall
turns_fall p sectors ns ps cs c low is before = falls p sectors ns ps cs c low is before

-- Turns that are left, beside an append.
use Rattle.std.proofs.Common.{◌≡◌, ◌≢◌, ◌≤◌, ◌+◌, ◌-◌, ◌∙◌, ℕ, zero, suc, Bool, true, false, List, [], ◌∷◌, set, Option, Some, None, ap, refl, sym, cond, eqb, arith}
use Rattle.std.specs.Prelude.{slice_get}
use Rattle.std.proofs.lemmas.Bool.{eq-eqb, eqb-true}
use Rattle.std.proofs.lemmas.List.{set-set, set_comm}
use Rattle.nv_base.specs.Pages.{record_pages_of}
use Rattle.nv_base.specs.declared.instance.DeviceNumber.{DeviceNumber}
use Rattle.fee_image.specs.declared.place.Place.{Place}
use Rattle.fee_image.specs.declared.place.Place.TheVariants.{Content, Invalid, Erased, Unwritten}
use Rattle.fee_course.specs.declared.course.Copying.{Copying}
use Rattle.fee_course.specs.declared.course.Course.TheVariants.{Erase, Copy, Head, Gate}
use Rattle.fee_course.specs.Copies.{turns_of, copies_left, as_copied}
use Rattle.fee_course.specs.Course.{appended_to, copied_by, pages_left, turns_left}
use Rattle.fee_course.specs.Laws.{AppendsAdd, AppendsBegin, AppendsEnd, AppendsGivenUp}

-- SUMS
content_is_more : (p length at count : ℕ) (place : Place) (c : Bool) → turns_of p length place c ≤ turns_of p length (Content at count) false
content_is_more p length at count place true = omega arith
content_is_more p length at count (Content at' more) false = omega arith
content_is_more p length at count (Invalid more) false = omega arith
content_is_more p length at count (Erased more) false = omega arith
content_is_more p length at count Unwritten false = omega arith

content_is_alike : (p length at count at' count' : ℕ) (c : Bool) → turns_of p length (Content at count) c ≡ turns_of p length (Content at' count') c
content_is_alike p length at count at' count' true = refl
content_is_alike p length at count at' count' false = refl

set_alike : (p : ℕ) (ns : List (DeviceNumber × ℕ)) (ps : List Place) (cs : List Bool) (i at count at' count' : ℕ)
    → copies_left p ns (set ps i (Content at count)) cs ≡ copies_left p ns (set ps i (Content at' count')) cs
set_alike p [] ps cs i at count at' count' = refl
set_alike p (n ∷ ns) [] cs i at count at' count' = refl
set_alike p (n ∷ ns) (x ∷ ps) [] zero at count at' count' = refl
set_alike p (n ∷ ns) (x ∷ ps) [] (suc i) at count at' count' = refl
set_alike p (n ∷ ns) (x ∷ ps) (c ∷ cs) zero at count at' count' = ap (λ (t : ℕ). t + copies_left p ns ps cs) (content_is_alike p n.1 at count at' count' c)
set_alike p (n ∷ ns) (x ∷ ps) (c ∷ cs) (suc i) at count at' count' = ap (λ (t : ℕ). turns_of p n.1 x c + t) (set_alike p ns ps cs i at count at' count')

set_more : (p : ℕ) (ns : List (DeviceNumber × ℕ)) (ps : List Place) (cs : List Bool) (i at count : ℕ)
    → copies_left p ns ps cs ≤ copies_left p ns (set ps i (Content at count)) (set cs i false)
set_more p [] ps cs i at count = omega arith
set_more p (n ∷ ns) [] cs i at count = omega arith
set_more p (n ∷ ns) (x ∷ ps) [] zero at count = omega arith
set_more p (n ∷ ns) (x ∷ ps) [] (suc i) at count = omega arith
set_more p (n ∷ ns) (x ∷ ps) (c ∷ cs) zero at count = omega (arith, content_is_more p n.1 at count x c)
set_more p (n ∷ ns) (x ∷ ps) (c ∷ cs) (suc i) at count = omega (arith, set_more p ns ps cs i at count)

set_adds : (p : ℕ) (ns : List (DeviceNumber × ℕ)) (ps : List Place) (cs : List Bool) (i at count : ℕ) (n : DeviceNumber × ℕ)
    → slice_get ns i ≡ Some n
    → copies_left p ns (set ps i (Content at count)) (set cs i false) ≤ copies_left p ns ps cs + (record_pages_of n.1 p + 1)
set_adds p [] ps cs i at count n is = omega arith
set_adds p (m ∷ ns) [] cs i at count n is = omega arith
set_adds p (m ∷ ns) (x ∷ ps) [] zero at count n is = omega arith
set_adds p (m ∷ ns) (x ∷ ps) [] (suc i) at count n is = omega arith
set_adds p (m ∷ ns) (x ∷ ps) (c ∷ cs) zero at count n is =
    let same : m ≡ n = cc in
    let e : record_pages_of m.1 p ≡ record_pages_of n.1 p = ap (λ (y : DeviceNumber × ℕ). record_pages_of y.1 p) same in
    omega (arith, e)
set_adds p (m ∷ ns) (x ∷ ps) (c ∷ cs) (suc i) at count n is = omega (arith, set_adds p ns ps cs i at count n is)

-- FLAGS
differ : (i j : ℕ) → eqb i j ≡ false → i ≢ j
differ i j e same = let t : eqb i j ≡ true = eq-eqb i j same in cc

-- a copy of another number stays
cleared_again : (cs : List Bool) (i index : ℕ) (sets b : Bool) → eqb index i ≡ b
    → set (as_copied (copied_by (Some (record { index = index; pages = 0; sets = cond b false sets }))) (set cs i false)) i false
    ≡ set (as_copied (copied_by (Some (record { index = index; pages = 0; sets = sets }))) cs) i false
cleared_again cs i index true true e = rw (eqb-true index i e) (set-set cs i false false ∙ sym (set-set cs i true false))
cleared_again cs i index false true e = set-set cs i false false
cleared_again cs i index false false e = set-set cs i false false
cleared_again cs i index true false e =
    ap (λ (x : List Bool). set x i false) (sym (set_comm cs index i true false (differ index i e))) ∙ set-set (set cs index true) i false false

-- of one whose append has begun no copy sets the flag
clear_already : (cs : List Bool) (i : ℕ) (w : Copying) (b : Bool) → eqb w.index i ≡ b → set cs i false ≡ cs
    → cond b (Copy (Some (record w { sets = false }))) (Copy (Some w)) ≡ Copy (Some w)
    → set (as_copied (copied_by (Some w)) cs) i false ≡ as_copied (copied_by (Some w)) cs
clear_already cs i w b e clear alone = at w.sets refl
  where
    at : (sets : Bool) → w.sets ≡ sets → set (as_copied (cond sets (Some w.index) None) cs) i false ≡ as_copied (cond sets (Some w.index) None) cs
    at false is = clear
    at true is = other b e alone
      where
        other : (b : Bool) → eqb w.index i ≡ b → cond b (Copy (Some (record w { sets = false }))) (Copy (Some w)) ≡ Copy (Some w) → set (set cs w.index true) i false ≡ set cs w.index true
        other true e alone = absurd cc
        other false e alone = set_comm cs w.index i true false (differ w.index i e) ∙ ap (λ (x : List Bool). set x w.index true) clear

-- APPENDS
pub appends_add : AppendsAdd
appends_add p sectors i ns ps cs (Erase done) n is a b = omega (arith, set_adds p ns ps cs i 0 0 n is)
appends_add p sectors i ns ps cs (Copy work) n is a b = omega (arith, set_adds p ns ps (as_copied (copied_by work) cs) i 0 0 n is)
appends_add p sectors i ns ps cs Head n is a b = omega arith
appends_add p sectors i ns ps cs (Gate failed) n is a b = omega arith

copy_begins : (p sectors i : ℕ) (ns : List (DeviceNumber × ℕ)) (ps : List Place) (cs : List Bool) (index pages : ℕ) (sets b : Bool) → eqb index i ≡ b
    → let w : Copying = record { index = index; pages = pages; sets = sets } in
    turns_left p sectors ns ps (set cs i false) (Some i) (cond b (Copy (Some (record w { sets = false }))) (Copy (Some w))) ≡ turns_left p sectors ns ps cs (Some i) (Copy (Some w))
copy_begins p sectors i ns ps cs index pages sets true e = ap (λ (x : List Bool). copies_left p ns (set ps i (Content 0 0)) x + pages + 2) (cleared_again cs i index sets true e)
copy_begins p sectors i ns ps cs index pages sets false e = ap (λ (x : List Bool). copies_left p ns (set ps i (Content 0 0)) x + pages + 2) (cleared_again cs i index sets false e)

pub appends_begin : AppendsBegin
appends_begin p sectors i ns ps cs (Erase done) = ap (λ (x : List Bool). sectors - done + copies_left p ns (set ps i (Content 0 0)) x + 2) (set-set cs i false false)
appends_begin p sectors i ns ps cs (Copy None) = ap (λ (x : List Bool). copies_left p ns (set ps i (Content 0 0)) x + 0 + 2) (set-set cs i false false)
appends_begin p sectors i ns ps cs (Copy (Some w)) = copy_begins p sectors i ns ps cs w.index w.pages w.sets (eqb w.index i) refl
appends_begin p sectors i ns ps cs Head = refl
appends_begin p sectors i ns ps cs (Gate failed) = refl

clear_at : (cs : List Bool) (i : ℕ) (work : Option Copying) → set cs i false ≡ cs → appended_to i (Copy work) ≡ Copy work → set (as_copied (copied_by work) cs) i false ≡ as_copied (copied_by work) cs
clear_at cs i None clear alone = clear
clear_at cs i (Some w) clear alone = clear_already cs i w (eqb w.index i) refl clear alone

pub appends_end : AppendsEnd
appends_end p sectors i at count ns ps cs (Erase done) clear alone =
    ap (λ (t : ℕ). sectors - done + t + 2) (set_alike p ns ps cs i at count 0 0 ∙ ap (copies_left p ns (set ps i (Content 0 0))) (sym clear))
appends_end p sectors i at count ns ps cs (Copy work) clear alone =
    let due = as_copied (copied_by work) cs in
    ap (λ (t : ℕ). t + pages_left work + 2) (set_alike p ns ps due i at count 0 0 ∙ ap (copies_left p ns (set ps i (Content 0 0))) (sym (clear_at cs i work clear alone)))
appends_end p sectors i at count ns ps cs Head clear alone = refl
appends_end p sectors i at count ns ps cs (Gate failed) clear alone = refl

pub appends_given_up : AppendsGivenUp
appends_given_up p sectors i ns ps cs (Erase done) = omega (arith, set_more p ns ps cs i 0 0)
appends_given_up p sectors i ns ps cs (Copy work) = omega (arith, set_more p ns ps (as_copied (copied_by work) cs) i 0 0)
appends_given_up p sectors i ns ps cs Head = omega arith
appends_given_up p sectors i ns ps cs (Gate failed) = omega arith

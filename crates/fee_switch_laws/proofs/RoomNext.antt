-- The number that is copied next.
use Rattle.std.proofs.Common.{◌≡◌, ◌+◌, ℕ, zero, suc, Bool, true, false, ◌||◌, List, [], ◌∷◌, set, Option, Some, None, option_map, refl, subst, cond, arith}
use Rattle.std.specs.Prelude.{slice_get, is_some}
use Rattle.nv_base.specs.declared.instance.DeviceNumber.{DeviceNumber}
use Rattle.fee_format.specs.declared.rec_head.RecHead.{RecHead}
use Rattle.fee_image.specs.Found.{fits}
use Rattle.fee_image.specs.declared.place.Place.{Place}
use Rattle.fee_image.specs.declared.place.Place.TheVariants.{Content}
use Rattle.fee_image.specs.Places.{place_at, noted}
use Rattle.fee_course.specs.declared.copies.Source.{Source}
use Rattle.fee_course.specs.Copies.{is_left, later, next_copy}
use Rattle.fee_switch_laws.proofs.FlagChoices.{none_is_some}

-- it stands at its place in the list, and has no copy
pub record IsChosen (ns : List (DeviceNumber × ℕ)) (ps : List Place) (cs : List Bool) (s : Source) : Type 0 where
  pub number : DeviceNumber
  pub named : slice_get ns s.index ≡ Some (number, s.length)
  pub place : slice_get ps s.index ≡ Some s.place
  pub clear : slice_get cs s.index ≡ Some false
  pub left : is_left s.place false ≡ true

chosen_later : (n : DeviceNumber × ℕ) (ns : List (DeviceNumber × ℕ)) (x : Place) (ps : List Place) (c : Bool) (cs : List Bool) (o : Option Source) (s : Source)
    → ((t : Source) → o ≡ Some t → IsChosen ns ps cs t) → option_map (later 1) o ≡ Some s → IsChosen (n ∷ ns) (x ∷ ps) (c ∷ cs) s
chosen_later n ns x ps c cs None s behind e = absurd (none_is_some s e)
chosen_later n ns x ps c cs (Some t) s behind e =
    let h = behind t refl in
    let same : later 1 t ≡ s = cc in
    let one : t.index + 1 ≡ suc t.index = omega arith in
    let moved : IsChosen (n ∷ ns) (x ∷ ps) (c ∷ cs) (record t { index = suc t.index }) = record { number = h.number; named = h.named; place = h.place; clear = h.clear; left = h.left } in
    let again : IsChosen (n ∷ ns) (x ∷ ps) (c ∷ cs) (record t { index = t.index + 1 }) = rw one moved in
    subst (IsChosen (n ∷ ns) (x ∷ ps) (c ∷ cs)) same again

chosen_here : (n : DeviceNumber × ℕ) (ns : List (DeviceNumber × ℕ)) (x : Place) (ps : List Place) (c : Bool) (cs : List Bool) (s : Source)
    → is_left x c ≡ true → record { index = 0; length = n.1; place = x } ≡ s → IsChosen (n ∷ ns) (x ∷ ps) (c ∷ cs) s
chosen_here n ns x ps true cs s is same = absurd cc
chosen_here n ns x ps false cs s is same =
    subst (IsChosen (n ∷ ns) (x ∷ ps) (false ∷ cs)) same (record { number = n.0; named = refl; place = refl; clear = refl; left = is })

chosen_by : (n : DeviceNumber × ℕ) (ns : List (DeviceNumber × ℕ)) (x : Place) (ps : List Place) (c : Bool) (cs : List Bool) (s : Source) (b : Bool)
    → is_left x c ≡ b → ((t : Source) → next_copy ns ps cs ≡ Some t → IsChosen ns ps cs t)
    → cond b (Some (record { index = 0; length = n.1; place = x })) (option_map (later 1) (next_copy ns ps cs)) ≡ Some s → IsChosen (n ∷ ns) (x ∷ ps) (c ∷ cs) s
chosen_by n ns x ps c cs s true is behind e = chosen_here n ns x ps c cs s is cc
chosen_by n ns x ps c cs s false is behind e = chosen_later n ns x ps c cs (next_copy ns ps cs) s behind e

pub chosen : (ns : List (DeviceNumber × ℕ)) (ps : List Place) (cs : List Bool) (s : Source) → next_copy ns ps cs ≡ Some s → IsChosen ns ps cs s
chosen [] ps cs s e = absurd (none_is_some s e)
chosen (n ∷ ns) [] cs s e = absurd (none_is_some s e)
chosen (n ∷ ns) (x ∷ ps) [] s e = absurd (none_is_some s e)
chosen (n ∷ ns) (x ∷ ps) (c ∷ cs) s e = chosen_by n ns x ps c cs s (is_left x c) refl (λ (t : Source) h. chosen ns ps cs t h) e

-- MORE IS LEFT
-- one is left here, or behind
some_by : (b : Bool) (s : Source) (o : Option Source) → is_some (cond b (Some s) (option_map (later 1) o)) ≡ (b || is_some o)
some_by true s o = refl
some_by false s None = refl
some_by false s (Some t) = refl

more : (b c x y : Bool) → (b ≡ true → c ≡ true) → (x ≡ true → y ≡ true) → (b || x) ≡ true → (c || y) ≡ true
more true true x y here behind is = refl
more true false x y here behind is = absurd (let e = here refl in cc)
more false true x y here behind is = refl
more false false x y here behind is = behind is

step_more : (b c : Bool) (s t : Source) (o u : Option Source) → (b ≡ true → c ≡ true) → (is_some o ≡ true → is_some u ≡ true)
    → is_some (cond b (Some s) (option_map (later 1) o)) ≡ true → is_some (cond c (Some t) (option_map (later 1) u)) ≡ true
step_more b c s t o u here behind is = rw some_by (more b c (is_some o) (is_some u) here behind (rw some_by at is))

clear_is_left : (x : Place) (c : Bool) → is_left x c ≡ true → is_left x false ≡ true
clear_is_left x true is = absurd cc
clear_is_left x false is = is

-- where a flag is cleared
pub clear_leaves : (ns : List (DeviceNumber × ℕ)) (ps : List Place) (cs : List Bool) (i : ℕ) → is_some (next_copy ns ps cs) ≡ true → is_some (next_copy ns ps (set cs i false)) ≡ true
clear_leaves [] ps cs i is = is
clear_leaves (n ∷ ns) [] cs i is = is
clear_leaves (n ∷ ns) (x ∷ ps) [] zero is = is
clear_leaves (n ∷ ns) (x ∷ ps) [] (suc i) is = is
clear_leaves (n ∷ ns) (x ∷ ps) (c ∷ cs) zero is = step_more (is_left x c) (is_left x false) _ _ (next_copy ns ps cs) (next_copy ns ps cs) (clear_is_left x c) (λ h. h) is
clear_leaves (n ∷ ns) (x ∷ ps) (c ∷ cs) (suc i) is =
    step_more (is_left x c) (is_left x c) _ _ (next_copy ns ps cs) (next_copy ns ps (set cs i false)) (λ h. h) (clear_leaves ns ps cs i) is

-- where a content is written
content_is_left : (b : Bool) (at count : ℕ) (x : Place) (c : Bool) → is_left x c ≡ true → is_left (cond b (Content at count) x) c ≡ true
content_is_left b at count x true is = absurd cc
content_is_left true at count x false is = refl
content_is_left false at count x false is = is

pub content_leaves : (ns : List (DeviceNumber × ℕ)) (ps : List Place) (cs : List Bool) (at : ℕ) (h : RecHead) → place_at at h ≡ Content at h.count
    → is_some (next_copy ns ps cs) ≡ true → is_some (next_copy ns (noted ns ps at h) cs) ≡ true
content_leaves [] ps cs at h content is = is
content_leaves (n ∷ ns) [] cs at h content is = is
content_leaves (n ∷ ns) (x ∷ ps) [] at h content is = is
content_leaves (n ∷ ns) (x ∷ ps) (c ∷ cs) at h content is =
    let b = fits n.0.0 n.1 h in
    let here : is_left x c ≡ true → is_left (cond b (place_at at h) x) c ≡ true = λ l. rw content (content_is_left b at h.count x c l) in
    step_more (is_left x c) (is_left (cond b (place_at at h) x) c) _ _ (next_copy ns ps cs) (next_copy ns (noted ns ps at h) cs) here (content_leaves ns ps cs at h content) is

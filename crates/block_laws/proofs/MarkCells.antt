-- Cells of instances under Pick, Wrote, Post and Found.
use Rattle.std.specs.Prelude.{get_or, find, cond}
use Rattle.std.proofs.Common.{◌≡◌, ℕ, zero, suc, ◌==◌, ◌&&◌, ◌||◌, Bool, true, false, List, [], ◌∷◌, ◌++◌, map, Contains, refl, sym, ap, ◌∙◌, subst, ◌⊎◌, inl, inr, arith, Option, Some, None}
use Rattle.std.proofs.lemmas.Bool.{and_parts, cases_Bool, eq-eqb, or_parts}
use Rattle.std.proofs.lemmas.Bool.Decides.{nat_tests}
use Rattle.std.proofs.lemmas.List.Elements.{Contains-append_right, Contains-append_cases}
use Rattle.std.proofs.lemmas.List.Folds.{list_any-append}
use Rattle.block_machine.specs.nv_base.Cell.{Cell, settled_as, doubted, MayStand}
use Rattle.block_machine.specs.nv_base.Marks.{instance_of}
use Rattle.block_machine.specs.nv_base.declared.instance.DeviceNumber.{DeviceNumber}
use Rattle.block_machine.specs.Words.{Instance, Mark, Configuration}
use Rattle.block_machine.specs.State.{BlockState, InstanceState, Job}
use Rattle.block_machine.specs.Blocks.{no_block, desc_of, is_in, indices_by, same_instance, job_block, mark_of}
use Rattle.block_machine.specs.StartUp.{listed_mark, found_instance}
use Rattle.block_machine.specs.Steps.{with_doubt, settled_in}
use Rattle.block_machine.specs.Legal.{MayBeFound}
use Rattle.block_machine.specs.History.{MayStandIn}
use Rattle.block_laws.specs.Consistent.{Each}

abbrev pub indices_in : Configuration → List BlockState → ℕ → List ℕ
indices_in c bs id = indices_by (desc_of c id).kind (desc_of c id).nv (get_or bs id no_block).index

-- where the job in hand works, its mark may stand, where it has written, nothing else, and where it has not, it's a doubt
pub record FitsJob (c : Configuration) (bs : List BlockState) (j : Job) (x : InstanceState) : Type 0 where
  pub doubts : (m : Mark) → mark_of j ≡ Some m → x.instance.block ≡ job_block j → is_in (indices_in c bs (job_block j)) x.instance.index ≡ true → MayStand x.cell m
  pub settles : (m : Mark) → mark_of j ≡ Some m → x.instance.block ≡ job_block j → is_in j.written x.instance.index ≡ true → x.cell ≡ settled_as m
  pub owed : (m : Mark) → mark_of j ≡ Some m → x.instance.block ≡ job_block j → is_in (indices_in c bs (job_block j)) x.instance.index ≡ true
      → is_in j.written x.instance.index ≡ false → Contains x.cell.doubts m

-- NUMBERS AND INSTANCES

pub in_from : (ns : List ℕ) (n : ℕ) → Contains ns n → is_in ns n ≡ true
in_from [] n (k, within, is) = absurd (omega (arith, within))
in_from (x ∷ ns) n (zero, within, is) = rw (eq-eqb x n is) refl
in_from (x ∷ ns) n (suc k, within, is) = elim (cases_Bool (x == n)) [
  | inl same ↦ rw same refl
  | inr other ↦ rw other (in_from ns n (k, omega arith, is))
]

pub from_in : (ns : List ℕ) (n : ℕ) → is_in ns n ≡ true → Contains ns n
from_in [] n is = cc
from_in (x ∷ ns) n is = elim (cases_Bool (x == n)) [
  | inl same ↦ (0, omega arith, grind (arith, nat_tests))
  | inr other ↦ let (k, within, at) = from_in ns n (rw other at is) in (suc k, omega arith, at)
]

pub same_parts : (a b : Instance) → same_instance a b ≡ true → (a.block ≡ b.block) × (a.index ≡ b.index)
same_parts a b is = (grind (arith, nat_tests), grind (arith, nat_tests))

pair_same : (a b m n : ℕ) → a ≡ b → m ≡ n → let x : Instance = record { block = a; index = m } in let y : Instance = record { block = b; index = n } in x ≡ y
pair_same a b m n p q = cc

pub same_is : (a b : Instance) → same_instance a b ≡ true → a ≡ b
same_is a b is = let (p, q) = same_parts a b is in pair_same a.block b.block a.index b.index p q

pub same_from : (a b : Instance) → a.block ≡ b.block → a.index ≡ b.index → same_instance a b ≡ true
same_from a b p q = rw (eq-eqb a.block b.block p, eq-eqb a.index b.index q) refl

both : (p q : Bool) → p ≡ true → q ≡ true → (p && q) ≡ false → ⊥
both true true a b no_ = cc
both true false a b no_ = cc
both false q a b no_ = cc

pub some_mark : (x y : Mark) → Some x ≡ Some y → x ≡ y
some_mark x y e = cc

pub only_settled : (mark m : Mark) → MayStand (settled_as mark) m → m ≡ mark
only_settled mark m (inl is) = is
only_settled mark m (inr (k, within, at)) = absurd (omega (arith, within))

-- the cell that is found, before and after a change
two : (s : Bool) (y x : InstanceState) (fs gs : Option InstanceState) (m : Mark) (R : Type 0) → (s ≡ true → MayStand y.cell m → MayStand x.cell m ⊎ R) → (MayStandIn fs m → MayStandIn gs m ⊎ R) → MayStandIn (cond s (Some y) fs) m → MayStandIn (cond s (Some x) gs) m ⊎ R
two true y x fs gs m R here rest h = here refl h
two false y x fs gs m R here rest h = rest h

abbrev pub at_instance : Instance → List InstanceState → Option InstanceState
at_instance i xs = find (λ x. same_instance i x.instance) xs

-- PICK

pub each_any : {X : Type 0} (P : X → Type 0) (xs : List X) → ((x : X) → P x) → Each P xs
each_any P [] f = tt
each_any P (x ∷ xs) f = (f x, each_any P xs f)

none_fits : (c : Configuration) (bs : List BlockState) (j : Job) (x : InstanceState) → mark_of j ≡ None → FitsJob c bs j x
none_fits c bs j x none = record { doubts = λ m is b i. let e : None ≡ Some m = sym none ∙ is in cc; settles = λ m is b i. let e : None ≡ Some m = sym none ∙ is in cc; owed = λ m is b i w. let e : None ≡ Some m = sym none ∙ is in cc }

none_in : (ws : List ℕ) (n : ℕ) → ws ≡ [] → is_in ws n ≡ true → ⊥
none_in [] n none is = cc
none_in (w ∷ ws) n none is = cc

doubt_fits : (c : Configuration) (bs : List BlockState) (j : Job) (mark : Mark) (x : InstanceState) → mark_of j ≡ Some mark → j.written ≡ [] → FitsJob c bs j (record x { cell = doubted mark x.cell })
doubt_fits c bs j mark x is none = record {
  doubts = λ m at b i. inr (Contains-append_right x.cell.doubts (mark ∷ []) m (0, omega arith, some_mark mark m (sym is ∙ at)));
  settles = λ m at b i. absurd (none_in j.written x.instance.index none i);
  owed = λ m at b i w. Contains-append_right x.cell.doubts (mark ∷ []) m (0, omega arith, some_mark mark m (sym is ∙ at));
}

other_fits : (c : Configuration) (bs : List BlockState) (j : Job) (x : InstanceState) → j.written ≡ [] → ((x.instance.block == job_block j) && is_in (indices_in c bs (job_block j)) x.instance.index) ≡ false → FitsJob c bs j x
other_fits c bs j x none off = record {
  doubts = λ m at b i. absurd (both (x.instance.block == job_block j) (is_in (indices_in c bs (job_block j)) x.instance.index) (eq-eqb x.instance.block (job_block j) b) i off);
  settles = λ m at b i. absurd (none_in j.written x.instance.index none i);
  owed = λ m at b i w. absurd (both (x.instance.block == job_block j) (is_in (indices_in c bs (job_block j)) x.instance.index) (eq-eqb x.instance.block (job_block j) b) i off);
}

pub doubts_fit : (c : Configuration) (bs : List BlockState) (j : Job) (o : Option Mark) (xs : List InstanceState) → mark_of j ≡ o → j.written ≡ [] → Each (FitsJob c bs j) (with_doubt (job_block j) (indices_in c bs (job_block j)) o xs)
doubts_fit c bs j None xs is none = each_any (FitsJob c bs j) xs (λ x. none_fits c bs j x is)
doubts_fit c bs j (Some mark) [] is none = tt
doubts_fit c bs j (Some mark) (x ∷ xs) is none = elim (cases_Bool ((x.instance.block == job_block j) && is_in (indices_in c bs (job_block j)) x.instance.index)) [
  | inl on ↦ rw on (doubt_fits c bs j mark x is none, doubts_fit c bs j (Some mark) xs is none)
  | inr off ↦ rw off (other_fits c bs j x none off, doubts_fit c bs j (Some mark) xs is none)
]

-- where a mark may stand after a Pick, it did before, or was taken
abbrev pub IsDoubt : Instance → Mark → ℕ → List ℕ → Option Mark → Type 0
IsDoubt i m id indices o = (o ≡ Some m) × (i.block ≡ id) × (is_in indices i.index ≡ true)

doubt_here : (i : Instance) (m : Mark) (id : ℕ) (indices : List ℕ) (mark : Mark) (x : InstanceState) → ((x.instance.block == id) && is_in indices x.instance.index) ≡ true → same_instance i x.instance ≡ true → MayStand (doubted mark x.cell) m → MayStand x.cell m ⊎ IsDoubt i m id indices (Some mark)
doubt_here i m id indices mark x on same (inl is) = inl (inl is)
doubt_here i m id indices mark x on same (inr has) = elim (Contains-append_cases x.cell.doubts (mark ∷ []) m has) [
  | inl before ↦ inl (inr before)
  | inr (k, within, is) ↦
      let (b, n) = same_parts i x.instance same in
      let (eb, en) = and_parts (x.instance.block == id) (is_in indices x.instance.index) on in
      let first : k ≡ 0 = omega (arith, within) in
      let at : mark ≡ m = rw first at is in
      inr (ap Some at, b ∙ grind (arith, nat_tests, eb), rw n en)
]

pub stand_doubt : (i : Instance) (m : Mark) (id : ℕ) (indices : List ℕ) (o : Option Mark) (xs : List InstanceState) → MayStandIn (at_instance i (with_doubt id indices o xs)) m → MayStandIn (at_instance i xs) m ⊎ IsDoubt i m id indices o
stand_doubt i m id indices None xs h = inl h
stand_doubt i m id indices (Some mark) [] h = absurd h
stand_doubt i m id indices (Some mark) (x ∷ xs) h = elim (cases_Bool ((x.instance.block == id) && is_in indices x.instance.index)) [
  | inl on ↦ two (same_instance i x.instance) (record x { cell = doubted mark x.cell }) x (at_instance i (with_doubt id indices (Some mark) xs)) (at_instance i xs) m (IsDoubt i m id indices (Some mark)) (doubt_here i m id indices mark x on) (stand_doubt i m id indices (Some mark) xs) (rw on at h)
  | inr off ↦ two (same_instance i x.instance) x x (at_instance i (with_doubt id indices (Some mark) xs)) (at_instance i xs) m (IsDoubt i m id indices (Some mark)) (λ same stands. inl stands) (stand_doubt i m id indices (Some mark) xs) (rw off at h)
]

-- WROTE

pub record Writes (c : Configuration) (bs : List BlockState) (j : Job) (w : Instance) (mark : Mark) : Type 0 where
  pub block : w.block ≡ job_block j
  pub index : is_in (indices_in c bs (job_block j)) w.index ≡ true
  pub takes : mark_of j ≡ Some mark

wrote_here : (c : Configuration) (bs : List BlockState) (j : Job) (w : Instance) (mark m : Mark) (x : InstanceState) → Writes c bs j w mark → FitsJob c bs j x → same_instance w x.instance ≡ true → MayStand (settled_as mark) m → MayStand x.cell m
wrote_here c bs j w mark m x writes fits same stands =
    let (b, n) = same_parts w x.instance same in
    subst (MayStand x.cell) (sym (only_settled mark m stands)) (fits.doubts mark writes.takes (sym b ∙ writes.block) (subst (λ (k : ℕ). is_in (indices_in c bs (job_block j)) k ≡ true) n writes.index))

pub stand_wrote : (c : Configuration) (bs : List BlockState) (j : Job) (w : Instance) (mark : Mark) (i : Instance) (m : Mark) (R : Type 0) (xs : List InstanceState) → Writes c bs j w mark → Each (FitsJob c bs j) xs → MayStandIn (at_instance i (settled_in w mark xs)) m → MayStandIn (at_instance i xs) m ⊎ R
stand_wrote c bs j w mark i m R [] writes fits h = absurd h
stand_wrote c bs j w mark i m R (x ∷ xs) writes fits h = elim (cases_Bool (same_instance w x.instance)) [
  | inl on ↦ two (same_instance i x.instance) (record x { cell = settled_as mark }) x (at_instance i (settled_in w mark xs)) (at_instance i xs) m R (λ same stands. inl (wrote_here c bs j w mark m x writes fits.0 on stands)) (stand_wrote c bs j w mark i m R xs writes fits.1) (rw on at h)
  | inr off ↦ two (same_instance i x.instance) x x (at_instance i (settled_in w mark xs)) (at_instance i xs) m R (λ same stands. inl stands) (stand_wrote c bs j w mark i m R xs writes fits.1) (rw off at h)
]

either : (p q : Bool) → (p || q) ≡ true → (p ≡ true) ⊎ (q ≡ true)
either true q is = inl refl
either false q is = inr is

last_in : (w n : ℕ) → is_in (w ∷ []) n ≡ true → w ≡ n
last_in w n is = grind (arith, nat_tests)

not_written : (ws : List ℕ) (w n : ℕ) → is_in (ws ++ w ∷ []) n ≡ false → (is_in ws n ≡ false) × (is_in (w ∷ []) n ≡ false)
not_written ws w n is = or_parts (is_in ws n) (is_in (w ∷ []) n) (sym (list_any-append (λ k. k == n) ws (w ∷ [])) ∙ is)

wrote_fits : (c : Configuration) (bs : List BlockState) (j : Job) (w : Instance) (mark : Mark) (e : ℕ) (x : InstanceState) → Writes c bs j w mark → FitsJob c bs j x → same_instance w x.instance ≡ false → FitsJob c bs (record j { reserved = e; written = j.written ++ w.index ∷ [] }) x
wrote_fits c bs j w mark e x writes fits off = record {
  doubts = fits.doubts;
  settles = λ m at b i. elim (either (is_in j.written x.instance.index) (is_in (w.index ∷ []) x.instance.index) (sym (list_any-append (λ n. n == x.instance.index) j.written (w.index ∷ [])) ∙ i)) [
    | inl before ↦ fits.settles m at b before
    | inr now ↦ let on : same_instance w x.instance ≡ true = same_from w x.instance (writes.block ∙ sym b) (last_in w.index x.instance.index now) in let no_ : true ≡ false = sym on ∙ off in cc
  ];
  owed = λ m at b i left. fits.owed m at b i (not_written j.written w.index x.instance.index left).0;
}

settled_fits : (c : Configuration) (bs : List BlockState) (j : Job) (w : Instance) (mark : Mark) (e : ℕ) (x : InstanceState) → mark_of j ≡ Some mark → same_instance w x.instance ≡ true
    → FitsJob c bs (record j { reserved = e; written = j.written ++ w.index ∷ [] }) (record x { cell = settled_as mark })
settled_fits c bs j w mark e x takes on = record {
  doubts = λ m at b i. inl (some_mark m mark (sym at ∙ takes));
  settles = λ m at b i. ap settled_as (some_mark mark m (sym takes ∙ at));
  owed = λ m at b i left.
      let here : is_in (w.index ∷ []) x.instance.index ≡ true = rw (eq-eqb w.index x.instance.index (same_parts w x.instance on).1) refl in
      let no_ : true ≡ false = sym here ∙ (not_written j.written w.index x.instance.index left).1 in
      cc;
}

pub writes_fit : (c : Configuration) (bs : List BlockState) (j : Job) (w : Instance) (mark : Mark) (e : ℕ) (xs : List InstanceState) → Writes c bs j w mark → Each (FitsJob c bs j) xs → Each (FitsJob c bs (record j { reserved = e; written = j.written ++ w.index ∷ [] })) (settled_in w mark xs)
writes_fit c bs j w mark e [] writes fits = tt
writes_fit c bs j w mark e (x ∷ xs) writes fits = elim (cases_Bool (same_instance w x.instance)) [
  | inl on ↦ rw on (settled_fits c bs j w mark e x writes.takes on, writes_fit c bs j w mark e xs writes fits.1)
  | inr off ↦ rw off (wrote_fits c bs j w mark e x writes fits.0 off, writes_fit c bs j w mark e xs writes fits.1)
]

-- POST

-- what was written is all that may stand
abbrev pub StandsAlone : Option InstanceState → Mark → Type 0
StandsAlone o mark = (m : Mark) → MayStandIn o m → m ≡ mark

alone : (s : Bool) (x : InstanceState) (rest : Option InstanceState) (mark : Mark) → (s ≡ true → x.cell ≡ settled_as mark) → StandsAlone rest mark → StandsAlone (cond s (Some x) rest) mark
alone true x rest mark here others m h = only_settled mark m (subst (λ (cell : Cell). MayStand cell m) (here refl) h)
alone false x rest mark here others m h = others m h

pub written_alone : (c : Configuration) (bs : List BlockState) (j : Job) (mark : Mark) (i : Instance) (xs : List InstanceState) → mark_of j ≡ Some mark → job_block j ≡ i.block → is_in j.written i.index ≡ true → Each (FitsJob c bs j) xs → StandsAlone (at_instance i xs) mark
written_alone c bs j mark i [] takes block index fits = λ m h. absurd h
written_alone c bs j mark i (x ∷ xs) takes block index fits =
    alone (same_instance i x.instance) x (at_instance i xs) mark (λ same. let (b, n) = same_parts i x.instance same in fits.0.settles mark takes (sym b ∙ sym block) (subst (λ (k : ℕ). is_in j.written k ≡ true) n index)) (written_alone c bs j mark i xs takes block index fits.1)

-- FOUND

pub found_alone : (marks : List (Instance × Mark)) (i : Instance) (ns : List (DeviceNumber × ℕ)) → StandsAlone (at_instance i (map (λ (x : DeviceNumber × ℕ). found_instance marks (instance_of x.0)) ns)) (listed_mark marks i)
found_alone marks i [] = λ m h. absurd h
found_alone marks i (n ∷ ns) =
    alone (same_instance i (instance_of n.0)) (found_instance marks (instance_of n.0)) (at_instance i (map (λ (x : DeviceNumber × ℕ). found_instance marks (instance_of x.0)) ns)) (listed_mark marks i)
    (λ same. ap (λ (k : Instance). settled_as (listed_mark marks k)) (sym (same_is i (instance_of n.0) same))) (found_alone marks i ns)

heads : {X : Type 0} (x y : X) (xs ys : List X) → x ∷ xs ≡ y ∷ ys → (x ≡ y) × (xs ≡ ys)
heads x y xs ys e = (cc, cc)

pub found_stands : (marks : List (Instance × Mark)) (i : Instance) (m : Mark) (R : Type 0) (xs : List InstanceState) (ns : List (DeviceNumber × ℕ)) → map (λ (x : InstanceState). x.instance) xs ≡ map (λ (x : DeviceNumber × ℕ). instance_of x.0) ns → MayBeFound marks xs
    → MayStandIn (at_instance i (map (λ (x : DeviceNumber × ℕ). found_instance marks (instance_of x.0)) ns)) m → MayStandIn (at_instance i xs) m ⊎ R
found_stands marks i m R [] [] same stands h = absurd h
found_stands marks i m R [] (n ∷ ns) same stands h = cc
found_stands marks i m R (x ∷ xs) [] same stands h = cc
found_stands marks i m R (x ∷ xs) (n ∷ ns) same stands h =
    let (e, es) = heads x.instance (instance_of n.0) (map (λ (x : InstanceState). x.instance) xs) (map (λ (x : DeviceNumber × ℕ). instance_of x.0) ns) same in
    let rest = at_instance i (map (λ (x : DeviceNumber × ℕ). found_instance marks (instance_of x.0)) ns) in
    two (same_instance i x.instance) (found_instance marks x.instance) x rest (at_instance i xs) m R
    (λ on standing. inl (subst (MayStand x.cell) (sym (only_settled (listed_mark marks x.instance) m standing)) stands.0)) (found_stands marks i m R xs ns es stands.1)
    (subst (λ (k : Instance). MayStandIn (cond (same_instance i k) (Some (found_instance marks k)) rest) m) (sym e) h)

-- THE INSTANCES STAY

pub doubts_stay : (id : ℕ) (indices : List ℕ) (o : Option Mark) (xs : List InstanceState) → map (λ (x : InstanceState). x.instance) (with_doubt id indices o xs) ≡ map (λ (x : InstanceState). x.instance) xs
doubts_stay id indices None xs = refl
doubts_stay id indices (Some mark) [] = refl
doubts_stay id indices (Some mark) (x ∷ xs) = elim (cases_Bool ((x.instance.block == id) && is_in indices x.instance.index)) [
  | inl on ↦ rw on (ap (λ (is : List Instance). x.instance ∷ is) (doubts_stay id indices (Some mark) xs))
  | inr off ↦ rw off (ap (λ (is : List Instance). x.instance ∷ is) (doubts_stay id indices (Some mark) xs))
]

pub settled_stay : (w : Instance) (mark : Mark) (xs : List InstanceState) → map (λ (x : InstanceState). x.instance) (settled_in w mark xs) ≡ map (λ (x : InstanceState). x.instance) xs
settled_stay w mark [] = refl
settled_stay w mark (x ∷ xs) = elim (cases_Bool (same_instance w x.instance)) [
  | inl on ↦ rw on (ap (λ (is : List Instance). x.instance ∷ is) (settled_stay w mark xs))
  | inr off ↦ rw off (ap (λ (is : List Instance). x.instance ∷ is) (settled_stay w mark xs))
]

pub found_stay : (marks : List (Instance × Mark)) (ns : List (DeviceNumber × ℕ)) → map (λ (x : InstanceState). x.instance) (map (λ (x : DeviceNumber × ℕ). found_instance marks (instance_of x.0)) ns) ≡ map (λ (x : DeviceNumber × ℕ). instance_of x.0) ns
found_stay marks [] = refl
found_stay marks (n ∷ ns) = ap (λ (is : List Instance). instance_of n.0 ∷ is) (found_stay marks ns)

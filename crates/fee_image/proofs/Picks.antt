-- What stands under a test.
use Rattle.std.specs.Prelude.{◌&&◌, if◌then◌else◌}
use Rattle.std.proofs.Common.{◌≡◌, ◌↔◌, Bool, true, false, IsTrue, Option, Some, None, refl, sym}
use Rattle.std.proofs.lemmas.Bool.{false≢true}

pub then_is : {A : Type 0} (b : Bool) (x y : A) → IsTrue b → (if b then x else y) ≡ x
then_is true x y t = refl
then_is false x y t = absurd (false≢true t)

pub if_some : {A : Type 0} (b : Bool) (x : Option A) (r : A) → (if b then x else None) ≡ Some r → IsTrue b × (x ≡ Some r)
if_some true x r is = (refl, is)
if_some false x r is = cc is

pub same_bool : (a b : Bool) (T : Type 0) → IsTrue a ↔ T → IsTrue b ↔ T → a ≡ b
same_bool true true T f g = refl
same_bool false false T f g = refl
same_bool true false T f g = sym (g.1 (f.0 refl))
same_bool false true T f g = f.1 (g.0 refl)

-- alike where the test holds
pub if_alike : {A : Type 0} (b : Bool) (x y z : A) → (IsTrue b → x ≡ y) → (if b then x else z) ≡ (if b then y else z)
if_alike true x y z same = same refl
if_alike false x y z same = refl

pub ifs_alike : {A : Type 0} (f l g h : Bool) (x y z : A) → (IsTrue l → (g ≡ h) × (x ≡ y)) → (if f && (l && g) then x else z) ≡ (if f && (l && h) then y else z)
ifs_alike true true g h x y z same = let e = same refl in λ i. if e.0 i then e.1 i else z
ifs_alike true false g h x y z same = refl
ifs_alike false l g h x y z same = refl

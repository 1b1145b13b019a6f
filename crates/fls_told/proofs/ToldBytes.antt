-- Where a flash tells its bytes.
use Rattle.std.specs.Prelude.{IfSome, option_map}
use Rattle.std.proofs.Common.{◌≡◌, ℕ, List, Option, Some, None, refl, subst}
use Rattle.fls_model.specs.declared.flash.FlashAnswer.{FlashAnswer}
use Rattle.fls_model.specs.Op.{Op, MayLeave}
use Rattle.fls_model.specs.Step.{IsChanged, Leaves}
use Rattle.fls_model.specs.Told.{ToldBytes, IfBothTold}

pub told_at : (o : Option ToldBytes) (P : List ℕ → Type 0) (bytes : List ℕ) → option_map (λ (b : ToldBytes). b.now) o ≡ Some bytes → IfSome (option_map (λ (b : ToldBytes). b.now) o) P → P bytes
told_at None P bytes is holds = cc is
told_at (Some b) P bytes is holds = subst P (cc is) holds

pub now_at : (o : Option ToldBytes) (P : List ℕ → Type 0) (bytes : List ℕ) → option_map (λ (b : ToldBytes). b.now) o ≡ Some bytes → IfSome o (λ b. P b.now) → P bytes
now_at None P bytes is holds = cc is
now_at (Some b) P bytes is holds = subst P (cc is) holds

pub each_told : (o : Option ToldBytes) (P : List ℕ → Type 0) → ((bytes : List ℕ) → option_map (λ (b : ToldBytes). b.now) o ≡ Some bytes → P bytes) → IfSome (option_map (λ (b : ToldBytes). b.now) o) P
each_told None P holds = tt
each_told (Some b) P holds = holds b.now refl

-- BEHIND AN OPERATION
pub both_left : (x y : Option ToldBytes) (op : Op) (answer : FlashAnswer) (old new : List ℕ) → option_map (λ (b : ToldBytes). b.now) x ≡ Some old → option_map (λ (b : ToldBytes). b.now) y ≡ Some new
    → IfBothTold x y (IsChanged op answer) → MayLeave op old new × Leaves op answer old new
both_left None y op answer old new a b both = cc a
both_left (Some x) None op answer old new a b both = cc b
both_left (Some x) (Some y) op answer old new a b both =
    let h : x.now ≡ old = cc a in
    let k : y.now ≡ new = cc b in
    subst (λ (o : List ℕ). MayLeave op o new × Leaves op answer o new) h (subst (λ (n : List ℕ). MayLeave op x.now n × Leaves op answer x.now n) k (both.within, both.bytes))

pub before_told : (x y : Option ToldBytes) (op : Op) (answer : FlashAnswer) (new : List ℕ) → IfBothTold x y (IsChanged op answer) → option_map (λ (b : ToldBytes). b.now) y ≡ Some new
    → (old : List ℕ) × (option_map (λ (b : ToldBytes). b.now) x ≡ Some old)
before_told None None op answer new both at = cc at
before_told None (Some y) op answer new both at = absurd both
before_told (Some x) y op answer new both at = (x.now, refl)

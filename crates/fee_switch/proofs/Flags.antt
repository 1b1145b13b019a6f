-- A flag that is set leaves no more copies.
use Rattle.std.proofs.Common.{◌≡◌, ℕ, zero, suc, Bool, true, false, List, [], ◌∷◌, refl, cond, eqb}
use Rattle.nv_base.specs.declared.instance.DeviceNumber.{DeviceNumber}
use Rattle.fee_image.specs.declared.place.Place.{Place}
use Rattle.fee_course.specs.Copies.{is_left, NoneLeft}
use Rattle.fee_log.specs.Index.{with_flag}

one_keeps : (b : Bool) (p : Place) (c : Bool) → is_left p c ≡ false → is_left p (cond b true c) ≡ false
one_keeps true p c none = refl
one_keeps false p c none = none

pub flag_keeps : (k : ℕ) (ns : List (DeviceNumber × ℕ)) (ps : List Place) (cs : List Bool) (number : ℕ) → NoneLeft k ps cs → NoneLeft k ps (with_flag ns cs number true)
flag_keeps zero ns ps cs number none = tt
flag_keeps (suc k) ns [] cs number none = tt
flag_keeps (suc k) [] (p ∷ ps) cs number none = none
flag_keeps (suc k) (n ∷ ns) (p ∷ ps) [] number none = tt
flag_keeps (suc k) (n ∷ ns) (p ∷ ps) (c ∷ cs) number none = (one_keeps (eqb n.0.0 number) p c none.0, flag_keeps k ns ps cs number none.1)

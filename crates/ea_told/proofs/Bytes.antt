-- The bytes of a device.
use Rattle.std.specs.Prelude.{IfSome, ◌++◌}
use Rattle.std.proofs.Common.{◌≡◌, ◌<◌, ◌≤◌, ◌+◌, ℕ, List, [], ◌∷◌, length, drop, Option, Some, None, refl, arith, length-append}
use Rattle.std.proofs.Math.Nat.{mul-pos}
use Rattle.std.proofs.lemmas.List.{length-take-le, length-drop}
use Rattle.nv_base.specs.Geometry.{IsLegal, size_of}
use Rattle.nv_base.specs.declared.geometry.Geometry.{Geometry}
use Rattle.fls_model.specs.Attach.{AreBytesOf}
use Rattle.fls_model.specs.Bytes.{piece}
use Rattle.fls_model.specs.declared.flash.FlashAnswer.{FlashAnswer}
use Rattle.fls_model.specs.Op.{Op, Program, Erase, MayLeave}
use Rattle.fls_model.specs.Step.{IsChanged}
use Rattle.fls_model.specs.Told.{ToldBytes, Change, IfBothTold}
use Rattle.promise_device.specs.Image.{attached}

-- SIZES
pub has_bytes : (g : Geometry) → IsLegal g → 0 < size_of g
has_bytes g legal =
    let one : 0 < g.sector = omega (arith, legal.sector_low, legal.page_low) in
    let two : 0 < g.sectors = omega (arith, legal.sectors_low) in
    mul-pos one two

pub attached_is : (g : Geometry) (image : List ℕ) → 0 < length image → attached g image ≡ image
attached_is g [] some = absurd (omega arith)
attached_is g (x ∷ xs) some = refl

pub left_size : (op : Op) (old new : List ℕ) → MayLeave op old new → length new ≡ length old
left_size (Program address page) old new leaves = leaves.0.size
left_size (Erase address n) old new leaves = leaves.0.size

pub piece_size : (a n : ℕ) (xs : List ℕ) → a + n ≤ length xs → length (piece a n xs) ≡ n
piece_size a n xs le = length-take-le n (drop a xs) (omega (arith, length-drop a xs))

-- WHERE THEY ARE TOLD
pub bytes_stay : (g : Geometry) (x y : Option ToldBytes) (op : Op) (answer : FlashAnswer) → IfBothTold x y (IsChanged op answer) → ((old new : List ℕ) → MayLeave op old new → AreBytesOf g old → AreBytesOf g new) → IfSome x (λ b. AreBytesOf g b.now) → IfSome y (λ b. AreBytesOf g b.now)
bytes_stay g None None op answer both stays are = tt
bytes_stay g None (Some y) op answer both stays are = absurd both
bytes_stay g (Some x) None op answer both stays are = absurd both
bytes_stay g (Some x) (Some y) op answer both stays are = stays x.now y.now both.within are

-- OPERATIONS
pub some_later : (xs : List Change) (x : Change) → 0 < length (xs ++ x ∷ [])
some_later xs x = (let h = length-append xs (x ∷ []) in omega (arith, h))

-- Laws of each flash.
use Rattle.std.specs.Prelude.{ℕ, List, IfSome}
use Rattle.nv_base.specs.declared.geometry.Geometry.{Geometry}
use Rattle.fls_model.specs.declared.flash.FlashAnswer.{FlashAnswer}
use Rattle.fls_model.specs.Attach.{AreBytesOf}
use Rattle.fls_model.specs.Bytes.{AreBytes, SameOutside, piece}
use Rattle.fls_model.specs.Op.{Op}
use Rattle.fls_model.specs.Step.{IsStep}
use Rattle.fls_model.specs.Told.{Told}

-- a changing operation keeps the size of the bytes that are told, and that each has eight bits
abbrev pub StepsKeepBytes : Type 0
StepsKeepBytes = (g : Geometry) (op : Op) (s : Told) (answer : FlashAnswer) (t : Told)
    → IsStep op s answer t → IfSome s.bytes (λ b. AreBytesOf g b.now) → IfSome t.bytes (λ b. AreBytesOf g b.now)

-- where only a range changed, and each of its bytes has eight bits, all have
abbrev pub RangesKeepBytes : Type 0
RangesKeepBytes = (address n : ℕ) (old new : List ℕ) → SameOutside address n old new → AreBytes old → AreBytes (piece address n new) → AreBytes new

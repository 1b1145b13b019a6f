-- The part of an operation that a planned cut lets be done.
use Rattle.std.proofs.Common.{[], ◌∷◌, refl, inl, inr}
use Rattle.fls_model.specs.declared.flash.FlashAnswer.TheVariants.{Done}
use Rattle.promise_device.specs.FlashRun.{AreSeen, IsCutOff}
use Rattle.promise_device.specs.Cases.{blank, other, erase, answered, broken_off, first_byte, program, two_programs, second, any, seen_there}

-- of the program nothing was let be done
withheld : IsCutOff (second 1) blank program [] (0 ∷ []) [] [] []
withheld = record { off = (refl, refl); keep = 0; first = refl; part = (refl, refl) }

pub kept_back : AreSeen second 0 blank (erase program) (0 ∷ []) seen_there
kept_back = inl ([], refl, inr ([], [], withheld, (refl, refl)))

half : IsCutOff (second 1) blank program [] (1 ∷ []) [] (broken_off first_byte ∷ []) []
half = record { off = (refl, refl); keep = 1; first = refl; part = (Done, refl) }

pub in_half : AreSeen second 0 blank (erase program) (1 ∷ []) (erase (broken_off first_byte))
in_half = inl (broken_off first_byte ∷ [], refl, inr ([], [], half, (refl, refl)))

whole : IsCutOff (second 1) blank program [] (2 ∷ []) [] (answered Done ∷ []) []
whole = record { off = (refl, refl); keep = 2; first = refl; part = (Done, refl) }

pub in_part : AreSeen second 0 blank (erase program) (2 ∷ []) (erase (answered Done))
in_part = inl (answered Done ∷ [], refl, inr ([], [], whole, (refl, refl)))

withheld_before : IsCutOff (any 0) other program (program ∷ []) (0 ∷ 1 ∷ []) (1 ∷ []) (broken_off first_byte ∷ []) (broken_off first_byte ∷ [])
withheld_before = record { off = (tt, refl); keep = 0; first = refl; part = (refl, refl) }

half_behind : IsCutOff (any 1) other program [] (1 ∷ []) [] (broken_off first_byte ∷ []) []
half_behind = record { off = (tt, refl); keep = 1; first = refl; part = (Done, refl) }

pub in_order : AreSeen any 0 other two_programs (0 ∷ 1 ∷ []) (broken_off first_byte ∷ [])
in_order = inr (1 ∷ [], broken_off first_byte ∷ [], withheld_before, inr ([], [], half_behind, (refl, refl)))

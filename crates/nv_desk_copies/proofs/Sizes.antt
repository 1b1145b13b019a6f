-- What stays whatever is copied.
use Rattle.std.proofs.Common.{arith, ◌≡◌, ℕ, zero, suc, List, [], ◌∷◌, option_map, refl, sym, ap, ◌∙◌, get_or, get_or-set_other, Option, None}
use Rattle.block_machine.specs.Words.{Configuration}
use Rattle.ram_blocks.specs.Told.{Told, Synchronized, told_at, sizes_of}
use Rattle.ram_blocks.specs.Tries.{OnlyCounts, OthersStay}
use Rattle.nv_desk_copies.specs.Front.{AreSynchronized, CopiesStay}

size_at : (ts : List Told) (b : ℕ) → option_map (λ (s : Synchronized). s.bytes) (told_at ts b) ≡ get_or (sizes_of ts) b None
size_at [] b = refl
size_at (t ∷ ts) zero = refl
size_at (t ∷ ts) (suc b) = size_at ts b

pub still_synchronized : (c : Configuration) (before after : List Told) → sizes_of after ≡ sizes_of before → AreSynchronized c before → AreSynchronized c after
still_synchronized c before after same h id kind =
    size_at after id ∙ ap (λ (xs : List (Option ℕ)). get_or xs id None) same ∙ sym (size_at before id) ∙ h id kind

-- where nothing but the refused copies of a block was counted, nothing is told otherwise of another one
pub others_stay : (block : ℕ) (before after : List Told) → OnlyCounts block before after → OthersStay block before after
others_stay block before after (n, left, is) b other =
    ap (λ ts. told_at ts b) is ∙ get_or-set_other before block b (option_map (λ (s : Synchronized). record s { refusals = n; to_refuse = left }) (told_at before block)) None other

pub nothing_copied : {C : Type 0} (told : C → List Told) (is_store : C → ℕ → ℕ → List ℕ → Type 0) (over : C → C → Type 0) (now : C)
    → CopiesStay told is_store over now now
nothing_copied told is_store over now =
    record { sizes = refl; refuses = λ b. omega arith; stores_stay = λ b n x is. is; stays_over = λ first is. is }

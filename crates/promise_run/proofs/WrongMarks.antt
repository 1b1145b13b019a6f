-- Runs that break the promise by their marks.
use Rattle.std.specs.Prelude.{Contains, take, nat_lt, ◌&&◌}
use Rattle.std.specs.List.{list_all}
use Rattle.std.proofs.Common.{◌≡◌, ℕ, zero, suc, Bool, true, false, IsTrue, List, [], ◌∷◌, ◌++◌, drop, Some, refl, sym, ap, ◌∙◌, inl, inr, arith}
use Rattle.fls_model.specs.Bytes.{AreBytes}
use Rattle.block_machine.specs.Words.{Erased}
use Rattle.block_machine.specs.nv_base.Held.{Held}
use Rattle.fee_format.specs.Pages.{gate_page}
use Rattle.fee_format.proofs.Tests.{lt_is}
use Rattle.fee_image.specs.Laws.{BlankIsSound, BlankHasErased, SoundImagesCompute}
use Rattle.fls_model.specs.Told.{bytes_now}
use Rattle.block_machine.specs.History.{up_to}
use Rattle.promise_blocks.specs.Counts.{KeepsCounts}
use Rattle.promise_device.specs.Making.{banks_of}
use Rattle.promise_device.specs.FlashRun.{FlashRun, TellsBytes}
use Rattle.promise_run.specs.Promise.{BeginsWell, CutsCount, StartUpsFind, CutsKeep, counts_by, ExitKeeps, found_by, making_of}
use Rattle.promise_run.specs.Cases.{BreaksBy, small, blank, begun, operations, made_up_mark, other_dataset, lost_write}

from_blank : (f : FlashRun) (last : List ℕ) → bytes_now f.entry ≡ Some [] → bytes_now f.exit ≡ Some last → TellsBytes f
from_blank f last entry exit = record { first = []; entry = entry; last = last; exit = exit }

no_made_up_mark : BlankHasErased → StartUpsFind made_up_mark → ⊥
no_made_up_mark erased finds =
    let listed = finds _ 0 (0, omega arith, refl) (omega arith) (record { 0 = 128 }, 4) (2, omega arith, refl) in
    let none : found_by small blank 128 ≡ Erased = ap (λ (h : Held). h.mark) (erased (banks_of (making_of small)) 320 128 4) in
    cc (listed ∙ none)

pub made_up_early : BlankHasErased → BeginsWell made_up_mark → ⊥
made_up_early erased well =
    let listed = well.found _ (0, omega arith, refl) (record { 0 = 128 }, 4) (2, omega arith, refl) in
    let none : found_by small blank 128 ≡ Erased = ap (λ (h : Held). h.mark) (erased (banks_of (making_of small)) 320 128 4) in
    cc (listed ∙ none)

pub made_up_mark_breaks : BlankIsSound → BlankHasErased → BreaksBy made_up_mark (StartUpsFind made_up_mark)
made_up_mark_breaks sound erased = (λ p. p.found (from_blank made_up_mark.flash blank refl refl) (sound (banks_of (making_of small)) 320), no_made_up_mark erased)

pub only_zero : (n : ℕ) → Contains (0 ∷ []) n → n ≡ 0
only_zero n (zero, few, is) = sym is
only_zero n (suc k, few, is) = omega (arith, few)

-- no Pick took it for dataset 1
no_other_dataset : ExitKeeps other_dataset → ⊥
no_other_dataset exit =
    let keeps = exit tt (omega arith) in
    elim (keeps.marks.accepted (record { 0 = 129 }, 4) (3, omega arith, refl)).brought [
      | inl found ↦ cc found
      | inr (inl none) ↦ none
      | inr (inr (inl took)) ↦ omega (arith, only_zero 1 took.index)
      | inr (inr (inr none)) ↦ none
    ]

pub other_dataset_breaks : BlankIsSound → BreaksBy other_dataset (ExitKeeps other_dataset)
other_dataset_breaks sound = (λ p. p.at_exit (from_blank other_dataset.flash _ refl refl) (sound (banks_of (making_of small)) 320), no_other_dataset)

first_of : (a b : Bool) → IsTrue (a && b) → IsTrue a
first_of true b is = refl
first_of false b is = cc is

second_of : (a b : Bool) → IsTrue (a && b) → IsTrue b
second_of true b is = is
second_of false b is = cc is

bytes_of : (xs : List ℕ) → IsTrue (list_all (λ x. nat_lt x 256) xs) → AreBytes xs
bytes_of [] all k = omega arith
bytes_of (x ∷ xs) all zero = (lt_is x 256).0 (first_of (nat_lt x 256) _ all)
bytes_of (x ∷ xs) all (suc k) = bytes_of xs (second_of (nat_lt x 256) _ all) k

abbrev written : List ℕ
written = begun 4

-- a cut of the fifth operation may leave any bytes on its page, as those of a gate
abbrev torn : List ℕ
torn = take 128 written ++ gate_page 16 ++ drop 144 written

no_lost_write : CutsKeep lost_write → ⊥
no_lost_write cuts =
    let keeps = cuts 4 torn (omega arith)
    (_, refl, (record { size = refl; front = refl; back = refl }, λ were. bytes_of torn refl)) in
    elim (keeps.marks.stands (record { 0 = 128 }, 4) (2, omega arith, refl)) [
      | inl is ↦ cc is
      | inr (k, few, is) ↦ omega (arith, few)
    ]

pub lost_write_breaks : SoundImagesCompute → BreaksBy lost_write (CutsKeep lost_write)
lost_write_breaks computes = (
  λ p. p.power_cut (record { bytes = record { first = begun 0; entry = refl; last = begun 4; exit = refl }; changes = operations; told = refl })
      ((computes (banks_of (making_of small)) (begun 0)).0 refl),
  no_lost_write,
)

-- nor is it counted there
no_lost_count : CutsCount lost_write → ⊥
no_lost_count counts =
    let keeps : KeepsCounts small (up_to 4 lost_write.history) (counts_by small (begun 0)) (counts_by small torn) = counts 4 0 torn (omega arith)
    (_, refl, (record { size = refl; front = refl; back = refl }, λ were. bytes_of torn refl)) refl in
    elim (keeps (record { 0 = 128 }, 4) (2, omega arith, refl)) [
      | inl is ↦ cc is
      | inr (is, since) ↦ cc is
    ]

pub lost_count_breaks : SoundImagesCompute → BreaksBy lost_write (CutsCount lost_write)
lost_count_breaks computes = (
  λ p. p.counts (record { bytes = record { first = begun 0; entry = refl; last = begun 4; exit = refl }; changes = operations; told = refl })
      ((computes (banks_of (making_of small)) (begun 0)).0 refl),
  no_lost_count,
)

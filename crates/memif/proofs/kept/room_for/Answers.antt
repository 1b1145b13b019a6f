use Rattle.std.proofs.Common.{◌≡◌, ◌<◌, ◌++◌, ◌∷◌, [], ℕ, List, length, map, arith, sym, ◌∙◌, refl, false}
use Rattle.std.proofs.lemmas.List.{take_more, map-append}
use Rattle.nv_base.specs.declared.instance.DeviceNumber.{DeviceNumber}
use Rattle.memif.specs.declared.answer.PlainMark.TheVariants.{Erased}
use Rattle.memif.specs.declared.kept.Kept.{Kept}
use Rattle.memif.specs.Told.{no_slot}
use Rattle.memif.specs.PlainInside.{AreKept, slot_of}
use Rattle.memif.proofs.kept.room_for.Goals as goal

room_more : (xs : List (DeviceNumber × ℕ)) (ks : List Kept) (x : DeviceNumber × ℕ) (k : Kept) → AreKept xs ks → length k.settled.content ≡ x.1 → length k.next.content ≡ x.1 → AreKept (xs ++ x ∷ []) (ks ++ k ∷ [])
room_more [] [] x k room one two = (one, two, tt)
room_more [] (y ∷ ks) x k room one two = absurd room
room_more (y ∷ xs) [] x k room one two = absurd room
room_more (y ∷ xs) (z ∷ ks) x k room one two = (room.0, room.1, room_more xs ks x k room.2 one two)

erased_more : (xs : List (DeviceNumber × ℕ)) (ks : List Kept) (x : DeviceNumber × ℕ) (k : Kept) → map slot_of ks ≡ map (λ n. no_slot) xs → k.settled.kind ≡ Erased → k.count ≡ 0 → k.doubted ≡ false → map slot_of (ks ++ k ∷ []) ≡ map (λ n. no_slot) (xs ++ x ∷ [])
erased_more xs ks x k same kind none doubted =
    let one : slot_of k ≡ no_slot = rw (kind, none, doubted) refl in
    map-append slot_of ks (k ∷ []) ∙ (λ i. same i ++ one i ∷ []) ∙ sym (map-append (λ n. no_slot) xs (x ∷ []))

pub loop-number-preserved : goal.loop-number-preserved
loop-number-preserved c =
    let d : DeviceNumber × ℕ = (record { 0 = 0 }, 0) in
    let lt : c.loop-number.number-index < length c.args.numbers.now = omega arith in
    rw (c.in_ok-push.ensures.items, take_more c.args.numbers.now c.loop-number.number-index d lt) (record {
      room = room_more _ _ _ _ c.loop-number.invariant.room c.in_ok-erased_cell.ensures.1 c.in_ok-erased_cell-2.ensures.1;
      erased = erased_more _ _ _ _ c.loop-number.invariant.erased c.in_ok-erased_cell.ensures.0 refl refl;
    })

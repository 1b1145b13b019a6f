-- The places that records give.
use Rattle.std.specs.Prelude.{◌&&◌, if◌then◌else◌}
use Rattle.std.proofs.Common.{◌≡◌, ℕ, Bool, true, false, List, [], ◌∷◌, ◌++◌, Option, Some, refl, ap, ◌∙◌}
use Rattle.nv_base.specs.declared.instance.DeviceNumber.{DeviceNumber}
use Rattle.fee_image.specs.Found.{fits, last_record}
use Rattle.fee_image.specs.RecordList.{Rec}
use Rattle.fee_image.specs.Places.{place_at, place_shown, noted, places_of}
use Rattle.fee_image.proofs.Appends.{last_is_new}

shown_pick : (b : Bool) (r : Rec) (o : Option Rec)
    → place_shown (if b then Some r else o) ≡ (if b then place_at r.at r.head else place_shown o)
shown_pick true r o = refl
shown_pick false r o = refl

-- one more record
pub places_push : (ns : List (DeviceNumber × ℕ)) (rs : List Rec) (r : Rec) (committed : Bool)
    → r.committed ≡ committed
    → places_of ns (rs ++ r ∷ []) ≡ (if committed then noted ns (places_of ns rs) r.at r.head else places_of ns rs)
places_push [] rs r true is = refl
places_push [] rs r false is = refl
places_push (n ∷ ns) rs r true is =
    let one = ap place_shown (last_is_new n.0.0 n.1 rs r ∙ ap (λ (b : Bool). if b && fits n.0.0 n.1 r.head then Some r else
    last_record n.0.0 n.1 rs) is) ∙ shown_pick (fits n.0.0 n.1 r.head) r (last_record n.0.0 n.1 rs) in
    let rest = places_push ns rs r true is in
    λ i. one i ∷ rest i
places_push (n ∷ ns) rs r false is =
    let one = ap place_shown (last_is_new n.0.0 n.1 rs r ∙ ap (λ (b : Bool). if b && fits n.0.0 n.1 r.head then Some r else last_record n.0.0 n.1 rs) is) in
    let rest = places_push ns rs r false is in
    λ i. one i ∷ rest i

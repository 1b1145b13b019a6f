-- A stack is fresh behind its first start-up.
use Rattle.script_player.proofs.Common.{◌≡◌, List, [], ◌∷◌, ◌++◌, refl, sym, ap, ◌∙◌, Found, DeviceTold, ops_of, is_off, PlainBlock, told_of, store_of, plain_blocks_of, StackState, told_by, to_refuse_in, IsFresh, StartsUp, none_to_refuse}
use Rattle.std.proofs.Common.{map}
use Rattle.script_player.proofs.PlainPlans.{from_none}

pub is_fresh : {D : Type 0} (told : D → DeviceTold) (m s : StackState D (List PlainBlock)) → m.desk.entries ≡ [] → m.copies ≡ plain_blocks_of m.desk.config → StartsUp told m s → (fresh : IsFresh (told_by told s)) × (fresh.ops ≡ (told_by told s).ops)
is_fresh told m s empty first starts = (
  record {
    ready = ap (λ x. x.ready) starts.only;
    marks = starts.marks;
    ops = _;
    entries = entries;
    stores = ap (λ bs. map store_of bs) copies ∙ ap (λ x. map store_of (plain_blocks_of x)) (sym config);
    none_to_refuse = λ id. ap (λ bs. to_refuse_in (map told_of bs) id) copies ∙ none_to_refuse m.desk.config id;
    none_planned = from_none (is_off (told s.device)) _ (told s.device).first.planning.plan (ap (λ p. p.planning.plan) starts.finds.up.restarted.first.only);
  },
  refl,
)
  where
    config : s.desk.config ≡ m.desk.config
    config = ap (λ x. x.desk.config) starts.only

    copies : s.copies ≡ plain_blocks_of m.desk.config
    copies = ap (λ x. x.copies) starts.only ∙ first

    entries : s.desk.entries ≡ Found starts.marks (ops_of (told s.device)) ∷ []
    entries = ap (λ x. x.desk.entries) starts.only ∙ ap (λ h. h ++ Found starts.marks (ops_of (told s.device)) ∷ []) empty

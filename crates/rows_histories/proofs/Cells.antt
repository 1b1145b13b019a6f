-- Whether a mark may stand behind an entry.
use Rattle.std.specs.Option.{option_map_or}
use Rattle.std.proofs.Common.{◌≡◌, ◌↔◌, ◌<◌, ◌==◌, ◌&&◌, ℕ, Bool, true, false, if◌then◌else◌, List, [], ◌∷◌, length, Contains, refl, sym, ap, ◌∙◌, subst, ◌⊎◌, inl, inr, arith, Option, Some, None, IsTrue, IsSome}
use Rattle.std.proofs.lemmas.Bool.{and_parts, eq-eqb}
use Rattle.std.proofs.lemmas.Bool.Decides.{nat_tests}
use Rattle.std.proofs.lemmas.List.Elements.{Contains-append_left, Contains-append_right, Contains-append_cases}
use Rattle.block_machine.specs.nv_base.Cell.{Cell, settled_as, doubted, MayStand}
use Rattle.block_machine.specs.nv_base.Marks.{instance_of}
use Rattle.block_machine.specs.nv_base.declared.instance.DeviceNumber.{DeviceNumber}
use Rattle.block_machine.specs.block_config.Lengths.{lengths_of}
use Rattle.block_machine.specs.Words.{Instance, Mark, JobKind, Taken, Entry, Ask, Pick, Wrote, Post, Off, Found, Configuration}
use Rattle.block_machine.specs.State.{State, InstanceState}
use Rattle.block_machine.specs.Blocks.{desc_of, block_at, indices_by, indices_of, is_in, same_instance, instance_at}
use Rattle.block_machine.specs.Next.{next_of}
use Rattle.block_machine.specs.StartUp.{listed_mark, found_instance}
use Rattle.block_machine.specs.Steps.{step}
use Rattle.block_machine.specs.Legal.{MayPick, IsAllowed}
use Rattle.block_machine.specs.History.{MayStandIn}
use Rattle.block_laws.specs.Laws.{is_found, cell_by}
use Rattle.block_laws.proofs.CellChanges.{found_cells, cells_change}
use Rattle.block_laws.proofs.MarkOrigins.{stood}
use Rattle.rows_histories.specs.declared.seen.Seen.{Seen}
use Rattle.rows_histories.specs.Seen.{mark_taken, IsTaken, StandsBy, index_by, IsSeenBy, IsSeen}
use Rattle.rows_histories.proofs.Lists.{some_is}
use Rattle.rows_histories.proofs.Indices.{index_step}
use Rattle.rows_histories.proofs.Taken.{hand_mark}

-- WROTE
only_settled : (written mark : Mark) → MayStand (settled_as written) mark → mark ≡ written
only_settled written mark (inl is) = is
only_settled written mark (inr (k, within, is)) = absurd (omega (arith, within))

wrote_stands : (same stands : Bool) (written mark : Mark) (cell : Cell) → IsTrue stands ↔ MayStand cell mark
    → ((IsTrue same × (mark ≡ written)) ⊎ ((same ≡ false) × IsTrue stands)) ↔ MayStand (if same then settled_as written else cell) mark
wrote_stands true stands written mark cell fits = (
  λ h. elim h [ inl (on, is) ↦ inl is | inr (off, on) ↦ absurd (cc off) ],
  λ h. inl (refl, only_settled written mark h),
)
wrote_stands false stands written mark cell fits = (
  λ h. elim h [ inl (on, is) ↦ absurd (cc on) | inr (off, on) ↦ fits.0 on ],
  λ h. inr (refl, fits.1 h),
)

-- PICK
doubt_from : (m mark : Mark) (cell : Cell) → MayStand (doubted m cell) mark → MayStand cell mark ⊎ (m ≡ mark)
doubt_from m mark cell (inl is) = inl (inl is)
doubt_from m mark cell (inr has) = elim (Contains-append_cases cell.doubts (m ∷ []) mark has) [
  | inl before ↦ inl (inr before)
  | inr (k, within, is) ↦ let first : k ≡ 0 = omega (arith, within) in inr (rw first at is)
]

doubt_kept : (m mark : Mark) (cell : Cell) → MayStand cell mark → MayStand (doubted m cell) mark
doubt_kept m mark cell (inl is) = inl is
doubt_kept m mark cell (inr has) = inr (Contains-append_left cell.doubts (m ∷ []) mark has)

doubt_new : (m mark : Mark) (cell : Cell) → m ≡ mark → MayStand (doubted m cell) mark
doubt_new m mark cell is = inr (Contains-append_right cell.doubts (m ∷ []) mark (0, omega arith, is))

picked_stands : (its stands : Bool) (o : Option Mark) (mark : Mark) (cell : Cell) → IsTrue stands ↔ MayStand cell mark
    → (IsTrue stands ⊎ (IsTrue its × (o ≡ Some mark))) ↔ MayStand (option_map_or (λ m. if its then doubted m cell else cell) o cell) mark
picked_stands its stands None mark cell fits = (
  λ h. elim h [ inl on ↦ fits.0 on | inr (on, is) ↦ absurd (cc is) ],
  λ h. inl (fits.1 h),
)
picked_stands true stands (Some m) mark cell fits = (
  λ h. elim h [ inl on ↦ doubt_kept m mark cell (fits.0 on) | inr (on, is) ↦ doubt_new m mark cell (some_is m mark is) ],
  λ h. elim (doubt_from m mark cell h) [ inl before ↦ inl (fits.1 before) | inr is ↦ inr (refl, ap Some is) ],
)
picked_stands false stands (Some m) mark cell fits = (
  λ h. elim h [ inl on ↦ fits.0 on | inr (on, is) ↦ absurd (cc on) ],
  λ h. inl (fits.1 h),
)

abbrev IsIn : Configuration → Instance → ℕ → ℕ → Type 0
IsIn c i index block = IsTrue (is_in (indices_by (desc_of c block).kind (desc_of c block).nv index) i.index)

taken_its : (c : Configuration) (s : State) (i : Instance) (index block : ℕ) (kind : JobKind) (t : Taken) (mark : Mark) → index ≡ (block_at s i.block).index
    → IsTaken c i index block kind t mark ↔ (IsTrue ((i.block == block) && is_in (indices_of c s block) i.index) × (mark_taken kind t ≡ Some mark))
taken_its c s i index block kind t mark same = (
  λ h. (
    let here : IsTrue (is_in (indices_of c s i.block) i.index) = subst (λ n. IsIn c i n i.block) same h.one_of_its in
        let there : IsTrue (is_in (indices_of c s block) i.index) = subst (λ n. IsTrue (is_in (indices_of c s n) i.index)) h.same_block here in
        let own : (i.block == block) ≡ true = eq-eqb i.block block h.same_block in
        rw (own, there) refl,
    h.takes,
  ),
  λ h.
      let both = and_parts (i.block == block) (is_in (indices_of c s block) i.index) h.0 in
      let own : i.block ≡ block = grind (arith, nat_tests, both.0) in
      record {
        same_block = own;
        one_of_its = subst (λ n. IsIn c i n i.block) (sym same) (subst (λ n. IsTrue (is_in (indices_of c s n) i.index)) (sym own) both.1);
        takes = h.1;
      },
)

right_side : (A B C : Type 0) → B ↔ C → (A ⊎ B) ↔ (A ⊎ C)
right_side A B C is = (
  λ h. elim h [ inl a ↦ inl a | inr b ↦ inr (is.0 b) ],
  λ h. elim h [ inl a ↦ inl a | inr x ↦ inr (is.1 x) ],
)

through : (A B C : Type 0) → A ↔ B → B ↔ C → A ↔ C
through A B C f g = (λ a. g.0 (f.0 a), λ x. f.1 (g.1 x))

pick_stands : (c : Configuration) (s : State) (i : Instance) (mark : Mark) (old : Seen) (cell : Cell) (block : ℕ) (kind : JobKind) (t : Taken) (ops : ℕ)
    → IsTrue old.stands ↔ MayStand cell mark → old.index ≡ (block_at s i.block).index → MayPick c s block kind t (next_of c s)
    → StandsBy c i mark old (Pick block kind t ops) ↔ MayStand (cell_by c s i cell (Pick block kind t ops)) mark
pick_stands c s i mark old cell block kind t ops fits same may =
    let its = (i.block == block) && is_in (indices_of c s block) i.index in
    through (IsTrue old.stands ⊎ IsTaken c i old.index block kind t mark) (IsTrue old.stands ⊎ (IsTrue its × (mark_taken kind t ≡ Some mark)))
    (MayStand (cell_by c s i cell (Pick block kind t ops)) mark)
    (right_side (IsTrue old.stands) (IsTaken c i old.index block kind t mark) (IsTrue its × (mark_taken kind t ≡ Some mark)) (taken_its c s i old.index block kind t mark same))
    (subst (λ (o : Option Mark). (IsTrue old.stands ⊎ (IsTrue its × (mark_taken kind t ≡ Some mark))) ↔ MayStand (option_map_or (λ m. if its then doubted m cell else cell) o cell) mark)
    (sym (hand_mark c s block kind t ops may)) (picked_stands its old.stands (mark_taken kind t) mark cell fits))

-- ANY ENTRY BUT A START-UP
stands_by : (c : Configuration) (cap : ℕ) (s : State) (i : Instance) (mark : Mark) (old : Seen) (cell : Cell) (e : Entry) → IsTrue old.stands ↔ MayStand cell mark
    → old.index ≡ (block_at s i.block).index → IsAllowed c cap s e → is_found e ≡ false → StandsBy c i mark old e ↔ MayStand (cell_by c s i cell e) mark
stands_by c cap s i mark old cell (Ask caller r reply) fits same allowed found = fits
stands_by c cap s i mark old cell (Pick block kind t ops) fits same allowed found = pick_stands c s i mark old cell block kind t ops fits same allowed.1
stands_by c cap s i mark old cell (Wrote w written ops) fits same allowed found = wrote_stands (same_instance w i) old.stands written mark cell fits
stands_by c cap s i mark old cell (Post block r given refused ops) fits same allowed found = fits
stands_by c cap s i mark old cell (Off ops) fits same allowed found = fits
stands_by c cap s i mark old cell (Found marks ops) fits same allowed found = cc

some_of : (o : Option InstanceState) → IsSome o → (x : InstanceState) × (o ≡ Some x)
some_of None is = cc
some_of (Some x) is = (x, refl)

-- what is kept, of an instance that is there
seen_at : (i : Instance) (mark : Mark) (new : Seen) (t : State) (x : InstanceState) → instance_at t i ≡ Some x → IsTrue new.stands ↔ MayStand x.cell mark
    → new.index ≡ (block_at t i.block).index → IsSeen i mark new t
seen_at i mark new t x is fits index = record {
  stands = subst (λ (o : Option InstanceState). IsTrue new.stands ↔ MayStandIn o mark) (sym is) fits;
  index = index;
  there = λ on. subst (λ (o : Option InstanceState). IsSome o) (sym is) refl;
}

stands_in : (i : Instance) (mark : Mark) (old : Seen) (s : State) (x : InstanceState) → IsSeen i mark old s → instance_at s i ≡ Some x → IsTrue old.stands ↔ MayStand x.cell mark
stands_in i mark old s x seen is = subst (λ (o : Option InstanceState). IsTrue old.stands ↔ MayStandIn o mark) is seen.stands

abbrev Index : Configuration → State → Instance → Seen → Entry → Type 0
Index c s i new e = new.index ≡ (block_at (step c s e) i.block).index

later_seen : (c : Configuration) (cap : ℕ) (s : State) (e : Entry) (i : Instance) (mark : Mark) (old new : Seen) → Index c s i new e
    → IsAllowed c cap s e → is_found e ≡ false → IsSeen i mark old s → IsSeenBy c i mark old e new → IsSeen i mark new (step c s e)
later_seen c cap s e i mark old new index allowed found seen by =
    let (x, is) = some_of (instance_at s i) (seen.there (stood c cap s e allowed found)) in
    seen_at i mark new (step c s e) (record x { cell = cell_by c s i x.cell e }) (cells_change c cap s e i x allowed found is)
    (through (IsTrue new.stands) (StandsBy c i mark old e) (MayStand (cell_by c s i x.cell e) mark) by.stands
    (stands_by c cap s i mark old x.cell e (stands_in i mark old s x seen is) seen.index allowed found)) index

found_seen : (c : Configuration) (s : State) (marks : List (Instance × Mark)) (ops : ℕ) (n : DeviceNumber × ℕ) (i : Instance) (mark : Mark) (new : Seen)
    → Contains (lengths_of c) n → instance_of n.0 ≡ i → Index c s i new (Found marks ops) → IsTrue new.stands ↔ (mark ≡ listed_mark marks i)
    → IsSeen i mark new (step c s (Found marks ops))
found_seen c s marks ops n i mark new has is index stands =
    seen_at i mark new (step c s (Found marks ops)) (found_instance marks i)
    (subst (λ (k : Instance). instance_at (step c s (Found marks ops)) k ≡ Some (found_instance marks k)) is (found_cells c s marks ops n has))
    (through (IsTrue new.stands) (mark ≡ listed_mark marks i) (MayStand (settled_as (listed_mark marks i)) mark) stands
    (λ same. inl same, λ h. only_settled (listed_mark marks i) mark h)) index

by_entry : (c : Configuration) (cap : ℕ) (s : State) (e : Entry) (n : DeviceNumber × ℕ) (i : Instance) (mark : Mark) (old new : Seen)
    → Contains (lengths_of c) n → instance_of n.0 ≡ i → IsAllowed c cap s e → Index c s i new e → IsSeen i mark old s → IsSeenBy c i mark old e new
    → IsSeen i mark new (step c s e)
by_entry c cap s (Found marks ops) n i mark old new has is allowed index seen by = found_seen c s marks ops n i mark new has is index by.stands
by_entry c cap s e n i mark old new has is allowed index seen by = later_seen c cap s e i mark old new index allowed refl seen by

-- what is kept goes on with each entry
pub seen_more : (c : Configuration) (cap : ℕ) (s : State) (e : Entry) (n : DeviceNumber × ℕ) (i : Instance) (mark : Mark) (old new : Seen)
    → Contains (lengths_of c) n → instance_of n.0 ≡ i → (is_found e ≡ false → i.block < length s.blocks) → IsAllowed c cap s e → IsSeen i mark old s
    → IsSeenBy c i mark old e new → IsSeen i mark new (step c s e)
seen_more c cap s e n i mark old new has is within allowed seen by =
    by_entry c cap s e n i mark old new has is allowed
    (by.index ∙ ap (λ k. index_by i.block k e) seen.index ∙ sym (index_step c s e i.block within)) seen by

-- What a driver's looks showed in any number of its turns.
use Rattle.nvm_callers.proofs.Common.{option_to_list, slice_get_within, slice_get-get_or, get_or, get_or_default, get_or_from_slice_get, all_pairs_push, AllPairs, Contains, ◌≡◌, ◌+◌, ◌≤◌, ℕ, zero, suc, Bool, true, false, List, [], ◌∷◌, ◌++◌, length, Option, Some, None, refl, sym, ap, ◌∙◌, subst, inl, inr, arith, append_assoc, length-append, append-nil, take-append-le, take-append_seam, DeviceTold, Clock, JobKind, Taken, TookContent, TookStale, Entry, Ask, Pick, Configuration, next_of, after, Told, DeskState, Look, copies_next, Terms, AreAsks, DriverState, HasDriven, DrivesOn, TurnsOn, IfSome_then, LooksAreOrdered, look_behind, TookShown, AllTookShown, IsLookOf, Contains-append_left, Contains-append_right, Contains-append_cases, AreInOrder, IsPickShown, DrivingLooks}
use Rattle.std.specs.Prelude.{take}
use Rattle.std.proofs.Common.{IfSome}
use Rattle.driver_moves.specs.nvm_laws.declared.turned.Turned.TheVariants as turned
use Rattle.nvm_callers.specs.Looked.{HasLooked}
use Rattle.nvm_callers.proofs.Following.{holds_of_drives}
use Rattle.nvm_callers.proofs.Keeping.{driving_keeps}
use Rattle.nvm_callers.proofs.Turning.{IsPick, turn_adds}

-- WHAT WAS TAKEN
-- it stays shown among more looks, and a store as another law has it
module _ (looks looks_new : List Look) (P Q : (block number : ℕ) → List ℕ → Type 0) (more : (l : Look) → Contains looks l → Contains looks_new l)
    (so : (before : List Entry) (b n : ℕ) (x : List ℕ) → Contains looks (look_behind before b n) → P b n x → Q b n x) where
  took_on : (before : List Entry) (e : Entry) (copies : Bool) → TookShown looks P before e copies → TookShown looks_new Q before e copies
  took_on before (Pick block kind (TookStale asked got count) ops) copies took = absurd took
  took_on before (Pick block kind (TookContent bytes number) ops) true took = (more (look_behind before block number) took.0, so before block number bytes took.0 took.1)
  took_on before e copies took = tt

  pub all_took_on : (c : Configuration) (before es : List Entry) → AllTookShown looks P c before es → AllTookShown looks_new Q c before es
  all_took_on c before [] took = tt
  all_took_on c before (e ∷ es) took = (took_on before e (copies_next c (next_of c (after c before))) took.0, all_took_on c (before ++ e ∷ []) es took.1)

module _ (looks : List Look) (P : (block number : ℕ) → List ℕ → Type 0) (c : Configuration) where
  all_took_more : (before xs ys : List Entry) → AllTookShown looks P c before xs → AllTookShown looks P c (before ++ xs) ys → AllTookShown looks P c before (xs ++ ys)
  all_took_more before [] ys one two = subst (λ (l : List Entry). AllTookShown looks P c l ys) (append-nil before) two
  all_took_more before (x ∷ xs) ys one two =
      (one.0, all_took_more (before ++ x ∷ []) xs ys one.1 (subst (λ (l : List Entry). AllTookShown looks P c l ys) (sym (append_assoc before (x ∷ []) xs)) two))

  asks_took : (before es : List Entry) → AreAsks es → AllTookShown looks P c before es
  asks_took before [] are = tt
  asks_took before (Ask caller r reply ∷ es) are = (tt, asks_took (before ++ Ask caller r reply ∷ []) es are.1)
  asks_took before (e ∷ es) are = let no_ : false ≡ true = are.0 in absurd (cc no_)

-- LOOKS
no_look : (l : Look) → Contains [] l → ⊥
no_look l has = absurd (omega (arith, has.1))

one_look : (l m : Look) → Contains (l ∷ []) m → l ≡ m
one_look l m (zero, few, is) = cc is
one_look l m (suc i, few, is) = absurd (omega (arith, few))

no_order : AreInOrder []
no_order i j a b less at = cc at

abbrev NoLater : Look → Look → Type 0
NoLater l m = (l.entry ≤ m.entry) × (l.block ≡ m.block → l.shown ≤ m.shown)

-- a look behind others, in no earlier Pick and of no older store
in_order_more : (looks : List Look) (m : Look) → AreInOrder looks → ((l : Look) → Contains looks l → NoLater l m) → AreInOrder (looks ++ m ∷ [])
in_order_more looks m order late i j a b less at there =
    let xs = looks ++ m ∷ [] in
    let pairs : AllPairs NoLater looks = λ i j d low within.
    order i j (get_or looks i d) (get_or looks j d) low (slice_get-get_or looks i d (omega (arith, low, within))) (slice_get-get_or looks j d within) in
    let all = all_pairs_push NoLater looks m pairs (λ k d low. late (get_or looks k d) (k, low, get_or_default looks k (get_or looks k d) d low)) in
    subst (λ (l : Look). NoLater l b) (get_or_from_slice_get xs i a a at)
    (subst (λ (k : Look). NoLater (get_or xs i a) k) (get_or_from_slice_get xs j b a there) (all i j a less (slice_get_within xs j b there)))

module _ {D C : Type 0} (told : D → DeviceTold) (clock : D → Clock) (copies : C → List Told) (is_store : C → ℕ → ℕ → List ℕ → Type 0) (looked : C → C → ℕ → ℕ → Type 0) (over : C → C → Type 0) (stands : C → ℕ → ℕ → List Entry → Type 0) (t : Terms) (ordered : LooksAreOrdered looked over) where
  abbrev Looked : (seen seen_new : List Entry) → (old new : DriverState D C) → Type 0
  Looked = HasLooked told clock copies is_store looked over stands t

  none : (seen : List Entry) (s : DriverState D C) → Looked seen seen s s
  none seen s = record {
    more = [];
    grows = sym (append-nil seen);
    looks = [];
    in_order = no_order;
    are = λ l has. absurd (no_look l has);
    took = tt;
  }

  -- what stays of a look
  look_on : (b c more : List Entry) (first old new : C) (l : Look) → c ≡ b ++ more → over old new → ((x : C) → over x old → over x new)
      → IsLookOf told clock copies is_store looked over stands t b first old l → IsLookOf told clock copies is_store looked over stands t c first new l
  look_on b c more first old new l grows on stays is =
      let longer : length c ≡ length b + length more = ap length grows ∙ length-append b more in
      let within = is.within in
      record {
        within = omega (arith, longer, within);
        between = ordered.later first old new l.block l.shown is.between on;
        by_then = is.by_then;
        since = stays is.by_then is.since;
        stands_in = subst (λ (x : List Entry). stands is.by_then l.block l.shown x) (sym (ap (take l.entry) grows ∙ take-append-le l.entry b more (omega (arith, within)))) is.stands_in;
      }

  -- with more entries, and these looks in them
  goes_on : (seen b c more : List Entry) (old s new : DriverState D C) (one : Looked seen b old s) (looks : List Look) → c ≡ b ++ more
      → over s.copies new.copies → ((x : C) → over x s.copies → over x new.copies) → ((k n : ℕ) (x : List ℕ) → is_store s.copies k n x → is_store new.copies k n x)
      → AreInOrder (one.looks ++ looks) → ((l : Look) → Contains looks l → IsLookOf told clock copies is_store looked over stands t c old.copies new.copies l)
      → AllTookShown (one.looks ++ looks) (is_store new.copies) t.config b more → Looked seen c old new
  goes_on seen b c more old s new one looks grows on over_stays stores_stay order are took = record {
    more = one.more ++ more;
    grows = grows ∙ ap (λ (l : List Entry). l ++ more) one.grows ∙ append_assoc seen one.more more;
    looks = one.looks ++ looks;
    in_order = order;
    are = λ l has. elim (Contains-append_cases one.looks looks l has) [
      | inl before ↦ look_on b c more old.copies s.copies new.copies l grows on over_stays (one.are l before)
      | inr now ↦ are l now
    ];
    took = all_took_more (one.looks ++ looks) (is_store new.copies) t.config seen one.more more
        (all_took_on one.looks (one.looks ++ looks) (is_store s.copies) (is_store new.copies) (λ l has. Contains-append_left one.looks looks l has) (λ before k n x has is. stores_stay k n x is) t.config seen one.more one.took)
        (subst (λ (l : List Entry). AllTookShown (one.looks ++ looks) (is_store new.copies) t.config l more) one.grows took);
  }

  module _ (seen b c : List Entry) (old s new : DriverState D C) (one : Looked seen b old s) (since : over old.copies s.copies) (turns : TurnsOn told clock copies is_store looked over stands t b c s new) (asks : List Entry) (are : AreAsks asks) where
    on : over s.copies new.copies
    on = turns.stays_over s.copies (ordered.itself s.copies)

    -- without a look
    quiet : (more : List Entry) → c ≡ b ++ more → AllTookShown one.looks (is_store new.copies) t.config b more → Looked seen c old new
    quiet more grows took =
        let same : one.looks ++ [] ≡ one.looks = append-nil one.looks in
        goes_on seen b c more old s new one [] grows on turns.stays_over turns.stores_stay (subst AreInOrder (sym same) one.in_order) (λ l has. absurd (no_look l has))
        (subst (λ (l : List Look). AllTookShown l (is_store new.copies) t.config b more) (sym same) took)

    quietly : (e : Entry) → c ≡ (b ++ asks) ++ e ∷ [] → TookShown one.looks (is_store new.copies) (b ++ asks) e (copies_next t.config (next_of t.config (after t.config (b ++ asks)))) → Looked seen c old new
    quietly e grows took =
        quiet (asks ++ e ∷ []) (grows ∙ append_assoc b asks (e ∷ []))
        (all_took_more one.looks (is_store new.copies) t.config b asks (e ∷ []) (asks_took one.looks (is_store new.copies) t.config b asks are) (took, tt))

    -- a look in the Pick behind these requests
    showing : (e : Entry) (block number : ℕ) → c ≡ (b ++ asks) ++ e ∷ [] → looked s.copies new.copies block number → stands new.copies block number (b ++ asks)
        → TookShown (one.looks ++ look_behind (b ++ asks) block number ∷ []) (is_store new.copies) (b ++ asks) e (copies_next t.config (next_of t.config (after t.config (b ++ asks)))) → Looked seen c old new
    showing e block number grows now stood took =
        let before = b ++ asks in
        let m = look_behind before block number in
        let long : length before ≡ length b + length asks = length-append b asks in
        let longer : length c ≡ length before + 1 = ap length grows ∙ length-append before (e ∷ []) in
        goes_on seen b c (asks ++ e ∷ []) old s new one (m ∷ []) (grows ∙ append_assoc b asks (e ∷ [])) on turns.stays_over turns.stores_stay
        (in_order_more one.looks m one.in_order (λ l has.
        let is = one.are l has in
        let within = is.within in (
          omega (arith, long, within),
          λ same. ordered.ascend old.copies s.copies new.copies block l.shown number (subst (λ (k : ℕ). looked old.copies s.copies k l.shown) same is.between) now,
        )))
        (λ l has. subst (λ (k : Look). IsLookOf told clock copies is_store looked over stands t c old.copies new.copies k) (one_look m l has) (record {
          within = omega (arith, longer);
          between = ordered.earlier old.copies s.copies new.copies block number since now;
          by_then = new.copies;
          since = ordered.itself new.copies;
          stands_in = subst (λ (x : List Entry). stands new.copies block number x) (sym (ap (take (length before)) grows ∙ take-append_seam before (e ∷ []))) stood;
        }))
        (all_took_more (one.looks ++ m ∷ []) (is_store new.copies) t.config b asks (e ∷ []) (asks_took (one.looks ++ m ∷ []) (is_store new.copies) t.config b asks are) (took, tt))

    last_has : (m : Look) → Contains (one.looks ++ m ∷ []) m
    last_has m = Contains-append_right one.looks (m ∷ []) m (zero, omega arith, refl)

    -- what a Pick took
    pick : (block ops : ℕ) (kind : JobKind) (taken : Taken) → c ≡ (b ++ asks) ++ Pick block kind taken ops ∷ []
        → IsPickShown is_store looked over stands t.config (b ++ asks) block taken s.copies new.copies → Looked seen c old new
    pick block ops kind (TookStale wanted got count) grows shown =
        let (between, n, first, later, less) = shown.stale wanted got count refl in
        absurd (omega (arith, ordered.ascend s.copies between new.copies block n got first later, less))
    pick block ops kind (TookContent bytes number) grows shown = by (copies_next t.config (next_of t.config (after t.config (b ++ asks)))) refl
      where
        by : (copied : Bool) → copies_next t.config (next_of t.config (after t.config (b ++ asks))) ≡ copied → Looked seen c old new
        by true is =
            let (store, now) = shown.content bytes number refl is in
            showing (Pick block kind (TookContent bytes number) ops) block number grows now (shown.stands_in number now)
            (subst (λ (d : Bool). TookShown (one.looks ++ look_behind (b ++ asks) block number ∷ []) (is_store new.copies) (b ++ asks) (Pick block kind (TookContent bytes number) ops) d) (sym is)
            (last_has (look_behind (b ++ asks) block number), store))
        by false is =
            quietly (Pick block kind (TookContent bytes number) ops) grows
            (subst (λ (d : Bool). TookShown one.looks (is_store new.copies) (b ++ asks) (Pick block kind (TookContent bytes number) ops) d) (sym is) tt)
    pick block ops kind taken grows shown = quietly (Pick block kind taken ops) grows tt

    by_last : (last : Option Entry) → c ≡ (b ++ asks) ++ option_to_list last → IfSome last (λ e. IsPick e → turns.answer ≡ turned.Picked) → Looked seen c old new
    by_last None grows picks =
        quiet asks (grows ∙ append-nil (b ++ asks)) (asks_took one.looks (is_store new.copies) t.config b asks are)
    by_last (Some (Pick block kind taken ops)) grows picks = pick block ops kind taken grows (turns.shown (picks tt) (b ++ asks) block ops kind taken grows)
    by_last (Some e) grows picks = quietly e grows tt

  -- a turn more, or requests alone
  more : (seen b c : List Entry) (old s new : DriverState D C) → HasDriven told clock copies is_store looked over stands t seen b old s → Looked seen b old s → DrivesOn told clock copies is_store looked over stands t b c s new → Looked seen c old new
  more seen b c old s new driven one (inl turns) =
      let adds = turn_adds told clock copies is_store looked t turns.answer b c s new turns.turns in
      let since = (driving_keeps told clock copies is_store looked over stands t seen b old s driven).stays_over old.copies (ordered.itself old.copies) in
      by_last seen b c old s new one since turns adds.asks adds.are adds.last adds.grows (IfSome_then adds.last adds.added (λ e is. is.pick))
  more seen b c old s new driven one (inr is) = subst (λ (x : DriverState D C). Looked seen c old x) (sym is.same)
      (let same : one.looks ++ [] ≡ one.looks = append-nil one.looks in
      goes_on seen b c is.sees.asks old s s one [] (ap (λ (d : DeskState). d.entries) is.sees.grows) (ordered.itself s.copies) (λ x has. has) (λ k n x has. has) (subst AreInOrder (sym same) one.in_order) (λ l has. absurd (no_look l has))
      (asks_took (one.looks ++ []) (is_store s.copies) t.config b is.sees.asks is.sees.are))

pub driving_looks : {D C : Type 0} (told : D → DeviceTold) (clock : D → Clock) (copies : C → List Told) (is_store : C → ℕ → ℕ → List ℕ → Type 0) (looked : C → C → ℕ → ℕ → Type 0) (over : C → C → Type 0) (stands : C → ℕ → ℕ → List Entry → Type 0) (t : Terms) → DrivingLooks told clock copies is_store looked over stands t
driving_looks told clock copies is_store looked over stands t ordered =
    holds_of_drives told clock copies is_store looked over stands t (HasLooked told clock copies is_store looked over stands t)
    (none told clock copies is_store looked over stands t ordered) (more told clock copies is_store looked over stands t ordered)

-- The newest store of each block, and the last one of each caller.
use Rattle.std.specs.Prelude.{slice_get, slice_set, fold, filter_map}
use Rattle.std.specs.List.{enumerate_from}
use Rattle.std.specs.Option.{option_map}
use Rattle.std.proofs.Common.{◌≡◌, ◌≢◌, ◌==◌, ◌≤◌, ◌+◌, ℕ, zero, suc, true, false, List, [], ◌∷◌, ◌++◌, length, get_or, refl, sym, ap, ◌∙◌, subst, inl, inr, arith, Some, if◌then◌else◌, length-append, append-nil}
use Rattle.std.proofs.lemmas.Bool.{cases_Bool, eqb-true, eq-eqb}
use Rattle.std.proofs.lemmas.List.Elements.{filter_map-append}
use Rattle.std.proofs.lemmas.List.Sums.{fold-append}
use Rattle.std.proofs.Common.{get_or-set_same, get_or-set_other}
use Rattle.block_machine.specs.Words.{Configuration}
use Rattle.script_walks.specs.Words.{Step, StepKind, AskStep, Store, Turn, Drain, Restart, Cut, CutSecond, Refuse, Await}
use Rattle.script_walks.specs.Walk.{store_by, stores_of, store_content}
use Rattle.script_walks.specs.Stores.{IsNewest}
use Rattle.script_walks.specs.StoreLaws.{is_store, OthersKeepNewest, StoresAreNewest, StoresAreFew, LastStoresGrow}

-- ONE STEP MORE

by_kind : ℕ → ℕ → StepKind → List (ℕ × List ℕ)
by_kind id caller kind = filter_map (λ o. o) (store_by id caller kind ∷ [])

pub stores_more : (id : ℕ) (before : List Step) (x : Step) → stores_of id (before ++ x ∷ []) ≡ stores_of id before ++ stores_of id (x ∷ [])
stores_more id before x = filter_map-append (λ y. store_by id y.caller y.kind) before (x ∷ [])

none_by : (id line caller : ℕ) (kind : StepKind) → is_store kind ≡ false → stores_of id (record { line = line; caller = caller; kind = kind } ∷ []) ≡ []
none_by id line caller (Store block content) no_store = cc
none_by id line caller (AskStep r) no_store = refl
none_by id line caller (Turn count) no_store = refl
none_by id line caller Drain no_store = refl
none_by id line caller Restart no_store = refl
none_by id line caller (Cut nth keep) no_store = refl
none_by id line caller (CutSecond nth keep) no_store = refl
none_by id line caller (Refuse block count) no_store = refl
none_by id line caller (Await block) no_store = refl

pub same_stores : (id : ℕ) (before : List Step) (x : Step) → is_store x.kind ≡ false → stores_of id (before ++ x ∷ []) ≡ stores_of id before
same_stores id before x no_store = stores_more id before x ∙ ap (λ s. stores_of id before ++ s) (none_by id x.line x.caller x.kind no_store) ∙ append-nil (stores_of id before)

-- a store of a block is one more of it alone
one_more : (id : ℕ) (before : List Step) (line caller block : ℕ) (content : List ℕ) → (block == id) ≡ true
    → stores_of id (before ++ record { line = line; caller = caller; kind = Store block content } ∷ []) ≡ stores_of id before ++ (caller, content) ∷ []
one_more id before line caller block content own =
    stores_more id before (record { line = line; caller = caller; kind = Store block content }) ∙ ap (λ s. stores_of id before ++ s) (rw own refl)

of_others : (id : ℕ) (before : List Step) (line caller block : ℕ) (content : List ℕ) → (block == id) ≡ false
    → stores_of id (before ++ record { line = line; caller = caller; kind = Store block content } ∷ []) ≡ stores_of id before
of_others id before line caller block content other =
    stores_more id before (record { line = line; caller = caller; kind = Store block content }) ∙ ap (λ s. stores_of id before ++ s) (rw other refl) ∙ append-nil (stores_of id before)

-- THE NEWEST

content_same : (c : Configuration) (before after : List Step) (id n : ℕ) → stores_of id after ≡ stores_of id before → store_content c after id n ≡ store_content c before id n
content_same c before after id zero same = refl
content_same c before after id (suc n) same = ap (λ (s : List (ℕ × List ℕ)). option_map (λ x. x.1) (slice_get s n)) same

newest_same : (c : Configuration) (before after : List Step) (id : ℕ) (x : ℕ × List ℕ) → stores_of id after ≡ stores_of id before → IsNewest c before id x → IsNewest c after id x
newest_same c before after id x same is = record {
  number = is.number ∙ ap length (sym same);
  content = content_same c before after id x.0 same ∙ is.content;
}

pub others_keep_newest : OthersKeepNewest
others_keep_newest c before stores x no_store newest id sync = newest_same c before (before ++ x ∷ []) id (get_or stores id (0, [])) (same_stores id before x no_store) (newest id sync)

at_end : {X : Type 0} (xs : List X) (x : X) → slice_get (xs ++ x ∷ []) (length xs) ≡ Some x
at_end [] x = refl
at_end (y ∷ ys) x = at_end ys x

newest_more : (c : Configuration) (before after : List Step) (id caller : ℕ) (content : List ℕ) → stores_of id after ≡ stores_of id before ++ (caller, content) ∷ []
    → IsNewest c after id (length (stores_of id before) + 1, content)
newest_more c before after id caller content more = record {
  number = sym (ap length more ∙ length-append (stores_of id before) ((caller, content) ∷ []));
  content =
      let next : length (stores_of id before) + 1 ≡ suc (length (stores_of id before)) = omega arith in
      ap (store_content c after id) next
      ∙ ap (λ (s : List (ℕ × List ℕ)). option_map (λ x. x.1) (slice_get s (length (stores_of id before)))) more ∙ ap (λ o. option_map (λ x. x.1) o) (at_end (stores_of id before) (caller, content));
}

pub stores_are_newest : StoresAreNewest
stores_are_newest c before stores line caller block content within newest id sync =
    let x : Step = record { line = line; caller = caller; kind = Store block content } in
    elim (cases_Bool (block == id)) [
      | inl own ↦
          let is : block ≡ id = eqb-true block id own in
          let set : get_or (slice_set stores block (length (stores_of block before) + 1, content)) id (0, []) ≡ (length (stores_of id before) + 1, content) = subst (λ (n : ℕ). get_or (slice_set stores block (length (stores_of block before) + 1, content)) n (0, []) ≡ (length (stores_of n before) + 1, content)) is (get_or-set_same stores block (length (stores_of block before) + 1, content) (0, []) within) in
          subst (λ (y : ℕ × List ℕ). IsNewest c (before ++ x ∷ []) id y) (sym set) (newest_more c before (before ++ x ∷ []) id caller content (one_more id before line caller block content own))
      | inr other ↦
          let apart : id ≢ block = λ same. let no_ : true ≡ false = sym (eq-eqb block id (sym same)) ∙ other in absurd (cc no_) in
          let set : get_or (slice_set stores block (length (stores_of block before) + 1, content)) id (0, []) ≡ get_or stores id (0, []) = get_or-set_other stores block id (length (stores_of block before) + 1, content) (0, []) apart in
          subst (λ (y : ℕ × List ℕ). IsNewest c (before ++ x ∷ []) id y) (sym set)
          (newest_same c before (before ++ x ∷ []) id (get_or stores id (0, [])) (of_others id before line caller block content other) (newest id sync))
    ]

one_by : (id line caller : ℕ) (kind : StepKind) → length (stores_of id (record { line = line; caller = caller; kind = kind } ∷ [])) ≤ 1
one_by id line caller (Store block content) = elim (cases_Bool (block == id)) [ inl own ↦ rw own (omega arith) | inr other ↦ rw other (omega arith) ]
one_by id line caller (AskStep r) = omega arith
one_by id line caller (Turn count) = omega arith
one_by id line caller Drain = omega arith
one_by id line caller Restart = omega arith
one_by id line caller (Cut nth keep) = omega arith
one_by id line caller (CutSecond nth keep) = omega arith
one_by id line caller (Refuse block count) = omega arith
one_by id line caller (Await block) = omega arith

pub stores_are_few : StoresAreFew
stores_are_few id [] = omega arith
stores_are_few id (x ∷ xs) =
    let more : stores_of id (x ∷ xs) ≡ stores_of id (x ∷ []) ++ stores_of id xs = filter_map-append (λ y. store_by id y.caller y.kind) (x ∷ []) xs in
    let one = one_by id x.line x.caller x.kind in
    let rest = stores_are_few id xs in
    let count : length (stores_of id (x ∷ xs)) ≡ length (stores_of id (x ∷ [])) + length (stores_of id xs) = ap length more ∙ length-append (stores_of id (x ∷ [])) (stores_of id xs) in
    omega (arith, one, rest, count)

-- THE LAST OF A CALLER

enumerated_more : {X : Type 0} (n : ℕ) (xs : List X) (x : X) → enumerate_from n (xs ++ x ∷ []) ≡ enumerate_from n xs ++ (n + length xs, x) ∷ []
enumerated_more n [] x = let same : n ≡ n + 0 = omega arith in ap (λ m. (m, x) ∷ []) same
enumerated_more n (y ∷ ys) x =
    let same : n + 1 + length ys ≡ n + suc (length ys) = omega arith in
    ap (λ es. (n, y) ∷ es) (enumerated_more (n + 1) ys x ∙ ap (λ m. enumerate_from (n + 1) ys ++ (m, x) ∷ []) same)

last_by : (caller : ℕ) → ℕ → ℕ × (ℕ × List ℕ) → ℕ
last_by caller last x = if x.1.0 == caller then x.0 else last

last_in : ℕ → List (ℕ × List ℕ) → ℕ
last_in caller stores = fold (λ last x. if x.1.0 == caller then x.0 else last) 0 (enumerate_from 1 stores)

last_more : (caller who : ℕ) (content : List ℕ) (stores : List (ℕ × List ℕ))
    → last_in caller (stores ++ (who, content) ∷ []) ≡ (if who == caller then length stores + 1 else last_in caller stores)
unfolding last_in
last_more caller who content stores =
    let one : 1 + length stores ≡ length stores + 1 = omega arith in
    ap (fold (λ last x. if x.1.0 == caller then x.0 else last) 0) (enumerated_more 1 stores (who, content) ∙ ap (λ m. enumerate_from 1 stores ++ (m, (who, content)) ∷ []) one)
    ∙ fold-append (λ last x. if x.1.0 == caller then x.0 else last) 0 (enumerate_from 1 stores) ((length stores + 1, (who, content)) ∷ [])

pub last_stores_grow : LastStoresGrow
unfolding last_in
last_stores_grow caller id before = (
  λ x no_store. ap (last_in caller) (same_stores id before x no_store),
  λ line who block content. elim (cases_Bool (block == id)) [
    | inl own ↦ ap (last_in caller) (one_more id before line who block content own) ∙ last_more caller who content (stores_of id before) ∙ rw own refl
    | inr other ↦ ap (last_in caller) (of_others id before line who block content other) ∙ rw other refl
  ],
)

-- What a caller stored, as it goes on.
use Rattle.nvm_callers.proofs.Common.{◌≡◌, ◌≢◌, ◌⊎◌, ◌==◌, ℕ, zero, suc, ◌+◌, ◌≤◌, ◌∙◌, true, false, List, [], ◌∷◌, ◌++◌, length, take, Some, inl, inr, refl, sym, ap, subst, arith, length-append, eq-eqb, ne_eqb, cases_Bool, append-nil, append_assoc, take-append-le, take_all, some, some-ne-none, some-injective, dite, ℕ_discrete, get_elem?, Entry, Configuration, Terms, store_of, gives, AreAt, View, Note, StartsWith, AllAgree, Deed, AskDeed, StoreDeed, Await, requests_in, requests_append, HasWaited, Stored, TellsDone, IsStoreOf, AreAsMany, StoredOne, stores_in, NoneIsStored, AsksStayStored, StoresLast, StoresAreStored}
use Rattle.nvm_callers.proofs.Waiting.{agree_before, starts_again}
use Rattle.nvm_callers.proofs.Doing.{are_as_many, wait_asked, waits_on}

no_entry : {A : Type 0} (xs : List A) (i : ℕ) (x : A) → xs ≡ [] → get_elem? xs i ≡ some x → ⊥
no_entry {A} xs i x none at = some-ne-none x (sym (ap (λ (l : List A). get_elem? l i) (sym none) ∙ at))

-- behind the last, or before it
at_last : {A : Type 0} (l : List A) (a b : A) (j : ℕ) → get_elem? (l ++ a ∷ []) j ≡ some b → (get_elem? l j ≡ some b) ⊎ ((j ≡ length l) × (a ≡ b))
at_last [] a b zero e = inr (refl, some-injective a b e)
at_last [] a b (suc j) e = absurd (some-ne-none b (sym e))
at_last (x ∷ xs) a b zero e = inl e
at_last (x ∷ xs) a b (suc j) e = elim (at_last xs a b j e) [
  | inl before ↦ inl before
  | inr last ↦ inr (ap suc last.0, last.1)
]

pub none_is_stored : NoneIsStored
none_is_stored c cap own seen notes caller made none block k x at = absurd (no_entry (made block) k x (none block) at)

module _ (c : Configuration) (cap : ℕ) (caller : ℕ) where
  tells_asked : (own : List ℕ) (seen list : List Entry) (notes : List Note) (before : List Deed) (note : View Entry Terms) (e : Entry)
      → length (requests_in before) ≤ length own → StartsWith list seen → AllAgree gives list notes
      → TellsDone c cap own seen notes caller before note → TellsDone c cap (own ++ length list ∷ []) (list ++ e ∷ []) notes caller before note
  tells_asked own seen list notes before note e few starts agree tells =
      let onwards : StartsWith list note.seen = starts_again list seen note.seen starts tells.seen_since in
      let agrees : AllAgree gives list note.notes = agree_before list note.notes tells.told_since.0 (subst (λ (l : List Note). AllAgree gives list l) tells.told_since.1 agree) in record {
        at = subst (λ (l : List ℕ). AreAt note.seen caller l (requests_in before)) (sym (take-append-le (length (requests_in before)) own (length list ∷ []) few)) tells.at;
        waits = waits_on (HasWaited c cap own note.seen note.notes) (HasWaited c cap (own ++ length list ∷ []) note.seen note.notes) (length own)
            (λ block k small has. wait_asked c cap own note.seen list note.notes block k onwards agrees small has) 0 before (omega (arith, few)) tells.waits;
        seen_since = starts_again (list ++ e ∷ []) list note.seen (e ∷ [], refl) onwards;
        told_since = tells.told_since;
      }

  tells_later : (own : List ℕ) (seen seen_new : List Entry) (notes more : List Note) (before : List Deed) (note : View Entry Terms) → StartsWith seen_new seen
      → TellsDone c cap own seen notes caller before note → TellsDone c cap own seen_new (notes ++ more) caller before note
  tells_later own seen seen_new notes more before note starts tells = record {
    at = tells.at;
    waits = tells.waits;
    seen_since = starts_again seen_new seen note.seen starts tells.seen_since;
    told_since = starts_again (notes ++ more) notes note.notes (more, refl) tells.told_since;
  }

  -- the store stays where deeds come behind, if what came along tells the same
  stays : (own own_new : List ℕ) (seen seen_new : List Entry) (notes notes_new : List Note) (deeds more : List Deed) (block k : ℕ) (x : Stored) → (s : IsStoreOf c cap own seen notes caller deeds block k x)
      → TellsDone c cap own_new seen_new notes_new caller s.before s.note → IsStoreOf c cap own_new seen_new notes_new caller (deeds ++ more) block k x
  stays own own_new seen seen_new notes notes_new deeds more block k x s tells = record {
    before = s.before;
    after = s.after ++ more;
    line = s.line;
    number = s.number;
    is = ap (λ (l : List Deed). l ++ more) s.is ∙ append_assoc s.before (StoreDeed s.line block s.number x.content ∷ s.after) more;
    place = s.place;
    note = s.note;
    along = s.along;
    done = tells;
  }

pub asks_stay_stored : AsksStayStored
asks_stay_stored c cap own seen list notes caller deeds made line r e stored done starts agree block k x at =
    let s = stored block k x at in
    let many = are_as_many caller seen own (requests_in deeds) done.at in
    let first = ap length (ap requests_in s.is ∙ requests_append s.before (StoreDeed s.line block s.number x.content ∷ s.after)) ∙ length-append (requests_in s.before) (requests_in s.after) in
    stays c cap caller own (own ++ length list ∷ []) seen (list ++ e ∷ []) notes notes deeds (AskDeed line r ∷ []) block k x s
    (tells_asked c cap caller own seen list notes s.before s.note e (omega (arith, many, first)) starts agree s.done)

pub stores_last : StoresLast
stores_last c cap own seen seen_new notes more caller deeds more_deeds made stored starts block k x at =
    let s = stored block k x at in
    stays c cap caller own own seen seen_new notes (notes ++ more) deeds more_deeds block k x s (tells_later c cap caller own seen seen_new notes more s.before s.note starts s.done)

pub stores_are_stored : StoresAreStored
stores_are_stored c cap own caller deeds made made_new line block number content note stored many done one id k x at =
    dite (ℕ_discrete id block)
    (λ same. last same (at_last (made block) (store_of content (Some note)) x k (subst (λ (l : List Stored). get_elem? l k ≡ some x) one.one (subst (λ (b : ℕ). get_elem? (made_new b) k ≡ some x) same at))))
    (λ other. old id (subst (λ (l : List Stored). get_elem? l k ≡ some x) (one.others id other) at))
  where
    full : take (length (requests_in deeds)) own ≡ own
    full = take_all (length (requests_in deeds)) own (let as_many = are_as_many caller note.seen own (requests_in deeds) done.at in omega (arith, as_many))

    old : (b : ℕ) → get_elem? (made b) k ≡ some x → IsStoreOf c cap own note.seen note.notes caller (deeds ++ StoreDeed line block number content ∷ []) b k x
    old b here = let s = stored b k x here in stays c cap caller own own note.seen note.seen note.notes note.notes deeds (StoreDeed line block number content ∷ []) b k x s s.done

    new : (b : ℕ) → b ≡ block → k ≡ length (made block) → store_of content (Some note) ≡ x → IsStoreOf c cap own note.seen note.notes caller (deeds ++ StoreDeed line block number content ∷ []) b k x
    new b same here is = record {
      before = deeds;
      after = [];
      line = line;
      number = number;
      is = ap (λ (l : List ℕ). deeds ++ StoreDeed line block number l ∷ []) (ap (λ (y : Stored). y.content) is) ∙ ap (λ (n : ℕ). deeds ++ StoreDeed line n number x.content ∷ []) (sym same);
      place = here ∙ many block ∙ ap (λ (n : ℕ). length (stores_in n deeds)) (sym same);
      note = note;
      along = sym (ap (λ (y : Stored). y.note) is);
      done = record {
        at = subst (λ (l : List ℕ). AreAt note.seen caller l (requests_in deeds)) (sym full) done.at;
        waits = done.waits;
        seen_since = ([], sym (append-nil note.seen));
        told_since = ([], sym (append-nil note.notes));
      };
    }

    last : id ≡ block → (get_elem? (made block) k ≡ some x) ⊎ ((k ≡ length (made block)) × (store_of content (Some note) ≡ x)) → IsStoreOf c cap own note.seen note.notes caller (deeds ++ StoreDeed line block number content ∷ []) id k x
    last same (inl before) = subst (λ (b : ℕ). IsStoreOf c cap own note.seen note.notes caller (deeds ++ StoreDeed line block number content ∷ []) b k x) (sym same) (old block before)
    last same (inr (here, is)) = new id same here is

-- HOW MANY THERE ARE
stores_append : (block : ℕ) (ds es : List Deed) → stores_in block (ds ++ es) ≡ stores_in block ds ++ stores_in block es
stores_append block [] es = refl
stores_append block (AskDeed line r ∷ ds) es = stores_append block ds es
stores_append block (Await line id ∷ ds) es = stores_append block ds es
stores_append block (StoreDeed line id number content ∷ ds) es = elim (cases_Bool (id == block)) [
  | inl own ↦ rw own (ap (λ (l : List (List ℕ)). content ∷ l) (stores_append block ds es))
  | inr other ↦ rw other (stores_append block ds es)
]

stores_behind : (block : ℕ) (ds : List Deed) (d : Deed) (n : ℕ) → length (stores_in block (d ∷ [])) ≡ n → length (stores_in block (ds ++ d ∷ [])) ≡ length (stores_in block ds) + n
stores_behind block ds d n many = ap length (stores_append block ds (d ∷ [])) ∙ length-append (stores_in block ds) (stores_in block (d ∷ [])) ∙ ap (λ (k : ℕ). length (stores_in block ds) + k) many

-- no store more
pub none_as_many : (deeds : List Deed) (d : Deed) (made : ℕ → List Stored) → ((block : ℕ) → length (stores_in block (d ∷ [])) ≡ 0) → AreAsMany deeds made → AreAsMany (deeds ++ d ∷ []) made
none_as_many deeds d made none many block = many block ∙ sym (stores_behind block deeds d 0 (none block) ∙ omega arith)

own_store : (block : ℕ) (content : List ℕ) (line number : ℕ) → length (stores_in block (StoreDeed line block number content ∷ [])) ≡ 1
own_store block content line number = let own : (block == block) ≡ true = eq-eqb block block refl in rw own refl

other_store : (block other : ℕ) (content : List ℕ) (line number : ℕ) → other ≢ block → length (stores_in other (StoreDeed line block number content ∷ [])) ≡ 0
other_store block other content line number apart = let not_it : (block == other) ≡ false = ne_eqb block other (λ same. apart (sym same)) in rw not_it refl

-- one store more
pub one_as_many : (deeds : List Deed) (line block number : ℕ) (content : List ℕ) (note : View Entry Terms) (made made_new : ℕ → List Stored) → StoredOne block content note made made_new → AreAsMany deeds made
    → AreAsMany (deeds ++ StoreDeed line block number content ∷ []) made_new
one_as_many deeds line block number content note made made_new one many id = dite (ℕ_discrete id block)
    (λ same. subst (λ (b : ℕ). length (made_new b) ≡ length (stores_in b (deeds ++ StoreDeed line block number content ∷ []))) (sym same)
    (ap (λ (l : List Stored). length l) one.one ∙ length-append (made block) (store_of content (Some note) ∷ []) ∙ ap (λ (n : ℕ). n + 1) (many block)
    ∙ sym (stores_behind block deeds (StoreDeed line block number content) 1 (own_store block content line number))))
    (λ other. ap (λ (l : List Stored). length l) (one.others id other) ∙ many id
    ∙ sym (stores_behind id deeds (StoreDeed line block number content) 0 (other_store block id content line number other) ∙ omega arith))

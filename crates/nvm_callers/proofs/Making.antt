-- What a caller's calls tell of what it did.
use Rattle.nvm_callers.proofs.Common.{◌≡◌, ◌≢◌, ◌≤◌, ◌<◌, ℕ, List, [], ◌∷◌, ◌++◌, length, Option, Some, sym, ap, subst, refl, ◌∙◌, append-nil, All-pop, View, Note, NotBelow, StartsWith, code_of, Pending, Request, Reply, Entry, Ask, gives, off_word, Terms, Deed, AskDeed, StoreDeed, Await, HasDone, Stored, AreAsMany, StoredOne, Did, HasPolled, KeepsPass, MayStore, copied, noted, Asked, HasStored, IsAsk, IsAwait, FindsNoRoom, WaitsNext}
use Rattle.std.proofs.Common.{All, slice_get}
use Rattle.std.proofs.lemmas.List.{append_assoc}
use Rattle.nvm_callers.proofs.Doing.{asks_are_done, deeds_last, none_is_done, stores_are_done, waits_are_done}
use Rattle.nvm_callers.proofs.Storing.{asks_stay_stored, none_as_many, none_is_stored, one_as_many, stores_are_stored, stores_last}
use Rattle.nvm_callers.proofs.Waiting.{off_ends_waits, polls_end_waits}
use Rattle.nvm_callers.specs.Calls.{IsOver}

-- POLLS
pub poll_ends : (t : Terms) (block : ℕ) (v w : View Entry Terms) (entry status : ℕ) → block ≤ length t.config.blocks → block < off_word → status ≢ code_of Pending
    → w ≡ noted v block entry status → NotBelow gives v.seen v.notes block entry → IsOver t block w
poll_ends t block v w entry status few low ended is fresh = subst (IsOver t block) (sym is) (polls_end_waits t.config t.cap block v.seen v.notes entry status few low ended fresh)

pub off_ends : (t : Terms) (block : ℕ) (v w : View Entry Terms) (entry status : ℕ) → w ≡ noted v off_word entry status → status ≡ 1
    → NotBelow gives v.seen v.notes off_word entry → IsOver t block w
off_ends t block v w entry status is one fresh =
    subst (IsOver t block) (sym (is ∙ ap (λ (n : ℕ). noted v off_word entry n) one)) (off_ends_waits t.config t.cap block v.seen v.notes entry fresh)

pub polls_keep : (v w : View Entry Terms) → HasPolled v w → KeepsPass v w
polls_keep v w (more, is) = subst (KeepsPass v) (sym is) (record { starts = ([], sym (append-nil v.seen)); heard = refl; mark = refl; parts = refl })

-- DEEDS
-- by what the pass knows
did_with : (t : Terms) (caller : ℕ) (ds : List Deed) (w : View Entry Terms) (own : List ℕ) (seen : List Entry) (notes : List Note) (bytes : ℕ → Option ℕ) (began made : ℕ → List Stored)
    → w.own ≡ own → w.seen ≡ seen → w.notes ≡ notes → HasDone t.config t.cap own seen notes caller ds
    → (((block : ℕ) → began block ≡ []) → All (MayStore bytes) ds → HasStored t.config t.cap own seen notes caller ds made × AreAsMany ds made) → Did t caller ds w bytes began made
did_with t caller ds w own seen notes bytes began made same_own same_seen same_notes done stored = record {
  done =
      let d1 = subst (λ (l : List ℕ). HasDone t.config t.cap l seen notes caller ds) (sym same_own) done in
      let d2 = subst (λ (l : List Entry). HasDone t.config t.cap w.own l notes caller ds) (sym same_seen) d1 in
      subst (λ (l : List Note). HasDone t.config t.cap w.own w.seen l caller ds) (sym same_notes) d2;
  stored = λ none may.
      let s1 = subst (λ (l : List ℕ). HasStored t.config t.cap l seen notes caller ds made) (sym same_own) (stored none may).0 in
      let s2 = subst (λ (l : List Entry). HasStored t.config t.cap w.own l notes caller ds made) (sym same_seen) s1 in
      record { each = subst (λ (l : List Note). HasStored t.config t.cap w.own w.seen l caller ds made) (sym same_notes) s2; many = (stored none may).1 };
}

-- those that may be stored
first_may : (P : Deed → Type 0) (ds : List Deed) (d : Deed) → All P (ds ++ d ∷ []) → All P ds × P d
first_may P ds d all = All-pop P (ds ++ d ∷ []) ds (Some d) refl all

-- a request more
pub did_ask : (t : Terms) (caller : ℕ) (ds : List Deed) (bytes : ℕ → Option ℕ) (began made : ℕ → List Stored) (v w : View Entry Terms) (n line : ℕ) (r : Request) (reply : Reply)
    → Asked v w n (Ask caller r reply) → w.notes ≡ v.notes → Did t caller ds v bytes began made → Did t caller (ds ++ AskDeed line r ∷ []) w bytes began made
did_ask t caller ds bytes began made v w n line r reply asked notes did =
    did_with t caller (ds ++ AskDeed line r ∷ []) w (v.own ++ length asked.before ∷ []) (asked.before ++ Ask caller r reply ∷ []) v.notes bytes began made
    (asked.own ∙ ap (λ (k : ℕ). v.own ++ k ∷ []) asked.number) asked.seen notes
    (asks_are_done t.config t.cap v.own v.seen asked.before v.notes caller ds line r reply did.done asked.starts asked.agree)
    (λ none may.
    let is = did.stored none (first_may (MayStore bytes) ds (AskDeed line r) may).0 in (
      asks_stay_stored t.config t.cap v.own v.seen asked.before v.notes caller ds made line r (Ask caller r reply) is.each did.done asked.starts asked.agree,
      none_as_many ds (AskDeed line r) made (λ block. refl) is.many,
    ))

-- none more: the pass has seen more, and was told more
did_later : (t : Terms) (caller : ℕ) (ds : List Deed) (bytes : ℕ → Option ℕ) (began made : ℕ → List Stored) (v w : View Entry Terms) (more : List Note) → w.own ≡ v.own → w.notes ≡ v.notes ++ more
    → StartsWith w.seen v.seen → Did t caller ds v bytes began made → Did t caller ds w bytes began made
did_later t caller ds bytes began made v w more own notes starts did =
    did_with t caller ds w v.own w.seen (v.notes ++ more) bytes began made own refl notes (deeds_last t.config t.cap v.own v.seen w.seen v.notes more caller ds did.done starts)
    (λ none may.
    let is = did.stored none may in (
      subst (λ (l : List Deed). HasStored t.config t.cap v.own w.seen (v.notes ++ more) caller l made) (append-nil ds)
          (stores_last t.config t.cap v.own v.seen w.seen v.notes more caller ds [] made is.each starts),
      is.many,
    ))

pub did_see : (t : Terms) (caller : ℕ) (ds : List Deed) (bytes : ℕ → Option ℕ) (began made : ℕ → List Stored) (v w : View Entry Terms) → w.own ≡ v.own → w.notes ≡ v.notes
    → StartsWith w.seen v.seen → Did t caller ds v bytes began made → Did t caller ds w bytes began made
did_see t caller ds bytes began made v w own notes starts did = did_later t caller ds bytes began made v w [] own (notes ∙ sym (append-nil v.notes)) starts did

-- a wait more
pub did_wait : (t : Terms) (caller : ℕ) (ds : List Deed) (bytes : ℕ → Option ℕ) (began made : ℕ → List Stored) (line block : ℕ) (v w : View Entry Terms) → HasPolled v w
    → IsOver t block w → Did t caller ds v bytes began made → Did t caller (ds ++ Await line block ∷ []) w bytes began made
did_wait t caller ds bytes began made line block v w (more, is) over did =
    did_with t caller (ds ++ Await line block ∷ []) w v.own v.seen (v.notes ++ more) bytes began made
    (ap (λ (z : View Entry Terms). z.own) is) (ap (λ (z : View Entry Terms). z.seen) is) (ap (λ (z : View Entry Terms). z.notes) is)
    (waits_are_done t.config t.cap v.own v.seen v.notes more caller ds line block did.done (subst (IsOver t block) is over))
    (λ none may.
    let before = did.stored none (first_may (MayStore bytes) ds (Await line block) may).0 in (
      stores_last t.config t.cap v.own v.seen v.seen v.notes more caller ds (Await line block ∷ []) made before.each ([], sym (append-nil v.seen)),
      none_as_many ds (Await line block) made (λ id. refl) before.many,
    ))

-- none more: a wait goes on
pub did_poll : (t : Terms) (caller : ℕ) (ds : List Deed) (bytes : ℕ → Option ℕ) (began made : ℕ → List Stored) (v w : View Entry Terms) → HasPolled v w
    → Did t caller ds v bytes began made → Did t caller ds w bytes began made
did_poll t caller ds bytes began made v w (more, is) did =
    did_later t caller ds bytes began made v w more (ap (λ (z : View Entry Terms). z.own) is) (ap (λ (z : View Entry Terms). z.notes) is) ([], ap (λ (z : View Entry Terms). z.seen) is ∙ sym (append-nil v.seen)) did

-- a store more
pub did_store : (t : Terms) (caller : ℕ) (ds : List Deed) (line block number : ℕ) (content : List ℕ) (v w : View Entry Terms) (bytes now : ℕ → Option ℕ) (began made made_new : ℕ → List Stored) → w ≡ v
    → ((id : ℕ) → now id ≡ bytes id) → (now block ≡ Some (length content) → StoredOne block content (copied v) made made_new)
    → Did t caller ds v bytes began made → Did t caller (ds ++ StoreDeed line block number content ∷ []) w bytes began made_new
did_store t caller ds line block number content v w bytes now began made made_new same same_bytes one did =
    did_with t caller (ds ++ StoreDeed line block number content ∷ []) w v.own v.seen v.notes bytes began made_new
    (ap (λ (z : View Entry Terms). z.own) same) (ap (λ (z : View Entry Terms). z.seen) same) (ap (λ (z : View Entry Terms). z.notes) same)
    (stores_are_done t.config t.cap v.own v.seen v.notes caller ds line block number content did.done)
    (λ none may.
    let both = first_may (MayStore bytes) ds (StoreDeed line block number content) may in
    let before = did.stored none both.0 in
    let is = one (same_bytes block ∙ both.1) in (
      stores_are_stored t.config t.cap v.own caller ds made made_new line block number content (copied v) before.each before.many did.done is,
      one_as_many ds line block number content (copied v) made made_new is before.many,
    ))

-- at first it did nothing
pub did_none : (t : Terms) (caller : ℕ) (v : View Entry Terms) (bytes : ℕ → Option ℕ) (made : ℕ → List Stored) → v.own ≡ [] → Did t caller [] v bytes made made
did_none t caller v bytes made none =
    did_with t caller [] v [] v.seen v.notes bytes made made none refl refl (none_is_done t.config t.cap v.seen v.notes caller)
    (λ empty may. (none_is_stored t.config t.cap [] v.seen v.notes caller made empty, λ block. ap (λ (l : List Stored). length l) (empty block)))

-- one call behind another
pub keeps_more : (v u w : View Entry Terms) → KeepsPass v u → KeepsPass u w → KeepsPass v w
keeps_more v u w one two = record {
  starts = (one.starts.0 ++ two.starts.0, two.starts.1 ∙ ap (λ (l : List Entry). l ++ two.starts.0) one.starts.1 ∙ append_assoc v.seen one.starts.0 two.starts.0);
  heard = two.heard ∙ one.heard;
  mark = two.mark ∙ one.mark;
  parts = two.parts ∙ one.parts;
}

-- a request that found no room is the deed at its place
pub found_full : (t : Terms) (w : View Entry Terms) (ds : List Deed) (place : ℕ) (d : Deed) → FindsNoRoom t w → IsAsk d → slice_get ds place ≡ Some d
    → FindsNoRoom t w × ((line : ℕ) × (r : Request) × (slice_get ds place ≡ Some (AskDeed line r)))
found_full t w ds place (AskDeed line r) full is at = (full, (line, r, at))
found_full t w ds place d full is at = elim is [ ]

-- a wait that goes on is the deed at its place
pub found_wait : (ds : List Deed) (place : ℕ) (d : Deed) → IsAwait d → slice_get ds place ≡ Some d → WaitsNext ds place
found_wait ds place (Await line block) is at = (line, block, at)
found_wait ds place d is at = elim is [ ]

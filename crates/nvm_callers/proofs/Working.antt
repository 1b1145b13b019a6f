-- What a worker made of its program.
use Rattle.nvm_callers.proofs.Common.{◌≡◌, ℕ, List, [], length, take, Option, Some, None, is_some, true, false, refl, sym, subst, ◌∙◌, IfSome, View, Note, AllAgree, Entry, Terms, gives, LearnsMore, Pairs, Program, HasDone, Stored, Did, StopsBy, EndsAt, HasMade, share_of, Ending, EndsAll, NoRoom, Memory, EndsBy, HasBegun}
use Rattle.nvm_callers.proofs.Making.{did_none, did_see}

module _ (t : Terms) (p : Program) (made : ℕ) (v w : View Entry Terms) (bytes : ℕ → Option ℕ) (began stored : ℕ → List Stored) (did : Did t p.caller (take made p.deeds) v bytes began stored) (more : LearnsMore v w) where
  done_then : HasDone t.config t.cap w.own v.seen w.notes p.caller (take made p.deeds)
  done_then =
      let d1 = subst (λ (l : List ℕ). HasDone t.config t.cap l v.seen v.notes p.caller (take made p.deeds)) (sym more.own) did.done in
      subst (λ (l : List Note). HasDone t.config t.cap w.own v.seen l p.caller (take made p.deeds)) (sym more.notes) d1

  ends_then : (ending : Ending) → EndsBy t p.deeds made v ending → EndsAt t p.deeds made (share_of p made w) ending
  ends_then EndsAll is = is
  ends_then NoRoom (found, ask) = (
    record {
      seen = v.seen;
      starts = more.starts;
      found = record { done = done_then; agree = subst (AllAgree gives v.seen) (sym more.notes) found.agree; full = found.full };
    },
    ask,
  )
  ends_then Memory is = tt

  -- how it ended, if it did, once it has seen all then
  stops_then : (ending : Option Ending) (seen : ℕ) → seen ≡ length w.seen → StopsBy t p.deeds made v ending
      → IfSome ending (λ e. EndsAt t p.deeds made (share_of p made w) e × (seen ≡ length w.seen))
  stops_then (Some e) seen saw is = (ends_then e is, saw)
  stops_then None seen saw is = tt

never : false ≡ true → ⊥
never is = cc

ends_not : (holds : Ending → Type 0) (o : Option Ending) → is_some o ≡ false → IfSome o holds
ends_not holds (Some e) none = absurd (never (sym none))
ends_not holds None none = tt

module _ {S : Type 0} (bytes : S → ℕ → Option ℕ) (stored : S → ℕ → List Stored) (mirrors : S → Pairs) (t : Terms) (p : Program) where
  -- at first it made nothing
  pub none_begun : (v : View Entry Terms) (made : ℕ) (ending : Option Ending) (seen : ℕ) (first now : S) → v.own ≡ [] → made ≡ 0 → ending ≡ None → now ≡ first
      → HasBegun bytes stored mirrors t p v made ending seen first now
  none_begun v made ending seen first now none zero goes_on same = record {
    did =
        let d1 = subst (λ (s : S). Did t p.caller [] v (bytes first) (stored first) (stored s)) (sym same) (did_none t p.caller v (bytes first) (stored first) none) in
        subst (λ (n : ℕ). Did t p.caller (take n p.deeds) v (bytes first) (stored first) (stored now)) (sym zero) d1;
    same_bytes = λ block. subst (λ (s : S). bytes s block ≡ bytes first block) (sym same) refl;
    same_mirrors = subst (λ (s : S). mirrors s ≡ mirrors first) (sym same) refl;
    ended = subst (λ (o : Option Ending). IfSome o (λ e. EndsAt t p.deeds made (share_of p made v) e × (seen ≡ length v.seen))) (sym goes_on) tt;
  }

  -- and then more
  pub more_begun : (v u w : View Entry Terms) (made made_new seen seen_new : ℕ) (ending ending_new : Option Ending) (first old now : S)
      → HasBegun bytes stored mirrors t p v made ending seen first old
      → (Did t p.caller (take made p.deeds) v (bytes first) (stored first) (stored old) → Did t p.caller (take made_new p.deeds) u (bytes first) (stored first) (stored now))
      → LearnsMore u w → ((block : ℕ) → bytes now block ≡ bytes old block) → mirrors now ≡ mirrors old
      → StopsBy t p.deeds made_new u ending_new → seen_new ≡ length w.seen → HasBegun bytes stored mirrors t p w made_new ending_new seen_new first now
  more_begun v u w made made_new seen seen_new ending ending_new first old now begun goes_on more same_bytes same_mirrors stops saw =
      let did = goes_on begun.did in
      record {
        did = did_see t p.caller (take made_new p.deeds) (bytes first) (stored first) (stored now) u w more.own more.notes more.starts did;
        same_bytes = λ block. same_bytes block ∙ begun.same_bytes block;
        same_mirrors = same_mirrors ∙ begun.same_mirrors;
        ended = stops_then t p made_new u w (bytes first) (stored first) (stored now) did more ending_new seen_new saw stops;
      }

  -- so it is where its caller isn't at its end
  pub more_begun_on : (v u : View Entry Terms) (made made_new seen seen_new : ℕ) (ending ending_new : Option Ending) (first old now : S)
      → HasBegun bytes stored mirrors t p v made ending seen first old
      → (Did t p.caller (take made p.deeds) v (bytes first) (stored first) (stored old) → Did t p.caller (take made_new p.deeds) u (bytes first) (stored first) (stored now))
      → ((block : ℕ) → bytes now block ≡ bytes old block) → mirrors now ≡ mirrors old → is_some ending_new ≡ false → HasBegun bytes stored mirrors t p u made_new ending_new seen_new first now
  more_begun_on v u made made_new seen seen_new ending ending_new first old now begun goes_on same_bytes same_mirrors none = record {
    did = goes_on begun.did;
    same_bytes = λ block. same_bytes block ∙ begun.same_bytes block;
    same_mirrors = same_mirrors ∙ begun.same_mirrors;
    ended = ends_not (λ e. EndsAt t p.deeds made_new (share_of p made_new u) e × (seen_new ≡ length u.seen)) ending_new none;
  }

  -- where its caller ended, that is its share
  pub begun_ended : (v : View Entry Terms) (made : ℕ) (ending : Option Ending) (seen : ℕ) (first now : S) (e : Ending) → HasBegun bytes stored mirrors t p v made ending seen first now → ending ≡ Some e
      → HasMade bytes stored mirrors t p (share_of p made v) e first now × (seen ≡ length v.seen)
  begun_ended v made ending seen first now e begun same =
      let ended = subst (λ (o : Option Ending). IfSome o (λ x. EndsAt t p.deeds made (share_of p made v) x × (seen ≡ length v.seen))) same begun.ended in (
        record {
          made = made;
          caller = refl;
          deeds = refl;
          done = begun.did.done;
          ends = ended.0;
          stores = λ none may. let is = begun.did.stored none may in (is.each, is.many);
          same_bytes = begun.same_bytes;
          same_mirrors = begun.same_mirrors;
        },
        ended.1,
      )

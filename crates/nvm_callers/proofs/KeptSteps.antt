-- What a history tells of callers that ran.
use Rattle.nvm_callers.proofs.Common.{slice_get, slice_get_within, slice_get_read, get_or_from_slice_get, All, Contains, ◌≡◌, ◌⊎◌, inl, inr, ℕ, zero, suc, ◌<◌, List, [], ◌∷◌, ◌++◌, length, drop, Option, Some, refl, sym, ap, subst, arith, ◌∙◌, cases_lt, take-append-drop, take_all, All-contains, dite, ℕ_discrete, View, Entry, Configuration, Step, IsInOrder, asks_of, program_of, HadNoRoom, Terms, Deed, Program, deeds_of, requests_in, program_by, programs_of, AreRun, programs_are_apart, BeginsUnasked, IsOfShares, Share, HasDone, Shows, Stored, MayStore, HasStoredIn, Pairs, AllMade, EndsAt, HasMade, HaveRun, worse, EndSo, IsClosedBy, Ending, EndsAll, NoRoom, Memory, AllPairs, All-take, AskedAll, ArePrograms, deeds_have_the_requests, worst, CallersKeepSteps}
use Rattle.script_callers.specs.declared.deed.Deed.TheVariants.{Ask}
use Rattle.nvm_callers.proofs.Waiting.{starts_again}
use Rattle.nvm_callers.proofs.JoinedPasses.{collected_are_all}
use Rattle.nvm_callers.proofs.Ordering.{beginnings_keep_order, no_room_is_had, split_at}
use Rattle.nvm_callers.proofs.Sharing.{nobody_else_asks, shares_ask, shares_have_all, shares_hold}

-- PLACES
pub contained : {A : Type 0} (l : List A) (i : ℕ) (a : A) → slice_get l i ≡ Some a → Contains l a
contained l i a at = (i, slice_get_within l i a at, get_or_from_slice_get l i a a at)

placed : {A : Type 0} (l : List A) (a : A) → Contains l a → (i : ℕ) × (slice_get l i ≡ Some a)
placed l a (i, low, is) = (i, slice_get_read l (length l) i a refl low (sym is))

-- ENDINGS
worse_all : (a b : Ending) → worse a b ≡ EndsAll → (a ≡ EndsAll) × (b ≡ EndsAll)
worse_all EndsAll b is = (refl, is)
worse_all NoRoom Memory is = cc is
worse_all a b is = cc is

worse_memory : (a : Ending) → worse a Memory ≡ Memory
worse_memory EndsAll = refl
worse_memory a = refl

worse_room : (a b : Ending) → worse a b ≡ NoRoom → (a ≡ NoRoom) ⊎ (b ≡ NoRoom)
worse_room EndsAll b is = inr is
worse_room NoRoom b is = inl refl
worse_room Memory b is = cc is

all_ended : (es : List Ending) (i : ℕ) (e : Ending) → worst es ≡ EndsAll → slice_get es i ≡ Some e → e ≡ EndsAll
all_ended [] i e is at = absurd (cc at)
all_ended (x ∷ es) zero e is at = let same : x ≡ e = cc at in sym same ∙ (worse_all x (worst es) is).0
all_ended (x ∷ es) (suc i) e is at = all_ended es i e (worse_all x (worst es) is).1 at

memory_ended : (es : List Ending) (i : ℕ) → slice_get es i ≡ Some Memory → worst es ≡ Memory
memory_ended [] i at = absurd (cc at)
memory_ended (x ∷ es) zero at = let same : x ≡ Memory = cc at in ap (λ (e : Ending). worse e (worst es)) same
memory_ended (x ∷ es) (suc i) at = ap (worse x) (memory_ended es i at) ∙ worse_memory x

room_ended : (es : List Ending) → worst es ≡ NoRoom → (i : ℕ) × (slice_get es i ≡ Some NoRoom)
room_ended [] is = absurd (cc is)
room_ended (x ∷ es) is = elim (worse_room x (worst es) is) [
  | inl first ↦ (0, ap Some first)
  | inr later ↦ (let rest = room_ended es later in (suc rest.0, rest.1))
]

-- PROGRAMS
abbrev pub IsApart : List Program → Type 0
IsApart ps = AllPairs (λ p q. p.caller < q.caller) ps

pub same_place : (ps : List Program) (i j : ℕ) (p q : Program) → IsApart ps → slice_get ps i ≡ Some p → slice_get ps j ≡ Some q → p.caller ≡ q.caller → i ≡ j
same_place ps i j p q apart at there same =
    let first = ap (λ (x : Program). x.caller) (get_or_from_slice_get ps i p p at) in
    let other = ap (λ (x : Program). x.caller) (get_or_from_slice_get ps j q p there) in
    elim (cases_lt i j) [
      | inl before ↦ absurd (let less = apart i j p before (slice_get_within ps j q there) in omega (arith, less, first, other, same))
      | inr late ↦ elim (cases_lt j i) [
        | inl behind ↦ absurd (let less = apart j i p behind (slice_get_within ps i p at) in omega (arith, less, first, other, same))
        | inr soon ↦ omega (arith, late, soon)
      ]
    ]

-- SHARES AND PROGRAMS
module _ {S : Type 0} (bytes : S → ℕ → Option ℕ) (stored : S → ℕ → List Stored) (mirrors : S → Pairs) (t : Terms) where
  abbrev Made : Program → Share → Ending → (first now : S) → Type 0
  Made = HasMade bytes stored mirrors t

  abbrev AllAre : List Program → List Share → List Ending → (firsts nows : List S) → Type 0
  AllAre = AllMade bytes stored mirrors t

  share_for : (ps : List Program) (ss : List Share) (es : List Ending) (fs ns : List S) (i : ℕ) (p : Program) → AllAre ps ss es fs ns → slice_get ps i ≡ Some p
      → (s : Share) × (e : Ending) × (f : S) × (n : S) × (slice_get ss i ≡ Some s) × (slice_get es i ≡ Some e) × Made p s e f n
  share_for [] ss es fs ns i p made at = absurd (cc at)
  share_for (q ∷ ps) (s ∷ ss) (e ∷ es) (f ∷ fs) (n ∷ ns) zero p made at = (s, e, f, n, refl, refl, subst (λ (x : Program). Made x s e f n) (cc at) made.0)
  share_for (q ∷ ps) (s ∷ ss) (e ∷ es) (f ∷ fs) (n ∷ ns) (suc i) p made at = share_for ps ss es fs ns i p made.1 at
  share_for (q ∷ ps) ss es fs ns i p made at = absurd made

  program_for : (ps : List Program) (ss : List Share) (es : List Ending) (fs ns : List S) (i : ℕ) (s : Share) → AllAre ps ss es fs ns → slice_get ss i ≡ Some s
      → (p : Program) × (e : Ending) × (f : S) × (n : S) × (slice_get ps i ≡ Some p) × (slice_get es i ≡ Some e) × Made p s e f n
  program_for ps [] es fs ns i s made at = absurd (cc at)
  program_for (p ∷ ps) (x ∷ ss) (e ∷ es) (f ∷ fs) (n ∷ ns) zero s made at = (p, e, f, n, refl, refl, subst (λ (y : Share). Made p y e f n) (cc at) made.0)
  program_for (p ∷ ps) (x ∷ ss) (e ∷ es) (f ∷ fs) (n ∷ ns) (suc i) s made at = program_for ps ss es fs ns i s made.1 at
  program_for ps (x ∷ ss) es fs ns i s made at = absurd made

  ended_for : (ps : List Program) (ss : List Share) (es : List Ending) (fs ns : List S) (i : ℕ) (e : Ending) → AllAre ps ss es fs ns → slice_get es i ≡ Some e
      → (p : Program) × (s : Share) × (f : S) × (n : S) × (slice_get ps i ≡ Some p) × (slice_get ss i ≡ Some s) × Made p s e f n
  ended_for ps ss [] fs ns i e made at = absurd (cc at)
  ended_for (p ∷ ps) (s ∷ ss) (x ∷ es) (f ∷ fs) (n ∷ ns) zero e made at = (p, s, f, n, refl, refl, subst (λ (y : Ending). Made p s y f n) (cc at) made.0)
  ended_for (p ∷ ps) (s ∷ ss) (x ∷ es) (f ∷ fs) (n ∷ ns) (suc i) e made at = ended_for ps ss es fs ns i e made.1 at
  ended_for [] [] (x ∷ es) fs ns i e made at = absurd made
  ended_for ps ss (x ∷ es) fs ns i e made at = absurd made

  -- the stores at a place are those of the program there
  pub made_at : (ps : List Program) (ss : List Share) (es : List Ending) (fs ns : List S) (i : ℕ) (n : S) → AllAre ps ss es fs ns → slice_get ns i ≡ Some n
      → (p : Program) × (s : Share) × (e : Ending) × (f : S) × (slice_get ps i ≡ Some p) × (slice_get ss i ≡ Some s) × (slice_get fs i ≡ Some f) × Made p s e f n
  made_at ps ss es fs [] i n made at = absurd (cc at)
  made_at (p ∷ ps) (s ∷ ss) (e ∷ es) (f ∷ fs) (x ∷ ns) zero n made at = (p, s, e, f, refl, refl, refl, subst (λ (y : S). Made p s e f y) (cc at) made.0)
  made_at (p ∷ ps) (s ∷ ss) (e ∷ es) (f ∷ fs) (x ∷ ns) (suc i) n made at = made_at ps ss es fs ns i n made.1 at
  made_at [] [] [] [] (x ∷ ns) i n made at = absurd made
  made_at ps ss es fs (x ∷ ns) i n made at = absurd made

  shares_apart : (ps : List Program) (ss : List Share) (es : List Ending) (fs ns : List S) (x y : Share) → AllAre ps ss es fs ns → IsApart ps → Contains ss x → Contains ss y → x.caller ≡ y.caller → x ≡ y
  shares_apart ps ss es fs ns x y made apart one other same =
      let at = placed ss x one in
      let there = placed ss y other in
      let (p, e, f, n, is_p, is_e, made_p) = program_for ps ss es fs ns at.0 x made at.1 in
      let (q, d, g, m, is_q, is_d, made_q) = program_for ps ss es fs ns there.0 y made there.1 in
      let place = same_place ps at.0 there.0 p q apart is_p is_q (sym made_p.caller ∙ same ∙ made_q.caller) in
      some_same (sym at.1 ∙ ap (slice_get ss) place ∙ there.1)
    where
      some_same : Some x ≡ Some y → x ≡ y
      some_same is = cc is

  shares_done : (ps : List Program) (ss : List Share) (es : List Ending) (fs ns : List S) (s : Share) → AllAre ps ss es fs ns → Contains ss s → HasDone t.config t.cap s.own s.seen s.notes s.caller s.deeds
  shares_done ps ss es fs ns s made within =
      let at = placed ss s within in
      let (p, e, f, n, is_p, is_e, made_p) = program_for ps ss es fs ns at.0 s made at.1 in made_p.done

-- a program is of this caller, or none is
program_of_caller : (ps : List Program) (caller : ℕ) → ((i : ℕ) × (p : Program) × (slice_get ps i ≡ Some p) × (p.caller ≡ caller)) ⊎ ((p : Program) → Contains ps p → p.caller ≡ caller → ⊥)
program_of_caller [] caller = inr (λ p within. let at = placed [] p within in absurd (cc at.1))
program_of_caller (p ∷ ps) caller = elim (program_of_caller ps caller) [
  | inl (i, q, at, is) ↦ inl (suc i, q, at, is)
  | inr none ↦ dite (ℕ_discrete p.caller caller) (λ same. inl (0, p, refl, same)) (λ other. inr (others none other))
]
  where
    others : ((q : Program) → Contains ps q → q.caller ≡ caller → ⊥) → (p.caller ≡ caller → ⊥) → (q : Program) → Contains (p ∷ ps) q → q.caller ≡ caller → ⊥
    others none not q (zero, low, is) same = not (ap (λ (x : Program). x.caller) is ∙ same)
    others none not q (suc i, low, is) same = none q (i, omega (arith, low), is) same

-- THE HISTORY
module _ {S : Type 0} (bytes : S → ℕ → Option ℕ) (stored : S → ℕ → List Stored) (mirrors : S → Pairs) (t : Terms) (steps : List Step) (firsts nows : List S) (ending : Ending) (v : View Entry Terms) (h : List Entry) (run : AreRun t.config steps)
    (ran : HaveRun bytes stored mirrors t (programs_of t.config steps) firsts nows ending v) (closed : IsClosedBy v h) (first : BeginsUnasked h) where
  abbrev Makes : Program → Share → Ending → (old now : S) → Type 0
  Makes = HasMade bytes stored mirrors t

  abbrev c : Configuration
  c = t.config

  abbrev programs : List Program
  programs = programs_of t.config steps

  are : ArePrograms c steps programs
  are = programs_are_apart c steps run

  of_shares : IsOfShares c t.cap h ran.shares
  of_shares = collected_are_all c t.cap h ran.shares v ran.collects first (closed.all.0) (closed.all.1) closed.agree closed.heard
      (λ s within. shares_done bytes stored mirrors t programs ran.shares ran.endings firsts nows s ran.made within)
      (λ x y one other same. shares_apart bytes stored mirrors t programs ran.shares ran.endings firsts nows x y ran.made are.apart one other same)

  -- what a caller's share did of the caller's steps
  begins : (caller i : ℕ) (p : Program) (s : Share) (e : Ending) (f n : S) → slice_get programs i ≡ Some p → p.caller ≡ caller → Makes p s e f n → deeds_of c (program_of caller steps) ≡ p.deeds
  begins caller i p s e f n at is made =
      let by = All-contains (λ (q : Program). q ≡ program_by c steps q.caller) programs p are.each (contained programs i p at) in
      ap (λ (n : ℕ). deeds_of c (program_of n steps)) (sym is) ∙ sym (ap (λ (q : Program). q.deeds) by)

  beginning : (caller i : ℕ) (p : Program) (s : Share) (e : Ending) (f n : S) → slice_get programs i ≡ Some p → p.caller ≡ caller → (made : Makes p s e f n)
      → deeds_of c (program_of caller steps) ≡ s.deeds ++ drop made.made p.deeds
  beginning caller i p s e f n at is made =
      begins caller i p s e f n at is made ∙ sym (take-append-drop made.made p.deeds) ∙ ap (λ (ds : List Deed). ds ++ drop made.made p.deeds) (sym made.deeds)

  -- nobody did anything
  nothing : (caller : ℕ) → ((p : Program) → Contains programs p → p.caller ≡ caller → ⊥) → (deeds_of c (program_of caller steps) ≡ []) × (asks_of caller h ≡ [])
  nothing caller none = (
    are.others caller none,
    nobody_else_asks c t.cap h ran.shares of_shares caller (λ s within same.
        let at = placed ran.shares s within in
        let (p, e, f, n, is_p, is_e, made_p) = program_for bytes stored mirrors t programs ran.shares ran.endings firsts nows at.0 s ran.made at.1 in
        none p (contained programs at.0 p is_p) (sym made_p.caller ∙ same)),
  )

  asks_by : (caller : ℕ) (s : Share) → Contains ran.shares s → s.caller ≡ caller → asks_of caller h ≡ requests_in s.deeds
  asks_by caller s within is = subst (λ (n : ℕ). asks_of n h ≡ requests_in s.deeds) is (shares_ask c t.cap h ran.shares of_shares s within)

  -- a caller that did all of its program
  all_of : (caller i : ℕ) (p : Program) (s : Share) (e : Ending) (f n : S) → slice_get programs i ≡ Some p → p.caller ≡ caller → Makes p s e f n → e ≡ EndsAll → Contains ran.shares s
      → AskedAll c steps h caller
  all_of caller i p s e f n at is made all within =
      let ends : EndsAt t p.deeds made.made s EndsAll = subst (EndsAt t p.deeds made.made s) all made.ends in
      asks_by caller s within (made.caller ∙ is) ∙ ap requests_in (made.deeds ∙ take_all made.made p.deeds (omega (arith, ends)) ∙ sym (begins caller i p s e f n at is made))
      ∙ deeds_have_the_requests c (program_of caller steps)

  none_of : (caller : ℕ) → ((p : Program) → Contains programs p → p.caller ≡ caller → ⊥) → AskedAll c steps h caller
  none_of caller none =
      let no = nothing caller none in
      no.1 ∙ ap requests_in (sym no.0) ∙ deeds_have_the_requests c (program_of caller steps)

  all : ending ≡ EndsAll → (caller : ℕ) → AskedAll c steps h caller
  all is_all caller = elim (program_of_caller programs caller) [
    | inl (i, p, at, is) ↦ (
        let (s, e, f, n, is_s, is_e, made) = share_for bytes stored mirrors t programs ran.shares ran.endings firsts nows i p ran.made at in
        all_of caller i p s e f n at is made (all_ended ran.endings i e (sym ran.ends ∙ is_all) is_e) (contained ran.shares i s is_s))
    | inr none ↦ none_of caller none
  ]

  -- what is stored at a place is what its caller stored
  pub stored_by : (i : ℕ) (now : S) → slice_get nows i ≡ Some now
      → ((p : Program) (f : S) → slice_get programs i ≡ Some p → slice_get firsts i ≡ Some f → ((block : ℕ) → stored f block ≡ []) × All (MayStore (bytes f)) p.deeds)
      → (caller : ℕ) × HasStoredIn c t.cap h steps caller (stored now)
  stored_by i now at may =
      let (p, s, e, f, is_p, is_s, is_f, made) = made_at bytes stored mirrors t programs ran.shares ran.endings firsts nows i now ran.made at in
      let can = may p f is_p is_f in
      let within = contained ran.shares i s is_s in
      let share = of_shares.are s within in (
        s.caller,
        record {
          own = s.own;
          seen = s.seen;
          notes = s.notes;
          deeds = s.deeds;
          rest = drop made.made p.deeds;
          program = beginning s.caller i p s e f now is_p (sym made.caller) made;
          done = made.done;
          stored = (made.stores can.0 (subst (λ (ds : List Deed). All (MayStore (bytes f)) ds) (sym made.deeds) (All-take (MayStore (bytes f)) made.made p.deeds can.1))).0;
          starts = share.starts;
          every = shares_have_all c t.cap h ran.shares of_shares s within;
        },
      )

  -- THEIR WAITS
  shows_by : (caller : ℕ) (s : Share) → Contains ran.shares s → s.caller ≡ caller → Shows caller s.deeds h
  shows_by caller s within is = subst (λ (n : ℕ). Shows n s.deeds h) is (shares_hold c t.cap h ran.shares of_shares s within)

  in_order : (caller : ℕ) → IsInOrder c caller (program_of caller steps) h
  in_order caller = elim (program_of_caller programs caller) [
    | inl (i, p, at, is) ↦ (
        let (s, e, f, n, is_s, is_e, made) = share_for bytes stored mirrors t programs ran.shares ran.endings firsts nows i p ran.made at in
        beginnings_keep_order c caller (program_of caller steps) s.deeds (drop made.made p.deeds) h (beginning caller i p s e f n at is made)
        (shows_by caller s (contained ran.shares i s is_s) (made.caller ∙ is)))
    | inr none ↦ (
        let no = nothing caller none in
        beginnings_keep_order c caller (program_of caller steps) [] [] h no.0 (record { asks = no.1; waits = tt }))
  ]

  -- a caller whose next request had no room
  full_of : (caller i : ℕ) (p : Program) (s : Share) (e : Ending) (f n : S) → slice_get programs i ≡ Some p → p.caller ≡ caller → Makes p s e f n → e ≡ NoRoom → Contains ran.shares s
      → HadNoRoom t.cap c steps h caller
  full_of caller i p s e f n at is made full within =
      let is_full : EndsAt t p.deeds made.made s NoRoom = subst (EndsAt t p.deeds made.made s) full made.ends in
      let had = is_full.0 in
      let (line, r, next) = is_full.1 in
      let share = of_shares.are s within in
      let program : deeds_of c (program_of s.caller steps) ≡ s.deeds ++ Ask line r ∷ drop (suc made.made) p.deeds =
      begins s.caller i p s e f n at (sym made.caller) made ∙ split_at p.deeds made.made (Ask line r) next
      ∙ ap (λ (ds : List Deed). ds ++ Ask line r ∷ drop (suc made.made) p.deeds) (sym made.deeds) in
      subst (λ (n : ℕ). HadNoRoom t.cap c steps h n) (made.caller ∙ is)
      (no_room_is_had c t.cap s.own had.seen s.notes steps s.caller s.deeds (drop (suc made.made) p.deeds) line r h program had.found
      (starts_again h s.seen had.seen share.starts had.starts) (shares_have_all c t.cap h ran.shares of_shares s within))

  either_of : ending ≡ NoRoom → (caller i : ℕ) (p : Program) (s : Share) (e e_is : Ending) (f n : S) → e ≡ e_is → slice_get programs i ≡ Some p → p.caller ≡ caller → Makes p s e f n
      → slice_get ran.endings i ≡ Some e → Contains ran.shares s → AskedAll c steps h caller ⊎ HadNoRoom t.cap c steps h caller
  either_of room caller i p s e EndsAll f n so at is made is_e within = inl (all_of caller i p s e f n at is made so within)
  either_of room caller i p s e NoRoom f n so at is made is_e within = inr (full_of caller i p s e f n at is made so within)
  either_of room caller i p s e Memory f n so at is made is_e within =
      absurd (never (memory_ended ran.endings i (is_e ∙ ap Some so)))
    where
      never : worst ran.endings ≡ Memory → ⊥
      never is_memory = let both : NoRoom ≡ Memory = sym room ∙ ran.ends ∙ is_memory in cc both

  either : ending ≡ NoRoom → (caller : ℕ) → AskedAll c steps h caller ⊎ HadNoRoom t.cap c steps h caller
  either room caller = elim (program_of_caller programs caller) [
    | inl (i, p, at, is) ↦ (
        let (s, e, f, n, is_s, is_e, made) = share_for bytes stored mirrors t programs ran.shares ran.endings firsts nows i p ran.made at in
        either_of room caller i p s e e f n refl at is made is_e (contained ran.shares i s is_s))
    | inr none ↦ inl (none_of caller none)
  ]

  one_full : ending ≡ NoRoom → (caller : ℕ) × HadNoRoom t.cap c steps h caller
  one_full room =
      let (i, is_e) = room_ended ran.endings (sym ran.ends ∙ room) in
      let (p, s, f, n, at, is_s, made) = ended_for bytes stored mirrors t programs ran.shares ran.endings firsts nows i NoRoom ran.made is_e in
      (p.caller, full_of p.caller i p s NoRoom f n at refl made refl (contained ran.shares i s is_s))

  ends : (e : Ending) → ending ≡ e → EndSo c t.cap steps h e
  ends EndsAll is = all is
  ends NoRoom is = let one = one_full is in (one.0, one.1, either is)
  ends Memory is = tt

pub callers_keep_steps : {S : Type 0} (bytes : S → ℕ → Option ℕ) (stored : S → ℕ → List Stored) (mirrors : S → Pairs) → CallersKeepSteps bytes stored mirrors
callers_keep_steps bytes stored mirrors t steps firsts nows ending v h run ran closed first = record {
  order = in_order bytes stored mirrors t steps firsts nows ending v h run ran closed first;
  ends = ends bytes stored mirrors t steps firsts nows ending v h run ran closed first ending refl;
}

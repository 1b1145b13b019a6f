-- What any number of a driver's turns adds.
use Rattle.nvm_callers.proofs.Common.{option_to_list, list_all, list_all-append, IfSome_then, ◌≡◌, ◌+◌, ℕ, not, Bool, true, false, List, [], ◌∷◌, ◌++◌, Option, Some, None, refl, sym, ap, ◌∙◌, subst, inl, inr, arith, append_assoc, append-nil, WereCounted, DeviceTold, Clock, Entry, Ask, Off, Told, DeskState, AreSynchronized, is_found, Terms, AreAsks, desk_with, DriverState, offs_in, tells_no_refusal, RefusesNone, IsUncut, HasDriven, DrivesOn, HasAdded, DrivingAdds}
use Rattle.std.proofs.Common.{IfSome}
use Rattle.nvm_callers.proofs.Following.{holds_of_drives}
use Rattle.nvm_callers.proofs.Keeping.{driving_keeps}
use Rattle.nvm_callers.proofs.Moved.{driving_moves}
use Rattle.nvm_callers.proofs.Turning.{turn_adds}

-- LISTS
all_more : (P : Entry → Bool) (xs ys : List Entry) → list_all P xs ≡ true → list_all P ys ≡ true → list_all P (xs ++ ys) ≡ true
all_more P xs ys one two = list_all-append P xs ys ∙ rw (one, two) refl

all_last : (P : Entry → Bool) (o : Option Entry) → IfSome o (λ e. P e ≡ true) → list_all P (option_to_list o) ≡ true
all_last P None is = refl
all_last P (Some e) is = rw is refl

-- requests are no start-ups, tell of no refused copy, and are no Offs
asks_quiet : (es : List Entry) → AreAsks es → (list_all (λ e. not (is_found e)) es ≡ true) × (list_all tells_no_refusal es ≡ true) × (offs_in es ≡ 0)
asks_quiet [] are = (refl, refl, refl)
asks_quiet (Ask caller r reply ∷ es) are = asks_quiet es are.1
asks_quiet (e ∷ es) are = let no_ : false ≡ true = are.0 in absurd (cc no_)

-- OFFS
offs_more : (xs ys : List Entry) → offs_in (xs ++ ys) ≡ offs_in xs + offs_in ys
offs_more [] ys = omega arith
offs_more (Off ops ∷ xs) ys = let rest = offs_more xs ys in omega (arith, rest)
offs_more (e ∷ xs) ys = offs_more xs ys

counted_more : (n m a b c : ℕ) → WereCounted n a b → WereCounted m b c → WereCounted (n + m) a c
counted_more n m a b c (inl one) (inl two) = inl (omega (arith, one, two))
counted_more n m a b c (inl one) (inr end) = inr end
counted_more n m a b c (inr end) (inl two) = inr (omega (arith, end, two))
counted_more n m a b c (inr end) (inr last) = inr last

module _ {D C : Type 0} (told : D → DeviceTold) (clock : D → Clock) (copies : C → List Told) (is_store : C → ℕ → ℕ → List ℕ → Type 0) (looked : C → C → ℕ → ℕ → Type 0) (over : C → C → Type 0) (stands : C → ℕ → ℕ → List Entry → Type 0) (t : Terms) where
  abbrev Added : (seen seen_new : List Entry) → (old new : DriverState D C) → Type 0
  Added = HasAdded told clock copies is_store looked over stands t

  abbrev unplanned : DriverState D C → ℕ
  unplanned s = (told s.device).first.planning.unplanned

  none : (seen : List Entry) (s : DriverState D C) → Added seen seen s s
  none seen s = record {
    more = [];
    grows = sym (append-nil seen);
    no_start = refl;
    starts = refl;
    no_refusal = λ synchronized none. (none, refl);
    counted = λ uncut. inl (omega arith);
  }

  -- entries more
  goes_on : (a b c : List Entry) (x y z : DriverState D C) → HasDriven told clock copies is_store looked over stands t a b x y → Added a b x y → (more : List Entry) → c ≡ b ++ more → (told z.device).starts ≡ (told y.device).starts
      → list_all (λ e. not (is_found e)) more ≡ true → (AreSynchronized t.config (copies y.copies) × RefusesNone (copies y.copies) → RefusesNone (copies z.copies) × (list_all tells_no_refusal more ≡ true))
      → (IsUncut (desk_with t b) (told y.device) → WereCounted (offs_in more) (unplanned y) (unplanned z)) → Added a c x z
  goes_on a b c x y z driven one more grows starts no_start refuses counted = record {
    more = one.more ++ more;
    grows = grows ∙ ap (λ (l : List Entry). l ++ more) one.grows ∙ append_assoc a one.more more;
    no_start = all_more (λ e. not (is_found e)) one.more more one.no_start no_start;
    starts = starts ∙ one.starts;
    no_refusal = λ are none.
        let first = one.no_refusal are none in
        let second = refuses ((driving_keeps told clock copies is_store looked over stands t a b x y driven).synchronized are, first.0) in (second.0, all_more tells_no_refusal one.more more first.1 second.1);
    counted = λ uncut.
        let second = counted ((driving_moves told clock copies is_store looked over stands t a b x y driven).uncut uncut) in
        subst (λ (n : ℕ). WereCounted n (unplanned x) (unplanned z)) (sym (offs_more one.more more)) (counted_more (offs_in one.more) (offs_in more) (unplanned x) (unplanned y) (unplanned z) (one.counted uncut) second);
  }

  -- a turn more, or requests alone
  more : (a b c : List Entry) (x y z : DriverState D C) → HasDriven told clock copies is_store looked over stands t a b x y → Added a b x y → DrivesOn told clock copies is_store looked over stands t b c y z → Added a c x z
  more a b c x y z driven one (inl turns) =
      let adds = turn_adds told clock copies is_store looked t turns.answer b c y z turns.turns in
      let last = option_to_list adds.last in
      let quiet = asks_quiet adds.asks adds.are in
      let both = offs_more adds.asks last in
      let offs : offs_in (adds.asks ++ last) ≡ offs_in last = omega (arith, both, quiet.2) in
      goes_on a b c x y z driven one (adds.asks ++ last) (adds.grows ∙ append_assoc b adds.asks last) adds.starts
      (all_more (λ e. not (is_found e)) adds.asks last quiet.0 (all_last (λ e. not (is_found e)) adds.last (IfSome_then adds.last adds.added (λ e is. ap not is.no_start))))
      (λ may. (adds.refuses_none may, all_more tells_no_refusal adds.asks last quiet.1 (all_last tells_no_refusal adds.last (IfSome_then adds.last adds.added (λ e is. is.no_refusal may)))))
      (λ uncut. subst (λ (n : ℕ). WereCounted n (unplanned y) (unplanned z)) (sym offs) (adds.counted uncut))
  more a b c x y z driven one (inr is) =
      let quiet = asks_quiet is.sees.asks is.sees.are in
      let none = quiet.2 in
      subst (λ (s : DriverState D C). Added a c x s) (sym is.same)
      (goes_on a b c x y y driven one is.sees.asks (ap (λ (d : DeskState). d.entries) is.sees.grows) refl quiet.0 (λ may. (may.1, quiet.1)) (λ uncut. inl (omega (arith, none))))

  pub driving_adds : DrivingAdds told clock copies is_store looked over stands t
  driving_adds = holds_of_drives told clock copies is_store looked over stands t Added none more

-- What a device that is worn out has to know.
use Rattle.std.specs.Prelude.{IfSome, IsSome, IsTrue, is_some, if◌then◌else◌, ◌&&◌, ◌++◌, ◌∷◌, [], get_or, replicate}
use Rattle.std.proofs.Common.{◌≡◌, ◌⊎◌, inl, inr, ◌≤◌, ◌<◌, ◌+◌, ◌-◌, ℕ, zero, suc, Bool, true, false, List, Option, Some, None, refl, sym, ap, ◌∙◌, subst, arith}
use Rattle.nv_base.specs.declared.geometry.Geometry.{Geometry}
use Rattle.nv_base.specs.declared.instance.DeviceNumber.{DeviceNumber}
use Rattle.fls_model.specs.Told.{Told}
use Rattle.fee_format.specs.declared.rec_head.RecHead.{RecHead}
use Rattle.fee_image.specs.Bank.{Bank, page_of}
use Rattle.fee_image.specs.Image.{Layout, layout_of, bank_in, active_of}
use Rattle.fee_image.specs.RecordList.{IsClosed, end_of, pages_of_head}
use Rattle.fee_image.specs.Log.{HasTail}
use Rattle.fee_image.specs.May.{May}
use Rattle.fee_image.proofs.Appends.{appends_leave_one_more}
use Rattle.fee_image.proofs.Records.{logs_compute}
use Rattle.fee_switch_laws.specs.fee_log.declared.tail.Tail.{Tail}
use Rattle.fee_switch_laws.specs.fee_log.declared.tail.Tail.TheVariants as tail
use Rattle.fee_switch_laws.specs.fee_log.Log.{bank_of, work_in, is_closed, free_behind, free_in, tail_with, pages_with}
use Rattle.fee_switch_laws.specs.fee_switch.declared.active.ActiveBank.{ActiveBank}
use Rattle.fee_switch_laws.specs.fee_switch.Active.{active_shown}
use Rattle.fee_course.specs.declared.course.Course.{Course}
use Rattle.fee_switch_laws.specs.Shown.{layout_in}
use Rattle.fee_switch_laws.specs.Space.{free_pages}
use Rattle.promise_device.specs.Making.{Making, banks_of}
use Rattle.promise_device.specs.Bridge.{may_be_closed}
use Rattle.promise_device.specs.Image.{HasNoRoomFor}
use Rattle.fee_laws.specs.Inside.{Parts, body_of, IsActiveOf}
use Rattle.fee_laws.specs.Turn.{IsOn}
use Rattle.fee_laws.specs.Worn.{KnowsRoom}
use Rattle.fee_laws.specs.Follows.{anything, failed_of, may_be_closed_beside, FollowsLog, FollowsBanks, FollowsBytes}

-- THE PAGES
pub no_header : (p : ℕ) (rest : List ℕ) → 1 ≤ p → (82 ∷ rest) ≡ replicate p 255 → ⊥
no_header zero rest some same = absurd (omega (arith, some))
no_header (suc p) rest some same = let h : 82 ≡ 255 = ap (λ (xs : List ℕ). get_or xs 0 0) same in absurd (omega (arith, h))

-- none in the bytes of a bank that is closed, else no more than in memory
abbrev pub HasNoMore : Bank → List ℕ → ℕ → Type 0
HasNoMore b bytes free = IsClosed b bytes (end_of b bytes) ⊎ (b.pages < end_of b bytes + (free + 1))

module _ (b : Bank) (bytes : List ℕ) (may : May) (big : 16 ≤ b.page) (end : ℕ) (body : List ℕ) where
  -- its records end here
  from_end : (n free : ℕ) → n ≡ end_of b bytes → b.pages < n + (free + 1) → HasNoMore b bytes free
  from_end n free same less = inr (omega (arith, same, less))

  pub no_more : (t : Tail) → HasTail b bytes may end (tail_with t body) → end ≤ b.pages → work_in t ≡ None → is_closed t ≡ false → HasNoMore b bytes (free_behind b.page b.pages end t)
  no_more tail.Open open' high idle wide = from_end end (b.pages - (end + 0)) open'.is_end (omega (arith, high))
  no_more (tail.Writes h done) at high idle wide = cc idle
  no_more (tail.Owes h next) owes high idle wide =
      elim (appends_leave_one_more b bytes bytes owes.records end h owes.body 1 big owes.staged (omega arith) (λ q inside other. refl)) [
        | inl none ↦ inl (inr (λ blank.
            (let is_end = ((logs_compute b bytes owes.records end).0 none.1).1 in
            let start : end + 0 ≡ end = omega arith in
            let room = owes.staged.room in
            let written = owes.staged.written 0 (omega arith) in
            let page = sym written ∙ ap (page_of b bytes) start ∙ blank end (omega (arith, is_end)) (omega (arith, room)) in
            no_header b.page _ (omega (arith, big)) page)))
        | inr more ↦ (
            let is_end = ((logs_compute b bytes (owes.records ++ more.last ∷ []) (end + pages_of_head b.page h)).0 more.log).1 in
            let room = owes.staged.room in
            from_end (end + pages_of_head b.page h) (free_behind b.page b.pages end (tail.Owes h next)) is_end
            (subst (λ (o : Option RecHead). b.pages < end + pages_of_head b.page h + (b.pages - (end + (pages_of_head b.page h + pages_with b.page o)) + 1)) (sym idle) (omega (arith, room))))
      ]
  no_more tail.Closed at high idle wide = cc wide

pub test : (b : Bool) → (b ≡ true) ⊎ (b ≡ false)
test true = inl refl
test false = inr refl

first_of : (a b : Bool) → IsTrue (a && b) → IsTrue a
first_of true b is = refl
first_of false b is = cc is

-- THE BANKS
module _ (m : Making) (entry : Told) (s : Parts) (listed : List (DeviceNumber × ℕ)) (kept count : ℕ) (on : IsOn m entry s listed kept count) (bytes : List ℕ) (follows : FollowsBytes s.banks s.content s.operations bytes) where
  abbrev body' : List ℕ
  body' = body_of (work_in s.banks.log.tail) s.content

  layout_is : layout_in s.banks ≡ banks_of m
  layout_is = λ i. layout_of (on.sound.made_for.banks_geometry i) (on.sound.made_for.shared i)

  module _ (a : ActiveBank) (active : s.banks.active ≡ Some a) where
    pub follows_log : FollowsLog s.banks.course s.banks.log body' s.operations bytes
    follows_log = subst (λ (o : Option ActiveBank). IfSome o (λ y. FollowsLog s.banks.course s.banks.log body' s.operations bytes)) active follows.log

    formats : s.banks.log.format ≡ a.head.format
    formats = subst (IsActiveOf s.banks) active (on.sound.works on.started).active

    pub own_bank : s.banks.log.bank ≡ a.bank
    own_bank = (subst (λ (o : Option ActiveBank). IfSome o (λ y. (y.bank ≡ s.banks.target → ⊥) × (s.banks.log.bank ≡ y.bank))) active on.banks.active).1

    pub bank_is : bank_of s.banks.log ≡ bank_in (banks_of m) a.head.format a.bank
    bank_is = λ i. bank_in (layout_of ((on.banks.log.shape ∙ on.sound.made_for.banks_geometry) i) ((on.banks.log.shared ∙ on.sound.made_for.shared) i)) (formats i) (own_bank i)

    pub closed_beside : is_closed s.banks.log.tail ≡ true → (let b = bank_in (banks_of m) a.head.format a.bank in IsClosed b bytes (end_of b bytes)) ⊎ IsTrue (may_be_closed_beside s.banks.course s.banks.log s.operations)
    closed_beside shut = elim (follows_log.closed shut) [ inl is ↦ inl (subst (λ (b : Bank). IsClosed b bytes (end_of b bytes)) bank_is is) | inr failed ↦ inr failed ]

    pub may_by : s.banks.course ≡ None → IsTrue (may_be_closed_beside s.banks.course s.banks.log s.operations) → IsTrue (may_be_closed s.operations)
    may_by none failed = first_of (may_be_closed s.operations) (failed_of s.banks.log s.operations) (subst (λ (c : Option Course). IsTrue (may_be_closed_beside c s.banks.log s.operations)) none failed)

    pub closed_at : s.banks.course ≡ None → is_closed s.banks.log.tail ≡ true → (let b = bank_in (banks_of m) a.head.format a.bank in IsClosed b bytes (end_of b bytes)) ⊎ IsTrue (may_be_closed s.operations)
    closed_at none shut = elim (closed_beside shut) [ inl is ↦ inl is | inr failed ↦ inr (may_by none failed) ]

    pub free_is : free_pages s.banks ≡ free_in s.banks.log
    free_is = ap (λ (o : Option ActiveBank). if is_some o then free_in s.banks.log else 0) active

    -- also while a switch is open
    pub room_beside : work_in s.banks.log.tail ≡ None → (let b = bank_in (banks_of m) a.head.format a.bank in HasNoMore b bytes (free_pages s.banks)) ⊎ IsTrue (may_be_closed_beside s.banks.course s.banks.log s.operations)
    room_beside idle = elim (test (is_closed s.banks.log.tail)) [
      | inl shut ↦ (elim (closed_beside shut) [ inl is ↦ inl (inl is) | inr failed ↦ inr failed ])
      | inr wide ↦ inl (
          let held = follows_log.holds.holds in
          let none = no_more (bank_of s.banks.log) bytes anything (subst (λ (g : Geometry). 16 ≤ g.page) (sym on.banks.log.shape) on.banks.legal.page_low) s.banks.log.end body' s.banks.log.tail held.tail held.high idle wide in
          subst (λ (n : ℕ). HasNoMore (bank_in (banks_of m) a.head.format a.bank) bytes n) (sym free_is) (subst (λ (b : Bank). HasNoMore b bytes (free_in s.banks.log)) bank_is none))
    ]

    room_at : s.banks.course ≡ None → work_in s.banks.log.tail ≡ None → (let b = bank_in (banks_of m) a.head.format a.bank in HasNoMore b bytes (free_pages s.banks)) ⊎ IsTrue (may_be_closed s.operations)
    room_at none idle = elim (room_beside idle) [ inl is ↦ inl is | inr failed ↦ inr (may_by none failed) ]

  pub shows_active : s.banks.course ≡ None → active_shown s.banks.active ≡ active_of (banks_of m) bytes
  shows_active shut = subst (λ (l : Layout). active_shown s.banks.active ≡ active_of l bytes) layout_is (subst (λ (c : Option Course). FollowsBanks s.banks c bytes) shut follows.banks)

  room_by : s.banks.course ≡ None → (o : Option ActiveBank) → s.banks.active ≡ o → active_shown o ≡ active_of (banks_of m) bytes → work_in s.banks.log.tail ≡ None → IsSome o → HasNoRoomFor (free_pages s.banks + 1) m bytes ⊎ IsTrue (may_be_closed s.operations)
  room_by shut None active shown idle some = cc some
  room_by shut (Some a) active shown idle some = elim (room_at a active shut idle) [ inl none ↦ inl (a.bank, a.head, sym shown, none) | inr failed ↦ inr failed ]

  pub knows : work_in s.banks.log.tail ≡ None → s.banks.course ≡ None → KnowsRoom m entry s bytes
  knows idle shut = record {
    closed = λ a active is. closed_at a active shut is;
    unsound = λ untold. record { active = shows_active shut; room = room_by shut s.banks.active refl (shows_active shut) idle };
  }

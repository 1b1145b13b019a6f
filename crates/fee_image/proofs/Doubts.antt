-- What may be found, as it changes in memory alone.
use Rattle.std.proofs.Common.{ℕ, List}
use Rattle.nv_base.specs.declared.instance.DeviceNumber.{DeviceNumber}
use Rattle.fee_format.specs.Formats.{new_format}
use Rattle.nv_base.specs.Held.{never_written}
use Rattle.fee_image.specs.Image.{Layout, bank_in}
use Rattle.fee_image.specs.May.{May, IsAmong, IsWider}
use Rattle.fee_image.specs.Banks.{Old, NoBank, OldBank, Phase, Idle, Erasing, Copying, Sealing, Banks, HoldsOld, HoldsPhase}
use Rattle.fee_image.specs.Doubts.{shown_of, doubting_banks, HasMarks, HasCopies, BanksTighten, OldBanksShow}
use Rattle.fee_image.specs.BankLaws.{TakesAppends, SealsWithin, BanksWiden}
use Rattle.fee_image.proofs.Logs.{logs_tighten, logs_widen, first_among, later_among}

-- MORE
module _ (l : Layout) (numbers : List (DeviceNumber × ℕ)) (bytes : List ℕ) where
  old_widens : (t : ℕ) (o : Old) (may wide : May) → IsWider may wide → HoldsOld l numbers bytes t o may → HoldsOld l numbers bytes t o wide
  old_widens t NoBank may wide more give = λ number length. more number length never_written (give number length)
  old_widens t (OldBank k h log) may wide more (apart, holds) = (apart, record { bank = holds.bank; stands = holds.stands; holds = logs_widen (bank_in l h.format k) numbers bytes may wide log more holds.holds })

  phase_widens : (s : Banks) (may copied : May) (phase : Phase) → IsWider s.copied copied → SealsWithin phase copied may → HoldsPhase l numbers bytes s phase → HoldsPhase l numbers bytes (record s { may = may; copied = copied }) phase
  phase_widens s may copied Idle more within h = h
  phase_widens s may copied (Erasing n) more within h = h
  phase_widens s may copied (Copying log) more within c = record { first = c.first; holds = logs_widen (bank_in l new_format s.target) numbers bytes s.copied copied log more c.holds }
  phase_widens s may copied (Sealing log) more within c = record { last = c.last; head = c.head; holds = logs_widen (bank_in l new_format s.target) numbers bytes s.copied copied log more c.holds; whole = within }

pub banks_widen : BanksWiden
banks_widen l numbers bytes s may copied h wide more within = record {
  size = h.size;
  target = h.target;
  old = old_widens l numbers bytes s.target s.old s.may may wide h.old;
  behind = h.behind;
  phase = phase_widens l numbers bytes s may copied s.phase more within h.phase;
}

-- a phase that takes appends isn't the last one
pub takes_within : (phase : Phase) (copied may : May) → TakesAppends phase → SealsWithin phase copied may
takes_within Idle copied may takes = tt
takes_within (Erasing n) copied may takes = tt
takes_within (Copying log) copied may takes = tt
takes_within (Sealing log) copied may takes = absurd takes

-- ENOUGH
module _ (l : Layout) (numbers : List (DeviceNumber × ℕ)) (bytes : List ℕ) (more : May) where
  old_tightens : (t : ℕ) (o : Old) (may : May) → HasMarks l numbers bytes o more → HoldsOld l numbers bytes t o may → HoldsOld l numbers bytes t o (doubting_banks l bytes o more)
  old_tightens t NoBank may has give = λ number length. first_among never_written (more number length)
  old_tightens t (OldBank k h log) may has (apart, holds) = (apart, record { bank = holds.bank; stands = holds.stands; holds = logs_tighten (bank_in l h.format k) numbers bytes may more log holds.holds has.0 has.1 })

  phase_tightens : (s : Banks) (phase : Phase) → HasCopies phase s.copied more → HoldsPhase l numbers bytes s phase → HoldsPhase l numbers bytes (record s { may = doubting_banks l bytes s.old more }) phase
  phase_tightens s Idle has h = h
  phase_tightens s (Erasing n) has h = h
  phase_tightens s (Copying log) has c = c
  phase_tightens s (Sealing log) has c = record {
    last = c.last;
    head = c.head;
    holds = c.holds;
    whole = λ number length m is. later_among (shown_of l bytes s.old number length) m (more number length) (has number length m is);
  }

pub banks_tighten : BanksTighten
banks_tighten l numbers bytes s more h has copies = record {
  size = h.size;
  target = h.target;
  old = old_tightens l numbers bytes more s.target s.old s.may has h.old;
  behind = h.behind;
  phase = phase_tightens l numbers bytes more s s.phase copies h.phase;
}

old_shown : (l : Layout) (numbers : List (DeviceNumber × ℕ)) (bytes : List ℕ) (t : ℕ) (o : Old) (may : May) → HoldsOld l numbers bytes t o may → (number length : ℕ) → IsAmong (may number length) (shown_of l bytes o number length)
old_shown l numbers bytes t NoBank may give = give
old_shown l numbers bytes t (OldBank k h log) may (apart, holds) = holds.holds.shows

pub old_banks_show : OldBanksShow
old_banks_show l numbers bytes s h = old_shown l numbers bytes s.target s.old s.may h.old

-- How banks begin.
use Rattle.std.proofs.Common.{◌≡◌, ◌<◌, suc, List, [], ◌∷◌, length, Some, refl, sym, ap, subst, arith}
use Rattle.nv_base.specs.Held.{Held, never_written}
use Rattle.fee_image.specs.Image.{bank_in, found_held, held_of_bank}
use Rattle.fee_image.specs.May.{IsAmong, exactly}
use Rattle.fee_image.specs.BankLaws.{found_alone, BanksLoad, NoBankLoads}
use Rattle.fee_image.proofs.Banks.{active_computes, no_active_computes}
use Rattle.fee_image.proofs.FoundMaps.{found_of_active}
use Rattle.fee_image.proofs.Logs.{loaded_logs_hold, logs_widen}

pub first_among : (m n : Held) (marks : List Held) → m ≡ n → IsAmong (Some (n ∷ marks)) m
first_among m n marks is = subst (λ (x : Held). IsAmong (Some (x ∷ marks)) m) is (0, (let lt : 0 < suc (length marks) = omega arith in lt), refl)

pub banks_load : BanksLoad
banks_load l numbers bytes k t h tail copied legal size is inside other at =
    let active = (active_computes l bytes k h).1 is in
    let b = bank_in l h.format k in
    let log = loaded_logs_hold b numbers bytes tail legal.page legal.pages at in
    record {
      size = size;
      target = inside;
      old = (
        λ e. other (sym e),
        record {
          bank = active.bank;
          stands = active.stands;
          holds = logs_widen b numbers bytes (exactly b bytes) (found_alone l bytes) _ (λ number length m among. subst (λ (x : Held). IsAmong (Some (x ∷ [])) m) (sym (found_of_active l bytes k h active number length)) among) log;
        },
      );
      behind = λ j within ne head stands differs. active.first j head within differs stands;
      phase = λ head stands differs. active.first t head inside differs stands;
    }

pub no_bank_loads : NoBankLoads
no_bank_loads l numbers bytes t copied size is inside =
    let none = (no_active_computes l bytes).1 is in
    record {
      size = size;
      target = inside;
      old = λ number length. first_among never_written (found_held l bytes number length) [] (sym (ap (held_of_bank l bytes number length) is));
      behind = λ j within ne head stands. none j head within stands;
      phase = λ head stands. none t head inside stands;
    }

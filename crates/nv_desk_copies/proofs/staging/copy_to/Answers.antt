use Rattle.nv_desk_copies.proofs.staging.copy_to.Goals as goal

pub returns-clause-stays : goal.returns-clause-stays
returns-clause-stays g c =
    let is = c.copy_out.ensures in
    record { sizes = is.sizes; refuses = is.refuses; stores_stay = is.stores_stay; stays_over = is.stays_over }

use Rattle.std.proofs.Common.{inl, subst}
use Rattle.tracker_keeper.specs.declared.part.Format.{Format}
use Rattle.tracker_rows.specs.Loading.{Loads}
use Rattle.tracker_core.proofs.Kept.{in_order, own_rows, migrated_keeps, own_fault}
use Rattle.tracker_core.proofs.Left.{any_err, migrated_just, migrated_either}
use Rattle.tracker_core.proofs.opening.resumed.Goals as goal

pub returns-in-First-clause-rows : goal.returns-in-First-clause-rows
returns-in-First-clause-rows g c = λ kept has listing.
    let made = c.in_ok-format.field-0.state.machine in
    migrated_keeps (λ s. s.machine) c.migrated.result (g.P.Keeper.keeps c.migrated.new.keeper) made kept c.args.rows.now listing
    (λ ordered. subst (λ (format : Format). Loads format c.args.rows.now made) c.in-First.is (c.in_ok-format.ensures.loads ordered))
    c.migrated.ensures.state (c.migrated.ensures.rows kept has)

pub returns-in-First-clause-fault : goal.returns-in-First-clause-fault
returns-in-First-clause-fault g c = own_fault c.migrated.result _ c.migrated.ensures.own

pub returns-in-Second-clause-rows : goal.returns-in-Second-clause-rows
returns-in-Second-clause-rows g c = λ kept has listing.
    let made = c.in_ok-format.field-0.state.machine in
    let loads : Loads c.in_ok-format.field-0.format c.args.rows.now made = c.in_ok-format.ensures.loads (in_order kept c.args.rows.now listing) in
    subst (g.P.Keeper.keeps c.args.keeper.now)
    (own_rows kept c.args.rows.now made listing (subst (λ (format : Format). Loads format c.args.rows.now made) c.in-Second.is loads)) has

pub returns-in-First-clause-left_ok : goal.returns-in-First-clause-left_ok
returns-in-First-clause-left_ok g c = λ kept has left listing.
    let made = c.in_ok-format.field-0.state.machine in
    migrated_just g.P.Keeper.leaves (λ s. s.machine) c.migrated.result c.migrated.new.keeper made kept c.args.rows.now listing
    (λ ordered. subst (λ (format : Format). Loads format c.args.rows.now made) c.in-First.is (c.in_ok-format.ensures.loads ordered))
    c.migrated.ensures.state (c.migrated.ensures.left_ok kept has)

pub returns-in-First-clause-left_err : goal.returns-in-First-clause-left_err
returns-in-First-clause-left_err g c = λ kept has left listing.
    let made = c.in_ok-format.field-0.state.machine in
    migrated_either g.P.Keeper.leaves c.migrated.result c.migrated.new.keeper made kept c.args.rows.now listing
    (subst (λ (format : Format). Loads format c.args.rows.now made) c.in-First.is (c.in_ok-format.ensures.loads (in_order kept c.args.rows.now listing)))
    (c.migrated.ensures.left_err kept has left)

pub returns-in-Second-clause-left_ok : goal.returns-in-Second-clause-left_ok
returns-in-Second-clause-left_ok g c = λ kept has left listing.
    let made = c.in_ok-format.field-0.state.machine in
    let loads : Loads c.in_ok-format.field-0.format c.args.rows.now made = c.in_ok-format.ensures.loads (in_order kept c.args.rows.now listing) in
    subst (λ rows. g.P.Keeper.leaves c.args.keeper.now rows rows)
    (own_rows kept c.args.rows.now made listing (subst (λ (format : Format). Loads format c.args.rows.now made) c.in-Second.is loads)) left

pub returns-in_err-format-clause-left_err : goal.returns-in_err-format-clause-left_err
returns-in_err-format-clause-left_err g c = λ kept has left listing. any_err c.from_residual.result (inl left)

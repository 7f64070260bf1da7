use Rattle.std.proofs.Common.{List, subst}
use Rattle.std.proofs.lemmas.Result.{err_from_is_err_and}
use Rattle.fields.specs.SetupParts.{parts}
use Rattle.tracker_keeper.specs.declared.row.RowOp.{RowOp}
use Rattle.tracker_keeper.specs.Rows.{with_ops}
use Rattle.tracker_machine.specs.Machine.{Machine}
use Rattle.amended_rows.specs.Amending.{AreOf}
use Rattle.row_amend.specs.Faults.{IsRowFault}
use Rattle.row_amend.proofs.Tried.{is_amended, first_in_the_way, then_in_the_way}
use Rattle.row_amend.proofs.trial.tried.Goals as goal

pub returns-in_err-ops-clause-fault : goal.returns-in_err-ops-clause-fault
returns-in_err-ops-clause-fault c = λ kept listing.
    let p = err_from_is_err_and c.from_residual-in_err-ops.result c.from_residual-in_err-ops.ensures.1 in
    rw (p.1, p.2)
    (first_in_the_way c.args.setup.text (parts c.args.setup) kept c.in_err-ops.field-0.0 (c.in_err-ops.ensures.fault kept (c.in_ok-trial.ensures.rows kept listing)))

pub returns-in_err-test-clause-fault : goal.returns-in_err-test-clause-fault
returns-in_err-test-clause-fault c = λ kept listing.
    let p = err_from_is_err_and c.from_residual-in_err-test.result c.from_residual-in_err-test.ensures.1 in
    let has = c.in_ok-trial.ensures.rows kept listing in
    rw (p.1, p.2)
    (then_in_the_way c.args.setup.text (parts c.args.setup) kept c.in_ok-ops.ops.items c.in_err-test.field-0.0 (c.in_ok-ops.ensures.done kept has)
    (subst (λ (os : List RowOp). IsRowFault (with_ops os kept) c.in_err-test.field-0.0) c.deref.ensures.value (c.in_err-test.ensures.fault kept (c.in_ok-ops.ensures.same kept has))))

pub returns-clause-done : goal.returns-clause-done
returns-clause-done c = λ kept listing.
    let has = c.in_ok-trial.ensures.rows kept listing in
    is_amended c.args.setup.text (parts c.args.setup) kept c.in_ok-ops.ops.items (c.in_ok-ops.ensures.done kept has)
    (subst (λ (os : List RowOp). (later : Machine) × AreOf (with_ops os kept) later) c.deref.ensures.value (c.in_ok-test.ensures.tracker kept (c.in_ok-ops.ensures.same kept has)))

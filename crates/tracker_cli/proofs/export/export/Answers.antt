use Rattle.std.proofs.Common.{◌≡◌, ◌⊎◌, ℕ, inl, inr, refl, arith}
use Rattle.setup_reading.specs.declared.built_in_text.TheConstants.{BUILT_IN}
use Rattle.tracker_cli.proofs.Commands.{all_exported, front_exported}
use Rattle.tracker_cli.proofs.Outcomes.{bad_front}
use Rattle.tracker_cli.proofs.export.export.Goals as goal

pub returns-in-Ok-clause-done : goal.returns-in-Ok-clause-done
returns-in-Ok-clause-done g c = λ is.
    all_exported g.P.Keeper.keeps g.P.Keeper.tells g.P.Keeper.faults BUILT_IN.now c.args.keeper c.in-Ok.desk
    c.in-Ok.ensures.opened c.in-Ok.ensures.rows c.in-Ok.ensures.later_ok c.write_issues.result.1 _ _
    c.write_issues.ensures.keeper (c.write_issues.ensures.done is)

pub returns-in-Ok-clause-written : goal.returns-in-Ok-clause-written
returns-in-Ok-clause-written g c = λ is. inl (
    front_exported g.P.Keeper.keeps g.P.Keeper.tells g.P.Keeper.faults BUILT_IN.now c.args.keeper c.in-Ok.desk
    c.in-Ok.ensures.opened c.in-Ok.ensures.rows c.in-Ok.ensures.later_ok c.write_issues.result.1 _ _
    c.write_issues.ensures.keeper (c.write_issues.ensures.cut (inl is)))

pub returns-in-Ok-clause-memory : goal.returns-in-Ok-clause-memory
returns-in-Ok-clause-memory g c = λ is. inl (
    front_exported g.P.Keeper.keeps g.P.Keeper.tells g.P.Keeper.faults BUILT_IN.now c.args.keeper c.in-Ok.desk
    c.in-Ok.ensures.opened c.in-Ok.ensures.rows c.in-Ok.ensures.later_ok c.write_issues.result.1 _ _
    c.write_issues.ensures.keeper (c.write_issues.ensures.cut (inr is)))

-- once a desk is opened no row is bad
never_bad : (status : ℕ) → (status ≡ 0) ⊎ (status ≡ 3) ⊎ (status ≡ 6) → status ≡ 5 → ⊥
never_bad status (inl done) bad = omega arith
never_bad status (inr (inl written)) bad = omega arith
never_bad status (inr (inr memory)) bad = omega arith

pub returns-in-Ok-clause-bad : goal.returns-in-Ok-clause-bad
returns-in-Ok-clause-bad g c = λ is. absurd (never_bad _ c.write_issues.ensures.statuses is)

pub returns-in-Err-BadRow-default-clause-written : goal.returns-in-Err-BadRow-default-clause-written
returns-in-Err-BadRow-default-clause-written g c = λ is.
    let bad = c.in-Err-BadRow-default in
    inr (bad_front _ bad.field-0-0 bad.kind bad.no _ _ _ bad.ensures.fault bad.field-0-0-is refl (c.tell_row.ensures.written is), bad.ensures.same)

use Rattle.std.proofs.Common.{◌≡◌, inl, inr, sym, subst}
use Rattle.sqlite_wal.specs.Files.{image_at}
use Rattle.sqlite.specs.Files.{file_state}
use Rattle.sqlite.specs.State.{HasCleanDisk}
use Rattle.file_ends.specs.Ending.{MayBeFound}
use Rattle.setup_reading.specs.declared.built_in_text.TheConstants.{BUILT_IN}
use Rattle.tracker_keeper.specs.Rows.{Rows, no_rows}
use Rattle.tracker_machine.specs.Kept.{rows_of}
use Rattle.keeper_told.specs.Keeping.{Keeps}
use Rattle.file_runs.specs.Runs.{BeginsWith}
use Rattle.file_runs.proofs.Left.{run_ends, run_ends_again}
use Rattle.file_runs.proofs.run.run_over_files.Goals as goal

pub returns-clause-begins : goal.returns-clause-begins
returns-clause-begins g c = λ clean exec rows begins.
    let k = c.in_ok-keeper.keeper in
    let told = c.in_ok-keeper.ensures in
    let kept : HasCleanDisk (file_state k.conn) → Keeps (file_state k.conn) rows = λ early. elim begins [
      | inl held ↦ told.kept early rows held
      | inr none ↦ subst (Keeps (file_state k.conn)) (sym none.1) (told.nothing early none.0)
    ] in
    run_ends _ _ _ _ (MayBeFound c.end_run.result) BUILT_IN.now k c.run-status.result.1 rows
    (λ early opened. kept early) (λ early db may. inl (told.left early rows (kept early) db may)) (c.end_run.ensures.told clean)
    (λ one other leaving image may. c.end_run.ensures.found clean one other (leaving (c.end_run.ensures.told clean)) image may)
    _ _ _ _ _ _ (c.run-status.ensures.lines (inl exec))

pub returns-clause-goes_on : goal.returns-clause-goes_on
returns-clause-goes_on g c = λ clean exec m holds.
    run_ends_again _ BUILT_IN.now m holds.tracker holds.setup _ _ _ _ _ _ (returns-clause-begins g c clean exec (rows_of m) (inl holds.held))

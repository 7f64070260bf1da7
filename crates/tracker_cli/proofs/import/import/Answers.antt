use Rattle.std.proofs.Common.{◌≤◌, inr, refl, length, subst}
use Rattle.std.specs.Prelude.{◌⊎◌, ◌≡◌, IfSome}
use Rattle.std.specs.Io.KnownBytes.{IsAtEnd}
use Rattle.setup_reading.specs.declared.built_in_text.TheConstants.{BUILT_IN}
use Rattle.issue_csv.specs.Reading.{batch_in}
use Rattle.tracker_core.specs.Desk.{HasBadRow}
use Rattle.tracker_cli.specs.Outcome.{GrewBy, GrewByFront, HasItsRows, IsKeptText, limit_input}
use Rattle.tracker_cli.specs.Commands.{Stands, AreImported, AreCutImported, IsWholeImport, IsRecordText, IsTooLong, IsUnwritten, import_limit}
use Rattle.tracker_cli.proofs.Commands.{stands, all_imported, written_of, memory_of, record_imported}
use Rattle.tracker_cli.proofs.Outcomes.{bad_front}
use Rattle.tracker_cli.proofs.import.import.Goals as goal

pub returns-in-Ok-open-clause-done : goal.returns-in-Ok-open-clause-done
returns-in-Ok-open-clause-done g c = λ is.
    let Made = AreImported g.P.Keeper.keeps g.P.Keeper.tells g.P.Keeper.faults BUILT_IN.now c.args.keeper c.import_input.result.1 in
    subst (λ user. IfSome (g.S.Source.left c.args.input.now) (λ bytes. IsAtEnd (g.S.Source.left c.import_input.new.input) × (length bytes ≤ import_limit)
    × IsWholeImport (Made user) (g.T.Sink.taken c.args.out.now) (g.T.Sink.taken c.import_input.new.out) bytes)) c.in-Ok.ensures
    (all_imported g.P.Keeper.keeps g.P.Keeper.tells g.P.Keeper.faults BUILT_IN.now c.args.keeper c.in-Ok-open.desk
    c.in-Ok-open.ensures.opened c.in-Ok-open.ensures.rows c.in-Ok-open.ensures.later_ok c.import_input.result.1 _ _ _ _ _
    (c.import_input.ensures.done is))

pub returns-in-Ok-open-clause-read : goal.returns-in-Ok-open-clause-read
returns-in-Ok-open-clause-read g c = λ is.
    let end = c.import_input.ensures.read is in (
      end.0,
      stands g.P.Keeper.keeps g.P.Keeper.tells g.P.Keeper.faults BUILT_IN.now c.args.keeper c.in-Ok-open.desk
          c.in-Ok-open.ensures.opened c.in-Ok-open.ensures.rows c.in-Ok-open.ensures.later_ok c.import_input.result.1 end.1,
    )

pub returns-in-Ok-open-clause-written : goal.returns-in-Ok-open-clause-written
returns-in-Ok-open-clause-written g c = λ is.
    let last = c.import_input.result.1 in
    let old = g.T.Sink.taken c.args.out.now in
    let new = g.T.Sink.taken c.import_input.new.out in
    let Made = AreImported g.P.Keeper.keeps g.P.Keeper.tells g.P.Keeper.faults BUILT_IN.now c.args.keeper last in
    let Cut = AreCutImported g.P.Keeper.keeps g.P.Keeper.tells g.P.Keeper.faults BUILT_IN.now c.args.keeper last in
    subst (λ user. IfSome (g.S.Source.left c.args.input.now) (λ bytes. (length bytes ≤ import_limit) × IsUnwritten (Made user) (Cut user) old new bytes)
    ⊎ (GrewByFront old new (λ due. due ≡ limit_input) × IsTooLong (g.S.Source.left c.args.input.now)
    × Stands g.P.Keeper.keeps g.P.Keeper.tells g.P.Keeper.faults BUILT_IN.now c.args.keeper last)
    ⊎ (GrewByFront old new (IsKeptText (HasBadRow g.P.Keeper.keeps g.P.Keeper.tells c.args.keeper last)) × HasItsRows g.P.Keeper.keeps c.args.keeper last)) c.in-Ok.ensures
    (written_of g.P.Keeper.keeps g.P.Keeper.tells g.P.Keeper.faults BUILT_IN.now c.args.keeper c.in-Ok-open.desk
    c.in-Ok-open.ensures.opened c.in-Ok-open.ensures.rows c.in-Ok-open.ensures.later_ok last _ _ _ _ _
    (c.import_input.ensures.written is))

pub returns-in-Ok-open-clause-memory : goal.returns-in-Ok-open-clause-memory
returns-in-Ok-open-clause-memory g c = λ is.
    let last = c.import_input.result.1 in
    let old = g.T.Sink.taken c.args.out.now in
    let new = g.T.Sink.taken c.import_input.new.out in
    let Cut = AreCutImported g.P.Keeper.keeps g.P.Keeper.tells g.P.Keeper.faults BUILT_IN.now c.args.keeper last in
    subst (λ user. IfSome (g.S.Source.left c.args.input.now) (λ bytes. (length bytes ≤ import_limit) × GrewBy old new (Cut user (batch_in bytes).calls))
    ⊎ ((new ≡ old) × Stands g.P.Keeper.keeps g.P.Keeper.tells g.P.Keeper.faults BUILT_IN.now c.args.keeper last)
    ⊎ ((new ≡ old) × HasItsRows g.P.Keeper.keeps c.args.keeper last)) c.in-Ok.ensures
    (memory_of g.P.Keeper.keeps g.P.Keeper.tells g.P.Keeper.faults BUILT_IN.now c.args.keeper c.in-Ok-open.desk
    c.in-Ok-open.ensures.opened c.in-Ok-open.ensures.rows c.in-Ok-open.ensures.later_ok last _ _ _ _ _
    (c.import_input.ensures.memory is))

pub returns-in-Ok-open-clause-limit : goal.returns-in-Ok-open-clause-limit
returns-in-Ok-open-clause-limit g c = λ is.
    let end = c.import_input.ensures.limit is in (
      end.0,
      end.1,
      stands g.P.Keeper.keeps g.P.Keeper.tells g.P.Keeper.faults BUILT_IN.now c.args.keeper c.in-Ok-open.desk
          c.in-Ok-open.ensures.opened c.in-Ok-open.ensures.rows c.in-Ok-open.ensures.later_ok c.import_input.result.1 end.2,
    )

pub returns-in-Ok-open-clause-record : goal.returns-in-Ok-open-clause-record
returns-in-Ok-open-clause-record g c = λ is.
    let Made = AreImported g.P.Keeper.keeps g.P.Keeper.tells g.P.Keeper.faults BUILT_IN.now c.args.keeper c.import_input.result.1 in
    subst (λ user. IfSome (g.S.Source.left c.args.input.now) (λ bytes. (length bytes ≤ import_limit) × GrewBy (g.T.Sink.taken c.args.out.now) (g.T.Sink.taken c.import_input.new.out)
    (IsRecordText (Made user) bytes))) c.in-Ok.ensures
    (record_imported g.P.Keeper.keeps g.P.Keeper.tells g.P.Keeper.faults BUILT_IN.now c.args.keeper c.in-Ok-open.desk
    c.in-Ok-open.ensures.opened c.in-Ok-open.ensures.rows c.in-Ok-open.ensures.later_ok c.import_input.result.1 _ _ _ _
    (c.import_input.ensures.record is))

pub returns-in-Err-BadRow-default-clause-written : goal.returns-in-Err-BadRow-default-clause-written
returns-in-Err-BadRow-default-clause-written g c = λ is.
    let bad = c.in-Err-BadRow-default in
    inr (inr (bad_front _ bad.field-0-0 bad.kind bad.no _ _ _ bad.ensures.fault bad.field-0-0-is refl (c.tell_row.ensures.written is), bad.ensures.same))

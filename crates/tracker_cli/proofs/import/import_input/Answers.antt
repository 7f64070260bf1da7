use Rattle.std.proofs.Common.{◌≤◌, ℕ, List, inl, length, subst}
use Rattle.std.specs.Io.KnownBytes.{IsAtEnd}
use Rattle.issue_csv.specs.Reading.{batch_in}
use Rattle.tracker_cli.specs.Outcome.{GrewBy}
use Rattle.tracker_cli.specs.Commands.{AreMadeFrom, AreCutFrom, IsWholeImport, IsRecordText, IsUnwritten, import_limit}
use Rattle.tracker_cli.proofs.Commands.{of_whole}
use Rattle.tracker_cli.proofs.import.import_input.Goals as goal

pub returns-in-Ok-clause-done : goal.returns-in-Ok-clause-done
returns-in-Ok-clause-done g c = λ is.
    let Made = AreMadeFrom g.P.Keeper.keeps g.P.Keeper.tells g.P.Keeper.faults c.args.desk c.import_bytes.result.1 c.args.user.now in
    of_whole (λ bytes. IsAtEnd (g.S.Source.left c.read_whole.new.source) × (length bytes ≤ import_limit)
    × IsWholeImport Made (g.T.Sink.taken c.args.out.now) (g.T.Sink.taken c.import_bytes.new.out) bytes)
    _ _ _ c.in-Ok.ensures.whole c.in-Ok.ensures.end (
      c.in-Ok.ensures.end,
      c.in-Ok.ensures.within,
      subst (λ bytes. IsWholeImport Made (g.T.Sink.taken c.args.out.now) (g.T.Sink.taken c.import_bytes.new.out) bytes) c.deref.ensures.value (c.import_bytes.ensures.done is),
    )

pub returns-in-Ok-clause-written : goal.returns-in-Ok-clause-written
returns-in-Ok-clause-written g c = λ is.
    let Made = AreMadeFrom g.P.Keeper.keeps g.P.Keeper.tells g.P.Keeper.faults c.args.desk c.import_bytes.result.1 c.args.user.now in
    let Cut = AreCutFrom g.P.Keeper.keeps g.P.Keeper.tells g.P.Keeper.faults c.args.desk c.import_bytes.result.1 c.args.user.now in
    let Says : List ℕ → Type 0 = λ bytes. IsUnwritten Made Cut (g.T.Sink.taken c.args.out.now) (g.T.Sink.taken c.import_bytes.new.out) bytes in
    inl (of_whole (λ bytes. (length bytes ≤ import_limit) × Says bytes) _ _ _ c.in-Ok.ensures.whole c.in-Ok.ensures.end
    (c.in-Ok.ensures.within, subst Says c.deref.ensures.value (c.import_bytes.ensures.written is)))

pub returns-in-Ok-clause-memory : goal.returns-in-Ok-clause-memory
returns-in-Ok-clause-memory g c = λ is.
    let Cut = AreCutFrom g.P.Keeper.keeps g.P.Keeper.tells g.P.Keeper.faults c.args.desk c.import_bytes.result.1 c.args.user.now in
    let Says : List ℕ → Type 0 = λ bytes. GrewBy (g.T.Sink.taken c.args.out.now) (g.T.Sink.taken c.import_bytes.new.out) (Cut (batch_in bytes).calls) in
    inl (of_whole (λ bytes. (length bytes ≤ import_limit) × Says bytes) _ _ _ c.in-Ok.ensures.whole c.in-Ok.ensures.end
    (c.in-Ok.ensures.within, subst Says c.deref.ensures.value (c.import_bytes.ensures.memory is)))

pub returns-in-Ok-clause-record : goal.returns-in-Ok-clause-record
returns-in-Ok-clause-record g c = λ is.
    let Made = AreMadeFrom g.P.Keeper.keeps g.P.Keeper.tells g.P.Keeper.faults c.args.desk c.import_bytes.result.1 c.args.user.now in
    let Says : List ℕ → Type 0 = λ bytes. GrewBy (g.T.Sink.taken c.args.out.now) (g.T.Sink.taken c.import_bytes.new.out) (IsRecordText Made bytes) in
    of_whole (λ bytes. (length bytes ≤ import_limit) × Says bytes) _ _ _ c.in-Ok.ensures.whole c.in-Ok.ensures.end
    (c.in-Ok.ensures.within, subst Says c.deref.ensures.value (c.import_bytes.ensures.record is))

use Rattle.std.proofs.Common.{inr}
use Rattle.tracker_cli.specs.Commands.{AreMadeFrom}
use Rattle.tracker_cli.proofs.Commands.{made_from, cut_all, record_told, record_cut}
use Rattle.tracker_cli.proofs.import.import_bytes.Goals as goal

pub returns-in-BadRecord-clause-written : goal.returns-in-BadRecord-clause-written
returns-in-BadRecord-clause-written g c = λ is.
    let end = c.in-BadRecord.ensures.run in
    let Made = AreMadeFrom g.P.Keeper.keeps g.P.Keeper.tells g.P.Keeper.faults c.args.desk c.close-in-BadRecord.result c.args.user.now in
    inr (record_cut Made _ c.in-BadRecord.number _ _ _ end.0
    (made_from g.P.Keeper.keeps g.P.Keeper.tells g.P.Keeper.faults c.args.user.now c.args.desk _ c.close-in-BadRecord.result _ _ _
    c.close-in-BadRecord.ensures end.1)
    (c.tell_record-status.ensures.written is))

pub returns-in-BadRecord-clause-memory : goal.returns-in-BadRecord-clause-memory
returns-in-BadRecord-clause-memory g c = λ is.
    cut_all g.P.Keeper.keeps g.P.Keeper.tells g.P.Keeper.faults c.args.user.now c.args.desk c.close-in-BadRecord.result _ _ _ _
    (made_from g.P.Keeper.keeps g.P.Keeper.tells g.P.Keeper.faults c.args.user.now c.args.desk _ c.close-in-BadRecord.result _ _ _
    c.close-in-BadRecord.ensures c.in-BadRecord.ensures.run.1)
    (c.tell_record-status.ensures.memory is)

pub returns-in-BadRecord-clause-record : goal.returns-in-BadRecord-clause-record
returns-in-BadRecord-clause-record g c = λ is.
    let end = c.in-BadRecord.ensures.run in
    let Made = AreMadeFrom g.P.Keeper.keeps g.P.Keeper.tells g.P.Keeper.faults c.args.desk c.close-in-BadRecord.result c.args.user.now in
    record_told Made _ c.in-BadRecord.number _ _ _ end.0
    (made_from g.P.Keeper.keeps g.P.Keeper.tells g.P.Keeper.faults c.args.user.now c.args.desk _ c.close-in-BadRecord.result _ _ _
    c.close-in-BadRecord.ensures end.1)
    (c.tell_record-status.ensures.told is)

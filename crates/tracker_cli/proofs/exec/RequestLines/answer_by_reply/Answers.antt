use Rattle.std.proofs.Common.{subst}
use Rattle.tracker_core.specs.Desk.{DeskParts}
use Rattle.tracker_cli.specs.Serving.{MakesCall}
use Rattle.tracker_cli.proofs.exec.RequestLines.answer_by_reply.Goals as goal

pub returns : goal.returns
returns g c =
    let made : MakesCall g.P.Keeper.keeps g.P.Keeper.tells g.P.Keeper.faults g.P.Keeper.leaves c.self.inside.desk c.args.caller.now c.args.call.now c.call-reply.result c.call-reply.new.self = record {
      step = c.call-reply.ensures.step;
      rows = c.call-reply.ensures.rows;
      told = c.call-reply.ensures.told;
      owed = c.call-reply.ensures.cause;
      unasked = c.call-reply.ensures.unasked;
      left = c.call-reply.ensures.left;
    } in
    record {
      reply = c.call-reply.result;
      is = subst (λ (d : DeskParts _). MakesCall g.P.Keeper.keeps g.P.Keeper.tells g.P.Keeper.faults g.P.Keeper.leaves d c.args.caller.now c.args.call.now c.call-reply.result c.call-reply.new.self) c.self.view_is made;
      line_is = c.put_reply_line.ensures;
    }

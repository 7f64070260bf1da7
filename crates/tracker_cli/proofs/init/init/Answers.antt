use Rattle.std.proofs.Common.{Some, ◌++◌, subst}
use Rattle.tracker_cli.specs.Outcome.{HasSomeRow, IsInitText}
use Rattle.tracker_cli.proofs.Outcomes.{whole_text}
use Rattle.tracker_cli.proofs.init.init.Goals as goal

pub returns-in-Ok-clause-written : goal.returns-in-Ok-clause-written
returns-in-Ok-clause-written g c = λ is.
    let made = c.make.ensures.written is in
    let told = subst (λ text. IsInitText (HasSomeRow g.P.Keeper.keeps g.P.Keeper.tells c.args.keeper c.make.result.1) (Some text) (made.0.0 ++ made.0.1)) c.deref.ensures.value made.0.2 in
    ((made.0.0, made.0.1, whole_text _ _ _ _ _ c.in-Ok.ensures.whole c.in-Ok.ensures.end told, made.0.3), made.1)

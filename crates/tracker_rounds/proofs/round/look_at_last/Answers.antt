use Rattle.std.proofs.Common.{◌∙◌}
use Rattle.desk_turn.specs.Passes.{seen}
use Rattle.tracker_rounds.proofs.round.look_at_last.Goals as goal

pub returns-clause-accounted : goal.returns-clause-accounted
returns-clause-accounted g c =
    let last = c.look_at_last-lacked.ensures.last in
    record {
      told = c.args.round.value.1;
      last = last.0;
      whole = c.into_parts-maker.ensures.trail ∙ last.1;
      seen = seen c.args.round.first.value;
      accounted = c.requires;
      last_is = last.2;
    }

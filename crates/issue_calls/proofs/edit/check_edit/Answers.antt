use Rattle.std.proofs.Common.{length}
use Rattle.fields.specs.SetupParts.{names_in}
use Rattle.issue_calls.proofs.edit.check_edit.Goals as goal

pub returns-clause-may : goal.returns-clause-may
returns-clause-may c =
    let m = c.args.state.now.machine in
    record {
      there = c.in_ok-found.ensures.issue;
      author = c.requires.user;
      few = c.in_ok-check_entries.ensures.few;
      light = c.in_ok-check_bytes.ensures.few;
      news = c.news_of.ensures.news;
      fitting = c.news_of.ensures.fitting (names_in m.setup) c.in_ok-changes.ensures.fitting;
      sprints = c.news_of.ensures.sprints (length m.sprints) c.in_ok-changes.ensures.sprints;
    }

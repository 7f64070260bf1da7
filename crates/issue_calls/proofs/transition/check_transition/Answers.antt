use Rattle.issue_calls.proofs.transition.check_transition.Goals as goal

pub returns-clause-may : goal.returns-clause-may
returns-clause-may c = record {
  there = c.in_ok-found.ensures.issue;
  author = c.requires.user;
  few = c.in_ok-check_entries.ensures.few;
  light = c.in_ok-check_bytes.ensures.few;
  news = c.in_ok-net.ensures.news;
  fitting = c.in_ok-net.ensures.fitting;
  sprints = c.in_ok-net.ensures.sprints;
}

use Rattle.std.proofs.Common.{◌≡◌, ◌≤◌}
use Rattle.jql_meaning.specs.Words.{has_word}
use Rattle.jql_present.proofs.Runs.{is_ahead}
use Rattle.jql_present.proofs.words.has_word.Given as goal

abbrev pub invariant-loop-at : goal.invariant-loop-at
invariant-loop-at l = record {
  order : l.begin ≤ l.at;
  same : has_word l.text l.wanted ≡ is_ahead l.wanted l.text l.begin l.at;
}

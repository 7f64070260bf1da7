use Rattle.jql_meaning.proofs.Opposites.{never_both_hold}
use Rattle.jql_meaning.proofs.laws.denials.Goals as goal

pub returns : goal.returns
returns c = never_both_hold

use Rattle.std.proofs.Common.{ℕ, ◌∙◌, ap, FitsSigned, to_z, of_z, w64, rules}
use Rattle.std.proofs.lemmas.Int.{to_z-of_z}
use Rattle.jql_meaning.specs.Surroundings.{surroundings_of}
use Rattle.jql_meaning.specs.Comparison.{second_now}
use Rattle.jql_past.proofs.Disturbances.{date_disturbed_at}
use Rattle.jql_past.proofs.disturbed.disturbs_date.Goals as goal

pub returns : goal.returns
returns c =
    let fits : FitsSigned w64 c.at-second.result = search rules in
    rw c.earlier.ensures
    (date_disturbed_at (surroundings_of c.args.context.now) c.args.predicates.now c.args.at c.args.term.now (to_z w64 (of_z w64 c.at-second.result)) c.next_change.result c.near_edge.result
    (search rules) (to_z-of_z w64 c.at-second.result fits ∙ c.at-second.ensures.value ∙ ap (λ (n : ℕ). second_now (surroundings_of c.args.context.now) n c.args.term.now) c.seconds.ensures) c.next_change.ensures c.near_edge.ensures)

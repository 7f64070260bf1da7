use Rattle.std.proofs.Common.{[], ◌∷◌, ap, sym, ◌∙◌, inl, inr, to_z, of_z, w64}
use Rattle.std.proofs.lemmas.Int.{to_z-of_z}
use Rattle.jql_meaning.specs.Surroundings.{surroundings_of}
use Rattle.jql_meaning.specs.Edges.{operands_of}
use Rattle.jql_present.proofs.Firsts.{first_of_same}
use Rattle.jql_present.proofs.end.next_at.Goals as goal

pub returns-in-Compares : goal.returns-in-Compares
returns-in-Compares c =
    first_of_same (surroundings_of c.args.context.now) (c.in-Compares.operand ∷ []) (operands_of c.args.operator.now) (to_z w64 (of_z w64 c.args.mark)) c.args.mark c.args.at c.next_of.result
    (sym (ap operands_of c.in-Compares.is)) (to_z-of_z w64 c.args.mark c.ranges.mark) c.next_of.ensures

pub returns-in-In : goal.returns-in-In
returns-in-In c =
    first_of_same (surroundings_of c.args.context.now) c.as_slice.result.now (operands_of c.args.operator.now) (to_z w64 (of_z w64 c.args.mark)) c.args.mark c.args.at c.first_of.result
    (c.as_slice.ensures ∙ elim c.in-In.is [ inl is ↦ sym (ap operands_of is) | inr is ↦ sym (ap operands_of is) ]) (to_z-of_z w64 c.args.mark c.ranges.mark) c.first_of.ensures

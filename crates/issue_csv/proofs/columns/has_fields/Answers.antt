use Rattle.std.proofs.Common.{Bor, ◌∙◌, ◌<◌, ℕ, List, [], map, sym, ap, arith, add-one, length, bytes_eq}
use Rattle.std.proofs.lemmas.List.{length-map, get_or-map}
use Rattle.std.proofs.lemmas.Bool.{not-true, not-false}
use Rattle.std.proofs.lemmas.Slice.Eq.{bytes_eq-Decides}
use Rattle.csv.specs.Records.{fields_of}
use Rattle.issue_csv.proofs.Fields.{one_less, one_other, one_same, other_length}
use Rattle.issue_csv.proofs.columns.has_fields.Goals as goal

abbrev texts : List (Bor (List ℕ)) → List (List ℕ)
texts = map (λ s. s.now)

pub returns-then-len-names : goal.returns-then-len-names
returns-then-len-names c =
    sym (other_length (fields_of c.args.row.now) _ (λ e. c.if-len-names.true (c.len.ensures ∙ e ∙ length-map c.args.names.now _)))

pub returns-then-ne : goal.returns-then-ne
returns-then-ne c =
    let at = rw c.in-Some.is at c.get.ensures.value in
    let lt : c.loop-i.i < length (texts c.args.names.now) = rw (length-map c.args.names.now) c.loop-i-test.true in
    let other = not-true _ (sym c.if-ne.ensures) in
    sym (c.loop-i.invariant ∙ one_other (fields_of c.args.row.now) (texts c.args.names.now) c.loop-i.i c.in-Some.field.now [] lt at (ap (bytes_eq c.in-Some.field.now) (get_or-map (λ s. s.now) c.args.names.now c.loop-i.i _ [] c.loop-i-test.true) ∙ other))

pub returns-in-None : goal.returns-in-None
returns-in-None c =
    let at = rw c.in-None.is at c.get.ensures.value in
    absurd (one_less (fields_of c.args.row.now) [] c.loop-i.i (omega (arith, c.len.ensures, c.if-len-names.false, c.loop-i-test.true)) at)

pub loop-i-preserved : goal.loop-i-preserved
loop-i-preserved c =
    let at = rw c.in-Some.is at c.get.ensures.value in
    let lt : c.loop-i.i < length (texts c.args.names.now) = rw (length-map c.args.names.now) c.loop-i-test.true in
    let same = not-false _ (sym c.if-ne.ensures) in
    rw (add-one c.loop-i.i) (c.loop-i.invariant ∙ one_same (fields_of c.args.row.now) (texts c.args.names.now) c.loop-i.i c.in-Some.field.now [] lt at ((bytes_eq-Decides _ _).0 same ∙ sym (get_or-map (λ s. s.now) c.args.names.now c.loop-i.i _ [] c.loop-i-test.true)))

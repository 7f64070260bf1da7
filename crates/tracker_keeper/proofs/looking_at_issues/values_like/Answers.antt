use Rattle.std.proofs.Common.{◌≡◌, ◌++◌, ◌∙◌, ap, map, drop, option_map, sym, ◌+◌, None, if◌then◌else◌, get_or}
use Rattle.field_values.specs.declared.numbers.FieldNo.{FieldNo}
use Rattle.serde_json.specs.Find.{get}
use Rattle.serde_json.specs.View.{view}
use Rattle.fields.specs.Naming.{field_name}
use Rattle.fields.specs.SetupParts.{names}
use Rattle.tracker_keeper.specs.LookingAtValues.{values_like, with_value}
use Rattle.tracker_keeper.proofs.IssuesBack.{next_values}
use Rattle.tracker_keeper.proofs.looking_at_issues.values_like.Goals as goal

pub returns-then-not-branch : goal.returns-then-not-branch
returns-then-not-branch c =
    let known = names c.args.setup.now in
    let told_of = view c.args.fields.now in
    let numbers = c.args.numbers.now in
    let k = c.loop-field.field-index in
    let none : FieldNo = record { 0 = 0 } in
    let rest = values_like known told_of (map (λ f. f.0) (drop (k + 1) numbers)) in
    let field = (get_or numbers k none).0 in
    let told : option_map (λ more. c.loop-field.values ++ more) (with_value known field (get (field_name c.args.setup.now.field field) told_of) rest)
    ≡ (if c.in_ok-put_value_of.field-0 then option_map (λ more. c.put_value_of.new.values ++ more) rest else None) = c.in_ok-put_value_of.ensures rest in
    let told_none : option_map (λ more. c.loop-field.values ++ more) (with_value known field (get (field_name c.args.setup.now.field field) told_of) rest) ≡ None = rw (c.if-not-branch.true) at told in
    sym (c.loop-field.invariant ∙ ap (option_map (λ more. c.loop-field.values ++ more)) (next_values known told_of numbers k none c.loop-field-test.true) ∙ told_none)

pub loop-field-preserved : goal.loop-field-preserved
loop-field-preserved c =
    let known = names c.args.setup.now in
    let told_of = view c.args.fields.now in
    let numbers = c.args.numbers.now in
    let k = c.loop-field.field-index in
    let none : FieldNo = record { 0 = 0 } in
    let rest = values_like known told_of (map (λ f. f.0) (drop (k + 1) numbers)) in
    let field = (get_or numbers k none).0 in
    let told : option_map (λ more. c.loop-field.values ++ more) (with_value known field (get (field_name c.args.setup.now.field field) told_of) rest)
    ≡ (if c.in_ok-put_value_of.field-0 then option_map (λ more. c.put_value_of.new.values ++ more) rest else None) = c.in_ok-put_value_of.ensures rest in
    let told_more : option_map (λ more. c.loop-field.values ++ more) (with_value known field (get (field_name c.args.setup.now.field field) told_of) rest)
    ≡ option_map (λ more. c.put_value_of.new.values ++ more) rest = rw (c.if-not-branch.false) at told in
    c.loop-field.invariant ∙ ap (option_map (λ more. c.loop-field.values ++ more)) (next_values known told_of numbers k none c.loop-field-test.true) ∙ told_more

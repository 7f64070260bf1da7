use Rattle.std.proofs.Common.{◌≡◌, ◌++◌, drop, map, option_map}
use Rattle.serde_json.specs.View.{view}
use Rattle.fields.specs.SetupParts.{names}
use Rattle.tracker_keeper.specs.LookingAtValues.{values_like}
use Rattle.tracker_keeper.proofs.looking_at_issues.values_like.Given as goal

abbrev pub invariant-loop-field : goal.invariant-loop-field
invariant-loop-field l =
    values_like (names l.setup) (view l.fields) (map (λ f. f.0) l.numbers)
    ≡ option_map (λ more. l.values ++ more) (values_like (names l.setup) (view l.fields) (map (λ f. f.0) (drop l.field-index l.numbers)))

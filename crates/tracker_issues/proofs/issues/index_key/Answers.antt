use Rattle.std.proofs.Common.{◌≡◌, ◌∙◌, string_bytes, rules, Some, false}
use Rattle.std.specs.Option.{is_some}
use Rattle.std.specs.HashMap.{get_by_text}
use Rattle.std.proofs.lemmas.Map.Text.{hash_map_updates_text}
use Rattle.tracker_issues.proofs.Keys.{put_found}
use Rattle.tracker_issues.proofs.issues.index_key.Goals as goal

pub returns-clause-found : goal.returns-clause-found
returns-clause-found c = λ name.
    let none : is_some (get_by_text c.args.by_key.now (string_bytes c.args.key)) ≡ false = search rules in
    hash_map_updates_text (string_bytes c.args.key) c.args.by_key.now c.insert.new.self (Some c.args.place) c.in-Ok.ensures.updates name
    ∙ put_found c.args.by_key.now (string_bytes c.args.key) c.args.place none name

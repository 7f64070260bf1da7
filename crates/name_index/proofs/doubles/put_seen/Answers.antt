use Rattle.std.proofs.Common.{◌≡◌, ◌∙◌, ◌||◌, ℕ, List, Bool, true, false, cond, string_bytes, bytes_eq, refl, ap}
use Rattle.std.proofs.lemmas.Map.Text.{btree_set_updates_text}
use Rattle.std.specs.BTreeSet.{contains_text}
use Rattle.std.specs.Str.{str_to_ascii_lowercase}
use Rattle.name_index.proofs.doubles.put_seen.Goals as goal

either : (a b : Bool) → cond a true b ≡ (a || b)
either true b = refl
either false b = refl

pub returns-clause-seen : goal.returns-clause-seen
returns-clause-seen c = λ other.
    let key = c.in_ok-to_ascii_lowercase.field-0 in
    let letters : string_bytes key ≡ str_to_ascii_lowercase c.args.name.now = c.in_ok-to_ascii_lowercase.ensures.ok ∙ ap str_to_ascii_lowercase c.as_str.ensures in
    btree_set_updates_text (string_bytes key) c.args.seen.now c.insert.new.self true c.in_ok-insert.ensures.updates (str_to_ascii_lowercase other)
    ∙ (either (bytes_eq (string_bytes key) (str_to_ascii_lowercase other)) (contains_text c.args.seen.now (str_to_ascii_lowercase other))
    ∙ ap (λ (bs : List ℕ). bytes_eq bs (str_to_ascii_lowercase other) || contains_text c.args.seen.now (str_to_ascii_lowercase other)) letters)

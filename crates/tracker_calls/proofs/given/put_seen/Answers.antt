use Rattle.std.proofs.Common.{◌≡◌, ◌∙◌, ℕ, List, Bool, true, false, cond, Some, Option, option_map, string_bytes, bytes_eq, Bor, refl, ap}
use Rattle.std.specs.Prelude.{if◌then◌else◌}
use Rattle.std.proofs.lemmas.Map.Text.{btree_map_updates_text}
use Rattle.std.specs.BTreeMap.{get_by_text}
use Rattle.std.specs.Str.{str_to_ascii_lowercase}
use Rattle.tracker_calls.specs.Seen.{seen_by}
use Rattle.tracker_calls.proofs.given.put_seen.Goals as goal

either_seen : (b : Bool) (name : Bor (List ℕ)) (before : Option (Bor (List ℕ)))
    → option_map (λ n. n.now) (cond b (Some name) before) ≡ (if b then Some name.now else option_map (λ n. n.now) before)
either_seen true name before = refl
either_seen false name before = refl

pub returns-clause-seen : goal.returns-clause-seen
returns-clause-seen c = λ other.
    let letters = string_bytes c.in_ok-letters.letters in
    let same : letters ≡ str_to_ascii_lowercase c.args.name.now = c.in_ok-letters.ensures.ok in
    ap (option_map (λ n. n.now)) (btree_map_updates_text letters c.args.seen.now c.insert.new.self (Some c.args.name) c.in_ok-insert.ensures.updates (str_to_ascii_lowercase other))
    ∙ (either_seen (bytes_eq letters (str_to_ascii_lowercase other)) c.args.name (get_by_text c.args.seen.now (str_to_ascii_lowercase other))
    ∙ ap (λ (bs : List ℕ). if bytes_eq bs (str_to_ascii_lowercase other) then Some c.args.name.now else seen_by c.args.seen.now other) same)

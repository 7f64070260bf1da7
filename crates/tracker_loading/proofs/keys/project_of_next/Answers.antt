use Rattle.std.proofs.Common.{◌≡◌, ◌+◌, ℕ, List, Some, option_map, ap, sym, ◌∙◌}
use Rattle.field_values.specs.declared.numbers.ProjectNo.{ProjectNo}
use Rattle.field_values.specs.Parts.{Parts}
use Rattle.field_forms.specs.Names.{place_named}
use Rattle.fields.specs.SetupParts.{parts}
use Rattle.fields.specs.Naming.{name_at, key_of}
use Rattle.change_history.specs.History.{History, histories_of}
use Rattle.change_history.specs.Key.{project_of}
use Rattle.tracker_machine.specs.Known.{project_keys, issues_of}
use Rattle.tracker_loading.proofs.ProjectKeys.{place_within, none_named, only_next}
use Rattle.tracker_loading.proofs.Truths.{refused}
use Rattle.tracker_loading.proofs.keys.project_of_next.Goals as goal

pub returns-in_default-clause-none : goal.returns-in_default-clause-none
returns-in_default-clause-none c =
    let setup : Parts = parts c.args.setup.now in
    let named : place_named (project_of c.args.key.now) (project_keys setup) ≡ option_map (λ (no : ProjectNo). no.0) c.project_named.result =
    sym (c.project_named.ensures ∙ ap (λ name. place_named name (project_keys setup)) c.project_of.ensures) in
    λ none next. none_named setup (histories_of c.args.issues.now.kept) c.args.key.now c.args.setup.now.sound
    (named ∙ ap (option_map (λ (no : ProjectNo). no.0)) c.in_default.is) next

pub returns-then-not-is_same-clause-none : goal.returns-then-not-is_same-clause-none
returns-then-not-is_same-clause-none c =
    let setup : Parts = parts c.args.setup.now in
    let hs : List History = histories_of c.args.issues.now.kept in
    let place : ℕ = c.in-Some.project.0 in
    let found : place_named (project_of c.args.key.now) (project_keys setup) ≡ Some place =
    sym (c.project_named.ensures ∙ ap (λ name. place_named name (project_keys setup)) c.project_of.ensures)
    ∙ ap (option_map (λ (no : ProjectNo). no.0)) c.in-Some.is in
    let told : c.as_str.result.now ≡ key_of (name_at (project_keys setup) place) (issues_of (name_at (project_keys setup) place) hs + 1) =
    c.as_str.ensures ∙ c.in_ok-next.ensures ∙ ap (λ p. key_of p c.next_number-number.result) c.project_key.ensures
    ∙ ap (key_of (name_at (project_keys setup) place)) c.next_number-number.ensures in
    λ none next. refused c.is_same.result c.if-not-is_same.true c.is_same.ensures
    (told ∙ sym (only_next setup hs c.args.key.now place c.args.setup.now.sound found next))

pub returns-clause-found : goal.returns-clause-found
returns-clause-found c =
    let setup : Parts = parts c.args.setup.now in
    let hs : List History = histories_of c.args.issues.now.kept in
    let place : ℕ = c.in-Some.project.0 in
    let found : place_named (project_of c.args.key.now) (project_keys setup) ≡ Some place =
    sym (c.project_named.ensures ∙ ap (λ name. place_named name (project_keys setup)) c.project_of.ensures)
    ∙ ap (option_map (λ (no : ProjectNo). no.0)) c.in-Some.is in
    let told : c.as_str.result.now ≡ key_of (name_at (project_keys setup) place) (issues_of (name_at (project_keys setup) place) hs + 1) =
    c.as_str.ensures ∙ c.in_ok-next.ensures ∙ ap (λ p. key_of p c.next_number-number.result) c.project_key.ensures
    ∙ ap (key_of (name_at (project_keys setup) place)) c.next_number-number.ensures in
    record {
      there = place_within setup (project_of c.args.key.now) place found;
      is = sym (c.is_same.ensures.0 c.if-not-is_same.false) ∙ told;
    }

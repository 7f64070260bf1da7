-- The project of the next issue's key.
use Rattle.std.proofs.Common.{◌≡◌, ℕ, ◌+◌, ◌<◌, true, List, length, Some, None, bytes_eq, refl, sym, ap, ◌∙◌, subst, arith}
use Rattle.std.proofs.lemmas.Bool.{eq-eqb}
use Rattle.std.proofs.lemmas.List.{length-map}
use Rattle.std.proofs.lemmas.Option.{none-some, same_Some}
use Rattle.std.proofs.lemmas.Slice.Eq.{bytes_eq-Decides}
use Rattle.field_values.specs.declared.parts.Project.{Project}
use Rattle.field_values.specs.Parts.{Parts}
use Rattle.field_forms.specs.Names.{place_named}
use Rattle.field_forms.proofs.Fits.{named_inside}
use Rattle.fields.specs.Sound.{IsSound}
use Rattle.fields.specs.Naming.{name_at, key_of}
use Rattle.fields.proofs.PlaceNames.{projects_are_found}
use Rattle.change_history.specs.History.{History}
use Rattle.change_history.specs.Key.{project_of}
use Rattle.tracker_machine.specs.Known.{project_keys, issues_of}
use Rattle.tracker_machine.specs.Tracker.{IsNextKey}
use Rattle.tracker_machine.proofs.Settled.{at_place}
use Rattle.tracker_issues.proofs.Projects.{only_project}
use Rattle.tracker_loading.specs.Rules.{IsKeyAt}

pub place_within : (setup : Parts) (name : List ℕ) (place : ℕ) → place_named name (project_keys setup) ≡ Some place → place < length setup.project
place_within setup name place found =
    let in' = named_inside (project_keys setup) name place found in
    omega (arith, in', length-map setup.project (λ (p : Project). p.key))

-- what stands before the hyphen of a project's key is found
key_found : (setup : Parts) (key : List ℕ) (place number : ℕ) → IsSound setup → place < length setup.project → key ≡ key_of (name_at (project_keys setup) place) number
    → place_named (project_of key) (project_keys setup) ≡ Some place
key_found setup key place number sound there is =
    let found = at_place setup.project place there in
    let own : bytes_eq (project_of (key_of (name_at (project_keys setup) place) number)) found.0.key ≡ true =
    only_project setup sound place number there place found.0 found.1 ∙ eq-eqb place place refl in
    let named : project_of key ≡ found.0.key =
    ap project_of is ∙ (bytes_eq-Decides (project_of (key_of (name_at (project_keys setup) place) number)) found.0.key).0 own in
    ap (λ name. place_named name (project_keys setup)) named ∙ projects_are_found setup place found.0 sound found.1

pub none_named : (setup : Parts) (histories : List History) (key : List ℕ) → IsSound setup → place_named (project_of key) (project_keys setup) ≡ None
    → ¬ (IsNextKey setup histories key)
none_named setup histories key sound none (place, there, is) =
    none-some place (sym none ∙ key_found setup key place (issues_of (name_at (project_keys setup) place) histories + 1) sound there is)

pub only_next : (setup : Parts) (histories : List History) (key : List ℕ) (place : ℕ) → IsSound setup → place_named (project_of key) (project_keys setup) ≡ Some place
    → IsNextKey setup histories key → key ≡ key_of (name_at (project_keys setup) place) (issues_of (name_at (project_keys setup) place) histories + 1)
only_next setup histories key place sound found (other, there, is) =
    let same : other ≡ place =
    same_Some other place (sym (key_found setup key other (issues_of (name_at (project_keys setup) other) histories + 1) sound there is) ∙ found) in
    subst (λ k. key ≡ key_of (name_at (project_keys setup) k) (issues_of (name_at (project_keys setup) k) histories + 1)) same is

pub next_from : (setup : Parts) (histories : List History) (key : List ℕ) (place : ℕ) → IsKeyAt setup histories key place → IsNextKey setup histories key
next_from setup histories key place is = (place, is.there, is.is)

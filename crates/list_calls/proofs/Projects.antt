-- Who may browse the issue at a place, what a table of projects tells of that, and what is found by it.
use Rattle.std.proofs.Common.{◌≡◌, ℕ, ◌+◌, ◌<◌, ◌&&◌, Bool, false, List, [], ◌∷◌, ◌++◌, length, map, take, slice_get, Option, Some, None, unwrap_or, option_map, IfSome, refl, sym, ap, ap₂, ◌∙◌}
use Rattle.std.specs.Prelude.{filter, option_and_then}
use Rattle.std.specs.List.{list_any}
use Rattle.std.proofs.lemmas.List.{map-append, take_more}
use Rattle.std.proofs.lemmas.Option.{slice_get-map, get_or_from_slice_get}
use Rattle.field_values.specs.declared.parts.Project.{Project}
use Rattle.field_values.specs.declared.rules.Permission.TheVariants.{Browse}
use Rattle.field_values.specs.GroupMembers.{has_member}
use Rattle.field_values.specs.Parts.{Parts}
use Rattle.fields.specs.SetupParts.{may, groups_in}
use Rattle.change_history.specs.History.{History}
use Rattle.workflow.specs.Conditions.{project_number}
use Rattle.jql_bound.specs.Condition.{Condition}
use Rattle.jql_meaning.specs.Truth.{query_holds}
use Rattle.tracker_machine.specs.Machine.{Machine}
use Rattle.tracker_machine.specs.Search.{found, surroundings_in}
use Rattle.tracker_machine.proofs.Settled.{at_place}
use Rattle.list_calls.specs.Browsing.{allows, browsable, is_found_by}

-- what may be done in the project of the issue at a place
pub may_at : (setup : Parts) (user : ℕ) (o : Option History) (project : Option ℕ) (b : Bool) → b ≡ may setup user Browse project
    → project ≡ option_and_then (project_number setup) o → IfSome o (λ h. b ≡ may setup user Browse (project_number setup h))
may_at setup user None project b is own = tt
may_at setup user (Some h) project b is own = is ∙ ap (may setup user Browse) own

told_of : (setup : Parts) (user : ℕ) (o : Option Project) → unwrap_or (option_map (λ p. list_any (has_member setup.group user) p.browse) o) false
    ≡ list_any (has_member setup.group user) (groups_in Browse o)
told_of setup user None = refl
told_of setup user (Some project) = refl

-- the table tells of each project whether the user may browse it
pub table_tells : (setup : Parts) (user place : ℕ) → unwrap_or (slice_get (browsable setup user) place) false ≡ may setup user Browse (Some place)
table_tells setup user place =
    ap (λ (o : Option Bool). unwrap_or o false) (slice_get-map (λ (p : Project). list_any (has_member setup.group user) p.browse) setup.project place)
    ∙ told_of setup user (slice_get setup.project place)

-- so what is found by the table is what the user finds
pub found_by : (m : Machine) (user : ℕ) (condition : Option Condition) (table : List Bool) → table ≡ browsable m.setup user
    → filter (is_found_by m table condition) m.histories ≡ found m user condition
unfolding found
found_by m user condition table is = λ i. filter (λ h. allowed h i && query_holds (surroundings_in m.setup m.sprints) h m.moment condition) m.histories where
  by_project : (project : Option ℕ) → allows (browsable m.setup user) project ≡ may m.setup user Browse project
  by_project None = refl
  by_project (Some place) = table_tells m.setup user place

  allowed : (h : History) → allows table (project_number m.setup h) ≡ may m.setup user Browse (project_number m.setup h)
  allowed h = ap (λ (t : List Bool). allows t (project_number m.setup h)) is ∙ by_project (project_number m.setup h)

-- one project more in the table
pub table_more : (setup : Parts) (user place : ℕ) (table : List Bool) (b : Bool) → place < length setup.project
    → table ≡ map (λ p. list_any (has_member setup.group user) p.browse) (take place setup.project) → b ≡ may setup user Browse (Some place)
    → table ++ b ∷ [] ≡ map (λ p. list_any (has_member setup.group user) p.browse) (take (place + 1) setup.project)
table_more setup user place table b in' is told =
    let ps = setup.project in
    let f : Project → Bool = λ p. list_any (has_member setup.group user) p.browse in
    let found = at_place ps place in' in
    let p = found.0 in
    let more : take (place + 1) ps ≡ take place ps ++ p ∷ [] =
    take_more ps place p in' ∙ ap (λ (q : Project). take place ps ++ q ∷ []) (get_or_from_slice_get ps place p p found.1) in
    ap₂ (λ (bs : List Bool) (b : Bool). bs ++ b ∷ []) is (told ∙ ap (λ (o : Option Project). list_any (has_member setup.group user) (groups_in Browse o)) found.1)
    ∙ sym (map-append f (take place ps) (p ∷ [])) ∙ ap (map f) (sym more)

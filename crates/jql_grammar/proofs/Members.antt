-- Setups that differ in the members of groups alone.
use Rattle.std.proofs.Common.{◌≡◌, List, [], ◌∷◌, map, Option, refl, ap, sym, ◌∙◌}
use Rattle.field_values.specs.declared.numbers.UserNo.{UserNo}
use Rattle.field_values.specs.declared.parts.Group.{Group}
use Rattle.field_values.specs.Parts.{Parts}
use Rattle.field_forms.specs.Known.{Names}
use Rattle.jql_syntax.specs.Tree.{Tree}
use Rattle.jql_syntax.specs.declared.query.SortKey.{SortKey}
use Rattle.jql_grammar.specs.Scope.{Scope, scope_by}
use Rattle.jql_grammar.specs.Binding.{bound_in}
use Rattle.jql_grammar.specs.Laws.{emptied, without_members}

-- groups keep their names without members
same_names : (groups : List Group) → map (λ g. g.name) (map emptied groups) ≡ map (λ g. g.name) groups
same_names [] = refl
same_names (g ∷ groups) = ap (λ names. g.name ∷ names) (same_names groups)

same_scope : (setup : Parts) (caller : UserNo) → scope_by (without_members setup) caller ≡ scope_by setup caller
same_scope setup caller = λ i.
    let scope : Scope = scope_by setup caller in
    let names : Names = scope.names in
    let other : Scope = record scope { names = record names { groups = same_names setup.group i } } in
    other

pub binds_without_members : (one other : Parts) (caller : UserNo) (q : Option Tree) (keys : List SortKey) → without_members one ≡ without_members other → bound_in (scope_by one caller) q keys ≡ bound_in (scope_by other caller) q keys
binds_without_members one other caller q keys same =
    ap (λ scope. bound_in scope q keys) (sym (same_scope one caller) ∙ ap (λ setup. scope_by setup caller) same ∙ same_scope other caller)

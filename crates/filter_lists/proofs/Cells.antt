-- What a cell and permissions say of an issue.
use Rattle.std.proofs.Common.{◌≡◌, ℕ, zero, suc, ◌+◌, ◌-◌, ◌==◌, Bool, true, false, ◌&&◌, List, slice_get, Option, Some, None, IfSome, if◌then◌else◌, refl, sym, ◌∙◌, ap, subst, arith}
use Rattle.std.proofs.lemmas.Bool.Decides.{nat_tests}
use Rattle.field_values.specs.declared.rules.Permission.TheVariants.{Browse}
use Rattle.fields.specs.SetupParts.{may}
use Rattle.change_history.specs.History.{History}
use Rattle.workflow.specs.Conditions.{project_number}
use Rattle.jql_meaning.specs.Surroundings.{Surroundings, numbered}
use Rattle.jql_meaning.specs.Truth.{query_holds}
use Rattle.rising_numbers.specs.ByNumber.{by_number}
use Rattle.tracker_filters.specs.declared.filter.Filter.{Filter}
use Rattle.tracker_filters.specs.Saved.{condition_of, number}
use Rattle.tracker_filters.specs.Watched.{WatchedFilters}
use Rattle.tracker_machine.specs.Machine.{Machine}
use Rattle.tracker_machine.specs.Query.{Query}
use Rattle.tracker_machine.specs.Filters.{is_shown}
use Rattle.tracker_machine.specs.Search.{surroundings_in}
use Rattle.tracker_state.specs.State.{HaveSeen, IsBound, saved_as}
use Rattle.list_calls.proofs.Shown.{query_is}

-- the cell that was read tells whether the filter holds now
pub cell_tells : (m : Machine) (w : WatchedFilters) (f : Filter) (place : ℕ) (r : Bool) → HaveSeen m w → by_number number f.no.0 w.filters ≡ Some f
    → IfSome (by_number number f.no.0 w.filters) (λ g. IfSome (numbered w.histories (place + 1)) (λ h. r ≡ query_holds w.around h w.moment (condition_of g)))
    → IfSome (slice_get m.histories place) (λ h. r ≡ query_holds (surroundings_in m.setup m.sprints) h m.moment (condition_of f))
cell_tells m w f place r seen there told =
    let one : IfSome (numbered w.histories (place + 1)) (λ h. r ≡ query_holds w.around h w.moment (condition_of f)) =
    subst (λ o. IfSome o (λ g. IfSome (numbered w.histories (place + 1)) (λ h. r ≡ query_holds w.around h w.moment (condition_of g)))) there told in
    let some : (place + 1 == 0) ≡ false = grind (arith, nat_tests) in
    let at : numbered w.histories (place + 1) ≡ slice_get m.histories place =
    ap (λ t. if t then None else slice_get w.histories (place + 1 - 1)) some ∙ (ap (slice_get w.histories) (omega arith) ∙ ap (λ hs. slice_get hs place) seen.histories) in
    subst (λ (around : Surroundings). IfSome (slice_get m.histories place) (λ h. r ≡ query_holds around h m.moment (condition_of f))) seen.around
    (subst (λ moment. IfSome (slice_get m.histories place) (λ h. r ≡ query_holds w.around h moment (condition_of f))) seen.moment
    (subst (λ o. IfSome o (λ h. r ≡ query_holds w.around h w.moment (condition_of f))) at one))

shown_where : (a b c : Bool) → (c && (a && b)) ≡ (a && (b && c))
shown_where true true true = refl
shown_where true true false = refl
shown_where true false true = refl
shown_where true false false = refl
shown_where false b true = refl
shown_where false b false = refl

-- the filter shows the issue where it holds, and both may browse it
pub shown_from : (m : Machine) (user : ℕ) (f : Filter) (o : Option History) (held both : Bool) → IsBound m.setup f
    → IfSome o (λ h. held ≡ query_holds (surroundings_in m.setup m.sprints) h m.moment (condition_of f))
    → IfSome o (λ h. both ≡ (may m.setup f.owner.0 Browse (project_number m.setup h) && may m.setup user Browse (project_number m.setup h)))
    → IfSome o (λ h. (held && both) ≡ is_shown m user (saved_as f) h)
shown_from m user f None held both bound holds may_both = tt
shown_from m user f (Some h) held both bound holds may_both =
    let one = may m.setup f.owner.0 Browse (project_number m.setup h) in
    let other = may m.setup user Browse (project_number m.setup h) in
    ap (λ b. b && both) holds ∙ (ap (λ b. query_holds (surroundings_in m.setup m.sprints) h m.moment (condition_of f) && b) may_both
    ∙ (shown_where one other (query_holds (surroundings_in m.setup m.sprints) h m.moment (condition_of f))
    ∙ ap (λ (q : Query). one && (other && query_holds (surroundings_in m.setup m.sprints) h m.moment q.condition)) (sym (query_is m.setup f bound))))

pub none_shown : (m : Machine) (user : ℕ) (f : Filter) (o : Option History) (held : Bool) → IsBound m.setup f → held ≡ false
    → IfSome o (λ h. held ≡ query_holds (surroundings_in m.setup m.sprints) h m.moment (condition_of f))
    → IfSome o (λ h. false ≡ is_shown m user (saved_as f) h)
none_shown m user f None held bound never holds = tt
none_shown m user f (Some h) held bound never holds =
    let one = may m.setup f.owner.0 Browse (project_number m.setup h) in
    let other = may m.setup user Browse (project_number m.setup h) in
    ap (λ b. b && (one && other)) (sym never ∙ holds)
    ∙ (shown_where one other (query_holds (surroundings_in m.setup m.sprints) h m.moment (condition_of f))
    ∙ ap (λ (q : Query). one && (other && query_holds (surroundings_in m.setup m.sprints) h m.moment q.condition)) (sym (query_is m.setup f bound)))

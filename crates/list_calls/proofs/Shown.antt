-- The issues that a saved filter shows, read from its cells.
use Rattle.std.proofs.Common.{◌≡◌, ℕ, ◌+◌, ◌-◌, ◌&&◌, Bool, true, false, List, [], ◌∷◌, ◌++◌, length, slice_get, Option, Some, None, refl, sym, ap, ◌∙◌, subst, append_assoc, length-append, arith}
use Rattle.std.specs.Prelude.{filter, option_and_then, if◌then◌else◌}
use Rattle.std.specs.List.{All, filter_map, cons_option}
use Rattle.std.proofs.lemmas.Option.{slice_get_within, get_or_from_slice_get}
use Rattle.field_values.specs.declared.numbers.IssueNo.{IssueNo}
use Rattle.field_values.specs.declared.rules.Permission.TheVariants.{Browse}
use Rattle.field_values.specs.Parts.{Parts}
use Rattle.fields.specs.SetupParts.{may}
use Rattle.change_history.specs.History.{History}
use Rattle.workflow.specs.Conditions.{project_number}
use Rattle.jql_bound.specs.Condition.{Condition}
use Rattle.jql_meaning.specs.Surroundings.{Surroundings}
use Rattle.jql_meaning.specs.Truth.{query_holds}
use Rattle.rising_numbers.specs.ByNumber.{by_number}
use Rattle.rising_numbers.proofs.Placed.{found_at}
use Rattle.tracker_filters.specs.declared.filter.Filter.{Filter}
use Rattle.tracker_filters.specs.Saved.{number, condition_of}
use Rattle.tracker_filters.specs.Watched.{WatchedFilters, holders_from}
use Rattle.tracker_machine.specs.Machine.{Machine}
use Rattle.tracker_machine.specs.Query.{Query}
use Rattle.tracker_machine.specs.Saved.{query_in, saved_query}
use Rattle.tracker_machine.specs.Search.{surroundings_in}
use Rattle.tracker_machine.specs.Filters.{shown}
use Rattle.tracker_state.specs.State.{query_of, saved_as, HaveSeen, IsBound}
use Rattle.list_calls.specs.Found.{browsed}

-- ---- what a filter asks for

-- each filter asks for what its text asks for
pub bound_at : (setup : Parts) (n : ℕ) (f : Filter) (fs : List Filter) → All (IsBound setup) fs → by_number number n fs ≡ Some f → IsBound setup f
bound_at setup n f fs bound found =
    let at = found_at number n f fs found in
    subst (IsBound setup) (get_or_from_slice_get fs at.0 f f at.1) (bound at.0 f (slice_get_within fs at.0 f at.1))

pub query_is : (setup : Parts) (f : Filter) → IsBound setup f → saved_query setup (saved_as f) ≡ query_of f.query
query_is setup f is = ap query_in is

-- ---- the issues of which it holds

get_behind : (before : List History) (h : History) (hs : List History) → slice_get (before ++ h ∷ hs) (length before) ≡ Some h
get_behind [] h hs = refl
get_behind (g ∷ before) h hs = get_behind before h hs

module _ (one other : History → Bool) (all : List History) where
  abbrev picked : History → Option History
  picked h = if one h && other h then Some h else None

  abbrev numbered : IssueNo → Option History
  numbered number = option_and_then picked (slice_get all (number.0 - 1))

  step : (h : History) (n : IssueNo) (ns : List IssueNo) (hs : List History) (holds first second : Bool) → numbered n ≡ (if first && second then Some h else None) → filter_map numbered ns ≡ hs
      → filter_map numbered (if holds then n ∷ ns else ns) ≡ (if first && (second && holds) then h ∷ hs else hs)
  step h n ns hs true true true here rest = ap (λ o. cons_option o (filter_map numbered ns)) here ∙ ap (λ gs. h ∷ gs) rest
  step h n ns hs true true false here rest = ap (λ o. cons_option o (filter_map numbered ns)) here ∙ rest
  step h n ns hs true false second here rest = ap (λ o. cons_option o (filter_map numbered ns)) here ∙ rest
  step h n ns hs false true true here rest = rest
  step h n ns hs false true false here rest = rest
  step h n ns hs false false second here rest = rest

  holders_picked : (around : Surroundings) (moment : ℕ) (query : Option Condition) (n : ℕ) (before hs : List History) → all ≡ before ++ hs → n ≡ length before + 1
      → filter_map numbered (holders_from n around moment query hs) ≡ filter (λ h. one h && (other h && query_holds around h moment query)) hs
  holders_picked around moment query n before [] is many = refl
  holders_picked around moment query n before (h ∷ hs) is many =
      let place : n - 1 ≡ length before = omega (arith, many) in
      let at : slice_get all (n - 1) ≡ Some h = ap (slice_get all) place ∙ ap (λ gs. slice_get gs (length before)) is ∙ get_behind before h hs in
      let rest = holders_picked around moment query (n + 1) (before ++ h ∷ []) hs (is ∙ sym (append_assoc before (h ∷ []) hs)) (omega (arith, many, length-append before (h ∷ []))) in
      step h (record { 0 = n }) (holders_from (n + 1) around moment query hs) _ (query_holds around h moment query) (one h) (other h) (ap (option_and_then picked) at) rest

pub shown_is : (m : Machine) (w : WatchedFilters) (caller : ℕ) (f : Filter) → HaveSeen m w → IsBound m.setup f
    → filter_map (browsed m f.owner.0 caller) (holders_from 1 w.around w.moment (condition_of f) w.histories) ≡ shown m caller (saved_as f)
unfolding shown
shown_is m w caller f seen bound =
    let owner_may : History → Bool = λ h. may m.setup f.owner.0 Browse (project_number m.setup h) in
    let caller_may : History → Bool = λ h. may m.setup caller Browse (project_number m.setup h) in
    let from = filter_map (browsed m f.owner.0 caller) in
    ap (λ hs. from (holders_from 1 w.around w.moment (condition_of f) hs)) seen.histories
    ∙ ap (λ (around : Surroundings). from (holders_from 1 around w.moment (condition_of f) m.histories)) seen.around
    ∙ ap (λ moment. from (holders_from 1 (surroundings_in m.setup m.sprints) moment (condition_of f) m.histories)) seen.moment
    ∙ holders_picked owner_may caller_may m.histories (surroundings_in m.setup m.sprints) m.moment (condition_of f) 1 [] m.histories refl refl
    ∙ ap (λ (q : Query). filter (λ h. owner_may h && (caller_may h && query_holds (surroundings_in m.setup m.sprints) h m.moment q.condition)) m.histories) (sym (query_is m.setup f bound))

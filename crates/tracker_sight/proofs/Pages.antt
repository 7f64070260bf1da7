-- Calls that tell what there is tell nothing of others' filters.
use Rattle.std.proofs.Common.{◌≡◌, ℕ, true, List, map, length, Option, Result, Ok, Err, refl, sym, ◌∙◌, ap, ap₂}
use Rattle.std.proofs.lemmas.Bool.{true≢false}
use Rattle.field_values.specs.Parts.{Parts}
use Rattle.tracker_calls.specs.Part.{part_of}
use Rattle.tracker_calls.specs.declared.call.Call.{Call}
use Rattle.tracker_calls.specs.declared.call.Call.TheVariants as call
use Rattle.tracker_calls.specs.declared.call.Part.{Part}
use Rattle.tracker_calls.specs.declared.cause.Cause.{Cause}
use Rattle.tracker_calls.specs.declared.reply.Answer.TheVariants as answer
use Rattle.tracker_machine.specs.Machine.{Machine}
use Rattle.tracker_machine.specs.Known.{known_place}
use Rattle.tracker_machine.specs.Checks.{caller_refusal}
use Rattle.tracker_machine.specs.IssueList.{fields_refusal, wanted_fields, issues_listed, list_meaning}
use Rattle.tracker_machine.specs.Meaning.{Meaning, unless}
use Rattle.tracker_machine.specs.Meaning.Meaning.{Tells}
use Rattle.tracker_machine.specs.Overviews.{told_filter, filters_told}
use Rattle.tracker_machine.specs.Query.{Query, asked}
use Rattle.tracker_machine.specs.Saved.{SavedFilter}
use Rattle.tracker_machine.specs.Search.{found, listed}
use Rattle.tracker_machine.specs.Step.{meaning, meaning_for, form_refusal, user_of}
use Rattle.tracker_sight.specs.Confidentiality.{tells_of_the_seen, tells_what_there_is, SeemAlikeButFilters, PagesTellOfTheSeen}
use Rattle.tracker_sight.proofs.Told.{answers_tell_of_the_seen}

module _ (m other : Machine) (caller : List ℕ) (a : SeemAlikeButFilters (user_of m caller) m other) where
  -- with the first one's filters
  abbrev filtered : Machine
  filtered = record other { filters = m.filters }

  same_user : user_of other caller ≡ user_of m caller
  same_user = ap (λ (s : Parts). known_place caller s.users) a.rest.setup

  same_filters : filters_told other (user_of other caller) ≡ filters_told m (user_of m caller)
  same_filters = ap (filters_told other) same_user ∙ a.told

  -- a part of these filters, in a tracker of this setup
  abbrev filters_in : Part → Parts → List SavedFilter → Meaning
  filters_in part s fs =
      unless (form_refusal (call.Filters part)) (unless (caller_refusal (record m { setup = s }) caller)
      (Tells (answer.Filters (map (told_filter s.users) (part_of part fs)) (length fs))))

  filters_same : (part : Part) → meaning other caller (call.Filters part) ≡ meaning m caller (call.Filters part)
  unfolding meaning meaning_for
  filters_same part = ap₂ (filters_in part) a.rest.setup same_filters

  -- the others don't look at filters
  listed_aside : (user : ℕ) (numbers : List ℕ) (part : Part) (query : Result Query Cause) → issues_listed other user numbers part query ≡ issues_listed filtered user numbers part query
  unfolding found listed
  listed_aside user numbers part (Err r) = refl
  listed_aside user numbers part (Ok query) = refl

  list_aside : (jql : List ℕ) (fields : Option (List (List ℕ))) (part : Part) → meaning other caller (call.List jql fields part) ≡ meaning filtered caller (call.List jql fields part)
  unfolding meaning meaning_for list_meaning
  list_aside jql fields part =
      let user : ℕ = user_of other caller in
      ap (λ (due : Meaning). unless (form_refusal (call.List jql fields part)) (unless (caller_refusal other caller) (unless (fields_refusal other.setup.field fields) due)))
      (listed_aside user (wanted_fields other.setup.field fields) part (asked other.setup user jql))

  filters_aside : (c : Call) → tells_what_there_is c ≡ true → meaning filtered caller c ≡ meaning m caller c → meaning other caller c ≡ meaning m caller c
  unfolding meaning meaning_for
  filters_aside (call.List jql fields part) is same = list_aside jql fields part ∙ same
  filters_aside (call.Filters part) is same = filters_same part
  filters_aside (call.Boards part) is same = same
  filters_aside (call.Sprints part) is same = same
  filters_aside call.Describe is same = same
  filters_aside _ is same = absurd (true≢false (sym is))

  seen_too : (c : Call) → tells_what_there_is c ≡ true → tells_of_the_seen c ≡ true
  seen_too (call.List jql fields part) is = refl
  seen_too (call.Filters part) is = refl
  seen_too (call.Boards part) is = refl
  seen_too (call.Sprints part) is = refl
  seen_too call.Describe is = refl
  seen_too _ is = absurd (true≢false (sym is))

pub pages_tell_of_the_seen : PagesTellOfTheSeen
pages_tell_of_the_seen m other caller c a is =
    filters_aside m other caller a c is (answers_tell_of_the_seen m (filtered m other caller a) caller c a.rest (seen_too m other caller a c is))

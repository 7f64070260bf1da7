-- Saved filters.
use Rattle.std.specs.Prelude.{ℕ, ◌≡◌, ◌≤◌, ◌<◌, ◌==◌, ◌&&◌, Bool, List, [], ◌∷◌, length, Option, Some, None, option_map, IfSome, if◌then◌else◌}
use Rattle.std.specs.Str.{bytes_eq}
use Rattle.field_values.specs.declared.numbers.UserNo.{UserNo}
use Rattle.jql_bound.specs.Condition.{Condition, view}
use Rattle.tracker_filters.specs.declared.filter.Filter.{Filter}
use Rattle.rising_numbers.specs.ByNumber.{RiseFrom, by_number}
use Rattle.tracker_limits.specs.Limits.{most_filters}

-- the condition of a filter; one without a condition holds of every issue
abbrev pub condition_of : Filter → Option Condition
condition_of f = option_map view f.query.cond

abbrev pub number : Filter → ℕ
number f = f.no.0

-- the filter is this user's, by this name
abbrev pub is_named : UserNo → List ℕ → Filter → Bool
is_named owner name f = f.owner.0 == owner.0 && bytes_eq f.name name

-- the user's filter of a name, if there is one
abbrev pub by_owner : UserNo → List ℕ → List Filter → Option Filter
by_owner owner name [] = None
by_owner owner name (f ∷ fs) = if is_named owner name f then Some f else by_owner owner name fs

-- no user has two filters of one name
abbrev pub HaveOwnNames : List Filter → Type 0
HaveOwnNames [] = Unit {0}
HaveOwnNames (f ∷ fs) = (by_owner f.owner f.name fs ≡ None) × HaveOwnNames fs

-- the filters of a tracker: their numbers rise from 1 on, no user has two of one name, and there are not too many
pub record AreSaved (fs : List Filter) : Type 0 where
  pub rising : RiseFrom number 1 fs
  pub names : HaveOwnNames fs
  pub few : length fs ≤ most_filters

-- the filter may come, or take the place of the one of its number: no other one of its owner has its name, and where it comes there
-- are not too many
pub record MayPut (fs : List Filter) (f : Filter) : Type 0 where
  pub positive : 0 < f.no.0
  pub alone : IfSome (by_owner f.owner f.name fs) (λ g. g.no.0 ≡ f.no.0)
  pub few : by_number number f.no.0 fs ≡ None → length fs < most_filters

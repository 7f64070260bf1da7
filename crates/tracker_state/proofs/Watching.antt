-- Saved filters as the abstract tracker has them, beside the filters with their verdicts.
use Rattle.std.proofs.Common.{◌≡◌, ◌≢◌, ℕ, Bool, true, false, List, [], ◌∷◌, Option, Some, None, IfSome, option_map, refl, sym, ◌∙◌, subst, arith}
use Rattle.std.specs.Prelude.{if◌then◌else◌}
use Rattle.std.proofs.lemmas.List.{length-map}
use Rattle.field_values.specs.declared.numbers.UserNo.{UserNo}
use Rattle.field_values.specs.Parts.{Parts}
use Rattle.rising_numbers.specs.ByNumber.{by_number, put_by_number, without_number}
use Rattle.rising_numbers.proofs.Mapped.{by_number-map, put_by_number-map, without_number-map}
use Rattle.tracker_filters.specs.declared.filter.Filter.{Filter}
use Rattle.tracker_filters.specs.Saved.{number, is_named, by_owner, MayPut}
use Rattle.tracker_machine.specs.Saved.{SavedFilter, filter_number, filter_named, MaySave}
use Rattle.tracker_state.specs.State.{saved_as, saved_filters}

-- the one of a number is found in both
pub by_number-saved : (n : ℕ) (fs : List Filter) → by_number filter_number n (saved_filters fs) ≡ option_map saved_as (by_number number n fs)
by_number-saved n fs = by_number-map saved_as filter_number n fs

-- so is the one of a user and a name
pub filter_named-saved : (owner : UserNo) (name : List ℕ) (fs : List Filter) → filter_named owner name (saved_filters fs) ≡ option_map saved_as (by_owner owner name fs)
filter_named-saved owner name [] = refl
filter_named-saved owner name (f ∷ fs) = by (is_named owner name f) (filter_named-saved owner name fs)
  where
    by : (b : Bool) → filter_named owner name (saved_filters fs) ≡ option_map saved_as (by_owner owner name fs)
        → (if b then Some (saved_as f) else filter_named owner name (saved_filters fs)) ≡ option_map saved_as (if b then Some f else by_owner owner name fs)
    by true rest = refl
    by false rest = rest

-- what is missing here is missing there
pub missed_in_both : (n : ℕ) (fs : List Filter) → by_number number n fs ≡ None → by_number filter_number n (saved_filters fs) ≡ None
missed_in_both n fs none = by_number-saved n fs ∙ subst (λ o. option_map saved_as o ≡ None) (sym none) refl

pub there_in_both : (n : ℕ) (fs : List Filter) → by_number filter_number n (saved_filters fs) ≢ None → by_number number n fs ≢ None
there_in_both n fs there none = there (missed_in_both n fs none)

-- one comes and one goes in both
pub put_by_number-saved : (f : Filter) (fs : List Filter) → put_by_number filter_number (saved_as f) (saved_filters fs) ≡ saved_filters (put_by_number number f fs)
put_by_number-saved f fs = put_by_number-map saved_as filter_number f fs

pub without_number-saved : (n : ℕ) (fs : List Filter) → without_number filter_number n (saved_filters fs) ≡ saved_filters (without_number number n fs)
without_number-saved n fs = without_number-map saved_as filter_number n fs

if_saved : (o : Option Filter) (P : SavedFilter → Type 0) → IfSome (option_map saved_as o) P → IfSome o (λ f. P (saved_as f))
if_saved None P holds = tt
if_saved (Some f) P holds = holds

-- what the abstract tracker may save may be put in
pub may_put : (setup : Parts) (fs : List Filter) (f : Filter) → MaySave setup (saved_filters fs) (saved_as f) → MayPut fs f
may_put setup fs f may = record {
  positive = may.positive;
  alone = if_saved (by_owner f.owner f.name fs) (λ g. g.no.0 ≡ f.no.0)
      (subst (λ o. IfSome o (λ g. g.no.0 ≡ f.no.0)) (filter_named-saved f.owner f.name fs) may.alone);
  few = λ none. let few = may.few (missed_in_both f.no.0 fs none) in omega (arith, few, length-map fs saved_as);
}

-- Filters that are saved.
use Rattle.std.proofs.Common.{◌≡◌, ◌<◌, ◌≤◌, ◌^◌, ◌||◌, ℕ, suc, Bool, true, false, List, [], ◌∷◌, length, nat_lt, slice_get, option_map, Option, Some, None, IfSome, refl, sym, ap, ◌∙◌, subst, arith}
use Rattle.std.specs.Prelude.{if◌then◌else◌, Ok}
use Rattle.std.specs.List.{All}
use Rattle.std.specs.Option.{is_some, option_map_or}
use Rattle.std.proofs.lemmas.Option.{none-some, slice_get-map, slice_get_within, get_or_from_slice_get}
use Rattle.field_values.specs.declared.numbers.FilterNo.{FilterNo}
use Rattle.field_values.specs.declared.numbers.UserNo.{UserNo}
use Rattle.field_values.specs.Parts.{Parts}
use Rattle.field_forms.specs.Names.{is_title}
use Rattle.rising_numbers.specs.ByNumber.{RiseFrom, by_number, free_from}
use Rattle.rising_numbers.specs.Places.{StandsAt}
use Rattle.rising_numbers.proofs.Free.{free_above, free_below}
use Rattle.rising_numbers.proofs.ByNumber.{above}
use Rattle.rising_numbers.proofs.Placed.{by_place}
use Rattle.tracker_limits.specs.Limits.{most_filters}
use Rattle.tracker_calls.specs.declared.cause.Cause.TheVariants as cause
use Rattle.tracker_calls.specs.declared.cause.Limit.TheVariants as limit
use Rattle.tracker_machine.specs.Machine.{Machine}
use Rattle.tracker_machine.specs.Query.{Query, asked}
use Rattle.tracker_machine.specs.Saved.{SavedFilter, filter_number, is_named, filter_named, IsFilter, MaySave}
use Rattle.tracker_machine.specs.Checks.{only_if}
use Rattle.tracker_machine.specs.Tracker.{IsTracker}
use Rattle.tracker_machine.specs.Effect.Effect.{NewFilter}
use Rattle.tracker_machine.specs.Filters.{filters_refusal, filter_for, is_kept, save_answer, saved, save_filter_meaning}
use Rattle.tracker_machine.specs.Meaning.Meaning.{Makes, Finds}
use Rattle.tracker_state.specs.Plan.{cost_to_prepare}
use Rattle.tracker_state.proofs.Checked.{few_passes, unrefused}

-- ---- a filter that may be saved

-- the one of a name stands somewhere
abbrev StandsIn : List SavedFilter → SavedFilter → Type 0
StandsIn fs g = (k : ℕ) × (slice_get fs k ≡ Some g)

named_at : (owner : UserNo) (name : List ℕ) (fs : List SavedFilter) (g : SavedFilter) → filter_named owner name fs ≡ Some g → StandsIn fs g
named_at owner name [] g is = absurd (none-some g is)
named_at owner name (f ∷ fs) g is = by (is_named owner name f) (named_at owner name fs g) is
  where
    by : (b : Bool) → (filter_named owner name fs ≡ Some g → StandsIn fs g) → (if b then Some f else filter_named owner name fs) ≡ Some g → StandsIn (f ∷ fs) g
    by true rest e = (0, e)
    by false rest e = let at = rest e in (suc at.0, at.1)

module _ (setup : Parts) (fs : List SavedFilter) (owner : UserNo) (name text : List ℕ) (query : Query)
    (rising : RiseFrom filter_number 1 fs) (few : length fs ≤ most_filters) (each : All (IsFilter setup) fs)
    (owned : owner.0 < length setup.users) (titled : is_title name ≡ true) (asks : asked setup owner.0 text ≡ Ok query) where
  abbrev filter_of : FilterNo → SavedFilter
  filter_of n = record { no = n; owner = owner; name = name; text = text }

  is_filter : (n : FilterNo) → n.0 < 2 ^ 32 → IsFilter setup (filter_of n)
  is_filter n small = record { small = small; owned = owned; named = titled; query = query; asks = asks }

  may_save_as : (o : Option SavedFilter) → filter_named owner name fs ≡ o → only_if (is_some o || nat_lt (length fs) most_filters) (cause.Limit limit.Filters) ≡ None
      → MaySave setup fs (filter_of (option_map_or (λ f. f.no) o (record { 0 = free_from filter_number 1 fs })))
  may_save_as None none room =
      let least = free_above filter_number 1 fs in
      let most = free_below filter_number 1 fs in
      let less = few_passes (length fs) most_filters (cause.Limit limit.Filters) room in
      record {
        positive = omega (arith, least);
        filter = is_filter (record { 0 = free_from filter_number 1 fs }) (omega (arith, most, few));
        alone = subst (λ o. IfSome o (λ g. g.no.0 ≡ free_from filter_number 1 fs)) (sym none) tt;
        few = λ free. less;
      }
  may_save_as (Some g) is room =
      let at = named_at owner name fs g is in
      let stands : StandsAt filter_number fs g.no.0 at.0 = slice_get-map filter_number fs at.0 ∙ ap (λ o. option_map filter_number o) at.1 in
      let own : IsFilter setup g = subst (IsFilter setup) (get_or_from_slice_get fs at.0 g g at.1) (each at.0 g (slice_get_within fs at.0 g at.1)) in
      let there : by_number filter_number g.no.0 fs ≡ Some g = by_place filter_number 1 g.no.0 at.0 fs rising stands ∙ at.1 in
      record {
        positive = above filter_number 1 g.no.0 g fs rising there;
        filter = is_filter g.no own.small;
        alone = subst (λ o. IfSome o (λ h. h.no.0 ≡ g.no.0)) (sym is) refl;
        few = λ free. absurd (none-some g (sym free ∙ there));
      }

-- the caller's filter of a name may be saved where it isn't refused
pub may_save : (m : Machine) (caller : ℕ) (name text : List ℕ) (query : Query) → IsTracker m → caller < length m.setup.users → is_title name ≡ true → asked m.setup caller text ≡ Ok query
    → filters_refusal m caller name ≡ None → MaySave m.setup m.filters (filter_for m caller name text)
may_save m caller name text query is owned titled asks room =
    may_save_as m.setup m.filters (record { 0 = caller }) name text query is.saved.rising is.saved.few is.saved.each owned titled asks
    (filter_named (record { 0 = caller }) name m.filters) refl room

-- ---- what it means

pub save_means : (m : Machine) (caller : ℕ) (name text : List ℕ) (query : Query) → filters_refusal m caller name ≡ None → asked m.setup caller text ≡ Ok query
    → save_filter_meaning m caller name text ≡ saved m caller name text (Ok query)
unfolding save_filter_meaning
save_means m caller name text query none asks = unrefused (filters_refusal m caller name) _ none ∙ ap (saved m caller name text) asks

-- and each issue is asked once
pub saved_cost : (m : Machine) (caller : ℕ) (name text : List ℕ) (query : Query) → cost_to_prepare (saved m caller name text (Ok query)) m ≡ length m.histories
saved_cost m caller name text query = by (is_kept m caller name text)
  where
    by : (b : Bool) → cost_to_prepare (if b then Finds (save_answer m caller name query) else Makes (save_answer m caller name query) (NewFilter (filter_for m caller name text))) m ≡ length m.histories
    by true = refl
    by false = refl

-- Filters that are put in by their numbers, one behind the other.
use Rattle.std.proofs.Common.{◌≡◌, ℕ, ◌+◌, ◌==◌, Bool, true, false, Some, None, IfSome, List, [], ◌∷◌, ◌++◌, length, take, slice_get, if◌then◌else◌, refl, sym, ◌∙◌, ap, subst, arith, length-append, length-take}
use Rattle.std.specs.Bool.{Decides}
use Rattle.std.specs.Str.{bytes_eq}
use Rattle.std.proofs.lemmas.Slice.Eq.{bytes_eq-Decides}
use Rattle.std.proofs.lemmas.Bool.Decides.{Decides-and, Decides-eqb, Decides-like, same_from_decides}
use Rattle.std.proofs.lemmas.List.{length-map}
use Rattle.std.proofs.lemmas.Option.{none-some, slice_get_within}
use Rattle.change_history.specs.History.{RoomyHistory, History, histories_of}
use Rattle.field_values.specs.declared.numbers.UserNo.{UserNo}
use Rattle.rising_numbers.specs.ByNumber.{put_by_number}
use Rattle.tracker_filters.specs.declared.filter.Filter.{Filter}
use Rattle.tracker_filters.specs.Saved.{number, is_named, by_owner, HaveOwnNames, AreSaved, MayPut}
use Rattle.tracker_filters.specs.Sprint.{AreNumbered}
use Rattle.tracker_filters.specs.Watched.{WatchedFilters}
use Rattle.tracker_filters.proofs.Lists.{history_at}
use Rattle.tracker_loading.proofs.Behind.{behind_above, put_behind}

-- ---- names

-- both have one owner and one name
abbrev AreNamesakes : Filter → Filter → Type 0
AreNamesakes f g = (g.owner.0 ≡ f.owner.0) × (g.name ≡ f.name)

names_decide : (f g : Filter) → Decides (is_named f.owner f.name g) (AreNamesakes f g)
names_decide f g = Decides-and (g.owner.0 == f.owner.0) (bytes_eq g.name f.name) (Decides-eqb g.owner.0 f.owner.0) (bytes_eq-Decides g.name f.name)

named_both_ways : (f g : Filter) → is_named f.owner f.name g ≡ is_named g.owner g.name f
named_both_ways f g =
    same_from_decides (is_named f.owner f.name g) (is_named g.owner g.name f) (names_decide f g)
    (Decides-like (is_named g.owner g.name f) (λ (h : AreNamesakes g f). (sym h.0, sym h.1)) (λ (h : AreNamesakes f g). (sym h.0, sym h.1)) (names_decide g f))

-- one behind others that has a name isn't missed
unnamed_behind : (owner : UserNo) (name : List ℕ) (before : List Filter) (f : Filter) (behind : List Filter) → by_owner owner name (before ++ f ∷ behind) ≡ None → is_named owner name f ≡ false
unnamed_behind owner name [] f behind none = by (is_named owner name f) none
  where
    by : (b : Bool) → (if b then Some f else by_owner owner name behind) ≡ None → b ≡ false
    by true none = absurd (none-some f (sym none))
    by false none = refl
unnamed_behind owner name (g ∷ before) f behind none = unnamed_behind owner name before f behind (by (is_named owner name g) none)
  where
    by : (b : Bool) → (if b then Some g else by_owner owner name (before ++ f ∷ behind)) ≡ None → by_owner owner name (before ++ f ∷ behind) ≡ None
    by true none = absurd (none-some g (sym none))
    by false none = none

-- none of those before a filter has its name
name_free_before : (before : List Filter) (f : Filter) (behind : List Filter) → HaveOwnNames (before ++ f ∷ behind) → by_owner f.owner f.name before ≡ None
name_free_before [] f behind own = refl
name_free_before (g ∷ before) f behind own =
    by (is_named f.owner f.name g) (named_both_ways f g ∙ unnamed_behind g.owner g.name before f behind own.0) (name_free_before before f behind own.1)
  where
    by : (b : Bool) → b ≡ false → by_owner f.owner f.name before ≡ None → (if b then Some g else by_owner f.owner f.name before) ≡ None
    by true is rest = absurd (cc)
    by false is rest = rest

-- ---- filters one behind the other

module _ (before : List Filter) (f : Filter) (behind : List Filter) (saved : AreSaved (before ++ f ∷ behind)) where
  pub may_put_next : MayPut before f
  may_put_next = record {
    positive = omega (arith, behind_above number 1 before f behind saved.rising);
    alone = subst (λ o. IfSome o (λ g. g.no.0 ≡ f.no.0)) (sym (name_free_before before f behind saved.names)) tt;
    few = λ none. omega (arith, saved.few, length-append before (f ∷ behind));
  }

  pub put_behind_all : put_by_number number f before ≡ before ++ f ∷ []
  put_behind_all = put_behind number 1 before f behind saved.rising

-- ---- issues one behind the other

-- the next issue has the next number, where those before it are seen
pub next_number : (issues : List RoomyHistory) (k : ℕ) (issue : RoomyHistory) (before after : WatchedFilters) → AreNumbered (histories_of issues) → slice_get issues k ≡ Some issue
    → before.histories ≡ histories_of (take k issues) → after.histories ≡ before.histories → issue.history.no.0 ≡ length after.histories + 1
next_number issues k issue before after numbered at seen same =
    let number = numbered k issue.history (history_at issues k issue at) in
    let many = ap (λ (hs : List History). length hs) same ∙ ap (λ (hs : List History). length hs) seen ∙ length-map (take k issues) (λ (i : RoomyHistory). i.history) in
    let there = slice_get_within issues k issue at in
    let taken = length-take k issues in
    omega (arith, number, many, taken, there)

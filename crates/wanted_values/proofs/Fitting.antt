-- Values that fit, through what a call makes of them.
use Rattle.std.proofs.Common.{◌≡◌, ◌≢◌, ◌==◌, ℕ, ◌<◌, List, [], ◌∷◌, ◌++◌, length, filter, Bool, true, false, Option, Some, None, refl, arith}
use Rattle.std.specs.Prelude.{if◌then◌else◌, nat_lt, not, min}
use Rattle.field_values.specs.declared.numbers.FieldNo.{FieldNo}
use Rattle.field_values.specs.declared.numbers.UserNo.{UserNo}
use Rattle.field_values.specs.declared.value.Value.{Value}
use Rattle.field_forms.specs.Known.{Names, fits}
use Rattle.change_history.specs.declared.change.Change.{Change}
use Rattle.workflow.specs.Inputs.{least_with}
use Rattle.workflow.specs.Net.{put_change, put_changes, is_news, net_changes}
use Rattle.workflow.specs.Difference.{entries_of}
use Rattle.workflow.specs.Laws.{AllFit}
use Rattle.tracker_machine.specs.declared.wanted.Wanted.{Wanted}
use Rattle.tracker_machine.specs.declared.wanted.Wanted.TheVariants as wanted
use Rattle.fields.specs.Naming.{field_numbers}
use Rattle.tracker_machine.specs.Wanted.{is_fault, faults_in, field_at_fault, change_to, changes_to, changes_of}
use Rattle.tracker_machine.specs.Tracker.{AllEntriesFit}

kept_fit : (names : Names) (b : Bool) (c : Change) (cs : List Change) → fits names c.field.0 c.to ≡ true → AllFit names cs → AllFit names (if b then c ∷ cs else cs)
kept_fit names true c cs fit all = (fit, all)
kept_fit names false c cs fit all = all

pub fits_filter : (names : Names) (p : Change → Bool) (cs : List Change) → AllFit names cs → AllFit names (filter p cs)
fits_filter names p [] all = tt
fits_filter names p (c ∷ cs) all = kept_fit names (p c) c (filter p cs) all.0 (fits_filter names p cs all.1)

put_fit : (names : Names) (a b : Bool) (d c : Change) (ds more : List Change) → fits names c.field.0 c.to ≡ true → AllFit names (d ∷ ds) → AllFit names more
    → AllFit names (if a then d ∷ more else if b then c ∷ ds else c ∷ d ∷ ds)
put_fit names true b d c ds more fit all rest = (all.0, rest)
put_fit names false true d c ds more fit all rest = (fit, all.1)
put_fit names false false d c ds more fit all rest = (fit, all)

fits_put : (names : Names) (ds : List Change) (c : Change) → AllFit names ds → fits names c.field.0 c.to ≡ true → AllFit names (put_change ds c)
fits_put names [] c all fit = (fit, tt)
fits_put names (d ∷ ds) c all fit = put_fit names (nat_lt d.field.0 c.field.0) (d.field.0 == c.field.0) d c ds (put_change ds c) fit all (fits_put names ds c all.1 fit)

fits_puts : (names : Names) (ds cs : List Change) → AllFit names ds → AllFit names cs → AllFit names (put_changes ds cs)
fits_puts names ds [] sorted all = sorted
fits_puts names ds (c ∷ cs) sorted all = fits_puts names (put_change ds c) cs (fits_put names ds c sorted all.0) all.1

pub fits_net : (names : Names) (before : FieldNo → Value) (cs : List Change) → AllFit names cs → AllFit names (net_changes before cs)
unfolding net_changes
fits_net names before cs all = fits_filter names (is_news before) (put_changes [] cs) (fits_puts names [] cs tt all)

-- a list that isn't empty has at least one
pub some_changes : (cs : List Change) → cs ≢ [] → 0 < length cs
some_changes [] some = absurd (some refl)
some_changes (c ∷ cs) some = omega arith

pub entries_fit : (names : Names) (before : FieldNo → Value) (change at : ℕ) (author : UserNo) (cs : List Change) → AllFit names cs → AllEntriesFit names (entries_of before change at author cs)
entries_fit names before change at author [] all = tt
entries_fit names before change at author (c ∷ cs) all = (all.0, entries_fit names before change at author cs all.1)

-- what is wanted of a field that isn't at fault fits
fit_change : (names : Names) (n : ℕ) (w : Wanted) → is_fault names n w ≡ false → AllFit names (change_to n w)
fit_change names n wanted.Nothing ok = tt
fit_change names n wanted.NoValue ok = tt
fit_change names n (wanted.Value v) ok = (sure (fits names n v) ok, tt) where
  sure : (b : Bool) → not b ≡ false → b ≡ true
  sure true e = refl
  sure false e = cc

fits_append : (names : Names) (cs ds : List Change) → AllFit names cs → AllFit names ds → AllFit names (cs ++ ds)
fits_append names [] ds all more = more
fits_append names (c ∷ cs) ds all more = (all.0, fits_append names cs ds all.1 more)

pub found_least : (least : Option ℕ) (ns : List ℕ) → least_with least ns ≡ None → ns ≡ []
found_least least [] e = refl
found_least None (n ∷ ns) e = absurd (some_least n ns e) where
  some_least : (m : ℕ) (ks : List ℕ) → least_with (Some m) ks ≡ None → ⊥
  some_least m [] e = cc
  some_least m (k ∷ ks) e = some_least (min m k) ks e
found_least (Some m) (n ∷ ns) e = absurd (some_least m (n ∷ ns) e) where
  some_least : (m : ℕ) (ks : List ℕ) → least_with (Some m) ks ≡ None → ⊥
  some_least m [] e = cc
  some_least m (k ∷ ks) e = some_least (min m k) ks e

pub none_at : (b : Bool) (n : ℕ) (ns : List ℕ) → (if b then n ∷ ns else ns) ≡ [] → (b ≡ false) × (ns ≡ [])
none_at true n ns e = cc
none_at false n ns e = (refl, e)

all_wanted_fit : (names : Names) (wants : ℕ → Wanted) (ns : List ℕ) → faults_in names wants ns ≡ [] → AllFit names (changes_to wants ns)
all_wanted_fit names wants [] none = tt
all_wanted_fit names wants (n ∷ ns) none =
    let here = none_at (is_fault names n (wants n)) n (faults_in names wants ns) none in
    fits_append names (change_to n (wants n)) (changes_to wants ns) (fit_change names n (wants n) here.0) (all_wanted_fit names wants ns here.1)

-- where no field is at fault, all that is wanted fits
pub wanted_fit : (names : Names) (wants : ℕ → Wanted) → field_at_fault names wants ≡ None → AllFit names (changes_of names wants)
unfolding field_at_fault changes_of
wanted_fit names wants none = all_wanted_fit names wants (field_numbers names.fields) (found_least None (faults_in names wants (field_numbers names.fields)) none)

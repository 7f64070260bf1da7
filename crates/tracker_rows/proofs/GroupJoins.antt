-- A change group may join what stands before it, and leads to what stands up to it.
use Rattle.std.proofs.Common.{◌≡◌, ◌≢◌, ℕ, ◌+◌, ◌-◌, ◌<◌, ◌≤◌, ◌==◌, ◌⊎◌, inl, inr, nat_lt, Bool, true, false, List, [], ◌∷◌, length, map, slice_get, set, Option, Some, None, refl, sym, ap, ◌∙◌, subst, arith, eqb-true, eq-eqb, ne_eqb}
use Rattle.std.specs.Prelude.{if◌then◌else◌}
use Rattle.std.specs.Option.{option_map_or}
use Rattle.std.proofs.lemmas.Bool.{cases_eq, cases_lt, false≢true}
use Rattle.std.proofs.lemmas.Bool.Decides.{nat_tests}
use Rattle.std.proofs.lemmas.List.{length-append}
use Rattle.std.proofs.lemmas.Option.{none-some, same_Some}
use Rattle.field_values.specs.declared.numbers.FieldNo.{FieldNo}
use Rattle.field_values.specs.declared.numbers.UserNo.{UserNo}
use Rattle.field_values.specs.declared.value.Value.{Value}
use Rattle.field_values.specs.declared.value.Value.TheVariants as value
use Rattle.field_values.specs.Parts.{Parts}
use Rattle.field_forms.specs.declared.form.Form.{Form}
use Rattle.field_forms.specs.Known.{Names, form_of, choices_of, may_be_empty, fits_form, fits}
use Rattle.fields.specs.SetupParts.{names_in}
use Rattle.change_history.specs.declared.entry.Entry.{Entry}
use Rattle.change_history.specs.declared.entry.Group.{Group}
use Rattle.change_history.specs.History.{History, present, opening_value, value_after, put_value, AreChanges, FollowEachOther, AreInOrder, AreGroupEntries}
use Rattle.tracker_keeper.specs.declared.part.Part.TheVariants as part
use Rattle.tracker_machine.specs.Machine.{Machine}
use Rattle.tracker_machine.specs.Checks.{entries_kept, bytes_kept}
use Rattle.tracker_machine.specs.Chronicle.{HasEntry, IsChangeOf, IsChangeAt}
use Rattle.tracker_machine.specs.Effect.{longer, grown}
use Rattle.tracker_machine.specs.Kept.{entries_of_change, group_of}
use Rattle.tracker_machine.specs.Tracker.{AllEntriesFit, IsSettled, IsTracker}
use Rattle.tracker_machine.proofs.Totals.{history_bytes-more, bytes_kept-set, entries_kept-set}
use Rattle.tracker_machine.proofs.Keepable.{number_at}
use Rattle.tracker_machine.proofs.Settled.{settled_at}
use Rattle.tracker_rows.specs.Gathered.{joined}
use Rattle.tracker_rows.specs.Rules.{IsInTurn, MayBeGroup, MayEmptyFields, MayJoin}
use Rattle.tracker_rows.proofs.Cuts.{below, cut_history, cut_histories, cut, all_pass, histories_more, get_mapped, none_before, entries_to}
use Rattle.tracker_rows.proofs.Joins.{Joins}
use Rattle.tracker_rows.proofs.IssueJoins.{mapped_at, bytes_less, entries_less}

-- ---- entries

-- where the entries of a change are these, they are the group, and it is there
pub record IsGroupIn (c : ℕ) (es : List Entry) (g : Group) : Type 0 where
  pub change : g.change ≡ c
  pub entries : g.entries ≡ entries_of_change c es
  pub some : 0 < length g.entries
  pub has : HasEntry es c g.at

first_of_change : (c : ℕ) (es : List Entry) (e : Entry) (others : List Entry) → entries_of_change c es ≡ e ∷ others → (e.change ≡ c) × HasEntry es c e.at
first_of_change c [] e others is = absurd (cc)
first_of_change c (x ∷ xs) e others is = by (x.change == c) refl is (first_of_change c xs e others)
  where
    abbrev_head : List Entry → Entry
    abbrev_head [] = e
    abbrev_head (y ∷ ys) = y

    by : (b : Bool) → (x.change == c) ≡ b → (if b then x ∷ entries_of_change c xs else entries_of_change c xs) ≡ e ∷ others
        → (entries_of_change c xs ≡ e ∷ others → (e.change ≡ c) × HasEntry xs c e.at) → (e.change ≡ c) × HasEntry (x ∷ xs) c e.at
    by true same list rest =
        let own : x ≡ e = ap abbrev_head list in
        (subst (λ (y : Entry). y.change ≡ c) own (eqb-true x.change c same), inl (eqb-true x.change c same, ap (λ (y : Entry). y.at) own))
    by false other list rest = let behind = rest list in (behind.0, inr behind.1)

pub group_in : (c : ℕ) (es : List Entry) (g : Group) → group_of (entries_of_change c es) ≡ Some g → IsGroupIn c es g
group_in c es g is = by (entries_of_change c es) refl is
  where
    by : (list : List Entry) → entries_of_change c es ≡ list → group_of list ≡ Some g → IsGroupIn c es g
    by [] list none = absurd (none-some g none)
    by (e ∷ others) list found =
        let own : Group = record { change = e.change; at = e.at; author = e.author; entries = e ∷ others } in
        let first = first_of_change c es e others list in
        subst (IsGroupIn c es) (same_Some own g found) (record { change = first.0; entries = sym list; some = omega arith; has = first.1 })

later_than : (c at : ℕ) (es : List Entry) (n a : ℕ) → AreInOrder c at es → HasEntry es n a → c < n
later_than c at [] n a order has = absurd has
later_than c at (e ∷ es) n a order has = by has
  where
    behind : (last : Entry) (fs : List Entry) → FollowEachOther last fs → HasEntry fs n a → last.change ≤ n
    behind last [] follow has = absurd has
    behind last (f ∷ fs) follow (inl own) = elim follow.0 [ inl same ↦ omega (arith, same.0, own.0) | inr next ↦ omega (arith, next.0, own.0) ]
    behind last (f ∷ fs) follow (inr has) =
        let more = behind f fs follow.1 has in elim follow.0 [ inl same ↦ omega (arith, same.0, more) | inr next ↦ omega (arith, next.0, more) ]

    by : ((e.change ≡ n) × (e.at ≡ a)) ⊎ HasEntry es n a → c < n
    by (inl own) = omega (arith, order.0, own.0)
    by (inr has) = let more = behind e es order.2 has in omega (arith, order.0, more)

-- those before a change
has_before : (c : ℕ) (es : List Entry) (n a : ℕ) → HasEntry (entries_to c es) n a → HasEntry es n a × (n < c)
has_before c [] n a has = absurd has
has_before c (e ∷ es) n a has = by (cases_lt e.change c) (has_before c es n a)
  where
    by : (e.change < c) ⊎ (c ≤ e.change) → (HasEntry (entries_to c es) n a → HasEntry es n a × (n < c)) → HasEntry (e ∷ es) n a × (n < c)
    by (inl less) rest =
        let own : nat_lt e.change c ≡ true = grind (arith, nat_tests, less) in
        let here : HasEntry (e ∷ entries_to c es) n a = rw own at has in
        elim here [ inl first ↦ (inl first, omega (arith, less, first.0)) | inr behind ↦ let more = rest behind in (inr more.0, more.1) ]
    by (inr le) rest =
        let past : nat_lt e.change c ≡ false = grind (arith, nat_tests, le) in
        let behind : HasEntry (entries_to c es) n a = rw past at has in
        let more = rest behind in (inr more.0, more.1)

-- ---- values

-- behind a later change there is none
none_of_later : (c : ℕ) (last : Entry) (es : List Entry) → c < last.change → FollowEachOther last es → entries_of_change c es ≡ []
none_of_later c last [] less follow = refl
none_of_later c last (e ∷ es) less follow =
    let more : c < e.change = elim follow.0 [ inl same ↦ omega (arith, less, same.0) | inr next ↦ omega (arith, less, next.0) ] in
    rw (ne_eqb e.change c (λ is. omega (arith, is, more))) (none_of_later c e es more follow.1)

-- the entries behind the first one of a group, where the values are as before it of the fields that come
group_tail : (c at : ℕ) (author : UserNo) (values now : FieldNo → Value) (last : Entry) (es : List Entry) → last.change ≡ c → last.at ≡ at → last.author ≡ author
    → ((f : FieldNo) → last.field.0 < f.0 → now f ≡ values f) → AreChanges now es → FollowEachOther last es
    → AreGroupEntries values (last.field.0 + 1) c at author (entries_of_change c es)
group_tail c at author values now last [] change moment by same changes follow = tt
group_tail c at author values now last (e ∷ es) change moment by same changes (inl own, follow) =
    let change_is : e.change ≡ c = own.0 ∙ change in
    rw (eq-eqb e.change c change_is) (
      omega (arith, own.3),
      change_is,
      own.1 ∙ moment,
      own.2 ∙ by,
      changes.0 ∙ same e.field own.3,
      changes.1,
      group_tail c at author values (put_value now e) e es change_is (own.1 ∙ moment) (own.2 ∙ by)
          (λ f less. put f less ∙ same f (omega (arith, own.3, less))) changes.2 follow,
    )
  where
    put : (f : FieldNo) → e.field.0 < f.0 → put_value now e f ≡ now f
    put f less = rw (ne_eqb e.field.0 f.0 (λ is. omega (arith, is, less))) refl
group_tail c at author values now last (e ∷ es) change moment by same changes (inr next, follow) =
    let more : c < e.change = omega (arith, next.0, change) in
    rw (ne_eqb e.change c (λ is. omega (arith, is, more)), none_of_later c e es more follow) tt

-- the entries of a change are a group behind those before it
group_from : (c : ℕ) (g : Group) (values : FieldNo → Value) (x : Entry) (xs : List Entry) → AreChanges values (x ∷ xs) → FollowEachOther x xs
    → g.change ≡ c → group_of (entries_of_change c (x ∷ xs)) ≡ Some g
    → ((y : Entry) (ys : List Entry) → xs ≡ y ∷ ys → group_of (entries_of_change c xs) ≡ Some g
    → AreGroupEntries (λ f. value_after (put_value values x f) (entries_to c xs) f) 0 c g.at g.author (entries_of_change c xs))
    → AreGroupEntries (λ f. value_after (values f) (entries_to c (x ∷ xs)) f) 0 c g.at g.author (entries_of_change c (x ∷ xs))
group_from c g values x xs changes follow change is rest = by (cases_lt x.change c) (cases_eq x.change c)
  where
    first : (e : Entry) (others : List Entry) → group_of (e ∷ others) ≡ Some g → (e.at ≡ g.at) × (e.author ≡ g.author)
    first e others found =
        let own : Group = record { change = e.change; at = e.at; author = e.author; entries = e ∷ others } in
        let same : own ≡ g = same_Some own g found in
        (ap (λ (h : Group). h.at) same, ap (λ (h : Group). h.author) same)

    some_behind : group_of (entries_of_change c xs) ≡ Some g → (ys : List Entry) → xs ≡ ys
        → AreGroupEntries (λ f. value_after (put_value values x f) (entries_to c xs) f) 0 c g.at g.author (entries_of_change c xs)
    some_behind found [] none = absurd (none-some g (sym (ap (λ (ys : List Entry). group_of (entries_of_change c ys)) none) ∙ found))
    some_behind found (y ∷ ys) list = rest y ys list found

    by : (x.change < c) ⊎ (c ≤ x.change) → (x.change ≡ c) ⊎ (x.change ≡ c → ⊥)
        → AreGroupEntries (λ f. value_after (values f) (entries_to c (x ∷ xs)) f) 0 c g.at g.author (entries_of_change c (x ∷ xs))
    by (inl less) same =
        let own : nat_lt x.change c ≡ true = grind (arith, nat_tests, less) in
        let other : (x.change == c) ≡ false = grind (arith, nat_tests, less) in
        let behind : group_of (entries_of_change c xs) ≡ Some g = rw other at is in
        rw (own, other) (some_behind behind xs refl)
    by (inr le) (inl same) =
        let past : nat_lt x.change c ≡ false = grind (arith, nat_tests, le) in
        let none : entries_to c xs ≡ [] = none_before c x xs le follow in
        let found : group_of (x ∷ entries_of_change c xs) ≡ Some g = rw (eq-eqb x.change c same) at is in
        let own = first x (entries_of_change c xs) found in
        rw (past, none, eq-eqb x.change c same) (
          omega arith,
          same,
          own.0,
          own.1,
          changes.0,
          changes.1,
          group_tail c g.at g.author values (put_value values x) x xs same own.0 own.1 (λ f less. put f less) changes.2 follow,
        )
      where
        put : (f : FieldNo) → x.field.0 < f.0 → put_value values x f ≡ values f
        put f less = rw (ne_eqb x.field.0 f.0 (λ is. omega (arith, is, less))) refl
    by (inr le) (inr differ) =
        let more : c < x.change = elim (cases_lt c x.change) [ inl lt ↦ lt | inr back ↦ absurd (differ (omega (arith, back, le))) ] in
        let none : entries_of_change c xs ≡ [] = none_of_later c x xs more follow in
        let lacks : group_of [] ≡ Some g = rw (ne_eqb x.change c differ, none) at is in
        absurd (none-some g lacks)

group_values : (c : ℕ) (g : Group) (values : FieldNo → Value) (x : Entry) (xs : List Entry) → AreChanges values (x ∷ xs) → FollowEachOther x xs → g.change ≡ c
    → group_of (entries_of_change c (x ∷ xs)) ≡ Some g
    → AreGroupEntries (λ f. value_after (values f) (entries_to c (x ∷ xs)) f) 0 c g.at g.author (entries_of_change c (x ∷ xs))
group_values c g values x [] changes follow change is = group_from c g values x [] changes follow change is (λ y ys list found. absurd (cc))
group_values c g values x (z ∷ zs) changes follow change is =
    group_from c g values x (z ∷ zs) changes follow change is (λ y ys list found. group_values c g (put_value values x) z zs changes.2 follow.1 change found)

pub group_there : (c : ℕ) (g : Group) (h : History) → AreChanges (opening_value h.opening) h.entries → AreInOrder h.change h.at h.entries → g.change ≡ c
    → group_of (entries_of_change c h.entries) ≡ Some g → AreGroupEntries (present (cut_history (below 4 c) h)) 0 c g.at g.author (entries_of_change c h.entries)
group_there c g h changes order change is = by h.entries changes order is
  where
    by : (es : List Entry) → AreChanges (opening_value h.opening) es → AreInOrder h.change h.at es → group_of (entries_of_change c es) ≡ Some g
        → AreGroupEntries (λ f. value_after (opening_value h.opening f) (entries_to c es) f) 0 c g.at g.author (entries_of_change c es)
    by [] changes order is = absurd (none-some g is)
    by (e ∷ es) changes order is = group_values c g (opening_value h.opening) e es changes order.2 change is

-- ---- fields that become empty

fits_empty : (names : Names) (n : ℕ) → fits names n value.Empty ≡ true → may_be_empty n ≡ true
unfolding fits
fits_empty names n is = by (form_of names.fields n) is
  where
    by : (o : Option Form) → option_map_or (fits_form n (choices_of names n) value.Empty) o false ≡ true → may_be_empty n ≡ true
    by None none = absurd (false≢true none)
    by (Some form) held = held

empties : (names : Names) (c : ℕ) (es : List Entry) → AllEntriesFit names es → MayEmptyFields (entries_of_change c es)
empties names c [] fit = tt
empties names c (e ∷ es) fit = by (e.change == c) (empties names c es fit.1)
  where
    by : (b : Bool) → MayEmptyFields (entries_of_change c es) → MayEmptyFields (if b then e ∷ entries_of_change c es else entries_of_change c es)
    by true rest = (λ is. fits_empty names e.field.0 (subst (λ v. fits names e.field.0 v ≡ true) is fit.0), rest)
    by false rest = rest

-- ---- groups

module _ (m : Machine) (written : Parts) (is : IsTracker m) (c k : ℕ) (h : History) (g : Group) (there : slice_get m.histories k ≡ Some h)
    (found : group_of (entries_of_change c h.entries) ≡ Some g) where
  abbrev before : Machine
  before = cut (below 4 c) written m

  abbrev own_cut : History
  own_cut = cut_history (below 4 c) h

  own : IsGroupIn c h.entries g
  own = group_in c h.entries g found

  settled_one : (j : ℕ) (x : History) → slice_get m.histories j ≡ Some x → IsSettled (names_in m.setup) m.moment m.change x
  settled_one j x at = settled_at (names_in m.setup) m.moment m.change m.histories j x at is.settled

  changed : IsChangeAt m.histories k c g.at
  changed = (h, there, inr own.has)

  greater : h.change < c
  greater = later_than h.change h.at h.entries c g.at (settled_one k h there).history.order own.has

  all_there : cut_histories (below 4 c) m.histories ≡ map (cut_history (below 4 c)) m.histories
  all_there = ap (map (cut_history (below 4 c))) (all_pass m.histories)

  pub old_there : slice_get (cut_histories (below 4 c) m.histories) k ≡ Some own_cut
  old_there = ap (λ (hs : List History). slice_get hs k) all_there ∙ get_mapped (cut_history (below 4 c)) m.histories k h there

  change_before : (j n a : ℕ) → IsChangeAt (cut_histories (below 4 c) m.histories) j n a → IsChangeAt m.histories j n a × (n ≢ c)
  change_before j n a (y, at_y, change) =
      let mapped = mapped_at (cut_history (below 4 c)) m.histories j y (ap (λ (hs : List History). slice_get hs j) (sym all_there) ∙ at_y) in
      let x : History = mapped.history in
      by x mapped.there (subst (λ (i : History). IsChangeOf i n a) mapped.is change)
    where
      by : (x : History) → slice_get m.histories j ≡ Some x → IsChangeOf (cut_history (below 4 c) x) n a → IsChangeAt m.histories j n a × (n ≢ c)
      by x at (inl created) =
          let one : IsChangeAt m.histories j n a = (x, at, inl created) in
          (one, λ same. absurd (creation x at created one same))
        where
          creation : (x : History) → slice_get m.histories j ≡ Some x → (x.change ≡ n) × (x.at ≡ a) → IsChangeAt m.histories j n a → n ≡ c → ⊥
          creation x at created one same =
              let place : j ≡ k = is.chronicle.once j k c a g.at (subst (λ i. IsChangeAt m.histories j i a) same one) changed in
              let issue : x ≡ h = same_Some x h (sym at ∙ ap (slice_get m.histories) place ∙ there) in
              omega (arith, greater, ap (λ (i : History). i.change) issue, created.0, same)
      by x at (inr has) = let more = has_before c x.entries n a has in ((x, at, inr more.0), λ same. omega (arith, more.1, same))

  turn : IsInTurn before c g.at
  turn = record {
    once = λ j n a one same. (change_before j n a one).1 same;
    counted = (is.chronicle.known k c g.at changed).1;
    later = λ j n a one less. is.chronicle.later j k n c a g.at (change_before j n a one).0 changed less;
    earlier = λ j n a one less. is.chronicle.later k j c n g.at a changed (change_before j n a one).0 less;
    timely = (is.chronicle.known k c g.at changed).2;
  }

  -- no other issue has the change
  others : (j : ℕ) (x : History) → slice_get m.histories j ≡ Some x → (j ≡ k → ⊥) → entries_of_change c x.entries ≡ []
  others j x at differ = by (entries_of_change c x.entries) refl
    where
      by : (es : List Entry) → entries_of_change c x.entries ≡ es → entries_of_change c x.entries ≡ []
      by [] list = list
      by (e ∷ es) list =
          let first = first_of_change c x.entries e es list in
          absurd (differ (is.chronicle.once j k c e.at g.at (x, at, inr first.1) changed))

  with_more : grown (cut_histories (below 4 c) m.histories) k (entries_of_change c h.entries) ≡ cut_histories (below 4 (c + 1)) m.histories
  with_more = histories_more c k h m.histories there (λ j x at. (settled_one j x at).history.order) others

  more : grown (cut_histories (below 4 c) m.histories) k g.entries ≡ cut_histories (below 4 (c + 1)) m.histories
  more = ap (grown (cut_histories (below 4 c) m.histories) k) own.entries ∙ with_more

  pub as_set : set (cut_histories (below 4 c) m.histories) k (longer own_cut g.entries) ≡ cut_histories (below 4 (c + 1)) m.histories
  as_set = sym (grown_at (cut_histories (below 4 c) m.histories) old_there) ∙ more
    where
      grown_at : (hs : List History) → slice_get hs k ≡ Some own_cut → grown hs k g.entries ≡ set hs k (longer own_cut g.entries)
      grown_at hs at = rw at refl

  entries_are : AreGroupEntries (present own_cut) 0 g.change g.at g.author g.entries
  entries_are =
      subst (λ n. AreGroupEntries (present own_cut) 0 n g.at g.author g.entries) (sym own.change)
      (subst (AreGroupEntries (present own_cut) 0 c g.at g.author) (sym own.entries)
      (group_there c g h (settled_one k h there).history.changes (settled_one k h there).history.order own.change found))

  may_be : MayBeGroup before own_cut g
  may_be =
      let hs : List History = cut_histories (below 4 c) m.histories in
      let long = length-append own_cut.entries g.entries in
      record {
        greater = omega (arith, greater, own.change);
        turn = subst (λ n. IsInTurn before n g.at) (sym own.change) turn;
        some = own.some;
        entries = entries_are;
        named = subst MayEmptyFields (sym own.entries) (empties (names_in m.setup) c h.entries (settled_one k h there).fit);
        few = omega (
          arith,
          entries_kept-set hs k own_cut (longer own_cut g.entries) old_there,
          long,
          ap entries_kept as_set,
          entries_less (below 4 (c + 1)) m.histories,
          is.few_entries,
        );
        light = omega (
          arith,
          bytes_kept-set hs k own_cut (longer own_cut g.entries) old_there,
          history_bytes-more own_cut g.entries,
          ap bytes_kept as_set,
          bytes_less (below 4 (c + 1)) m.histories,
          is.few_bytes,
        );
      }

  place_is : h.no.0 - 1 ≡ k
  place_is = let at = number_at 1 m.histories k h is.numbers there in omega (arith, at.0)

  pub group_joins : Joins before (cut (below 4 (c + 1)) written m) (part.Group h.no g)
  unfolding MayJoin joined
  group_joins = record {
    may = record {
      history = own_cut;
      there = ap (slice_get (cut_histories (below 4 c) m.histories)) place_is ∙ old_there;
      group = may_be;
    };
    leads = ap (λ (hs : List History). let next : Machine = record before { histories = hs } in next)
        (ap (λ place. grown (cut_histories (below 4 c) m.histories) place g.entries) place_is ∙ more);
  }

-- What rows load is a tracker, and its rows are those.
use Rattle.std.proofs.Common.{◌≡◌, ℕ, ◌+◌, ◌≤◌, ◌==◌, ◌&&◌, ◌||◌, inl, inr, nat_lt, Bool, true, false, List, [], ◌∷◌, ◌++◌, map, Option, Some, None, option_map, Ok, length, refl, sym, ap, ◌∙◌, subst, arith, append-nil}
use Rattle.std.specs.Prelude.{if◌then◌else◌, cond}
use Rattle.std.specs.Option.{option_or}
use Rattle.std.proofs.lemmas.Bool.{cases_Bool, le-leb, true≢false}
use Rattle.std.proofs.lemmas.Bool.Decides.{nat_tests}
use Rattle.std.proofs.lemmas.List.Sums.{sum_by-cons}
use Rattle.std.proofs.lemmas.List.Elements.{All-nil, All-weaker}
use Rattle.std.proofs.lemmas.Option.{none-some}
use mathlib.Core.Path.{fun_ext}
use Rattle.field_values.specs.declared.numbers.FieldNo.{FieldNo}
use Rattle.field_values.specs.declared.value.Value.{Value}
use Rattle.field_values.specs.declared.value.Value.TheVariants as value
use Rattle.field_values.specs.Parts.{Parts}
use Rattle.field_values.specs.Years.{last_second}
use Rattle.field_forms.specs.Known.{Names}
use Rattle.fields.specs.Sound.{IsSound}
use Rattle.fields.specs.SetupParts.{names_in}
use Rattle.setup_reading.specs.Reading.{setup_in}
use Rattle.change_history.specs.declared.change.Change.{Change}
use Rattle.change_history.specs.declared.entry.Entry.{Entry}
use Rattle.change_history.specs.History.{History, opening_value, value_after}
use Rattle.rank_balancer.specs.declared.balance.Balance.{Balance}
use Rattle.sprints.specs.declared.sprint.Sprint.{Sprint}
use Rattle.sprints.specs.Sprint.{IsThere, sprint_of}
use Rattle.tracker_keeper.specs.declared.row.Row.{Row}
use Rattle.tracker_keeper.specs.declared.part.Format.{Format}
use Rattle.tracker_keeper.specs.declared.part.Format.TheVariants.{First, Second}
use Rattle.tracker_keeper.specs.declared.part.Part.{Part}
use Rattle.tracker_keeper.specs.declared.part.Part.TheVariants as part
use Rattle.tracker_keeper.specs.Bodies.{body_text}
use Rattle.tracker_keeper.specs.Forms.{is_balance}
use Rattle.tracker_keeper.specs.Kept.{IsSetupText, IsPart, IsRowOf}
use Rattle.tracker_keeper.specs.Rows.{Rows, IsListing, with_ops}
use Rattle.tracker_machine.specs.Machine.{Machine}
use Rattle.tracker_machine.specs.Kept.{Kind, part_in, part_at, rows_of, setup_part, put_part, migrating_parts, migrating_ops}
use Rattle.tracker_machine.specs.SprintRules.{IsSprint, is_of_sprints, OpensInSprints, BringsSprints, IsInSprints}
use Rattle.tracker_machine.specs.Tracker.{IsSettled, IsExternalOf, IsTracker}
use Rattle.tracker_machine.proofs.Chronicle.{chronicle_nil}
use Rattle.tracker_machine.proofs.Puts.{texts, parts_put}
use Rattle.tracker_machine.proofs.Regrouped.{users_of_sound, groups_of_sound}
use Rattle.tracker_machine.proofs.Saved.{no_filters}
use Rattle.tracker_machine.proofs.SprintRules.{found_is_there}
use Rattle.tracker_machine.proofs.SprintRows.{no_sprint_numbered}
use Rattle.tracker_rows.specs.Listed.{InOrder, changes_in, HasRow, HasSprint, OpenInRows, ChangeInRows}
use Rattle.tracker_rows.specs.Gathered.{Gathered, standing, with_part, with_setup, rank_due, members_due, due}
use Rattle.tracker_rows.specs.Gathered.Gathered.{Nothing, HasSetup, Stands}
use Rattle.tracker_rows.specs.Rules.{MayFollow}
use Rattle.tracker_rows.specs.Loading.{IsGood, AreRead, Loads}
use Rattle.tracker_rows.specs.Laws.{LoadedAreTrackers, LoadedRowsAreTheirs, MigratedRowsAreTheirs}
use Rattle.tracker_rows.proofs.Reading.{body_is_setup, setup_read}
use Rattle.tracker_rows.proofs.Rising.{Rise, rising, rising_pairs, counts_one}
use Rattle.tracker_rows.proofs.Issues.{HasItsSprints}
use Rattle.tracker_rows.proofs.Ranks.{none_ranked}
use Rattle.tracker_rows.proofs.Told.{present_in, told_kinds, told_at, told_rows, kinds_behind, none_told, all_told, migrated}
use Rattle.tracker_rows.proofs.Making.{IsUpTo, IsInMaking, next_due}
use Rattle.tracker_rows.proofs.Walk.{SameRows, IsMade, IsAllMade, is_change, walk}

-- ---- a tracker of which nothing is known but where it stands

abbrev nothing_of : List Kind → ℕ → Type 0
nothing_of [] n = Unit {0}
nothing_of (x ∷ xs) n = (x.parts n ≡ None) × nothing_of xs n

none_in : (xs : List Kind) (k n : ℕ) → nothing_of xs n → part_in xs k n ≡ None
none_in [] k n empty = refl
none_in (x ∷ xs) k n empty = elim (cases_Bool (k == x.kind)) [ inl is ↦ rw is empty.0 | inr other ↦ rw other (none_in xs k n empty.1) ]

chosen : {X Y : Type 0} (f : X → Y) (a b c : Bool) (x y : X) (rest : Option X) → rest ≡ None
    → option_map f (if a then (if c then Some x else None) else if b then (if c then Some y else None) else rest)
    ≡ (if a && c then Some (f x) else if b && c then Some (f y) else None)
chosen f true b true x y rest none = refl
chosen f true true false x y rest none = refl
chosen f true false false x y rest none = refl
chosen f false true true x y rest none = refl
chosen f false true false x y rest none = refl
chosen f false false c x y rest none = ap (option_map f) none

module _ (text : List ℕ) (setup : Parts) (balance : Balance) (change : ℕ) (format : Format) (moment : ℕ) where
  abbrev start : Machine
  start = standing text setup balance change moment

  no_more : (k n : ℕ) → part_in (kinds_behind 2 (told_kinds format 0 start)) k n ≡ None
  no_more k n =
      none_in (kinds_behind 2 (told_kinds format 0 start)) k n
      (refl, (refl, (refl, (refl, (no_sprint_numbered n, (refl, (refl, (none_told setup.group n, tt))))))))

  -- its rows are that of the setup and that of present
  pub start_rows : (k n : ℕ) → told_rows format 0 start k n
      ≡ (if (k == 1) && (n == 0) then Some text else if (k == 2) && (n == 0) then Some (body_text (names_in setup) (present_in format start)) else None)
  unfolding told_at body_text
  start_rows k n =
      chosen (body_text (names_in setup)) (k == 1) (k == 2) (n == 0) (setup_part start) (present_in format start)
      (part_in (kinds_behind 2 (told_kinds format 0 start)) k n) (no_more k n)

  -- nothing of it is later than where it stands
  pub start_made : (rows : List Row) (changes kind number : ℕ) → change ≤ changes_in rows → moment ≤ last_second → is_balance balance ≡ true → changes ≡ 0
      → IsInMaking rows format 0 start changes kind number
  start_made rows changes kind number counted timely balanced none = record {
    counted = counted;
    timely = timely;
    issues = record {
      few = omega arith;
      few_entries = omega arith;
      few_bytes = omega arith;
      numbers = tt;
      keys = tt;
      rising = tt;
      chronicle = chronicle_nil moment change;
      settled = All-nil (IsSettled (names_in setup) moment change);
      sprints = All-nil (HasItsSprints rows);
      counted = omega (arith, none);
    };
    ranked = none_ranked balance balanced;
    few_ranks = omega arith;
    last_rank = λ some. absurd (omega (arith, some));
    groups = λ place h n a there has. absurd (none-some h there);
    externals = record { rising = tt; own = tt; each = All-nil (IsExternalOf 0) };
    last_external = All-nil (λ e. IsUpTo 6 e.no.0 kind number);
    few_sprints = omega arith;
    sprints = All-nil (IsSprint moment change);
    saved = no_filters setup;
    boards = λ n there. absurd (there refl);
    few_told = omega arith;
    last_told = λ some. absurd (omega (arith, some));
    first = λ is. refl;
  }

-- ---- the first two rows

-- the setup's
pub record IsFirst (rows : List Row) (row : Row) (p : Part) : Type 0 where
  pub setup : Parts
  pub reads : setup_in row.body ≡ Ok setup
  pub leads : with_part Nothing p ≡ HasSetup row.body setup
  pub kind_is : row.kind ≡ 1
  pub number_is : row.no ≡ 0

setup_text : (setup : Parts) (text : List ℕ) → IsPart setup (part.Setup text) → IsSetupText text
unfolding IsPart
setup_text setup text is = is

with_first : (text : List ℕ) → with_part Nothing (part.Setup text) ≡ with_setup text (setup_in text)
unfolding with_part
with_first text = refl

pub first_row : (rows : List Row) (row : Row) (p : Part) → IsGood rows Nothing row p → IsFirst rows row p
first_row rows row p good =
    let is : p ≡ part.Setup row.body = body_is_setup rows row p good.follows good.tells in
    let own : IsRowOf good.tells.0 row.kind row.no row.body (part.Setup row.body) = subst (IsRowOf good.tells.0 row.kind row.no row.body) is good.tells.1 in
    let text : IsSetupText row.body = setup_text good.tells.0 row.body own.at.is_part in
    record {
      setup = text.0;
      reads = text.1;
      leads = ap (with_part Nothing) is ∙ with_first row.body ∙ ap (with_setup row.body) text.1;
      kind_is = sym own.at.kind_is;
      number_is = sym own.at.number_is;
    }

-- and present's
pub record IsSecond (rows : List Row) (text : List ℕ) (setup : Parts) (row : Row) (p : Part) : Type 0 where
  pub balance : Balance
  pub change : ℕ
  pub format : Format
  pub moment : ℕ
  pub leads : with_part (HasSetup text setup) p ≡ Stands format 0 (standing text setup balance change moment)
  pub counted : change ≤ changes_in rows
  pub timely : moment ≤ last_second
  pub balanced : is_balance balance ≡ true
  pub kind_is : row.kind ≡ 2
  pub number_is : row.no ≡ 0
  pub body_is : body_text (names_in setup) (present_in format (standing text setup balance change moment)) ≡ row.body

pub second_row : (rows : List Row) (text : List ℕ) (setup : Parts) (row : Row) (p : Part) → MayFollow rows (HasSetup text setup) p
    → IsRowOf setup row.kind row.no row.body p → IsSecond rows text setup row p
unfolding MayFollow with_part IsPart
second_row rows text setup row (part.Present balance change format moment) may tells = record {
  balance = balance;
  change = change;
  format = format;
  moment = moment;
  leads = refl;
  counted = may.counted;
  timely = omega (arith, tells.at.is_part.stamped.timely);
  balanced = tells.at.is_part.balanced;
  kind_is = sym tells.at.kind_is;
  number_is = sym tells.at.number_is;
  body_is = tells.text_is;
}
second_row rows text setup row (part.Setup other) may tells = absurd may
second_row rows text setup row (part.Issue issue key change at author values) may tells = absurd may
second_row rows text setup row (part.Group issue group) may tells = absurd may
second_row rows text setup row (part.Rank issue rank) may tells = absurd may
second_row rows text setup row (part.External issue external) may tells = absurd may
second_row rows text setup row (part.Sprint sprint_no sprint) may tells = absurd may
second_row rows text setup row (part.Filter filter_no owner name jql) may tells = absurd may
second_row rows text setup row (part.Board board_no name filter) may tells = absurd may
second_row rows text setup row (part.Members group members) may tells = absurd may

-- ---- from the first row to the last

abbrev is_standing : Gathered → Bool
is_standing Nothing = false
is_standing (HasSetup text setup) = false
is_standing (Stands format told m) = true

no_changes : (first second : Row) → first.kind ≡ 1 → second.kind ≡ 2 → changes_in (first ∷ second ∷ []) ≡ 0
no_changes first second one two =
    let count : Row → ℕ = λ r. cond ((r.kind == 3) || (r.kind == 4)) 1 0 in
    omega (arith, sum_by-cons count first (second ∷ []), sum_by-cons count second [], ap (λ k. counts_one (is_change k)) one, ap (λ k. counts_one (is_change k)) two)

module _ (rows rest left : List Row) (first second : Row) (format : Format) (told : ℕ) (m : Machine) (p q : Part)
    (apart : rows ≡ first ∷ second ∷ (rest ++ left)) (rise : Rise (first ∷ second ∷ rest))
    (one : IsFirst rows first p) (two : IsSecond rows first.body one.setup second q) where
  abbrev begun : Machine
  begun = standing first.body one.setup two.balance two.change two.moment

  begun_rows : SameRows (first ∷ second ∷ []) two.format 0 begun
  begun_rows k n =
      ap (λ (j : ℕ). if (k == j) && (n == first.no) then Some first.body else if (k == second.kind) && (n == second.no) then Some second.body else None) one.kind_is
      ∙ ap (λ (j : ℕ). if (k == 1) && (n == j) then Some first.body else if (k == second.kind) && (n == second.no) then Some second.body else None) one.number_is
      ∙ ap (λ (j : ℕ). if (k == 1) && (n == 0) then Some first.body else if (k == j) && (n == second.no) then Some second.body else None) two.kind_is
      ∙ ap (λ (j : ℕ). if (k == 1) && (n == 0) then Some first.body else if (k == 2) && (n == j) then Some second.body else None) two.number_is
      ∙ ap (λ (body : List ℕ). if (k == 1) && (n == 0) then Some first.body else if (k == 2) && (n == 0) then Some body else None) (sym two.body_is)
      ∙ sym (start_rows first.body one.setup two.balance two.change two.format two.moment k n)

  pub all_made : AreRead rows (Stands two.format 0 begun) rest (Stands format told m) → IsAllMade rows (first ∷ second ∷ rest) format told m
  all_made read =
      walk rows (first ∷ second ∷ []) rest left two.format format 0 told begun m second.kind second.no apart
      (record {
        making = start_made first.body one.setup two.balance two.change two.format two.moment rows (changes_in (first ∷ second ∷ [])) second.kind second.no
            two.counted two.timely two.balanced (no_changes first second one.kind_is two.kind_is);
        same = begun_rows;
      })
      rise.1.1 rise.1.0 read

-- what holds once a front of the rows has been read, by which a loop over rows can go
pub made_front : (rows front left : List Row) (format : Format) (told : ℕ) (m : Machine) → InOrder rows → rows ≡ front ++ left
    → AreRead rows Nothing front (Stands format told m) → IsAllMade rows front format told m
made_front rows [] left format told m ordered is read = absurd (true≢false (ap is_standing read))
made_front rows (first ∷ []) left format told m ordered is read =
    let one = first_row rows first read.1.0 read.1.1 in
    absurd (true≢false (ap is_standing (read.1.2 ∙ one.leads)))
made_front rows (first ∷ second ∷ rest) left format told m ordered is read =
    let after : Gathered = Stands format told m in
    let rise = rising rows [] (first ∷ second ∷ rest) left Nothing after is (subst InOrder is ordered) read in
    let one = first_row rows first read.1.0 read.1.1 in
    let next : AreRead rows (HasSetup first.body one.setup) (second ∷ rest) after = subst (λ g. AreRead rows g (second ∷ rest) after) one.leads read.1.2 in
    let two = second_row rows first.body one.setup second next.1.0 next.1.1.follows next.1.1.tells in
    all_made rows rest left first second format told m read.1.0 next.1.0 is rise one two (subst (λ g. AreRead rows g rest after) {y = Stands two.format 0 (standing first.body one.setup two.balance two.change two.moment)} two.leads next.1.2)

pub made : (format : Format) (rows : List Row) (m : Machine) → (loads : Loads format rows m) → IsAllMade rows rows format loads.told m
made format rows m loads = made_front rows rows [] format loads.told m loads.ordered (sym (append-nil rows)) loads.read

-- ---- sprints that are named

module _ (rows : List Row) (format : Format) (told : ℕ) (m : Machine) where
  -- a sprint that has a row is there
  none_kept : (n : ℕ) → sprint_of m.sprints n ≡ None → told_rows format told m 7 n ≡ None
  unfolding told_at
  none_kept n none = rw none refl

  sprint_there : (n : ℕ) → SameRows rows format told m → HasRow rows 7 n → IsThere m.sprints n
  sprint_there n same has = by (sprint_of m.sprints n) refl
    where
      by : (o : Option Sprint) → sprint_of m.sprints n ≡ o → IsThere m.sprints n
      by None none = absurd (has (same 7 n ∙ none_kept n none))
      by (Some s) is = (found_is_there m.sprints n s is).0

  of_sprints : (v : Value) → SameRows rows format told m → HasSprint rows v → is_of_sprints (length m.sprints) v ≡ true
  of_sprints value.Empty same has = refl
  of_sprints (value.Text text) same has = refl
  of_sprints (value.Number z) same has = refl
  of_sprints (value.Choice choice) same has = refl
  of_sprints (value.User user) same has = refl
  of_sprints (value.Date day) same has = refl
  of_sprints (value.Set choices) same has = refl
  of_sprints (value.Labels labels) same has = refl
  of_sprints (value.Sprint sprint) same has =
      let there = sprint_there sprint.0 same has in
      rw (le-leb 1 sprint.0 (omega (arith, there.0)), le-leb sprint.0 (length m.sprints) there.1) refl

  opens_in : (cs : List Change) → SameRows rows format told m → OpenInRows rows cs → OpensInSprints (length m.sprints) cs
  opens_in [] same opened = tt
  opens_in (c ∷ cs) same opened = (of_sprints c.to same opened.0, opens_in cs same opened.1)

  brings_of : (es : List Entry) → SameRows rows format told m → ChangeInRows rows es → BringsSprints (length m.sprints) es
  brings_of [] same changed = tt
  brings_of (e ∷ es) same changed = (of_sprints e.to same changed.1, brings_of es same changed.2)

pub either_of : (count : ℕ) (b : Bool) (v w : Value) → is_of_sprints count v ≡ true → is_of_sprints count w ≡ true → is_of_sprints count (if b then v else w) ≡ true
either_of count true v w one other = one
either_of count false v w one other = other

pub opening_of : (count : ℕ) (cs : List Change) (f : FieldNo) → OpensInSprints count cs → is_of_sprints count (opening_value cs f) ≡ true
opening_of count [] f opened = refl
opening_of count (c ∷ cs) f opened = either_of count (c.field.0 == f.0) c.to (opening_value cs f) opened.0 (opening_of count cs f opened.1)

after_of : (count : ℕ) (v : Value) (es : List Entry) (f : FieldNo) → is_of_sprints count v ≡ true → BringsSprints count es → is_of_sprints count (value_after v es f) ≡ true
after_of count v [] f of brings = of
after_of count v (e ∷ es) f of brings = after_of count (if e.field.0 == f.0 then e.to else v) es f (either_of count (e.field.0 == f.0) e.to v brings.0 of) brings.1

in_sprints : (rows : List Row) (format : Format) (told : ℕ) (m : Machine) (h : History) → SameRows rows format told m → HasItsSprints rows h
    → IsInSprints (length m.sprints) h
in_sprints rows format told m h same has =
    let opened : OpensInSprints (length m.sprints) h.opening = opens_in rows format told m h.opening same has.opening in
    let brings : BringsSprints (length m.sprints) h.entries = brings_of rows format told m h.entries same has.entries in
    record {
      opened = opened;
      entries = brings;
      now = λ f. after_of (length m.sprints) (opening_value h.opening f) h.entries f (opening_of (length m.sprints) h.opening f opened) brings;
    }

-- ---- none is missing

-- where no row is missing, each issue has its rank, and in rows of the second format each group has told its members
pub record IsWhole (format : Format) (told : ℕ) (m : Machine) : Type 0 where
  pub ranks : length m.histories ≤ length m.order
  pub members : format ≡ Second → length m.setup.group ≤ told

rank_wanted : (b : Bool) (ranked : ℕ) (o : Option (ℕ × ℕ)) → option_or (rank_due b ranked) o ≡ None → (b ≡ false) × (o ≡ None)
rank_wanted true ranked o none = absurd (none-some (5, ranked + 1) (sym none))
rank_wanted false ranked o none = (refl, none)

members_wanted : (b : Bool) (told : ℕ) → next_due told b ≡ None → b ≡ false
members_wanted true told none = absurd (none-some (10, told + 1) (sym none))
members_wanted false told none = refl

whole_of : (format : Format) (told : ℕ) (m : Machine) → due (Stands format told m) ≡ None → IsWhole format told m
whole_of format told m none =
    let wanted = rank_wanted (nat_lt (length m.order) (length m.histories)) (length m.order) (members_due format told m.setup.group) none in
    record {
      ranks = not_less (length m.order) (length m.histories) wanted.0;
      members = λ is. not_less told (length m.setup.group)
          (members_wanted (nat_lt told (length m.setup.group)) told (subst (λ f. members_due f told m.setup.group ≡ None) is wanted.1));
    }
  where
    not_less : (a b : ℕ) → nat_lt a b ≡ false → b ≤ a
    not_less a b is = grind (arith, nat_tests, is)

-- ---- the laws

tracker_of : (rows : List Row) (format : Format) (told : ℕ) (m : Machine) (kind number : ℕ) → IsWhole format told m → IsSound m.setup
    → IsMade rows rows format told m kind number → IsTracker m
tracker_of rows format told m kind number whole sound is =
    let making = is.making in
    record {
      few_issues = making.issues.few;
      few_entries = making.issues.few_entries;
      few_bytes = making.issues.few_bytes;
      timely = making.timely;
      numbers = making.issues.numbers;
      each = omega (arith, whole.ranks, making.few_ranks);
      ranked = making.ranked;
      keys = making.issues.keys;
      externals = making.externals;
      members = users_of_sound m.setup sound;
      few_groups = groups_of_sound m.setup sound;
      numbered = omega (arith, making.counted, making.issues.counted);
      rising = making.issues.rising;
      chronicle = making.issues.chronicle;
      settled = making.issues.settled;
      sprints = record {
        few = making.few_sprints;
        each = making.sprints;
        issues = All-weaker (HasItsSprints rows) (IsInSprints (length m.sprints)) (λ h has. in_sprints rows format told m h is.same has) m.histories
            making.issues.sprints;
      };
      saved = making.saved;
    }

pub loaded_are_trackers : LoadedAreTrackers
loaded_are_trackers format rows m loads =
    let all = made format rows m loads in
    tracker_of rows format loads.told m all.kind all.number (whole_of format loads.told m loads.whole)
    (setup_read rows Nothing rows (Stands format loads.told m) tt loads.read).sound all.made

-- the rows are those that are told
same_as_told : (format : Format) (rows : List Row) (m : Machine) → (loads : Loads format rows m) → SameRows rows format loads.told m
same_as_told format rows m loads = (made format rows m loads).made.same

rows_are : (m : Machine) → rows_of m ≡ texts (names_in m.setup) (part_at m)
unfolding rows_of
rows_are m = refl

pub loaded_rows_are_theirs : LoadedRowsAreTheirs
loaded_rows_are_theirs rows m loads = record {
  rising = rising_pairs rows
      (rising rows [] rows [] Nothing (Stands Second loads.told m) (sym (append-nil rows)) (subst InOrder (sym (append-nil rows)) loads.ordered) loads.read);
  same = λ k n. same_as_told Second rows m loads k n
      ∙ ap (λ parts. texts (names_in m.setup) parts k n) (all_told loads.told m ((whole_of Second loads.told m loads.whole).members refl))
      ∙ ap (λ (kept : Rows). kept k n) (sym (rows_are m));
}

-- rows of the first format tell no members
first_rows : (rows : List Row) (kept : Rows) (m : Machine) → Loads First rows m → IsListing kept rows → kept ≡ told_rows First 0 m
first_rows rows kept m loads listing =
    let none : loads.told ≡ 0 = (made First rows m loads).made.making.first refl in
    fun_ext (λ k. fun_ext (λ n. sym (listing.same k n) ∙ same_as_told First rows m loads k n)) ∙ ap (λ told. told_rows First told m) none

pub migrated_rows_are_theirs : MigratedRowsAreTheirs
unfolding migrating_ops
migrated_rows_are_theirs rows kept m loads listing =
    let names : Names = names_in m.setup in
    ap (with_ops (map (put_part names) (migrating_parts m))) (first_rows rows kept m loads listing)
    ∙ parts_put names (migrating_parts m) (told_at First 0 m)
    ∙ ap (texts names) (migrated m)
    ∙ sym (rows_are m)

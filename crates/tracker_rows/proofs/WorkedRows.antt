-- Worked rows: what loads, and which row is the first bad one.
use Rattle.std.proofs.Common.{◌≡◌, ◌≢◌, ℕ, ◌+◌, ◌<◌, ◌≤◌, ◌⊎◌, inl, inr, nat_lt, true, List, [], ◌∷◌, length, None, codes, Ok, pos, refl, sym, ap, subst, arith}
use Rattle.std.specs.Option.{option_or}
use Rattle.std.proofs.lemmas.Bool.Decides.{nat_tests}
use Rattle.std.proofs.lemmas.List.Elements.{All-nil, All-cons}
use Rattle.std.specs.Fmt.{digits}
use Rattle.serde_json.proofs.OnLiterals.{serde_json_on_literals}
use Rattle.field_values.specs.declared.numbers.UserNo.{UserNo}
use Rattle.field_values.specs.declared.parts.Group.{Group as UserGroup}
use Rattle.field_values.specs.declared.parts.Project.{Project}
use Rattle.field_values.specs.declared.status.Status.{Status}
use Rattle.field_values.specs.declared.words.Category.TheVariants.{ToDo}
use Rattle.field_values.specs.declared.words.Weekday.TheVariants.{Monday}
use Rattle.field_values.specs.Parts.{Parts}
use Rattle.fields.specs.SetupParts.{names_in}
use Rattle.setup_reading.specs.Reading.{setup_in}
use Rattle.external_ids.specs.Ids.{external_named}
use Rattle.rank_balancer.specs.declared.balance.Balance.TheVariants.{Idle}
use Rattle.tracker_keeper.specs.declared.row.Row.{Row}
use Rattle.tracker_keeper.specs.declared.part.Part.{Part}
use Rattle.tracker_keeper.specs.declared.part.Part.TheVariants as part
use Rattle.tracker_keeper.specs.declared.part.Format.{Format}
use Rattle.tracker_keeper.specs.declared.part.Format.TheVariants.{First, Second}
use Rattle.tracker_keeper.specs.Bodies.{body_text, present_data, members_data}
use Rattle.tracker_keeper.specs.Kept.{IsPart, IsRowOf}
use Rattle.tracker_keeper.specs.Parts.{part_kind, part_number}
use Rattle.tracker_keeper.specs.Rows.{IsBelow}
use Rattle.tracker_machine.specs.Machine.{Machine, opening}
use Rattle.tracker_rows.specs.Listed.{InOrder, IsAhead, IsAlone}
use Rattle.tracker_rows.specs.Gathered.{Gathered, joined, with_part, with_setup, rank_due, members_due}
use Rattle.tracker_rows.specs.Gathered.Gathered.{Nothing, HasSetup, Stands}
use Rattle.tracker_rows.specs.Rules.{MayFollow, MayJoin}
use Rattle.tracker_rows.specs.Loading.{IsInTime, IsGood, AreRead, Loads, IsMissing, IsBad, IsFirstBad}
use Rattle.tracker_rows.proofs.Rising.{Rise, rising_pairs}
use Rattle.tracker_rows.proofs.Verdicts.{good_rows_lead_on}

abbrev row : ℕ → ℕ → List ℕ → Row
row kind number body = record { kind = kind; no = number; body = body }

-- present's of a new tracker
abbrev present_body : Format → List ℕ
present_body First = codes "{\"balance\":[0],\"change\":0,\"format\":1,\"moment\":0}"
present_body Second = codes "{\"balance\":[0],\"change\":0,\"format\":2,\"moment\":0}"

abbrev present_row : Format → Row
present_row format = row 2 0 (present_body format)

-- rows that rise stand in order
in_order : (rows : List Row) → Rise rows → InOrder rows
in_order rows rise = λ i j d less within below. not_both (rising_pairs rows rise i j d less within) below
  where
    not_both : {a b c e : ℕ} → (a < b) ⊎ ((a ≡ b) × (c < e)) → (b < a) ⊎ ((b ≡ a) × (e < c)) → ⊥
    not_both (inl one) (inl other) = omega (arith, one, other)
    not_both (inl one) (inr other) = omega (arith, one, other.0)
    not_both (inr one) (inl other) = omega (arith, one.0, other)
    not_both (inr one) (inr other) = omega (arith, one.1, other.1)

-- so do three rows of which each stands behind the one before, and four
three_in_order : (a b c : Row) → IsBelow a b → IsBelow b c → IsBelow a c → InOrder (a ∷ b ∷ c ∷ [])
three_in_order a b c ab bc ac = in_order (a ∷ b ∷ c ∷ []) (
  All-cons (IsBelow a) b (c ∷ []) ab (All-cons (IsBelow a) c [] ac (All-nil (IsBelow a))),
  (All-cons (IsBelow b) c [] bc (All-nil (IsBelow b)), (All-nil (IsBelow c), tt)),
)

four_in_order : (a b c e : Row) → IsBelow a b → IsBelow a c → IsBelow a e → IsBelow b c → IsBelow b e → IsBelow c e → InOrder (a ∷ b ∷ c ∷ e ∷ [])
four_in_order a b c e ab ac ae bc be ce = in_order (a ∷ b ∷ c ∷ e ∷ []) (
  All-cons (IsBelow a) b (c ∷ e ∷ []) ab (All-cons (IsBelow a) c (e ∷ []) ac (All-cons (IsBelow a) e [] ae (All-nil (IsBelow a)))),
  (
    All-cons (IsBelow b) c (e ∷ []) bc (All-cons (IsBelow b) e [] be (All-nil (IsBelow b))),
    (All-cons (IsBelow c) e [] ce (All-nil (IsBelow c)), (All-nil (IsBelow e), tt)),
  ),
)

not_ahead : {a b c e : ℕ} → b ≤ a → e ≤ c → (a < b) ⊎ ((a ≡ b) × (c < e)) → ⊥
not_ahead kinds numbers (inl less) = omega (arith, kinds, less)
not_ahead kinds numbers (inr same) = omega (arith, numbers, same.1)

-- ---- what is missing or bad whatever has been read

-- at the end, the rank of an issue is missing before the members of any group
pub ranks_are_missing_first : (format : Format) (told : ℕ) (m : Machine) → length m.order < length m.histories
    → IsMissing (Stands format told m) [] 5 (length m.order + 1)
ranks_are_missing_first format told m fewer = record {
  due_is = ap (λ left. option_or (rank_due left (length m.order)) (members_due format told m.setup.group)) left;
  behind = All-nil (IsAhead 5 (length m.order + 1));
}
  where
    left : nat_lt (length m.order) (length m.histories) ≡ true
    left = grind (arith, nat_tests, fewer)

-- the members of a group, in rows of the first format
no_members : (m : Machine) (p : Part) → part_kind p ≡ 10 → MayJoin First m p → ⊥
unfolding MayJoin
no_members m (part.Setup text) kind may = may
no_members m (part.Present balance change format moment) kind may = may
no_members m (part.Issue issue key change at author values) kind may = omega (arith, kind)
no_members m (part.Group issue group) kind may = omega (arith, kind)
no_members m (part.Rank issue rank) kind may = omega (arith, kind)
no_members m (part.External issue external) kind may = omega (arith, kind)
no_members m (part.Sprint sprint_no sprint) kind may = omega (arith, kind)
no_members m (part.Filter filter_no owner name jql) kind may = omega (arith, kind)
no_members m (part.Board board_no name filter) kind may = omega (arith, kind)
no_members m (part.Members group members) kind may = cc

-- an external id of an issue that isn't there, or one that another issue has
no_external : (format : Format) (m : Machine) (number : ℕ) (id : List ℕ) (p : Part) → IsRowOf m.setup 6 number id p → MayJoin format m p
    → (number ≤ length m.histories) × (external_named id m.externals ≡ None)
unfolding MayJoin body_text
no_external format m number id (part.Setup text) tells may = absurd may
no_external format m number id (part.Present balance change other moment) tells may = absurd may
no_external format m number id (part.Issue issue key change at author values) tells may = absurd (omega (arith, tells.at.kind_is))
no_external format m number id (part.Group issue group) tells may = absurd (omega (arith, tells.at.kind_is))
no_external format m number id (part.Rank issue rank) tells may = absurd (omega (arith, tells.at.kind_is))
no_external format m number id (part.External issue external) tells may =
    (omega (arith, tells.at.number_is, may.there), subst (λ i. external_named i m.externals ≡ None) tells.text_is may.alone)
no_external format m number id (part.Sprint sprint_no sprint) tells may = absurd (omega (arith, tells.at.kind_is))
no_external format m number id (part.Filter filter_no owner name jql) tells may = absurd (omega (arith, tells.at.kind_is))
no_external format m number id (part.Board board_no name filter) tells may = absurd (omega (arith, tells.at.kind_is))
no_external format m number id (part.Members group members) tells may = absurd (omega (arith, tells.at.kind_is))

pub doubled_id_is_bad : (rows : List Row) (format : Format) (told : ℕ) (m : Machine) (number : ℕ) (id : List ℕ) → external_named id m.externals ≢ None
    → IsInTime (Stands format told m) (row 6 number id) → IsBad rows (Stands format told m) (row 6 number id) 6 number
unfolding MayFollow
doubled_id_is_bad rows format told m number id doubled timely = record {
  kind_is = refl;
  number_is = refl;
  in_time = timely;
  bad = λ p good. doubled (no_external format m number id p good.tells good.follows).1;
}

-- ---- a setup's row and present's

module _ (text : List ℕ) (setup : Parts) (reads : setup_in text ≡ Ok setup) where
  abbrev setup_row : Row
  setup_row = row 1 0 text

  present_text : (format : Format) → body_text (names_in setup) (part.Present (Idle 0) 0 format 0) ≡ present_body format
  unfolding body_text present_data digits serde_json_on_literals
  present_text First = refl
  present_text Second = refl

  -- where no other row has their places, they lead to a new tracker of that setup
  opening_read : (format : Format) (rows : List Row) → IsAlone rows setup_row → IsAlone rows (present_row format)
      → AreRead rows Nothing (setup_row ∷ present_row format ∷ []) (Stands format 0 (opening text setup))
  unfolding with_part MayFollow IsPart body_text
  opening_read format rows one other = (
    not_ahead (omega arith) (omega arith),
    (
      part.Setup text,
      record {
        alone = one;
        tells = (setup, record { at = record { is_part = (setup, reads); kind_is = refl; number_is = refl }; text_is = refl });
        sprints = tt;
        follows = tt;
      },
      subst (λ g. AreRead rows g (present_row format ∷ []) (Stands format 0 (opening text setup))) (sym (ap (with_setup text) reads)) (
        not_ahead (omega arith) (omega arith),
        (
          part.Present (Idle 0) 0 format 0,
          record {
            alone = other;
            tells = record {
              at = record { is_part = record { balanced = refl; stamped = record { timely = omega arith; counted = omega arith } }; kind_is = refl; number_is = refl };
              text_is = present_text format;
            };
            sprints = tt;
            follows = record { counted = omega arith };
          },
          refl,
        ),
      ),
    ),
  )

  two_in_order : (format : Format) → InOrder (setup_row ∷ present_row format ∷ [])
  two_in_order format = in_order (setup_row ∷ present_row format ∷ [])
      (All-cons (IsBelow setup_row) (present_row format) [] (inl (omega arith)) (All-nil (IsBelow setup_row)), (All-nil (IsBelow (present_row format)), tt))

  pub opening_rows_load : Loads First (setup_row ∷ present_row First ∷ []) (opening text setup)
  opening_rows_load = record {
    ordered = two_in_order First;
    told = 0;
    read = opening_read First (setup_row ∷ present_row First ∷ []) refl refl;
    whole = refl;
  }

  -- ---- a row that is missing

  pub present_is_missing : IsFirstBad (setup_row ∷ []) 2 0
  unfolding with_part MayFollow IsPart body_text
  present_is_missing = record {
    ordered = in_order (setup_row ∷ []) (All-nil (IsBelow setup_row), tt);
    front = setup_row ∷ [];
    left = [];
    apart = refl;
    gathered = HasSetup text setup;
    read = (
      not_ahead (omega arith) (omega arith),
      (
        part.Setup text,
        record {
          alone = refl;
          tells = (setup, record { at = record { is_part = (setup, reads); kind_is = refl; number_is = refl }; text_is = refl });
          sprints = tt;
          follows = tt;
        },
        sym (ap (with_setup text) reads),
      ),
    );
    next = inl (record { due_is = refl; behind = All-nil (IsAhead 2 0) });
  }

  -- ---- a third row that is bad

  abbrev rows_with : Row → List Row
  rows_with third = setup_row ∷ present_row First ∷ third ∷ []

  -- behind the rows of a new tracker
  third_is_bad : (third : Row) → 2 < third.kind → IsAlone (rows_with third) setup_row → IsAlone (rows_with third) (present_row First)
      → ((p : Part) → ¬ IsGood (rows_with third) (Stands First 0 (opening text setup)) third p) → IsFirstBad (rows_with third) third.kind third.no
  third_is_bad third behind one two bad = record {
    ordered = three_in_order setup_row (present_row First) third (inl (omega arith)) (inl behind) (inl (omega (arith, behind)));
    front = setup_row ∷ present_row First ∷ [];
    left = third ∷ [];
    apart = refl;
    gathered = Stands First 0 (opening text setup);
    read = opening_read First (rows_with third) one two;
    next = inr (record { kind_is = refl; number_is = refl; in_time = tt; bad = bad });
  }

  -- the first issue has the number 2
  no_second : (p : Part) → part_kind p ≡ 3 → part_number p ≡ 2 → MayJoin First (opening text setup) p → ⊥
  unfolding MayJoin
  no_second (part.Issue issue key change at author values) kind number may = omega (arith, number, may.no)
  no_second (part.Setup other) kind number may = may
  no_second (part.Present balance change format moment) kind number may = may
  no_second (part.Group issue group) kind number may = omega (arith, kind)
  no_second (part.Rank issue rank) kind number may = omega (arith, kind)
  no_second (part.External issue external) kind number may = omega (arith, kind)
  no_second (part.Sprint sprint_no sprint) kind number may = omega (arith, kind)
  no_second (part.Filter filter_no owner name jql) kind number may = omega (arith, kind)
  no_second (part.Board board_no name filter) kind number may = omega (arith, kind)
  no_second (part.Members group members) kind number may = omega (arith, kind)

  pub second_issue_is_bad : (body : List ℕ) → IsFirstBad (rows_with (row 3 2 body)) 3 2
  unfolding MayFollow
  second_issue_is_bad body =
      third_is_bad (row 3 2 body) (omega arith) refl refl (λ p good. no_second p good.tells.at.kind_is good.tells.at.number_is good.follows)

  -- an external id of an issue that isn't there
  pub stray_id_is_bad : (id : List ℕ) → IsFirstBad (rows_with (row 6 1 id)) 6 1
  unfolding MayFollow
  stray_id_is_bad id =
      third_is_bad (row 6 1 id) (omega arith) refl refl
      (λ p good. let there = no_external First (opening text setup) 1 id p good.tells good.follows in omega (arith, there.0))

  -- a group's members, in rows of the first format
  pub first_rows_tell_no_members : (body : List ℕ) → IsFirstBad (rows_with (row 10 1 body)) 10 1
  unfolding MayFollow
  first_rows_tell_no_members body =
      third_is_bad (row 10 1 body) (omega arith) refl refl (λ p good. no_members (opening text setup) p good.tells.at.kind_is good.follows)

-- where there is no row at all, the setup's is missing
pub setup_is_missing : IsFirstBad [] 1 0
setup_is_missing = record {
  ordered = in_order [] tt;
  front = [];
  left = [];
  apart = refl;
  gathered = Nothing;
  read = refl;
  next = inl (record { due_is = refl; behind = All-nil (IsAhead 1 0) });
}

-- ---- a setup of two groups, in rows of the second format

abbrev user : ℕ → UserNo
user place = record { 0 = place }

abbrev group_named : List ℕ → List UserNo → UserGroup
group_named name members = record { name = name; members = members }

abbrev project : List ℕ → Project
project key = record { key = key; lead = user 0; browse = []; create = []; edit = []; transition = []; rank = [] }

abbrev to_do : Status
to_do = record { name = codes "Open"; category = ToDo }

abbrev with_two_groups : List UserNo → List UserNo → Parts
with_two_groups team admins = record {
  utc_offset_minutes = pos 0;
  week_starts = Monday;
  rebalancer = user 0;
  users = codes "anna" ∷ codes "bo" ∷ [];
  types = codes "Task" ∷ [];
  priorities = codes "High" ∷ [];
  resolutions = codes "Fixed" ∷ [];
  versions = [];
  first_status = record { 0 = 0 };
  plan = [];
  administer = [];
  group = group_named (codes "team") team ∷ group_named (codes "admins") admins ∷ [];
  project = project (codes "OPS") ∷ [];
  status = to_do ∷ [];
  transition = [];
  field = [];
  offset = [];
}

abbrev team_row : Row
team_row = row 10 1 (codes "{\"members\":[\"anna\",\"bo\"]}")

abbrev admins_row : Row
admins_row = row 10 2 (codes "{\"members\":[]}")

abbrev team_part : Part
team_part = part.Members (record { 0 = 1 }) (user 0 ∷ user 1 ∷ [])

abbrev admins_part : Part
admins_part = part.Members (record { 0 = 2 }) []

module _ (text : List ℕ) (reads : setup_in text ≡ Ok (with_two_groups (user 0 ∷ []) (user 1 ∷ []))) where
  abbrev written : Parts
  written = with_two_groups (user 0 ∷ []) (user 1 ∷ [])

  abbrev begun : Gathered
  begun = Stands Second 0 (opening text written)

  abbrev with_team : Gathered
  with_team = Stands Second 1 (opening text (with_two_groups (user 0 ∷ user 1 ∷ []) (user 1 ∷ [])))

  -- the row of the team's members
  team_reads : (rows : List Row) → IsAlone rows (setup_row text written reads) → IsAlone rows (present_row Second) → IsAlone rows team_row
      → AreRead rows Nothing (setup_row text written reads ∷ present_row Second ∷ team_row ∷ []) with_team
  unfolding with_part joined MayFollow MayJoin IsPart body_text members_data digits serde_json_on_literals
  team_reads rows one two three =
      good_rows_lead_on rows (setup_row text written reads ∷ present_row Second ∷ []) begun team_row team_part
      (opening_read text written reads Second rows one two) (not_ahead (omega arith) (omega arith)) (record {
        alone = three;
        tells = record { at = record { is_part = record { from_one = omega arith; there = omega arith; listed = refl }; kind_is = refl; number_is = refl }; text_is = refl };
        sprints = tt;
        follows = refl;
      })

  abbrev all_rows : List Row
  all_rows = setup_row text written reads ∷ present_row Second ∷ team_row ∷ admins_row ∷ []

  -- the members are those that rows tell, whatever the setup's text says
  pub second_rows_load : Loads Second all_rows (opening text (with_two_groups (user 0 ∷ user 1 ∷ []) []))
  unfolding with_part joined MayFollow MayJoin IsPart body_text members_data digits serde_json_on_literals
  second_rows_load = record {
    ordered = four_in_order (setup_row text written reads) (present_row Second) team_row admins_row
        (inl (omega arith)) (inl (omega arith)) (inl (omega arith)) (inl (omega arith)) (inl (omega arith)) (inr (refl, omega arith));
    told = 2;
    read = good_rows_lead_on all_rows (setup_row text written reads ∷ present_row Second ∷ team_row ∷ []) with_team admins_row admins_part
        (team_reads all_rows refl refl refl) (not_ahead (omega arith) (omega arith)) (record {
          alone = refl;
          tells = record { at = record { is_part = record { from_one = omega arith; there = omega arith; listed = refl }; kind_is = refl; number_is = refl }; text_is = refl };
          sprints = tt;
          follows = refl;
        });
    whole = refl;
  }

  -- the row of the second group is missing
  pub admins_are_missing : IsFirstBad (setup_row text written reads ∷ present_row Second ∷ team_row ∷ []) 10 2
  admins_are_missing = record {
    ordered = three_in_order (setup_row text written reads) (present_row Second) team_row (inl (omega arith)) (inl (omega arith)) (inl (omega arith));
    front = setup_row text written reads ∷ present_row Second ∷ team_row ∷ [];
    left = [];
    apart = refl;
    gathered = with_team;
    read = team_reads (setup_row text written reads ∷ present_row Second ∷ team_row ∷ []) refl refl refl;
    next = inl (record { due_is = refl; behind = All-nil (IsAhead 10 2) });
  }

  -- that of the first group is missing before that of the second
  pub team_is_missing : IsFirstBad (setup_row text written reads ∷ present_row Second ∷ admins_row ∷ []) 10 1
  team_is_missing = record {
    ordered = three_in_order (setup_row text written reads) (present_row Second) admins_row (inl (omega arith)) (inl (omega arith)) (inl (omega arith));
    front = setup_row text written reads ∷ present_row Second ∷ [];
    left = admins_row ∷ [];
    apart = refl;
    gathered = begun;
    read = opening_read text written reads Second (setup_row text written reads ∷ present_row Second ∷ admins_row ∷ []) refl refl;
    next = inl (record { due_is = refl; behind = All-cons (IsAhead 10 1) admins_row [] (inr (refl, omega arith)) (All-nil (IsAhead 10 1)) });
  }

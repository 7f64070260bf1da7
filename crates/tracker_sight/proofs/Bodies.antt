-- A body of the same members as a line is read as the line is.
use Rattle.std.proofs.Common.{◌≡◌, ℕ, Bool, true, false, not, cond, List, [], ◌∷◌, codes, filter, Option, Some, None, Ok, refl, sym, ◌∙◌, ap, inl, inr}
use Rattle.std.specs.Prelude.{find, option_and_then, if◌then◌else◌}
use Rattle.std.specs.Option.{option_map_or}
use Rattle.std.specs.Str.{bytes_eq}
use Rattle.std.proofs.lemmas.Bool.{cases_Bool, true≢false}
use Rattle.std.proofs.lemmas.Slice.Eq.{bytes_eq-Decides}
use Rattle.serde_json.specs.Data.{Data, object, Members}
use Rattle.serde_json.specs.Find.{get, as_str, as_number, as_u64}
use Rattle.field_forms.specs.Names.{is_title}
use Rattle.json_texts.specs.JsonMembers.{text_at, title_at}
use Rattle.tracker_calls.specs.declared.call.Call.{Call}
use Rattle.call_lines.specs.declared.kind.CallKind.{CallKind}
use Rattle.call_lines.specs.declared.kind.CallKind.TheVariants as kind
use Rattle.call_lines.specs.Asked.{Asked, line_of, call_of, asked_by, need, no_other, names_of, kind_named, is_member, first_other, number_at, moment_of, moment_at, other_than}
use Rattle.call_lines.specs.Given.{given_set, set_at, none_or, set_if_there}
use Rattle.call_lines.specs.Named.{external_or_none, external_if_there, names_given, names_at, fields_or_none, fields_if_there}
use Rattle.call_lines.specs.Part.{whole_within, whole_or, from_if_there, count_if_there, count_at}
use Rattle.call_lines.specs.Body.{body_of, body_kind, members_call, is_body_member, first_unknown, asked_alone, asked_beside}
use Rattle.tracker_sight.specs.Bodies.{is_user, IsLineOf, asks_to_tick, BodiesAskAsLines}

-- ---- names

-- the first name that passes is found among those that another test leaves, where what that takes out doesn't pass
found_among : (p q : List ℕ → Bool) → ((x : List ℕ) → q x ≡ false → p x ≡ false) → (xs : List (List ℕ)) → find p xs ≡ find p (filter q xs)
found_among p q implies [] = refl
found_among p q implies (x ∷ xs) = elim (cases_Bool (q x)) [
  | inl stays ↦ rw stays (ap (λ o. cond (p x) (Some x) o) (found_among p q implies xs))
  | inr goes ↦ rw (goes, implies x goes) (found_among p q implies xs)
]

-- of names that all pass a test, one that asks for it too finds the same
found_alike : (p r q : List ℕ → Bool) → ((x : List ℕ) → q x ≡ true → p x ≡ r x) → (xs : List (List ℕ)) → find p (filter q xs) ≡ find r (filter q xs)
found_alike p r q alike [] = refl
found_alike p r q alike (x ∷ xs) = elim (cases_Bool (q x)) [
  | inl stays ↦ rw (stays, alike x stays) (ap (λ o. cond (r x) (Some x) o) (found_alike p r q alike xs))
  | inr goes ↦ rw goes (found_alike p r q alike xs)
]

module _ (kind : CallKind) (knows : (name : List ℕ) → is_user name ≡ true → is_member kind name ≡ true) where
  not_unknown : (b : Bool) (name : List ℕ) → is_user name ≡ b → not b ≡ false → not (is_member kind name) ≡ false
  not_unknown true name is goes = ap not (knows name is)
  not_unknown false name is goes = absurd (true≢false goes)

  as_unknown : (b c : Bool) (name : List ℕ) → is_user name ≡ b → not b ≡ true → is_member kind name ≡ c → not (is_member kind name) ≡ not (is_body_member kind name)
  as_unknown true c name is stays member = absurd (true≢false (sym stays))
  as_unknown false true name is stays member = rw (member, is) refl
  as_unknown false false name is stays member = rw member refl

  same_unknown : (own names : List (List ℕ)) → filter (λ name. not (is_user name)) own ≡ names → first_other kind own ≡ first_unknown kind names
  same_unknown own names is =
      found_among (λ name. not (is_member kind name)) (λ name. not (is_user name)) (λ name goes. not_unknown (is_user name) name refl goes) own
      ∙ found_alike (λ name. not (is_member kind name)) (λ name. not (is_body_member kind name)) (λ name. not (is_user name))
      (λ name stays. as_unknown (is_user name) (is_member kind name) name refl stays refl) own
      ∙ ap (find (λ name. not (is_body_member kind name))) is

-- ---- members

module _ (members own : Members) (values : (name : List ℕ) → is_user name ≡ false → get name (object own) ≡ get name (object members)) (user : List ℕ) where
  text_same : (name : List ℕ) → is_user name ≡ false → text_at name (object own) ≡ text_at name (object members)
  text_same name not_user = ap (option_and_then as_str) (values name not_user)

  title_same : (name : List ℕ) → is_user name ≡ false → title_at name (object own) ≡ title_at name (object members)
  title_same name not_user = ap (option_and_then (λ text. if is_title text then Some text else None)) (text_same name not_user)

  number_same : (name : List ℕ) → is_user name ≡ false → number_at name (object own) ≡ number_at name (object members)
  number_same name not_user = ap (option_and_then (whole_within 0 4_294_967_295)) (values name not_user)

  moment_same : (name : List ℕ) → is_user name ≡ false → moment_at name (object own) ≡ moment_at name (object members)
  moment_same name not_user = ap (λ (o : Option Data). option_and_then moment_of (option_and_then as_u64 (option_and_then as_number o))) (values name not_user)

  names_same : (name : List ℕ) → is_user name ≡ false → names_at name (object own) ≡ names_at name (object members)
  names_same name not_user = ap (option_and_then names_given) (values name not_user)

  other_same : (issue : List ℕ) → other_than issue (object own) ≡ other_than issue (object members)
  other_same issue = ap (option_and_then (λ other. if bytes_eq other issue then None else Some other)) (text_same (codes "other") refl)

  set_same : set_at (object own) ≡ set_at (object members)
  set_same = ap (option_and_then given_set) (values (codes "set") refl)

  set_or_none_same : set_if_there (object own) ≡ set_if_there (object members)
  set_or_none_same = ap none_or (values (codes "set") refl)

  external_same : external_if_there (object own) ≡ external_if_there (object members)
  external_same = ap external_or_none (values (codes "external") refl)

  fields_same : fields_if_there (object own) ≡ fields_if_there (object members)
  fields_same = ap fields_or_none (values (codes "fields") refl)

  from_same : from_if_there (object own) ≡ from_if_there (object members)
  from_same = ap (whole_or 0 0 2_000_000) (values (codes "from") refl)

  part_same : (most : ℕ) → count_if_there most (object own) ≡ count_if_there most (object members)
  part_same most = ap (whole_or most 1 most) (values (codes "count") refl)

  count_same : (most : ℕ) → count_at most (object own) ≡ count_at most (object members)
  count_same most = ap (option_and_then (whole_within 1 most)) (values (codes "count") refl)

  module _ {other unknown : Option (List ℕ)} (same : other ≡ unknown) where
    -- at one member, and then at the others
    first : {A : Type 0} (o p : Option A) (name : List ℕ) (line alone : A → Asked) → o ≡ p → ((x : A) → asked_beside unknown user (alone x) ≡ line x)
        → asked_beside unknown user (need p name alone) ≡ need o name line
    first {A = A} o p name line alone is later = ap (λ q. asked_beside unknown user (need q name alone)) (sym is) ∙ by o
      where
        by : (q : Option A) → asked_beside unknown user (need q name alone) ≡ need q name line
        by None = refl
        by (Some x) = later x

    told : (call : Call) → asked_beside unknown user (Ok ([], call)) ≡ no_other other (Ok (user, call))
    told call = ap (λ o. no_other o (Ok (user, call))) (sym same)

  looked : (kind : CallKind) → first_other kind (names_of own) ≡ first_unknown kind (names_of members)
      → asked_beside (first_unknown kind (names_of members)) user (asked_alone kind members) ≡ asked_by kind (object own) own user
  looked kind.Create same =
      first same (text_at (codes "project") (object own)) (text_at (codes "project") (object members)) (codes "project") _ _ (text_same (codes "project") refl) (λ project.
      first same (text_at (codes "type") (object own)) (text_at (codes "type") (object members)) (codes "type") _ _ (text_same (codes "type") refl) (λ type.
      first same (text_at (codes "summary") (object own)) (text_at (codes "summary") (object members)) (codes "summary") _ _ (text_same (codes "summary") refl) (λ summary.
      first same (set_if_there (object own)) (set_if_there (object members)) (codes "set") _ _ set_or_none_same (λ set.
      first same (external_if_there (object own)) (external_if_there (object members)) (codes "external") _ _ external_same (λ external.
      told same _)))))
  looked kind.Edit same =
      first same (text_at (codes "issue") (object own)) (text_at (codes "issue") (object members)) (codes "issue") _ _ (text_same (codes "issue") refl) (λ issue.
      first same (set_at (object own)) (set_at (object members)) (codes "set") _ _ set_same (λ set.
      told same _))
  looked kind.Transition same =
      first same (text_at (codes "issue") (object own)) (text_at (codes "issue") (object members)) (codes "issue") _ _ (text_same (codes "issue") refl) (λ issue.
      first same (text_at (codes "transition") (object own)) (text_at (codes "transition") (object members)) (codes "transition") _ _ (text_same (codes "transition") refl) (λ transition.
      first same (set_if_there (object own)) (set_if_there (object members)) (codes "set") _ _ set_or_none_same (λ set.
      told same _)))
  looked kind.Tick same =
      first same (moment_at (codes "to") (object own)) (moment_at (codes "to") (object members)) (codes "to") _ _ (moment_same (codes "to") refl) (λ to.
      told same _)
  looked kind.MoveBefore same =
      first same (text_at (codes "issue") (object own)) (text_at (codes "issue") (object members)) (codes "issue") _ _ (text_same (codes "issue") refl) (λ issue.
      first same (other_than issue (object own)) (other_than issue (object members)) (codes "other") _ _ (other_same issue) (λ other.
      told same _))
  looked kind.MoveAfter same =
      first same (text_at (codes "issue") (object own)) (text_at (codes "issue") (object members)) (codes "issue") _ _ (text_same (codes "issue") refl) (λ issue.
      first same (other_than issue (object own)) (other_than issue (object members)) (codes "other") _ _ (other_same issue) (λ other.
      told same _))
  looked kind.RebalanceStart same =
      told same _
  looked kind.RebalanceStep same =
      first same (count_at 1000 (object own)) (count_at 1000 (object members)) (codes "count") _ _ (count_same 1000) (λ count.
      told same _)
  looked kind.SaveFilter same =
      first same (title_at (codes "name") (object own)) (title_at (codes "name") (object members)) (codes "name") _ _ (title_same (codes "name") refl) (λ name.
      first same (text_at (codes "jql") (object own)) (text_at (codes "jql") (object members)) (codes "jql") _ _ (text_same (codes "jql") refl) (λ jql.
      told same _))
  looked kind.DropFilter same =
      first same (number_at (codes "filter") (object own)) (number_at (codes "filter") (object members)) (codes "filter") _ _ (number_same (codes "filter") refl) (λ filter.
      told same _)
  looked kind.MakeBoard same =
      first same (title_at (codes "name") (object own)) (title_at (codes "name") (object members)) (codes "name") _ _ (title_same (codes "name") refl) (λ name.
      first same (number_at (codes "filter") (object own)) (number_at (codes "filter") (object members)) (codes "filter") _ _ (number_same (codes "filter") refl) (λ filter.
      told same _))
  looked kind.DropBoard same =
      first same (number_at (codes "board") (object own)) (number_at (codes "board") (object members)) (codes "board") _ _ (number_same (codes "board") refl) (λ board.
      told same _)
  looked kind.MakeSprint same =
      first same (title_at (codes "name") (object own)) (title_at (codes "name") (object members)) (codes "name") _ _ (title_same (codes "name") refl) (λ name.
      told same _)
  looked kind.StartSprint same =
      first same (number_at (codes "sprint") (object own)) (number_at (codes "sprint") (object members)) (codes "sprint") _ _ (number_same (codes "sprint") refl) (λ sprint.
      told same _)
  looked kind.CloseSprint same =
      first same (number_at (codes "sprint") (object own)) (number_at (codes "sprint") (object members)) (codes "sprint") _ _ (number_same (codes "sprint") refl) (λ sprint.
      told same _)
  looked kind.SetGroup same =
      first same (text_at (codes "group") (object own)) (text_at (codes "group") (object members)) (codes "group") _ _ (text_same (codes "group") refl) (λ group.
      first same (names_at (codes "members") (object own)) (names_at (codes "members") (object members)) (codes "members") _ _ (names_same (codes "members") refl) (λ names.
      told same _))
  looked kind.Show same =
      first same (text_at (codes "issue") (object own)) (text_at (codes "issue") (object members)) (codes "issue") _ _ (text_same (codes "issue") refl) (λ issue.
      told same _)
  looked kind.History same =
      first same (text_at (codes "issue") (object own)) (text_at (codes "issue") (object members)) (codes "issue") _ _ (text_same (codes "issue") refl) (λ issue.
      first same (from_if_there (object own)) (from_if_there (object members)) (codes "from") _ _ from_same (λ from.
      first same (count_if_there 50 (object own)) (count_if_there 50 (object members)) (codes "count") _ _ (part_same 50) (λ count.
      told same _)))
  looked kind.Search same =
      first same (text_at (codes "jql") (object own)) (text_at (codes "jql") (object members)) (codes "jql") _ _ (text_same (codes "jql") refl) (λ jql.
      first same (from_if_there (object own)) (from_if_there (object members)) (codes "from") _ _ from_same (λ from.
      first same (count_if_there 1000 (object own)) (count_if_there 1000 (object members)) (codes "count") _ _ (part_same 1000) (λ count.
      told same _)))
  looked kind.Ranks same =
      first same (from_if_there (object own)) (from_if_there (object members)) (codes "from") _ _ from_same (λ from.
      first same (count_if_there 1000 (object own)) (count_if_there 1000 (object members)) (codes "count") _ _ (part_same 1000) (λ count.
      told same _))
  looked kind.Balance same =
      told same _
  looked kind.Filter same =
      first same (number_at (codes "filter") (object own)) (number_at (codes "filter") (object members)) (codes "filter") _ _ (number_same (codes "filter") refl) (λ filter.
      first same (from_if_there (object own)) (from_if_there (object members)) (codes "from") _ _ from_same (λ from.
      first same (count_if_there 1000 (object own)) (count_if_there 1000 (object members)) (codes "count") _ _ (part_same 1000) (λ count.
      told same _)))
  looked kind.Board same =
      first same (number_at (codes "board") (object own)) (number_at (codes "board") (object members)) (codes "board") _ _ (number_same (codes "board") refl) (λ board.
      first same (from_if_there (object own)) (from_if_there (object members)) (codes "from") _ _ from_same (λ from.
      first same (count_if_there 1000 (object own)) (count_if_there 1000 (object members)) (codes "count") _ _ (part_same 1000) (λ count.
      told same _)))
  looked kind.Burndown same =
      first same (number_at (codes "sprint") (object own)) (number_at (codes "sprint") (object members)) (codes "sprint") _ _ (number_same (codes "sprint") refl) (λ sprint.
      first same (from_if_there (object own)) (from_if_there (object members)) (codes "from") _ _ from_same (λ from.
      first same (count_if_there 1000 (object own)) (count_if_there 1000 (object members)) (codes "count") _ _ (part_same 1000) (λ count.
      told same _)))
  looked kind.List same =
      first same (text_at (codes "jql") (object own)) (text_at (codes "jql") (object members)) (codes "jql") _ _ (text_same (codes "jql") refl) (λ jql.
      first same (fields_if_there (object own)) (fields_if_there (object members)) (codes "fields") _ _ fields_same (λ fields.
      first same (from_if_there (object own)) (from_if_there (object members)) (codes "from") _ _ from_same (λ from.
      first same (count_if_there 100 (object own)) (count_if_there 100 (object members)) (codes "count") _ _ (part_same 100) (λ count.
      told same _))))
  looked kind.Filters same =
      first same (from_if_there (object own)) (from_if_there (object members)) (codes "from") _ _ from_same (λ from.
      first same (count_if_there 1000 (object own)) (count_if_there 1000 (object members)) (codes "count") _ _ (part_same 1000) (λ count.
      told same _))
  looked kind.Boards same =
      first same (from_if_there (object own)) (from_if_there (object members)) (codes "from") _ _ from_same (λ from.
      first same (count_if_there 1000 (object own)) (count_if_there 1000 (object members)) (codes "count") _ _ (part_same 1000) (λ count.
      told same _))
  looked kind.Sprints same =
      first same (from_if_there (object own)) (from_if_there (object members)) (codes "from") _ _ from_same (λ from.
      first same (count_if_there 1000 (object own)) (count_if_there 1000 (object members)) (codes "count") _ _ (part_same 1000) (λ count.
      told same _))
  looked kind.Describe same = told same _

-- each call knows the member `user`
knows_user : (kind : CallKind) → is_member kind (codes "user") ≡ true
knows_user kind.Create = refl
knows_user kind.Edit = refl
knows_user kind.Transition = refl
knows_user kind.Tick = refl
knows_user kind.MoveBefore = refl
knows_user kind.MoveAfter = refl
knows_user kind.RebalanceStart = refl
knows_user kind.RebalanceStep = refl
knows_user kind.SaveFilter = refl
knows_user kind.DropFilter = refl
knows_user kind.MakeBoard = refl
knows_user kind.DropBoard = refl
knows_user kind.MakeSprint = refl
knows_user kind.StartSprint = refl
knows_user kind.CloseSprint = refl
knows_user kind.SetGroup = refl
knows_user kind.Show = refl
knows_user kind.History = refl
knows_user kind.Search = refl
knows_user kind.Ranks = refl
knows_user kind.Balance = refl
knows_user kind.Filter = refl
knows_user kind.Board = refl
knows_user kind.Burndown = refl
knows_user kind.List = refl
knows_user kind.Filters = refl
knows_user kind.Boards = refl
knows_user kind.Sprints = refl
knows_user kind.Describe = refl

knows : (kind : CallKind) (name : List ℕ) → is_user name ≡ true → is_member kind name ≡ true
knows kind name is = ap (is_member kind) ((bytes_eq-Decides name (codes "user")).0 is) ∙ knows_user kind

-- ---- the whole line

module _ (line body user : List ℕ) (is : IsLineOf line body user) where
  same_kind : (o : Option (List ℕ)) → option_map_or (λ name. bytes_eq name (codes "tick")) o false ≡ false → option_and_then body_kind o ≡ option_and_then kind_named o
  same_kind None ticks = refl
  same_kind (Some name) ticks = rw ticks refl

  asked_same : asks_to_tick is.members ≡ false → members_call is.members user ≡ need (option_and_then kind_named (text_at (codes "call") (object is.own))) (codes "call")
      (λ kind. asked_by kind (object is.own) is.own user)
  asked_same ticks =
      ap (λ (o : Option CallKind). need o (codes "call") (λ kind. asked_beside (first_unknown kind (names_of is.members)) user (asked_alone kind is.members)))
      (same_kind (text_at (codes "call") (object is.members)) ticks ∙ ap (option_and_then kind_named) (sym (text_same is.members is.own is.values user (codes "call") refl)))
      ∙ by (option_and_then kind_named (text_at (codes "call") (object is.own)))
    where
      by : (o : Option CallKind) → need o (codes "call") (λ kind. asked_beside (first_unknown kind (names_of is.members)) user (asked_alone kind is.members))
          ≡ need o (codes "call") (λ kind. asked_by kind (object is.own) is.own user)
      by None = refl
      by (Some kind) = looked is.members is.own is.values user kind (same_unknown kind (knows kind) (names_of is.own) (names_of is.members) is.names)

  read_same : asks_to_tick is.members ≡ false → body_of body (Some user) ≡ line_of line
  unfolding body_of line_of
  read_same ticks =
      ap (λ (o : Option Members). need o (codes "line") (λ members. members_call members user)) is.body_is
      ∙ asked_same ticks
      ∙ ap (λ (o : Option (List ℕ)). need o (codes "user") (λ name. need (option_and_then kind_named (text_at (codes "call") (object is.own))) (codes "call")
      (λ kind. asked_by kind (object is.own) is.own name))) (sym is.user_is)
      ∙ ap (λ (o : Option Data). need o (codes "line") call_of) (sym is.line_is)

pub bodies_ask_as_lines : BodiesAskAsLines
bodies_ask_as_lines line body user is ticks = read_same line body user is ticks

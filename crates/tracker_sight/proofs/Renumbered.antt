-- A tracker whose issues and changes have other numbers tells the same, but for the numbers of changes.
use Rattle.std.proofs.Common.{◌≡◌, ◌<◌, ℕ, pos, Ordering, suc, ◌+◌, ◌==◌, Bool, true, ◌&&◌, List, [], ◌∷◌, map, filter, length, drop, take, Option, Some, None, option_map, Result, Ok, Err, is_lt, nat_cmp, refl, sym, ◌∙◌, ap, ap₂, inl, inr, arith}
use Rattle.std.specs.Prelude.{if◌then◌else◌}
use Rattle.std.specs.Option.{option_map_or}
use Rattle.std.specs.Ordering.{ordering_then}
use Rattle.std.specs.Str.{bytes_eq}
use Rattle.std.proofs.lemmas.Bool.{cases_Bool, cases_eq, cases_lt, ne_eqb, eq-eqb, true≢false}
use Rattle.std.proofs.lemmas.List.{length-map, drop-map, take-map}
use Rattle.field_values.specs.declared.numbers.TheConstants.FieldNo as number
use Rattle.field_values.specs.declared.numbers.FilterNo.{FilterNo}
use Rattle.field_values.specs.declared.numbers.BoardNo.{BoardNo}
use Rattle.field_values.specs.declared.rules.Permission.TheVariants as permission
use Rattle.field_values.specs.declared.status.Status.{Status}
use Rattle.field_values.specs.Parts.{Parts}
use Rattle.field_forms.specs.Known.{Names}
use Rattle.fields.specs.SetupParts.{names_in}
use Rattle.fields.specs.Naming.{field_name, field_numbers}
use Rattle.change_history.specs.History.{History}
use Rattle.workflow.specs.Conditions.{project_number}
use Rattle.board.specs.Order.{Pair, places_before}
use Rattle.board.specs.declared.board.Board.{Board}
use Rattle.jql_bound.specs.Condition.{Condition}
use Rattle.jql_bound.specs.declared.leaf.Subject.{Subject}
use Rattle.jql_bound.specs.declared.leaf.Subject.TheVariants as subject
use Rattle.jql_bound.specs.declared.order.OrderKey.{OrderKey}
use Rattle.jql_bound.specs.declared.order.SortField.{SortField}
use Rattle.jql_bound.specs.declared.order.SortField.TheVariants as sort_field
use Rattle.jql_meaning.specs.Order.{standing, standing_cmp, value_standing, category_standing, field_cmp, directed, issue_cmp, size}
use Rattle.tracker_calls.specs.Part.{part_of}
use Rattle.tracker_calls.specs.declared.call.Call.{Call}
use Rattle.tracker_calls.specs.declared.call.Call.TheVariants as call
use Rattle.tracker_calls.specs.declared.call.Part.{Part}
use Rattle.tracker_calls.specs.declared.cause.Cause.{Cause}
use Rattle.tracker_calls.specs.declared.cause.Cause.TheVariants as cause
use Rattle.tracker_calls.specs.declared.cause.Thing.TheVariants as thing
use Rattle.tracker_calls.specs.declared.reply.Answer.{Answer}
use Rattle.tracker_calls.specs.declared.reply.Answer.TheVariants as answer
use Rattle.tracker_calls.specs.declared.reply.Column.{Column}
use Rattle.tracker_calls.specs.declared.reply.ShownField.{ShownField}
use Rattle.tracker_calls.specs.declared.reply.ToldEntry.{ToldEntry}
use Rattle.tracker_machine.specs.Machine.{Machine}
use Rattle.tracker_machine.specs.Known.{history_named}
use Rattle.tracker_machine.specs.Checks.{or_then, unless_known, caller_refusal}
use Rattle.tracker_machine.specs.Access.{access_refusal}
use Rattle.tracker_machine.specs.Meaning.{Meaning, unless, reply_to}
use Rattle.tracker_machine.specs.Meaning.Meaning.{Tells, Finds}
use Rattle.tracker_machine.specs.Listing.{put_in, in_order}
use Rattle.tracker_machine.specs.Query.{Query, asked}
use Rattle.tracker_machine.specs.Saved.{SavedFilter, saved_query}
use Rattle.tracker_machine.specs.Search.{surroundings_in, is_found, found, ranks_cmp, comes_before, listed, search_answer, searched, search_meaning}
use Rattle.tracker_machine.specs.Filters.{is_shown, shown, filter_numbered, filter_answer, filter_told, filter_meaning}
use Rattle.tracker_machine.specs.Boards.{by_rank, is_choice, has_status, column_of, columns_from, board_numbered, board_issues, board_answer, board_told, board_meaning}
use Rattle.tracker_machine.specs.Show.{shown_value, with_shown, shown_fields, shown_issue, show_answer_of, show_meaning}
use Rattle.tracker_machine.specs.Entries.{told_entry, history_answer_of, history_meaning}
use Rattle.tracker_machine.specs.Step.{meaning, meaning_for, form_refusal, user_of, reply_of}
use Rattle.tracker_sight.specs.Sight.{sees}
use Rattle.tracker_sight.specs.RenumberedIssues.{renumbered_entry, renumbered_issue, renumbered_rank}
use Rattle.tracker_sight.specs.Renumbered.{renumbered, IsRising, renumbered_told, renumbered_reply, is_reading, RenumberedTellTheSame}
use Rattle.tracker_sight.proofs.Named.{named, named_is}
use Rattle.tracker_sight.proofs.RenumberedIssues.{present_same, updated_same, query_same}

-- ---- lists

filter_mapped : {X : Type 0} (f : X → X) (p : X → Bool) → ((x : X) → p (f x) ≡ p x) → (xs : List X) → filter p (map f xs) ≡ map f (filter p xs)
filter_mapped f p same [] = refl
filter_mapped f p same (x ∷ xs) = elim (cases_Bool (p x)) [
  | inl holds ↦ rw (same x ∙ holds, holds) (ap (λ ys. f x ∷ ys) (filter_mapped f p same xs))
  | inr fails ↦ rw (same x ∙ fails, fails) (filter_mapped f p same xs)
]

told_mapped : {X A : Type 0} (f : X → X) (tells : X → A) → ((x : X) → tells (f x) ≡ tells x) → (xs : List X) → map tells (map f xs) ≡ map tells xs
told_mapped f tells same [] = refl
told_mapped f tells same (x ∷ xs) = ap₂ (λ a rest. a ∷ rest) (same x) (told_mapped f tells same xs)

both_mapped : {X A : Type 0} (f : X → X) (g : A → A) (tells : X → A) → ((x : X) → tells (f x) ≡ g (tells x)) → (xs : List X) → map tells (map f xs) ≡ map g (map tells xs)
both_mapped f g tells same [] = refl
both_mapped f g tells same (x ∷ xs) = ap₂ (λ a rest. a ∷ rest) (same x) (both_mapped f g tells same xs)

part_mapped : {X : Type 0} (f : X → X) (part : Part) (xs : List X) → part_of part (map f xs) ≡ map f (part_of part xs)
part_mapped f part xs = ap (take part.count) (drop-map f part.from xs) ∙ take-map f part.count (drop part.from xs)

module _ {X : Type 0} (f : X → X) (before other : X → X → Bool) (agree : (x y : X) → before (f x) (f y) ≡ other x y) where
  put_mapped : (x : X) (ys : List X) → put_in before (f x) (map f ys) ≡ map f (put_in other x ys)
  unfolding put_in
  put_mapped x [] = refl
  put_mapped x (y ∷ ys) = elim (cases_Bool (other y x)) [
    | inl holds ↦ rw (agree y x ∙ holds, holds) (ap (λ zs. f y ∷ zs) (put_mapped x ys))
    | inr fails ↦ rw (agree y x ∙ fails, fails) refl
  ]

  order_mapped : (xs : List X) → in_order before (map f xs) ≡ map f (in_order other xs)
  unfolding in_order
  order_mapped [] = refl
  order_mapped (x ∷ xs) = ap (put_in before (f x)) (order_mapped xs) ∙ put_mapped x (in_order other xs)

-- ---- numbers

module _ (numbers : ℕ → ℕ) (rising : IsRising numbers) where
  cmp_same : (x y : ℕ) → nat_cmp (numbers x) (numbers y) ≡ nat_cmp x y
  cmp_same x y = elim (cases_lt x y) [
    | inl less ↦ let more : numbers x < numbers y = rising x y less in grind (arith, less, more)
    | inr not_less ↦ elim (cases_eq x y) [
      | inl same ↦ ap (λ n. nat_cmp (numbers n) (numbers y)) same ∙ itself (numbers y) ∙ sym (ap (λ n. nat_cmp n y) same ∙ itself y)
      | inr apart ↦ let greater : y < x = omega (arith, not_less, apart) in let more : numbers y < numbers x = rising y x greater in grind (arith, greater, more)
    ]
  ] where
    itself : (n : ℕ) → nat_cmp n n ≡ nat_cmp 0 0
    itself n = grind arith

  eq_same : (x y : ℕ) → (numbers x == numbers y) ≡ (x == y)
  eq_same x y = elim (cases_lt x y) [
    | inl less ↦ let more : numbers x < numbers y = rising x y less in ne_eqb (numbers x) (numbers y) (λ e. omega (arith, e, more)) ∙ sym (ne_eqb x y (λ e. omega (arith, e, less)))
    | inr not_less ↦ elim (cases_eq x y) [
      | inl same ↦ eq-eqb (numbers x) (numbers y) (ap numbers same) ∙ sym (eq-eqb x y same)
      | inr apart ↦ let greater : y < x = omega (arith, not_less, apart) in let more : numbers y < numbers x = rising y x greater in
          ne_eqb (numbers x) (numbers y) (λ e. omega (arith, e, more)) ∙ sym (ne_eqb x y apart)
    ]
  ]

  places_same : (ps : List Pair) (n : ℕ) → places_before (map (renumbered_rank numbers) ps) (numbers n) ≡ places_before ps n
  places_same [] n = refl
  places_same (p ∷ ps) n = ap₂ (λ (b : Bool) (k : ℕ). if b then 0 else suc k) (eq_same p.1.0 n) (places_same ps n)

-- ---- how issues stand

module _ (numbers changes : ℕ → ℕ) (rising : IsRising numbers) where
  abbrev r : History → History
  r = renumbered_issue numbers changes

  abbrev ranks : List Pair → List Pair
  ranks = map (renumbered_rank numbers)

  standing_same : (parts : Parts) (h : History) (x : Subject) → standing parts (r h) x ≡ standing parts h x
  standing_same parts h (subject.Field field) = ap (value_standing parts field) (present_same numbers changes h field)
  standing_same parts h subject.Project = refl
  standing_same parts h subject.Key = refl
  standing_same parts h subject.Created = refl
  standing_same parts h subject.Updated = ap (λ n. size (pos n)) (updated_same numbers changes h)

  field_same : (parts : Parts) (o : Ordering) (one other : History) (x : SortField) → field_cmp parts o (r one) (r other) x ≡ field_cmp parts o one other x
  field_same parts o one other (sort_field.Subject x) = ap₂ standing_cmp (standing_same parts one x) (standing_same parts other x)
  field_same parts o one other sort_field.StatusCategory =
      ap₂ (λ v w. standing_cmp (category_standing parts v) (category_standing parts w)) (present_same numbers changes one number.STATUS) (present_same numbers changes other number.STATUS)
  field_same parts o one other sort_field.Rank = refl

  issue_same : (parts : Parts) (keys : List OrderKey) (o : Ordering) (one other : History) → issue_cmp parts keys o (r one) (r other) ≡ issue_cmp parts keys o one other
  unfolding issue_cmp
  issue_same parts [] o one other = cmp_same numbers rising one.no.0 other.no.0
  issue_same parts (sort ∷ sorts) o one other =
      ap₂ (λ a b. ordering_then (directed sort.direction a) b) (field_same parts o one other sort.field) (issue_same parts sorts o one other)

  ranks_same : (ps : List Pair) (one other : History) → ranks_cmp (ranks ps) (r one) (r other) ≡ ranks_cmp ps one other
  ranks_same ps one other = ap₂ nat_cmp (places_same numbers rising ps one.no.0) (places_same numbers rising ps other.no.0)

  before_same : (setup : Parts) (keys : List OrderKey) (ps : List Pair) (one other : History) → comes_before setup keys (ranks ps) (r one) (r other) ≡ comes_before setup keys ps one other
  before_same setup keys ps one other =
      ap (λ o. is_lt (issue_cmp setup keys o (r one) (r other))) (ranks_same ps one other)
      ∙ ap is_lt (issue_same setup keys (ranks_cmp ps one other) one other)

  listed_same : (setup : Parts) (keys : List OrderKey) (ps : List Pair) (hs : List History) → listed setup keys (ranks ps) (map r hs) ≡ map r (listed setup keys ps hs)
  unfolding listed
  listed_same setup keys ps hs = order_mapped r (comes_before setup keys (ranks ps)) (comes_before setup keys ps) (before_same setup keys ps) hs

  by_rank_same : (ps : List Pair) (hs : List History) → by_rank (ranks ps) (map r hs) ≡ map r (by_rank ps hs)
  unfolding by_rank
  by_rank_same ps hs =
      order_mapped r (λ one other. is_lt (ranks_cmp (ranks ps) one other)) (λ one other. is_lt (ranks_cmp ps one other)) (λ one other. ap is_lt (ranks_same ps one other)) hs

  keys_same : (part : Part) (hs : List History) → map (λ (h : History). h.key) (part_of part (map r hs)) ≡ map (λ (h : History). h.key) (part_of part hs)
  keys_same part hs = ap (map (λ (h : History). h.key)) (part_mapped r part hs) ∙ told_mapped r (λ (h : History). h.key) (λ h. refl) (part_of part hs)

  -- ---- what is found

  module _ (m : Machine) where
    abbrev new : Machine
    new = renumbered numbers changes m

    sees_same : (user : ℕ) (h : History) → sees m.setup user (r h) ≡ sees m.setup user h
    unfolding project_number
    sees_same user h = refl

    is_found_same : (caller : ℕ) (condition : Option Condition) (h : History) → is_found m caller condition (r h) ≡ is_found m caller condition h
    is_found_same caller condition h =
        ap₂ (λ (a b : Bool). a && b) (sees_same caller h) (query_same numbers changes (surroundings_in m.setup m.sprints) h m.moment condition)

    found_same : (caller : ℕ) (condition : Option Condition) → found new caller condition ≡ map r (found m caller condition)
    unfolding found
    found_same caller condition = filter_mapped r (is_found m caller condition) (is_found_same caller condition) m.histories

    shown_same : (caller : ℕ) (f : SavedFilter) → shown new caller f ≡ map r (shown m caller f)
    unfolding shown
    shown_same caller f =
        filter_mapped r (is_shown m caller f) (λ h. ap₂ (λ (a b : Bool). a && b) (sees_same f.owner.0 h) (is_found_same caller (saved_query m.setup f).condition h)) m.histories

    listed_keys : (keys : List OrderKey) (part : Part) (one other : List History) → one ≡ map r other
        → map (λ (h : History). h.key) (part_of part (listed m.setup keys (ranks m.order) one)) ≡ map (λ (h : History). h.key) (part_of part (listed m.setup keys m.order other))
    listed_keys keys part one other is =
        ap (λ hs. map (λ (h : History). h.key) (part_of part (listed m.setup keys (ranks m.order) hs))) is
        ∙ ap (λ hs. map (λ (h : History). h.key) (part_of part hs)) (listed_same m.setup keys m.order other)
        ∙ keys_same part (listed m.setup keys m.order other)

    as_many : (one other : List History) → one ≡ map r other → length one ≡ length other
    as_many one other is = ap length is ∙ length-map other r

    search_same : (caller : ℕ) (part : Part) (query : Query) → search_answer new caller part query ≡ search_answer m caller part query
    search_same caller part query =
        ap₂ answer.Search (listed_keys query.keys part (found new caller query.condition) (found m caller query.condition) (found_same caller query.condition))
        (as_many (found new caller query.condition) (found m caller query.condition) (found_same caller query.condition))

    filter_same : (caller : ℕ) (part : Part) (f : SavedFilter) → filter_answer new caller part f ≡ filter_answer m caller part f
    filter_same caller part f =
        ap₂ answer.Filter (listed_keys (saved_query m.setup f).keys part (shown new caller f) (shown m caller f) (shown_same caller f))
        (as_many (shown new caller f) (shown m caller f) (shown_same caller f))

    -- ---- boards

    status_same : (place : ℕ) (h : History) → has_status place (r h) ≡ has_status place h
    status_same place h = ap (is_choice place) (present_same numbers changes h number.STATUS)

    column_same : (hs : List History) (place : ℕ) (status : Status) → column_of (map r hs) place status ≡ column_of hs place status
    column_same hs place status =
        ap (λ keys. record { issues = keys; status = status.name })
        (ap (map (λ (h : History). h.key)) (filter_mapped r (has_status place) (status_same place) hs) ∙ told_mapped r (λ (h : History). h.key) (λ h. refl) (filter (has_status place) hs))

    columns_same : (place : ℕ) (statuses : List Status) (hs : List History) → columns_from place statuses (map r hs) ≡ columns_from place statuses hs
    columns_same place [] hs = refl
    columns_same place (status ∷ more) hs = ap₂ (λ (c : Column) (cs : List Column). c ∷ cs) (column_same hs place status) (columns_same (place + 1) more hs)

    issues_same : (caller : ℕ) (b : Board) → board_issues new caller b ≡ map r (board_issues m caller b)
    issues_same caller b = by (filter_numbered m b.filter)
      where
        by : (o : Option SavedFilter) → option_map_or (shown new caller) o [] ≡ map r (option_map_or (shown m caller) o [])
        by None = refl
        by (Some f) = shown_same caller f

    board_same : (caller : ℕ) (part : Part) (b : Board) → board_answer new caller part b ≡ board_answer m caller part b
    board_same caller part b =
        ap₂ answer.Board
        (ap (λ hs. columns_from 0 m.setup.status (part_of part (by_rank (ranks m.order) hs))) (issues_same caller b)
        ∙ ap (λ hs. columns_from 0 m.setup.status (part_of part hs)) (by_rank_same m.order (board_issues m caller b))
        ∙ ap (columns_from 0 m.setup.status) (part_mapped r part (by_rank m.order (board_issues m caller b)))
        ∙ columns_same 0 m.setup.status (part_of part (by_rank m.order (board_issues m caller b))))
        (as_many (board_issues new caller b) (board_issues m caller b) (issues_same caller b))

    -- ---- one issue

    named_mapped : (name : List ℕ) (hs : List History) → named name (map r hs) ≡ option_map r (named name hs)
    named_mapped name [] = refl
    named_mapped name (h ∷ hs) = elim (cases_Bool (bytes_eq h.key name)) [
      | inl own ↦ rw own refl
      | inr other ↦ rw other (named_mapped name hs)
    ]

    named_same : (name : List ℕ) → history_named new name ≡ option_map r (history_named m name)
    named_same name = named_is new name ∙ named_mapped name m.histories ∙ ap (option_map r) (sym (named_is m name))

    fields_same : (names : Names) (h : History) (ns : List ℕ) → shown_fields names (r h) ns ≡ shown_fields names h ns
    fields_same names h [] = refl
    fields_same names h (n ∷ ns) =
        ap₂ (λ v (fs : List ShownField). with_shown (field_name names.fields n) (shown_value names n v) fs) (present_same numbers changes h (record { 0 = n })) (fields_same names h ns)

    shown_issue_same : (names : Names) (h : History) → shown_issue names (r h) ≡ shown_issue names h
    unfolding shown_issue
    shown_issue_same names h = fields_same names h (field_numbers names.fields)

    show_same : (o : Option History) → show_answer_of m (option_map r o) ≡ show_answer_of m o
    show_same None = refl
    show_same (Some h) = ap₂ (λ (fs : List ShownField) (n : ℕ). answer.Show h.at fs h.key n) (shown_issue_same (names_in m.setup) h) (updated_same numbers changes h)

    entries_same : (part : Part) (o : Option History) → reply_to (Tells (history_answer_of m part (option_map r o))) ≡ renumbered_reply changes (reply_to (Tells (history_answer_of m part o)))
    entries_same part None = refl
    entries_same part (Some h) =
        ap₂ (λ (es : List ToldEntry) (n : ℕ). reply_to (Tells (answer.History es n)))
        (ap (map (told_entry (names_in m.setup))) (part_mapped (renumbered_entry changes) part h.entries)
        ∙ both_mapped (renumbered_entry changes) (renumbered_told changes) (told_entry (names_in m.setup)) (λ e. refl) (part_of part h.entries))
        (length-map h.entries (renumbered_entry changes))

    -- what is refused of an issue that isn't there, or that the caller may not browse
    abbrev refused_of : ℕ → List ℕ → Option History → Option Cause
    refused_of user issue o = or_then (unless_known o (cause.Unknown thing.Issue issue)) (access_refusal m user permission.Browse o)

    refused_same : (user : ℕ) (issue : List ℕ) (o : Option History) → refused_of user issue (option_map r o) ≡ refused_of user issue o
    unfolding project_number
    refused_same user issue None = refl
    refused_same user issue (Some h) = refl

    -- ---- each call

    abbrev Told : Meaning → Meaning → Type 0
    Told due other = reply_to other ≡ renumbered_reply changes (reply_to due)

    unless_told : (c : Option Cause) (due other : Meaning) → Told due other → Told (unless c due) (unless c other)
    unless_told None due other told = told
    unless_told (Some c) due other told = refl

    searched_told : (user : ℕ) (part : Part) (query : Result Query Cause) → Told (searched m user part query) (searched new user part query)
    searched_told user part (Err c) = refl
    searched_told user part (Ok query) = ap (λ a. reply_to (Finds a)) (search_same user part query)

    filter_told_same : (user : ℕ) (filter_no : FilterNo) (part : Part) (o : Option SavedFilter) → Told (filter_told m user filter_no part o) (filter_told new user filter_no part o)
    filter_told_same user filter_no part None = refl
    filter_told_same user filter_no part (Some f) = ap (λ a. reply_to (Tells a)) (filter_same user part f)

    board_told_same : (user : ℕ) (board_no : BoardNo) (part : Part) (o : Option Board) → Told (board_told m user board_no part o) (board_told new user board_no part o)
    board_told_same user board_no part None = refl
    board_told_same user board_no part (Some b) = ap (λ a. reply_to (Tells a)) (board_same user part b)

    issue_told : (user : ℕ) (issue : List ℕ) (tells : Option History → Answer) → ((o : Option History) → Told (Tells (tells o)) (Tells (tells (option_map r o))))
        → (o p : Option History) → p ≡ option_map r o → Told (unless (refused_of user issue o) (Tells (tells o))) (unless (refused_of user issue p) (Tells (tells p)))
    issue_told user issue tells same o p is =
        ap (λ q. reply_to (unless (refused_of user issue q) (Tells (tells q)))) is
        ∙ ap (λ c. reply_to (unless c (Tells (tells (option_map r o))))) (refused_same user issue o)
        ∙ unless_told (refused_of user issue o) (Tells (tells o)) (Tells (tells (option_map r o))) (same o)

    show_new : (user : ℕ) (issue : List ℕ) (o : Option History) → history_named new issue ≡ o → show_meaning new user issue ≡ unless (refused_of user issue o) (Tells (show_answer_of m o))
    show_new user issue None is = rw is refl
    show_new user issue (Some h) is = rw is refl

    history_new : (user : ℕ) (issue : List ℕ) (part : Part) (o : Option History) → history_named new issue ≡ o
        → history_meaning new user issue part ≡ unless (refused_of user issue o) (Tells (history_answer_of m part o))
    history_new user issue part None is = rw is refl
    history_new user issue part (Some h) is = rw is refl

    show_is : (user : ℕ) (issue : List ℕ) (o : Option History) → history_named m issue ≡ o → show_meaning m user issue ≡ unless (refused_of user issue o) (Tells (show_answer_of m o))
    show_is user issue None is = rw is refl
    show_is user issue (Some h) is = rw is refl

    history_is : (user : ℕ) (issue : List ℕ) (part : Part) (o : Option History) → history_named m issue ≡ o
        → history_meaning m user issue part ≡ unless (refused_of user issue o) (Tells (history_answer_of m part o))
    history_is user issue part None is = rw is refl
    history_is user issue part (Some h) is = rw is refl

    for_told : (user : ℕ) (c : Call) → is_reading c ≡ true → Told (meaning_for m user c) (meaning_for new user c)
    unfolding meaning_for search_meaning filter_meaning board_meaning
    for_told user (call.Search jql part) is = searched_told user part (asked m.setup user jql)
    for_told user (call.Filter filter_no part) is = filter_told_same user filter_no part (filter_numbered m filter_no)
    for_told user (call.Board board_no part) is = board_told_same user board_no part (board_numbered m board_no)
    for_told user (call.Show issue) is =
        ap reply_to (show_new user issue (history_named new issue) refl)
        ∙ issue_told user issue (show_answer_of m) (λ o. ap (λ a. reply_to (Tells a)) (show_same o) ∙ shown_told o) (history_named m issue) (history_named new issue) (named_same issue)
        ∙ ap (λ due. renumbered_reply changes (reply_to due)) (sym (show_is user issue (history_named m issue) refl))
      where
        shown_told : (o : Option History) → reply_to (Tells (show_answer_of m o)) ≡ renumbered_reply changes (reply_to (Tells (show_answer_of m o)))
        shown_told None = refl
        shown_told (Some h) = refl
    for_told user (call.History issue part) is =
        ap reply_to (history_new user issue part (history_named new issue) refl)
        ∙ issue_told user issue (history_answer_of m part) (entries_same part) (history_named m issue) (history_named new issue) (named_same issue)
        ∙ ap (λ due. renumbered_reply changes (reply_to due)) (sym (history_is user issue part (history_named m issue) refl))
    for_told user _ is = absurd (true≢false (sym is))

    told : (caller : List ℕ) (c : Call) → is_reading c ≡ true → reply_of new caller c ≡ renumbered_reply changes (reply_of m caller c)
    unfolding reply_of meaning
    told caller c is =
        unless_told (form_refusal c) (unless (caller_refusal m caller) (meaning_for m (user_of m caller) c)) (unless (caller_refusal m caller) (meaning_for new (user_of m caller) c))
        (unless_told (caller_refusal m caller) (meaning_for m (user_of m caller) c) (meaning_for new (user_of m caller) c) (for_told (user_of m caller) c is))

pub renumbered_tell_the_same : RenumberedTellTheSame
renumbered_tell_the_same m numbers changes caller c rising is = told numbers changes rising m caller c is

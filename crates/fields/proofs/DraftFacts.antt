-- What a draft without faults keeps of its keys.
use Rattle.std.proofs.Common.{◌≡◌, ◌≢◌, ℕ, ◌==◌, List, [], ◌∷◌, ◌++◌, length, map, get_or, true, false, Bool, ◌&&◌, nat_lt, nat_le, Option, Some, None, refl, arith, ℤ, pos, int_le, unsigned_abs, decimal, codes}
use Rattle.std.specs.List.{list_all, list_any, AllPairs, All}
use Rattle.std.proofs.lemmas.Int.{ints}
use Rattle.std.proofs.lemmas.List.{append_assoc, append-nil, map-append}
use Rattle.std.proofs.lemmas.List.Quantifiers.{all_pairs_push}
use Rattle.std.proofs.lemmas.List.Folds.{list_all-map}
use Rattle.toml.specs.Data.{Data, Members, as_integer, get_member}
use Rattle.setup_drafts.specs.declared.fault.SetupFault.{SetupFault}
use Rattle.setup_drafts.specs.declared.fault.SetupFault.TheVariants.{Duplicate}
use Rattle.setup_drafts.specs.declared.draft.transition.TransitionDraft.{TransitionDraft}
use Rattle.field_values.proofs.Rising.{each_fails}
use Rattle.field_values.specs.declared.field.Field.{Field}
use Rattle.field_values.specs.declared.words.FieldKind.{FieldKind}
use Rattle.field_values.specs.declared.words.FieldKind.TheVariants as kind
use Rattle.field_values.specs.Words.{field_kind_of}
use Rattle.field_forms.specs.declared.name_form.NameForm.TheVariants.{ProjectKey, User, Plain, Resolution, OwnField, AnyText}
use Rattle.field_forms.specs.Names.{is_from_to}
use Rattle.setup_drafts.specs.Faults.{fault_if, first_of}
use Rattle.setup_drafts.specs.Cells as cells
use Rattle.setup_drafts.specs.Cells.{whole_fault, new_name_fault, text_in, text_fault, names_fault, optional_names_fault, rules_fault, tables_in, word_fault, word_in}
use Rattle.setup_drafts.specs.Entries.{entries_fault, with_name}
use Rattle.setup_drafts.specs.Fields.{number_in, number_fault, field_fault, field_of, with_field, options_fault, options_in}
use Rattle.setup_drafts.specs.Groups.{group_fault, group_draft}
use Rattle.setup_drafts.specs.Projects.{project_fault, project_draft}
use Rattle.setup_drafts.specs.Statuses.{status_fault, status_of}
use Rattle.setup_drafts.specs.Transitions.{transition_fault, transition_draft}
use Rattle.setup_drafts.specs.Drafts.{draft_fault, head_fault, lists_fault, lists_of, rights_fault, tables_fault, groups_fault, groups_of, projects_fault, projects_of, statuses_fault, statuses_of, transitions_fault, transitions_of, fields_fault, fields_of}
use Rattle.fields.specs.Sound.{IsNameList, has_own_number, HasOptions}
use Rattle.fields.proofs.Facts.{none_first, none_second, not_faulty, IsNewName, new_name, names_right, optional_right, names_enough, rules_few, tables_right, entries_right, each_entry, each_entry_is, map_map, all_mapped}

-- the name of an entry without a fault
group_name : (earlier : List (List ℕ)) (e : Members) → group_fault earlier e ≡ None → IsNewName Plain earlier ((group_draft e).name)
unfolding group_fault group_draft
group_name earlier e h = new_name (codes "name") Plain earlier (get_member (codes "name") e) (none_first (new_name_fault (codes "name") Plain earlier (get_member (codes "name") e)) _ h)

project_key : (earlier : List (List ℕ)) (e : Members) → project_fault earlier e ≡ None → IsNewName ProjectKey earlier ((project_draft e).key)
unfolding project_fault project_draft
project_key earlier e h = new_name (codes "key") ProjectKey earlier (get_member (codes "key") e) (none_first (new_name_fault (codes "key") ProjectKey earlier (get_member (codes "key") e)) _ h)

status_name : (earlier : List (List ℕ)) (e : Members) → status_fault earlier e ≡ None → IsNewName Plain earlier ((status_of e).name)
unfolding status_fault status_of
status_name earlier e h = new_name (codes "name") Plain earlier (get_member (codes "name") e) (none_first (new_name_fault (codes "name") Plain earlier (get_member (codes "name") e)) _ h)

transition_name : (earlier : List (List ℕ)) (e : Members) → transition_fault earlier e ≡ None → IsNewName Plain earlier ((transition_draft e).name)
unfolding transition_fault transition_draft
transition_name earlier e h = new_name (codes "name") Plain earlier (get_member (codes "name") e) (none_first (new_name_fault (codes "name") Plain earlier (get_member (codes "name") e)) _ h)

-- a transition as it is written goes from at least one status, and has at most twenty rules of each kind
abbrev pub is_started : TransitionDraft → Bool
is_started t = nat_lt 0 (length t.from)

abbrev pub has_few_texts : TransitionDraft → Bool
has_few_texts t = nat_le (length t.conditions) 20 && (nat_le (length t.validators) 20 && nat_le (length t.post) 20)

module _ (earlier : List (List ℕ)) (e : Members) (none : transition_fault earlier e ≡ None) where
  after_name : first_of (names_fault (codes "from") AnyText 1 None (get_member (codes "from") e)
      ∷ text_fault (codes "to") (get_member (codes "to") e)
      ∷ rules_fault (codes "conditions") (get_member (codes "conditions") e)
      ∷ rules_fault (codes "validators") (get_member (codes "validators") e)
      ∷ rules_fault (codes "post") (get_member (codes "post") e)
      ∷ []) ≡ None
  unfolding transition_fault
  after_name = none_second (new_name_fault (codes "name") Plain earlier (get_member (codes "name") e)) _ none

  transition_start : is_started (transition_draft e) ≡ true
  unfolding transition_draft
  transition_start =
      let enough = names_enough (codes "from") AnyText 1 (get_member (codes "from") e) (none_first (names_fault (codes "from") AnyText 1 None (get_member (codes "from") e)) _ after_name) in
      grind (arith, enough)

  transition_few : has_few_texts (transition_draft e) ≡ true
  unfolding transition_draft
  transition_few =
      let after_to = none_second (text_fault (codes "to") (get_member (codes "to") e)) _ (none_second (names_fault (codes "from") AnyText 1 None (get_member (codes "from") e)) _ after_name) in
      let after_conditions = none_second (rules_fault (codes "conditions") (get_member (codes "conditions") e)) _ after_to in
      let after_validators = none_second (rules_fault (codes "validators") (get_member (codes "validators") e)) _ after_conditions in
      let conditions = rules_few (codes "conditions") (get_member (codes "conditions") e) (none_first (rules_fault (codes "conditions") (get_member (codes "conditions") e)) _ after_to) in
      let validators = rules_few (codes "validators") (get_member (codes "validators") e) (none_first (rules_fault (codes "validators") (get_member (codes "validators") e)) _ after_conditions) in
      let posts = rules_few (codes "post") (get_member (codes "post") e) (none_first (rules_fault (codes "post") (get_member (codes "post") e)) _ after_validators) in
      grind (arith, conditions, validators, posts)

-- a new number of a field
pub record IsNewNumber (earlier : List Field) (n : ℕ) : Type 0 where
  pub inside : is_from_to 10000 19999 n ≡ true
  pub new : list_any (λ f. f.number.0 == n) earlier ≡ false

whole_inside : (z : ℤ) → (int_le (pos 10000) z && int_le z (pos 19999)) ≡ true → is_from_to 10000 19999 (unsigned_abs z) ≡ true
whole_inside z h = grind (arith, ints, h)

pub new_number : (key : List ℕ) (earlier : List Field) (value : Option Data) → number_fault key earlier value ≡ None → IsNewNumber earlier (number_in value)
new_number key earlier None h = absurd (cc)
new_number key earlier (Some d) h = by_integer (as_integer d) refl (none_first _ _ h) (none_second _ _ h) where
  by_integer : (z : Option ℤ) → as_integer d ≡ z → whole_fault key (pos 10000) (pos 19999) (Some d) ≡ None → fault_if (list_any (λ f. f.number.0 == number_in (Some d)) earlier) (Duplicate (decimal (number_in (Some d)))) ≡ None → IsNewNumber earlier (number_in (Some d))
  by_integer None e bad double = absurd (grind (arith, e, bad))
  by_integer (Some z) e bad double = record {
    inside = grind (arith, e, bad, whole_inside z);
    new = not_faulty _ _ double;
  }

-- a field's entry without a fault has a new number of its own
own_number : (earlier : List Field) (e : Members) → field_fault earlier e ≡ None → IsNewNumber earlier ((field_of e).number.0)
unfolding field_fault field_of
own_number earlier e h = new_number (codes "number") earlier (get_member (codes "number") e) (none_first (number_fault (codes "number") earlier (get_member (codes "number") e)) _ h)

-- and a new name of its own
own_name : (earlier : List Field) (e : Members) → field_fault earlier e ≡ None → IsNewName OwnField (map (λ f. f.name) earlier) ((field_of e).name)
unfolding field_fault field_of
own_name earlier e h =
    let after_number = none_second (number_fault (codes "number") earlier (get_member (codes "number") e)) _ h in
    new_name (codes "name") OwnField (map (λ f. f.name) earlier) (get_member (codes "name") e) (none_first (new_name_fault (codes "name") OwnField (map (λ f. f.name) earlier) (get_member (codes "name") e)) _ after_number)

own_names_with : (earlier : List Field) (e : Members) → map (λ f. f.name) (with_field earlier e) ≡ map (λ f. f.name) earlier ++ (field_of e).name ∷ []
own_names_with earlier e = map-append (λ (f : Field). f.name) earlier (field_of e ∷ [])

-- no two fields of entries whose numbers are new one after another have the same number
distinct_numbers : (earlier : List Field) (es : List Members) → AllPairs (λ one other. one.number.0 ≢ other.number.0) earlier → entries_fault field_fault with_field earlier es ≡ None → AllPairs (λ one other. one.number.0 ≢ other.number.0) (earlier ++ map field_of es)
distinct_numbers earlier [] distinct none = rw append-nil distinct
distinct_numbers earlier (e ∷ es) distinct none =
    let new = own_number earlier e (none_first _ _ none) in
    let more : AllPairs (λ one other. one.number.0 ≢ other.number.0) ((earlier ++ field_of e ∷ []) ++ map field_of es) = distinct_numbers (earlier ++ field_of e ∷ []) es (all_pairs_push (λ one other. one.number.0 ≢ other.number.0) earlier (field_of e) distinct (λ k d inside same.
    let other : ((get_or earlier k d).number.0 == (field_of e).number.0) ≡ false = each_fails (λ f. f.number.0 == (field_of e).number.0) earlier new.new k d inside in
    absurd (grind (arith, other, same)))) (none_second (field_fault earlier e) _ none) in
    rw append_assoc at more

-- a field's entry without a fault has options where it is a choice, and there alone
own_options : (earlier : List Field) (e : Members) → field_fault earlier e ≡ None → HasOptions (field_of e)
unfolding field_fault field_of
own_options earlier e h =
    let after_number = none_second (number_fault (codes "number") earlier (get_member (codes "number") e)) _ h in
    let after_name = none_second (new_name_fault (codes "name") OwnField (map (λ f. f.name) earlier) (get_member (codes "name") e)) _ after_number in
    let after_kind = none_second (word_fault field_kind_of (codes "kind") (get_member (codes "kind") e)) _ after_name in
    by_kind (word_in field_kind_of kind.Text (get_member (codes "kind") e)) (none_first (options_fault (codes "options") (word_in field_kind_of kind.Text (get_member (codes "kind") e)) (get_member (codes "options") e)) _ after_kind) where
      by_kind : (k : FieldKind) → options_fault (codes "options") k (get_member (codes "options") e) ≡ None
          → HasOptions (record { number = record { 0 = number_in (get_member (codes "number") e) }; name = text_in (get_member (codes "name") e); kind = k; options = options_in k (get_member (codes "options") e) })
      by_kind kind.Choice none = record {
        choice = λ same. names_right (codes "options") Plain 1 200 (get_member (codes "options") e) none;
        other = λ different. absurd (different refl);
      }
      by_kind kind.Text none = record { choice = λ same. absurd (cc); other = λ different. refl }
      by_kind kind.Number none = record { choice = λ same. absurd (cc); other = λ different. refl }
      by_kind kind.User none = record { choice = λ same. absurd (cc); other = λ different. refl }
      by_kind kind.Date none = record { choice = λ same. absurd (cc); other = λ different. refl }

-- checks of lists of names
abbrev types_check : Members → Option SetupFault
types_check ms = names_fault (codes "types") Plain 1 (Some 30) (get_member (codes "types") ms)

abbrev priorities_check : Members → Option SetupFault
priorities_check ms = names_fault (codes "priorities") Plain 1 (Some 20) (get_member (codes "priorities") ms)

abbrev resolutions_check : Members → Option SetupFault
resolutions_check ms = names_fault (codes "resolutions") Resolution 1 (Some 50) (get_member (codes "resolutions") ms)

abbrev versions_check : Members → Option SetupFault
versions_check ms = optional_names_fault (codes "versions") Plain 0 (Some 500) (get_member (codes "versions") ms)

-- the tables at a key
abbrev tables_of_key : List ℕ → Members → List Members
tables_of_key key ms = tables_in (get_member key ms)

-- what a draft without faults keeps of its keys
module _ (ms : Members) (none : draft_fault ms ≡ None) where
  none_in_lists : lists_fault ms ≡ None
  unfolding draft_fault
  none_in_lists = none_first (lists_fault ms) _ (none_second (head_fault ms) _ none)

  none_in_tables : tables_fault ms ≡ None
  unfolding draft_fault
  none_in_tables = none_first (tables_fault ms) _ (none_second (rights_fault ms) _ (none_second (lists_fault ms) _ (none_second (head_fault ms) _ none)))

  none_in_groups : groups_fault ms ≡ None
  unfolding tables_fault
  none_in_groups = none_first (groups_fault ms) _ none_in_tables

  after_groups : first_of (projects_fault ms ∷ statuses_fault ms ∷ transitions_fault ms ∷ fields_fault ms ∷ []) ≡ None
  unfolding tables_fault
  after_groups = none_second (groups_fault ms) _ none_in_tables

  none_in_projects : projects_fault ms ≡ None
  none_in_projects = none_first (projects_fault ms) _ after_groups

  after_projects : first_of (statuses_fault ms ∷ transitions_fault ms ∷ fields_fault ms ∷ []) ≡ None
  after_projects = none_second (projects_fault ms) _ after_groups

  none_in_statuses : statuses_fault ms ≡ None
  none_in_statuses = none_first (statuses_fault ms) _ after_projects

  after_statuses : first_of (transitions_fault ms ∷ fields_fault ms ∷ []) ≡ None
  after_statuses = none_second (statuses_fault ms) _ after_projects

  none_in_transitions : transitions_fault ms ≡ None
  none_in_transitions = none_first (transitions_fault ms) _ after_statuses

  none_in_fields : fields_fault ms ≡ None
  none_in_fields = none_first (fields_fault ms) _ (none_second (transitions_fault ms) _ after_statuses)

  pub groups_are_right : IsNameList Plain 0 100 (map (λ g. g.name) (groups_of ms))
  unfolding groups_fault groups_of
  groups_are_right =
      let entries = none_second (cells.tables_fault (codes "group") 0 100 (get_member (codes "group") ms)) _ none_in_groups in
      let counted = tables_right (codes "group") 0 100 (get_member (codes "group") ms) (none_first (cells.tables_fault (codes "group") 0 100 (get_member (codes "group") ms)) _ none_in_groups) in
      let right : IsNameList Plain 0 100 (map (λ e. (group_draft e).name) (tables_of_key (codes "group") ms)) = entries_right Plain (λ (names : List (List ℕ)). names) group_fault (with_name (λ e. (group_draft e).name)) (λ e. (group_draft e).name) (λ before e. refl) group_name 0 100 [] (tables_of_key (codes "group") ms) refl counted entries in
      rw map_map right

  pub keys_are_right : IsNameList ProjectKey 1 50 (map (λ p. p.key) (projects_of ms))
  unfolding projects_fault projects_of
  keys_are_right =
      let entries = none_second (cells.tables_fault (codes "project") 1 50 (get_member (codes "project") ms)) _ none_in_projects in
      let counted = tables_right (codes "project") 1 50 (get_member (codes "project") ms) (none_first (cells.tables_fault (codes "project") 1 50 (get_member (codes "project") ms)) _ none_in_projects) in
      let right : IsNameList ProjectKey 1 50 (map (λ e. (project_draft e).key) (tables_of_key (codes "project") ms)) = entries_right ProjectKey (λ (names : List (List ℕ)). names) project_fault (with_name (λ e. (project_draft e).key)) (λ e. (project_draft e).key) (λ before e. refl) project_key 1 50 [] (tables_of_key (codes "project") ms) refl counted entries in
      rw map_map right

  pub statuses_are_right : IsNameList Plain 1 50 (map (λ s. s.name) (statuses_of ms))
  unfolding statuses_fault statuses_of
  statuses_are_right =
      let entries = none_second (cells.tables_fault (codes "status") 1 50 (get_member (codes "status") ms)) _ none_in_statuses in
      let counted = tables_right (codes "status") 1 50 (get_member (codes "status") ms) (none_first (cells.tables_fault (codes "status") 1 50 (get_member (codes "status") ms)) _ none_in_statuses) in
      let right : IsNameList Plain 1 50 (map (λ e. (status_of e).name) (tables_of_key (codes "status") ms)) = entries_right Plain (λ (names : List (List ℕ)). names) status_fault (with_name (λ e. (status_of e).name)) (λ e. (status_of e).name) (λ before e. refl) status_name 1 50 [] (tables_of_key (codes "status") ms) refl counted entries in
      rw map_map right

  transition_entries : entries_fault transition_fault (with_name (λ e. (transition_draft e).name)) [] (tables_of_key (codes "transition") ms) ≡ None
  unfolding transitions_fault
  transition_entries = none_second (cells.tables_fault (codes "transition") 0 200 (get_member (codes "transition") ms)) _ none_in_transitions

  pub transition_names_are_right : IsNameList Plain 0 200 (map (λ t. t.name) (transitions_of ms))
  unfolding transitions_fault transitions_of
  transition_names_are_right =
      let counted = tables_right (codes "transition") 0 200 (get_member (codes "transition") ms) (none_first (cells.tables_fault (codes "transition") 0 200 (get_member (codes "transition") ms)) _ none_in_transitions) in
      let right : IsNameList Plain 0 200 (map (λ e. (transition_draft e).name) (tables_of_key (codes "transition") ms)) = entries_right Plain (λ (names : List (List ℕ)). names) transition_fault (with_name (λ e. (transition_draft e).name)) (λ e. (transition_draft e).name) (λ before e. refl) transition_name 0 200 [] (tables_of_key (codes "transition") ms) refl counted transition_entries in
      rw map_map right

  pub transitions_are_started : list_all is_started (transitions_of ms) ≡ true
  unfolding transitions_of
  transitions_are_started = rw list_all-map (each_entry transition_fault (with_name (λ e. (transition_draft e).name)) (λ e. is_started (transition_draft e)) transition_start [] (tables_of_key (codes "transition") ms) transition_entries)

  pub transitions_have_few : list_all has_few_texts (transitions_of ms) ≡ true
  unfolding transitions_of
  transitions_have_few = rw list_all-map (each_entry transition_fault (with_name (λ e. (transition_draft e).name)) (λ e. has_few_texts (transition_draft e)) transition_few [] (tables_of_key (codes "transition") ms) transition_entries)

  field_entries : entries_fault field_fault with_field [] (tables_of_key (codes "field") ms) ≡ None
  unfolding fields_fault
  field_entries = none_second (cells.tables_fault (codes "field") 0 30 (get_member (codes "field") ms)) _ none_in_fields

  pub own_names_are_right : IsNameList OwnField 0 30 (map (λ f. f.name) (fields_of ms))
  unfolding fields_fault fields_of
  own_names_are_right =
      let counted = tables_right (codes "field") 0 30 (get_member (codes "field") ms) (none_first (cells.tables_fault (codes "field") 0 30 (get_member (codes "field") ms)) _ none_in_fields) in
      let right : IsNameList OwnField 0 30 (map (λ e. (field_of e).name) (tables_of_key (codes "field") ms)) = entries_right OwnField (map (λ (f : Field). f.name)) field_fault with_field (λ e. (field_of e).name) own_names_with own_name 0 30 [] (tables_of_key (codes "field") ms) refl counted field_entries in
      rw map_map right

  pub numbers_are_distinct : AllPairs (λ one other. one.number.0 ≢ other.number.0) (fields_of ms)
  unfolding fields_of
  numbers_are_distinct = distinct_numbers [] (tables_of_key (codes "field") ms) (λ i j d lt inside. absurd (omega arith)) field_entries

  pub numbers_are_own : list_all has_own_number (fields_of ms) ≡ true
  unfolding fields_of
  numbers_are_own = rw list_all-map (each_entry field_fault with_field (λ e. has_own_number (field_of e)) (λ earlier e h. (own_number earlier e h).inside) [] (tables_of_key (codes "field") ms) field_entries)

  pub options_are_right : All HasOptions (fields_of ms)
  unfolding fields_of
  options_are_right = all_mapped field_of HasOptions (tables_of_key (codes "field") ms) (each_entry_is field_fault with_field (λ e. HasOptions (field_of e)) own_options [] (tables_of_key (codes "field") ms) field_entries)

  users_none : names_fault (codes "users") User 1 (Some 200) (get_member (codes "users") ms) ≡ None
  unfolding lists_fault
  users_none = none_first (names_fault (codes "users") User 1 (Some 200) (get_member (codes "users") ms)) _ (none_in_lists)

  after_users : first_of (types_check ms ∷ priorities_check ms ∷ resolutions_check ms ∷ versions_check ms ∷ []) ≡ None
  unfolding lists_fault
  after_users = none_second (names_fault (codes "users") User 1 (Some 200) (get_member (codes "users") ms)) _ none_in_lists

  after_types : first_of (priorities_check ms ∷ resolutions_check ms ∷ versions_check ms ∷ []) ≡ None
  after_types = none_second (types_check ms) (first_of (priorities_check ms ∷ resolutions_check ms ∷ versions_check ms ∷ [])) after_users

  after_priorities : first_of (resolutions_check ms ∷ versions_check ms ∷ []) ≡ None
  after_priorities = none_second (priorities_check ms) (first_of (resolutions_check ms ∷ versions_check ms ∷ [])) after_types

  after_resolutions : first_of (versions_check ms ∷ []) ≡ None
  after_resolutions = none_second (resolutions_check ms) (first_of (versions_check ms ∷ [])) after_priorities

  pub users_are_right : IsNameList User 1 200 (lists_of ms).users
  unfolding lists_of
  users_are_right = names_right (codes "users") User 1 200 (get_member (codes "users") ms) users_none

  pub types_are_right : IsNameList Plain 1 30 (lists_of ms).types
  unfolding lists_of
  types_are_right = names_right (codes "types") Plain 1 30 (get_member (codes "types") ms) (none_first (types_check ms) _ after_users)

  pub priorities_are_right : IsNameList Plain 1 20 (lists_of ms).priorities
  unfolding lists_of
  priorities_are_right = names_right (codes "priorities") Plain 1 20 (get_member (codes "priorities") ms) (none_first (priorities_check ms) _ after_types)

  pub resolutions_are_right : IsNameList Resolution 1 50 (lists_of ms).resolutions
  unfolding lists_of
  resolutions_are_right = names_right (codes "resolutions") Resolution 1 50 (get_member (codes "resolutions") ms) (none_first (resolutions_check ms) _ after_priorities)

  pub versions_are_right : IsNameList Plain 0 500 (lists_of ms).versions
  unfolding lists_of
  versions_are_right = optional_right (codes "versions") Plain 500 (get_member (codes "versions") ms) (none_first (versions_check ms) _ after_resolutions)

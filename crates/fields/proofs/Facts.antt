-- What a setup without faults keeps: names are distinct, and entries are of their form.
use Rattle.std.proofs.Common.{◌≡◌, ℕ, zero, suc, ◌+◌, ◌≤◌, List, [], ◌∷◌, ◌++◌, length, map, Bool, true, false, not, nat_lt, is_some, Option, Some, None, option_map, refl, ap, inl, inr, arith, subst}
use Rattle.std.specs.List.{list_all, All}
use Rattle.std.specs.Option.{option_or, option_map_or}
use Rattle.std.specs.Str.{str_eq_ignore_ascii_case}
use Rattle.std.proofs.lemmas.Bool.{cases_Bool}
use Rattle.std.proofs.lemmas.List.{append_assoc, append-nil, length-map}
use Rattle.std.proofs.lemmas.List.Folds.{list_all-map}
use Rattle.std.proofs.lemmas.List.Quantifiers.{all_pairs_push}
use Rattle.field_values.proofs.Rising.{each_fails}
use Rattle.toml.specs.Data.{Data, array, Items, no_items, item, Members, as_str, as_table}
use Rattle.setup_drafts.specs.declared.fault.SetupFault.{SetupFault}
use Rattle.setup_drafts.specs.declared.fault.SetupFault.TheVariants.{Missing, BadValue, TooMany, Duplicate}
use Rattle.field_forms.specs.declared.name_form.NameForm.{NameForm}
use Rattle.setup_drafts.specs.Faults.{fault_if}
use Rattle.field_forms.specs.Names.{is_among, first_double, AreDistinct}
use Rattle.field_forms.specs.NameForms.{has_form}
use Rattle.setup_drafts.specs.Cells.{new_name_fault, text_in, cell_names, list_fault, names_fault, optional_names_fault, rules_fault, tables_fault, tables_in, count_fault}
use Rattle.setup_drafts.specs.Written.{all_texts, texts_of, all_tables, tables_of, count, has_fewer_than}
use Rattle.setup_drafts.specs.Entries.{entries_fault}
use Rattle.fields.specs.Sound.{IsNameList}

pub none_first : {X : Type 0} (a b : Option X) → option_or a b ≡ None → a ≡ None
none_first None b h = refl
none_first (Some x) b h = h

pub none_second : {X : Type 0} (a b : Option X) → option_or a b ≡ None → b ≡ None
none_second None b h = h
none_second (Some x) b h = absurd (cc)

pub not_faulty : (test : Bool) (fault : SetupFault) → fault_if test fault ≡ None → test ≡ false
not_faulty true fault h = absurd (cc)
not_faulty false fault h = refl

not_not : (test : Bool) → not test ≡ false → test ≡ true
not_not true h = refl
not_not false h = absurd (cc)

-- one more name that is none of them
pub one_more : (names : List (List ℕ)) (name : List ℕ) → AreDistinct names → is_among names name ≡ false → AreDistinct (names ++ name ∷ [])
one_more names name distinct new =
    all_pairs_push (λ one other. str_eq_ignore_ascii_case one other ≡ false) names name distinct (each_fails (λ other. str_eq_ignore_ascii_case other name) names new)

-- names without a double are distinct
pub without_double : (seen names : List (List ℕ)) → AreDistinct seen → first_double seen names ≡ None → AreDistinct (seen ++ names)
without_double seen [] distinct none = rw append-nil distinct
without_double seen (name ∷ names) distinct none = elim (cases_Bool (is_among seen name)) [
  | inl double ↦ absurd (grind (arith, double, none))
  | inr new ↦
      let more : AreDistinct ((seen ++ name ∷ []) ++ names) = without_double (seen ++ name ∷ []) names (one_more seen name distinct new) (grind (arith, new, none)) in
      rw append_assoc at more
]

-- a name at a key without a fault is a new one of its form
pub record IsNewName (form : NameForm) (earlier : List (List ℕ)) (name : List ℕ) : Type 0 where
  pub formed : has_form form name ≡ true
  pub new : is_among earlier name ≡ false

pub new_name : (key : List ℕ) (form : NameForm) (earlier : List (List ℕ)) (value : Option Data) → new_name_fault key form earlier value ≡ None → IsNewName form earlier (text_in value)
new_name key form earlier None h = absurd (cc)
new_name key form earlier (Some d) h = new_text key form earlier d (as_str d) refl (none_first _ _ h) (none_second _ _ h) where
  new_text : (key : List ℕ) (form : NameForm) (earlier : List (List ℕ)) (d : Data) (text : Option (List ℕ)) → as_str d ≡ text → fault_if (not (option_map_or (has_form form) (as_str d) false)) (BadValue key) ≡ None → fault_if (is_among earlier (text_in (Some d))) (Duplicate (text_in (Some d))) ≡ None → IsNewName form earlier (text_in (Some d))
  new_text key form earlier d None e bad double = absurd (grind (arith, e, not_faulty _ _ bad))
  new_text key form earlier d (Some text) e bad double = record {
    formed = grind (arith, e, not_not _ (not_faulty _ _ bad));
    new = not_faulty _ _ double;
  }

-- what holds of each entry without a fault holds of all
pub each_entry : {S : Type 0} (fault : S → Members → Option SetupFault) (after : S → Members → S) (test : Members → Bool) → ((before : S) (e : Members) → fault before e ≡ None → test e ≡ true) → (before : S) (es : List Members) → entries_fault fault after before es ≡ None → list_all test es ≡ true
each_entry fault after test holds before [] none = refl
each_entry fault after test holds before (e ∷ es) none =
    let first : test e ≡ true = holds before e (none_first _ _ none) in
    let rest : list_all test es ≡ true = each_entry fault after test holds (after before e) es (none_second (fault before e) (entries_fault fault after (after before e) es) none) in
    grind (arith, first, rest)

-- as many texts as items, and as many tables
texts_count : (ds : Items) (texts : List (List ℕ)) → all_texts ds ≡ Some texts → length texts ≡ count ds
texts_count no_items texts e =
    let none : [] ≡ texts = cc in
    grind (arith, none)
texts_count (item d ds) texts e = by_text (as_str d) (all_texts ds) refl refl (texts_count ds) where
  by_text : (s : Option (List ℕ)) (rest : Option (List (List ℕ))) → as_str d ≡ s → all_texts ds ≡ rest → ((more : List (List ℕ)) → all_texts ds ≡ Some more → length more ≡ count ds) → length texts ≡ count ds + 1
  by_text None rest d_is rest_is counts = absurd (grind (arith, d_is, e))
  by_text (Some s) None d_is rest_is counts = absurd (grind (arith, d_is, rest_is, e))
  by_text (Some s) (Some more) d_is rest_is counts =
      let all : s ∷ more ≡ texts = grind (arith, d_is, rest_is, e) in
      let counted : length more ≡ count ds = counts more rest_is in
      grind (arith, all, counted)

tables_count : (ds : Items) (tables : List Members) → all_tables ds ≡ Some tables → length tables ≡ count ds
tables_count no_items tables e =
    let none : [] ≡ tables = cc in
    grind (arith, none)
tables_count (item d ds) tables e = by_table (as_table d) (all_tables ds) refl refl (tables_count ds) where
  by_table : (t : Option Members) (rest : Option (List Members)) → as_table d ≡ t → all_tables ds ≡ rest → ((more : List Members) → all_tables ds ≡ Some more → length more ≡ count ds) → length tables ≡ count ds + 1
  by_table None rest d_is rest_is counts = absurd (grind (arith, d_is, e))
  by_table (Some t) None d_is rest_is counts = absurd (grind (arith, d_is, rest_is, e))
  by_table (Some t) (Some more) d_is rest_is counts =
      let all : t ∷ more ≡ tables = grind (arith, d_is, rest_is, e) in
      let counted : length more ≡ count ds = counts more rest_is in
      grind (arith, all, counted)

enough_texts : (least : ℕ) (d : Data) (texts : List (List ℕ)) → texts_of d ≡ Some texts → has_fewer_than least d ≡ false → least ≤ length texts
enough_texts least (array ds) texts e many = grind (arith, texts_count ds texts e, many)
enough_texts least _ texts e many = absurd (cc)

enough_tables : (least : ℕ) (d : Data) (tables : List Members) → tables_of d ≡ Some tables → has_fewer_than least d ≡ false → least ≤ length tables
enough_tables least (array ds) tables e many = grind (arith, tables_count ds tables e, many)
enough_tables least _ tables e many = absurd (cc)

no_pairs : AreDistinct []
no_pairs = λ i j n lt inside. absurd (omega arith)

-- what the checks of a list of names keep
module _ (key : List ℕ) (form : NameForm) (least : ℕ) (most : Option ℕ) (d : Data) (none : list_fault key form least most d ≡ None) where
  list_many : has_fewer_than least d ≡ false
  list_many = not_faulty (has_fewer_than least d) (Missing key) (none_first _ _ none)

  list_formed : option_map_or (list_all (has_form form)) (texts_of d) false ≡ true
  list_formed =
      let many = none_second (fault_if (has_fewer_than least d) (Missing key)) _ none in
      not_not _ (not_faulty (not (option_map_or (list_all (has_form form)) (texts_of d) false)) (BadValue key) (none_first _ _ many))

  list_count : count_fault key most (length (cell_names (Some d))) ≡ None
  list_count =
      let many = none_second (fault_if (has_fewer_than least d) (Missing key)) _ none in
      let formed = none_second (fault_if (not (option_map_or (list_all (has_form form)) (texts_of d) false)) (BadValue key)) _ many in
      none_first (count_fault key most (length (cell_names (Some d)))) _ formed

  list_single : option_map Duplicate (first_double [] (cell_names (Some d))) ≡ None
  list_single =
      let many = none_second (fault_if (has_fewer_than least d) (Missing key)) _ none in
      let formed = none_second (fault_if (not (option_map_or (list_all (has_form form)) (texts_of d) false)) (BadValue key)) _ many in
      none_second (count_fault key most (length (cell_names (Some d)))) _ formed

  list_enough : least ≤ length (cell_names (Some d))
  list_enough = by_texts (texts_of d) refl where
    by_texts : (texts : Option (List (List ℕ))) → texts_of d ≡ texts → least ≤ length (cell_names (Some d))
    by_texts None e = absurd (grind (arith, e, list_formed))
    by_texts (Some texts) e = grind (arith, e, enough_texts least d texts e list_many)

  list_all_formed : list_all (has_form form) (cell_names (Some d)) ≡ true
  list_all_formed = by_texts (texts_of d) refl where
    by_texts : (texts : Option (List (List ℕ))) → texts_of d ≡ texts → list_all (has_form form) (cell_names (Some d)) ≡ true
    by_texts None e = absurd (grind (arith, e, list_formed))
    by_texts (Some texts) e = grind (arith, e, list_formed)

  list_distinct : AreDistinct (cell_names (Some d))
  list_distinct = by_double (first_double [] (cell_names (Some d))) refl list_single where
    by_double : (double : Option (List ℕ)) → first_double [] (cell_names (Some d)) ≡ double → option_map Duplicate (first_double [] (cell_names (Some d))) ≡ None → AreDistinct (cell_names (Some d))
    by_double None e none = without_double [] (cell_names (Some d)) no_pairs e
    by_double (Some name) e none = absurd (grind (arith, e, none))

-- names without a fault, in a list that may have so many
list_right : (key : List ℕ) (form : NameForm) (least most : ℕ) (d : Data) → list_fault key form least (Some most) d ≡ None → IsNameList form least most (cell_names (Some d))
list_right key form least most d none = record {
  enough = list_enough key form least (Some most) d none;
  few = grind (arith, not_faulty (nat_lt most (length (cell_names (Some d)))) (TooMany key most) (list_count key form least (Some most) d none));
  formed = list_all_formed key form least (Some most) d none;
  distinct = list_distinct key form least (Some most) d none;
}

pub names_right : (key : List ℕ) (form : NameForm) (least most : ℕ) (value : Option Data) → names_fault key form least (Some most) value ≡ None → IsNameList form least most (cell_names value)
names_right key form least most None h = absurd (cc)
names_right key form least most (Some d) h = list_right key form least most d h

pub optional_right : (key : List ℕ) (form : NameForm) (most : ℕ) (value : Option Data) → optional_names_fault key form 0 (Some most) value ≡ None → IsNameList form 0 most (cell_names value)
optional_right key form most None h = record { enough = omega arith; few = omega arith; formed = refl; distinct = no_pairs }
optional_right key form most (Some d) h = list_right key form 0 most d h

-- a list that must have some isn't empty
pub names_enough : (key : List ℕ) (form : NameForm) (least : ℕ) (value : Option Data) → names_fault key form least None value ≡ None → least ≤ length (cell_names value)
names_enough key form least None h = absurd (cc)
names_enough key form least (Some d) h = list_enough key form least None d h

-- at most twenty rules
pub rules_few : (key : List ℕ) (value : Option Data) → rules_fault key value ≡ None → length (cell_names value) ≤ 20
rules_few key None h = omega arith
rules_few key (Some d) h =
    let few = not_faulty (nat_lt 20 (length (cell_names (Some d)))) (TooMany key 20) (none_second (fault_if (not (is_some (texts_of d))) (BadValue key)) _ h) in
    grind (arith, few)

-- tables without a fault, in a list that may have so many
pub record IsCounted (least most n : ℕ) : Type 0 where
  pub enough : least ≤ n
  pub few : n ≤ most

pub tables_right : (key : List ℕ) (least most : ℕ) (value : Option Data) → tables_fault key least most value ≡ None → IsCounted least most (length (tables_in value))
tables_right key least most None h = record {
  enough = grind (arith, not_faulty (nat_lt 0 least) (Missing key) h);
  few = omega arith;
}
tables_right key least most (Some d) h = by_tables (tables_of d) refl where
  many : has_fewer_than least d ≡ false
  many = not_faulty (has_fewer_than least d) (Missing key) (none_first _ _ h)

  tabled : is_some (tables_of d) ≡ true
  tabled =
      let rest = none_second (fault_if (has_fewer_than least d) (Missing key)) _ h in
      not_not _ (not_faulty (not (is_some (tables_of d))) (BadValue key) (none_first _ _ rest))

  few : nat_lt most (length (tables_in (Some d))) ≡ false
  few =
      let rest = none_second (fault_if (has_fewer_than least d) (Missing key)) _ h in
      not_faulty (nat_lt most (length (tables_in (Some d)))) (TooMany key most) (none_second (fault_if (not (is_some (tables_of d))) (BadValue key)) _ rest)

  by_tables : (tables : Option (List Members)) → tables_of d ≡ tables → IsCounted least most (length (tables_in (Some d)))
  by_tables None e = absurd (grind (arith, e, tabled))
  by_tables (Some tables) e = record {
    enough = grind (arith, e, enough_tables least d tables e many);
    few = grind (arith, few);
  }

-- the names of entries without a fault, each of which is looked at beside the names of those before it
module _ {S : Type 0} (form : NameForm) (names : S → List (List ℕ)) (fault : S → Members → Option SetupFault) (after : S → Members → S) (name : Members → List ℕ)
    (more : (before : S) (e : Members) → names (after before e) ≡ names before ++ name e ∷ [])
    (new : (before : S) (e : Members) → fault before e ≡ None → IsNewName form (names before) (name e)) where
  entries_distinct : (before : S) (es : List Members) → AreDistinct (names before) → entries_fault fault after before es ≡ None → AreDistinct (names before ++ map name es)
  entries_distinct before [] distinct none = rw append-nil distinct
  entries_distinct before (e ∷ es) distinct none =
      let first : AreDistinct (names (after before e)) = rw (more before e) (one_more (names before) (name e) distinct (new before e (none_first _ _ none)).new) in
      let rest : AreDistinct (names (after before e) ++ map name es) = entries_distinct (after before e) es first (none_second (fault before e) _ none) in
      let spread : AreDistinct ((names before ++ name e ∷ []) ++ map name es) = subst (λ (ns : List (List ℕ)). AreDistinct (ns ++ map name es)) (more before e) rest in
      rw append_assoc at spread

  pub entries_right : (least most : ℕ) (before : S) (es : List Members) → names before ≡ [] → IsCounted least most (length es) → entries_fault fault after before es ≡ None → IsNameList form least most (map name es)
  entries_right least most before es empty counted none = record {
    enough = omega (arith, counted.enough, length-map es name);
    few = omega (arith, counted.few, length-map es name);
    formed = rw list_all-map (each_entry fault after (λ e. has_form form (name e)) (λ before e h. (new before e h).formed) before es none);
    distinct = subst (λ (ns : List (List ℕ)). AreDistinct (ns ++ map name es)) empty (entries_distinct before es (rw empty no_pairs) none);
  }

-- the names of mapped things
pub map_map : {A B C : Type 0} (f : B → C) (g : A → B) (xs : List A) → map f (map g xs) ≡ map (λ x. f (g x)) xs
map_map f g [] = refl
map_map f g (x ∷ xs) = ap (λ ys. f (g x) ∷ ys) (map_map f g xs)

-- what holds of each entry without a fault holds of every one
pub each_entry_is : {S : Type 0} (fault : S → Members → Option SetupFault) (after : S → Members → S) (P : Members → Type 0) → ((before : S) (e : Members) → fault before e ≡ None → P e) → (before : S) (es : List Members) → entries_fault fault after before es ≡ None → All P es
each_entry_is fault after P holds before [] none k d inside = absurd (omega arith)
each_entry_is fault after P holds before (e ∷ es) none zero d inside = holds before e (none_first _ _ none)
each_entry_is fault after P holds before (e ∷ es) none (suc k) d inside = each_entry_is fault after P holds (after before e) es (none_second (fault before e) (entries_fault fault after (after before e) es) none) k d (omega arith)

-- what holds of what each is mapped to holds of all that are mapped
pub all_mapped : {A B : Type 0} (f : A → B) (P : B → Type 0) (xs : List A) → All (λ x. P (f x)) xs → All P (map f xs)
all_mapped f P [] h k d inside = absurd (omega arith)
all_mapped f P (x ∷ xs) h zero d inside = h zero x (omega arith)
all_mapped f P (x ∷ xs) h (suc k) d inside = all_mapped f P xs (λ j e within. h (suc j) e (omega arith)) k d (omega arith)

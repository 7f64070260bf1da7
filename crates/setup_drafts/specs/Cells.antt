-- The checks of one key, in order: is it missing, is its value bad, are there too many, is one doubled.
use Rattle.std.specs.Prelude.{ℕ, ◌≤◌, List, [], length, Bool, false, not, Option, Some, None, option_map, option_and_then, unwrap_or, ℤ, pos, int_le, ◌&&◌, is_some, nat_lt}
use Rattle.std.specs.List.{list_all}
use Rattle.std.specs.Option.{option_map_or, option_or}
use Rattle.toml.specs.Data.{Data, Members, as_str, as_integer}
use Rattle.setup_drafts.specs.declared.fault.SetupFault.{SetupFault}
use Rattle.setup_drafts.specs.declared.fault.SetupFault.TheVariants.{Missing, BadValue, TooMany, Duplicate}
use Rattle.field_forms.specs.declared.name_form.NameForm.{NameForm}
use Rattle.setup_drafts.specs.Faults.{fault_if}
use Rattle.field_forms.specs.Names.{is_among, first_double}
use Rattle.setup_drafts.specs.Written.{texts_of, tables_of, has_fewer_than}
use Rattle.field_forms.specs.NameForms.{has_form}

-- a whole number of this range
abbrev pub is_whole : ℤ → ℤ → Data → Bool
is_whole least most d = option_map_or (λ z. int_le least z && int_le z most) (as_integer d) false

-- a key that wants a whole number
abbrev pub whole_fault : List ℕ → ℤ → ℤ → Option Data → Option SetupFault
whole_fault key least most None = Some (Missing key)
whole_fault key least most (Some d) = fault_if (not (is_whole least most d)) (BadValue key)

abbrev pub whole_in : Option Data → ℤ
whole_in value = unwrap_or (option_and_then as_integer value) (pos 0)

-- a key that wants a text
abbrev pub text_fault : List ℕ → Option Data → Option SetupFault
text_fault key None = Some (Missing key)
text_fault key (Some d) = fault_if (not (is_some (as_str d))) (BadValue key)

abbrev pub text_in : Option Data → List ℕ
text_in value = unwrap_or (option_and_then as_str value) []

-- a key that wants one of some words
abbrev pub word_fault : {W : Type 0} → (List ℕ → Option W) → List ℕ → Option Data
    → Option SetupFault
word_fault meaning key None = Some (Missing key)
word_fault meaning key (Some d) =
    fault_if (not (is_some (option_and_then meaning (as_str d)))) (BadValue key)

abbrev pub word_in : {W : Type 0} → (List ℕ → Option W) → W → Option Data → W
word_in meaning otherwise value =
    unwrap_or (option_and_then meaning (option_and_then as_str value)) otherwise

-- a key that wants a name that no earlier entry has
abbrev pub new_name_fault : List ℕ → NameForm → List (List ℕ) → Option Data → Option SetupFault
new_name_fault key form earlier None = Some (Missing key)
new_name_fault key form earlier (Some d) =
    option_or (fault_if (not (option_map_or (has_form form) (as_str d) false)) (BadValue key))
    (fault_if (is_among earlier (text_in (Some d))) (Duplicate (text_in (Some d))))

-- the names at a key
abbrev pub cell_names : Option Data → List (List ℕ)
cell_names value = unwrap_or (option_and_then texts_of value) []

-- there may be so many, or any number
abbrev pub count_fault : List ℕ → Option ℕ → ℕ → Option SetupFault
count_fault key None n = None
count_fault key (Some most) n = fault_if (nat_lt most n) (TooMany key most)

-- the faults of a list of names, each of which stands once
abbrev pub list_fault : List ℕ → NameForm → ℕ → Option ℕ → Data → Option SetupFault
list_fault key form least most d =
    option_or (fault_if (has_fewer_than least d) (Missing key))
    (option_or (fault_if (not (option_map_or (list_all (has_form form)) (texts_of d) false))
    (BadValue key))
    (option_or (count_fault key most (length (cell_names (Some d))))
    (option_map Duplicate (first_double [] (cell_names (Some d))))))

-- a key that wants a list of names
abbrev pub names_fault : List ℕ → NameForm → ℕ → Option ℕ → Option Data → Option SetupFault
names_fault key form least most None = Some (Missing key)
names_fault key form least most (Some d) = list_fault key form least most d

-- a key that may be absent, and else wants a list of names
abbrev pub optional_names_fault : List ℕ → NameForm → ℕ → Option ℕ → Option Data → Option SetupFault
optional_names_fault key form least most None = None
optional_names_fault key form least most (Some d) = list_fault key form least most d

-- a key that may be absent, and else wants at most twenty texts
abbrev pub rules_fault : List ℕ → Option Data → Option SetupFault
rules_fault key None = None
rules_fault key (Some d) =
    option_or (fault_if (not (is_some (texts_of d))) (BadValue key))
    (count_fault key (Some 20) (length (cell_names (Some d))))

-- a key that wants a list of tables; it may be absent where none need be there
abbrev pub tables_fault : List ℕ → ℕ → ℕ → Option Data → Option SetupFault
tables_fault key least most None = fault_if (nat_lt 0 least) (Missing key)
tables_fault key least most (Some d) =
    option_or (fault_if (has_fewer_than least d) (Missing key))
    (option_or (fault_if (not (is_some (tables_of d))) (BadValue key))
    (count_fault key (Some most) (length (unwrap_or (tables_of d) []))))

abbrev pub tables_in : Option Data → List Members
tables_in value = unwrap_or (option_and_then tables_of value) []

-- no more than the most, if there is one
abbrev pub IsWithin : Option ℕ → ℕ → Type 0
IsWithin None n = Unit {0}
IsWithin (Some most) n = n ≤ most

-- What a field may hold, and the values that texts stand for.
use Rattle.std.specs.Prelude.{ℕ, ◌+◌, ◌==◌, Bool, true, false, not, ◌&&◌, ◌||◌, List, [], ◌∷◌, length, insert, Option, Some, None, option_map, option_and_then, unwrap_or, position, if◌then◌else◌, nat_le, nat_lt, pos, int_le, slice_index}
use Rattle.std.specs.List.{list_all, list_any}
use Rattle.std.specs.Ordering.{nat_cmp, is_lt}
use Rattle.std.specs.Cmp.Lexicographic.{slice_cmp}
use Rattle.std.specs.Str.{bytes_eq}
use Rattle.field_values.specs.declared.numbers.ChoiceNo.{ChoiceNo}
use Rattle.field_values.specs.declared.value.Value.{Value}
use Rattle.field_values.specs.declared.value.Value.TheVariants.{Empty, Text as TextValue, Number as NumberValue, Choice as ChoiceValue, User as UserValue, Date as DateValue, Set as SetValue, Labels as LabelsValue, Sprint as SprintValue}
use Rattle.field_forms.specs.declared.form.Form.{Form}
use Rattle.field_forms.specs.declared.form.Form.TheVariants.{Line, Prose, Number, Points, Choice, User, Set, Labels, Date, Sprint}
use Rattle.field_forms.specs.Names.{is_from_to, is_among, place_named, has_controls}
use Rattle.field_values.specs.Digits.{read_on}
use Rattle.field_forms.specs.Numbers.{is_numeral, number_of, is_number}
use Rattle.civil_dates.specs.Reading.{day_of}
use Rattle.civil_dates.specs.Days.{is_day}
use Rattle.field_forms.specs.TextLists.{texts_in}

-- not empty, at most so many bytes, no control character below the space
abbrev pub is_line : ℕ → List ℕ → Bool
is_line most text = is_from_to 1 most (length text) && list_all (λ b. nat_le 32 b) text

-- the same, but tabs and line feeds may stand in it
abbrev pub is_prose : ℕ → List ℕ → Bool
is_prose most text =
    is_from_to 1 most (length text) && list_all (λ b. nat_le 32 b || (b == 9) || (b == 10)) text

-- 1 to 64 bytes without spaces and control characters
abbrev pub is_label : List ℕ → Bool
is_label text =
    is_from_to 1 64 (length text) && (not (list_any (λ b. b == 32) text) && not (has_controls text))

abbrev pub is_before : List ℕ → List ℕ → Bool
is_before one other = is_lt (slice_cmp nat_cmp one other)

-- the place of the first label that isn't before a new one, or the end
abbrev pub place_for : List (List ℕ) → List ℕ → ℕ
place_for labels label =
    unwrap_or (position (λ other. not (is_before other label)) labels) (length labels)

-- the labels with one more at its place, unless it is there
abbrev pub with_label : List (List ℕ) → List ℕ → List (List ℕ)
with_label labels label =
    if list_any (λ other. bytes_eq other label) labels then labels
    else insert labels (place_for labels label) label

-- the labels with these
abbrev pub with_labels : List (List ℕ) → List (List ℕ) → List (List ℕ)
with_labels labels [] = labels
with_labels labels (text ∷ texts) = with_labels (with_label labels text) texts

-- at most sixteen texts that may be labels
abbrev pub are_labels : List (List ℕ) → Bool
are_labels texts = nat_le (length texts) 16 && list_all is_label texts

abbrev pub labels_value : List (List ℕ) → Value
labels_value [] = Empty
labels_value (label ∷ labels) = LabelsValue (label ∷ labels)

-- those of the names, from a place on, that are among the texts
abbrev pub chosen : ℕ → List (List ℕ) → List (List ℕ) → List ChoiceNo
chosen place [] texts = []
chosen place (name ∷ names) texts =
    if is_among texts name then record { 0 = place } ∷ chosen (place + 1) names texts
    else chosen (place + 1) names texts

abbrev pub set_value : List ChoiceNo → Value
set_value [] = Empty
set_value (choice ∷ choices) = SetValue (choice ∷ choices)

-- a number from 0 to 4,294,967,295 in digits, with no zero before them
abbrev pub sprint_of : List ℕ → Option ℕ
sprint_of text =
    if is_numeral 10 text
    && ((not (slice_index text 0 == 48) || (length text == 1))
    && nat_le (read_on 0 text) 4_294_967_295)
    then Some (read_on 0 text) else None

abbrev pub points_of : List ℕ → Option Value
points_of text =
    option_and_then (λ z. if int_le (pos 0) z then Some (NumberValue z) else None) (number_of text)

-- the set of the choices that the texts name
abbrev pub listed_set : List (List ℕ) → List (List ℕ) → Option Value
listed_set names texts =
    if list_all (is_among names) texts then Some (set_value (chosen 0 names texts)) else None

-- the labels that the texts are
abbrev pub listed_labels : List (List ℕ) → Option Value
listed_labels texts = if are_labels texts then Some (labels_value (with_labels [] texts)) else None

-- the value that a list of texts stands for in a field of this form
abbrev pub listed_in : Form → List (List ℕ) → List (List ℕ) → Option Value
listed_in Set names texts = listed_set names texts
listed_in Labels names texts = listed_labels texts
listed_in _ names texts = None

abbrev pub set_in : List (List ℕ) → List ℕ → Option Value
set_in names text = option_and_then (listed_set names) (texts_in text)

abbrev pub label_list_of : List ℕ → Option Value
label_list_of text = option_and_then listed_labels (texts_in text)

-- the value that a text stands for in a field of this form; the names are those that it may name
unfoldable pub value_in : Form → List (List ℕ) → List ℕ → Option Value
value_in (Line most) names text = if is_line most text then Some (TextValue text) else None
value_in (Prose most) names text = if is_prose most text then Some (TextValue text) else None
value_in Number names text = option_map NumberValue (number_of text)
value_in Points names text = points_of text
value_in Choice names text =
    option_map (λ k. ChoiceValue (record { 0 = k })) (place_named text names)
value_in User names text = option_map (λ k. UserValue (record { 0 = k })) (place_named text names)
value_in Set names text = set_in names text
value_in Labels names text = label_list_of text
value_in Date names text = option_map (λ day. DateValue (record { 0 = day })) (day_of text)
value_in Sprint names text = option_map (λ n. SprintValue (record { 0 = n })) (sprint_of text)

-- each choice is one of so many, and they rise
abbrev pub is_set : ℕ → List ChoiceNo → Bool
is_set count [] = true
is_set count (choice ∷ []) = nat_lt choice.0 count
is_set count (choice ∷ next ∷ choices) = nat_lt choice.0 next.0 && is_set count (next ∷ choices)

-- each is a label, and each stands before the next by its bytes
abbrev pub is_label_list : List (List ℕ) → Bool
is_label_list [] = true
is_label_list (label ∷ []) = is_label label
is_label_list (label ∷ next ∷ labels) =
    (is_label label && is_before label next) && is_label_list (next ∷ labels)

-- a value that isn't empty may stand in a field of this form
abbrev pub is_of_form : Form → List (List ℕ) → Value → Bool
is_of_form (Line most) names (TextValue text) = is_line most text
is_of_form (Prose most) names (TextValue text) = is_prose most text
is_of_form Number names (NumberValue z) = is_number z
is_of_form Points names (NumberValue z) = int_le (pos 0) z && is_number z
is_of_form Choice names (ChoiceValue choice) = nat_lt choice.0 (length names)
is_of_form User names (UserValue user) = nat_lt user.0 (length names)
is_of_form Set names (SetValue choices) = nat_lt 0 (length choices) && is_set (length names) choices
is_of_form Labels names (LabelsValue labels) =
    is_from_to 1 16 (length labels) && is_label_list labels
is_of_form Date names (DateValue day) = is_day day.0
is_of_form Sprint names (SprintValue sprint) = true
is_of_form _ _ _ = false

-- The grammar of queries. A rule whose alternatives begin alike is written with what they share in front.
use Rattle.std.specs.Prelude.{ℕ, zero, suc, Bool, true, false}
use Rattle.jql_syntax.specs.Node.{Label, named_field, numbered_field, called, text_value, call_value, empty_item, value_item, list_of_items, list_of_call, one_item, several_items, after, before, on_day, during, by_author, predicate_aspect, from_choice, to_choice, equals, not_equals, among, not_among, is_empty, is_not_empty, was, was_not, was_among, was_not_among, changed, compares, field_test, negated, all, any, ascending, descending, sort_key, whole}
use Rattle.jql_syntax.specs.Form.{Class, sign, plain_text, date_text, function_name, bare_word, any_text, field_number, Form, one, nothing, both, either, many, rule, unit}
use Rattle.jql_syntax.specs.declared.token.Mark.{Mark}
use Rattle.jql_syntax.specs.declared.token.Mark.TheVariants.{Equals, NotEquals, Greater, GreaterOrEqual, Less, LessOrEqual, Contains, Lacks, Open, Close, Comma, And, Or, Not, Empty, In, Is, Was, Changed, Order, By, Ascending, Descending, After, Before, On, During, From, To}
use Rattle.jql_syntax.specs.declared.query.Comparison.{Comparison}
use Rattle.jql_syntax.specs.declared.query.Comparison.TheVariants.{Greater as IsGreater, GreaterOrEqual as IsGreaterOrEqual, Less as IsLess, LessOrEqual as IsLessOrEqual, Contains as DoesContain, Lacks as DoesLack}

-- how many NOTs and parentheses may be open at one place
abbrev pub limit : ℕ
limit = 64

-- a sign or keyword
abbrev pub key : Mark → Form
key m = one (sign m)

-- one or more, with the sign between them
abbrev pub separated : Form → Mark → Form
separated f m = both f (many (both (key m) f))

-- one or more in parentheses, with commas between them
abbrev pub listed : Form → Form
listed f = both (key Open) (both (separated f Comma) (key Close))

-- field = word | quoted | cf
abbrev pub field : Form
field = either (rule named_field (one any_text)) (rule numbered_field (one field_number))

-- call = word "(" [ word | quoted ] ")"
abbrev pub argument : Form
argument = both (key Open) (both (either (one any_text) nothing) (key Close))

abbrev pub call_of : Class → Form
call_of c = rule called (both (one c) argument)

-- where a value may stand too, a word begins a call only before a parenthesis
abbrev pub call : Form
call = call_of function_name

-- value = word | quoted | call
abbrev pub value : Form
value = either (rule text_value (one plain_text)) (rule call_value call)

-- date = value, and a word or a quoted text is a date literal or a period
abbrev pub date : Form
date = either (rule text_value (one date_text)) (rule call_value call)

-- item = value | EMPTY, and an author is no EMPTY
abbrev pub item : Form
item = either (rule value_item value) (rule empty_item (key Empty))

abbrev pub author : Form
author = rule value_item value

abbrev pub item_or_author : Bool → Form
item_or_author true = author
item_or_author false = item

-- list = "(" item { "," item } ")" | call, and each word begins a call here: the parenthesis may still be to come
abbrev pub call_as_list : Form
call_as_list = call_of bare_word

abbrev pub list : Form
list = either (rule list_of_items (listed item)) (rule list_of_call call_as_list)

-- some = item | "(" item { "," item } ")"
abbrev pub some : Form → Form
some f = either (rule several_items (listed f)) (rule one_item f)

-- pred = AFTER date | BEFORE date | ON date | DURING "(" date "," date ")" | BY some
abbrev pub two_dates : Form
two_dates = both (key Open) (both date (both (key Comma) (both date (key Close))))

abbrev pub on_dates : Form
on_dates = both (key During) two_dates

abbrev pub later_predicate : Form
later_predicate =
    either (rule before (both (key Before) date))
    (either (rule on_day (both (key On) date))
    (either (rule during on_dates)
    (rule by_author (both (key By) (some author)))))

abbrev pub predicate : Form
predicate = either (rule after (both (key After) date)) later_predicate

-- pred | FROM some | TO some
abbrev pub aspect : Form
aspect =
    either (rule predicate_aspect predicate)
    (either (rule from_choice (both (key From) (some item)))
    (rule to_choice (both (key To) (some item))))

-- ( ">" | ">=" | "<" | "<=" | "~" | "!~" ) value
abbrev pub compared : Comparison → Mark → Form
compared c m = rule (compares c) (both (key m) value)

-- IS [ NOT ] EMPTY
abbrev pub emptiness : Form
emptiness = either (rule is_not_empty (both (key Not) (key Empty))) (rule is_empty (key Empty))

abbrev pub is_test : Form
is_test = both (key Is) emptiness

-- ( IN list | item ) { pred }, behind a NOT or without it
abbrev pub among_then : Bool → Label
among_then true = was_not_among
among_then false = was_among

abbrev pub item_then : Bool → Label
item_then true = was_not
item_then false = was

abbrev pub past_among : Form
past_among = both (key In) (both list (many predicate))

abbrev pub past_item : Form
past_item = both item (many predicate)

abbrev pub past : Bool → Form
past b = either (rule (among_then b) past_among) (rule (item_then b) past_item)

-- WAS [ NOT ] ( IN list | item ) { pred }
abbrev pub was_test : Form
was_test = both (key Was) (either (both (key Not) (past true)) (past false))

-- CHANGED { pred | FROM some | TO some }
abbrev pub changed_test : Form
changed_test = rule changed (both (key Changed) (many aspect))

abbrev pub comparison : Form
comparison =
    either (compared IsGreater Greater)
    (either (compared IsGreaterOrEqual GreaterOrEqual)
    (either (compared IsLess Less)
    (either (compared IsLessOrEqual LessOrEqual)
    (either (compared DoesContain Contains)
    (compared DoesLack Lacks)))))

-- what stands behind a field
abbrev pub test : Form
test =
    either (rule equals (both (key Equals) item))
    (either (rule not_equals (both (key NotEquals) item))
    (either (rule among (both (key In) list))
    (either (rule not_among (both (key Not) (both (key In) list)))
    (either is_test
    (either was_test
    (either changed_test
    comparison))))))

abbrev pub leaf : Form
leaf = rule field_test (both field test)

-- conj = unit { AND unit }, and expr = conj { OR conj }
abbrev pub conjunction : ℕ → Form
conjunction n = rule all (separated (unit n) And)

abbrev pub expression : ℕ → Form
expression n = rule any (separated (conjunction n) Or)

-- unit = NOT unit | "(" expr ")" | leaf, and a leaf alone where no more may be opened
abbrev pub unit_form : ℕ → Form
unit_form zero = leaf
unit_form (suc n) =
    either (rule negated (both (key Not) (unit n)))
    (either (both (key Open) (both (expression n) (key Close)))
    leaf)

-- sort = field [ ASC | DESC ]
abbrev pub direction : Form
direction =
    either (rule ascending (key Ascending)) (either (rule descending (key Descending)) nothing)

abbrev pub sorting : Form
sorting = rule sort_key (both field direction)

-- ORDER BY sort { "," sort }
abbrev pub order : Form
order = both (key Order) (both (key By) (separated sorting Comma))

-- query = [ expr ] [ ORDER BY sort { "," sort } ]
abbrev pub query : ℕ → Form
query n = rule whole (both (either (expression n) nothing) (either order nothing))

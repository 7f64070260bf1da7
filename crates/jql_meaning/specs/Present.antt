-- The truth of a present comparison at a moment.
use Rattle.std.specs.Prelude.{ℕ, Bool, false, not, ◌&&◌, List}
use Rattle.std.specs.List.{list_any}
use Rattle.std.specs.Ordering.{is_some_and}
use Rattle.field_values.specs.declared.value.Value.{Value}
use Rattle.change_history.specs.History.{History, present}
use Rattle.jql_bound.specs.declared.leaf.Subject.{Subject}
use Rattle.jql_bound.specs.declared.leaf.Operator.{Operator}
use Rattle.jql_bound.specs.declared.leaf.Leaf.{Leaf}
use Rattle.jql_meaning.specs.Surroundings.{Surroundings}
use Rattle.jql_meaning.specs.Naming.{is_empty}
use Rattle.jql_meaning.specs.Words.{has_words}
use Rattle.jql_meaning.specs.Comparison.{equals, order, stands}

-- a field may be empty; the project, the key and the moments of an issue never are
abbrev pub lacks_value : History → Subject → Bool
lacks_value h (Subject.Field field) = is_empty (present h field)
lacks_value h subject = false

-- what is compared is a text that passes
abbrev pub text_passes : (List ℕ → Bool) → Value → Bool
text_passes p (Value.Text text) = p text
text_passes p v = false

abbrev pub has_text : (List ℕ → Bool) → History → Subject → Bool
has_text p h (Subject.Field field) = text_passes p (present h field)
has_text p h subject = false

-- Over an empty field each comparison is false, but for IS EMPTY and a list with EMPTY among its items.
abbrev pub operator_holds : Surroundings → History → ℕ → Subject → Operator → Bool
operator_holds s h now subject (Operator.In operands) =
    list_any (λ operand. equals s h now subject operand) operands
operator_holds s h now subject (Operator.NotIn operands) =
    not (lacks_value h subject)
    && not (list_any (λ operand. equals s h now subject operand) operands)
operator_holds s h now subject (Operator.Compares inequality operand) =
    is_some_and (stands inequality) (order s h now subject operand)
operator_holds s h now subject (Operator.Contains words) = has_text (has_words words) h subject
operator_holds s h now subject (Operator.Lacks words) =
    has_text (λ text. not (has_words words text)) h subject
operator_holds s h now subject Operator.IsEmpty = lacks_value h subject
operator_holds s h now subject Operator.IsNotEmpty = not (lacks_value h subject)

-- the truth of a present comparison of an issue at the present moment
unfoldable pub holds_now : Surroundings → Leaf → History → ℕ → Bool
holds_now s leaf h now = operator_holds s h now leaf.subject leaf.operator

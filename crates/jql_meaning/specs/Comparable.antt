-- Where there is something to compare.
use Rattle.std.specs.Prelude.{ℕ, Bool, true, not, ◌&&◌, is_some}
use Rattle.change_history.specs.History.{History}
use Rattle.jql_bound.specs.declared.leaf.Subject.{Subject}
use Rattle.jql_bound.specs.declared.leaf.Operator.{Operator}
use Rattle.jql_bound.specs.Condition.{Condition, now, past, all_of, any_of, Conditions, no_conditions, condition}
use Rattle.jql_meaning.specs.Surroundings.{Surroundings}
use Rattle.jql_meaning.specs.Comparison.{order}
use Rattle.jql_meaning.specs.Present.{lacks_value, has_text}

-- the field isn't empty, and what it holds is of the kind that it is compared with
abbrev pub can_be_told : Surroundings → History → ℕ → Subject → Operator → Bool
can_be_told s h t subject (Operator.In operands) = not (lacks_value h subject)
can_be_told s h t subject (Operator.NotIn operands) = not (lacks_value h subject)
can_be_told s h t subject (Operator.Compares inequality operand) =
    is_some (order s h t subject operand)
can_be_told s h t subject (Operator.Contains words) = has_text (λ text. true) h subject
can_be_told s h t subject (Operator.Lacks words) = has_text (λ text. true) h subject
can_be_told s h t subject Operator.IsEmpty = true
can_be_told s h t subject Operator.IsNotEmpty = true

-- that is so of each present comparison
unfoldable mutual
  pub all_can_be_told : Surroundings → History → ℕ → Condition → Bool
  all_can_be_told s h t (now leaf) = can_be_told s h t leaf.subject leaf.operator
  all_can_be_told s h t (past leaf) = true
  all_can_be_told s h t (all_of conditions) = each_can_be_told s h t conditions
  all_can_be_told s h t (any_of conditions) = each_can_be_told s h t conditions

  pub each_can_be_told : Surroundings → History → ℕ → Conditions → Bool
  each_can_be_told s h t no_conditions = true
  each_can_be_told s h t (condition c cs) = all_can_be_told s h t c && each_can_be_told s h t cs

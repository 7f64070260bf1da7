-- How what is compared stands to two dates that mean the same second.
use Rattle.std.proofs.Common.{◌≡◌, ℕ, Some, pos, refl, ap, ℤ}
use Rattle.std.specs.Ordering.{int_cmp}
use Rattle.field_values.specs.declared.value.Value.{Value}
use Rattle.field_values.specs.declared.value.Value.TheVariants.{Empty, Text, Number, Choice, User, Date, Set, Labels, Sprint}
use Rattle.change_history.specs.History.{History, present, updated}
use Rattle.relative_dates.specs.declared.term.Term.{Term}
use Rattle.jql_bound.specs.declared.operand.Operand.TheVariants as operand
use Rattle.jql_bound.specs.declared.leaf.Subject.{Subject}
use Rattle.jql_bound.specs.declared.leaf.Subject.TheVariants as subject
use Rattle.jql_meaning.specs.Surroundings.{Surroundings}
use Rattle.jql_meaning.specs.Comparison.{second_now, midnight_of, value_order, moment_order, order}

module _ (s : Surroundings) (at : ℕ) (old new : Term) (same : second_now s at new ≡ second_now s at old) where
  same_value_order : (v : Value) → value_order s at v (operand.Date new) ≡ value_order s at v (operand.Date old)
  same_value_order Empty = refl
  same_value_order (Text text) = refl
  same_value_order (Number number) = refl
  same_value_order (Choice choice) = refl
  same_value_order (User user) = refl
  same_value_order (Date day) = ap (λ (second : ℤ). Some (int_cmp (midnight_of s day) second)) same
  same_value_order (Set choices) = refl
  same_value_order (Labels labels) = refl
  same_value_order (Sprint sprint) = refl

  same_moment_order : (moment : ℕ) → moment_order s at moment (operand.Date new) ≡ moment_order s at moment (operand.Date old)
  same_moment_order moment = ap (λ (second : ℤ). Some (int_cmp (pos moment) second)) same

  pub same_order : (h : History) (subject : Subject) → order s h at subject (operand.Date new) ≡ order s h at subject (operand.Date old)
  same_order h (subject.Field field) = same_value_order (present h field)
  same_order h subject.Project = refl
  same_order h subject.Key = refl
  same_order h subject.Created = same_moment_order h.at
  same_order h subject.Updated = same_moment_order (updated h)

-- The order of issues is total.
use Rattle.std.proofs.Common.{◌≡◌, ℕ, List, [], ◌∷◌, refl, ap, sym, subst, ◌∙◌}
use Rattle.std.specs.Cmp.{IsTotalOrder}
use Rattle.std.specs.Ordering.{ordering_then, ordering_reverse, is_lt, is_gt}
use Rattle.std.proofs.lemmas.Bool.{true≢false}
use Rattle.std.specs.declared.cmp.Ordering.{Ordering}
use Rattle.std.specs.declared.cmp.Ordering.TheVariants.{Less, Equal, Greater}
use Rattle.std.proofs.lemmas.Cmp.{nat_cmp_total, on_total, then_total, back_total, ranked}
use Rattle.field_values.specs.declared.numbers.TheConstants.FieldNo as number
use Rattle.field_values.specs.Parts.{Parts}
use Rattle.field_values.specs.declared.numbers.IssueNo.{IssueNo}
use Rattle.change_history.specs.History.{History, present}
use Rattle.jql_bound.specs.declared.order.SortField.{SortField}
use Rattle.jql_bound.specs.declared.order.Direction.{Direction}
use Rattle.jql_bound.specs.declared.order.OrderKey.{OrderKey}
use Rattle.jql_meaning.specs.Order.{Standing, standing, standing_cmp, category_standing, field_cmp, directed, issue_cmp}
use Rattle.jql_eval.specs.Laws.{list_cmp}
use Rattle.jql_eval.proofs.Standings.{standing_cmp-total}

reverse_twice : (o : Ordering) → ordering_reverse (ordering_reverse o) ≡ o
reverse_twice Less = refl
reverse_twice Equal = refl
reverse_twice Greater = refl

reverse_then : (o p : Ordering) → ordering_reverse (ordering_then o p) ≡ ordering_then (ordering_reverse o) (ordering_reverse p)
reverse_then Less p = refl
reverse_then Equal p = refl
reverse_then Greater p = refl

-- ---- it turns round

field_turns : (parts : Parts) (ranks : Ordering) (one other : History) (field : SortField) → field_cmp parts ranks one other field ≡ ordering_reverse (field_cmp parts (ordering_reverse ranks) other one field)
field_turns parts ranks one other (SortField.Subject subject) = standing_cmp-total.antisymm (standing parts one subject) (standing parts other subject)
field_turns parts ranks one other SortField.StatusCategory = standing_cmp-total.antisymm (category_standing parts (present one number.STATUS)) (category_standing parts (present other number.STATUS))
field_turns parts ranks one other SortField.Rank = sym (reverse_twice ranks)

directed_turns : (direction : Direction) (o : Ordering) → directed direction (ordering_reverse o) ≡ ordering_reverse (directed direction o)
directed_turns Direction.Ascending o = refl
directed_turns Direction.Descending o = refl

pub turns_round : (parts : Parts) (keys : List OrderKey) (ranks : Ordering) (one other : History) → issue_cmp parts keys ranks one other ≡ ordering_reverse (issue_cmp parts keys (ordering_reverse ranks) other one)
unfolding issue_cmp
turns_round parts [] ranks one other = nat_cmp_total.antisymm one.no.0 other.no.0
turns_round parts (sort ∷ sorts) ranks one other =
    let first = ap (directed sort.direction) (field_turns parts ranks one other sort.field) ∙ directed_turns sort.direction (field_cmp parts (ordering_reverse ranks) other one sort.field) in
    let rest = turns_round parts sorts ranks one other in
    (λ i. ordering_then (first i) (rest i)) ∙ sym (reverse_then (directed sort.direction (field_cmp parts (ordering_reverse ranks) other one sort.field)) (issue_cmp parts sorts (ordering_reverse ranks) other one))

-- ---- only issues of one number tie

then_ties : (o p : Ordering) → ordering_then o p ≡ Equal → p ≡ Equal
then_ties Less p e = absurd (true≢false (ap is_lt e))
then_ties Equal p e = e
then_ties Greater p e = absurd (true≢false (ap is_gt e))

pub one_number_ties : (parts : Parts) (keys : List OrderKey) (ranks : Ordering) (one other : History) → issue_cmp parts keys ranks one other ≡ Equal → one.no ≡ other.no
unfolding issue_cmp
one_number_ties parts [] ranks one other e = ap (λ (n : ℕ). let no : IssueNo = record { 0 = n } in no) (ranked one.no.0 other.no.0 Equal (sym e))
one_number_ties parts (sort ∷ sorts) ranks one other e =
    one_number_ties parts sorts ranks one other (then_ties (directed sort.direction (field_cmp parts ranks one other sort.field)) (issue_cmp parts sorts ranks one other) e)

-- ---- it is total

reversed_total : {X : Type 0} {cmp : X → X → Ordering} → IsTotalOrder cmp → IsTotalOrder (λ one other. ordering_reverse (cmp one other))
reversed_total {X} {cmp} o = subst (λ (c : X → X → Ordering). IsTotalOrder c) (λ i one other. (o.antisymm other one) i) (back_total o)

-- so is the order of standings in a direction
pub directed_cmp-total : (direction : Direction) → IsTotalOrder (λ (one other : Standing). directed direction (standing_cmp one other))
directed_cmp-total Direction.Ascending = standing_cmp-total
directed_cmp-total Direction.Descending = reversed_total standing_cmp-total

module _ (parts : Parts) (ranks : History → History → Ordering) (total : IsTotalOrder ranks) where
  field_total : (field : SortField) → IsTotalOrder (λ one other. field_cmp parts (ranks one other) one other field)
  field_total (SortField.Subject subject) = on_total (λ h. standing parts h subject) standing_cmp-total
  field_total SortField.StatusCategory = on_total (λ h. category_standing parts (present h number.STATUS)) standing_cmp-total
  field_total SortField.Rank = total

  directed_total : (direction : Direction) (field : SortField) → IsTotalOrder (λ one other. directed direction (field_cmp parts (ranks one other) one other field))
  directed_total Direction.Ascending field = field_total field
  directed_total Direction.Descending field = reversed_total (field_total field)

  pub list_cmp-total : (keys : List OrderKey) → IsTotalOrder (list_cmp parts keys ranks)
  unfolding issue_cmp
  list_cmp-total [] = on_total (λ h. h.no.0) nat_cmp_total
  list_cmp-total (sort ∷ sorts) = then_total (directed_total sort.direction sort.field) (list_cmp-total sorts)

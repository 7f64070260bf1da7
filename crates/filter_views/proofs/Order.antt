-- The order of ends is a total one.
use Rattle.std.specs.Cmp.{IsTotalOrder, IsStrictWeakOrder}
use Rattle.std.proofs.lemmas.Cmp.{nat_cmp_total, then_total, on_total}
use Rattle.std.proofs.lemmas.List.Sorted.{ranks_by}
use Rattle.filter_views.specs.declared.due.Due.{Due}
use Rattle.filter_views.specs.Due.{due_cmp, is_before}

due_cmp_total : IsTotalOrder due_cmp
due_cmp_total = then_total (on_total (λ (d : Due). d.end) nat_cmp_total) (then_total (on_total (λ (d : Due). d.filter.0) nat_cmp_total) (on_total (λ (d : Due). d.issue.0) nat_cmp_total))

pub is_before_order : IsStrictWeakOrder is_before
unfolding is_before
is_before_order = ranks_by due_cmp_total (λ d. d)

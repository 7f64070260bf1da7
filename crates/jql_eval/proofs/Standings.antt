-- The order of standings is total.
use Rattle.std.proofs.Common.{◌≡◌, ℕ, List, [], refl, subst, ℤ, pos}
use Rattle.std.specs.Cmp.{IsTotalOrder}
use Rattle.std.specs.Cmp.Lexicographic.{slice_cmp}
use Rattle.std.specs.Ordering.{int_cmp, nat_cmp, ordering_then, on, then_cmp}
use Rattle.std.specs.declared.cmp.Ordering.{Ordering}
use Rattle.std.specs.declared.cmp.Ordering.TheVariants.{Less, Equal, Greater}
use Rattle.std.proofs.lemmas.Cmp.{nat_cmp_total, int_cmp_total, nat_list_cmp_total, on_total, then_total}
use Rattle.jql_meaning.specs.Order.{Standing, size, text, key, nothing, kind_place, text_cmp, standing_cmp}

-- what a standing has of each kind
abbrev size_of : Standing → ℤ
size_of (size n) = n
size_of (text t) = pos 0
size_of (key project number) = pos 0
size_of nothing = pos 0

abbrev text_of : Standing → List ℕ
text_of (size n) = []
text_of (text t) = t
text_of (key project number) = project
text_of nothing = []

abbrev number_of : Standing → ℕ
number_of (size n) = 0
number_of (text t) = 0
number_of (key project number) = number
number_of nothing = 0

abbrev part_cmp : Standing → Standing → Ordering
part_cmp = then_cmp (on kind_place nat_cmp) (then_cmp (on size_of int_cmp) (then_cmp (on text_of (slice_cmp nat_cmp)) (on number_of nat_cmp)))

part_cmp-total : IsTotalOrder part_cmp
part_cmp-total = then_total (on_total kind_place nat_cmp_total) (then_total (on_total size_of int_cmp_total) (then_total (on_total text_of nat_list_cmp_total) (on_total number_of nat_cmp_total)))

then_equal : (o : Ordering) → ordering_then o Equal ≡ o
then_equal Less = refl
then_equal Equal = refl
then_equal Greater = refl

by_parts : (one other : Standing) → part_cmp one other ≡ standing_cmp one other
by_parts (size n) (size m) = then_equal (int_cmp n m)
by_parts (size n) (text u) = refl
by_parts (size n) (key q m) = refl
by_parts (size n) nothing = refl
by_parts (text t) (size m) = refl
by_parts (text t) (text u) = then_equal (text_cmp t u)
by_parts (text t) (key q m) = refl
by_parts (text t) nothing = refl
by_parts (key p n) (size m) = refl
by_parts (key p n) (text u) = refl
by_parts (key p n) (key q m) = refl
by_parts (key p n) nothing = refl
by_parts nothing (size m) = refl
by_parts nothing (text u) = refl
by_parts nothing (key q m) = refl
by_parts nothing nothing = refl

pub standing_cmp-total : IsTotalOrder standing_cmp
standing_cmp-total = subst (λ (cmp : Standing → Standing → Ordering). IsTotalOrder cmp) (λ i one other. by_parts one other i) part_cmp-total

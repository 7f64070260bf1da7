use Rattle.std.proofs.Common.{ℕ, ◌∙◌, ap, map, rules}
use Rattle.std.proofs.lemmas.Cmp.{nat_cmp_total}
use Rattle.std.proofs.lemmas.Fn.{always_returns_same}
use Rattle.std.proofs.lemmas.List.MinMax.{ranks_by}
use Rattle.field_values.specs.declared.numbers.FieldNo.{FieldNo}
use Rattle.tracker_machine.specs.Describe.{is_less}
use Rattle.tracker_machine.proofs.InOrder.{sorted_is_in_order, map_of_in_order}
use Rattle.page_calls.proofs.describe.put_in_order.Goals as goal

pub returns : goal.returns
returns c =
    let f : FieldNo → ℕ = λ i. i.0 in
    let o = ranks_by nat_cmp_total (λ (i : FieldNo). i.0) in
    let calls = always_returns_same _ _ _ (λ a b g called. search rules) in
    let same = sorted_is_in_order (λ one other. is_less (f one) (f other)) o c.args.numbers.now.items c.sort_by.new.self.items
    (c.in_ok-sort_by.ensures.sorted _ o calls) (c.in_ok-sort_by.ensures.stable _ o calls) in
    ap (map f) same ∙ map_of_in_order f is_less c.args.numbers.now.items

use Rattle.std.proofs.Common.{◌-◌, ◌≡◌, ◌∙◌, Some, sym, ap, take, length, vec_len, rules, arith}
use Rattle.filter_views.specs.Due.{due_at, no_due}
use Rattle.filter_views.proofs.Writes.{dropped}
use Rattle.filter_views.proofs.ends.drop_last.Goals as goal

pub returns-in-Some-clause-dropped : goal.returns-in-Some-clause-dropped
returns-in-Some-clause-dropped c =
    let ds = c.args.heap.now.items in
    let len : length ds ≡ vec_len c.args.heap.now = search rules in
    let front : c.pop.new.self.items ≡ take (length ds - 1) ds = c.pop.ensures.rest ∙ ap (λ n. take (n - 1) ds) (sym len) in
    let value : Some c.in-Some.due ≡ Some (due_at ds (vec_len c.args.heap.now - 1)) = c.in-Some.ensures.value no_due c.requires.some in
    let last : c.in-Some.due ≡ due_at ds (vec_len c.args.heap.now - 1) = cc in
    dropped ds c.pop.new.self.items c.args.rows.now c.set_place.new.rows c.in-Some.due c.requires.agree (omega (arith, len, c.requires.some)) front (last ∙ ap (λ n. due_at ds (n - 1)) (sym len)) c.set_place.ensures

use Rattle.std.proofs.Common.{◌≡◌, ℕ, ◌∙◌, ap, arith, pos, ◌+ℤ◌, FitsSigned, to_z, of_z, w64, rules}
use Rattle.std.proofs.lemmas.Int.{to_z-of_z}
use Rattle.jiff_core.proofs.SignedLemmas.{signed_arith}
use Rattle.relative_dates.specs.Calendar.{local_day, midnight}
use Rattle.jql_meaning.specs.Surroundings.{surroundings_of}
use Rattle.jql_meaning.specs.Comparison.{second_now}
use Rattle.jql_past.proofs.Disturbances.{day_disturbed_at}
use Rattle.jql_past.proofs.disturbed.disturbs_day.Goals as goal

pub returns : goal.returns
returns c =
    let s = surroundings_of c.args.context.now in
    let second_fits : FitsSigned w64 c.at.result = search rules in
    let day_fits : FitsSigned w64 c.day_of-day.result = search rules in
    let begin_fits : FitsSigned w64 c.start_of-begin.result = search rules in
    let end_fits : FitsSigned w64 c.start_of-end.result = search rules in
    let bound = c.at.ensures.bound in
    let near = simp to_z-of_z at c.day_of-day.ensures.near in
    let next_fits : FitsSigned w64 (c.day_of-day.result +ℤ pos 1) = omega (arith, signed_arith, bound, near) in
    let on : c.day_of-day.result ≡ local_day s.calendar.zone c.at.result = simp to_z-of_z at c.day_of-day.ensures.value in
    let on_day : c.day_of-day.result ≡ local_day s.calendar.zone (second_now s c.args.at c.args.term.now) = on ∙ ap (local_day s.calendar.zone) (c.at.ensures.value ∙ ap (λ (n : ℕ). second_now s n c.args.term.now) c.seconds.ensures) in
    let begin : c.start_of-begin.result ≡ midnight s.calendar.zone c.day_of-day.result = simp to_z-of_z at c.start_of-begin.ensures.value in
    let end : c.start_of-end.result ≡ midnight s.calendar.zone (c.day_of-day.result +ℤ pos 1) = simp to_z-of_z at c.start_of-end.ensures.value in
    rw (c.earlier.ensures, c.earlier-near.ensures)
    (day_disturbed_at s c.args.predicates.now c.args.at c.args.term.now (to_z w64 (of_z w64 c.start_of-begin.result)) (to_z w64 (of_z w64 c.start_of-end.result))
    c.next_change.result c.near_edge.result c.near_edge-2.result c.first_day.ensures.calendar.zone (λ t low high. c.never_falls.ensures c.args.at t low high)
    (to_z-of_z w64 c.start_of-begin.result begin_fits ∙ begin ∙ ap (midnight s.calendar.zone) on_day)
    (to_z-of_z w64 c.start_of-end.result end_fits ∙ end ∙ ap (λ z. midnight s.calendar.zone (z +ℤ pos 1)) on_day)
    c.next_change.ensures c.near_edge.ensures c.near_edge-2.ensures)

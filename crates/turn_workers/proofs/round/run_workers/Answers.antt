use Rattle.std.proofs.Common.{rules, arith, ◌≡◌, ◌<◌, length, All, subst, sym, ◌∙◌}
use Rattle.std.proofs.lemmas.List.Elements.{All-map}
use Rattle.turn_workers.specs.Round.{signed, owned}
use Rattle.turn_workers.proofs.Turns.{numbers_of}
use Rattle.turn_workers.proofs.round.run_workers.Goals as goal

pub returns-clause-numbers : goal.returns-clause-numbers
returns-clause-numbers g c =
    let split = c.split_all-seats.ensures in
    let ran = c.run_watched-eye.ensures in
    let long : length c.run_watched-eye.result.1.items ≡ c.args.span.workers = search rules in
    let made : c.split.new.first.made ≡ 1 = search rules in
    numbers_of signed (λ s. owned s.pass) c.join_all-ended.result.items c.run_watched-eye.result.1.items 2 c.args.span.workers c.join_all-ended.ensures.receipts long
    (λ i d below. ran.numbers i d (subst (λ n. i < n) (sym split.count) below) ∙ (split.numbers i d below ∙ omega (arith, made)))

pub returns-clause-makes : goal.returns-clause-makes
returns-clause-makes g c =
    let P : _ → Type 0 = λ s. g.J.Job.makes c.args.job.now s.0 s.1 in
    subst (All P) (sym c.join_all-ended.ensures.receipts) (All-map P (λ s. owned s.pass) c.run_watched-eye.result.1.items c.run_watched-eye.ensures.makes)

use Rattle.std.proofs.Common.{◌≡◌, List, length, ap, ap₂, sym, ◌∙◌}
use Rattle.tracker_calls.specs.declared.listed.ToldSprint.{ToldSprint}
use Rattle.tracker_calls.specs.declared.reply.Answer.TheVariants as answer
use Rattle.tracker_machine.specs.Overviews.{sprints_from}
use Rattle.tracker_work.specs.Seen.{Seen}
use Rattle.page_calls.proofs.Listing.{length_of_sprints}
use Rattle.page_calls.proofs.sprint_list.answered.Goals as goal

pub returns : goal.returns
returns c =
    let all : List ToldSprint = sprints_from 1 c.args.state.now.machine.sprints in
    let counted = c.count-count.ensures.number ∙ ap (λ (w : Seen). length w.sprints) c.work.ensures.seen in
    let many : length all ≡ c.count-count.result = length_of_sprints 1 c.args.state.now.machine.sprints ∙ sym counted in
    ap₂ answer.Sprints (c.in_ok-sprints.ensures ∙ c.end_of.ensures.part all many) (c.from.ensures ∙ counted)

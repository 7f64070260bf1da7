use Rattle.std.proofs.Common.{◌≡◌, ◌∙◌, length, map, ap}
use Rattle.std.proofs.lemmas.List.{length-map}
use Rattle.board.specs.Order.{Pair}
use Rattle.board.specs.Issues.{issues_in}
use Rattle.tracker_calls.specs.Part.{part_of}
use Rattle.tracker_machine.specs.Ranks.{ranked_key}
use Rattle.rank_calls.specs.Beside.{key_beside_rank}
use Rattle.rank_calls.proofs.Beside.{part_in, keys_of_part}
use Rattle.rank_calls.proofs.ranks.told.Goals as goal

pub ranked_keys-requires : goal.ranked_keys-requires
ranked_keys-requires c =
    let m = c.args.state.now.machine in
    let same : c.order.result.now.pairs ≡ m.order = c.order.ensures.order ∙ c.ranks.ensures.order in
    let order = rw same at c.issues-issues.ensures.order in
    rw (c.part_of.ensures, c.issues-issues.ensures.issues, same) (part_in m.order c.args.part order)

pub returns : goal.returns
returns c =
    let m = c.args.state.now.machine in
    let same : c.order.result.now.pairs ≡ m.order = c.order.ensures.order ∙ c.ranks.ensures.order in
    let order = rw same at c.issues-issues.ensures.order in
    let is : c.issues-issues.result.now ≡ issues_in m.order = c.issues-issues.ensures.issues ∙ ap issues_in same in
    let keys : c.in_ok-ranked_keys.field-0 ≡ map (ranked_key m.histories) (part_of c.args.part m.order) =
    c.in_ok-ranked_keys.ensures ∙ ap (map (key_beside_rank m)) (c.part_of.ensures ∙ ap (part_of c.args.part) is) ∙ keys_of_part m c.args.part order in
    let count : length c.issues-issues.result.now ≡ length m.order = ap length is ∙ length-map m.order (λ (p : Pair). p.1) in
    cc

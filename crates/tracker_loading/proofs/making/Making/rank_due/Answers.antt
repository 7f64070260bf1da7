use Rattle.std.proofs.Common.{◌≡◌, length, sym, ap, ◌∙◌}
use Rattle.std.proofs.lemmas.List.{length-map}
use Rattle.change_history.specs.History.{RoomyHistory}
use Rattle.tracker_machine.specs.Machine.{Machine}
use Rattle.tracker_loading.specs.Making.{order_of}
use Rattle.tracker_loading.proofs.Faults.{rank_wanted, no_rank_wanted, as_many_ranked}
use Rattle.tracker_loading.proofs.making.Making.rank_due.Goals as goal

pub returns-then-ranked-len : goal.returns-then-ranked-len
returns-then-ranked-len c =
    let m = c.args.self.now in
    let own = c.self.inside in
    let order : length m.order ≡ length c.as_slice-ranked.result.now =
    ap (λ (n : Machine). length n.order) (sym c.self.view_is)
    ∙ (as_many_ranked own.ranks.items (order_of own.ranks.items) c.self.invariant.permuted ∙ ap length (sym c.as_slice-ranked.ensures.value)) in
    let histories : length m.histories ≡ c.len.result =
    ap (λ (n : Machine). length n.histories) (sym c.self.view_is)
    ∙ (length-map own.issues.kept (λ (i : RoomyHistory). i.history) ∙ sym c.len.ensures) in
    rank_wanted m (length c.as_slice-ranked.result.now) c.len.result order histories c.if-ranked-len.true

pub returns-else-ranked-len : goal.returns-else-ranked-len
returns-else-ranked-len c =
    let m = c.args.self.now in
    let own = c.self.inside in
    let order : length m.order ≡ length c.as_slice-ranked.result.now =
    ap (λ (n : Machine). length n.order) (sym c.self.view_is)
    ∙ (as_many_ranked own.ranks.items (order_of own.ranks.items) c.self.invariant.permuted ∙ ap length (sym c.as_slice-ranked.ensures.value)) in
    let histories : length m.histories ≡ c.len.result =
    ap (λ (n : Machine). length n.histories) (sym c.self.view_is)
    ∙ (length-map own.issues.kept (λ (i : RoomyHistory). i.history) ∙ sym c.len.ensures) in
    no_rank_wanted m (length c.as_slice-ranked.result.now) c.len.result order histories c.if-ranked-len.false

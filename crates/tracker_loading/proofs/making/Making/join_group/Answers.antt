use Rattle.std.proofs.Common.{◌≡◌, ◌≤◌, ◌-◌, ℕ, List, length, slice_get, set, Some, ap, sym, subst, ◌∙◌, arith}
use Rattle.std.specs.BTreeSet.{keys}
use Rattle.change_history.specs.declared.entry.Entry.{Entry}
use Rattle.change_history.specs.History.{History, MayAdd, histories_of}
use Rattle.tracker_machine.specs.Machine.{Machine}
use Rattle.tracker_machine.specs.Effect.{longer, grown}
use Rattle.tracker_rows.specs.Rules.{MayBeGroupOf}
use Rattle.tracker_rows.proofs.Issues.{may_add}
use Rattle.tracker_loading.specs.Making.{IsMaking}
use Rattle.tracker_loading.specs.Turns.{IsBehindGroups}
use Rattle.tracker_loading.specs.contracts.making.Making.{the_view}
use Rattle.tracker_loading.proofs.Joined.{own_turn, group_made, grown_room, grown_kept, grown_at}
use Rattle.tracker_loading.proofs.Turns.{group_first}
use Rattle.tracker_loading.proofs.making.Making.join_group.Goals as goal

pub add-requires-clause-group : goal.add-requires-clause-group
add-requires-clause-group c =
    let m : Machine = the_view c.self.inside in
    let g = c.args.group in
    let place : ℕ = c.place_of-place.result in
    let may : MayBeGroupOf m c.args.issue g = subst (λ (o : Machine). MayBeGroupOf o c.args.issue g) (sym c.self.view_is) (c.may_group.ensures.0 c.if-not-may_group.false) in
    let behind : IsBehindGroups m.histories g.change = subst (λ (o : Machine). IsBehindGroups o.histories g.change) (sym c.self.view_is) c.requires.next in
    let h : History = may.history in
    let there : slice_get m.histories place ≡ Some h = ap (slice_get m.histories) c.place_of-place.ensures ∙ may.there in
    grown_room c.self.inside.issues c.reserve_entries.new.self place (length c.as_slice-count.result.now) (length g.entries) h
    (λ i. MayAdd i g.change g.at g.author g.entries) there (may_add m place h g there may.group (λ n a has. behind place n a h there has))
    (omega (arith, ap (λ (es : List Entry). length es) c.as_slice-count.ensures)) c.in_ok-reserve_entries.ensures.ok

pub invariant_of-self-2 : goal.invariant_of-self-2
invariant_of-self-2 c =
    let m : Machine = the_view c.self.inside in
    let g = c.args.group in
    let place : ℕ = c.place_of-place.result in
    let may : MayBeGroupOf m c.args.issue g = subst (λ (o : Machine). MayBeGroupOf o c.args.issue g) (sym c.self.view_is) (c.may_group.ensures.0 c.if-not-may_group.false) in
    let behind : IsBehindGroups m.histories g.change = subst (λ (o : Machine). IsBehindGroups o.histories g.change) (sym c.self.view_is) c.requires.next in
    let h : History = may.history in
    let there : slice_get m.histories place ≡ Some h = ap (slice_get m.histories) c.place_of-place.ensures ∙ may.there in
    let tally = c.self.inside.issues.tally in
    let new = c.add.new.self.tally in
    let ranks = c.self.inside.ranks.items in
    let filters = c.self.inside.filters.items in
    let taken = keys c.self.inside.taken in
    let le : c.self.inside.group_at ≤ g.at =
    group_first m.histories c.self.inside.group_at g.change g.at c.self.invariant.groups behind (own_turn m g.change g.at may.group.turn) in
    let histories : histories_of c.add.new.self.kept ≡ set m.histories place (longer h g.entries) =
    grown_kept c.self.inside.issues.kept c.reserve_entries.new.self.kept c.add.new.self.kept place h g.entries there c.reserve_entries.ensures.histories c.add.ensures.kept in
    subst (λ (hs : List History). IsMaking (record m { histories = hs }) new ranks filters taken g.at) (sym histories)
    (group_made m tally new ranks filters taken c.self.inside.group_at c.self.invariant place h g there may.group le (c.add.ensures.tally ∙ c.reserve_entries.ensures.tally))

pub returns-clause-good : goal.returns-clause-good
returns-clause-good c =
    let m : Machine = the_view c.self.inside in
    let g = c.args.group in
    let place : ℕ = c.place_of-place.result in
    let may : MayBeGroupOf m c.args.issue g = subst (λ (o : Machine). MayBeGroupOf o c.args.issue g) (sym c.self.view_is) (c.may_group.ensures.0 c.if-not-may_group.false) in
    let h : History = may.history in
    let there : slice_get m.histories place ≡ Some h = ap (slice_get m.histories) c.place_of-place.ensures ∙ may.there in
    let histories : histories_of c.add.new.self.kept ≡ grown m.histories (c.args.issue.0 - 1) g.entries =
    grown_kept c.self.inside.issues.kept c.reserve_entries.new.self.kept c.add.new.self.kept place h g.entries there c.reserve_entries.ensures.histories c.add.ensures.kept
    ∙ grown_at m.histories place h g.entries there ∙ ap (λ k. grown m.histories k g.entries) c.place_of-place.ensures in
    λ is. (
      subst (λ (o : Machine). MayBeGroupOf o c.args.issue g) c.self.view_is may,
      ap (λ (hs : List History). record m { histories = hs }) histories
          ∙ ap (λ (o : Machine). record o { histories = grown o.histories (c.args.issue.0 - 1) g.entries }) c.self.view_is,
    )

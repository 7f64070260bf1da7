use Rattle.std.proofs.Common.{◌≡◌, ◌<◌, List, length, slice_get, set, Some, ap, sym, refl, ◌∙◌}
use Rattle.std.proofs.lemmas.Option.{slice_get_read}
use Rattle.std.proofs.lemmas.Result.{on_ok_weaker}
use Rattle.std.proofs.Math.Seq.{map-set_same}
use Rattle.change_history.specs.History.{RoomyHistory, histories_of}
use Rattle.tracker_issues.specs.Counts.{Tally}
use Rattle.tracker_issues.specs.Issues.{Shelf}
use Rattle.tracker_issues.proofs.Histories.{some_is, if_found}
use Rattle.tracker_issues.proofs.issues.Issues.reserve_entries.Goals as goal

pub invariant_of-self : goal.invariant_of-self
invariant_of-self c =
    let kept = c.self.inside.list.items in
    let same : histories_of (set kept c.args.place c.reserve.new.self) ≡ histories_of kept =
    map-set_same (λ (i : RoomyHistory). i.history) kept c.args.place c.reserve.new.self c.index_mut.result.now (c.reserve.ensures.history ∙ ap (λ (i : RoomyHistory). i.history) c.index_mut.ensures.value) in
    rw same c.self.invariant

pub returns-clause-ok : goal.returns-clause-ok
returns-clause-ok c =
    let kept = c.self.inside.list.items in
    let tally : Tally = record { counts = c.self.inside.counts.items; projects = c.self.inside.projects.items } in
    let old = c.index_mut.result.now in
    let same : kept ≡ c.args.self.now.kept = ap (λ s. s.kept) c.self.view_is in
    let there : c.args.place < length kept = rw (same) c.requires in
    let at : slice_get kept c.args.place ≡ Some old = slice_get_read kept (length kept) c.args.place old refl there c.index_mut.ensures.value in
    on_ok_weaker c.reserve.result (λ (new : c.reserve.new.self ≡ record old { room = c.args.n }). if_found _ _ (λ i is.
    let found : old ≡ i = some_is old i (sym at ∙ ap (λ xs. slice_get xs c.args.place) same ∙ is) in
    ap (λ (xs : List RoomyHistory). record { kept = xs; room = c.self.inside.room; tally = tally }) (ap (λ (j : RoomyHistory). set kept c.args.place j) (new ∙ ap (λ (j : RoomyHistory). record j { room = c.args.n }) found))
    ∙ ap (λ (s : Shelf). record s { kept = set s.kept c.args.place (record i { room = c.args.n }) }) c.self.view_is)) c.reserve.ensures.ok

pub returns-clause-histories : goal.returns-clause-histories
returns-clause-histories c =
    let kept = c.self.inside.list.items in
    map-set_same (λ (i : RoomyHistory). i.history) kept c.args.place c.reserve.new.self c.index_mut.result.now (c.reserve.ensures.history ∙ ap (λ (i : RoomyHistory). i.history) c.index_mut.ensures.value)
    ∙ ap (λ (s : Shelf). histories_of s.kept) c.self.view_is

use Rattle.std.proofs.Common.{◌≡◌, ◌<◌, length, map, slice_get, set, ap, subst, sym, ◌∙◌}
use Rattle.std.proofs.lemmas.List.{length-map, map-set}
use Rattle.std.proofs.lemmas.Result.{on_ok_weaker}
use Rattle.change_history.specs.History.{RoomyHistory}
use Rattle.tracker_issues.specs.Issues.{Shelf}
use Rattle.tracker_state.specs.State.{Held}
use Rattle.tracker_machine.proofs.Settled.{at_place, from_found}
use Rattle.tracker_issues.proofs.Histories.{set_here, room_at}
use Rattle.tracker_state.proofs.state.State.reserve_entries.Goals as goal

pub returns-clause-room : goal.returns-clause-room
returns-clause-room c =
    let kept = c.self.inside.issues.kept in
    let there : c.args.place < length (map (λ (i : RoomyHistory). i.history) kept) = subst (λ (s : Held). c.args.place < length s.machine.histories) (sym c.self.view_is) c.requires in
    let in' : c.args.place < length kept = subst (λ n. c.args.place < n) (length-map kept (λ (i : RoomyHistory). i.history)) there in
    let found = at_place kept c.args.place in' in
    let i = found.0 in
    on_ok_weaker c.reserve_entries.result (λ h.
    let is = from_found (slice_get kept c.args.place) i (λ i. c.reserve_entries.new.self ≡ record c.self.inside.issues { kept = set kept c.args.place (record i { room = c.args.n }) }) found.1 h in
    ap (λ (s : Shelf). slice_get (map (λ (i : RoomyHistory). i.room) s.kept) c.args.place) is
    ∙ room_at (set kept c.args.place (record i { room = c.args.n })) c.args.place (record i { room = c.args.n }) (set_here kept c.args.place (record i { room = c.args.n }) in')) c.reserve_entries.ensures.ok

pub returns-clause-rooms : goal.returns-clause-rooms
returns-clause-rooms c =
    let kept = c.self.inside.issues.kept in
    let there : c.args.place < length (map (λ (i : RoomyHistory). i.history) kept) = subst (λ (s : Held). c.args.place < length s.machine.histories) (sym c.self.view_is) c.requires in
    let in' : c.args.place < length kept = subst (λ n. c.args.place < n) (length-map kept (λ (i : RoomyHistory). i.history)) there in
    let found = at_place kept c.args.place in' in
    let i = found.0 in
    on_ok_weaker c.reserve_entries.result (λ h.
    let is = from_found (slice_get kept c.args.place) i (λ i. c.reserve_entries.new.self ≡ record c.self.inside.issues { kept = set kept c.args.place (record i { room = c.args.n }) }) found.1 h in
    ap (λ (s : Shelf). map (λ (i : RoomyHistory). i.room) s.kept) is
    ∙ map-set (λ (i : RoomyHistory). i.room) kept c.args.place (record i { room = c.args.n })
    ∙ ap (λ (s : Held). set s.rooms c.args.place c.args.n) c.self.view_is) c.reserve_entries.ensures.ok

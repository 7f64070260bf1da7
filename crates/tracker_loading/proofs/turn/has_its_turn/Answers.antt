use Rattle.std.proofs.Common.{◌<◌, ◌≤◌, List, map, arith}
use Rattle.std.proofs.lemmas.Bool.{false≢true}
use Rattle.change_history.specs.History.{History, RoomyHistory}
use Rattle.tracker_loading.proofs.Truths.{is_below, at_least, refused}
use Rattle.tracker_loading.proofs.Turns.{turn_from, group_first, creations_before, creations_behind}
use Rattle.tracker_loading.proofs.turn.has_its_turn.Goals as goal

pub returns-then-lt : goal.returns-then-lt
returns-then-lt c =
    let hs : List History = map (λ (i : RoomyHistory). i.history) c.args.issues.now in
    let less : c.args.at < c.args.group_at = (is_below c.args.at c.args.group_at c.lt.result c.lt.ensures).0 c.if-lt.true in (
      λ t. absurd (false≢true t),
      λ turn.
          let le = group_first hs c.args.group_at c.args.change c.args.at c.requires.groups c.requires.behind turn in
          absurd (omega (arith, le, less)),
    )

pub returns-then-not-is_not_before : goal.returns-then-not-is_not_before
returns-then-not-is_not_before c =
    let hs : List History = map (λ (i : RoomyHistory). i.history) c.args.issues.now in (
      λ t. absurd (false≢true t),
      λ turn.
          absurd (refused c.is_not_before.result c.if-not-is_not_before.true c.is_not_before.ensures
          (creations_before hs c.args.change c.args.at c.count_before-place.result c.count_before-place.ensures turn)),
    )

pub returns : goal.returns
returns c =
    let hs : List History = map (λ (i : RoomyHistory). i.history) c.args.issues.now in
    let place = c.count_before-place.result in
    let is = c.count_before-place.ensures in
    let le : c.args.group_at ≤ c.args.at = at_least c.args.at c.args.group_at c.lt.result c.lt.ensures c.if-lt.false in
    let before = c.is_not_before.ensures.0 c.if-not-is_not_before.false in (
      λ t. turn_from hs c.args.group_at c.args.change c.args.at place c.requires.groups c.requires.behind is le before (c.is_not_behind.ensures.0 t),
      λ turn. c.is_not_behind.ensures.1 (creations_behind hs c.args.change c.args.at place is turn),
    )

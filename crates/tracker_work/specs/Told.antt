-- The change groups of all issues, as a burndown is told of them: what the issue of each counted for before it, and counts for after it.
use Rattle.std.specs.Prelude.{ℕ, ◌==◌, Bool, true, not, List, [], ◌∷◌, ◌++◌, Option, Some, None, slice_get, if◌then◌else◌}
use Rattle.field_values.specs.declared.numbers.IssueNo.{IssueNo}
use Rattle.change_history.specs.declared.entry.Entry.{Entry}
use Rattle.change_history.specs.History.{History, opening_value}
use Rattle.burndown.specs.declared.share.Share.{Share}
use Rattle.burndown.specs.declared.group.Group.{Group}
use Rattle.burndown.specs.Group.{group_of}
use Rattle.burndown.specs.Reading.{status, points, sprint, sprint_in, points_in, is_done_in, share_of}
use Rattle.tracker_work.specs.declared.told.Told.{Told}
use Rattle.tracker_work.specs.Seen.{is_done_by}

-- what an issue counts for after one more entry
abbrev pub share_after : List Bool → Share → Entry → Share
share_after done share e = record {
  sprint = if e.field.0 == sprint.0 then sprint_in e.to else share.sprint;
  points = if e.field.0 == points.0 then points_in e.to else share.points;
  done = if e.field.0 == status.0 then is_done_in (is_done_by done) e.to else share.done;
}

-- an entry is the last one of its group, where this one follows it
abbrev pub ends_group : Entry → Option Entry → Bool
ends_group e None = true
ends_group e (Some next) = not (next.change == e.change)

abbrev pub told_of : ℕ → ℕ → IssueNo → Option Share → Share → Told
told_of change at issue before after =
    record { change = change; at = at; issue = issue; before = before; after = after }

-- a group as a burndown takes it in
abbrev pub group : Told → Group
group t = group_of t.change t.at t.issue t.before t.after

-- the groups that end among these entries of an issue, which counted for `before` after the last group before them, and for `share`
-- after all entries before them
abbrev pub groups_among : List Bool → IssueNo → Share → Share → List Entry → List Told
groups_among done issue before share [] = []
groups_among done issue before share (e ∷ es) =
    if ends_group e (slice_get es 0)
    then told_of e.change e.at issue (Some before) (share_after done share e)
    ∷ groups_among done issue (share_after done share e) (share_after done share e) es
    else groups_among done issue before (share_after done share e) es

-- the groups of an issue, its creation first
abbrev pub groups_in : List Bool → History → List Told
groups_in done h =
    let opening = share_of (is_done_by done) (opening_value h.opening) in
    told_of h.change h.at h.no None opening ∷ groups_among done h.no opening opening h.entries

-- those of all issues
abbrev pub groups_of : List Bool → List History → List Told
groups_of done [] = []
groups_of done (h ∷ hs) = groups_in done h ++ groups_of done hs

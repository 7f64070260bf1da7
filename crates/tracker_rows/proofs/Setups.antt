-- No effect changes a tracker's setup, but for who is in its groups.
use Rattle.std.proofs.Common.{◌-◌, refl, ap, ◌∙◌}
use Rattle.field_values.specs.Parts.{Parts}
use Rattle.field_values.specs.GroupMembers.{with_members}
use Rattle.field_values.proofs.Members.{same_names}
use Rattle.tracker_machine.specs.Effect.{applied}
use Rattle.tracker_machine.specs.Effect.Effect.{NewMoment, NewIssue, NewGroup, NewRank, NewBalance, NewRanks, NewSprint, NewState, NewFilter, NoFilter, NewBoard, NoBoard, NewMembers}
use Rattle.tracker_rows.specs.Laws.{NewTrackersHaveTheirSetups, EffectsKeepSetups}

pub new_setups : NewTrackersHaveTheirSetups
new_setups text setup reads = record { written = setup; reads = reads; same = refl; groups = refl }

pub setups_stay : EffectsKeepSetups
unfolding applied
setups_stay (NewMoment to) m is = is
setups_stay (NewIssue h rank external) m is = is
setups_stay (NewGroup place group) m is = is
setups_stay (NewRank issue rank) m is = is
setups_stay (NewBalance balance) m is = is
setups_stay (NewRanks moves) m is = is
setups_stay (NewSprint name) m is = is
setups_stay (NewState sprint state) m is = is
setups_stay (NewFilter f) m is = is
setups_stay (NoFilter filter_no) m is = is
setups_stay (NewBoard b) m is = is
setups_stay (NoBoard board_no) m is = is
setups_stay (NewMembers group members) m is = record {
  written = is.written;
  reads = is.reads;
  same = ap (λ (s : Parts). record s { group = with_members m.setup.group (group.0 - 1) members }) is.same;
  groups = same_names m.setup.group (group.0 - 1) members ∙ is.groups;
}

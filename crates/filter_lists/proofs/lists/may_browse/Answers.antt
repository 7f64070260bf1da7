use Rattle.std.proofs.Common.{slice_get}
use Rattle.list_calls.proofs.Projects.{may_at}
use Rattle.filter_lists.proofs.lists.may_browse.Goals as goal

pub returns : goal.returns
returns c =
    let m = c.args.state.now.machine in
    may_at m.setup c.args.user.0 (slice_get m.histories c.args.place) _ c.may.result c.may.ensures c.project_at.ensures

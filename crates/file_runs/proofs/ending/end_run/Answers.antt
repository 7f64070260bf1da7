use Rattle.std.proofs.Common.{sym, subst}
use Rattle.sqlite.specs.Files.{file_state}
use Rattle.sqlite.specs.State.{HasCleanDisk}
use Rattle.keeper_told.specs.Crash.{LeavesEither}
use Rattle.file_runs.proofs.Ended.{told_either}
use Rattle.file_runs.proofs.ending.end_run.Goals as goal

pub returns-clause-told : goal.returns-clause-told
returns-clause-told g c = λ clean.
    subst (λ h. HasCleanDisk (file_state h)) c.release.ensures.same (c.end_files.ensures.told clean)

pub returns-clause-found : goal.returns-clause-found
returns-clause-found g c = λ clean one other leaves image may.
    told_either (file_state c.release.result) one other image (subst (λ h. LeavesEither (file_state h) one other) (sym c.release.ensures.same) leaves)
    (c.end_files.ensures.found clean image may)

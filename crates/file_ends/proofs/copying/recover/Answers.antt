use Rattle.std.proofs.Common.{sym}
use Rattle.sqlite_wal.specs.Log.{state}
use Rattle.file_ends.proofs.Logs.{stands_sized}
use Rattle.file_ends.proofs.copying.recover.Goals as goal

pub returns-in-Ok-clause-clean : goal.returns-in-Ok-clause-clean
returns-in-Ok-clause-clean g c = λ clean. c.recover.ensures.honest (c.finish.ensures.clean clean)

pub returns-in-Ok-clause-found : goal.returns-in-Ok-clause-found
returns-in-Ok-clause-found g c = λ clean image may.
    stands_sized (state c.args.log).page_size (state c.recover.new.self).page_size _ _ (sym c.recover.ensures.size) c.recover.ensures.crash image
    (c.finish.ensures.found clean image may)

pub returns-in-Err-clause-clean : goal.returns-in-Err-clause-clean
returns-in-Err-clause-clean g c = λ clean. c.recover.ensures.honest (c.parted.ensures.clean clean)

pub returns-in-Err-clause-found : goal.returns-in-Err-clause-found
returns-in-Err-clause-found g c = λ clean image may.
    stands_sized (state c.args.log).page_size (state c.recover.new.self).page_size _ _ (sym c.recover.ensures.size) c.recover.ensures.crash image
    (c.parted.ensures.found clean image may)

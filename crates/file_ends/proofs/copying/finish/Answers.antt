use Rattle.std.proofs.Common.{sym}
use Rattle.sqlite_wal.specs.Log.{state}
use Rattle.file_ends.proofs.Logs.{stands_sized}
use Rattle.file_ends.proofs.copying.finish.Goals as goal

pub returns-in-Ok-clause-clean : goal.returns-in-Ok-clause-clean
returns-in-Ok-clause-clean g c = λ clean. c.finish.ensures.keeps.stays.clean (c.whole.ensures.clean clean)

pub returns-in-Ok-clause-found : goal.returns-in-Ok-clause-found
returns-in-Ok-clause-found g c = λ clean image may.
    stands_sized (state c.args.log).page_size (state c.finish.new.self).page_size _ _ (sym c.finish.ensures.keeps.stays.size) c.finish.ensures.keeps.crash image
    (c.whole.ensures.found clean image may)

pub returns-in-Err-clause-clean : goal.returns-in-Err-clause-clean
returns-in-Err-clause-clean g c = λ clean. c.finish.ensures.keeps.stays.clean (c.parted.ensures.clean clean)

pub returns-in-Err-clause-found : goal.returns-in-Err-clause-found
returns-in-Err-clause-found g c = λ clean image may.
    stands_sized (state c.args.log).page_size (state c.finish.new.self).page_size _ _ (sym c.finish.ensures.keeps.stays.size) c.finish.ensures.keeps.crash image
    (c.parted.ensures.found clean image may)

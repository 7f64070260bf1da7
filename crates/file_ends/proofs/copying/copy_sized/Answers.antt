use Rattle.std.proofs.Common.{◌≡◌, IfSome, sym, subst}
use Rattle.sqlite_wal.specs.PageSize.{bytes_of}
use Rattle.sqlite_wal.specs.Files.{outcomes}
use Rattle.file_ends.specs.Ending.{StandsForOne}
use Rattle.file_ends.proofs.Ends.{clean_files, parted_found, stands_itself}
use Rattle.file_ends.proofs.copying.copy_sized.Goals as goal

pub returns-in-Some-clause-clean : goal.returns-in-Some-clause-clean
returns-in-Some-clause-clean g c = c.copy_salted.ensures.clean

pub returns-in-Some-clause-found : goal.returns-in-Some-clause-found
returns-in-Some-clause-found g c = λ clean size same image may.
    subst (λ n. StandsForOne n (outcomes g.D.Disk c.args.files.log c.args.files.db) image) (sym (subst (λ o. IfSome o (λ it. size ≡ bytes_of it)) c.in-Some.is same))
    (c.copy_salted.ensures.found clean image may)

pub returns-in-None-clause-clean : goal.returns-in-None-clause-clean
returns-in-None-clause-clean g c = λ clean. clean_files c.parted.result c.args.files c.parted.ensures.files clean

pub returns-in-None-clause-found : goal.returns-in-None-clause-found
returns-in-None-clause-found g c = λ clean size same image may.
    stands_itself size _ image (parted_found c.parted.result c.args.files c.parted.ensures.files c.parted.ensures.parted image may)

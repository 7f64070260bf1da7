use Rattle.file_ends.proofs.Ends.{clean_files, parted_found, stands_itself}
use Rattle.file_ends.proofs.Logs.{of_files, clean_is}
use Rattle.file_ends.proofs.copying.parted.Goals as goal

pub returns-clause-clean : goal.returns-clause-clean
returns-clause-clean g c = λ clean.
    clean_is c.args.log c.into_files.result c.into_files.ensures (clean_files c.parted.result c.into_files.result c.parted.ensures.files clean)

pub returns-clause-found : goal.returns-clause-found
returns-clause-found g c = λ clean image may.
    let pair = c.into_files.result in
    let now = clean_files c.parted.result pair c.parted.ensures.files clean in
    stands_itself _ _ image (of_files c.args.log pair image c.into_files.ensures now (parted_found c.parted.result pair c.parted.ensures.files c.parted.ensures.parted image may))

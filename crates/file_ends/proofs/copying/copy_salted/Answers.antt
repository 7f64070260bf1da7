use Rattle.file_ends.proofs.Ends.{clean_files, parted_found, stands_itself}
use Rattle.file_ends.proofs.copying.copy_salted.Goals as goal

pub returns-in-Some-clause-clean : goal.returns-in-Some-clause-clean
returns-in-Some-clause-clean g c = c.copy_log.ensures.clean

pub returns-in-Some-clause-found : goal.returns-in-Some-clause-found
returns-in-Some-clause-found g c = c.copy_log.ensures.found

pub returns-in-None-clause-clean : goal.returns-in-None-clause-clean
returns-in-None-clause-clean g c = λ clean. clean_files c.parted.result c.args.files c.parted.ensures.files clean

pub returns-in-None-clause-found : goal.returns-in-None-clause-found
returns-in-None-clause-found g c = λ clean image may.
    stands_itself _ _ image (parted_found c.parted.result c.args.files c.parted.ensures.files c.parted.ensures.parted image may)

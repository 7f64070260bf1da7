use Rattle.std.proofs.Common.{IsTrue, sym, subst, ◌∙◌}
use Rattle.sqlite_wal.specs.PageSize.{bytes_of}
use Rattle.file_ends.proofs.Ends.{clean_files, parted_found, stands_itself}
use Rattle.file_ends.proofs.Logs.{is_clean, stands_files}
use Rattle.file_ends.proofs.copying.copy_log.Goals as goal

pub recover-requires : goal.recover-requires
recover-requires g c =
    subst (λ p. IsTrue (g.D.Disk.is_usable p.0) × IsTrue (g.D.Disk.is_usable p.1)) (sym c.in-Ok.ensures.files) (c.requires.log, c.requires.db)

pub returns-in-Ok-clause-clean : goal.returns-in-Ok-clause-clean
returns-in-Ok-clause-clean g c = λ clean. is_clean c.in-Ok.log c.args.files c.in-Ok.ensures.files (c.recover.ensures.clean clean)

pub returns-in-Ok-clause-found : goal.returns-in-Ok-clause-found
returns-in-Ok-clause-found g c = λ clean image may.
    stands_files c.in-Ok.log c.args.files (bytes_of c.args.size) c.in-Ok.ensures.files c.in-Ok.ensures.size image (c.recover.ensures.found clean image may)

pub returns-in-Err-clause-clean : goal.returns-in-Err-clause-clean
returns-in-Err-clause-clean g c = λ clean. clean_files c.parted.result c.args.files (c.parted.ensures.files ∙ c.in-Err.ensures.back) clean

pub returns-in-Err-clause-found : goal.returns-in-Err-clause-found
returns-in-Err-clause-found g c = λ clean image may.
    stands_itself _ _ image (parted_found c.parted.result c.args.files (c.parted.ensures.files ∙ c.in-Err.ensures.back) c.parted.ensures.parted image may)

use Rattle.sqlite_wal.specs.Files.{seen_image}
use Rattle.sqlite_pool.specs.Stored.{stored_size}
use Rattle.file_ends.proofs.Ends.{clean_files, parted_found, stands_itself, read_clean, read_left, stands_early, size_found}
use Rattle.file_ends.proofs.copying.copy_files.Goals as goal

pub copy_sized-requires-clause-log : goal.copy_sized-requires-clause-log
copy_sized-requires-clause-log g c = c.probe_page_size.ensures.log.usable

pub copy_sized-requires-clause-db : goal.copy_sized-requires-clause-db
copy_sized-requires-clause-db g c = c.probe_page_size.ensures.db.usable

pub returns-in-Ok-clause-clean : goal.returns-in-Ok-clause-clean
returns-in-Ok-clause-clean g c = λ clean.
    read_clean c.args.files c.probe_page_size.new.files c.probe_page_size.ensures.log c.probe_page_size.ensures.db (c.copy_sized.ensures.clean clean)

pub returns-in-Ok-clause-found : goal.returns-in-Ok-clause-found
returns-in-Ok-clause-found g c = λ clean db held image may.
    let old = c.args.files in
    let new = c.probe_page_size.new.files in
    let read = c.probe_page_size.ensures in
    let sure = c.copy_sized.ensures.clean clean in
    stands_early old new read.log read.db (stored_size held.0) image
    (c.copy_sized.ensures.found clean (stored_size held.0)
    (size_found (seen_image g.D.Disk old.log old.db) c.in-Ok.found (c.in-Ok.ensures.by_log sure) (c.in-Ok.ensures.by_file sure) db held) image may)

pub returns-in-Err-clause-clean : goal.returns-in-Err-clause-clean
returns-in-Err-clause-clean g c = λ clean.
    read_clean c.args.files c.probe_page_size.new.files c.probe_page_size.ensures.log c.probe_page_size.ensures.db
    (clean_files c.parted.result c.probe_page_size.new.files c.parted.ensures.files clean)

pub returns-in-Err-clause-found : goal.returns-in-Err-clause-found
returns-in-Err-clause-found g c = λ clean db held image may.
    stands_itself _ _ image (read_left c.args.files c.probe_page_size.new.files c.probe_page_size.ensures.log c.probe_page_size.ensures.db image
    (parted_found c.parted.result c.probe_page_size.new.files c.parted.ensures.files c.parted.ensures.parted image may))

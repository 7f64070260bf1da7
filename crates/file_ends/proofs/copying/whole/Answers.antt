use Rattle.std.proofs.Common.{IsTrue, sym, subst}
use Rattle.sqlite_wal.specs.Log.{state}
use Rattle.file_ends.specs.Ending.{StandsForOne}
use Rattle.file_ends.proofs.Ends.{clean_files, whole_found}
use Rattle.file_ends.proofs.Logs.{of_files, clean_is, stands_alone}
use Rattle.file_ends.proofs.copying.whole.Goals as goal

pub whole-requires : goal.whole-requires
whole-requires g c =
    subst (λ p. IsTrue (g.D.Disk.is_usable p.0) × IsTrue (g.D.Disk.is_usable p.1)) (sym c.into_files.ensures)
    (c.args.log.log_usable c.requires.open, c.args.log.db_usable c.requires.open)

pub returns-clause-clean : goal.returns-clause-clean
returns-clause-clean g c = λ clean.
    clean_is c.args.log c.into_files.result c.into_files.ensures (clean_files c.whole.result c.into_files.result c.whole.ensures.files clean)

pub returns-clause-found : goal.returns-clause-found
returns-clause-found g c = λ clean image may.
    let pair = c.into_files.result in
    let now = clean_files c.whole.result pair c.whole.ensures.files clean in
    let sure = clean_is c.args.log pair c.into_files.ensures now in
    whole_found c.whole.result pair c.whole.ensures.files (StandsForOne (state c.args.log).page_size (state c.args.log).may_leave)
    (λ left out. stands_alone c.args.log g.met.D.Disk.seen_may_stay c.requires.open sure c.requires.empty left (of_files c.args.log pair left c.into_files.ensures now out))
    image may

use Rattle.std.proofs.Common.{◌≡◌, IsTrue, sym, subst, ◌∙◌}
use Rattle.std.proofs.lemmas.Bool.{and_parts}
use Rattle.sqlite_wal.specs.Recovery.{Image, RecoversAs}
use Rattle.sqlite_wal.specs.Files.{outcomes, seen_image}
use Rattle.sqlite_wal.specs.Reads.{AreClean}
use Rattle.sqlite_trees.proofs.Doubt.{no_doubt}
use Rattle.sqlite_pool.specs.Stored.{stored_size}
use Rattle.sqlite_pool.proofs.StateLemmas.{clean_is, may_leave_is}
use Rattle.file_ends.proofs.Ends.{clean_files, parted_found}
use Rattle.file_ends.proofs.Stores.{stands_hold, left_holds, with_left}
use Rattle.file_ends.proofs.ending.end_store.Goals as goal

pub copy_files-requires-clause-log : goal.copy_files-requires-clause-log
copy_files-requires-clause-log g c = (and_parts _ _ (sym c.may_be_used.ensures ∙ c.in-true.is)).0

pub copy_files-requires-clause-db : goal.copy_files-requires-clause-db
copy_files-requires-clause-db g c = (and_parts _ _ (sym c.may_be_used.ensures ∙ c.in-true.is)).1

pub returns-in-true-clause-clean : goal.returns-in-true-clause-clean
returns-in-true-clause-clean g c = λ clean.
    no_doubt _ (clean_is c.args.store.pool ∙ subst (λ p. AreClean g.D.Disk p.0 p.1) c.close-files.ensures (c.copy_files.ensures.clean clean))

pub returns-in-true-clause-found : goal.returns-in-true-clause-found
returns-in-true-clause-found g c = λ clean numbered sound image may.
    let it = c.args.store in
    let pair = c.close-files.result in
    let sure = subst (λ p. AreClean g.D.Disk p.0 p.1) c.close-files.ensures (c.copy_files.ensures.clean clean) in
    let seen = seen_image g.D.Disk pair.log pair.db in
    let stays = g.met.D.Disk.seen_may_stay in
    let back = λ (left : Image) (out : outcomes g.D.Disk pair.log pair.db left).
    may_leave_is it.pool left sure (subst (λ p. outcomes g.D.Disk p.0 p.1 left) c.close-files.ensures out) in
    with_left it numbered sound seen (back seen (stays pair.log, stays pair.db)) (λ db held same.
    let one = c.copy_files.ensures.found clean db held image may in
    stands_hold it numbered sound _ (λ found allowed. allowed) one.0 image (back one.0 one.1)
    (subst (λ n. RecoversAs (stored_size n) one.0 image) same one.2))

pub returns-in-false-clause-clean : goal.returns-in-false-clause-clean
returns-in-false-clause-clean g c = λ clean.
    no_doubt _ (clean_is c.args.store.pool
    ∙ subst (λ p. AreClean g.D.Disk p.0 p.1) c.close-files.ensures (clean_files c.parted.result c.close-files.result c.parted.ensures.files clean))

pub returns-in-false-clause-found : goal.returns-in-false-clause-found
returns-in-false-clause-found g c = λ clean numbered sound image may.
    let it = c.args.store in
    let pair = c.close-files.result in
    let sure = subst (λ p. AreClean g.D.Disk p.0 p.1) c.close-files.ensures (clean_files c.parted.result pair c.parted.ensures.files clean) in
    let out = parted_found c.parted.result pair c.parted.ensures.files c.parted.ensures.parted image may in
    left_holds it numbered sound _ (λ found allowed. allowed) image (may_leave_is it.pool image sure (subst (λ p. outcomes g.D.Disk p.0 p.1 image) c.close-files.ensures out))

use Rattle.std.proofs.Common.{arith}
use Rattle.std.proofs.Math.Logic.{∥∥₁_map}
use Rattle.sqlite_trees.specs.Tree.{Trees}
use Rattle.sqlite_trees.specs.View.{IsClean}
use Rattle.sqlite_store.specs.FileStore.{view}
use Rattle.sqlite.specs.Files.{file_state, HoldsDatabase}
use Rattle.file_ends.proofs.ending.end_files.Goals as goal

pub returns-clause-told : goal.returns-clause-told
returns-clause-told g c = λ clean.
    let early : IsClean (view c.into_store.result) = c.end_store.ensures.clean clean in
    omega (arith, c.into_store.ensures.quiet.clean)

pub returns-clause-found : goal.returns-clause-found
returns-clause-found g c = λ clean image may.
    let early : IsClean (view c.into_store.result) = c.end_store.ensures.clean clean in
    ∥∥₁_map (c.end_store.ensures.found clean (c.into_store.ensures.numbered early) (c.into_store.ensures.sound early) image may)
    (λ db. let r : (x : Trees) × (file_state c.args.connection).may_leave x × HoldsDatabase image x = (db.0, c.into_store.ensures.quiet.outcomes db.0 db.1, db.2) in r)

-- Which files an end has, and what may be found of them.
use Rattle.std.proofs.Common.{◌≡◌, ℕ, false, inl, inr, [], IsTrue, Option, Some, None, IfSome, refl, sym, subst, ◌∙◌}
use Rattle.std.proofs.lemmas.Bool.{true≢false}
use Rattle.sqlite_disk.specs.declared.Disk.{Ghosts}
use Rattle.sqlite_disk.specs.declared.Files.{Files}
use Rattle.sqlite_trees.specs.Tree.{Trees}
use Rattle.sqlite_wal.specs.Recovery.{Image, RecoversAs, IsIgnored}
use Rattle.sqlite_wal.specs.Format.{be32}
use Rattle.sqlite_wal.specs.PageSize.{bytes_of, size_in_file, Names}
use Rattle.sqlite_wal.specs.declared.page_size.PageSize.{PageSize}
use Rattle.sqlite_wal.specs.Files.{outcomes}
use Rattle.sqlite_wal.specs.Reads.{AreClean, OnlyReads}
use Rattle.sqlite_wal.proofs.CleanLemmas.{both_clean}
use Rattle.sqlite_pool.specs.Stored.{stored_size}
use Rattle.sqlite.specs.Files.{HoldsDatabase}
use Rattle.sqlite.proofs.FileLemmas.{probe_size}
use Rattle.file_ends.specs.declared.ended.Ended.{Ended}
use Rattle.file_ends.specs.Ending.{IsCleanEnd, MayBeFound, StandsForOne}

-- it stands for itself
pub stands_itself : (size : ℕ) (leaves : Image → Type 0) (image : Image) → leaves image → StandsForOne size leaves image
stands_itself size leaves image may = (image, may, λ pages found. found)

module _ {D : Type 0} {g : Ghosts D} (end : Ended D g) (files : Files D) (is : end.files ≡ files) where
  pub clean_files : IsCleanEnd end → AreClean g files.log files.db
  clean_files clean = subst (λ (f : Files D). AreClean g f.log f.db) is clean

  -- where not all is copied it is what a crash leaves
  pub parted_found : end.is_whole ≡ false → (image : Image) → MayBeFound end image → outcomes g files.log files.db image
  parted_found parted image (inl left) = subst (λ (f : Files D). outcomes g f.log f.db image) is left
  parted_found parted image (inr whole) = absurd (true≢false (sym whole.0 ∙ parted))

  -- what holds of what a crash leaves, and of the database file of that alone, holds of what may be found
  pub whole_found : (P : Image → Type 0) → ((left : Image) → outcomes g files.log files.db left → P left × P (record left { log = [] })) → (image : Image) → MayBeFound end image → P image
  whole_found P each image (inl left) = (each image (subst (λ (f : Files D). outcomes g f.log f.db image) is left)).0
  whole_found P each image (inr whole) =
      subst P (sym whole.1.2) (each whole.1.0 (subst (λ (f : Files D). outcomes g f.log f.db whole.1.0) is whole.1.1)).1

-- reading leaves what there was
module _ {D : Type 0} {g : Ghosts D} (old new : Files D) (log : OnlyReads g old.log new.log) (db : OnlyReads g old.db new.db) where
  pub read_clean : AreClean g new.log new.db → AreClean g old.log old.db
  read_clean clean = both_clean _ _ _ _ log.clean db.clean clean

  pub read_left : (image : Image) → outcomes g new.log new.db image → outcomes g old.log old.db image
  read_left image may = (log.crash image.log may.0, db.crash image.db may.1)

  pub stands_early : (size : ℕ) (image : Image) → StandsForOne size (outcomes g new.log new.db) image → StandsForOne size (outcomes g old.log old.db) image
  stands_early size image (before, may, stands) = (before, read_left before may, stands)

-- the size that is found is that of the pages
pub size_found : (image : Image) (found : Option PageSize) → (¬ IsIgnored image.log → Names found (be32 image.log 8)) → (IsIgnored image.log → Names found (size_in_file image.db))
    → (db : Trees) (held : HoldsDatabase image db) → IfSome found (λ it. stored_size held.0 ≡ bytes_of it)
size_found image None by_log by_file db held = tt
size_found image (Some it) by_log by_file db held = probe_size image (Some it) by_log by_file db held it refl

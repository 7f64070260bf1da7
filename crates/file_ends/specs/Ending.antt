-- What may be found of two files as a connection over them ends.
use Rattle.std.specs.Prelude.{◌≡◌, ◌⊎◌, ℕ, [], IsTrue}
use Rattle.sqlite_disk.specs.declared.Disk.{Ghosts}
use Rattle.sqlite_wal.specs.Recovery.{Image, RecoversAs}
use Rattle.sqlite_wal.specs.Files.{outcomes}
use Rattle.sqlite_wal.specs.Reads.{AreClean}
use Rattle.file_ends.specs.declared.ended.Ended.{Ended}

-- a crash at any moment leaves this of the two files, or of them this is the database file alone, once all is copied into it
abbrev pub MayBeFound : {D : Type 0} {g : Ghosts D} → Ended D g → Image → Type 0
MayBeFound {D} {g} end image =
    outcomes g end.files.log end.files.db image
    ⊎ (IsTrue end.is_whole
    × ((left : Image) × outcomes g end.files.log end.files.db left
    × (image ≡ record left { log = [] })))

-- the disks have returned what was written to them
abbrev pub IsCleanEnd : {D : Type 0} {g : Ghosts D} → Ended D g → Type 0
IsCleanEnd {D} {g} end = AreClean g end.files.log end.files.db

-- this stands, page by page, for one of these, whose pages have this size
abbrev pub StandsForOne : ℕ → (Image → Type 0) → Image → Type 0
StandsForOne size leaves image = (before : Image) × leaves before × RecoversAs size before image

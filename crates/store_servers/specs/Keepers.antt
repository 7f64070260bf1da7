-- What the keepers of a server's rows keep, what they tell of it, and what a crash leaves.
use Rattle.std.specs.Prelude.{ℕ}
use Rattle.keeper_told.specs.Crash.{IsLeaving}
use Rattle.keeper_told.specs.Keeping.{IsKeeping}
use Rattle.sqlite.specs.Files.{file_state}
use Rattle.sqlite.specs.State.{HasCleanDisk}
use Rattle.store_servers.specs.declared.file_keeper.FileKeeper.{FileKeeper}
use Rattle.tracker_keeper.specs.Places.{AreRowsOf}
use Rattle.tracker_keeper.specs.Rows.{Rows}
use Rattle.tracker_keeper.specs.declared.memory_keeper.MemoryKeeper.{MemoryKeeper}

-- ---- of a file

-- how often it failed
abbrev pub file_faults : FileKeeper → ℕ
file_faults k = k.keeper.faults

-- its disk failed it nowhere, so that it tells its rows
abbrev pub FileTells : FileKeeper → Type 0
FileTells k = HasCleanDisk (file_state k.keeper.conn)

-- these are its rows
abbrev pub FileKeeps : FileKeeper → Rows → Type 0
FileKeeps k = IsKeeping (file_state k.keeper.conn)

-- whatever a crash leaves of it has these rows, or those others
abbrev pub FileLeaves : FileKeeper → Rows → Rows → Type 0
FileLeaves k = IsLeaving (file_state k.keeper.conn)

-- ---- in memory

abbrev pub memory_faults : MemoryKeeper → ℕ
memory_faults k = k.faults

-- it always tells its rows
abbrev pub MemoryTells : MemoryKeeper → Type 0
MemoryTells k = Unit {0}

abbrev pub MemoryKeeps : MemoryKeeper → Rows → Type 0
MemoryKeeps k rows = AreRowsOf rows k.rows.places

-- a crash leaves nothing of it, and so nothing is said
abbrev pub MemoryLeaves : MemoryKeeper → Rows → Rows → Type 0
MemoryLeaves k rows other = Unit {0}

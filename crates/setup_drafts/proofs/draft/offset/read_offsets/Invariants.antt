use Rattle.std.proofs.Common.{◌≡◌, [], drop, take, map, length}
use Rattle.toml.specs.View.{table_view}
use Rattle.setup_drafts.specs.Entries.{entries_fault}
use Rattle.setup_drafts.specs.Offsets.{zone_of, offset_fault, offset_of, with_offset}
use Rattle.setup_drafts.proofs.draft.offset.read_offsets.Given as goal

abbrev pub invariant-loop-entry : goal.invariant-loop-entry
invariant-loop-entry l =
    (entries_fault (offset_fault l.fn.minutes) with_offset [] (map (λ t. table_view t.now) l.entries)
    ≡ entries_fault (offset_fault l.fn.minutes) with_offset l.offsets (map (λ t. table_view t.now) (drop l.entry-index l.entries)))
    × (map offset_of (map (λ t. table_view t.now) (take l.entry-index l.entries)) ≡ l.offsets)
    × (l.calendar ≡ record { zone = zone_of l.fn.minutes l.offsets; first_day = l.fn.first_day })
    × (length l.offsets ≡ l.entry-index)

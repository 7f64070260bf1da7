use Rattle.std.proofs.Common.{FitsSigned, w32}
use Rattle.std.proofs.lemmas.Int.{to_z-of_z}
use Rattle.relative_dates.proofs.OffsetLemmas.{one_offset}
use Rattle.relative_dates.proofs.calendar.Calendar.new.Goals as goal

pub invariant_of-result : goal.invariant_of-result
invariant_of-result c =
    let fits : FitsSigned w32 c.args.offset_minutes = c.ranges.offset_minutes in
    simp (to_z-of_z, c.new.ensures.items) (record { zone = one_offset c.args.offset_minutes c.requires.offset; monday_or_later = c.requires.monday_or_later; sunday_or_earlier = c.requires.sunday_or_earlier })

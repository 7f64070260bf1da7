-- What a record that was read makes of a step.
use Rattle.std.proofs.Common.{◌≡◌, [], Some, option_map, refl}
use Rattle.csv.specs.Records.{fields_of}
use Rattle.issue_csv.specs.Reading.{all_done, bad_at, batch_from, batch_of}
use Rattle.issue_csv.specs.Reader.{IsCallAtHand, MetOther, IsNextCall, TookText, batch_left, left_of}
use Rattle.issue_csv.specs.declared.csv_records.Records.{Records}
use Rattle.issue_csv.specs.declared.next_call.NextCall.{NextCall}
use Rattle.issue_csv.specs.declared.next_call.NextCall.TheVariants as next
use Rattle.issue_csv.proofs.Fields.{and_false, other_header}

-- a record of text
pub next_of_text : (old new : Records) (s : NextCall) → TookText old new → IsCallAtHand (fields_of new.row) old.number s → IsNextCall (batch_left old) s new
unfolding batch_from
next_of_text old new (next.Gives call) t a = record {
  goes_on = t.goes_on;
  rest = batch_from new.number t.rest;
  was = rw (t.was, a.0, a.1, t.counted) refl;
  is = rw t.is refl;
}
next_of_text old new next.Ends t a = absurd a
next_of_text old new (next.Bad number) t a = rw (t.was, a.0, a.1) refl
next_of_text old new next.Fails t a = tt

-- one that isn't text
pub next_of_other : (old : Records) → MetOther old → batch_left old ≡ Some (bad_at old.number)
unfolding batch_from
next_of_other old m = rw (m.was, m.other, and_false _) refl

-- none
pub next_at_end : (old : Records) → left_of old ≡ Some [] → batch_left old ≡ Some all_done
unfolding batch_from
next_at_end old e = rw e refl

-- one that isn't text in place of the header
pub first_of_other : (old : Records) → MetOther old → option_map batch_of (left_of old) ≡ Some (bad_at 0)
first_of_other old m = rw (m.was, other_header m.fields m.other) refl

-- What a reader of records has yet to read, and what comes next.
use Rattle.std.specs.Prelude.{ℕ, ◌≡◌, ◌+◌, ◌-◌, List, [], ◌∷◌, Option, Some, None, option_map, false, true}
use Rattle.std.specs.List.{list_all}
use Rattle.std.specs.Str.{is_utf8}
use Rattle.csv.specs.Records.{AllText, fields_of}
use Rattle.csv.specs.Reading.{Ready, default_config, is_flexible, reader_config, reader_state, reader_trim, records_from, source_of}
use Rattle.csv.specs.declared.reader.Trim.TheVariants as trim
use Rattle.tracker_calls.specs.declared.call.Call.{Call}
use Rattle.issue_csv.specs.declared.csv_records.Records.{Records}
use Rattle.issue_csv.specs.declared.csv_records.NextRecord.{NextRecord}
use Rattle.issue_csv.specs.declared.csv_records.NextRecord.TheVariants as record_is
use Rattle.issue_csv.specs.declared.next_call.NextCall.{NextCall}
use Rattle.issue_csv.specs.declared.next_call.NextCall.TheVariants as next
use Rattle.issue_csv.specs.declared.next_call.ReaderPhase.{ReaderPhase}
use Rattle.issue_csv.specs.declared.next_call.ReaderPhase.TheVariants as phase
use Rattle.issue_csv.specs.declared.record_reader.ImportFault.{ImportFault}
use Rattle.issue_csv.specs.declared.record_reader.ImportFault.TheVariants as fault
use Rattle.issue_csv.specs.Reading.{Batch, all_done, bad_at, batch_from, batch_of, call_of, is_good, with_call}

-- ---- records

-- the records that are left, where the bytes that are left are known
abbrev pub left_of : Records → Option (List (List (List ℕ)))
left_of r =
    option_map (records_from default_config (r.most - r.number) (reader_state r.reader))
    (source_of (λ s. Some s.now) r.reader)

-- it reads text by the defaults and records of any length, and the bytes that are left are known
pub record IsOpen (r : Records) : Type 0 where
  pub plain : reader_trim r.reader ≡ trim.None
  pub ready : Ready r.reader
  pub defaults : reader_config r.reader ≡ default_config
  pub flexible : is_flexible r.reader ≡ true
  pub bytes : List ℕ
  pub source : source_of (λ s. Some s.now) r.reader ≡ Some bytes

-- a record of text is the first of those that were left, and the others are left
pub record TookText (old new : Records) : Type 0 where
  pub goes_on : IsOpen new
  pub text : AllText (fields_of new.row)
  pub counted : new.number ≡ old.number + 1
  pub rest : List (List (List ℕ))
  pub was : left_of old ≡ Some (fields_of new.row ∷ rest)
  pub is : left_of new ≡ Some rest

-- the first of those that were left isn't text
pub record MetOther (old : Records) : Type 0 where
  pub fields : List (List ℕ)
  pub rest : List (List (List ℕ))
  pub was : left_of old ≡ Some (fields ∷ rest)
  pub other : list_all is_utf8 fields ≡ false

-- what a reading finds
abbrev pub IsNextRecord : Records → NextRecord → Records → Type 0
IsNextRecord old record_is.Text new = TookText old new
IsNextRecord old record_is.Other new = MetOther old
IsNextRecord old record_is.End new = left_of old ≡ Some []
IsNextRecord old record_is.Failed new = Unit {0}

-- ---- calls

-- what the records that are left ask for
abbrev pub batch_left : Records → Option Batch
batch_left r = option_map (batch_from r.number) (left_of r)

-- the call is the first of those that were left, and the others are left
pub record TookCall (old : Option Batch) (call : Call) (new : Records) : Type 0 where
  pub goes_on : IsOpen new
  pub rest : Batch
  pub was : old ≡ Some (with_call call rest)
  pub is : batch_left new ≡ Some rest

-- what comes next, where these calls were left
abbrev pub IsNextCall : Option Batch → NextCall → Records → Type 0
IsNextCall old (next.Gives call) new = TookCall old call new
IsNextCall old next.Ends new = old ≡ Some all_done
IsNextCall old (next.Bad number) new = old ≡ Some (bad_at number)
IsNextCall old next.Fails new = Unit {0}

-- what is asked for where these fields are the first record
abbrev pub header_and : List (List ℕ) → Option (List (List (List ℕ))) → Option Batch
header_and fields rest = option_map (λ more. batch_of (fields ∷ more)) rest

-- what a record of text gives by itself, where it has that number
abbrev pub IsCallAtHand : List (List ℕ) → ℕ → NextCall → Type 0
IsCallAtHand fields number (next.Gives call) = (is_good fields ≡ true) × (call ≡ call_of fields)
IsCallAtHand fields number next.Ends = ⊥
IsCallAtHand fields number (next.Bad n) = (is_good fields ≡ false) × (n ≡ number)
IsCallAtHand fields number next.Fails = Unit {0}

-- ---- the reader

-- what a reader that stands so has yet to hand out; nothing is known of one that failed
abbrev pub to_come : ReaderPhase → Records → Option Batch
to_come phase.Header r = option_map batch_of (left_of r)
to_come phase.Inside r = batch_left r
to_come phase.Ended r = Some all_done
to_come (phase.Bad number) r = Some (bad_at number)
to_come phase.Failed r = None

abbrev pub IsInPhase : ReaderPhase → Records → Type 0
IsInPhase phase.Header r = IsOpen r × (r.number ≡ 0)
IsInPhase phase.Inside r = IsOpen r
IsInPhase phase.Ended r = Unit {0}
IsInPhase (phase.Bad number) r = Unit {0}
IsInPhase phase.Failed r = Unit {0}

abbrev pub phase_after : NextCall → ReaderPhase
phase_after (next.Gives call) = phase.Inside
phase_after next.Ends = phase.Ended
phase_after (next.Bad number) = phase.Bad number
phase_after next.Fails = phase.Failed

-- what is handed out is the first of the calls to come, and the others are to come; nothing is handed out exactly where none
-- is to come and no record is bad
abbrev pub HandsOut : Option Batch → Option Call → Option Batch → Type 0
HandsOut old None new = (old ≡ Some all_done) × (new ≡ old)
HandsOut old (Some call) new =
    (rest : Batch) × (old ≡ Some (with_call call rest)) × (new ≡ Some rest)

-- a record is told as bad exactly where no call is to come before it; once memory lacked the reader has failed for good
abbrev pub TellsFault : Option Batch → ImportFault → Option Batch → Type 0
TellsFault old (fault.BadRecord number) new = (old ≡ Some (bad_at number)) × (new ≡ old)
TellsFault old fault.Memory new = new ≡ None

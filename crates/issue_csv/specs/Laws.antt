-- What the calls of an input are, in words of its records.
use Rattle.std.specs.Prelude.{◌≡◌, ◌≢◌, ◌+◌, ℕ, List, [], ◌∷◌, ◌++◌, length, map, All, Some, None}
use Rattle.csv.specs.Records.{AllText}
use Rattle.csv.specs.Reading.{AreRecords, default_config, strip_bom}
use Rattle.csv.specs.declared.parser.State.TheVariants as st
use Rattle.issue_csv.specs.Reading.{Batch, batch_of, call_of, header, records_of}

-- nine fields of UTF-8
abbrev pub IsGood : List (List ℕ) → Type 0
IsGood fields = (length fields ≡ 9) × AllText fields

-- the calls are those of the good records behind the header in their order, up to the first bad record, which is told by its
-- number; the header is record 0, and it is bad where it isn't there
pub data AreCalls (records : List (List (List ℕ))) (batch : Batch) : Type 0 where
  -- each record is good
  all_good :
      (rows : List (List (List ℕ)))
      → records ≡ header ∷ rows → All IsGood rows
      → batch ≡ record { calls = map call_of rows; bad = None }
      → AreCalls records batch
  -- some are good, and then one is bad
  first_bad :
      (before : List (List (List ℕ))) (fields : List (List ℕ)) (rest : List (List (List ℕ)))
      → records ≡ header ∷ (before ++ fields ∷ rest) → All IsGood before → ¬ (IsGood fields)
      → batch ≡ record { calls = map call_of before; bad = Some (1 + length before) }
      → AreCalls records batch
  other_header :
      (fields : List (List ℕ)) (rest : List (List (List ℕ)))
      → records ≡ fields ∷ rest → fields ≢ header
      → batch ≡ record { calls = []; bad = Some 0 }
      → AreCalls records batch
  no_record :
      records ≡ [] → batch ≡ record { calls = []; bad = Some 0 } → AreCalls records batch

-- so they are of all records
abbrev pub CallsAreOfRecords : Type 0
CallsAreOfRecords = (records : List (List (List ℕ))) → AreCalls records (batch_of records)

-- and these are all records that csv reads from the input
abbrev pub RecordsAreAll : Type 0
RecordsAreAll =
    (bytes : List ℕ) → AreRecords default_config st.StartRecord (strip_bom bytes) (records_of bytes)

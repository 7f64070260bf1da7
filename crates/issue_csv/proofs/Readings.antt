-- What a reading of a record takes from those that are left.
use Rattle.std.proofs.Common.{Bor, ◌≡◌, ◌∙◌, ◌≤◌, ◌<◌, ◌-◌, ◌+◌, ℕ, suc, List, [], ◌∷◌, Option, Some, None, true, false, length, get_or, arith, refl, sym, ap, inl}
use Rattle.csv.specs.Machine.{Read, next_record}
use Rattle.csv.specs.Reading.{NextIs, ReadRecord, ReadsNext, TookRecord, default_config, is_bom, pending_of, records_from, records_next, source_of, strip_bom}
use Rattle.csv.specs.declared.parser.Config.{Config}
use Rattle.csv.specs.declared.parser.State.{State}
use Rattle.csv.specs.declared.reader.Reader.{Reader}
use Rattle.csv.specs.Records.{AllText, Row, fields_of}
use Rattle.issue_csv.specs.Reader.{IsOpen, MetOther, TookText, left_of}
use Rattle.issue_csv.specs.declared.csv_records.Records.{Records}
use Rattle.issue_csv.proofs.Fields.{other_text}
use Rattle.csv.proofs.ReadFacts.{rows-end, strip-short}

abbrev pub lent : Bor (List ℕ) → Option (List ℕ)
lent s = Some s.now

first_is : (cfg : Config) (n : ℕ) (b : State) (z : List ℕ) (f : List (List ℕ)) (o : Option Read)
    → NextIs o true f b z → records_next (records_from cfg n) o ≡ f ∷ records_from cfg n b z
first_is cfg n b z f None r = cc r
first_is cfg n b z f (Some p) r = rw (r.1, r.2, r.3) refl

-- a record that was found is the first of those that were left, of which there are so many at most
took : (cfg : Config) (n : ℕ) (a b : State) (y : List ℕ) (k : Option (List ℕ)) (f : List (List ℕ))
    → ReadsNext cfg a (Some y) k true f b
    → (z : List ℕ) × (k ≡ Some z) × (records_from cfg (suc n) a y ≡ f ∷ records_from cfg n b z)
unfolding records_from
took cfg n a b y None f r = absurd r
took cfg n a b y (Some z) f r = (z, refl, first_is cfg n b z f (next_record cfg a [] [] y) r)

found_first : (n : ℕ) (a b : Reader (Bor (List ℕ))) (y : List ℕ) (f : List (List ℕ))
    → a.config ≡ default_config → source_of lent a ≡ Some y → ReadRecord lent a b true f
    → (z : List ℕ) × (source_of lent b ≡ Some z)
    × (records_from default_config (suc n) a.state y ≡ f ∷ records_from default_config n b.state z)
found_first n a b y f config source r =
    let g = took default_config n a.state b.state y (pending_of (lent b.rdr) b) f (rw (config, source) at r.0) in
    (g.0, rw r.1 g.1, g.2)

-- so is one that was taken and isn't text
took_first : (n : ℕ) (a b : Reader (Bor (List ℕ))) (y : List ℕ) (f : List (List ℕ))
    → a.config ≡ default_config → source_of lent a ≡ Some y → TookRecord lent a b f
    → (rest : List (List (List ℕ))) × (records_from default_config (suc n) a.state y ≡ f ∷ rest)
took_first n a b y f config source r =
    let g = took default_config n a.state b.state y (pending_of (lent b.rdr) b) f (rw (config, source) at r) in
    (records_from default_config n b.state g.0, g.2)

-- where none is found, none was left
found_none : (n : ℕ) (a b : Reader (Bor (List ℕ))) (y : List ℕ) (f : List (List ℕ))
    → a.config ≡ default_config → source_of lent a ≡ Some y → ReadRecord lent a b false f
    → records_from default_config (suc n) a.state y ≡ []
unfolding records_from
found_none n a b y f config source r = rw (rows-end lent a b f default_config y config source r) refl

-- ---- a byte order mark

pub short_text : (xs : List ℕ) → length xs < 3 → length xs ≡ length (strip_bom xs)
short_text xs lt = ap length (sym (strip-short xs lt))

pub text_with : (xs : List ℕ) → 3 ≤ length xs → is_bom (get_or xs 0 0) (get_or xs 1 0) (get_or xs 2 0) ≡ true
    → length xs - 3 ≡ length (strip_bom xs)
unfolding strip_bom
text_with [] le e = absurd (omega arith)
text_with (a ∷ []) le e = absurd (omega arith)
text_with (a ∷ b ∷ []) le e = absurd (omega arith)
text_with (a ∷ b ∷ c ∷ rest) le e = rw e (omega arith)

pub text_without : (xs : List ℕ) → 3 ≤ length xs → is_bom (get_or xs 0 0) (get_or xs 1 0) (get_or xs 2 0) ≡ false
    → length xs ≡ length (strip_bom xs)
unfolding strip_bom
text_without [] le e = absurd (omega arith)
text_without (a ∷ []) le e = absurd (omega arith)
text_without (a ∷ b ∷ []) le e = absurd (omega arith)
text_without (a ∷ b ∷ c ∷ rest) le e = rw e refl

-- ---- records that are left

-- those that are left, by the bytes that are left
left_by : (old : Records) (at_hand : IsOpen old) → old.number < old.most → (rows : List (List (List ℕ)))
    → records_from default_config (suc (old.most - (old.number + 1))) old.reader.state at_hand.bytes ≡ rows → left_of old ≡ Some rows
left_by old at_hand lt rows e =
    let fuel : old.most - old.number ≡ suc (old.most - (old.number + 1)) = omega (arith, lt) in
    rw (at_hand.source, fuel) (ap Some e)

pub takes_text : (old : Records) (reader : Reader (Bor (List ℕ))) (row : Row) (at_hand : IsOpen old) → old.number < old.most
    → ReadRecord lent old.reader reader true (fields_of row) → reader.first ≡ true → reader.flexible ≡ old.reader.flexible → AllText (fields_of row)
    → TookText old (record { reader = reader; row = row; number = old.number + 1; most = old.most })
takes_text old reader row at_hand lt r first flexible text =
    let g = found_first (old.most - (old.number + 1)) old.reader reader at_hand.bytes (fields_of row) at_hand.defaults at_hand.source r in
    record {
      goes_on = record {
        plain = r.3 ∙ at_hand.plain;
        ready = inl first;
        defaults = r.2 ∙ at_hand.defaults;
        flexible = flexible ∙ at_hand.flexible;
        bytes = g.0;
        source = g.1;
      };
      text = text;
      counted = refl;
      rest = records_from default_config (old.most - (old.number + 1)) reader.state g.0;
      was = left_by old at_hand lt _ g.2;
      is = rw g.1 refl;
    }

pub takes_none : (old : Records) (reader : Reader (Bor (List ℕ))) (fields : List (List ℕ)) (at_hand : IsOpen old) → old.number < old.most
    → ReadRecord lent old.reader reader false fields → left_of old ≡ Some []
takes_none old reader fields at_hand lt r =
    left_by old at_hand lt [] (found_none (old.most - (old.number + 1)) old.reader reader at_hand.bytes fields at_hand.defaults at_hand.source r)

pub meets_other : (old : Records) (reader : Reader (Bor (List ℕ))) (fields : List (List ℕ)) (at_hand : IsOpen old) → old.number < old.most
    → TookRecord lent old.reader reader fields → ¬ (AllText fields) → MetOther old
meets_other old reader fields at_hand lt took other =
    let g = took_first (old.most - (old.number + 1)) old.reader reader at_hand.bytes fields at_hand.defaults at_hand.source took in
    record {
      fields = fields;
      rest = g.0;
      was = left_by old at_hand lt _ g.1;
      other = other_text fields other;
    }

-- so many were read that none can be left
pub none_left : (old : Records) → IsOpen old → old.most ≤ old.number → left_of old ≡ Some []
unfolding records_from
none_left old at_hand le =
    let none : old.most - old.number ≡ 0 = omega (arith, le) in
    rw (at_hand.source, none) refl

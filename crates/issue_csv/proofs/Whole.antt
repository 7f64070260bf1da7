-- The calls of all records.
use Rattle.std.proofs.Common.{◌≡◌, ◌⊎◌, ◌+◌, ◌==◌, ℕ, suc, Bool, true, false, List, [], ◌∷◌, ◌++◌, length, map, All, Some, None, inl, inr, refl, sym, ap, arith, ◌∙◌}
use Rattle.std.specs.List.{list_all}
use Rattle.std.specs.Str.{is_utf8}
use Rattle.std.proofs.lemmas.Bool.{and_parts}
use Rattle.std.proofs.lemmas.Bool.Decides.{Decides-eqb}
use Rattle.std.proofs.lemmas.List.Elements.{All-cons, All-nil}
use Rattle.issue_csv.specs.Reading.{bad_at, batch_from, batch_of, call_of, header, is_good, same_fields}
use Rattle.issue_csv.specs.Laws.{AreCalls, IsGood}
use Rattle.issue_csv.specs.Laws.AreCalls.{all_good, first_bad, other_header, no_record}
use Rattle.issue_csv.proofs.Fields.{is_text, same_fields-is, text_is}

-- the test says whether a record is good
good_says : (fields : List (List ℕ)) → is_good fields ≡ true → IsGood fields
good_says fields h =
    let p = and_parts (length fields == 9) (list_all is_utf8 fields) h in
    ((Decides-eqb (length fields) 9).0 p.0, is_text fields p.1)

good_is : (fields : List (List ℕ)) → IsGood fields → is_good fields ≡ true
good_is fields good = rw (good.0, text_is fields good.1) refl

-- of records behind the header
pub record AllGood (number : ℕ) (rows : List (List (List ℕ))) : Type 0 where
  pub good : All IsGood rows
  pub are : batch_from number rows ≡ record { calls = map call_of rows; bad = None }

pub record FirstBad (number : ℕ) (rows : List (List (List ℕ))) : Type 0 where
  pub before : List (List (List ℕ))
  pub fields : List (List ℕ)
  pub rest : List (List (List ℕ))
  pub split : rows ≡ before ++ fields ∷ rest
  pub good : All IsGood before
  pub bad : ¬ (IsGood fields)
  pub are : batch_from number rows ≡ record { calls = map call_of before; bad = Some (number + length before) }

one_more : (number : ℕ) (fields : List (List ℕ)) (rows : List (List (List ℕ))) → is_good fields ≡ true
    → AllGood (number + 1) rows ⊎ FirstBad (number + 1) rows → AllGood number (fields ∷ rows) ⊎ FirstBad number (fields ∷ rows)
unfolding batch_from
one_more number fields rows good (inl all) = inl (record {
  good = All-cons IsGood fields rows (good_says fields good) all.good;
  are = rw (good, all.are) refl;
})
one_more number fields rows good (inr bad) =
    let count : number + 1 + length bad.before ≡ number + suc (length bad.before) = omega arith in
    inr (record {
      before = fields ∷ bad.before;
      fields = bad.fields;
      rest = bad.rest;
      split = rw bad.split refl;
      good = All-cons IsGood fields bad.before (good_says fields good) bad.good;
      bad = bad.bad;
      are = rw (good, bad.are, count) refl;
    })

none_before : (number : ℕ) → number ≡ number + 0
none_before number = omega arith

at_once : (number : ℕ) (fields : List (List ℕ)) (rows : List (List (List ℕ))) → is_good fields ≡ false → FirstBad number (fields ∷ rows)
unfolding batch_from
at_once number fields rows other = record {
  before = [];
  fields = fields;
  rest = rows;
  split = refl;
  good = All-nil IsGood;
  bad = λ good. cc (sym other ∙ good_is fields good);
  are = rw other (ap (λ (n : ℕ). bad_at n) (none_before number));
}

by_test : (number : ℕ) (fields : List (List ℕ)) (rows : List (List (List ℕ))) → AllGood (number + 1) rows ⊎ FirstBad (number + 1) rows
    → (b : Bool) → is_good fields ≡ b → AllGood number (fields ∷ rows) ⊎ FirstBad number (fields ∷ rows)
by_test number fields rows later true e = one_more number fields rows e later
by_test number fields rows later false e = inr (at_once number fields rows e)

behind : (number : ℕ) (rows : List (List (List ℕ))) → AllGood number rows ⊎ FirstBad number rows
unfolding batch_from
behind number [] = inl (record { good = All-nil IsGood; are = refl })
behind number (fields ∷ rows) = by_test number fields rows (behind (number + 1) rows) (is_good fields) refl

-- ---- of all records

headed : (fields : List (List ℕ)) (rest : List (List (List ℕ))) → fields ≡ header → same_fields fields header ≡ true
    → AllGood 1 rest ⊎ FirstBad 1 rest → AreCalls (fields ∷ rest) (batch_of (fields ∷ rest))
headed fields rest same e (inl all) = all_good rest (rw same refl) all.good (rw (e, all.are) refl)
headed fields rest same e (inr bad) =
    first_bad bad.before bad.fields bad.rest (rw (same, bad.split) refl) bad.good bad.bad (rw (e, bad.are) refl)

header_is : same_fields header header ≡ true
header_is = refl

not_header : (fields : List (List ℕ)) → fields ≡ header → same_fields fields header ≡ false → ⊥
not_header fields same e = absurd (cc (sym (rw same at e) ∙ header_is))

by_header : (fields : List (List ℕ)) (rest : List (List (List ℕ))) (b : Bool) → same_fields fields header ≡ b
    → AreCalls (fields ∷ rest) (batch_of (fields ∷ rest))
by_header fields rest true e = headed fields rest (same_fields-is fields header e) e (behind 1 rest)
by_header fields rest false e = other_header fields rest refl (λ same. not_header fields same e) (rw e refl)

pub calls_are : (records : List (List (List ℕ))) → AreCalls records (batch_of records)
calls_are [] = no_record refl refl
calls_are (fields ∷ rest) = by_header fields rest (same_fields fields header) refl

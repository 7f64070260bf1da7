-- Lines and the rows that they tell.
use Rattle.std.proofs.Common.{◌≡◌, ℕ, zero, suc, decimal, ◌+◌, ◌<◌, ◌^◌, List, [], ◌∷◌, ◌++◌, length, Option, Some, None, refl, sym, ap, ◌∙◌, subst, arith, append-nil, append_assoc, length-append, All, AllPairs}
use Rattle.std.specs.Prelude.{MatchOption}
use Rattle.std.proofs.lemmas.List.Elements.{All-head, All-tail, All-cons}
use Rattle.std.proofs.lemmas.List.Quantifiers.{all_pairs_push}
use Rattle.std.proofs.lemmas.Fmt.{decimal_injective}
use Rattle.json.specs.Json.{Json, number, string}
use Rattle.request_lines.specs.Lines.{lines}
use Rattle.request_lines.proofs.LinesLemmas.{lines-cut}
use Rattle.tracker_keeper.specs.declared.row.Row.{Row}
use Rattle.tracker_keeper.specs.Rows.{IsBelow}
use Rattle.row_lines.specs.RowText.{IsLineOf, SaysRow, rows_text, row_line}
use Rattle.row_lines.specs.Telling.{AreLinesOf, TellRows, Tells, IsBadLine, CanTell}
use Rattle.row_lines.proofs.Printed.{one_line, is_line}

-- ---- a line is of one row

same_row : (one other : Row) → one.kind ≡ other.kind → one.no ≡ other.no → one.body ≡ other.body → one ≡ other
same_row one other k n b = λ i. record { kind = k i; no = n i; body = b i }

same_text : (a b : List ℕ) → Some (string a) ≡ Some (string b) → a ≡ b
same_text a b e = cc e

same_digits : (a b : List ℕ) → Some (number a) ≡ Some (number b) → a ≡ b
same_digits a b e = cc e

-- a number has its digits alone
pub same_number : (a b : ℕ) → a < 2 ^ 64 → b < 2 ^ 64 → Some (number (decimal a)) ≡ Some (number (decimal b)) → a ≡ b
same_number a b small smaller e = decimal_injective a b small smaller (same_digits _ _ e)

said_once : (one other : Row) (json : Json) → SaysRow one json → SaysRow other json → one ≡ other
said_once one other json a b =
    same_row one other
    (same_number one.kind other.kind (omega (arith, a.kind_small)) (omega (arith, b.kind_small)) (sym a.kind_is ∙ b.kind_is))
    (same_number one.no other.no (omega (arith, a.number_small)) (omega (arith, b.number_small)) (sym a.number_is ∙ b.number_is))
    (same_text _ _ (sym a.body_is ∙ b.body_is))

same_json : (a b : Json) → Some a ≡ Some b → a ≡ b
same_json a b e = cc e

pub one_row : (line : List ℕ) (one other : Row) → IsLineOf one line → IsLineOf other line → one ≡ other
one_row line one other a b =
    said_once one other a.json a.says (subst (SaysRow other) (sym (same_json a.json b.json (sym a.document_is ∙ b.document_is))) b.says)

pub one_list : (all : List (List ℕ)) (one other : List Row) → AreLinesOf one all → AreLinesOf other all → one ≡ other
one_list [] [] [] a b = refl
one_list [] [] (row ∷ rows) a b = absurd b
one_list [] (row ∷ rows) other a b = absurd a
one_list (line ∷ all) [] other a b = absurd a
one_list (line ∷ all) (row ∷ rows) [] a b = absurd b
one_list (line ∷ all) (row ∷ rows) (more ∷ others) a b = λ i. one_row line row more a.0 b.0 i ∷ one_list all rows others a.1 b.1 i

pub one_told : (bytes : List ℕ) (one other : List Row) → Tells bytes one → Tells bytes other → one ≡ other
one_told bytes one other a b = one_list (lines bytes) one other a.each b.each

-- ---- the lines of rows

each_line : (rows : List Row) → All CanTell rows → AreLinesOf rows (lines (rows_text rows))
each_line [] can = tt
each_line (row ∷ rows) can =
    let here = All-head CanTell row rows can in
    subst (AreLinesOf (row ∷ rows)) (sym (lines-cut (row_line row) (rows_text rows) (one_line row here)))
    (is_line row here, each_line rows (All-tail CanTell row rows can))

pub told_again : (rows : List Row) → All CanTell rows → AllPairs IsBelow rows → Tells (rows_text rows) rows
told_again rows can rising = record { each = each_line rows can; rising = rising }

-- ---- one more line

pub same_length : (rows : List Row) (all : List (List ℕ)) → AreLinesOf rows all → length rows ≡ length all
same_length [] [] h = refl
same_length [] (line ∷ all) h = absurd h
same_length (row ∷ rows) [] h = absurd h
same_length (row ∷ rows) (line ∷ all) h = omega (arith, same_length rows all h.1)

lines_more : (rows : List Row) (all : List (List ℕ)) (row : Row) (line : List ℕ) → AreLinesOf rows all → IsLineOf row line → AreLinesOf (rows ++ row ∷ []) (all ++ line ∷ [])
lines_more [] [] row line h is = (is, tt)
lines_more [] (first ∷ all) row line h is = absurd h
lines_more (first ∷ rows) [] row line h is = absurd h
lines_more (first ∷ rows) (begin ∷ all) row line h is = (h.0, lines_more rows all row line h.1 is)

-- the first lines tell these rows, and these bytes are left
pub record IsTold (bytes rest : List ℕ) (rows : List Row) : Type 0 where
  pub done : List (List ℕ)
  pub apart : lines bytes ≡ done ++ lines rest
  pub told : TellRows done rows

pub told_first : (bytes : List ℕ) → IsTold bytes bytes []
told_first bytes = record { done = []; apart = refl; told = record { each = tt; rising = λ i j d l m. absurd (omega (arith, m)) } }

pub told_more : (bytes rest line later : List ℕ) (rows : List Row) (row : Row) → IsTold bytes rest rows → lines rest ≡ line ∷ lines later → IsLineOf row line → All (λ before. IsBelow before row) rows
    → IsTold bytes later (rows ++ row ∷ [])
told_more bytes rest line later rows row h cut is behind = record {
  done = h.done ++ line ∷ [];
  apart = h.apart ∙ ap (λ l. h.done ++ l) cut ∙ sym (append_assoc h.done (line ∷ []) (lines later));
  told = record {
    each = lines_more rows h.done row line h.told.each is;
    rising = all_pairs_push IsBelow rows row h.told.rising behind;
  };
}

pub told_all : (bytes rest : List ℕ) (rows : List Row) → IsTold bytes rest rows → rest ≡ [] → Tells bytes rows
told_all bytes rest rows h none =
    subst (λ all. TellRows all rows) (sym (h.apart ∙ ap (λ l. h.done ++ lines l) none ∙ append-nil h.done)) h.told

-- what is said of no row
none_of : (found : Option Row) (A : Type 0) (B : Row → Type 0) → MatchOption found A B → found ≡ None → A
none_of None A B h none = h
none_of (Some row) A B h none = absurd (cc none)

pub bad_line : (bytes rest line later : List ℕ) (rows : List Row) (n : ℕ) → IsTold bytes rest rows → lines rest ≡ line ∷ lines later → n ≡ length rows + 1
    → ((row : Row) → IsLineOf row line → All (λ before. IsBelow before row) rows → ⊥) → IsBadLine bytes n
bad_line bytes rest line later rows n h cut is bad = record {
  front = h.done;
  line = line;
  rest = lines later;
  apart = h.apart ∙ ap (λ l. h.done ++ l) cut;
  number_is = is ∙ ap (λ l. l + 1) (same_length rows h.done h.told.each);
  rows = rows;
  told = h.told;
  bad = bad;
}

-- no row was read behind these
pub none_behind : (bytes rest line later : List ℕ) (rows slice : List Row) (found : Option Row) (B : Row → Type 0) (n : ℕ) → IsTold bytes rest rows → lines rest ≡ line ∷ lines later → slice ≡ rows
    → MatchOption found ((row : Row) → IsLineOf row line → All (λ before. IsBelow before row) slice → ⊥) B → found ≡ None → n ≡ length slice + 1 → IsBadLine bytes n
none_behind bytes rest line later rows slice found B n h cut same bad none is =
    bad_line bytes rest line later rows n h cut (is ∙ ap (λ l. length l + 1) same)
    (subst (λ l. (row : Row) → IsLineOf row line → All (λ before. IsBelow before row) l → ⊥) same (none_of found _ B bad none))

-- the next row was read behind them
pub told_next : (bytes rest line later : List ℕ) (rows slice more : List Row) (row : Row) → IsTold bytes rest rows → lines rest ≡ line ∷ lines later → slice ≡ rows
    → IsLineOf row line × All (λ before. IsBelow before row) slice → more ≡ rows ++ row ∷ [] → IsTold bytes later more
told_next bytes rest line later rows slice more row h cut same is pushed =
    subst (IsTold bytes later) (sym pushed)
    (told_more bytes rest line later rows row h cut is.0 (subst (All (λ before. IsBelow before row)) same is.1))

-- ---- told rows have no bad line

record IsCut (rows : List Row) (front : List (List ℕ)) (line : List ℕ) : Type 0 where
  first : List Row
  row : Row
  more : List Row
  apart : rows ≡ first ++ row ∷ more
  each : AreLinesOf first front
  is : IsLineOf row line

cut_rows : (rows : List Row) (front : List (List ℕ)) (line : List ℕ) (rest : List (List ℕ)) → AreLinesOf rows (front ++ line ∷ rest) → IsCut rows front line
cut_rows [] [] line rest h = absurd h
cut_rows [] (one ∷ front) line rest h = absurd h
cut_rows (row ∷ rows) [] line rest h = record { first = []; row = row; more = rows; apart = refl; each = tt; is = h.0 }
cut_rows (row ∷ rows) (one ∷ front) line rest h =
    let cut = cut_rows rows front line rest h.1 in
    record { first = row ∷ cut.first; row = cut.row; more = cut.more; apart = ap (λ l. row ∷ l) cut.apart; each = (h.0, cut.each); is = cut.is }

head_below : (row : Row) (rows : List Row) → AllPairs IsBelow (row ∷ rows) → All (IsBelow row) rows
head_below row rows h k d l = h zero (suc k) d (omega arith) (omega (arith, l))

tail_rises : (row : Row) (rows : List Row) → AllPairs IsBelow (row ∷ rows) → AllPairs IsBelow rows
tail_rises row rows h i j d l m = h (suc i) (suc j) d (omega (arith, l)) (omega (arith, m))

at_seam : (first : List Row) (row : Row) (more : List Row) (P : Row → Type 0) → All P (first ++ row ∷ more) → P row
at_seam [] row more P h = All-head P row more h
at_seam (one ∷ first) row more P h = at_seam first row more P (All-tail P one (first ++ row ∷ more) h)

all_below : (first : List Row) (row : Row) (more : List Row) → AllPairs IsBelow (first ++ row ∷ more) → All (λ before. IsBelow before row) first
all_below [] row more h = λ k d l. absurd (omega (arith, l))
all_below (one ∷ first) row more h =
    All-cons (λ before. IsBelow before row) one first (at_seam first row more (IsBelow one) (head_below one (first ++ row ∷ more) h))
    (all_below first row more (tail_rises one (first ++ row ∷ more) h))

pub none_bad : (bytes : List ℕ) (rows : List Row) (n : ℕ) → Tells bytes rows → IsBadLine bytes n → ⊥
none_bad bytes rows n h bad =
    let cut = cut_rows rows bad.front bad.line bad.rest (subst (AreLinesOf rows) bad.apart h.each) in
    let below = all_below cut.first cut.row cut.more (subst (AllPairs IsBelow) cut.apart h.rising) in
    bad.bad cut.row cut.is (subst (All (λ before. IsBelow before cut.row)) (one_list bad.front cut.first bad.rows cut.each bad.told.each) below)

-- ---- numbers of told rows

each_small : (rows : List Row) (all : List (List ℕ)) → AreLinesOf rows all → All (λ row. row.no < 2 ^ 63) rows
each_small [] all h = λ k d l. absurd (omega (arith, l))
each_small (row ∷ rows) [] h = absurd h
each_small (row ∷ rows) (line ∷ all) h = All-cons (λ (r : Row). r.no < 2 ^ 63) row rows (h.0).says.number_small (each_small rows all h.1)

pub told_small : (bytes : List ℕ) (rows : List Row) → Tells bytes rows → All (λ row. row.no < 2 ^ 63) rows
told_small bytes rows h = each_small rows (lines bytes) h.each

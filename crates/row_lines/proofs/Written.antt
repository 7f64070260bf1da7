-- Rows on their way into a sink.
use Rattle.std.proofs.Common.{◌≡◌, ℕ, zero, suc, ◌+◌, ◌<◌, length, drop, arith, subst, List, [], ◌∷◌, ◌++◌, Option, Some, None, refl, sym, ap, ◌∙◌, append_assoc, append-nil}
use Rattle.std.specs.Prelude.{Result, Ok, Err, slice_index_or}
use Rattle.std.specs.Io.KnownBytes.{Appends}
use Rattle.request_lines.specs.Bytes.{WritesAll}
use Rattle.request_lines.proofs.Known.{Appends-trans, front-more}
use Rattle.tracker_keeper.specs.declared.row.Row.{Row}
use Rattle.row_lines.specs.RowText.{row_line, rows_text}
use Rattle.row_lines.specs.Writing.{WritesFront, PassesOn}

-- some of the text was written, some is pending, and the rest is left
pub record IsWriting (old now : Option (List ℕ)) (pending text left : List ℕ) : Type 0 where
  pub written : List ℕ
  pub text_is : text ≡ written ++ (pending ++ left)
  pub grew : Appends old now written

nothing : (known : Option (List ℕ)) → Appends known known []
nothing None = tt
nothing (Some xs) = sym (append-nil xs)

pub writing_first : (known : Option (List ℕ)) (text : List ℕ) → IsWriting known known [] text text
writing_first known text = record { written = []; text_is = refl; grew = nothing known }

-- what is left begins with a line, which is pending then
pub writing_line : (old now : Option (List ℕ)) (pending more text left line later : List ℕ) → IsWriting old now pending text left → left ≡ line ++ later → more ≡ pending ++ line → IsWriting old now more text later
writing_line old now pending more text left line later h is pushed = record {
  written = h.written;
  text_is = h.text_is ∙ ap (λ l. h.written ++ (pending ++ l)) is ∙ ap (λ l. h.written ++ l) (sym (append_assoc pending line later) ∙ ap (λ l. l ++ later) (sym pushed));
  grew = h.grew;
}

pub writing_passed : (old mid now : Option (List ℕ)) (before after text left : List ℕ) → IsWriting old mid before text left
    → (written : List ℕ) × (before ≡ written ++ after) × Appends mid now written → IsWriting old now after text left
writing_passed old mid now before after text left h (written, is, grew) = record {
  written = h.written ++ written;
  text_is = h.text_is ∙ ap (λ l. h.written ++ (l ++ left)) is ∙ ap (λ l. h.written ++ l) (append_assoc written after left) ∙ sym (append_assoc h.written written (after ++ left));
  grew = Appends-trans old mid now h.written written h.grew grew;
}

pub writing_cut : (old mid now : Option (List ℕ)) (pending text left : List ℕ) → IsWriting old mid pending text left → WritesFront mid now pending → WritesFront old now text
writing_cut old mid now pending text left h (front, back, is, grew) = (
  h.written ++ front,
  back ++ left,
  h.text_is ∙ ap (λ l. h.written ++ (l ++ left)) is ∙ ap (λ l. h.written ++ l) (append_assoc front back left) ∙ sym (append_assoc h.written front (back ++ left)),
  Appends-trans old mid now h.written front h.grew grew,
)

pub writing_halts : (old now : Option (List ℕ)) (pending text left : List ℕ) → IsWriting old now pending text left → WritesFront old now text
writing_halts old now pending text left h = (h.written, pending ++ left, h.text_is, h.grew)

whole_is : (written pending text left : List ℕ) → left ≡ [] → text ≡ written ++ (pending ++ left) → text ≡ written ++ pending
whole_is written pending text left none is = is ∙ ap (λ l. written ++ (pending ++ l)) none ∙ ap (λ l. written ++ l) (append-nil pending)

pub writing_done : (old mid now : Option (List ℕ)) (pending text left : List ℕ) → IsWriting old mid pending text left → left ≡ [] → Appends mid now pending → Appends old now text
writing_done old mid now pending text left h none grew =
    by (Appends-trans old mid now h.written pending h.grew grew) (sym (whole_is h.written pending text left none h.text_is))
  where
    by : Appends old now (h.written ++ pending) → h.written ++ pending ≡ text → Appends old now text
    by a e = rw (sym e) a

-- ---- row by row

text_from : (rows : List Row) (i : ℕ) (row : Row) → i < length rows → row ≡ slice_index_or rows i row → rows_text (drop i rows) ≡ row_line row ++ 10 ∷ rows_text (drop (suc i) rows)
text_from [] i row less is = absurd (omega (arith, less))
text_from (first ∷ rows) zero row less is = ap (λ (r : Row). row_line r ++ 10 ∷ rows_text rows) (sym is)
text_from (first ∷ rows) (suc i) row less is = text_from rows i row (omega (arith, less)) is

text_at : (rows : List Row) (i : ℕ) (row : Row) → i < length rows → row ≡ slice_index_or rows i row → rows_text (drop i rows) ≡ (row_line row ++ 10 ∷ []) ++ rows_text (drop (i + 1) rows)
text_at rows i row less is =
    let next : suc i ≡ i + 1 = omega arith in
    text_from rows i row less is ∙ ap (λ k. row_line row ++ 10 ∷ rows_text (drop k rows)) next ∙ sym (append_assoc (row_line row) (10 ∷ []) (rows_text (drop (i + 1) rows)))

-- the next row is pending
pub writing_row : (old now : Option (List ℕ)) (pending more text : List ℕ) (rows : List Row) (i : ℕ) (row : Row) → IsWriting old now pending text (rows_text (drop i rows))
    → i < length rows → row ≡ slice_index_or rows i row → more ≡ (pending ++ row_line row) ++ 10 ∷ [] → IsWriting old now more text (rows_text (drop (i + 1) rows))
writing_row old now pending more text rows i row h less is pushed =
    writing_line old now pending more text (rows_text (drop i rows)) (row_line row ++ 10 ∷ []) (rows_text (drop (i + 1) rows)) h (text_at rows i row less is)
    (pushed ∙ append_assoc pending (row_line row) (10 ∷ []))

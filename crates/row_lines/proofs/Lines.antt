-- The first line of bytes.
use Rattle.std.proofs.Common.{◌≡◌, ℕ, ◌+◌, ◌-◌, ◌<◌, ◌≤◌, List, [], ◌∷◌, ◌++◌, length, sym, ap, ◌∙◌, arith, take, drop, Some, None}
use Rattle.std.proofs.lemmas.List.{take-append-drop, length-drop}
use Rattle.request_lines.specs.Lines.{lines, IsOneLine}
use Rattle.request_lines.specs.Bytes.{IsLineEnd}
use Rattle.request_lines.proofs.LinesLemmas.{lines-cut}
use Rattle.request_lines.proofs.Pieces.{take-all}

-- all of what is left, as a slice takes it
rest_whole : (bytes : List ℕ) (end : ℕ) → take (length bytes - (end + 1)) (drop (end + 1) bytes) ≡ drop (end + 1) bytes
rest_whole bytes end = ap (λ k. take k (drop (end + 1) bytes)) (sym (length-drop (end + 1) bytes)) ∙ take-all (drop (end + 1) bytes)

pub line_cut : (bytes : List ℕ) (end : ℕ) → IsLineEnd bytes (Some end) → lines bytes ≡ take end bytes ∷ lines (take (length bytes - (end + 1)) (drop (end + 1) bytes))
line_cut bytes end is =
    ap lines (sym (take-append-drop end bytes) ∙ ap (λ l. take end bytes ++ l) is.2)
    ∙ lines-cut (take end bytes) (drop (end + 1) bytes) is.1
    ∙ ap (λ l. take end bytes ∷ lines l) (sym (rest_whole bytes end))

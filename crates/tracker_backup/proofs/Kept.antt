-- What a keeper's list of rows shows of its rows.
use Rattle.std.proofs.Common.{◌≡◌, ◌≢◌, ℕ, ◌==◌, ◌&&◌, true, false, Bool, List, [], ◌∷◌, Option, Some, None, refl, sym, ap, ◌∙◌, subst, eq-eqb}
use Rattle.std.specs.Bool.{MatchBool}
use Rattle.tracker_keeper.specs.declared.row.Row.{Row}
use Rattle.tracker_keeper.specs.Rows.{Rows, IsListing, found, no_rows}
use mathlib.Core.Path.{fun_ext}

pub none_kept : (rows : Rows) (list : List Row) → IsListing rows list → list ≡ [] → rows ≡ no_rows
none_kept rows list is none = fun_ext (λ k. fun_ext (λ n. sym (is.same k n) ∙ ap (λ (l : List Row). found l k n) none))

found_first : (row : Row) (list : List Row) → found (row ∷ list) row.kind row.no ≡ Some row.body
found_first row list = rw (eq-eqb row.kind row.kind refl, eq-eqb row.no row.no refl) refl

pub some_kept : (rows : Rows) (list : List Row) → IsListing rows list → list ≢ [] → rows ≢ no_rows
some_kept rows [] is some none = some refl
some_kept rows (row ∷ list) is some none =
    absurd (cc (sym (found_first row list) ∙ is.same row.kind row.no ∙ ap (λ (r : Rows). r row.kind row.no) none))

-- whether a list has a row tells whether there is one
pub tells_some : (rows : Rows) (list : List Row) (b : Bool) → IsListing rows list → MatchBool b (list ≢ []) (list ≡ []) → MatchBool b (rows ≢ no_rows) (rows ≡ no_rows)
tells_some rows list true is some = some_kept rows list is some
tells_some rows list false is none = none_kept rows list is none

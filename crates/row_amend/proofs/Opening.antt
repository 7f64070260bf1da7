-- Where there are no rows, those of a new tracker come.
use Rattle.std.proofs.Common.{◌≡◌, ◌<◌, ◌≤◌, ◌^◌, ℕ, List, [], length, inl, sym, ap, subst, ◌∙◌, arith, refl}
use Rattle.std.specs.List.{All}
use mathlib.Core.Path.{fun_ext}
use Rattle.field_values.specs.Parts.{Parts}
use Rattle.fields.specs.Sound.{IsSound}
use Rattle.tracker_keeper.specs.declared.row.Row.{Row}
use Rattle.tracker_keeper.specs.declared.row.RowOp.{RowOp}
use Rattle.tracker_keeper.specs.Rows.{Rows, IsListing, no_rows, number_of, with_ops}
use Rattle.tracker_machine.specs.Machine.{opening}
use Rattle.tracker_machine.specs.Kept.{opening_ops}
use Rattle.tracker_machine.proofs.Kept.{rows_opening, opening_small}
use Rattle.tracker_machine.proofs.Regrouped.{groups_of_sound}
use Rattle.amended_rows.specs.Amending.{ComesOf}
use Rattle.row_amend.specs.Faults.{AreSmall}

pub none_listed : (kept : Rows) → IsListing kept [] → kept ≡ no_rows
none_listed kept listing = fun_ext (λ k. fun_ext (λ n. sym (listing.same k n)))

pub comes_of_none : (ops : List RowOp) (list : List Row) (kept : Rows) (text : List ℕ) (setup : Parts) → ops ≡ opening_ops (opening text setup) → list ≡ [] → IsListing kept list
    → ComesOf text setup kept (with_ops ops kept)
comes_of_none ops list kept text setup is empty listing =
    let none : kept ≡ no_rows = none_listed kept (subst (IsListing kept) empty listing) in
    inl (none, ap (λ os. with_ops os kept) is ∙ (ap (with_ops (opening_ops (opening text setup))) none ∙ rows_opening text setup))

pub small_opening : (ops : List RowOp) (text : List ℕ) (setup : Parts) → ops ≡ opening_ops (opening text setup) → IsSound setup → AreSmall ops
small_opening ops text setup is sound = subst AreSmall (sym is) (opening_small (opening text setup) (groups_of_sound setup sound))

more_opening : (text : List ℕ) (setup : Parts) → 0 < length (opening_ops (opening text setup))
unfolding opening_ops
more_opening text setup = omega arith

pub some_opening : (ops : List RowOp) (text : List ℕ) (setup : Parts) → ops ≡ opening_ops (opening text setup) → 0 < length ops
some_opening ops text setup is = subst (λ os. 0 < length os) (sym is) (more_opening text setup)

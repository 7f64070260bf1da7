-- What a desk finds kept when it opens.
use Rattle.std.proofs.Common.{◌≡◌, ◌≢◌, ℕ, inl, inr, Result, Ok, Err, IfOk, IfErr, OnOk, List, [], sym, ap, subst, ◌∙◌, arith}
use Rattle.std.specs.Prelude.{slice_index_or}
use Rattle.tracker_keeper.specs.declared.row.Row.{Row}
use Rattle.tracker_keeper.specs.Rows.{Rows, no_rows, with_ops, IsBelow, IsListing}
use Rattle.tracker_machine.specs.Machine.{Machine}
use Rattle.tracker_machine.specs.Kept.{rows_of, migrating_ops}
use Rattle.tracker_rows.specs.Listed.{InOrder}
use Rattle.tracker_rows.specs.Loading.{Loads, IsFirstBad}
use Rattle.tracker_rows.proofs.Loaded.{loaded_rows_are_theirs, migrated_rows_are_theirs}
use Rattle.tracker_keeper.specs.declared.part.Format.TheVariants.{First, Second}
use Rattle.tracker_core.specs.Desk.{HasBadRow, HasNoRow, IsKeepersOwn, IsMadeOf, IsNew, IsOpened, IsOpenFault}
use Rattle.tracker_core.specs.declared.desk.OpenFault.{OpenFault}
use Rattle.tracker_core.proofs.Desks.{listed_row}
use Rattle.tracker_core.specs.declared.desk.OpenFault.TheVariants.{Keeper, Held, BadRow, Memory}
use mathlib.Core.Path.{fun_ext}

-- a list without rows shows that there are none
pub no_row : (rows : Rows) → IsListing rows [] → HasNoRow rows
no_row rows is kind number = sym (is.same kind number)

pub without_rows : (rows : Rows) → HasNoRow rows → rows ≡ no_rows
without_rows rows none = fun_ext (λ kind. fun_ext (λ number. none kind number))

-- the rows of the second format that a tracker is loaded of are its own
pub own_rows : (rows : Rows) (list : List Row) (m : Machine) → IsListing rows list → Loads Second list m → rows ≡ rows_of m
own_rows rows list m is loads =
    let own = loaded_rows_are_theirs list m loads in
    fun_ext (λ kind. fun_ext (λ number. sym (is.same kind number) ∙ own.same kind number))

-- ---- the order

not_both : (one other : Row) → IsBelow one other → IsBelow other one → ⊥
not_both one other (inl less) (inl more) = omega (arith, less, more)
not_both one other (inl less) (inr back) = omega (arith, less, back.0)
not_both one other (inr less) (inl more) = omega (arith, less.0, more)
not_both one other (inr less) (inr back) = omega (arith, less.1, back.1)

-- a list that shows rows is in order
pub in_order : (rows : Rows) (list : List Row) → IsListing rows list → InOrder list
in_order rows list is = λ i j d less within. not_both (slice_index_or list i d) (slice_index_or list j d) (is.rising i j d less within)

-- ---- what was opened

-- the tracker that was loaded, where the keeper told the rows
pub loaded_opens : {S E T : Type 0} (machine : S → Machine) (r : Result S E) (text : List ℕ) (rows : Rows) (list : List Row) → (T → IsListing rows list)
    → (InOrder list → IfOk r (λ s. IsMadeOf list (machine s))) → IfOk r (λ s. T → IsOpened text rows (machine s))
loaded_opens machine (Ok s) text rows list is loads = λ told. inl (list, is told, loads (in_order rows list (is told)))
loaded_opens machine (Err e) text rows list is loads = tt

-- the rows of the tracker that rows of the first format make, once they are migrated
pub migrated_keeps : {S E : Type 0} (machine : S → Machine) (r : Result S E) (keeps : Rows → Type 0) (m : Machine) (kept : Rows) (list : List Row) → IsListing kept list
    → (InOrder list → Loads First list m) → IfOk r (λ s. machine s ≡ m) → OnOk r (keeps (with_ops (migrating_ops m) kept)) → IfOk r (λ s. keeps (rows_of (machine s)))
migrated_keeps machine (Ok s) keeps m kept list is loads same has =
    subst keeps (migrated_rows_are_theirs list kept m (loads (in_order kept list is)) is ∙ ap rows_of (sym same)) has
migrated_keeps machine (Err e) keeps m kept list is loads same has = tt

-- a fault that rows have no part in tells no bad one
pub own_fault : {S : Type 0} (r : Result S OpenFault) (Bad : ℕ → ℕ → Type 0) → IfErr r IsKeepersOwn → IfErr r (IsOpenFault Bad)
own_fault (Ok s) Bad own = tt
own_fault (Err Keeper) Bad own = tt
own_fault (Err Held) Bad own = own
own_fault (Err (BadRow kind number)) Bad own = absurd own
own_fault (Err Memory) Bad own = tt

-- a new tracker, where the keeper told none
pub new_opens : {S E T : Type 0} (machine : S → Machine) (r : Result S E) (text : List ℕ) (rows : Rows) → (T → HasNoRow rows)
    → IfOk r (λ s. IsNew text (machine s)) → IfOk r (λ s. T → IsOpened text rows (machine s))
new_opens machine (Ok s) text rows none new = λ told. inr (none told, new)
new_opens machine (Err e) text rows none new = tt

pub new_keeps : {S E T K : Type 0} (r : Result S E) (kept : S → Type 0) → (T → K) → (K → IfOk r kept) → IfOk r (λ s. T → kept s)
new_keeps (Ok s) kept none new = λ told. new (none told)
new_keeps (Err e) kept none new = tt

-- a bad row is among those that the keeper told
bad_told : (fault : OpenFault) (Bad Worse : ℕ → ℕ → Type 0) → ((kind number : ℕ) → Bad kind number → Worse kind number) → IsOpenFault Bad fault → IsOpenFault Worse fault
bad_told Keeper Bad Worse f is = tt
bad_told Held Bad Worse f is = is
bad_told (BadRow kind number) Bad Worse f is = f kind number is
bad_told Memory Bad Worse f is = tt

pub bad_opens : {S P : Type 0} (r : Result S OpenFault) (keeps : P → Rows → Type 0) (tells : P → Type 0) (old new : P) (list : List Row)
    → list ≢ [] → (tells new → (rows : Rows) → keeps old rows → IsListing rows list) → IfErr r (IsOpenFault (λ kind number. InOrder list → IsFirstBad list kind number))
    → IfErr r (IsOpenFault (HasBadRow keeps tells old new))
bad_opens (Ok s) keeps tells old new list some is bad = tt
bad_opens (Err fault) keeps tells old new list some is bad =
    bad_told fault (λ kind number. InOrder list → IsFirstBad list kind number) (HasBadRow keeps tells old new)
    (λ kind number first rows kept told. (listed_row rows list some (is told rows kept), (list, is told rows kept, first (in_order rows list (is told rows kept))))) bad

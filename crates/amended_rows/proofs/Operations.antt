-- What operations make the amended rows of a tracker's.
use Rattle.std.proofs.Common.{◌≡◌, ℕ, zero, suc, ◌+◌, ◌-◌, ◌<◌, ◌≤◌, ◌==◌, ◌&&◌, ◌⊎◌, Bool, true, false, List, [], ◌∷◌, ◌++◌, length, map, slice_get, Option, Some, None, option_map, refl, sym, ap, ◌∙◌, subst, arith, inl, inr, eq-eqb, ne_eqb}
use Rattle.std.specs.Prelude.{if◌then◌else◌}
use Rattle.std.specs.Option.{option_or}
use Rattle.std.proofs.lemmas.Bool.{cases_eq, cases_lt}
use Rattle.std.proofs.lemmas.Option.{none-some, slice_get_past}
use mathlib.Core.Path.{fun_ext}
use Rattle.field_forms.specs.Known.{Names}
use Rattle.field_values.specs.Parts.{Parts}
use Rattle.field_values.specs.declared.parts.Group.{Group}
use Rattle.fields.specs.SetupParts.{names_in}
use Rattle.jql_meaning.specs.Surroundings.{numbered}
use Rattle.tracker_keeper.specs.declared.row.Row.{Row}
use Rattle.tracker_keeper.specs.declared.row.RowOp.{RowOp}
use Rattle.tracker_keeper.specs.declared.row.RowOp.TheVariants.{Drop}
use Rattle.tracker_keeper.specs.declared.part.Format.{Format}
use Rattle.tracker_keeper.specs.declared.part.Format.TheVariants.{First, Second}
use Rattle.tracker_keeper.specs.declared.part.Part.{Part}
use Rattle.tracker_keeper.specs.Bodies.{body_text}
use Rattle.tracker_keeper.specs.Parts.{part_kind, part_number}
use Rattle.tracker_keeper.specs.Rows.{Rows, IsListing, no_rows, with_op, with_ops}
use Rattle.tracker_machine.specs.Machine.{Machine, opening}
use Rattle.tracker_machine.specs.Kept.{Kind, kinds, lone, part_in, members_part, members_numbered, members_from, present_part, setup_part, put_part, part_at, rows_of, opening_parts, opening_ops, migrating_parts, migrating_ops}
use Rattle.tracker_machine.proofs.Kept.{rows_opening}
use Rattle.tracker_machine.proofs.SprintRows.{no_sprint_numbered}
use Rattle.tracker_rows.specs.Loading.{Loads}
use Rattle.tracker_rows.proofs.Loaded.{loaded_rows_are_theirs, migrated_rows_are_theirs}
use Rattle.amended_rows.specs.Amended.{with_kept_members, amended, member_drops, amending_ops}
use Rattle.amended_rows.specs.Laws.{RowsAreAmended}

-- ---- parts that are put

or_or : (a b c : Option (List ℕ)) → option_or (option_or a b) c ≡ option_or a (option_or b c)
or_or None b c = refl
or_or (Some x) b c = refl

or_none : (a : Option (List ℕ)) → option_or a None ≡ a
or_none None = refl
or_none (Some x) = refl

none_behind : (a b : Option (List ℕ)) → option_or a b ≡ None → b ≡ None
none_behind None b none = none
none_behind (Some x) b none = absurd (none-some x (sym none))

put_over : (names : Names) (p : Part) (rows : Rows) (k n : ℕ) → with_op (put_part names p) rows k n ≡ option_or (with_op (put_part names p) no_rows k n) (rows k n)
put_over names p rows k n = by ((part_kind p == k) && (part_number p == n))
  where
    by : (b : Bool) → (if b then Some (body_text names p) else rows k n) ≡ option_or (if b then Some (body_text names p) else None) (rows k n)
    by true = refl
    by false = refl

-- what is put stands over the rows that were there
puts_over : (names : Names) (ps : List Part) (rows : Rows) (k n : ℕ)
    → with_ops (map (put_part names) ps) rows k n ≡ option_or (with_ops (map (put_part names) ps) no_rows k n) (rows k n)
puts_over names [] rows k n = refl
puts_over names (p ∷ ps) rows k n =
    let rest = map (put_part names) ps in
    puts_over names ps (with_op (put_part names p) rows) k n
    ∙ (ap (option_or (with_ops rest no_rows k n)) (put_over names p rows k n)
    ∙ (sym (or_or (with_ops rest no_rows k n) (with_op (put_part names p) no_rows k n) (rows k n))
    ∙ ap (λ (o : Option (List ℕ)). option_or o (rows k n)) (sym (puts_over names ps (with_op (put_part names p) no_rows) k n))))

-- rows of other kinds stay where members are put
members_apart : (names : Names) (first : ℕ) (groups : List Group) (rows : Rows) (k n : ℕ) → (10 == k) ≡ false
    → with_ops (map (put_part names) (members_from first groups)) rows k n ≡ rows k n
members_apart names first [] rows k n other = refl
members_apart names first (g ∷ gs) rows k n other =
    members_apart names (first + 1) gs (with_op (put_part names (members_part (record { 0 = first }) g.members)) rows) k n other ∙ rw other refl

-- ---- members that are told no more

one_by_one : (ops more : List RowOp) (rows : Rows) → with_ops (ops ++ more) rows ≡ with_ops more (with_ops ops rows)
one_by_one [] more rows = refl
one_by_one (op ∷ ops) more rows = one_by_one ops more (with_op op rows)

undropped : (count : ℕ) (rows : Rows) (k n : ℕ) → (10 == k) ≡ false → with_ops (member_drops count) rows k n ≡ rows k n
undropped zero rows k n other = refl
undropped (suc count) rows k n other =
    ap (λ (r : Rows). r k n) (one_by_one (member_drops count) (Drop 10 (suc count) ∷ []) rows) ∙ (rw other refl ∙ undropped count rows k n other)

still_none : (b : Bool) (o : Option (List ℕ)) → o ≡ None → (if b then None else o) ≡ None
still_none true o none = refl
still_none false o none = none

none_stays : (count : ℕ) (rows : Rows) (n : ℕ) → rows 10 n ≡ None → with_ops (member_drops count) rows 10 n ≡ None
none_stays zero rows n none = none
none_stays (suc count) rows n none =
    ap (λ (r : Rows). r 10 n) (one_by_one (member_drops count) (Drop 10 (suc count) ∷ []) rows)
    ∙ still_none (suc count == n) (with_ops (member_drops count) rows 10 n) (none_stays count rows n none)

last_dropped : (count : ℕ) (rows : Rows) (n : ℕ) (o : Option (List ℕ)) → (count ≡ n) ⊎ (count ≡ n → ⊥) → ((count ≡ n → ⊥) → o ≡ None) → (if count == n then None else o) ≡ None
last_dropped count rows n o (inl last) rest = rw (eq-eqb count n last) refl
last_dropped count rows n o (inr other) rest = still_none (count == n) o (rest other)

dropped : (count : ℕ) (rows : Rows) (n : ℕ) → 1 ≤ n → n ≤ count → with_ops (member_drops count) rows 10 n ≡ None
dropped zero rows n from to = absurd (omega (arith, from, to))
dropped (suc count) rows n from to =
    ap (λ (r : Rows). r 10 n) (one_by_one (member_drops count) (Drop 10 (suc count) ∷ []) rows)
    ∙ last_dropped (suc count) rows n (with_ops (member_drops count) rows 10 n) (cases_eq (suc count) n)
    (λ other. dropped count rows n from (omega (arith, to, other)))

-- ---- the rows of a tracker

-- no part of that kind has that number
abbrev IsSilent : ℕ → ℕ → List Kind → Type 0
IsSilent k n [] = Unit {0}
IsSilent k n (x ∷ xs) = (((k == x.kind) ≡ false) ⊎ (x.parts n ≡ None)) × IsSilent k n xs

silent : (xs : List Kind) (k n : ℕ) → IsSilent k n xs → part_in xs k n ≡ None
silent [] k n is = refl
silent (x ∷ xs) k n is = by is.0 (silent xs k n is.1)
  where
    chosen : (b : Bool) → x.parts n ≡ None → part_in xs k n ≡ None → (if b then x.parts n else part_in xs k n) ≡ None
    chosen true none rest = none
    chosen false none rest = rest

    by : ((k == x.kind) ≡ false) ⊎ (x.parts n ≡ None) → part_in xs k n ≡ None → (if k == x.kind then x.parts n else part_in xs k n) ≡ None
    by (inl apart) rest = rw apart rest
    by (inr none) rest = chosen (k == x.kind) none rest

-- a new tracker has its setup, its moment and members alone
new_has_none : (text : List ℕ) (setup : Parts) (k n : ℕ) → (k == 1) ≡ false → (k == 2) ≡ false → (k == 10) ≡ false → rows_of (opening text setup) k n ≡ None
unfolding rows_of part_at
new_has_none text setup k n one two ten =
    let none : IsSilent k n (kinds (opening text setup)) =
    (inl one, (inl two, (inr refl, (inr refl, (inr refl, (inr refl, (inr (no_sprint_numbered n), (inr refl, (inr refl, (inl ten, tt)))))))))) in
    ap (option_map (body_text (names_in setup))) (silent (kinds (opening text setup)) k n none)

no_lone : (p : Part) (n : ℕ) → lone p (suc n) ≡ None
no_lone p n = rw (ne_eqb (suc n) 0 (λ none. absurd (omega (arith, none)))) refl

no_later_setup : (m : Machine) (n : ℕ) → rows_of m 1 (suc n) ≡ None
unfolding rows_of part_at
no_later_setup m n = ap (option_map (body_text (names_in m.setup))) (no_lone (setup_part m) n)

no_later_present : (m : Machine) (n : ℕ) → rows_of m 2 (suc n) ≡ None
unfolding rows_of part_at
no_later_present m n = ap (option_map (body_text (names_in m.setup))) (no_lone (present_part m) n)

has_setup : (m : Machine) → rows_of m 1 0 ≡ Some (body_text (names_in m.setup) (setup_part m))
unfolding rows_of part_at
has_setup m = refl

has_present : (m : Machine) → rows_of m 2 0 ≡ Some (body_text (names_in m.setup) (present_part m))
unfolding rows_of part_at
has_present m = refl

-- groups are numbered from 1
no_group : (groups : List Group) (k : ℕ) → length groups ≤ k → members_numbered groups (suc k) ≡ None
no_group groups k past =
    ap (option_map (λ g. members_part (record { 0 = suc k }) g.members))
    (rw (ne_eqb (suc k) 0 (λ none. absurd (omega (arith, none)))) (ap (slice_get groups) (omega arith)) ∙ slice_get_past groups k (omega (arith, past)))

no_members : (m : Machine) (k : ℕ) → length m.setup.group ≤ k → rows_of m 10 (suc k) ≡ None
unfolding rows_of part_at
no_members m k past = ap (option_map (body_text (names_in m.setup))) (no_group m.setup.group k past)

no_first_members : (m : Machine) → rows_of m 10 0 ≡ None
unfolding rows_of part_at
no_first_members m = refl

-- ---- rows of either format

-- the rows are the tracker's, but for where it stands and for who is in its groups; and none of those is there that the tracker hasn't
pub record AreLike (kept : Rows) (m : Machine) : Type 0 where
  pub same : (k n : ℕ) → (2 == k) ≡ false → (10 == k) ≡ false → kept k n ≡ rows_of m k n
  pub none : (k n : ℕ) → rows_of m k n ≡ None → kept k n ≡ None

migrated_over : (m : Machine) (kept : Rows) (k n : ℕ) → with_ops (migrating_ops m) kept ≡ rows_of m
    → option_or (with_ops (migrating_ops m) no_rows k n) (kept k n) ≡ rows_of m k n
unfolding migrating_ops
migrated_over m kept k n is = sym (puts_over (names_in m.setup) (migrating_parts m) kept k n) ∙ ap (λ (r : Rows). r k n) is

migrated_apart : (m : Machine) (kept : Rows) (k n : ℕ) → (2 == k) ≡ false → (10 == k) ≡ false → with_ops (migrating_ops m) kept k n ≡ kept k n
unfolding migrating_ops
migrated_apart m kept k n two ten =
    members_apart (names_in m.setup) 1 m.setup.group (with_op (put_part (names_in m.setup) (present_part m)) kept) k n ten ∙ rw two refl

pub like_loaded : (format : Format) (list : List Row) (kept : Rows) (m : Machine) → Loads format list m → IsListing kept list → AreLike kept m
like_loaded Second list kept m loads listing =
    let theirs = loaded_rows_are_theirs list m loads in
    let each : (k n : ℕ) → kept k n ≡ rows_of m k n = λ k n. sym (listing.same k n) ∙ theirs.same k n in
    record { same = λ k n two ten. each k n; none = λ k n is. each k n ∙ is }
like_loaded First list kept m loads listing =
    let is = migrated_rows_are_theirs list kept m loads listing in
    record {
      same = λ k n two ten. sym (migrated_apart m kept k n two ten) ∙ ap (λ (r : Rows). r k n) is;
      none = λ k n gone. none_behind (with_ops (migrating_ops m) no_rows k n) (kept k n) (migrated_over m kept k n is ∙ gone);
    }

-- ---- the amended rows

amended_by_setup : (m : Machine) (text : List ℕ) (setup : Parts) (n : ℕ) → amended m text setup 1 n ≡ rows_of (opening text (with_kept_members m.setup setup)) 1 n
unfolding amended
amended_by_setup m text setup n = refl

amended_members : (m : Machine) (text : List ℕ) (setup : Parts) (n : ℕ) → amended m text setup 10 n ≡ rows_of (opening text (with_kept_members m.setup setup)) 10 n
unfolding amended
amended_members m text setup n = refl

amended_others : (m : Machine) (text : List ℕ) (setup : Parts) (k n : ℕ) → (k == 1) ≡ false → (k == 10) ≡ false → amended m text setup k n ≡ rows_of m k n
unfolding amended
amended_others m text setup k n one ten = rw (one, ten) refl

opening_puts : (text : List ℕ) (setup : Parts) (rows : Rows) (k n : ℕ)
    → with_ops (opening_ops (opening text setup)) rows k n ≡ option_or (with_ops (opening_ops (opening text setup)) no_rows k n) (rows k n)
unfolding opening_ops
opening_puts text setup rows k n = puts_over (names_in setup) (opening_parts (opening text setup)) rows k n

opening_over : (text : List ℕ) (setup : Parts) (rows : Rows) (k n : ℕ) → with_ops (opening_ops (opening text setup)) rows k n ≡ option_or (rows_of (opening text setup) k n) (rows k n)
opening_over text setup rows k n = opening_puts text setup rows k n ∙ ap (λ (r : Rows). option_or (r k n) (rows k n)) (rows_opening text setup)

module _ (m : Machine) (text : List ℕ) (setup : Parts) (kept : Rows) (like : AreLike kept m) where
  abbrev new : Machine
  new = opening text (with_kept_members m.setup setup)

  abbrev left : Rows
  left = with_ops (member_drops (length m.setup.group)) kept

  all_ops : (k n : ℕ) → with_ops (amending_ops m text setup) kept k n
      ≡ with_op (put_part (names_in m.setup) (present_part m)) (with_ops (opening_ops new) left) k n
  unfolding amending_ops
  all_ops k n =
      ap (λ (r : Rows). r k n)
      (one_by_one (member_drops (length m.setup.group)) (opening_ops new ++ put_part (names_in m.setup) (present_part m) ∷ []) kept
      ∙ one_by_one (opening_ops new) (put_part (names_in m.setup) (present_part m) ∷ []) left)

  -- beside present's row
  beside : (k n : ℕ) → ((2 == k) && (0 == n)) ≡ false → with_ops (amending_ops m text setup) kept k n ≡ option_or (rows_of new k n) (left k n)
  beside k n other = all_ops k n ∙ (rw other refl ∙ opening_over text (with_kept_members m.setup setup) left k n)

  at_setup : (n : ℕ) → with_ops (amending_ops m text setup) kept 1 n ≡ amended m text setup 1 n
  at_setup zero =
      beside 1 0 refl
      ∙ (ap (λ (o : Option (List ℕ)). option_or o (left 1 0)) (has_setup new)
      ∙ (sym (has_setup new) ∙ sym (amended_by_setup m text setup 0)))
  at_setup (suc n) =
      beside 1 (suc n) refl
      ∙ (ap (option_or (rows_of new 1 (suc n))) (undropped (length m.setup.group) kept 1 (suc n) refl ∙ like.none 1 (suc n) (no_later_setup m n))
      ∙ (or_none (rows_of new 1 (suc n)) ∙ sym (amended_by_setup m text setup (suc n))))

  at_present : (n : ℕ) → with_ops (amending_ops m text setup) kept 2 n ≡ amended m text setup 2 n
  at_present zero = all_ops 2 0 ∙ (sym (has_present m) ∙ sym (amended_others m text setup 2 0 refl refl))
  at_present (suc n) =
      beside 2 (suc n) (ne_eqb 0 (suc n) (λ e. absurd (omega (arith, e))))
      ∙ (ap (λ (o : Option (List ℕ)). option_or o (left 2 (suc n))) (no_later_present new n)
      ∙ (undropped (length m.setup.group) kept 2 (suc n) refl
      ∙ (like.none 2 (suc n) (no_later_present m n)
      ∙ (sym (no_later_present m n) ∙ sym (amended_others m text setup 2 (suc n) refl refl)))))

  no_members_left : (n : ℕ) → left 10 n ≡ None
  no_members_left zero = none_stays (length m.setup.group) kept 0 (like.none 10 0 (no_first_members m))
  no_members_left (suc k) = elim (cases_lt k (length m.setup.group)) [
    | inl there ↦ dropped (length m.setup.group) kept (suc k) (omega arith) (omega (arith, there))
    | inr past ↦ none_stays (length m.setup.group) kept (suc k) (like.none 10 (suc k) (no_members m k past))
  ]

  at_members : (n : ℕ) → with_ops (amending_ops m text setup) kept 10 n ≡ amended m text setup 10 n
  at_members n =
      beside 10 n refl
      ∙ (ap (option_or (rows_of new 10 n)) (no_members_left n)
      ∙ (or_none (rows_of new 10 n) ∙ sym (amended_members m text setup n)))

  -- where the kind is another one
  at_others : (k n : ℕ) → (1 ≡ k → ⊥) → (2 ≡ k → ⊥) → (10 ≡ k → ⊥) → with_ops (amending_ops m text setup) kept k n ≡ amended m text setup k n
  at_others k n one two ten =
      let two_apart = ne_eqb 2 k two in
      let ten_apart = ne_eqb 10 k ten in
      let one_back = ne_eqb k 1 (λ e. one (sym e)) in
      let two_back = ne_eqb k 2 (λ e. two (sym e)) in
      let ten_back = ne_eqb k 10 (λ e. ten (sym e)) in
      beside k n (rw two_apart refl)
      ∙ (ap (λ (o : Option (List ℕ)). option_or o (left k n)) (new_has_none text (with_kept_members m.setup setup) k n one_back two_back ten_back)
      ∙ (undropped (length m.setup.group) kept k n ten_apart
      ∙ (like.same k n two_apart ten_apart ∙ sym (amended_others m text setup k n one_back ten_back))))

  all_amended : (k n : ℕ) → with_ops (amending_ops m text setup) kept k n ≡ amended m text setup k n
  all_amended k n = elim (cases_eq 1 k) [
    | inl one ↦ subst (λ (j : ℕ). with_ops (amending_ops m text setup) kept j n ≡ amended m text setup j n) one (at_setup n)
    | inr not_one ↦ elim (cases_eq 2 k) [
      | inl two ↦ subst (λ (j : ℕ). with_ops (amending_ops m text setup) kept j n ≡ amended m text setup j n) two (at_present n)
      | inr not_two ↦ elim (cases_eq 10 k) [
        | inl ten ↦ subst (λ (j : ℕ). with_ops (amending_ops m text setup) kept j n ≡ amended m text setup j n) ten (at_members n)
        | inr not_ten ↦ at_others k n not_one not_two not_ten
      ]
    ]
  ]

pub rows_are_amended : RowsAreAmended
rows_are_amended format list kept m text setup loads listing =
    fun_ext (λ k. fun_ext (λ n. all_amended m text setup kept (like_loaded format list kept m loads listing) k n))

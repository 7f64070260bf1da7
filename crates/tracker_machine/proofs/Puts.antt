-- A row that is put or dropped stands among those of its kind, and all others stay.
use Rattle.std.proofs.Common.{◌≡◌, ℕ, ◌==◌, ◌&&◌, Bool, true, false, List, [], ◌∷◌, ◌++◌, map, Option, Some, None, option_map, refl, ap, ◌∙◌, arith, inl, inr}
use Rattle.std.specs.Prelude.{if◌then◌else◌}
use Rattle.std.proofs.lemmas.Bool.{eqb-true, cases_Bool, true≢false}
use mathlib.Core.Path.{fun_ext}
use Rattle.rising_numbers.specs.ByNumber.{by_number}
use Rattle.field_forms.specs.Known.{Names}
use Rattle.field_values.specs.declared.parts.Group.{Group as UserGroup}
use Rattle.change_history.specs.History.{History}
use Rattle.external_ids.specs.declared.external_id.ExternalId.{ExternalId}
use Rattle.external_ids.specs.Ids.{external_number}
use Rattle.board.specs.Order.{Pair}
use Rattle.board.specs.declared.board.Board.{Board}
use Rattle.sprints.specs.declared.sprint.Sprint.{Sprint}
use Rattle.tracker_keeper.specs.declared.part.Part.{Part}
use Rattle.tracker_keeper.specs.declared.row.RowOp.TheVariants.{Drop}
use Rattle.tracker_keeper.specs.Parts.{part_kind, part_number}
use Rattle.tracker_keeper.specs.Bodies.{body_text}
use Rattle.tracker_keeper.specs.Rows.{Rows, with_op, with_ops}
use Rattle.tracker_machine.specs.Machine.{Machine}
use Rattle.tracker_machine.specs.Saved.{SavedFilter, filter_number, board_number}
use Rattle.tracker_machine.specs.Kept.{Kind, kind_of, lone, part_in, put_part, setup_part, present_part, issue_part, issue_numbered, group_numbered, rank_numbered, sprint_numbered, filter_part, board_part, external_part, members_numbered}

-- ---- parts that are put

-- these parts, with that one, or none, at a kind and a number
abbrev pub with_at : ℕ → ℕ → Option Part → (ℕ → ℕ → Option Part) → ℕ → ℕ → Option Part
with_at kind number o parts k n = if (kind == k) && (number == n) then o else parts k n

-- these parts, with one more where it belongs
abbrev pub with_part : Part → (ℕ → ℕ → Option Part) → ℕ → ℕ → Option Part
with_part p parts = with_at (part_kind p) (part_number p) (Some p) parts

abbrev pub with_parts : List Part → (ℕ → ℕ → Option Part) → ℕ → ℕ → Option Part
with_parts [] parts = parts
with_parts (p ∷ ps) parts = with_parts ps (with_part p parts)

abbrev pub texts : Names → (ℕ → ℕ → Option Part) → Rows
texts names parts k n = option_map (body_text names) (parts k n)

option_chosen : {X Y : Type 0} (f : X → Y) (b : Bool) (x : X) (o : Option X) → (if b then Some (f x) else option_map f o) ≡ option_map f (if b then Some x else o)
option_chosen f true x o = refl
option_chosen f false x o = refl

-- a part is put as its text is
part_put : (names : Names) (p : Part) (parts : ℕ → ℕ → Option Part) → with_op (put_part names p) (texts names parts) ≡ texts names (with_part p parts)
part_put names p parts = fun_ext (λ k. fun_ext (λ n. option_chosen (body_text names) ((part_kind p == k) && (part_number p == n)) p (parts k n)))

pub parts_put : (names : Names) (ps : List Part) (parts : ℕ → ℕ → Option Part) → with_ops (map (put_part names) ps) (texts names parts) ≡ texts names (with_parts ps parts)
parts_put names [] parts = refl
parts_put names (p ∷ ps) parts = ap (with_ops (map (put_part names) ps)) (part_put names p parts) ∙ parts_put names ps (with_part p parts)

option_dropped : {X Y : Type 0} (f : X → Y) (b : Bool) (o : Option X) → (if b then None else option_map f o) ≡ option_map f (if b then None else o)
option_dropped f true o = refl
option_dropped f false o = refl

-- no part is left where a row is dropped
pub part_dropped : (names : Names) (kind number : ℕ) (parts : ℕ → ℕ → Option Part) → with_op (Drop kind number) (texts names parts) ≡ texts names (with_at kind number None parts)
part_dropped names kind number parts = fun_ext (λ k. fun_ext (λ n. option_dropped (body_text names) ((kind == k) && (number == n)) (parts k n)))

-- ---- the parts of each kind

-- one of these is of the kind
abbrev pub has_kind : ℕ → List Kind → Bool
has_kind kind [] = false
has_kind kind (x ∷ xs) = if kind == x.kind then true else has_kind kind xs

-- the other way round
turned : (k n : ℕ) → (k == n) ≡ (n == k)
turned k n = grind arith

first_apart : (kind : ℕ) (x : Kind) (xs : List Kind) → has_kind kind (x ∷ xs) ≡ false → (kind == x.kind) ≡ false
first_apart kind x xs free = elim (cases_Bool (kind == x.kind)) [ inl is ↦ absurd (true≢false (rw is at free)) | inr other ↦ other ]

rest_apart : (kind : ℕ) (x : Kind) (xs : List Kind) → has_kind kind (x ∷ xs) ≡ false → has_kind kind xs ≡ false
rest_apart kind x xs free = rw (first_apart kind x xs free) at free

-- where another part, or none, stands at a number of a kind, it is found there, and all others are as before
pub part_set : (before after : List Kind) (kind number : ℕ) (old new : ℕ → Option Part) (o : Option Part) (k n : ℕ) → has_kind kind before ≡ false
    → new n ≡ (if number == n then o else old n)
    → part_in (before ++ kind_of kind new ∷ after) k n ≡ with_at kind number o (part_in (before ++ kind_of kind old ∷ after)) k n
part_set [] after kind number old new o k n free is = elim (cases_Bool (k == kind)) [
  | inl same ↦ rw (same, turned kind k, same) is
  | inr other ↦ rw (other, turned kind k, other) refl
]
part_set (x ∷ xs) after kind number old new o k n free is = elim (cases_Bool (k == x.kind)) [
  | inl same ↦ rw (same, ap (λ j. kind == j) (eqb-true k x.kind same), first_apart kind x xs free) refl
  | inr other ↦ rw other (part_set xs after kind number old new o k n (rest_apart kind x xs free) is)
]

-- another part is the lone one of its kind
pub lone_set : (old new : Part) (n : ℕ) → lone new n ≡ (if 0 == n then Some new else lone old n)
lone_set old new n = elim (cases_Bool (n == 0)) [ inl is ↦ rw (turned 0 n, is) refl | inr other ↦ rw (turned 0 n, other) refl ]

-- and where there was none
pub lone_new : (new : Part) (n : ℕ) → lone new n ≡ (if 0 == n then Some new else None)
lone_new new n = rw (turned 0 n) refl

-- ---- the kinds of a tracker

abbrev pub lone_kind : ℕ → Part → Kind
lone_kind kind p = kind_of kind (lone p)

abbrev pub issue_kind : List History → Kind
issue_kind histories = kind_of 3 (λ n. option_map issue_part (issue_numbered histories n))

abbrev pub group_kind : List History → Kind
group_kind histories = kind_of 4 (group_numbered histories)

abbrev pub rank_kind : List Pair → Kind
rank_kind order = kind_of 5 (rank_numbered order)

abbrev pub external_kind : List ExternalId → Kind
external_kind ids = kind_of 6 (λ n. option_map external_part (by_number external_number n ids))

abbrev pub sprint_kind : List Sprint → Kind
sprint_kind sprints = kind_of 7 (sprint_numbered sprints)

abbrev pub filter_kind : List SavedFilter → Kind
filter_kind filters = kind_of 8 (λ n. option_map filter_part (by_number filter_number n filters))

abbrev pub board_kind : List Board → Kind
board_kind boards = kind_of 9 (λ n. option_map board_part (by_number board_number n boards))

abbrev pub members_kind : List UserGroup → Kind
members_kind groups = kind_of 10 (members_numbered groups)

-- those before external ids
abbrev pub issue_kinds : Machine → List Kind
issue_kinds m = lone_kind 1 (setup_part m) ∷ lone_kind 2 (present_part m) ∷ issue_kind m.histories ∷ group_kind m.histories ∷ rank_kind m.order ∷ []

-- those before sprints
abbrev pub ranked_kinds : Machine → List Kind
ranked_kinds m = issue_kinds m ++ external_kind m.externals ∷ []

-- those before filters and boards, and these with what stands behind them
abbrev pub kinds_before : Machine → List Kind
kinds_before m = ranked_kinds m ++ sprint_kind m.sprints ∷ []

abbrev pub saved_kinds : Machine → List Kind
saved_kinds m = filter_kind m.filters ∷ board_kind m.boards ∷ members_kind m.setup.group ∷ []

-- those behind external ids, and those behind ranks
abbrev pub later_kinds : Machine → List Kind
later_kinds m = sprint_kind m.sprints ∷ saved_kinds m

abbrev pub planned_kinds : Machine → List Kind
planned_kinds m = external_kind m.externals ∷ later_kinds m

-- those behind setup and present
abbrev pub other_kinds : Machine → List Kind
other_kinds m = issue_kind m.histories ∷ group_kind m.histories ∷ rank_kind m.order ∷ planned_kinds m

-- present is put anew
pub present_set : (setup old new : Part) (others : List Kind) (k n : ℕ)
    → part_in (lone_kind 1 setup ∷ lone_kind 2 new ∷ others) k n ≡ with_at 2 0 (Some new) (part_in (lone_kind 1 setup ∷ lone_kind 2 old ∷ others)) k n
present_set setup old new others k n = part_set (lone_kind 1 setup ∷ []) others 2 0 (lone old) (lone new) (Some new) k n refl (lone_set old new n)

-- What holds of a tracker in the making, as rows are read one after the other.
use Rattle.std.proofs.Common.{◌≡◌, ◌≢◌, ℕ, ◌+◌, ◌<◌, ◌≤◌, ◌==◌, ◌⊎◌, inl, inr, nat_lt, Bool, true, false, List, [], ◌∷◌, ◌++◌, length, slice_get, set, Option, Some, None, IfSome, refl, sym, ap, ◌∙◌, subst, arith, zero, suc, eqb-true}
use Rattle.std.specs.Prelude.{if◌then◌else◌}
use Rattle.std.specs.List.{All}
use Rattle.std.specs.Option.{option_or}
use Rattle.std.proofs.lemmas.Bool.{cases_lt, cases_Bool}
use Rattle.std.proofs.lemmas.Bool.Decides.{nat_tests}
use Rattle.std.proofs.lemmas.Option.{none-some, same_Some}
use Rattle.rising_numbers.specs.ByNumber.{by_number, put_by_number}
use Rattle.rising_numbers.proofs.ByNumber.{by_put}
use Rattle.field_values.specs.Years.{last_second}
use Rattle.tracker_limits.specs.Limits.{most_sprints}
use Rattle.change_history.specs.declared.entry.Entry.{Entry}
use Rattle.change_history.specs.History.{History}
use Rattle.board.specs.declared.board.Board.{Board}
use Rattle.tracker_ranks.specs.Ranked.{IsRanked}
use Rattle.tracker_keeper.specs.declared.row.Row.{Row}
use Rattle.tracker_keeper.specs.declared.part.Format.{Format}
use Rattle.tracker_keeper.specs.declared.part.Format.TheVariants.{First, Second}
use Rattle.tracker_machine.specs.Machine.{Machine}
use Rattle.tracker_machine.specs.Chronicle.{HasEntry}
use Rattle.tracker_machine.specs.Effect.{longer}
use Rattle.tracker_machine.specs.Saved.{board_number, AreSaved}
use Rattle.tracker_machine.specs.SprintRules.{IsSprint}
use Rattle.tracker_machine.specs.Tracker.{AreExternals}
use Rattle.tracker_rows.specs.Listed.{changes_in}
use Rattle.tracker_rows.specs.Gathered.{rank_due, members_due, due}
use Rattle.tracker_rows.specs.Gathered.Gathered.{Stands}
use Rattle.tracker_rows.proofs.Issues.{HasIssues}

-- ---- places

-- the place of that kind and number isn't behind this one
abbrev pub IsUpTo : ℕ → ℕ → ℕ → ℕ → Type 0
IsUpTo kind number k n = (kind < k) ⊎ ((kind ≡ k) × (number ≤ n))

-- it is before this one
abbrev pub IsBefore : ℕ → ℕ → ℕ → ℕ → Type 0
IsBefore kind number k n = (kind < k) ⊎ ((kind ≡ k) × (number < n))

pub up_to_later : (kind number k n k' n' : ℕ) → IsUpTo kind number k n → IsBefore k n k' n' → IsUpTo kind number k' n'
up_to_later kind number k n k' n' (inl less) (inl more) = inl (omega (arith, less, more))
up_to_later kind number k n k' n' (inl less) (inr same) = inl (omega (arith, less, same.0))
up_to_later kind number k n k' n' (inr is) (inl more) = inl (omega (arith, is.0, more))
up_to_later kind number k n k' n' (inr is) (inr same) = inr (omega (arith, is.0, same.0), omega (arith, is.1, same.1))

-- of one kind, the number is less
pub less_of_kind : (kind number k n n' : ℕ) → IsUpTo kind number k n → IsBefore k n kind n' → number < n'
less_of_kind kind number k n n' (inl less) (inl more) = absurd (omega (arith, less, more))
less_of_kind kind number k n n' (inl less) (inr same) = absurd (omega (arith, less, same.0))
less_of_kind kind number k n n' (inr is) (inl more) = absurd (omega (arith, is.0, more))
less_of_kind kind number k n n' (inr is) (inr same) = omega (arith, is.1, same.1)

-- ---- what holds

-- of what is read of these rows, which are of this format, up to this kind and number: so many changes are among them, and so many
-- groups have told their members
pub record IsInMaking (rows : List Row) (format : Format) (told : ℕ) (m : Machine) (changes kind number : ℕ) : Type 0 where
  pub counted : m.change ≤ changes_in rows
  pub timely : m.moment ≤ last_second
  pub issues : HasIssues rows m m.histories changes
  pub ranked : IsRanked m.order m.balance
  pub few_ranks : length m.order ≤ length m.histories
  pub last_rank : 0 < length m.order → IsUpTo 5 (length m.order) kind number
  pub groups : (place : ℕ) (h : History) (n a : ℕ) → slice_get m.histories place ≡ Some h → HasEntry h.entries n a → IsUpTo 4 n kind number
  pub externals : AreExternals (length m.histories) m.externals
  pub last_external : All (λ e. IsUpTo 6 e.no.0 kind number) m.externals
  pub few_sprints : length m.sprints ≤ most_sprints
  pub sprints : All (IsSprint m.moment m.change) m.sprints
  pub saved : AreSaved m.setup m.filters m.boards
  pub boards : (n : ℕ) → by_number board_number n m.boards ≢ None → IsUpTo 9 n kind number
  pub few_told : told ≤ length m.setup.group
  pub last_told : 0 < told → IsUpTo 10 told kind number
  pub first : format ≡ First → told ≡ 0

-- ---- a rank

-- it is that of the next issue
pub next_rank : (format : Format) (told : ℕ) (m : Machine) (issue kind number : ℕ) → 1 ≤ issue → issue ≤ length m.histories
    → (0 < length m.order → IsUpTo 5 (length m.order) kind number) → IsBefore kind number 5 issue
    → IfSome (due (Stands format told m)) (λ wanted. ¬ IsBefore wanted.0 wanted.1 5 issue) → issue ≡ length m.order + 1
next_rank format told m issue kind number positive there last ahead timely =
    by (cases_lt (length m.order) (length m.histories)) (cases_lt 0 (length m.order)) (cases_lt (length m.order + 1) issue)
  where
    behind : (0 < length m.order) ⊎ (length m.order ≤ 0) → length m.order < issue
    behind (inl some) = less_of_kind 5 (length m.order) kind number issue (last some) ahead
    behind (inr none) = omega (arith, none, positive)

    not_ahead : length m.order < length m.histories → length m.order + 1 < issue → ⊥
    not_ahead less more =
        let is : nat_lt (length m.order) (length m.histories) ≡ true = grind (arith, nat_tests, less) in
        let late : ¬ IsBefore 5 (length m.order + 1) 5 issue =
        subst (λ b. IfSome (option_or (rank_due b (length m.order)) (members_due format told m.setup.group)) (λ wanted. ¬ IsBefore wanted.0 wanted.1 5 issue)) is timely in
        late (inr (refl, more))

    by : (length m.order < length m.histories) ⊎ (length m.histories ≤ length m.order) → (0 < length m.order) ⊎ (length m.order ≤ 0)
        → (length m.order + 1 < issue) ⊎ (issue ≤ length m.order + 1) → issue ≡ length m.order + 1
    by (inl less) some (inl more) = absurd (not_ahead less more)
    by (inl less) some (inr le) = let above = behind some in omega (arith, above, le)
    by (inr none) some more = let above = behind some in absurd (omega (arith, above, there, none))

-- ---- the members of a group

-- those of the next group, where one is left
abbrev pub next_due : ℕ → Bool → Option (ℕ × ℕ)
next_due told left = if left then Some (10, told + 1) else None

-- it is the next group
pub next_members : (told : ℕ) (m : Machine) (group kind number : ℕ) → 1 ≤ group → group ≤ length m.setup.group
    → (0 < told → IsUpTo 10 told kind number) → IsBefore kind number 10 group
    → IfSome (due (Stands Second told m)) (λ wanted. ¬ IsBefore wanted.0 wanted.1 10 group) → group ≡ told + 1
next_members told m group kind number positive there last ahead timely =
    by (cases_lt (length m.order) (length m.histories)) (cases_lt told (length m.setup.group)) (cases_lt 0 told) (cases_lt (told + 1) group)
  where
    behind : (0 < told) ⊎ (told ≤ 0) → told < group
    behind (inl some) = less_of_kind 10 told kind number group (last some) ahead
    behind (inr none) = omega (arith, none, positive)

    by : (length m.order < length m.histories) ⊎ (length m.histories ≤ length m.order) → (told < length m.setup.group) ⊎ (length m.setup.group ≤ told)
        → (0 < told) ⊎ (told ≤ 0) → (told + 1 < group) ⊎ (group ≤ told + 1) → group ≡ told + 1
    by ranks (inr all) some more = let above = behind some in absurd (omega (arith, above, there, all))
    by ranks (inl left) some (inr le) = let above = behind some in omega (arith, above, le)
    by (inl less) (inl left) some (inl more) =
        let is : nat_lt (length m.order) (length m.histories) ≡ true = grind (arith, nat_tests, less) in
        let late : ¬ IsBefore 5 (length m.order + 1) 10 group =
        subst (λ b. IfSome (option_or (rank_due b (length m.order)) (members_due Second told m.setup.group)) (λ wanted. ¬ IsBefore wanted.0 wanted.1 10 group)) is timely in
        absurd (late (inl (omega arith)))
    by (inr whole) (inl left) some (inl more) =
        let is : nat_lt (length m.order) (length m.histories) ≡ false = grind (arith, nat_tests, whole) in
        let fewer : nat_lt told (length m.setup.group) ≡ true = grind (arith, nat_tests, left) in
        let wanted : IfSome (members_due Second told m.setup.group) (λ wanted. ¬ IsBefore wanted.0 wanted.1 10 group) =
        subst (λ b. IfSome (option_or (rank_due b (length m.order)) (members_due Second told m.setup.group)) (λ wanted. ¬ IsBefore wanted.0 wanted.1 10 group)) is timely in
        let late : ¬ IsBefore 10 (told + 1) 10 group =
        subst (λ b. IfSome (next_due told b) (λ wanted. ¬ IsBefore wanted.0 wanted.1 10 group)) fewer wanted in
        absurd (late (inr (refl, more)))

-- ---- groups

pub groups_pushed : (hs : List History) (new : History) (kind number : ℕ) → new.entries ≡ []
    → ((place : ℕ) (h : History) (n a : ℕ) → slice_get hs place ≡ Some h → HasEntry h.entries n a → IsUpTo 4 n kind number)
    → (place : ℕ) (h : History) (n a : ℕ) → slice_get (hs ++ new ∷ []) place ≡ Some h → HasEntry h.entries n a → IsUpTo 4 n kind number
groups_pushed hs new kind number none groups place h n a at has = elim (pushed hs place at) [
  | inl old ↦ groups place h n a old has
  | inr is ↦ absurd (subst (λ es. HasEntry es n a) (ap (λ (g : History). g.entries) is ∙ none) has)
]
  where
    pushed : (xs : List History) (k : ℕ) → slice_get (xs ++ new ∷ []) k ≡ Some h → (slice_get xs k ≡ Some h) ⊎ (h ≡ new)
    pushed [] zero is = inr (sym (same_Some new h is))
    pushed [] (suc k) is = absurd (none-some h is)
    pushed (x ∷ xs) zero is = inl is
    pushed (x ∷ xs) (suc k) is = pushed xs k is

entry_more : (xs es : List Entry) (n a : ℕ) → HasEntry (xs ++ es) n a → HasEntry xs n a ⊎ HasEntry es n a
entry_more [] es n a has = inr has
entry_more (x ∷ xs) es n a (inl here) = inl (inl here)
entry_more (x ∷ xs) es n a (inr behind) = elim (entry_more xs es n a behind) [ inl old ↦ inl (inr old) | inr new ↦ inr new ]

pub groups_put : (hs : List History) (at : ℕ) (old : History) (es : List Entry) (change kind number : ℕ) → slice_get hs at ≡ Some old
    → ((n a : ℕ) → HasEntry es n a → n ≡ change) → IsUpTo 4 change kind number
    → ((place : ℕ) (h : History) (n a : ℕ) → slice_get hs place ≡ Some h → HasEntry h.entries n a → IsUpTo 4 n kind number)
    → (place : ℕ) (h : History) (n a : ℕ) → slice_get (set hs at (longer old es)) place ≡ Some h → HasEntry h.entries n a → IsUpTo 4 n kind number
groups_put hs at old es change kind number there own here groups place h n a is has = elim (put hs at place is) [
  | inl before ↦ groups place h n a before has
  | inr new ↦ elim (entry_more old.entries es n a (subst (λ (g : History). HasEntry g.entries n a) new has)) [
    | inl was ↦ groups at old n a there was
    | inr now ↦ subst (λ c. IsUpTo 4 c kind number) (sym (own n a now)) here
  ]
]
  where
    put : (xs : List History) (j k : ℕ) → slice_get (set xs j (longer old es)) k ≡ Some h → (slice_get xs k ≡ Some h) ⊎ (h ≡ longer old es)
    put [] j k is = absurd (none-some h is)
    put (x ∷ xs) zero zero is = inr (sym (same_Some (longer old es) h is))
    put (x ∷ xs) zero (suc k) is = inl is
    put (x ∷ xs) (suc j) zero is = inl is
    put (x ∷ xs) (suc j) (suc k) is = put xs j k is

-- ---- boards

pub boards_put : (b : Board) (bs : List Board) (kind number : ℕ) → IsUpTo 9 b.no.0 kind number
    → ((n : ℕ) → by_number board_number n bs ≢ None → IsUpTo 9 n kind number)
    → (n : ℕ) → by_number board_number n (put_by_number board_number b bs) ≢ None → IsUpTo 9 n kind number
boards_put b bs kind number here boards n there = elim (cases_Bool (board_number b == n)) [
  | inl same ↦ subst (λ j. IsUpTo 9 j kind number) (eqb-true (board_number b) n same) here
  | inr other ↦ boards n (λ none. there (by_put board_number n b bs ∙ rw other none))
]

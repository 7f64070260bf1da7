-- What remains of a sprint stays over a number that no change group has.
use Rattle.std.proofs.Common.{◌≡◌, ◌≢◌, ℕ, zero, suc, nat_lt, nat_le, ◌+ℤ◌, Bool, cond, List, [], ◌∷◌, Option, Some, None, slice_get, if◌then◌else◌, refl, sym, ◌∙◌, ap, arith}
use Rattle.std.proofs.lemmas.Bool.{eq-eqb, ne_eqb}
use Rattle.std.proofs.lemmas.Bool.Decides.{nat_tests}
use Rattle.std.proofs.lemmas.Option.{none-some, same_Some}
use Rattle.field_values.specs.declared.numbers.FieldNo.{FieldNo}
use Rattle.field_values.specs.declared.value.Value.{Value}
use Rattle.change_history.specs.declared.entry.Entry.{Entry}
use Rattle.change_history.specs.History.{History, value_after, opening_value}
use Rattle.burndown.specs.declared.share.Share.{Share}
use Rattle.burndown.specs.Share.{counted_before}
use Rattle.burndown.specs.AfterGroup.{up_to, share_then, remaining_then, moment_among, moment_in, this_or, group_numbered}

-- a number that isn't the next lies on the same side of both
lt_next : (n c : ℕ) → c ≢ suc n → nat_lt (suc n) c ≡ nat_lt n c
lt_next n c ne = grind (arith, nat_tests, ne)

le_next : (n c : ℕ) → c ≢ suc n → nat_le c (suc n) ≡ nat_le c n
le_next n c ne = grind (arith, nat_tests, ne)

-- entries of no group n have other numbers
other_number : (e : Entry) (es : List Entry) (n : ℕ) → moment_among (e ∷ es) n ≡ None → e.change ≢ n
other_number e es n none is = none-some e.at (sym none ∙ ap (λ (t : Bool). if t then Some e.at else moment_among es n) (eq-eqb e.change n is))

none_behind : (e : Entry) (es : List Entry) (n : ℕ) → moment_among (e ∷ es) n ≡ None → moment_among es n ≡ None
none_behind e es n none = sym (ap (λ (t : Bool). if t then Some e.at else moment_among es n) (ne_eqb e.change n (other_number e es n none))) ∙ none

up_to_next : (n : ℕ) (es : List Entry) → moment_among es (suc n) ≡ None → up_to (suc n) es ≡ up_to n es
up_to_next n [] none = refl
up_to_next n (e ∷ es) none =
    ap (λ (t : Bool). cond t (e ∷ up_to (suc n) es) (up_to (suc n) es)) (le_next n e.change (other_number e es (suc n) none))
    ∙ ap (λ rest. cond (nat_le e.change n) (e ∷ rest) rest) (up_to_next n es (none_behind e es (suc n) none))

-- an issue without the group wasn't made by it, and has no entry of it
not_made : (h : History) (n : ℕ) → moment_in h n ≡ None → h.change ≢ n
not_made h n none is = none-some h.at (sym none ∙ ap (λ (t : Bool). if t then Some h.at else moment_among h.entries n) (eq-eqb h.change n is))

no_entry : (h : History) (n : ℕ) → moment_in h n ≡ None → moment_among h.entries n ≡ None
no_entry h n none = sym (ap (λ (t : Bool). if t then Some h.at else moment_among h.entries n) (ne_eqb h.change n (not_made h n none))) ∙ none

-- where no group has a number, no issue has the group
pub nobodys : (hs : List History) (n : ℕ) → group_numbered hs n ≡ None → (j : ℕ) (o : History) → slice_get hs j ≡ Some o → moment_in o n ≡ None
nobodys [] n none j o there = absurd (none-some o there)
nobodys (h ∷ hs) n none j o there = by (moment_in h n) refl (nobodys hs n) j there
  where
    by : (m : Option ℕ) → moment_in h n ≡ m → (group_numbered hs n ≡ None → (k : ℕ) (x : History) → slice_get hs k ≡ Some x → moment_in x n ≡ None) → (k : ℕ) → slice_get (h ∷ hs) k ≡ Some o → moment_in o n ≡ None
    by (Some at) is rest k found = absurd (none-some (at, h.no) (sym none ∙ ap (λ m. this_or m h.no (group_numbered hs n)) is))
    by None is rest zero found = ap (λ y. moment_in y n) (sym (same_Some h o found)) ∙ is
    by None is rest (suc k) found = rest (sym (ap (λ m. this_or m h.no (group_numbered hs n)) is) ∙ none) k o found

module _ (reading : (FieldNo → Value) → Share) where
  -- and its share stays
  share_stays : (h : History) (n : ℕ) → moment_in h (suc n) ≡ None → share_then reading h (suc n) ≡ share_then reading h n
  share_stays h n none =
      ap (λ (t : Bool). if t then None else Some (reading (λ f. value_by (up_to (suc n) h.entries) f))) (lt_next n h.change (not_made h (suc n) none))
      ∙ ap (λ es. if nat_lt n h.change then None else Some (reading (λ f. value_by es f))) (up_to_next n h.entries (no_entry h (suc n) none))
    where
      value_by : List Entry → FieldNo → Value
      value_by es f = value_after (opening_value h.opening f) es f

  -- what remains stays where no issue has the group
  pub remaining_stays : (hs : List History) (s n : ℕ) → ((j : ℕ) (o : History) → slice_get hs j ≡ Some o → moment_in o (suc n) ≡ None) → remaining_then reading hs s (suc n) ≡ remaining_then reading hs s n
  remaining_stays [] s n none = refl
  remaining_stays (h ∷ hs) s n none =
      let own = share_stays h n (none 0 h refl) in
      let rest = remaining_stays hs s n (λ j o is. none (suc j) o is) in
      ap (λ share. counted_before s share +ℤ remaining_then reading hs s (suc n)) own ∙ ap (λ x. counted_before s (share_then reading h n) +ℤ x) rest

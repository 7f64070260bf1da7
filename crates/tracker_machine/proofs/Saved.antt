-- What holds of saved filters and boards holds after each change.
use Rattle.std.proofs.Common.{◌≡◌, ◌≢◌, ℕ, ◌+◌, ◌≤◌, ◌==◌, Bool, true, false, not, List, [], ◌∷◌, nat_lt, filter, Option, Some, None, bytes_eq, refl, sym, ap, ◌∙◌, subst, arith, eq-eqb}
use Rattle.std.specs.Prelude.{if◌then◌else◌, IfSome}
use Rattle.std.specs.List.{All}
use Rattle.std.proofs.lemmas.Bool.{eqb-true, and_parts, and_from, false≢true, true≢false}
use Rattle.std.proofs.lemmas.Bool.Decides.{nat_tests}
use Rattle.std.proofs.lemmas.List.Elements.{All-nil, All-cons, All-head, All-tail}
use Rattle.std.proofs.lemmas.Option.{none-some, same_Some}
use Rattle.std.proofs.lemmas.Slice.Eq.{bytes_eq-Decides}
use Rattle.rising_numbers.specs.ByNumber.{RiseFrom, by_number, put_by_number, without_number}
use Rattle.rising_numbers.proofs.ByNumber.{by_put, without_other, rise_put, rise_without}
use Rattle.rising_numbers.proofs.Placed.{found_at}
use Rattle.rising_numbers.proofs.Lengths.{length_put_most, length_put_free, length_without}
use Rattle.rising_numbers.proofs.Kept.{rise_filter, length_filter}
use Rattle.field_values.specs.declared.numbers.BoardNo.{BoardNo}
use Rattle.field_values.specs.declared.numbers.FilterNo.{FilterNo}
use Rattle.field_values.specs.declared.numbers.UserNo.{UserNo}
use Rattle.field_values.specs.Parts.{Parts}
use Rattle.tracker_limits.specs.Limits.{most_filters}
use Rattle.board.specs.declared.board.Board.{Board}
use Rattle.tracker_machine.specs.Saved.{SavedFilter, filter_number, board_number, is_named, filter_named, HaveOwnNames, is_board_of, without_boards_of, IsFilter, IsBoard, AreSaved, MaySave, MayMake}

-- ---- what holds of all things by number

module _ {X : Type 0} (number : X → ℕ) (P : X → Type 0) where
  pub all_put : (new : X) (xs : List X) → P new → All P xs → All P (put_by_number number new xs)
  all_put new [] holds all = All-cons P new [] holds (All-nil P)
  all_put new (x ∷ xs) holds all = by (nat_lt (number new) (number x)) (number x == number new) (all_put new xs holds (All-tail P x xs all))
    where
      by : (a b : Bool) → All P (put_by_number number new xs) → All P (if a then new ∷ x ∷ xs else if b then new ∷ xs else x ∷ put_by_number number new xs)
      by true b rest = All-cons P new (x ∷ xs) holds all
      by false true rest = All-cons P new xs holds (All-tail P x xs all)
      by false false rest = All-cons P x (put_by_number number new xs) (All-head P x xs all) rest

  pub all_without : (n : ℕ) (xs : List X) → All P xs → All P (without_number number n xs)
  all_without n [] all = all
  all_without n (x ∷ xs) all = by (number x == n) (all_without n xs (All-tail P x xs all))
    where
      by : (b : Bool) → All P (without_number number n xs) → All P (if b then xs else x ∷ without_number number n xs)
      by true rest = All-tail P x xs all
      by false rest = All-cons P x (without_number number n xs) (All-head P x xs all) rest

  -- it holds of what is found
  pub all_found : (n : ℕ) (x : X) (xs : List X) → by_number number n xs ≡ Some x → All P xs → P x
  all_found n x [] is all = absurd (none-some x is)
  all_found n x (y ∷ ys) is all = by (number y == n) is (λ found. all_found n x ys found (All-tail P y ys all))
    where
      by : (b : Bool) → (if b then Some y else by_number number n ys) ≡ Some x → (by_number number n ys ≡ Some x → P x) → P x
      by true same rest = subst P (same_Some y x same) (All-head P y ys all)
      by false same rest = rest same

-- what is found has the number
pub found_number : {X : Type 0} (number : X → ℕ) (n : ℕ) (x : X) (xs : List X) → by_number number n xs ≡ Some x → number x ≡ n
found_number number n x xs is = (found_at number n x xs is).2

-- so has what is there
pub found_there : {X : Type 0} (number : X → ℕ) (n : ℕ) (xs : List X) → by_number number n xs ≢ None → (x : X) × (number x ≡ n) × (by_number number n xs ≡ Some x)
found_there {X = X} number n xs there = by (by_number number n xs) refl
  where
    by : (o : Option X) → by_number number n xs ≡ o → (x : X) × (number x ≡ n) × (by_number number n xs ≡ Some x)
    by None is = absurd (there is)
    by (Some x) is = (x, found_number number n x xs is, is)

module _ {X : Type 0} (P Q : X → Type 0) where
  pub all_then : (xs : List X) → ((x : X) → P x → Q x) → All P xs → All Q xs
  all_then [] so all = All-nil Q
  all_then (x ∷ xs) so all = All-cons Q x xs (so x (All-head P x xs all)) (all_then xs so (All-tail P x xs all))

  pub all_filter : (test : X → Bool) (xs : List X) → ((x : X) → test x ≡ true → P x → Q x) → All P xs → All Q (filter test xs)
  all_filter test [] so all = All-nil Q
  all_filter test (x ∷ xs) so all = by (test x) refl (all_filter test xs so (All-tail P x xs all))
    where
      by : (b : Bool) → test x ≡ b → All Q (filter test xs) → All Q (if b then x ∷ filter test xs else filter test xs)
      by true passes rest = All-cons Q x (filter test xs) (so x passes (All-head P x xs all)) rest
      by false fails rest = rest

-- ---- names

-- a filter of one user and one name stands for the other one
named_alike : (one other : SavedFilter) (fs : List SavedFilter) → is_named one.owner one.name other ≡ true
    → filter_named other.owner other.name fs ≡ filter_named one.owner one.name fs
named_alike one other fs same =
    let parts = and_parts (other.owner.0 == one.owner.0) (bytes_eq other.name one.name) same in
    let owner : other.owner.0 ≡ one.owner.0 = eqb-true other.owner.0 one.owner.0 parts.0 in
    let name : other.name ≡ one.name = (bytes_eq-Decides other.name one.name).0 parts.1 in
    ap (λ (n : ℕ). filter_named (record { 0 = n }) other.name fs) owner ∙ ap (λ (n : List ℕ). filter_named one.owner n fs) name

named_back : (one other : SavedFilter) → is_named one.owner one.name other ≡ true → is_named other.owner other.name one ≡ true
named_back one other same =
    let parts = and_parts (other.owner.0 == one.owner.0) (bytes_eq other.name one.name) same in
    and_from (one.owner.0 == other.owner.0) (bytes_eq one.name other.name)
    (eq-eqb one.owner.0 other.owner.0 (sym (eqb-true other.owner.0 one.owner.0 parts.0)))
    ((bytes_eq-Decides one.name other.name).1 (sym ((bytes_eq-Decides other.name one.name).0 parts.1)))

-- what isn't there by its name doesn't come with a filter of another one
none_named_put : (owner : UserNo) (name : List ℕ) (new : SavedFilter) (fs : List SavedFilter) → is_named owner name new ≡ false
    → filter_named owner name fs ≡ None → filter_named owner name (put_by_number filter_number new fs) ≡ None
none_named_put owner name new [] apart none = rw apart refl
none_named_put owner name new (f ∷ fs) apart none =
    by (is_named owner name f) refl none (nat_lt new.no.0 f.no.0) (f.no.0 == new.no.0) (none_named_put owner name new fs apart)
  where
    by : (c : Bool) → is_named owner name f ≡ c → (if c then Some f else filter_named owner name fs) ≡ None → (a b : Bool)
        → (filter_named owner name fs ≡ None → filter_named owner name (put_by_number filter_number new fs) ≡ None)
        → filter_named owner name (if a then new ∷ f ∷ fs else if b then new ∷ fs else f ∷ put_by_number filter_number new fs) ≡ None
    by true is same a b rest = absurd (none-some f (sym same))
    by false is same true b rest = rw (apart, is) same
    by false is same false true rest = rw apart same
    by false is same false false rest = rw is (rest same)

none_named_without : (owner : UserNo) (name : List ℕ) (n : ℕ) (fs : List SavedFilter) → filter_named owner name fs ≡ None
    → filter_named owner name (without_number filter_number n fs) ≡ None
none_named_without owner name n [] none = refl
none_named_without owner name n (f ∷ fs) none = by (is_named owner name f) refl none (f.no.0 == n) (none_named_without owner name n fs)
  where
    by : (c : Bool) → is_named owner name f ≡ c → (if c then Some f else filter_named owner name fs) ≡ None → (b : Bool)
        → (filter_named owner name fs ≡ None → filter_named owner name (without_number filter_number n fs) ≡ None)
        → filter_named owner name (if b then fs else f ∷ without_number filter_number n fs) ≡ None
    by true is same b rest = absurd (none-some f (sym same))
    by false is same true rest = same
    by false is same false rest = rw is (rest same)

-- the number of what is found is not less than the least
named_above : (owner : UserNo) (name : List ℕ) (least : ℕ) (g : SavedFilter) (fs : List SavedFilter) → RiseFrom filter_number least fs
    → filter_named owner name fs ≡ Some g → least ≤ g.no.0
named_above owner name least g [] rise is = absurd (none-some g is)
named_above owner name least g (f ∷ fs) rise is = by (is_named owner name f) is (named_above owner name (f.no.0 + 1) g fs rise.1)
  where
    by : (b : Bool) → (if b then Some f else filter_named owner name fs) ≡ Some g → (filter_named owner name fs ≡ Some g → f.no.0 + 1 ≤ g.no.0) → least ≤ g.no.0
    by true same rest = omega (arith, rise.0, ap filter_number (same_Some f g same))
    by false same rest = omega (arith, rise.0, rest same)

-- no filter of another number has this one's name
abbrev IsAlone : SavedFilter → List SavedFilter → Type 0
IsAlone new fs = (g : SavedFilter) → filter_named new.owner new.name fs ≡ Some g → g.no.0 ≡ new.no.0

none_above : (new : SavedFilter) (fs : List SavedFilter) → RiseFrom filter_number (new.no.0 + 1) fs → IsAlone new fs → filter_named new.owner new.name fs ≡ None
none_above new fs rise alone = by (filter_named new.owner new.name fs) refl
  where
    by : (o : Option SavedFilter) → filter_named new.owner new.name fs ≡ o → filter_named new.owner new.name fs ≡ None
    by None is = is
    by (Some g) is = let more = named_above new.owner new.name (new.no.0 + 1) g fs rise is in absurd (omega (arith, more, alone g is))

alone_behind : (new f : SavedFilter) (fs : List SavedFilter) → is_named new.owner new.name f ≡ false → IsAlone new (f ∷ fs) → IsAlone new fs
alone_behind new f fs apart alone g is = alone g (rw apart is)

-- the one of its number may have its name, and none behind has it
none_behind : (new f : SavedFilter) (fs : List SavedFilter) → f.no.0 ≡ new.no.0 → RiseFrom filter_number (f.no.0 + 1) fs
    → filter_named f.owner f.name fs ≡ None → IsAlone new (f ∷ fs) → filter_named new.owner new.name fs ≡ None
none_behind new f fs number rise own alone = by (is_named new.owner new.name f) refl
  where
    by : (b : Bool) → is_named new.owner new.name f ≡ b → filter_named new.owner new.name fs ≡ None
    by true is = sym (named_alike new f fs is) ∙ own
    by false is = none_above new fs (subst (λ n. RiseFrom filter_number (n + 1) fs) number rise) (alone_behind new f fs is alone)

named_apart : (new f : SavedFilter) (fs : List SavedFilter) → (f.no.0 ≡ new.no.0 → ⊥) → IsAlone new (f ∷ fs)
    → (is_named new.owner new.name f ≡ false) × (is_named f.owner f.name new ≡ false)
named_apart new f fs other alone = (by (is_named new.owner new.name f) refl, back (is_named f.owner f.name new) refl)
  where
    by : (b : Bool) → is_named new.owner new.name f ≡ b → b ≡ false
    by true is = let found : filter_named new.owner new.name (f ∷ fs) ≡ Some f = rw is refl in absurd (other (alone f found))
    by false is = refl

    back : (b : Bool) → is_named f.owner f.name new ≡ b → b ≡ false
    back true is = absurd (true≢false (sym (named_back f new is) ∙ by (is_named new.owner new.name f) refl))
    back false is = refl

own_names_put : (least : ℕ) (new : SavedFilter) (fs : List SavedFilter) → RiseFrom filter_number least fs → IsAlone new fs → HaveOwnNames fs
    → HaveOwnNames (put_by_number filter_number new fs)
own_names_put least new [] rise alone own = (refl, tt)
own_names_put least new (f ∷ fs) rise alone own =
    by (λ behind. own_names_put (f.no.0 + 1) new fs rise.1 behind own.1) (nat_lt new.no.0 f.no.0) (f.no.0 == new.no.0) refl refl
  where
    by : (IsAlone new fs → HaveOwnNames (put_by_number filter_number new fs)) → (a b : Bool) → nat_lt new.no.0 f.no.0 ≡ a → (f.no.0 == new.no.0) ≡ b
        → HaveOwnNames (if a then new ∷ f ∷ fs else if b then new ∷ fs else f ∷ put_by_number filter_number new fs)
    by rest true b is_a is_b = (none_above new (f ∷ fs) (grind (arith, nat_tests, is_a), rise.1) alone, own)
    by rest false true is_a is_b = (none_behind new f fs (eqb-true f.no.0 new.no.0 is_b) rise.1 own.0 alone, own.1)
    by rest false false is_a is_b =
        let other : f.no.0 ≡ new.no.0 → ⊥ = λ e. true≢false (sym (eq-eqb f.no.0 new.no.0 e) ∙ is_b) in
        let apart = named_apart new f fs other alone in
        (none_named_put f.owner f.name new fs apart.1 own.0, rest (alone_behind new f fs apart.0 alone))

own_names_without : (n : ℕ) (fs : List SavedFilter) → HaveOwnNames fs → HaveOwnNames (without_number filter_number n fs)
own_names_without n [] own = own
own_names_without n (f ∷ fs) own = by (f.no.0 == n) (own_names_without n fs own.1)
  where
    by : (b : Bool) → HaveOwnNames (without_number filter_number n fs) → HaveOwnNames (if b then fs else f ∷ without_number filter_number n fs)
    by true rest = own.1
    by false rest = (none_named_without f.owner f.name n fs own.0, rest)

-- ---- the filters of boards

there_put : (new : SavedFilter) (fs : List SavedFilter) (n : ℕ) → by_number filter_number n fs ≢ None → by_number filter_number n (put_by_number filter_number new fs) ≢ None
there_put new fs n there none = by (new.no.0 == n) (sym (by_put filter_number n new fs) ∙ none)
  where
    by : (b : Bool) → (if b then Some new else by_number filter_number n fs) ≡ None → ⊥
    by true same = none-some new (sym same)
    by false same = there same

other_filter : (filter_no : FilterNo) (b : Board) → not (is_board_of filter_no b) ≡ true → filter_no.0 ≢ b.filter.0
other_filter filter_no b passes same = false≢true (rw (eq-eqb b.filter.0 filter_no.0 (sym same)) at passes)

board_put : (new : SavedFilter) (fs : List SavedFilter) (b : Board) → IsBoard fs b → IsBoard (put_by_number filter_number new fs) b
board_put new fs b is = record { small = is.small; named = is.named; there = there_put new fs b.filter.0 is.there }

board_without : (filter_no : FilterNo) (fs : List SavedFilter) (b : Board) → not (is_board_of filter_no b) ≡ true → IsBoard fs b
    → IsBoard (without_number filter_number filter_no.0 fs) b
board_without filter_no fs b passes is = record {
  small = is.small;
  named = is.named;
  there = λ none. is.there (sym (without_other filter_number filter_no.0 b.filter.0 fs (other_filter filter_no b passes)) ∙ none);
}

-- ---- all filters and boards

pub no_filters : (setup : Parts) → AreSaved setup [] []
no_filters setup = record {
  rising = tt;
  names = tt;
  few = omega arith;
  each = All-nil (IsFilter setup);
  rising_boards = tt;
  few_boards = omega arith;
  each_board = All-nil (IsBoard []);
}

module _ (setup : Parts) (fs : List SavedFilter) (bs : List Board) (is : AreSaved setup fs bs) where
  pub filter_saved : (f : SavedFilter) → MaySave setup fs f → AreSaved setup (put_by_number filter_number f fs) bs
  filter_saved f may = record {
    rising = rise_put filter_number 1 f fs may.positive is.rising;
    names = own_names_put 1 f fs is.rising (λ g found. subst (λ o. IfSome o (λ h. h.no.0 ≡ f.no.0)) found may.alone) is.names;
    few = length_put_most filter_number most_filters f fs is.rising is.few may.few;
    each = all_put filter_number (IsFilter setup) f fs may.filter is.each;
    rising_boards = is.rising_boards;
    few_boards = is.few_boards;
    each_board = all_then (IsBoard fs) (IsBoard (put_by_number filter_number f fs)) bs (board_put f fs) is.each_board;
  }

  pub filter_dropped : (filter_no : FilterNo) → AreSaved setup (without_number filter_number filter_no.0 fs) (without_boards_of filter_no bs)
  filter_dropped filter_no =
      let stays : Board → Bool = λ b. not (is_board_of filter_no b) in
      record {
        rising = rise_without filter_number 1 filter_no.0 fs is.rising;
        names = own_names_without filter_no.0 fs is.names;
        few = let less = length_without filter_number filter_no.0 fs in omega (arith, less, is.few);
        each = all_without filter_number (IsFilter setup) filter_no.0 fs is.each;
        rising_boards = rise_filter board_number stays 1 bs is.rising_boards;
        few_boards = let less = length_filter board_number stays bs in omega (arith, less, is.few_boards);
        each_board = all_filter (IsBoard fs) (IsBoard (without_number filter_number filter_no.0 fs)) stays bs (board_without filter_no fs) is.each_board;
      }

  pub board_made : (b : Board) → MayMake fs bs b → AreSaved setup fs (put_by_number board_number b bs)
  board_made b may = record {
    rising = is.rising;
    names = is.names;
    few = is.few;
    each = is.each;
    rising_boards = rise_put board_number 1 b bs may.positive is.rising_boards;
    few_boards = let more = length_put_free board_number b bs may.free in omega (arith, more, may.few);
    each_board = all_put board_number (IsBoard fs) b bs may.board is.each_board;
  }

  pub board_dropped : (board_no : BoardNo) → AreSaved setup fs (without_number board_number board_no.0 bs)
  board_dropped board_no = record {
    rising = is.rising;
    names = is.names;
    few = is.few;
    each = is.each;
    rising_boards = rise_without board_number 1 board_no.0 bs is.rising_boards;
    few_boards = let less = length_without board_number board_no.0 bs in omega (arith, less, is.few_boards);
    each_board = all_without board_number (IsBoard fs) board_no.0 bs is.each_board;
  }

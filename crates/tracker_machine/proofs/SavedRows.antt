-- The rows of filters and boards, as one comes and as one goes.
use Rattle.std.proofs.Common.{◌≡◌, ℕ, ◌==◌, Bool, true, false, not, List, [], ◌∷◌, ◌++◌, map, filter, Option, Some, None, option_map, refl, sym, ap, ◌∙◌}
use Rattle.std.specs.Prelude.{if◌then◌else◌}
use Rattle.std.specs.Option.{option_map_or}
use mathlib.Core.Path.{fun_ext}
use Rattle.rising_numbers.specs.ByNumber.{RiseFrom, by_number, put_by_number, without_number}
use Rattle.rising_numbers.proofs.ByNumber.{by_put, by_without}
use Rattle.rising_numbers.proofs.Kept.{none_filter, by_filter}
use Rattle.field_values.specs.declared.numbers.FilterNo.{FilterNo}
use Rattle.field_forms.specs.Known.{Names}
use Rattle.board.specs.declared.board.Board.{Board}
use Rattle.tracker_keeper.specs.declared.part.Part.{Part}
use Rattle.tracker_keeper.specs.declared.row.RowOp.TheVariants.{Drop}
use Rattle.tracker_keeper.specs.Rows.{with_ops}
use Rattle.tracker_machine.specs.Saved.{board_number, is_board_of, without_boards_of}
use Rattle.tracker_machine.specs.Kept.{Kind, kind_of, part_in, board_part}
use Rattle.tracker_machine.proofs.Puts.{texts, has_kind, part_set, part_dropped}

-- ---- parts of things by number

module _ {X : Type 0} (number : X → ℕ) (part : X → Part) where
  pub part_put : (new : X) (xs : List X) (n : ℕ)
      → option_map part (by_number number n (put_by_number number new xs)) ≡ (if number new == n then Some (part new) else option_map part (by_number number n xs))
  part_put new xs n = ap (λ (o : Option X). option_map part o) (by_put number n new xs) ∙ by (number new == n)
    where
      by : (b : Bool) → option_map part (if b then Some new else by_number number n xs) ≡ (if b then Some (part new) else option_map part (by_number number n xs))
      by true = refl
      by false = refl

  pub part_without : (least gone : ℕ) (xs : List X) (n : ℕ) → RiseFrom number least xs
      → option_map part (by_number number n (without_number number gone xs)) ≡ (if gone == n then None else option_map part (by_number number n xs))
  part_without least gone xs n rise = ap (λ (o : Option X). option_map part o) (by_without number least gone n xs rise) ∙ by (gone == n)
    where
      by : (b : Bool) → option_map part (if b then None else by_number number n xs) ≡ (if b then None else option_map part (by_number number n xs))
      by true = refl
      by false = refl

-- ---- the boards of a filter, one by one

-- the parts without those of boards
abbrev pub parts_without : List Board → (ℕ → Option Part) → ℕ → Option Part
parts_without [] parts = parts
parts_without (b ∷ bs) parts = parts_without bs (λ n. if board_number b == n then None else parts n)

-- rows of boards that are dropped leave the parts without them
pub boards_dropped : (names : Names) (before after : List Kind) (bs : List Board) (parts : ℕ → Option Part) → has_kind 9 before ≡ false
    → with_ops (map (λ b. Drop 9 (board_number b)) bs) (texts names (part_in (before ++ kind_of 9 parts ∷ after)))
    ≡ texts names (part_in (before ++ kind_of 9 (parts_without bs parts) ∷ after))
boards_dropped names before after [] parts free = refl
boards_dropped names before after (b ∷ bs) parts free =
    let fewer : ℕ → Option Part = λ n. if board_number b == n then None else parts n in
    ap (with_ops (map (λ d. Drop 9 (board_number d)) bs))
    (part_dropped names 9 (board_number b) (part_in (before ++ kind_of 9 parts ∷ after))
    ∙ ap (texts names) (fun_ext (λ k. fun_ext (λ n. sym (part_set before after 9 (board_number b) parts fewer None k n free refl)))))
    ∙ boards_dropped names before after bs fewer free

abbrev no_part : Board → Option Part
no_part b = None

none_without : (o : Option Board) → option_map_or no_part o None ≡ None
none_without None = refl
none_without (Some b) = refl

-- none is found by the number of one of them
without_found : (bs : List Board) (parts : ℕ → Option Part) (n : ℕ) → parts_without bs parts n ≡ option_map_or no_part (by_number board_number n bs) (parts n)
without_found [] parts n = refl
without_found (b ∷ bs) parts n =
    without_found bs (λ i. if board_number b == i then None else parts i) n ∙ by (board_number b == n)
  where
    by : (there : Bool) → option_map_or no_part (by_number board_number n bs) (if there then None else parts n)
        ≡ option_map_or no_part (if there then Some b else by_number board_number n bs) (parts n)
    by true = none_without (by_number board_number n bs)
    by false = refl

-- the boards of a filter are dropped, and the others are left
pub others_left : (filter_no : FilterNo) (bs : List Board) (n : ℕ) → RiseFrom board_number 1 bs
    → parts_without (filter (is_board_of filter_no) bs) (λ i. option_map board_part (by_number board_number i bs)) n
    ≡ option_map board_part (by_number board_number n (without_boards_of filter_no bs))
others_left filter_no bs n rise =
    without_found (filter (is_board_of filter_no) bs) (λ i. option_map board_part (by_number board_number i bs)) n ∙ by (by_number board_number n bs) refl
  where
    test : Board → Bool
    test b = is_board_of filter_no b

    others : Board → Bool
    others b = not (is_board_of filter_no b)

    left : (b : Board) (is : Bool) → option_map_or no_part (if is then Some b else None) (Some (board_part b)) ≡ option_map board_part (if not is then Some b else None)
    left b true = refl
    left b false = refl

    joined : (x y z u v w : Option Board) → x ≡ u → y ≡ v → z ≡ w → option_map_or no_part u (option_map board_part v) ≡ option_map board_part w
        → option_map_or no_part x (option_map board_part y) ≡ option_map board_part z
    joined x y z u v w x_is y_is z_is same = rw (x_is, y_is, z_is) same

    by : (o : Option Board) → by_number board_number n bs ≡ o
        → option_map_or no_part (by_number board_number n (filter (is_board_of filter_no) bs)) (option_map board_part (by_number board_number n bs))
        ≡ option_map board_part (by_number board_number n (without_boards_of filter_no bs))
    by None is = joined _ _ _ None None None (none_filter board_number (is_board_of filter_no) n bs is) is (none_filter board_number (λ b. not (is_board_of filter_no b)) n bs is) refl
    by (Some b) is =
        joined _ _ _ _ (Some b) _ (by_filter board_number (is_board_of filter_no) 1 n b bs rise is) is
        (by_filter board_number (λ c. not (is_board_of filter_no c)) 1 n b bs rise is) (left b (is_board_of filter_no b))

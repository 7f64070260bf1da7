-- One issue comes in or goes out.
use Rattle.std.proofs.Common.{◌≡◌, ℕ, zero, suc, ◌+◌, ◌<◌, ◌≤◌, Bool, true, false, not, ◌&&◌, List, [], ◌∷◌, ◌++◌, get_or, length, map, set, nat_lt, if◌then◌else◌, refl, sym, ◌∙◌, ap, arith}
use Rattle.std.proofs.lemmas.Bool.Decides.{nat_tests}
use Rattle.field_values.specs.declared.numbers.IssueNo.{IssueNo}
use Rattle.move_feeds.specs.declared.moves.Change.{Change}
use Rattle.list_changes.specs.Differ.{with_at}
use Rattle.move_feeds.specs.Changes.{change, changes, entry, exit, lacking, lacking_from, one_change}
use Rattle.move_feeds.proofs.Lacking.{here, lacking_none}

-- the list with this at a place, by cases
abbrev pub put : ℕ → Bool → List Bool → List Bool
put place is [] = is ∷ []
put zero is (b ∷ bs) = is ∷ bs
put (suc place) is (b ∷ bs) = b ∷ put place is bs

behind_one : (b is : Bool) (bs : List Bool) (place : ℕ) (t : Bool) → (if t then b ∷ set bs place is else b ∷ (bs ++ is ∷ [])) ≡ b ∷ (if t then set bs place is else bs ++ is ∷ [])
behind_one b is bs place true = refl
behind_one b is bs place false = refl

pub with_at_is : (place : ℕ) (is : Bool) (list : List Bool) → place ≤ length list → with_at place is list ≡ put place is list
with_at_is zero is [] le = refl
with_at_is (suc place) is [] le = absurd (omega (arith, le))
with_at_is zero is (b ∷ bs) le =
    let test : nat_lt 0 (suc (length bs)) ≡ true = grind (arith, nat_tests) in
    ap (λ t. if t then is ∷ bs else b ∷ (bs ++ is ∷ [])) test
with_at_is (suc place) is (b ∷ bs) le =
    let same : nat_lt (suc place) (suc (length bs)) ≡ nat_lt place (length bs) = grind (arith, nat_tests) in
    ap (λ t. if t then b ∷ set bs place is else b ∷ (bs ++ is ∷ [])) same
    ∙ (behind_one b is bs place (nat_lt place (length bs)) ∙ ap (λ l. b ∷ l) (with_at_is place is bs (omega (arith, le))))

-- goes out where it was in and isn't
pub out_one : (n place : ℕ) (is : Bool) (list : List Bool) → place ≤ length list → lacking_from n list (put place is list) ≡ here (n + place) (get_or list place false && not is)
out_one n zero is [] le = refl
out_one n (suc place) is [] le = absurd (omega (arith, le))
out_one n zero is (b ∷ bs) le = ap (λ l. if b && not is then record { 0 = n } ∷ l else l) (lacking_none (n + 1) bs) ∙ ap (λ m. here m (b && not is)) (omega arith)
out_one n (suc place) is (true ∷ bs) le = out_one (n + 1) place is bs (omega (arith, le)) ∙ ap (λ m. here m (get_or bs place false && not is)) (omega arith)
out_one n (suc place) is (false ∷ bs) le = out_one (n + 1) place is bs (omega (arith, le)) ∙ ap (λ m. here m (get_or bs place false && not is)) (omega arith)

-- comes in where it wasn't and is
pub in_one : (n place : ℕ) (is : Bool) (list : List Bool) → place ≤ length list → lacking_from n (put place is list) list ≡ here (n + place) (is && not (get_or list place false))
in_one n zero is [] le = by is
  where
    by : (b : Bool) → lacking_from n (b ∷ []) [] ≡ here (n + 0) (b && true)
    by true = ap (λ m. record { 0 = m } ∷ []) (omega arith)
    by false = refl
in_one n (suc place) is [] le = absurd (omega (arith, le))
in_one n zero is (b ∷ bs) le = ap (λ l. if is && not b then record { 0 = n } ∷ l else l) (lacking_none (n + 1) bs) ∙ ap (λ m. here m (is && not b)) (omega arith)
in_one n (suc place) is (true ∷ bs) le = in_one (n + 1) place is bs (omega (arith, le)) ∙ ap (λ m. here m (is && not (get_or bs place false))) (omega arith)
in_one n (suc place) is (false ∷ bs) le = in_one (n + 1) place is bs (omega (arith, le)) ∙ ap (λ m. here m (is && not (get_or bs place false))) (omega arith)

-- so a change of one issue at most is put out
one_out : (issue : ℕ) (was is : Bool) → map exit (here issue (was && not is)) ++ map entry (here issue (is && not was)) ≡ one_change issue was is
one_out issue true true = refl
one_out issue true false = refl
one_out issue false true = refl
one_out issue false false = refl

pub changes_one : (place : ℕ) (is : Bool) (list : List Bool) → place ≤ length list → changes list (with_at place is list) ≡ one_change (place + 1) (get_or list place false) is
changes_one place is list le =
    let e : 1 + place ≡ place + 1 = omega arith in
    ap (changes list) (with_at_is place is list le)
    ∙ (ap (λ l. map exit l ++ map entry (lacking (put place is list) list)) (out_one 1 place is list le)
    ∙ (ap (λ l. map exit (here (1 + place) (get_or list place false && not is)) ++ map entry l) (in_one 1 place is list le)
    ∙ (one_out (1 + place) (get_or list place false) is ∙ ap (λ (n : ℕ). one_change n (get_or list place false) is) e)))

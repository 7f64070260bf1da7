-- A head that is read a byte at a time ends where its lines say.
use Rattle.std.proofs.Common.{◌≡◌, ℕ, suc, ◌+◌, ◌<◌, ◌≤◌, ◌==◌, List, [], ◌∷◌, ◌++◌, length, Bool, true, false, get_or, drop, take, Option, Some, None, option_map, if◌then◌else◌, refl, ap, sym, ◌∙◌, arith, drop-cons}
use Rattle.std.proofs.lemmas.List.{drop_all}
use Rattle.request_lines.specs.Lines.{whole_lines, onto_first}
use Rattle.tracker_http.specs.HeadEnd.{with_line, fields_len, lines_len, head_len}
use Rattle.tracker_http.specs.HeadPlaces.{next_place, one_more, len_from}
use Rattle.tracker_http.specs.declared.head_end.HeadPlace.{HeadPlace}
use Rattle.tracker_http.specs.declared.head_end.HeadPlace.TheVariants.{Before, BeforeReturn, Inside, Start, StartReturn}

-- inside a line that isn't empty
abbrev rest_len : List (List ℕ) → Option ℕ
rest_len [] = None
rest_len (line ∷ lines) = with_line line (fields_len lines)

-- after a carriage return at the start of a line
abbrev return_len : List (List ℕ) → Option ℕ
return_len [] = None
return_len ([] ∷ lines) = Some 1
return_len ((x ∷ xs) ∷ lines) = with_line (x ∷ xs) (fields_len lines)

-- the same before the request line
abbrev before_len : List (List ℕ) → Option ℕ
before_len [] = None
before_len ([] ∷ lines) = with_line [] (lines_len lines)
before_len ((x ∷ xs) ∷ lines) = with_line (x ∷ xs) (fields_len lines)

-- what the lines say from a place on
abbrev by_place : HeadPlace → List (List ℕ) → Option ℕ
by_place Before lines = lines_len lines
by_place BeforeReturn lines = before_len lines
by_place Inside lines = rest_len lines
by_place Start lines = fields_len lines
by_place StartReturn lines = return_len lines

-- where a byte leads, by whether it is a line feed or a carriage return
abbrev leads : HeadPlace → Bool → Bool → Option HeadPlace
leads Before feed return = if feed then Some Before else (if return then Some BeforeReturn else Some Inside)
leads BeforeReturn feed return = if feed then Some Before else Some Inside
leads Inside feed return = if feed then Some Start else Some Inside
leads Start feed return = if feed then None else (if return then Some StartReturn else Some Inside)
leads StartReturn feed return = if feed then None else Some Inside

leads_next : (place : HeadPlace) (b : ℕ) → next_place place b ≡ leads place (b == 10) (b == 13)
leads_next Before b = refl
leads_next BeforeReturn b = refl
leads_next Inside b = refl
leads_next Start b = refl
leads_next StartReturn b = refl

longer : (b : ℕ) (line : List ℕ) (more : Option ℕ) → option_map (λ n. 1 + n) (with_line line more) ≡ with_line (b ∷ line) more
longer b line None = refl
longer b line (Some n) = ap Some (omega arith)

step : (place : HeadPlace) (b : ℕ) (feed return : Bool) → (b == 13) ≡ return → (lines : List (List ℕ))
    → one_more (leads place feed return) (λ next. by_place next lines) ≡ by_place place (if feed then [] ∷ lines else onto_first b lines)
step Before b true return e lines = refl
step Before b false true e [] = refl
step Before b false true e ([] ∷ ls) = longer b [] (lines_len ls) ∙ ap (λ t. with_line (b ∷ []) (if t then lines_len ls else fields_len ls)) (sym e)
step Before b false true e ((x ∷ xs) ∷ ls) = longer b (x ∷ xs) (fields_len ls)
step Before b false false e [] = refl
step Before b false false e ([] ∷ ls) = longer b [] (fields_len ls) ∙ ap (λ t. with_line (b ∷ []) (if t then lines_len ls else fields_len ls)) (sym e)
step Before b false false e ((x ∷ xs) ∷ ls) = longer b (x ∷ xs) (fields_len ls)
step BeforeReturn b true return e lines = refl
step BeforeReturn b false return e [] = refl
step BeforeReturn b false return e (l ∷ ls) = longer b l (fields_len ls)
step Inside b true return e lines = refl
step Inside b false return e [] = refl
step Inside b false return e (l ∷ ls) = longer b l (fields_len ls)
step Start b true return e lines = refl
step Start b false true e [] = refl
step Start b false true e ([] ∷ ls) = ap (λ t. with_line (b ∷ []) (if t then Some 0 else fields_len ls)) (sym e)
step Start b false true e ((x ∷ xs) ∷ ls) = longer b (x ∷ xs) (fields_len ls)
step Start b false false e [] = refl
step Start b false false e ([] ∷ ls) = longer b [] (fields_len ls) ∙ ap (λ t. with_line (b ∷ []) (if t then Some 0 else fields_len ls)) (sym e)
step Start b false false e ((x ∷ xs) ∷ ls) = longer b (x ∷ xs) (fields_len ls)
step StartReturn b true return e lines = refl
step StartReturn b false return e [] = refl
step StartReturn b false return e (l ∷ ls) = longer b l (fields_len ls)

one_more_same : (next : Option HeadPlace) (f g : HeadPlace → Option ℕ) → ((place : HeadPlace) → f place ≡ g place) → one_more next f ≡ one_more next g
one_more_same None f g same = refl
one_more_same (Some place) f g same = ap (option_map (λ n. 1 + n)) (same place)

by_lines : (bytes : List ℕ) (place : HeadPlace) → len_from place bytes ≡ by_place place (whole_lines bytes)
by_lines [] Before = refl
by_lines [] BeforeReturn = refl
by_lines [] Inside = refl
by_lines [] Start = refl
by_lines [] StartReturn = refl
by_lines (b ∷ bytes) place =
    one_more_same (next_place place b) (λ next. len_from next bytes) (λ next. by_place next (whole_lines bytes)) (by_lines bytes)
    ∙ ap (λ next. one_more next (λ n. by_place n (whole_lines bytes))) (leads_next place b)
    ∙ step place b (b == 10) (b == 13) refl (whole_lines bytes)

pub len_is : (bytes : List ℕ) → len_from Before bytes ≡ head_len bytes
unfolding head_len
len_is bytes = by_lines bytes Before

-- a byte that ends the head
pub ends_here : (place : HeadPlace) (bytes : List ℕ) (i : ℕ) → i < length bytes → next_place place (get_or bytes i 0) ≡ None
    → option_map (λ n. i + n) (len_from place (drop i bytes)) ≡ len_from Before bytes → Some (i + 1) ≡ head_len bytes
ends_here place bytes i inside ends so_far =
    let here : len_from place (drop i bytes) ≡ Some 1 = ap (len_from place) (drop-cons bytes i 0 inside) ∙ ap (λ p. one_more p (λ next. len_from next (drop (suc i) bytes))) ends in
    ap (option_map (λ n. i + n)) (sym here) ∙ so_far ∙ len_is bytes

-- no byte does
pub never_ends : (place : HeadPlace) (bytes : List ℕ) (i : ℕ) → length bytes ≤ i
    → option_map (λ n. i + n) (len_from place (drop i bytes)) ≡ len_from Before bytes → None ≡ head_len bytes
never_ends place bytes i past so_far =
    ap (λ l. option_map (λ n. i + n) (len_from place l)) (sym (drop_all i bytes past)) ∙ so_far ∙ len_is bytes

some_of : (o : Option ℕ) (n : ℕ) → option_map (λ k. 1 + k) o ≡ Some n → (m : ℕ) × (o ≡ Some m) × (n ≡ suc m)
some_of None n e = cc
some_of (Some k) n e = (k, refl, let same : 1 + k ≡ n = cc in omega arith)

prefix_at : (next : Option HeadPlace) (bytes : List ℕ) (n : ℕ)
    → ((place : HeadPlace) (m : ℕ) → len_from place bytes ≡ Some m → (m ≤ length bytes) × (len_from place (take m bytes) ≡ Some m))
    → one_more next (λ place. len_from place bytes) ≡ Some n
    → (m : ℕ) × (n ≡ suc m) × (m ≤ length bytes) × (one_more next (λ place. len_from place (take m bytes)) ≡ Some n)
prefix_at None bytes n front e = (0, let one : 1 ≡ n = cc in omega arith, omega arith, e)
prefix_at (Some place) bytes n front e =
    let more = some_of (len_from place bytes) n e in
    let found = front place more.0 more.1 in
    (more.0, more.2, found.0, ap (option_map (λ k. 1 + k)) (found.1 ∙ sym more.1) ∙ e)

place_prefix : (bytes : List ℕ) (place : HeadPlace) (n : ℕ) → len_from place bytes ≡ Some n → (n ≤ length bytes) × (len_from place (take n bytes) ≡ Some n)
place_prefix [] place n e = cc
place_prefix (b ∷ bytes) place n e =
    let found = prefix_at (next_place place b) bytes n (place_prefix bytes) e in
    (omega (arith, found.1, found.2), ap (λ k. len_from place (take k (b ∷ bytes))) found.1 ∙ found.3)

-- a head is whole without what follows it
pub head_prefix : (bytes : List ℕ) (n : ℕ) → head_len bytes ≡ Some n → (n ≤ length bytes) × (head_len (take n bytes) ≡ Some n)
head_prefix bytes n e =
    let found = place_prefix bytes Before n (len_is bytes ∙ e) in
    (found.0, sym (len_is (take n bytes)) ∙ found.1)

append_at : (next : Option HeadPlace) (bytes more : List ℕ) (n : ℕ)
    → ((place : HeadPlace) (m : ℕ) → len_from place bytes ≡ Some m → len_from place (bytes ++ more) ≡ Some m)
    → one_more next (λ place. len_from place bytes) ≡ Some n → one_more next (λ place. len_from place (bytes ++ more)) ≡ Some n
append_at None bytes more n later e = e
append_at (Some place) bytes more n later e =
    let found = some_of (len_from place bytes) n e in
    ap (option_map (λ k. 1 + k)) (later place found.0 found.1 ∙ sym found.1) ∙ e

place_append : (bytes more : List ℕ) (place : HeadPlace) (n : ℕ) → len_from place bytes ≡ Some n → len_from place (bytes ++ more) ≡ Some n
place_append [] more place n e = cc
place_append (b ∷ bytes) more place n e = append_at (next_place place b) bytes more n (place_append bytes more) e

-- a whole head stays one where more follows
pub head_append : (bytes more : List ℕ) (n : ℕ) → head_len bytes ≡ Some n → head_len (bytes ++ more) ≡ Some n
head_append bytes more n e = sym (len_is (bytes ++ more)) ∙ place_append bytes more Before n (len_is bytes ∙ e)

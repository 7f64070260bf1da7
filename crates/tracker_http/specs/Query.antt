-- The members that a query text gives.
use Rattle.std.specs.Prelude.{ℕ, List, [], ◌∷◌, map, codes, Result, Ok, Err, Option, Some, None, option_and_then, if◌then◌else◌}
use Rattle.std.specs.Cmp.Lexicographic.{slice_cmp}
use Rattle.std.specs.Ordering.{nat_cmp, is_lt}
use Rattle.std.specs.Str.{bytes_eq}
use Rattle.std.specs.Str.Lossy.{utf8_lossy}
use Rattle.form_urlencoded.specs.Form.{decode, raw_pairs}
use Rattle.call_lines.specs.Asked.{is_among}
use Rattle.tracker_calls.specs.declared.call.Part.{Part}
use Rattle.tracker_http.specs.Numbers.{number_within}
use Rattle.tracker_http.specs.declared.query.Pair.{Pair}

-- the text that a name or a value stands for; what is no UTF-8 in it is replaced
abbrev pub text_of : List ℕ → List ℕ
text_of bytes = utf8_lossy (decode bytes)

abbrev pub pair_of : List ℕ × List ℕ → Pair
pair_of pair = record { name = text_of pair.0; value = text_of pair.1 }

-- the pairs of a query text, in order
abbrev pub pairs_of : List ℕ → List Pair
pairs_of query = map pair_of (raw_pairs query)

-- ---- the members, each by its name

-- the values that stand with a name
abbrev pub values_of : List ℕ → List Pair → List (List ℕ)
values_of name [] = []
values_of name (pair ∷ pairs) =
    if bytes_eq pair.name name then pair.value ∷ values_of name pairs else values_of name pairs

-- the value of a member that may be absent; one that stands more than once is of the wrong kind
abbrev pub once : List (List ℕ) → Option (Option (List ℕ))
once [] = Some None
once (value ∷ []) = Some (Some value)
once (value ∷ other ∷ more) = None

abbrev pub text_in : List ℕ → List Pair → Option (List ℕ)
text_in name pairs = option_and_then (λ value. value) (once (values_of name pairs))

-- a number between bounds of a member that may be absent, and then is that number
abbrev pub number_or : ℕ → ℕ → ℕ → Option (List ℕ) → Option ℕ
number_or absent least most None = Some absent
number_or absent least most (Some value) = number_within least most value

-- how many of the list are passed over: none, where the member isn't there
abbrev pub from_in : List Pair → Option ℕ
from_in pairs = option_and_then (number_or 0 0 2_000_000) (once (values_of (codes "from") pairs))

-- how many are told at most: as many as may be, where the member isn't there
abbrev pub count_in : ℕ → List Pair → Option ℕ
count_in most pairs =
    option_and_then (number_or most 1 most) (once (values_of (codes "count") pairs))

-- ---- the members that aren't the call's

-- the names that are none of these
abbrev pub others : List (List ℕ) → List Pair → List (List ℕ)
others known [] = []
others known (pair ∷ pairs) =
    if is_among pair.name known then others known pairs else pair.name ∷ others known pairs

abbrev pub lesser : Option (List ℕ) → List ℕ → List ℕ
lesser None name = name
lesser (Some least) name = if is_lt (slice_cmp nat_cmp name least) then name else least

-- the first in byte order of some names and of the one before them, where there is one
abbrev pub first_of : Option (List ℕ) → List (List ℕ) → Option (List ℕ)
first_of least [] = least
first_of least (name ∷ names) = first_of (Some (lesser least name)) names

-- the first name in byte order that is none of these
abbrev pub first_unknown : List (List ℕ) → List Pair → Option (List ℕ)
first_unknown known pairs = first_of None (others known pairs)

-- ---- a part of a list

abbrev pub unless_other : Option (List ℕ) → Part → Result Part (List ℕ)
unless_other None part = Ok part
unless_other (Some name) part = Err name

abbrev pub counted_from : Option ℕ → Option (List ℕ) → ℕ → Result Part (List ℕ)
counted_from None other from = Err (codes "count")
counted_from (Some count) other from = unless_other other (record { from = from; count = count })

abbrev pub part_by : Option ℕ → Option ℕ → Option (List ℕ) → Result Part (List ℕ)
part_by None count other = Err (codes "from")
part_by (Some from) count other = counted_from count other from

-- the part of a list, of so many at most, that a query text asks for, which has none but these members; or the first member that is
-- at fault
abbrev pub part_in : ℕ → List (List ℕ) → List Pair → Result Part (List ℕ)
part_in most known pairs = part_by (from_in pairs) (count_in most pairs) (first_unknown known pairs)

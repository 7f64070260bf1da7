-- A head that is read a byte at a time.
use Rattle.std.specs.Prelude.{ℕ, ◌==◌, List, [], ◌∷◌, ◌+◌, Option, Some, None, option_map, if◌then◌else◌}
use Rattle.tracker_http.specs.declared.head_end.HeadPlace.{HeadPlace}
use Rattle.tracker_http.specs.declared.head_end.HeadPlace.TheVariants.{Before, BeforeReturn, Inside, Start, StartReturn}

-- where a byte leads, or None where it ends the head
abbrev pub next_place : HeadPlace → ℕ → Option HeadPlace
next_place Before byte =
    if byte == 10 then Some Before else (if byte == 13 then Some BeforeReturn else Some Inside)
next_place BeforeReturn byte = if byte == 10 then Some Before else Some Inside
next_place Inside byte = if byte == 10 then Some Start else Some Inside
next_place Start byte =
    if byte == 10 then None else (if byte == 13 then Some StartReturn else Some Inside)
next_place StartReturn byte = if byte == 10 then None else Some Inside

-- one byte, and what the head has after it
abbrev pub one_more : Option HeadPlace → (HeadPlace → Option ℕ) → Option ℕ
one_more None later = Some 1
one_more (Some place) later = option_map (λ n. 1 + n) (later place)

-- how many bytes more the head has from a place on
abbrev pub len_from : HeadPlace → List ℕ → Option ℕ
len_from place [] = None
len_from place (byte ∷ bytes) = one_more (next_place place byte) (λ next. len_from next bytes)

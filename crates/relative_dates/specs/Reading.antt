-- Reading date literals, periods and the arguments of functions. Texts are lists of bytes.
use Rattle.std.specs.Prelude.{ℕ, zero, suc, ◌+◌, ◌-◌, ◌*◌, ◌≤◌, Bool, true, false, not, ◌&&◌, ◌||◌, ◌==◌, nat_le, if◌then◌else◌, List, [], ◌∷◌, length, take, drop, fold, slice_index, slice_range, Option, Some, None, option_and_then, ℤ, pos, neg_ℤ}
use Rattle.std.specs.List.{list_all, position_or_len}
use Rattle.std.specs.Option.{option_map}
use Rattle.std.specs.Char.{is_ascii_digit}
use Rattle.jiff_core.specs.Calendar.{days_in_month, days_from_civil}
use Rattle.relative_dates.specs.declared.term.LocalSecond.{LocalSecond}
use Rattle.relative_dates.specs.declared.term.Shift.{Shift}
use Rattle.relative_dates.specs.declared.term.Period.{Period}
use Rattle.relative_dates.specs.declared.term.Period.TheVariants.{Day, Week, Month, Year}
use Rattle.relative_dates.specs.declared.term.Term.{Term}
use Rattle.relative_dates.specs.declared.term.Term.TheVariants.{Literal, FromNow}
use Rattle.relative_dates.specs.declared.amount.Amount.{Amount}
use Rattle.relative_dates.specs.declared.amount.Units.{Units}
use Rattle.relative_dates.specs.declared.amount.Units.TheVariants.{Clock, Calendar}

-- the number that decimal digits write
unfoldable pub number_of : List ℕ → ℕ
number_of digits = fold (λ number digit. 10 * number + (digit - 48)) 0 digits

-- one digit or more, of a number up to the most
unfoldable pub number_up_to : ℕ → List ℕ → Option ℕ
number_up_to most text =
    if not (length text == 0) && list_all is_ascii_digit text && nat_le (number_of text) most
    then Some (number_of text) else None

-- ---- literals

-- the day of a year from 1000 on, where the month has it
abbrev pub day_number : ℕ → ℕ → ℕ → Option ℤ
day_number year month day =
    if nat_le 1000 year && nat_le 1 month && nat_le 1 day
    && nat_le day (days_in_month (pos year) month)
    then Some (days_from_civil (pos year) month day) else None

-- the parts stand between two hyphens or two slashes
abbrev pub has_separators : List ℕ → Bool
has_separators text =
    ((slice_index text 4 == 45) || (slice_index text 4 == 47))
    && (slice_index text 7 == slice_index text 4)

-- four digits of the year, two of the month and two of the day
unfoldable pub date_of : List ℕ → Option ℤ
date_of text =
    if has_separators text then
    option_and_then (λ year. option_and_then
    (λ month. option_and_then (λ day. day_number year month day)
    (number_up_to 31 (slice_range text 8 10))) (number_up_to 12 (slice_range text 5 7)))
    (number_up_to 9998 (slice_range text 0 4))
    else None

-- after a space, two digits of the hour and two of the minute, with a colon between them
unfoldable pub time_of : List ℕ → Option ℕ
time_of text =
    if (slice_index text 10 == 32) && (slice_index text 13 == 58) then
    option_and_then (λ hour. option_map (λ minute. 3600 * hour + 60 * minute)
    (number_up_to 59 (slice_range text 14 16))) (number_up_to 23 (slice_range text 11 13))
    else None

-- a date has ten bytes, and with a time sixteen; without one it is the day's first second
unfoldable pub literal_of : List ℕ → Option LocalSecond
literal_of text =
    if length text == 10 then option_map (λ day. record { day = day; second = 0 }) (date_of text)
    else (if length text == 16
    then option_and_then (λ day. option_map (λ second. record { day = day; second = second })
    (time_of text)) (date_of text)
    else None)

-- ---- periods and increments

-- months, where the units have them
abbrev pub months_of : Units → ℕ → Option Amount
months_of Clock n = None
months_of Calendar n = Some (record { months = n; days = 0; minutes = 0 })

abbrev pub days_of : ℕ → Option Amount
days_of n = Some (record { months = 0; days = n; minutes = 0 })

abbrev pub minutes_of : ℕ → Option Amount
minutes_of n = Some (record { months = 0; days = 0; minutes = n })

-- an amount by its unit's letter: w, d, h, m, and where the units have them y and M
unfoldable pub amount_of : Units → ℕ → ℕ → Option Amount
amount_of units letter n =
    if letter == 119 then days_of (7 * n)
    else (if letter == 100 then days_of n
    else (if letter == 104 then minutes_of (60 * n)
    else (if letter == 109 then minutes_of n
    else (if letter == 121 then months_of units (12 * n)
    else (if letter == 77 then months_of units n else None)))))

-- digits of a number up to 1000, and a letter at the end
unfoldable pub term_of : Units → List ℕ → Option Amount
term_of units text =
    if length text == 0 then None
    else option_and_then (λ n. amount_of units (slice_index text (length text - 1)) n)
    (number_up_to 1000 (take (length text - 1) text))

-- two amounts together
abbrev pub plus : Amount → Amount → Amount
plus a b =
    record { months = a.months + b.months; days = a.days + b.days; minutes = a.minutes + b.minutes }

-- where the first space stands, or the text's length
abbrev pub first_space : List ℕ → ℕ
first_space text = position_or_len (λ b. b == 32) text

-- one term or more, up to the most, with one space between them
unfoldable pub terms_of : ℕ → Units → List ℕ → Option Amount
terms_of zero units text = None
terms_of (suc more) units text =
    if first_space text == length text then term_of units text
    else option_and_then (λ first. option_map (plus first)
    (terms_of more units (drop (first_space text + 1) text)))
    (term_of units (take (first_space text) text))

-- a sign may stand before the terms, and holds for all of them
abbrev pub is_negative : List ℕ → Bool
is_negative [] = false
is_negative (b ∷ rest) = b == 45

abbrev pub after_sign : List ℕ → List ℕ
after_sign [] = []
after_sign (b ∷ rest) = if (b == 45) || (b == 43) then rest else b ∷ rest

abbrev pub signed : Bool → ℕ → ℤ
signed true n = neg_ℤ (pos n)
signed false n = pos n

-- the minutes of a period: up to four terms of the clock's units
unfoldable pub period_of : List ℕ → Option ℤ
period_of text =
    option_map (λ a. signed (is_negative text) (1440 * a.days + a.minutes))
    (terms_of 4 Clock (after_sign text))

-- a literal or a period
abbrev pub literal_or : Option LocalSecond → Option ℤ → Option Term
literal_or (Some local) period = Some (Literal local)
literal_or None period = option_map FromNow period

unfoldable pub read_term : List ℕ → Option Term
read_term text = literal_or (literal_of text) (period_of text)

-- so many of a function's own period
abbrev pub own_amount : Period → ℕ → Amount
own_amount Day n = record { months = 0; days = n; minutes = 0 }
own_amount Week n = record { months = 0; days = 7 * n; minutes = 0 }
own_amount Month n = record { months = n; days = 0; minutes = 0 }
own_amount Year n = record { months = 12 * n; days = 0; minutes = 0 }

-- an argument without its sign: a number of the function's own period, or up to four terms
abbrev pub number_or : Period → Option ℕ → Option Amount → Option Amount
number_or period (Some n) terms = Some (own_amount period n)
number_or period None terms = terms

abbrev pub moved_by : Bool → Amount → Shift
moved_by negative a =
    record {
      months = signed negative a.months;
      days = signed negative a.days;
      minutes = signed negative a.minutes;
    }

-- what a function's argument moves its boundary by
unfoldable pub shift_of : Period → List ℕ → Option Shift
shift_of period text =
    option_map (moved_by (is_negative text))
    (number_or period (number_up_to 1000 (after_sign text)) (terms_of 4 Calendar (after_sign text)))

-- a sum of so many terms isn't large
abbrev pub IsUpTo : ℕ → Amount → Type 0
IsUpTo most a = (a.months ≤ 12_000 * most) × (a.days ≤ 7_000 * most) × (a.minutes ≤ 60_000 * most)

-- Calls in a query that stand for a date: the present moment, and the starts and ends of periods.
use Rattle.std.specs.Prelude.{ℕ, Bool, if◌then◌else◌, List, Option, Some, None, codes, pos}
use Rattle.std.specs.Str.{str_eq_ignore_ascii_case}
use Rattle.relative_dates.specs.declared.term.Period.{Period}
use Rattle.relative_dates.specs.declared.term.Period.TheVariants.{Day, Week, Month, Year}
use Rattle.relative_dates.specs.declared.term.Edge.{Edge}
use Rattle.relative_dates.specs.declared.term.Edge.TheVariants.{Start, End}
use Rattle.relative_dates.specs.declared.term.Shift.{Shift}
use Rattle.relative_dates.specs.declared.term.Term.TheVariants.{Now as NowTerm, PeriodEdge}
use Rattle.relative_dates.specs.declared.call.Function.{Function}
use Rattle.relative_dates.specs.declared.call.Function.TheVariants.{Moment, EdgeOf}
use Rattle.relative_dates.specs.declared.call.TermCall.{TermCall}
use Rattle.relative_dates.specs.declared.call.TermCall.TheVariants.{Is, NoSuchName, BadArgument}
use Rattle.relative_dates.specs.Reading.{shift_of}

-- a function's name, whatever the case of its ASCII letters
abbrev pub is_named : List ℕ → List ℕ → Bool
is_named name other = str_eq_ignore_ascii_case name other

-- the functions that stand for dates
unfoldable pub function_of : List ℕ → Option Function
function_of name =
    if is_named name (codes "now") then Some Moment
    else (if is_named name (codes "startOfDay") then Some (EdgeOf Start Day)
    else (if is_named name (codes "startOfWeek") then Some (EdgeOf Start Week)
    else (if is_named name (codes "startOfMonth") then Some (EdgeOf Start Month)
    else (if is_named name (codes "startOfYear") then Some (EdgeOf Start Year)
    else (if is_named name (codes "endOfDay") then Some (EdgeOf End Day)
    else (if is_named name (codes "endOfWeek") then Some (EdgeOf End Week)
    else (if is_named name (codes "endOfMonth") then Some (EdgeOf End Month)
    else (if is_named name (codes "endOfYear") then Some (EdgeOf End Year)
    else None))))))))

-- a boundary, where its argument can be read
abbrev pub edge_or : Edge → Period → Option Shift → TermCall
edge_or edge period (Some shift) =
    Is (PeriodEdge (record { edge = edge; period = period; shift = shift }))
edge_or edge period None = BadArgument

-- a function's answer to its argument: now() takes none
abbrev pub answer_of : Function → Option (List ℕ) → TermCall
answer_of Moment None = Is NowTerm
answer_of Moment (Some text) = BadArgument
answer_of (EdgeOf edge period) None =
    edge_or edge period (Some (record { months = pos 0; days = pos 0; minutes = pos 0 }))
answer_of (EdgeOf edge period) (Some text) = edge_or edge period (shift_of period text)

abbrev pub answer_or : Option Function → Option (List ℕ) → TermCall
answer_or (Some function) argument = answer_of function argument
answer_or None argument = NoSuchName

-- what a call with at most one argument stands for
unfoldable pub call_of : List ℕ → Option (List ℕ) → TermCall
call_of name argument = answer_or (function_of name) argument

-- Calls of an import, as lines.
use Rattle.std.proofs.Common.{◌≡◌, ◌++◌, ◌+◌, ℕ, List, [], ◌∷◌, map, Ok, refl, sym, ◌∙◌, ap, ap₂, subst}
use Rattle.call_lines.specs.Asked.{line_of}
use Rattle.tracker_calls.specs.declared.call.Call.{Call}
use Rattle.tracker_calls.specs.declared.reply.Reply.{Reply}
use Rattle.tracker_machine.specs.Machine.{Machine}
use Rattle.tracker_machine.specs.Meaning.{HasEffect}
use Rattle.tracker_machine.specs.Step.{meaning, reply_of, next_of}
use Rattle.tracker_runs.specs.Run.{Mark, plain, memory, keeper, Marked, IsRun, MayBeMarked, MayAllBeMarked, HasAskedEffect, asked_reply, asked_next, marked_reply, marked_next, reply_line, text_of_run, end_of_run, failures_at, failures_in}
use Rattle.tracker_import.specs.Calls.{MarkedCall, reply_under, next_under, MayBeUnder, MayAllBeUnder, text_of_calls, end_of_calls, failures_of, AreMade}
use Rattle.run_laws.specs.Records.{AskForEach, RecordsDoAsLines}

module _ (user : List ℕ) where
  -- ---- one call

  module _ (m : Machine) (line : List ℕ) (c : Call) (asks : line_of line ≡ Ok (user, c)) where
    reply_same : (mark : Mark) → marked_reply m line mark ≡ reply_under mark m user c
    reply_same plain = ap (asked_reply m) asks
    reply_same memory = refl
    reply_same keeper = refl

    next_same : (mark : Mark) → marked_next m line mark ≡ next_under mark m user c
    next_same plain = ap (asked_next m) asks
    next_same memory = refl
    next_same keeper = refl

    may_same : (mark : Mark) → MayBeUnder mark m user c → MayBeMarked m line mark
    may_same plain may = tt
    may_same memory may = tt
    may_same keeper may = subst (HasAskedEffect m) (sym asks) may

  -- ---- all of them

  abbrev as_lines : List (List ℕ) → List MarkedCall → List Marked
  as_lines [] xs = []
  as_lines (line ∷ lines) [] = []
  as_lines (line ∷ lines) (x ∷ xs) = (record { line = line; mark = x.mark }) ∷ as_lines lines xs

  record AsLines (m : Machine) (lines : List (List ℕ)) (xs : List MarkedCall) : Type 0 where
    lines_are : map (λ (y : Marked). y.line) (as_lines lines xs) ≡ lines
    may : MayAllBeUnder m user xs → MayAllBeMarked m (as_lines lines xs)
    text : text_of_run m (as_lines lines xs) ≡ text_of_calls m user xs
    end : end_of_run m (as_lines lines xs) ≡ end_of_calls m user xs
    failures : failures_in (as_lines lines xs) ≡ failures_of xs

  lines_of : (m : Machine) (lines : List (List ℕ)) (xs : List MarkedCall) → AskForEach user (map (λ (x : MarkedCall). x.call) xs) lines → AsLines m lines xs
  lines_of m [] [] asks = record { lines_are = refl; may = λ may. tt; text = refl; end = refl; failures = refl }
  lines_of m (line ∷ lines) [] asks = absurd asks
  lines_of m [] (x ∷ xs) asks = absurd asks
  lines_of m (line ∷ lines) (x ∷ xs) asks =
      let next : Machine = next_under x.mark m user x.call in
      let same : marked_next m line x.mark ≡ next = next_same m line x.call asks.0 x.mark in
      let rest : AsLines next lines xs = lines_of next lines xs asks.1 in
      record {
        lines_are = ap (λ (ls : List (List ℕ)). line ∷ ls) rest.lines_are;
        may = λ may. (may_same m line x.call asks.0 x.mark may.0, subst (λ (n : Machine). MayAllBeMarked n (as_lines lines xs)) (sym same) (rest.may may.1));
        text = ap₂ (λ (r : Reply) (t : List ℕ). reply_line r ++ t) (reply_same m line x.call asks.0 x.mark) (ap (λ (n : Machine). text_of_run n (as_lines lines xs)) same ∙ rest.text);
        end = ap (λ (n : Machine). end_of_run n (as_lines lines xs)) same ∙ rest.end;
        failures = ap (λ n. failures_at x.mark + n) rest.failures;
      }

pub records_do_as_lines : RecordsDoAsLines
records_do_as_lines user old new calls lines text failures asks made =
    let each : AsLines user old lines made.marked = lines_of user old lines made.marked (subst (λ (cs : List Call). AskForEach user cs lines) (sym made.calls_are) asks) in
    record {
      marked = as_lines user lines made.marked;
      lines_are = each.lines_are;
      may = each.may made.may;
      text_is = made.text_is ∙ sym each.text;
      new_is = made.new_is ∙ sym each.end;
      failures_are = made.failures_are ∙ sym each.failures;
    }

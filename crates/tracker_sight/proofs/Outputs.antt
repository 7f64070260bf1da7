-- The lines of an output, as replies.
use Rattle.std.proofs.Common.{◌≡◌, ℕ, Bool, true, false, List, [], ◌∷◌, ◌++◌, map, filter, refl, sym, ◌∙◌, ap, ap₂, subst, inl, inr, append_assoc}
use Rattle.std.specs.Prelude.{if◌then◌else◌}
use Rattle.std.proofs.lemmas.Bool.{cases_Bool}
use Rattle.request_lines.specs.Lines.{lines}
use Rattle.request_lines.proofs.LinesLemmas.{lines-cut}
use Rattle.tracker_calls.specs.declared.reply.Reply.{Reply}
use Rattle.tracker_calls.specs.declared.reply.Reply.TheVariants as reply
use Rattle.tracker_calls.specs.declared.reply.Refusal.TheVariants as refusal
use Rattle.reply_texts.specs.Reply.{reply_text}
use Rattle.tracker_machine.specs.Machine.{Machine}
use Rattle.tracker_runs.specs.Run.{Mark, plain, memory, keeper, Marked, IsRun, requests, text_of_run, reply_line, marked_reply, marked_next}
use Rattle.tracker_sight.specs.Readers.{is_by, is_open_to, open_lines, replies_read}
use Rattle.tracker_sight.specs.Outputs.{lines_told, OutputsTellReplies, TellNoFault, unmarked, OutputsTellTheSame}
use Rattle.tracker_sight.proofs.OneLine.{reply_line_is_one}
use Rattle.tracker_sight.proofs.Read.{runs_read_the_same}

-- ---- an output's lines

cut_first : (r : Reply) (rest : List ℕ) → lines (reply_line r ++ rest) ≡ reply_text r ∷ lines rest
cut_first r rest = ap lines (append_assoc (reply_text r) (10 ∷ []) rest) ∙ lines-cut (reply_text r) rest (reply_line_is_one r)

pub outputs_tell_replies : OutputsTellReplies
outputs_tell_replies m caller [] = refl
outputs_tell_replies m caller (x ∷ xs) =
    ap (λ (texts : List (List ℕ)). lines_told caller (x.line ∷ map (λ (y : Marked). y.line) xs) texts) (cut_first r (text_of_run next xs))
    ∙ by (is_by caller x.line) (outputs_tell_replies next caller xs)
  where
    r : Reply
    r = marked_reply m x.line x.mark

    next : Machine
    next = marked_next m x.line x.mark

    by : (b : Bool) → lines_told caller (map (λ (y : Marked). y.line) xs) (lines (text_of_run next xs)) ≡ map reply_text (replies_read caller next xs)
        → (if b then reply_text r ∷ lines_told caller (map (λ (y : Marked). y.line) xs) (lines (text_of_run next xs))
        else lines_told caller (map (λ (y : Marked). y.line) xs) (lines (text_of_run next xs)))
        ≡ map reply_text (if b then r ∷ replies_read caller next xs else replies_read caller next xs)
    by true rest = ap (λ (texts : List (List ℕ)). reply_text r ∷ texts) rest
    by false rest = rest

-- ---- without faults

-- where no line tells a fault, no line is marked
module _ (m : Machine) (line : List ℕ) where
  unmarked_here : (mark : Mark) → (reply_text (marked_reply m line mark) ≡ reply_text (reply.Refused refusal.Memory) → ⊥)
      → (reply_text (marked_reply m line mark) ≡ reply_text (reply.Refused refusal.Keeper) → ⊥) → mark ≡ plain
  unmarked_here plain memory_not keeper_not = refl
  unmarked_here memory memory_not keeper_not = absurd (memory_not refl)
  unmarked_here keeper memory_not keeper_not = absurd (keeper_not refl)

are_unmarked : (m : Machine) (marked : List Marked) → TellNoFault (lines (text_of_run m marked)) → marked ≡ unmarked (map (λ x. x.line) marked)
are_unmarked m [] none = refl
are_unmarked m (x ∷ xs) none =
    let all : TellNoFault (reply_text (marked_reply m x.line x.mark) ∷ lines (text_of_run (marked_next m x.line x.mark) xs)) =
    subst TellNoFault (cut_first (marked_reply m x.line x.mark) (text_of_run (marked_next m x.line x.mark) xs)) none in
    ap₂ (λ (y : Marked) (ys : List Marked). y ∷ ys) (ap (λ (k : Mark). record x { mark = k }) (unmarked_here m x.line x.mark all.0 all.1))
    (are_unmarked (marked_next m x.line x.mark) xs all.2)

-- ---- two outputs

unmarked_open : (caller : List ℕ) (all : List (List ℕ)) → open_lines caller (unmarked all) ≡ unmarked (filter (is_open_to caller) all)
unmarked_open caller [] = refl
unmarked_open caller (line ∷ more) = elim (cases_Bool (is_open_to caller line)) [
  | inl stays ↦ rw stays (ap (λ (xs : List Marked). (record { line = line; mark = plain }) ∷ xs) (unmarked_open caller more))
  | inr goes ↦ rw goes (unmarked_open caller more)
]

record Read (m : Machine) (caller : List ℕ) (all : List (List ℕ)) (text : List ℕ) : Type 0 where
  told : lines_told caller all (lines text) ≡ map reply_text (replies_read caller m (unmarked all))

read_off : (m last : Machine) (caller : List ℕ) (all : List (List ℕ)) (text : List ℕ) (failures : ℕ) → IsRun m all text last failures → TellNoFault (lines text) → Read m caller all text
read_off m last caller all text failures run none =
    let none_told : TellNoFault (lines (text_of_run m run.marked)) = subst (λ t. TellNoFault (lines t)) run.text_is none in
    let plain_all : run.marked ≡ unmarked all = are_unmarked m run.marked none_told ∙ ap unmarked run.lines_are in
    record {
      told = ap₂ (λ (ls : List (List ℕ)) (t : List ℕ). lines_told caller ls (lines t)) (sym run.lines_are) run.text_is
          ∙ outputs_tell_replies m caller run.marked
          ∙ ap (λ (xs : List Marked). map reply_text (replies_read caller m xs)) plain_all;
    }

pub outputs_tell_the_same : OutputsTellTheSame
outputs_tell_the_same m last other_last caller input other text other_text failures other_failures has differ run other_run none other_none =
    let one = read_off m last caller (requests (lines input)) text failures run none in
    let two = read_off m other_last caller (requests (lines other)) other_text other_failures other_run other_none in
    two.told
    ∙ ap (map reply_text) (runs_read_the_same m caller (unmarked (requests (lines input))) (unmarked (requests (lines other))) has differ.first differ.second
    (unmarked_open caller (requests (lines other)) ∙ ap unmarked differ.rest ∙ sym (unmarked_open caller (requests (lines input)))))
    ∙ sym one.told

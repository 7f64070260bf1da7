-- From one stage of a load to the next, and how many calls it has.
use Rattle.std.proofs.Common.{◌≡◌, ◌+◌, ◌-◌, ◌*◌, ◌/◌, ◌≤◌, ◌<◌, ℕ, suc, Bool, true, false, List, [], ◌∷◌, ◌++◌, length, map, Some, if◌then◌else◌, refl, sym, ap, ◌∙◌, arith}
use Rattle.std.specs.List.{flat_map, range_with_len}
use Rattle.std.proofs.lemmas.List.{length-append, length-map}
use Rattle.std.proofs.lemmas.List.FromFn.{length-range_with_len}
use Rattle.tracker_calls.specs.declared.call.Call.{Call}
use Rattle.tracker_calls.specs.declared.call.Call.TheVariants as call
use Rattle.tracker_import.specs.Load.{numbers, multiples, create, created, into_sprint, start, finish, is_finished, move_up, worked_on, make_sprint, step, steps_for, load_calls}
use Rattle.tracker_import.specs.Stages.{behind_creates, behind_edits, behind_moves, behind_steps, behind_work, calls_left, next_call, with_first}
use Rattle.tracker_import.specs.declared.load_calls.Stage.{Stage}
use Rattle.tracker_import.specs.declared.load_calls.Stage.TheVariants as stage

-- ---- numbers

numbers_next : (i c : ℕ) → i ≤ c → numbers i c ≡ i ∷ numbers (i + 1) c
numbers_next i c within =
    let one_more : c + 1 - i ≡ suc (c + 1 - (i + 1)) = omega arith in
    ap (range_with_len i) one_more

numbers_over : (i c : ℕ) → c < i → numbers i c ≡ []
numbers_over i c over =
    let none : c + 1 - i ≡ 0 = omega arith in
    ap (range_with_len i) none

-- ---- where a part is over

pub creates_over : (n i : ℕ) → n < i → behind_creates n ≡ flat_map created (numbers i n) ++ behind_creates n
creates_over n i over = ap (λ l. flat_map created l ++ behind_creates n) (sym (numbers_over i n over))

pub edits_over : (n k : ℕ) → n / 3 < k → behind_edits n ≡ map into_sprint (multiples 3 k (n / 3)) ++ behind_edits n
edits_over n k over = ap (λ l. map into_sprint (map (λ j. 3 * j) l) ++ behind_edits n) (sym (numbers_over k (n / 3) over))

pub work_over : (n k : ℕ) (s : Stage) → n / 2 < k → calls_left n s ≡ behind_work n → calls_left n s ≡ flat_map (worked_on n) (multiples 2 k (n / 2)) ++ behind_work n
work_over n k s over is = is ∙ ap (λ l. flat_map (worked_on n) (map (λ j. 2 * j) l) ++ behind_work n) (sym (numbers_over k (n / 2) over))

pub moves_over : (n k : ℕ) → n / 5 < k → behind_moves n ≡ map move_up (multiples 5 k (n / 5)) ++ behind_moves n
moves_over n k over = ap (λ l. map move_up (map (λ j. 5 * j) l) ++ behind_moves n) (sym (numbers_over k (n / 5) over))

pub steps_over : (n k : ℕ) → steps_for n < k → behind_steps n ≡ map (λ _. step) (numbers k (steps_for n)) ++ behind_steps n
steps_over n k over = ap (λ l. map (λ (_ : ℕ). step) l ++ behind_steps n) (sym (numbers_over k (steps_for n) over))

-- ---- one call

-- the call in front of what another stage leaves
in_front : (n : ℕ) (s : Stage) (c : Call) (rest : List Call) → calls_left n s ≡ rest → c ∷ rest ≡ c ∷ calls_left n s
in_front n s c rest is = ap (λ l. c ∷ l) (sym is)

pub ticked : (n i : ℕ) → i ≤ n → calls_left n (stage.Tick i) ≡ call.Tick i ∷ calls_left n (stage.Create i)
ticked n i within = ap (λ l. flat_map created l ++ behind_creates n) (numbers_next i n within)

pub created_one : (n i : ℕ) (s : Stage) → calls_left n s ≡ flat_map created (numbers (i + 1) n) ++ behind_creates n
    → calls_left n (stage.Create i) ≡ create i ∷ calls_left n s
created_one n i s is = in_front n s (create i) _ is

pub made_sprint : (n : ℕ) (s : Stage) → calls_left n s ≡ map into_sprint (multiples 3 1 (n / 3)) ++ behind_edits n
    → calls_left n stage.MakeSprint ≡ make_sprint ∷ calls_left n s
made_sprint n s is = in_front n s make_sprint _ is

pub put_in : (n k : ℕ) (s : Stage) → k ≤ n / 3 → calls_left n s ≡ map into_sprint (multiples 3 (k + 1) (n / 3)) ++ behind_edits n
    → calls_left n (stage.IntoSprint k) ≡ into_sprint (3 * k) ∷ calls_left n s
put_in n k s within is =
    ap (λ l. map into_sprint (map (λ j. 3 * j) l) ++ behind_edits n) (numbers_next k (n / 3) within) ∙ in_front n s (into_sprint (3 * k)) _ is

pub ticked_later : (n k : ℕ) → k ≤ n / 2 → calls_left n (stage.LaterTick k) ≡ call.Tick (n + 2 * k) ∷ calls_left n (stage.Start k)
ticked_later n k within = ap (λ l. flat_map (worked_on n) (map (λ j. 2 * j) l) ++ behind_work n) (numbers_next k (n / 2) within)

-- behind a start, where the issue is finished or isn't
left_by : ℕ → ℕ → Bool → List Call
left_by n k b = start (2 * k) ∷ ((if b then finish (2 * k) ∷ [] else []) ++ flat_map (worked_on n) (multiples 2 (k + 1) (n / 2))) ++ behind_work n

pub started_and_finished : (n k : ℕ) → is_finished (2 * k) ≡ true → calls_left n (stage.Start k) ≡ start (2 * k) ∷ calls_left n (stage.Finish k)
unfolding left_by
started_and_finished n k is = ap (left_by n k) is

pub started : (n k : ℕ) (s : Stage) → is_finished (2 * k) ≡ false
    → calls_left n s ≡ flat_map (worked_on n) (multiples 2 (k + 1) (n / 2)) ++ behind_work n → calls_left n (stage.Start k) ≡ start (2 * k) ∷ calls_left n s
unfolding left_by
started n k s isnt is = ap (left_by n k) isnt ∙ in_front n s (start (2 * k)) _ is

pub finished_one : (n k : ℕ) (s : Stage) → calls_left n s ≡ flat_map (worked_on n) (multiples 2 (k + 1) (n / 2)) ++ behind_work n
    → calls_left n (stage.Finish k) ≡ finish (2 * k) ∷ calls_left n s
finished_one n k s is = in_front n s (finish (2 * k)) _ is

pub saved : (n : ℕ) (s : Stage) → calls_left n s ≡ flat_map (worked_on n) (multiples 2 1 (n / 2)) ++ behind_work n
    → calls_left n stage.SaveFilter ≡ with_first (next_call n stage.SaveFilter) (calls_left n s)
saved n s is = in_front n s _ _ is

pub moved : (n k : ℕ) (s : Stage) → k ≤ n / 5 → calls_left n s ≡ map move_up (multiples 5 (k + 1) (n / 5)) ++ behind_moves n
    → calls_left n (stage.Move k) ≡ move_up (5 * k) ∷ calls_left n s
moved n k s within is =
    ap (λ l. map move_up (map (λ j. 5 * j) l) ++ behind_moves n) (numbers_next k (n / 5) within) ∙ in_front n s (move_up (5 * k)) _ is

pub rebalanced : (n : ℕ) (s : Stage) → calls_left n s ≡ map (λ _. step) (numbers 1 (steps_for n)) ++ behind_steps n
    → calls_left n stage.RebalanceStart ≡ call.RebalanceStart ∷ calls_left n s
rebalanced n s is = in_front n s call.RebalanceStart _ is

pub stepped : (n k : ℕ) (s : Stage) → k ≤ steps_for n → calls_left n s ≡ map (λ _. step) (numbers (k + 1) (steps_for n)) ++ behind_steps n
    → calls_left n (stage.RebalanceStep k) ≡ step ∷ calls_left n s
stepped n k s within is =
    ap (λ l. map (λ (_ : ℕ). step) l ++ behind_steps n) (numbers_next k (steps_for n) within) ∙ in_front n s step _ is

-- what is handed out
pub handed_out : (n : ℕ) (old new : Stage) (c : Call) → Some c ≡ next_call n old → calls_left n old ≡ with_first (next_call n old) (calls_left n new)
    → calls_left n old ≡ c ∷ calls_left n new
handed_out n old new c is left = left ∙ ap (λ o. with_first o (calls_left n new)) (sym is)

-- ---- how many calls a load has

length-numbers : (n : ℕ) → length (numbers 1 n) ≡ n
length-numbers n = length-range_with_len 1 (n + 1 - 1) ∙ omega arith

length-each : {A : Type 0} (f : ℕ → A) (n : ℕ) → length (map f (numbers 1 n)) ≡ n
length-each f n = length-map (numbers 1 n) f ∙ length-numbers n

length-multiples : (f : ℕ → Call) (k n : ℕ) → length (map f (multiples k 1 n)) ≡ n
length-multiples f k n = length-map (multiples k 1 n) f ∙ length-each (λ j. k * j) n

-- at most so many for each
flat_map-few : {X : Type 0} (f : X → List Call) (most : ℕ) → ((x : X) → length (f x) ≤ most) → (xs : List X) → length (flat_map f xs) ≤ length xs * most
flat_map-few f most few [] = omega arith
flat_map-few f most few (x ∷ xs) = omega (arith, length-append (f x) (flat_map f xs), few x, flat_map-few f most few xs)

finished_few : (b : Bool) (c : Call) → length (if b then c ∷ [] else []) ≤ 1
finished_few true c = omega arith
finished_few false c = omega arith

-- one more for the call in front
length-front : (c : Call) (xs rest : List Call) → length (c ∷ xs ++ rest) ≡ 1 + (length xs + length rest)
length-front c xs rest = omega (arith, length-append xs rest)

pub load_is_short : (n : ℕ) → n ≤ 20_000 → length (load_calls n) ≤ 1_000_000
load_is_short n few =
    let c = flat_map created (numbers 1 n) in
    let e = map into_sprint (multiples 3 1 (n / 3)) in
    let w = flat_map (worked_on n) (multiples 2 1 (n / 2)) in
    let m = map move_up (multiples 5 1 (n / 5)) in
    let s = map (λ (_ : ℕ). step) (numbers 1 (steps_for n)) in
    let creates : length c ≤ length (numbers 1 n) * 2 = flat_map-few created 2 (λ i. omega arith) (numbers 1 n) in
    let work : length w ≤ length (multiples 2 1 (n / 2)) * 3 =
    flat_map-few (worked_on n) 3 (λ i. omega (arith, finished_few (is_finished i) (finish i))) (multiples 2 1 (n / 2)) in
    let all : length (load_calls n) ≡ length c + length (behind_creates n) = length-append c (behind_creates n) in
    let after_creates : length (behind_creates n) ≡ 1 + (length e + length (behind_edits n)) = length-front make_sprint e (behind_edits n) in
    let after_edits : length (behind_edits n) ≡ 2 + (length w + length (behind_work n)) = omega (arith, length-append w (behind_work n)) in
    let after_work : length (behind_work n) ≡ length m + length (behind_moves n) = length-append m (behind_moves n) in
    let after_moves : length (behind_moves n) ≡ 1 + (length s + length (behind_steps n)) = length-front call.RebalanceStart s (behind_steps n) in
    let after_steps : length (behind_steps n) ≡ 1 = refl in
    let edits : length e ≡ n / 3 = length-multiples into_sprint 3 (n / 3) in
    let moves : length m ≡ n / 5 = length-multiples move_up 5 (n / 5) in
    let steps : length s ≡ steps_for n = length-each (λ (_ : ℕ). step) (steps_for n) in
    let numbered : length (numbers 1 n) ≡ n = length-numbers n in
    let seconds : length (multiples 2 1 (n / 2)) ≡ n / 2 = length-each (λ j. 2 * j) (n / 2) in
    omega arith

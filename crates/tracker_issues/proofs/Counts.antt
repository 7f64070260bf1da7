-- How many issues each project has, as one comes and as one changes.
use Rattle.std.proofs.Common.{◌≡◌, ◌==◌, ℕ, zero, suc, ◌+◌, ◌<◌, ◌≤◌, List, [], ◌∷◌, ◌++◌, length, slice_get, set, map, Bool, true, false, Some, unwrap_or, bytes_eq, IfSome, refl, sym, ap, ap₂, ◌∙◌, subst, arith}
use Rattle.std.specs.Prelude.{if◌then◌else◌}
use Rattle.std.proofs.lemmas.List.{length-map}
use Rattle.std.proofs.lemmas.List.Sums.{sum_by_push, sum_by-cons}
use Rattle.field_values.specs.declared.parts.Project.{Project}
use Rattle.change_history.specs.History.{History}
use Rattle.fields.specs.Naming.{name_at}
use Rattle.change_history.specs.Key.{project_of}
use Rattle.tracker_machine.specs.Known.{issues_of}
use Rattle.tracker_machine.proofs.Totals.{issues_of-set}
use Rattle.tracker_issues.specs.Counts.{counts_of}

-- ---- an issue more

issues_of-push : (p : List ℕ) (hs : List History) (h : History) (b : Bool) → bytes_eq (project_of h.key) p ≡ b → issues_of p (hs ++ h ∷ []) ≡ issues_of p hs + (if b then 1 else 0)
issues_of-push p hs h b is =
    sum_by_push (λ (i : History). if bytes_eq (project_of i.key) p then 1 else 0) hs h ∙ ap (λ (c : Bool). issues_of p hs + (if c then 1 else 0)) is

-- places, one further on
not_first : (j : ℕ) → (suc j == 0) ≡ false
not_first j = grind arith

not_later : (k : ℕ) → (0 == suc k) ≡ false
not_later k = grind arith

both_later : (j k : ℕ) → (suc j == suc k) ≡ (j == k)
both_later j k = grind arith

-- it is none of these projects'
counts_of-other : (ps : List Project) (hs : List History) (h : History) → ((j : ℕ) (p : Project) → slice_get ps j ≡ Some p → bytes_eq (project_of h.key) p.key ≡ false)
    → counts_of ps (hs ++ h ∷ []) ≡ counts_of ps hs
counts_of-other [] hs h other = refl
counts_of-other (p ∷ ps) hs h other =
    let same : issues_of p.key (hs ++ h ∷ []) ≡ issues_of p.key hs = omega (arith, issues_of-push p.key hs h false (other 0 p refl)) in
    ap₂ (λ (n : ℕ) ns. n ∷ ns) same (counts_of-other ps hs h (λ j q at. other (suc j) q at))

-- where it is the issue of one project alone, that project has one more
pub counts_of-push : (ps : List Project) (hs : List History) (h : History) (k n : ℕ)
    → ((j : ℕ) (p : Project) → slice_get ps j ≡ Some p → bytes_eq (project_of h.key) p.key ≡ (j == k)) → slice_get (counts_of ps hs) k ≡ Some n
    → set (counts_of ps hs) k (n + 1) ≡ counts_of ps (hs ++ h ∷ [])
counts_of-push [] hs h k n only at = absurd (cc)
counts_of-push (p ∷ ps) hs h zero n only at =
    let here : issues_of p.key hs ≡ n = ap (λ o. unwrap_or o 0) at in
    let more : n + 1 ≡ issues_of p.key (hs ++ h ∷ []) = omega (arith, here, issues_of-push p.key hs h true (only 0 p refl)) in
    ap₂ (λ (n : ℕ) ns. n ∷ ns) more (sym (counts_of-other ps hs h (λ j q at. only (suc j) q at ∙ not_first j)))
counts_of-push (p ∷ ps) hs h (suc k) n only at =
    let same : issues_of p.key hs ≡ issues_of p.key (hs ++ h ∷ []) = omega (arith, issues_of-push p.key hs h false (only 0 p refl ∙ not_later k)) in
    ap₂ (λ (n : ℕ) ns. n ∷ ns) same (counts_of-push ps hs h k n (λ j q at. only (suc j) q at ∙ both_later j k) at)

-- ---- an issue that changes, and keeps its key

pub counts_of-set : (ps : List Project) (hs : List History) (k : ℕ) (old new : History) → slice_get hs k ≡ Some old → new.key ≡ old.key → counts_of ps (set hs k new) ≡ counts_of ps hs
counts_of-set [] hs k old new at same = refl
counts_of-set (p ∷ ps) hs k old new at same = ap₂ (λ (n : ℕ) ns. n ∷ ns) (issues_of-set p.key hs k old new at same) (counts_of-set ps hs k old new at same)

-- ---- one count

one_or_none : (b : Bool) (n few total : ℕ) → total ≡ (if b then 1 else 0) + n → n ≤ few → total ≤ suc few
one_or_none true n few total e le = omega (arith, e, le)
one_or_none false n few total e le = omega (arith, e, le)

few_of : (p : List ℕ) (hs : List History) → issues_of p hs ≤ length hs
few_of p [] = omega arith
few_of p (h ∷ hs) = one_or_none (bytes_eq (project_of h.key) p) (issues_of p hs) (length hs) (issues_of p (h ∷ hs)) (sum_by-cons (λ (i : History). if bytes_eq (project_of i.key) p then 1 else 0) h hs) (few_of p hs)

-- each project has a count
pub counted_at : (ps : List Project) (hs : List History) (counts : List ℕ) (k : ℕ) → counts ≡ counts_of ps hs → k < length ps → k < length counts
counted_at ps hs counts k is in' =
    subst (λ (ns : List ℕ). k < length ns) (sym is) (subst (λ n. k < n) (sym (length-map ps (λ (p : Project). issues_of p.key hs))) in')

-- no project has more issues than there are
pub few_counted : (ps : List Project) (hs : List History) (k : ℕ) (P : ℕ → Type 0) → ((n : ℕ) → n ≤ length hs → P n) → IfSome (slice_get (counts_of ps hs) k) P
few_counted [] hs k P f = tt
few_counted (p ∷ ps) hs zero P f = f (issues_of p.key hs) (few_of p.key hs)
few_counted (p ∷ ps) hs (suc k) P f = few_counted ps hs k P f

pub count_here : (ps : List Project) (hs : List History) (k : ℕ) → k < length ps → slice_get (counts_of ps hs) k ≡ Some (issues_of (name_at (map (λ p. p.key) ps) k) hs)
count_here [] hs k in' = absurd (omega (arith, in'))
count_here (p ∷ ps) hs zero in' = refl
count_here (p ∷ ps) hs (suc k) in' = count_here ps hs k (omega (arith, in'))

pub number_is : (a b : ℕ) → Some a ≡ Some b → a ≡ b
number_is a b e = ap (λ o. unwrap_or o 0) e

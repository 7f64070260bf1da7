-- Steps that may be refused, one after the other: the first refusal is the answer.
use Rattle.std.specs.Prelude.{◌≡◌, List, [], ◌∷◌, Bool, if◌then◌else◌, Option, Some, None, Result, Ok, Err}
use Rattle.jql_grammar.specs.declared.fault.FaultKind.{FaultKind}
use Rattle.jql_grammar.specs.declared.fault.Stop.{Stop}
use Rattle.jql_grammar.specs.declared.fault.Stop.TheVariants.{At, Memory}

-- something made of what a step gives
abbrev pub made : {A B E : Type 0} → (A → B) → Result A E → Result B E
made f (Ok x) = Ok (f x)
made f (Err e) = Err e

-- something made of what two steps give
abbrev pub made_of_both : {A B C E : Type 0} → (A → B → C) → Result A E → Result B E → Result C E
made_of_both f (Err e) r = Err e
made_of_both f (Ok x) (Err e) = Err e
made_of_both f (Ok x) (Ok y) = Ok (f x y)

-- a step after another
abbrev pub and_then : {A B E : Type 0} → (A → Result B E) → Result A E → Result B E
and_then f (Ok x) = f x
and_then f (Err e) = Err e

-- the step at each thing of a list
abbrev pub each : {A B E : Type 0} → (A → Result B E) → List A → Result (List B) E
each f [] = Ok []
each f (x ∷ xs) = made_of_both (λ y ys. y ∷ ys) (f x) (each f xs)

-- what there is, before the rest
abbrev pub with_some : {A : Type 0} → Option A → List A → List A
with_some None xs = xs
with_some (Some x) xs = x ∷ xs

-- the step at each thing of a list, where it may give nothing
abbrev pub each_some : {A B E : Type 0} → (A → Result (Option B) E) → List A → Result (List B) E
each_some f [] = Ok []
each_some f (x ∷ xs) = made_of_both with_some (f x) (each_some f xs)

-- a step that needs something that may be missing
abbrev pub if_some : {A B E : Type 0} → E → (A → Result B E) → Option A → Result B E
if_some fault f None = Err fault
if_some fault f (Some x) = f x

-- something that may be missing
abbrev pub some_or : {A E : Type 0} → E → Option A → Result A E
some_or fault o = if_some fault Ok o

-- a step that needs leave
abbrev pub if_allowed : {A E : Type 0} → E → Bool → Result A E → Result A E
if_allowed fault allowed r = if allowed then r else Err fault

-- the code stopped because the step is refused, or memory ran out
abbrev pub Stops : {A : Type 0} → Result A FaultKind → Stop → Type 0
Stops r Memory = Unit {0}
Stops r (At kind) = r ≡ Err kind

-- Known bytes, written and taken one after another.
use Rattle.std.proofs.Common.{◌≡◌, ℕ, List, ◌++◌, Option, Some, None, sym, ap, ◌∙◌, append_assoc, take, drop}
use Rattle.std.proofs.lemmas.List.{take-append-drop}
use Rattle.std.specs.Prelude.{Result, Ok, Err}
use Rattle.std.specs.Io.KnownBytes.{Appends, Consumes}
use Rattle.request_lines.specs.Bytes.{WritesAll}

pub Appends-trans : (a b c : Option (List ℕ)) (bs cs : List ℕ) → Appends a b bs → Appends b c cs → Appends a c (bs ++ cs)
Appends-trans None b c bs cs p q = tt
Appends-trans (Some x) None c bs cs p q = absurd p
Appends-trans (Some x) (Some y) None bs cs p q = absurd q
Appends-trans (Some x) (Some y) (Some z) bs cs p q = q ∙ ap (λ l. l ++ cs) p ∙ append_assoc x bs cs

pub Consumes-trans : (a b c : Option (List ℕ)) (bs cs : List ℕ) → Consumes a b bs → Consumes b c cs → Consumes a c (bs ++ cs)
Consumes-trans None b c bs cs p q = tt
Consumes-trans (Some x) None c bs cs p q = absurd p
Consumes-trans (Some x) (Some y) None bs cs p q = absurd q
Consumes-trans (Some x) (Some y) (Some z) bs cs p q = p ∙ ap (λ l. bs ++ l) q ∙ sym (append_assoc bs cs z)

-- some more of what is to be written
pub WritesMore : (a b c : Option (List ℕ)) (bytes rest later : List ℕ) (n : ℕ) → later ≡ drop n rest
    → (done : List ℕ) × (bytes ≡ done ++ rest) × Appends a b done → Appends b c (take n rest)
    → (done : List ℕ) × (bytes ≡ done ++ later) × Appends a c done
WritesMore a b c bytes rest later n is before now =
    let done = before.0 in
    let whole : bytes ≡ (done ++ take n rest) ++ later = before.1 ∙ ap (λ l. done ++ l) (sym (take-append-drop n rest)) ∙ sym (append_assoc done (take n rest) (drop n rest)) ∙ ap (λ l. (done ++ take n rest) ++ l) (sym is) in
    (done ++ take n rest, whole, Appends-trans a b c done (take n rest) before.2 now)

-- a front stays a front where more follows
pub front-more : (bytes front back more : List ℕ) → bytes ≡ front ++ back → bytes ++ more ≡ front ++ (back ++ more)
front-more bytes front back more e = ap (λ l. l ++ more) e ∙ append_assoc front back more

-- what is written after a text that was
pub WritesAll-after : {T E : Type 0} (a b c : Option (List ℕ)) (text more : List ℕ) (r : Result T E) → Appends a b text → WritesAll b c r more → WritesAll a c r (text ++ more)
WritesAll-after a b c text more (Ok x) first next = Appends-trans a b c text more first next
WritesAll-after a b c text more (Err e) first cut =
    (text ++ cut.0, cut.1, ap (λ l. text ++ l) cut.2 ∙ sym (append_assoc text cut.0 cut.1), Appends-trans a b c text cut.0 first cut.3)

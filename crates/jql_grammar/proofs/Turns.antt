-- Loops that take a step at each thing of a list, until one is refused.
use Rattle.std.proofs.Common.{◌≡◌, ℕ, ◌+◌, ◌<◌, ◌≤◌, List, [], ◌∷◌, ◌++◌, length, get_or, drop, Option, Some, None, Result, Ok, Err, refl, ap, sym, ◌∙◌, append_assoc}
use Rattle.std.proofs.lemmas.List.{at_drop_more, at_drop_all, append-nil}
use Rattle.jql_grammar.specs.declared.fault.FaultKind.{FaultKind}
use Rattle.jql_grammar.specs.declared.fault.Stop.{Stop}
use Rattle.jql_grammar.specs.declared.fault.Stop.TheVariants.{At, Memory}
use Rattle.jql_grammar.specs.Steps.{made, made_of_both, each, each_some, with_some, Stops}

-- what is done stands before what the rest gives
abbrev pub after : {B E : Type 0} → List B → Result (List B) E → Result (List B) E
after done r = made (λ ys. done ++ ys) r

pub after_none : {B E : Type 0} (r : Result (List B) E) → r ≡ after [] r
after_none (Ok ys) = refl
after_none (Err e) = refl

pub after_all : {B E : Type 0} (done : List B) → after {E = E} done (Ok []) ≡ Ok done
after_all done = ap Ok (append-nil done)

one_more : {B E : Type 0} (done : List B) (y : B) (r : Result (List B) E) → after done (made_of_both (λ x xs. x ∷ xs) (Ok y) r) ≡ after (done ++ y ∷ []) r
one_more done y (Err e) = refl
one_more done y (Ok ys) = ap Ok (sym (append_assoc done (y ∷ []) ys))

some_more : {B E : Type 0} (done : List B) (o : Option B) (r : Result (List B) E) → after done (made_of_both with_some (Ok o) r) ≡ after (done ++ with_some o []) r
some_more done o (Err e) = refl
some_more done None (Ok ys) = ap (λ front. Ok (front ++ ys)) (sym (append-nil done))
some_more done (Some y) (Ok ys) = ap Ok (sym (append_assoc done (y ∷ []) ys))

module _ {A B : Type 0} (f : A → Result B FaultKind) (whole : Result (List B) FaultKind) (done : List B) (xs : List A) (i : ℕ) (x : A) (inside : i < length xs) (here : x ≡ get_or xs i x) (so_far : whole ≡ after done (each f (drop i xs))) where
  next_is : whole ≡ after done (made_of_both (λ y ys. y ∷ ys) (f x) (each f (drop (i + 1) xs)))
  next_is = so_far ∙ ap (after done) (at_drop_more (each f) xs i x inside) ∙ ap (λ z. after done (made_of_both (λ y ys. y ∷ ys) (f z) (each f (drop (i + 1) xs)))) (sym here)

  pub each_goes : (y : B) → f x ≡ Ok y → whole ≡ after (done ++ y ∷ []) (each f (drop (i + 1) xs))
  each_goes y e = next_is ∙ ap (λ r. after done (made_of_both (λ y ys. y ∷ ys) r (each f (drop (i + 1) xs)))) e ∙ one_more done y (each f (drop (i + 1) xs))

  pub each_stops : (stop : Stop) → Stops (f x) stop → Stops whole stop
  each_stops Memory e = tt
  each_stops (At kind) e = next_is ∙ ap (λ r. after done (made_of_both (λ y ys. y ∷ ys) r (each f (drop (i + 1) xs)))) e

module _ {A B : Type 0} (f : A → Result (Option B) FaultKind) (whole : Result (List B) FaultKind) (done : List B) (xs : List A) (i : ℕ) (x : A) (inside : i < length xs) (here : x ≡ get_or xs i x) (so_far : whole ≡ after done (each_some f (drop i xs))) where
  next_some_is : whole ≡ after done (made_of_both with_some (f x) (each_some f (drop (i + 1) xs)))
  next_some_is = so_far ∙ ap (after done) (at_drop_more (each_some f) xs i x inside) ∙ ap (λ z. after done (made_of_both with_some (f z) (each_some f (drop (i + 1) xs)))) (sym here)

  pub some_goes : (o : Option B) → f x ≡ Ok o → whole ≡ after (done ++ with_some o []) (each_some f (drop (i + 1) xs))
  some_goes o e = next_some_is ∙ ap (λ r. after done (made_of_both with_some r (each_some f (drop (i + 1) xs)))) e ∙ some_more done o (each_some f (drop (i + 1) xs))

  pub some_stops : (stop : Stop) → Stops (f x) stop → Stops whole stop
  some_stops Memory e = tt
  some_stops (At kind) e = next_some_is ∙ ap (λ r. after done (made_of_both with_some r (each_some f (drop (i + 1) xs)))) e

pub each_ends : {A B : Type 0} (f : A → Result B FaultKind) (whole : Result (List B) FaultKind) (done : List B) (xs : List A) (i : ℕ) → length xs ≤ i → whole ≡ after done (each f (drop i xs)) → whole ≡ Ok done
each_ends f whole done xs i past so_far = so_far ∙ ap (after done) (at_drop_all (each f) xs i past) ∙ after_all done

pub some_ends : {A B : Type 0} (f : A → Result (Option B) FaultKind) (whole : Result (List B) FaultKind) (done : List B) (xs : List A) (i : ℕ) → length xs ≤ i → whole ≡ after done (each_some f (drop i xs)) → whole ≡ Ok done
some_ends f whole done xs i past so_far = so_far ∙ ap (after done) (at_drop_all (each_some f) xs i past) ∙ after_all done

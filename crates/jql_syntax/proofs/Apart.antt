-- Looks of tokens, and two tests that no token passes together.
use Rattle.std.proofs.Common.{◌≡◌, ℕ, ◌+◌, ◌<◌, Bool, true, false, not, ◌&&◌, ◌||◌, List, [], ◌∷◌, get_or, refl, ap, sym, ◌∙◌, ◌⊎◌, inl, inr, subst, lit<}
use Rattle.std.proofs.lemmas.List.Folds.{list_all_at}
use Rattle.jql_syntax.specs.declared.token.Mark.{Mark}
use Rattle.jql_syntax.specs.declared.token.Mark.TheVariants.{Equals, NotEquals, Greater, GreaterOrEqual, Less, LessOrEqual, Contains, Lacks, Open, Close, Comma, And, Or, Not, Empty, In, Is, Was, Changed, Order, By, Ascending, Descending, After, Before, On, During, From, To}
use Rattle.jql_syntax.specs.declared.token.Token.{Token}
use Rattle.jql_syntax.specs.declared.token.Token.TheVariants.{Marked, Word, Name, Quoted, Custom, Bad}
use Rattle.jql_syntax.specs.Machine.{number_of, look, all_looks, are_apart}

pub differ : ◌≡◌ {A = Bool} true false → ⊥
differ e = cc

pub true_or_false : (b : Bool) → (b ≡ true) ⊎ (b ≡ false)
true_or_false true = inl refl
true_or_false false = inr refl

pub or_left : (a b : Bool) → a ≡ true → (a || b) ≡ true
or_left true b h = refl
or_left false b h = absurd (differ (sym h))

pub or_right : (a b : Bool) → b ≡ true → (a || b) ≡ true
or_right true b h = refl
or_right false b h = h

pub or_cases : (a b : Bool) → (a || b) ≡ true → (a ≡ true) ⊎ (b ≡ true)
or_cases true b h = inl refl
or_cases false b h = inr h

pub not_left : (a b : Bool) → (a || b) ≡ false → a ≡ false
not_left true b h = h
not_left false b h = refl

pub not_right : (a b : Bool) → (a || b) ≡ false → b ≡ false
not_right true b h = absurd (differ h)
not_right false b h = h

pub and_both : (a b : Bool) → a ≡ true → b ≡ true → (a && b) ≡ true
and_both true b h k = k
and_both false b h k = absurd (differ (sym h))

pub and_cases : (a b : Bool) → (a && b) ≡ true → (a ≡ true) × (b ≡ true)
and_cases true b h = (refl, h)
and_cases false b h = absurd (differ (sym h))

mark_at : (m : Mark) → get_or all_looks (6 + number_of m) 0 ≡ 6 + number_of m
mark_at Equals = refl
mark_at NotEquals = refl
mark_at Greater = refl
mark_at GreaterOrEqual = refl
mark_at Less = refl
mark_at LessOrEqual = refl
mark_at Contains = refl
mark_at Lacks = refl
mark_at Open = refl
mark_at Close = refl
mark_at Comma = refl
mark_at And = refl
mark_at Or = refl
mark_at Not = refl
mark_at Empty = refl
mark_at In = refl
mark_at Is = refl
mark_at Was = refl
mark_at Changed = refl
mark_at Order = refl
mark_at By = refl
mark_at Ascending = refl
mark_at Descending = refl
mark_at After = refl
mark_at Before = refl
mark_at On = refl
mark_at During = refl
mark_at From = refl
mark_at To = refl

mark_below : (m : Mark) → 6 + number_of m < 35
mark_below Equals = lit< tt
mark_below NotEquals = lit< tt
mark_below Greater = lit< tt
mark_below GreaterOrEqual = lit< tt
mark_below Less = lit< tt
mark_below LessOrEqual = lit< tt
mark_below Contains = lit< tt
mark_below Lacks = lit< tt
mark_below Open = lit< tt
mark_below Close = lit< tt
mark_below Comma = lit< tt
mark_below And = lit< tt
mark_below Or = lit< tt
mark_below Not = lit< tt
mark_below Empty = lit< tt
mark_below In = lit< tt
mark_below Is = lit< tt
mark_below Was = lit< tt
mark_below Changed = lit< tt
mark_below Order = lit< tt
mark_below By = lit< tt
mark_below Ascending = lit< tt
mark_below Descending = lit< tt
mark_below After = lit< tt
mark_below Before = lit< tt
mark_below On = lit< tt
mark_below During = lit< tt
mark_below From = lit< tt
mark_below To = lit< tt

look_at : (ts : List Token) → get_or all_looks (look ts) 0 ≡ look ts
look_at [] = refl
look_at (Bad k ∷ ts) = refl
look_at (Word w ∷ ts) = refl
look_at (Name w ∷ ts) = refl
look_at (Quoted w ∷ ts) = refl
look_at (Custom n ∷ ts) = refl
look_at (Marked m ∷ ts) = mark_at m

look_below : (ts : List Token) → look ts < 35
look_below [] = lit< tt
look_below (Bad k ∷ ts) = lit< tt
look_below (Word w ∷ ts) = lit< tt
look_below (Name w ∷ ts) = lit< tt
look_below (Quoted w ∷ ts) = lit< tt
look_below (Custom n ∷ ts) = lit< tt
look_below (Marked m ∷ ts) = mark_below m

both_tests : (a b : Bool) → a ≡ true → b ≡ true → not (a && b) ≡ false
both_tests true true h k = refl
both_tests true false h k = absurd (differ (sym k))
both_tests false b h k = absurd (differ (sym h))

pub never_both : (p q : ℕ → Bool) (ts : List Token) → are_apart p q ≡ true → p (look ts) ≡ true → q (look ts) ≡ true → ⊥
unfolding are_apart
never_both p q ts h a b =
    let P : ℕ → Type 0 = λ k. not (p k && q k) ≡ false in
    let e : P (get_or all_looks (look ts) 0) = subst P (sym (look_at ts)) (both_tests (p (look ts)) (q (look ts)) a b) in
    let d = list_all_at (λ k. not (p k && q k)) all_looks (look ts) 0 (look_below ts) e in
    differ (sym h ∙ d)

-- what one test says of the other
pub apart_right : (p q : ℕ → Bool) (ts : List Token) → are_apart p q ≡ true → p (look ts) ≡ true → q (look ts) ≡ false
apart_right p q ts h a = elim (true_or_false (q (look ts))) [ inl b ↦ absurd (never_both p q ts h a b) | inr b ↦ b ]

pub apart_left : (p q : ℕ → Bool) (ts : List Token) → are_apart p q ≡ true → q (look ts) ≡ true → p (look ts) ≡ false
apart_left p q ts h b = elim (true_or_false (p (look ts))) [ inl a ↦ absurd (never_both p q ts h a b) | inr a ↦ a ]

-- marks with one number are one
pub all_marks : List Mark
all_marks = Equals ∷ NotEquals ∷ Greater ∷ GreaterOrEqual ∷ Less ∷ LessOrEqual ∷ Contains ∷ Lacks ∷ Open ∷ Close ∷ Comma ∷ And ∷ Or ∷ Not ∷ Empty ∷ In ∷ Is ∷ Was ∷ Changed ∷ Order ∷ By ∷ Ascending ∷ Descending ∷ After ∷ Before ∷ On ∷ During ∷ From ∷ To ∷ []

numbered : (m : Mark) → get_or all_marks (number_of m) Equals ≡ m
unfolding all_marks
numbered Equals = refl
numbered NotEquals = refl
numbered Greater = refl
numbered GreaterOrEqual = refl
numbered Less = refl
numbered LessOrEqual = refl
numbered Contains = refl
numbered Lacks = refl
numbered Open = refl
numbered Close = refl
numbered Comma = refl
numbered And = refl
numbered Or = refl
numbered Not = refl
numbered Empty = refl
numbered In = refl
numbered Is = refl
numbered Was = refl
numbered Changed = refl
numbered Order = refl
numbered By = refl
numbered Ascending = refl
numbered Descending = refl
numbered After = refl
numbered Before = refl
numbered On = refl
numbered During = refl
numbered From = refl
numbered To = refl

pub same_mark : (m n : Mark) → number_of m ≡ number_of n → m ≡ n
same_mark m n h = sym (numbered m) ∙ ap (λ k. get_or all_marks k Equals) h ∙ numbered n

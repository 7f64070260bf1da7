-- Taking the ends of a filter's cells away, one issue after the other.
use Rattle.std.proofs.Common.{◌⊎◌, ◌≡◌, ◌≢◌, ℕ, ◌+◌, ◌<◌, ◌≤◌, None, List, refl, ◌∙◌, ap, inl, inr, arith}
use Rattle.std.proofs.lemmas.Bool.{cases_eq}
use Rattle.filter_views.specs.declared.due.Due.{Due}
use Rattle.filter_views.specs.RowParts.{RowParts}
use Rattle.filter_views.specs.Heap.{IsHeap}
use Rattle.filter_views.specs.Agreement.{Agree, end_in, PutsEnd, TakesEnds}

pub takes_none : (ds : List Due) (rs : List RowParts) (f : ℕ) → Agree ds rs → IsHeap ds → TakesEnds ds rs ds rs f 0
takes_none ds rs f agree heap = record { agree = agree; heap = heap; same = refl; gone = λ j pos le. absurd (omega (arith, pos, le)); others = λ g j n. refl }

pub takes_more : (ds es hs : List Due) (rs ss ts : List RowParts) (f n m : ℕ) → m ≡ n + 1 → TakesEnds ds rs es ss f n → PutsEnd es ss hs ts f m None → TakesEnds ds rs hs ts f (n + 1)
takes_more ds es hs rs ss ts f n m is t p = record {
  agree = p.agree;
  heap = p.heap;
  same = p.same ∙ t.same;
  gone = λ j pos le. gone j pos le (cases_eq j m);
  others = λ g j n. p.others g j (λ a b. n a) ∙ t.others g j n;
}
  where
    gone : (j : ℕ) → 0 < j → j ≤ n + 1 → (j ≡ m) ⊎ (j ≢ m) → end_in hs ts f j ≡ None
    gone j pos le (inl e) = ap (λ k. end_in hs ts f k) e ∙ p.here
    gone j pos le (inr e) = p.others f j (λ a b. e b) ∙ t.gone j pos (omega (arith, le, is, e))

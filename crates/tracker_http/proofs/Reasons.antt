-- Each status of a response has a reason.
use Rattle.std.proofs.Common.{◌≡◌, ℕ, ◌==◌, List, [], ◌∷◌, Bool, true, false, IsTrue, ◌||◌, ◌&&◌, is_some, nat_le, nat_lt, refl, sym, subst, rules, eqb-true}
use Rattle.std.specs.List.{list_any, list_all}
use Rattle.http.specs.StatusCode.{reason_phrase}
use Rattle.tracker_http.specs.Response.{IsStatus, statuses}

-- what holds of all the numbers holds of one among them
among : (p : ℕ → Bool) (x s : ℕ) (same holds others later : Bool) → (x == s) ≡ same → p x ≡ holds → (IsTrue others → IsTrue later → IsTrue (p s))
    → IsTrue (holds && others) → IsTrue (same || later) → IsTrue (p s)
among p x s true true others later same holds go all is = subst (λ k. IsTrue (p k)) (eqb-true x s same) (subst IsTrue (sym holds) (search rules))
among p x s false true others later same holds go all is = go all is
among p x s true false others later same holds go all is = absurd (search rules)
among p x s false false others later same holds go all is = absurd (search rules)

each : (p : ℕ → Bool) (s : ℕ) (xs : List ℕ) → IsTrue (list_all p xs) → IsTrue (list_any (λ x. x == s) xs) → IsTrue (p s)
each p s [] all is = absurd (search rules)
each p s (x ∷ xs) all is = among p x s (x == s) (p x) (list_all p xs) (list_any (λ y. y == s) xs) refl refl (each p s xs) all is

pub has_reason : (s : ℕ) → IsStatus s → IsTrue (is_some (reason_phrase s))
has_reason s is = each (λ n. is_some (reason_phrase n)) s statuses (search rules) is

pub is_code : (s : ℕ) → IsStatus s → IsTrue (nat_le 100 s && nat_lt s 1000)
is_code s is = each (λ n. nat_le 100 n && nat_lt n 1000) s statuses (search rules) is

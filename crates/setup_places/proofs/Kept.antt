-- What is kept of bytes that are read, as more of them are.
use Rattle.std.proofs.Common.{◌≡◌, ℕ, List, ◌++◌, Option, Some, None, sym, ap, ◌∙◌, subst, append_assoc, arith, inl, inr}
use Rattle.std.specs.Io.KnownBytes.{Consumes, Keeps, prepend_known}
use Rattle.setup_places.specs.Kept.{AreKept, AreAdded}

more : (now later : Option (List ℕ)) (kept bytes all : List ℕ) → prepend_known kept now ≡ Some all → Consumes now later bytes → prepend_known (kept ++ bytes) later ≡ Some all
more None later kept bytes all before read = absurd (cc)
more (Some left) None kept bytes all before read = absurd read
more (Some left) (Some rest) kept bytes all before read =
    ap Some (append_assoc kept bytes rest ∙ ap (λ (zs : List ℕ). kept ++ zs) (sym read)) ∙ before

still : (now later : Option (List ℕ)) (kept all : List ℕ) → prepend_known kept now ≡ Some all → Keeps now later → prepend_known kept later ≡ Some all
still None later kept all before same = absurd (cc)
still (Some left) None kept all before same = absurd same
still (Some left) (Some rest) kept all before same = ap (λ (zs : List ℕ). Some (kept ++ zs)) same ∙ before

pub kept_more : (first now later : Option (List ℕ)) (kept bytes new_kept : List ℕ) (most new_most : ℕ) → AreKept first now kept most → Consumes now later bytes
    → AreAdded most kept bytes new_most new_kept → AreKept first later new_kept new_most
kept_more first now later kept bytes new_kept most new_most before read (inl (added, same)) =
    λ some all is.
    subst (λ (zs : List ℕ). prepend_known zs later ≡ Some all) (sym added) (more now later kept bytes all (before (omega (arith, some, same)) all is) read)
kept_more first now later kept bytes new_kept most new_most before read (inr (none, no_more)) = λ some all is. absurd (omega (arith, some, no_more))

pub kept_still : (first now later : Option (List ℕ)) (kept : List ℕ) (most : ℕ) → AreKept first now kept most → Keeps now later → AreKept first later kept most
kept_still first now later kept most before same = λ some all is. still now later kept all (before some all is) same

use Rattle.std.proofs.Common.{◌≡◌, ℕ, Option, Some, None, IfSome, IfNone, true, false, not, ap, sym, ◌∙◌}
use Rattle.std.specs.Option.{is_some}
use Rattle.std.proofs.lemmas.Bool.{false≢true}
use Rattle.tracker_cli.proofs.serving.serve.Goals as goal

none_there : {N : Type 0} (r : Option ℕ) → is_some r ≡ false → IfNone r N → N
none_there None e n = n
none_there (Some x) e n = absurd (false≢true (sym e))

some_there : {S : ℕ → Type 0} (r : Option ℕ) → is_some r ≡ true → IfSome r S → ((n : ℕ) → S n → ⊥) → ⊥
some_there None e s none = false≢true e
some_there (Some x) e s none = none x s

pub returns-then-is_none-clause-usage : goal.returns-then-is_none-clause-usage
returns-then-is_none-clause-usage g c = λ _.
    none_there c.port_in.result (c.is_none.ensures ∙ ap not c.if-is_none.true) c.port_in.ensures.none

pub returns-clause-words : goal.returns-clause-words
returns-clause-words g c = λ none.
    absurd (some_there c.port_in.result (c.is_none.ensures ∙ ap not c.if-is_none.false) c.port_in.ensures.some none)

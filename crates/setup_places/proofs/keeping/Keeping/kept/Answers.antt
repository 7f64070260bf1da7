use Rattle.std.proofs.Common.{◌<◌, ℕ, List, length, sym, subst, arith}
use Rattle.setup_places.proofs.keeping.Keeping.kept.Goals as goal

pub returns-clause-short : goal.returns-clause-short
returns-clause-short g c =
    let short = c.args.self.now.short in
    let within = c.args.self.now.within in
    subst (λ (kept : List ℕ). length kept < 4294967296) (sym c.deref.ensures.value) (omega (arith, short, within))

-- Members of an object.
use Rattle.std.proofs.Common.{◌≡◌, ℕ, suc, List, [], ◌∷◌, length, refl, ap}
use Rattle.std.specs.Borrow.{Bor}
use Rattle.std.specs.declared.alloc.Global.{Global}
use Rattle.json.specs.Json.{object}
use Rattle.json.specs.Value.{members_view}
use Rattle.json.specs.declared.value.Value.{Value}
use Rattle.row_lines.specs.RowText.{count_members}

pub counted : (ms : List (Bor (List ℕ) × Value Global)) → length ms ≡ count_members (members_view ms)
counted [] = refl
counted (m ∷ ms) = ap suc (counted ms)

use Rattle.std.proofs.Common.{◌≡◌, drop}
use Rattle.std.specs.List.{list_all}
use Rattle.json.specs.Value.{value_view}
use Rattle.call_lines.specs.Plain.{Named, is_plain}
use Rattle.call_lines.proofs.plain_line.are_plain.Given as goal

-- they are plain where those that are left are
abbrev pub invariant-loop-member : goal.invariant-loop-member
invariant-loop-member l =
    list_all (λ (m : Named). is_plain (value_view m.1)) l.members
    ≡ list_all (λ (m : Named). is_plain (value_view m.1)) (drop l.member-index l.members)

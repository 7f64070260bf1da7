use Rattle.std.proofs.Common.{◌≡◌, ◌-◌, ◌+◌, ◌++◌, length, take, drop, sym, rules, arith}
use Rattle.std.proofs.lemmas.List.{take_at}
use Rattle.rank_strings.proofs.Reading.{parts_of_text, read_from_parts}
use Rattle.rank_strings.proofs.rank.Rank.read.Goals as goal

pub returns-then-not-read_digits-2 : goal.returns-then-not-read_digits-2
returns-then-not-read_digits-2 c = λ r h.
    let p = parts_of_text _ _ _ _ c.in-Some.ensures.0 c.in-Some.ensures.1 r h in
    c.if-not-read_digits-2.ensures r.further h.is_rank.further_digits p.further

-- the digits that were read fill the room that was made for them
pub returns : goal.returns
returns c =
    let front = c.read_digits.new.digits in
    let further = c.read_digits-2.new.digits in
    let furthers = c.if-not-read_digits-2.ensures in
    let fronts = c.if-not-read_digits.ensures in
    let lengths : length further ≡ c.in_ok-further.further.len = search rules in
    let whole : take c.in_ok-further.further.len (further ++ drop (length further) c.in_ok-further.further.items) ≡ further = take_at _ _ _ lengths in
    let six : length front ≡ 6 = search rules in
    let bucket : 48 + (c.in-Some.bucket - 48) ≡ c.in-Some.bucket = omega arith in
    read_from_parts c.args.bytes.now (record { bucket = c.in-Some.bucket - 48; front = front; further = further }) c.new.result
    fronts.0 furthers.0 six
    (simp (bucket, fronts.1, furthers.1) (sym c.in-Some.ensures.0))
    (rw whole at c.new.ensures)

use Rattle.std.proofs.Common.{◌≡◌, ◌<◌, ◌≤◌, length, false, get_or, arith, sym, ◌∙◌, ap}
use Rattle.std.specs.Char.{to_ascii_lowercase}
use Rattle.std.proofs.lemmas.Bool.{eqb-true, eqb-false}
use Rattle.std.proofs.lemmas.Slice.Zip.{zip_turn, zip_end}
use Rattle.jql_present.proofs.Bytes.{another_byte, byte_in_front, same_bytes, same_so_far}
use Rattle.jql_present.proofs.words.is_word.Goals as goal
use Rattle.jql_present.proofs.words.is_word.Goals.{else-one-other-via-then-one-other+else-not-eq_ignore_ascii_case, else-one-other-via-else-one-other, else-not-is_empty-via-then-not-is_empty+else-not-wanted, else-not-is_empty-via-else-not-is_empty}

pub returns-then-not-eq_ignore_ascii_case : goal.returns-then-not-eq_ignore_ascii_case
returns-then-not-eq_ignore_ascii_case c =
    let front = c.in-Some.ensures.cases in
    let long : length c.as_bytes-sought.result.now ≡ length c.args.wanted.now.text = ap length (c.as_bytes-sought.ensures.value ∙ c.as_str.ensures) in
    let turn = zip_turn c.args.wanted.now.text c.in-Some.front.now c.loop-one.yielded c.into_iter-one-iterator.result c.loop-one.one-iterator c.next.new.self c.next.result (cc) (cc) c.loop-one.yielded_by (c.in-Some-2.one, c.in-Some-2.other) c.in-Some-2.is c.next.ensures.steps in
    let within : length c.loop-one.yielded < length c.as_bytes-sought.result.now = omega (arith, turn.0, long) in
    let other : c.in-Some-2.other.now ≡ get_or c.args.word.now (length c.loop-one.yielded) 0 =
    turn.3 0 ∙ byte_in_front c.args.word.now c.in-Some.front.now (length c.as_bytes-sought.result.now) (length c.loop-one.yielded) front.1 within in
    sym (another_byte c.args.wanted.now c.args.word.now (length c.loop-one.yielded) turn.0 (λ same. eqb-false _ _ (sym c.if-not-eq_ignore_ascii_case.ensures) (ap to_ascii_lowercase (turn.2 0) ∙ same ∙ sym (ap to_ascii_lowercase other))))

pub loop-one-preserved : goal.loop-one-preserved
loop-one-preserved c =
    let front = c.in-Some.ensures.cases in
    let long : length c.as_bytes-sought.result.now ≡ length c.args.wanted.now.text = ap length (c.as_bytes-sought.ensures.value ∙ c.as_str.ensures) in
    let turn = zip_turn c.args.wanted.now.text c.in-Some.front.now c.loop-one.yielded c.into_iter-one-iterator.result c.loop-one.one-iterator c.next.new.self c.next.result (cc) (cc) c.loop-one.yielded_by (c.in-Some-2.one, c.in-Some-2.other) c.in-Some-2.is c.next.ensures.steps in
    let within : length c.loop-one.yielded < length c.as_bytes-sought.result.now = omega (arith, turn.0, long) in
    let other : c.in-Some-2.other.now ≡ get_or c.args.word.now (length c.loop-one.yielded) 0 =
    turn.3 0 ∙ byte_in_front c.args.word.now c.in-Some.front.now (length c.as_bytes-sought.result.now) (length c.loop-one.yielded) front.1 within in
    let same : to_ascii_lowercase c.in-Some-2.one.now ≡ to_ascii_lowercase c.in-Some-2.other.now =
    elim c.else-one-other.branch [
      | else-one-other-via-then-one-other+else-not-eq_ignore_ascii_case w ↦ eqb-true _ _ (sym w.eq_ignore_ascii_case.ensures ∙ w.if-not-eq_ignore_ascii_case.false)
      | else-one-other-via-else-one-other w ↦ ap to_ascii_lowercase w.if-one-other.false
    ] in
    same_so_far c.loop-one.yielded (c.in-Some-2.one, c.in-Some-2.other) c.args.wanted.now.text c.args.word.now c.loop-one.invariant (sym (ap to_ascii_lowercase (turn.2 0)) ∙ same ∙ ap to_ascii_lowercase other)

pub returns : goal.returns
returns c =
    let front = c.in-Some.ensures.cases in
    let long : length c.as_bytes-sought.result.now ≡ length c.args.wanted.now.text = ap length (c.as_bytes-sought.ensures.value ∙ c.as_str.ensures) in
    let ended = zip_end c.args.wanted.now.text c.in-Some.front.now c.loop-one.yielded c.into_iter-one-iterator.result c.loop-one.one-iterator c.next.new.self c.next.result (cc) (cc) c.loop-one.yielded_by c.in-None.is c.next.ensures.steps in
    let whole : c.args.wanted.now.prefix ≡ false → length c.args.word.now ≤ length c.args.wanted.now.text =
    elim c.else-not-is_empty.branch [
      | else-not-is_empty-via-then-not-is_empty+else-not-wanted w ↦ λ none. absurd (cc (none, w.if-not-wanted.false))
      | else-not-is_empty-via-else-not-is_empty w ↦ λ none. grind (arith, long, front, c.is_empty.ensures, w.if-not-is_empty.false)
    ] in
    sym (same_bytes c.args.wanted.now c.args.word.now (omega (arith, long, front.0)) whole (λ k within. c.loop-one.invariant k (omega (arith, ended, long, front.3))))

use Rattle.std.proofs.Common.{◌≤◌, ◌+◌, ◌∙◌, ap, length, sym, arith}
use Rattle.jql_present.proofs.Runs.{ahead_at_first, ahead_in_a_word, ahead_of_none, ahead_of_another, none_in_short, none_in_rest}
use Rattle.jql_present.proofs.words.has_word.Goals as goal
use Rattle.jql_present.proofs.words.has_word.Goals.{then-not-is_word_byte+else-begin-at+else-begin-last, else-begin-at-via-then-begin-at+else-is_word, else-begin-at-via-else-begin-at, else-not-is_word_byte}

pub loop-at-init : goal.loop-at-init
loop-at-init c = record { order = omega arith; same = ahead_at_first c.args.wanted.now c.args.text.now }

pub loop-at-preserved : goal.loop-at-preserved
loop-at-preserved c =
    let order : c.loop-at.begin ≤ c.loop-at.at = c.loop-at.invariant.order in
    elim c.if-not-is_word_byte.branch [
      | then-not-is_word_byte+else-begin-at+else-begin-last w ↦
          let none = sym c.is_word_byte.ensures ∙ w.if-not-is_word_byte.true in
          elim w.else-begin-at.branch [
            | else-begin-at-via-then-begin-at+else-is_word w' ↦ record {
              order = omega (arith, w.begin-is);
              same = rw w.begin-is (c.loop-at.invariant.same ∙ ahead_of_another c.args.wanted.now c.args.text.now c.loop-at.begin c.loop-at.at order c.loop-at-test.true none (sym w'.is_word.ensures ∙ w'.if-is_word.false));
            }
            | else-begin-at-via-else-begin-at w' ↦ record {
              order = omega (arith, w.begin-is);
              same = rw w.begin-is (c.loop-at.invariant.same ∙ ahead_of_none c.args.wanted.now c.args.text.now c.loop-at.begin c.loop-at.at order w'.if-begin-at.false c.loop-at-test.true none);
            }
          ]
      | else-not-is_word_byte w ↦ record {
        order = omega (arith, w.begin-is, order);
        same = rw w.begin-is (c.loop-at.invariant.same ∙ ahead_in_a_word c.args.wanted.now c.args.text.now c.loop-at.begin c.loop-at.at order c.loop-at-test.true (sym c.is_word_byte.ensures ∙ w.if-not-is_word_byte.false));
      }
    ]

pub returns-in_default : goal.returns-in_default
returns-in_default c = sym (none_in_short c.args.wanted.now c.args.text.now (omega (arith, ap length c.as_str.ensures, c.in_default.ensures)))

pub returns-then-begin-last : goal.returns-then-begin-last
returns-then-begin-last c =
    let order : c.loop-at.begin ≤ c.loop-at.at = c.loop-at.invariant.order in
    let none = sym c.is_word_byte.ensures ∙ c.if-not-is_word_byte.true in
    let rest = none_in_rest c.args.wanted.now c.args.text.now (c.loop-at.at + 1) (omega arith) (omega (arith, ap length c.as_str.ensures, c.in-Some.ensures)) in
    elim c.else-begin-at.branch [
      | else-begin-at-via-then-begin-at+else-is_word w ↦
          sym (c.loop-at.invariant.same ∙ ahead_of_another c.args.wanted.now c.args.text.now c.loop-at.begin c.loop-at.at order c.loop-at-test.true none (sym w.is_word.ensures ∙ w.if-is_word.false) ∙ rest)
      | else-begin-at-via-else-begin-at w ↦
          sym (c.loop-at.invariant.same ∙ ahead_of_none c.args.wanted.now c.args.text.now c.loop-at.begin c.loop-at.at order w.if-begin-at.false c.loop-at-test.true none ∙ rest)
    ]

use Rattle.std.proofs.Common.{arith, sym, ◌∙◌}
use Rattle.short_texts.proofs.ShortTexts.{used_up}
use Rattle.short_texts.proofs.short_text.bytes_order.Goals as goal

pub returns : goal.returns
returns c =
    c.cmp-2.ensures
    ∙ sym (c.loop-at.invariant ∙ used_up c.args.bytes.now c.args.other.now c.loop-at.at (omega (arith, c.min-at-end.ensures)))

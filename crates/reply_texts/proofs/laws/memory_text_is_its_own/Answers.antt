use Rattle.std.proofs.Common.{◌≡◌, codes, subst, refl, ap, lit<, sym}
use Rattle.std.specs.Prelude.{slice_index}
use Rattle.std.specs.Fmt.{digits}
use Rattle.serde_json.proofs.OnLiterals.{serde_json_on_literals}
use Rattle.reply_texts.specs.Reply.{reply_text}
use Rattle.tracker_calls.specs.declared.reply.Reply.{Reply}
use Rattle.tracker_calls.specs.declared.reply.Reply.TheVariants as reply
use Rattle.tracker_calls.specs.declared.reply.Refusal.TheVariants as refusal
use Rattle.reply_texts.proofs.Numbers.{apart, HasNumberAlone, cause_apart, memory_alone}
use Rattle.reply_texts.proofs.laws.memory_text_is_its_own.Goals as goal

-- an answer's text differs from a refusal's at its third byte
its_own : (r : Reply) → reply_text r ≡ codes "{\"refused\":{\"no\":15}}" → r ≡ reply.Refused refusal.Memory
unfolding digits serde_json_on_literals reply_text
its_own (reply.Ok a) e = absurd (apart 111 114 (lit< tt) (ap (λ l. slice_index l 2) e))
its_own (reply.Refused (refusal.Cause c)) e = absurd (cause_apart c (subst HasNumberAlone (sym e) memory_alone))
its_own (reply.Refused refusal.Keeper) e = absurd (apart 52 53 (lit< tt) (ap (λ l. slice_index l 18) e))
its_own (reply.Refused refusal.Memory) e = refl

pub returns : goal.returns
returns c = its_own c.args.reply.now

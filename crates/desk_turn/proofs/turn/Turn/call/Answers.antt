use Rattle.std.proofs.Common.{◌≡◌, ◌∷◌, ◌++◌, [], sym}
use Rattle.desk_turn.specs.declared.entry.Entry.{Entry}
use Rattle.desk_turn.proofs.Calls.{of_some, in_turn, can_enter}
use Rattle.desk_turn.proofs.turn.Turn.call.Goals as goal

pub enter_call-requires-clause-entered : goal.enter_call-requires-clause-entered
enter_call-requires-clause-entered g c =
    let h = g.V.Kept.history in
    let o = g.V.Kept.origin in
    let it = in_turn h o c.args.seat.now.me c.draw-ticket.new.seat.me c.await_turn.new.seat.me c.take_value-value.new.seat.me c.give_back.new.seat.me
    c.draw-ticket.result c.take_value-value.result c.enter-answer.new.self c.requires.rests.0 c.requires.rests.1 c.draw-ticket.ensures.drawn c.await_turn.ensures.turn
    c.take_value-value.ensures.taken.0 c.take_value-value.ensures.taken.1 c.give_back.ensures.put c.enter-answer.ensures.origin in
    let e : Entry g.row.V-Ask.Denot g.row.V-Told.Denot = record { by = c.args.caller; ask = c.args.ask.now; told = c.in-Ok-Some.told } in
    let en = can_enter h o c.args.seat.now.me.0 c.draw-ticket.result c.take_value-value.result c.enter-answer.new.self c.give_back.new.seat.me it e (sym c.requires.may.0) (of_some _ (λ told. h c.enter-answer.new.self ≡ h c.take_value-value.result ++ record { by = c.args.caller; ask = c.args.ask.now; told = told } ∷ []) c.in-Ok-Some.field-0 c.in-Ok-Some.told c.in-Ok-Some.field-0-is c.in-Ok-Some.ensures.told) in
    (c.enter-answer.new.self, e, en.0, en.1, en.2, en.3)

use Rattle.std.proofs.Common.{rules, refl, inl}
use Rattle.request_lines.specs.Causes.{FailsAt, next_call}
use Rattle.request_lines.proofs.memory_sink.MemorySinkSink.write.Goals as goal

pub returns-then-contains-clause-fails : goal.returns-then-contains-clause-fails
returns-then-contains-clause-fails c =
    let told : FailsAt c.args.self.now.failing.items (next_call c.args.self.now.calls) = search rules in
    (λ _. inl told, λ _. refl)

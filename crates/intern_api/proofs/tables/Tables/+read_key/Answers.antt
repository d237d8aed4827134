use Rattle.std.proofs.Common.{sym, ◌∙◌, ap, subst, take, add-one, arith}
use Rattle.std.specs.List.{AllZip}
use Rattle.std.proofs.lemmas.Grind.{common_steps}
use Rattle.intern_api.specs.Interning.{Holds}
use Rattle.intern_api.proofs.ReadLaws.{read_built, read_next, read_whole}
use Rattle.intern_api.proofs.tables.Tables.+read_key.Goals as goal

pub read_within-returns-in-Ok : goal.read_within-returns-in-Ok
read_within-returns-in-Ok t c = read_built c.build.result c.args.self.now c.args.handle c.in-Some.entry.now c.in-Ok.parts.items (sym c.in-Some.ensures) (λ ks held. c.in-Ok.ensures ks (subst (λ l. AllZip (Holds c.args.self.now) l ks) (sym c.as_slice.ensures) held)) c.build.ensures

pub read_all-loop-handle-preserved : goal.read_all-loop-handle-preserved
read_all-loop-handle-preserved t c ks held = c.in_ok-push.ensures.items ∙ read_next c.args.self.now c.args.handles.now ks c.loop-handle.handle-index _ c.in_ok-key.key c.loop-handle.keys.items c.in_ok-key.ensures held (c.loop-handle.invariant ks held) c.loop-handle-test.true (grind (arith, common_steps)) ∙ ap (λ n. take n ks) (sym (add-one _))

pub read_all-returns : goal.read_all-returns
read_all-returns t c ks held = read_whole c.args.self.now c.args.handles.now ks c.loop-handle.handle-index c.loop-handle.keys.items c.loop-handle-test.false held (c.loop-handle.invariant ks held)

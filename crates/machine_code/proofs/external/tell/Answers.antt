use Rattle.std.proofs.Common.{◌≡◌, map, sym, ap, ◌∙◌, refl, drop, length}
use Rattle.operation_model.specs.Values as values
use Rattle.operation_model.specs.Calling.{packed}
use Rattle.machine_model.specs.Worlds as worlds
use Rattle.run_code.specs.Views.{bits_of, packing_of}
use Rattle.machine_code.proofs.RunLaws.{unanswered_is, trace_more, call_with}
use Rattle.machine_code.proofs.external.tell.Goals as goal

pub returns : goal.returns
returns c = record {
  values =
      c.in_ok-packed.ensures
      ∙ ap (packed (packing_of c.args.f.now.face.packing)) (c.in_ok-values.ensures ∙ ap (map values.Integer) (c.as_slice-2.ensures ∙ c.in_ok-replies.ensures));
  answers = unanswered_is c.args.outputs.now c.args.machine.now.answers.now ∙ sym c.answers_behind-machine.ensures;
  trace =
      trace_more c.args.machine.now.trace c.push.new.self c.in_ok-call.call _ c.in_ok-push.ensures.ok
      (c.in_ok-call.ensures ∙ ap (λ ns. call_with c.args.f.now.name (bits_of c.args.inputs.now) c.args.ns.now (bits_of c.args.outputs.now) ns) (c.as_slice.ensures ∙ c.in_ok-replies.ensures));
  place = refl;
  callers = refl;
}

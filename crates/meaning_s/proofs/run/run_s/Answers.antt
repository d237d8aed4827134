use Rattle.std.proofs.Common.{sym, ap, ◌∙◌}
use Rattle.run_code.specs.Views.{functions_of}
use Rattle.meaning_model.specs.Buffers.{no_heap}
use Rattle.outcome_code.specs.Outcomes.{end_of}
use Rattle.meaning_s.proofs.run.run_s.Goals as goal

pub returns-clause-room : goal.returns-clause-room
returns-clause-room c = λ e.
    c.law_always_room.ensures (functions_of c.as_slice.result.now) c.as_slice-2.result.now c.args.args.now c.args.answers.now c.args.fuel
    (ap (λ r. r.end) (c.law_forms.ensures (functions_of c.as_slice.result.now) c.as_slice-2.result.now c.args.args.now c.args.answers.now c.args.fuel)
    ∙ sym (c.in_ok-run_over.ensures no_heap c.no_buffers-memory.ensures).end ∙ ap end_of e)

use Rattle.std.proofs.Common.{rules, ◌∙◌, ap, sym}
use Rattle.pipeline_text.specs.Reading.{IsRefused, ReadsAs}
use Rattle.tool_words.specs.Parsed.{plain_settings}
use Rattle.tool_words.specs.declared.request.WordsRead.TheVariants.{Refused}
use Rattle.tool_words.proofs.Stages.{many_workers, one_worker, pipeline_found, pipeline_unread, refused_pipeline}
use Rattle.tool_words.proofs.reading.with_settings.Goals as goal

pub returns-in-Ok : goal.returns-in-Ok
returns-in-Ok c =
    let reads : ReadsAs c.args.settings.pipeline.now c.in-Ok.field-0.stages = search rules in
    ap (λ t. Refused t) c.in_ok-from_slice-in-Ok.ensures
    ∙ sym (many_workers (plain_settings c.args.settings) c.in-Ok.field-0 c.if-settings-gt1.true (pipeline_found c.args.settings.pipeline.now c.in-Ok.field-0.stages reads))

pub returns-in-Ok-2 : goal.returns-in-Ok-2
returns-in-Ok-2 c =
    let reads : ReadsAs c.args.settings.pipeline.now c.in-Ok.field-0.stages = search rules in
    sym (one_worker (plain_settings c.args.settings) c.in-Ok.field-0 c.if-settings-gt1.false (pipeline_found c.args.settings.pipeline.now c.in-Ok.field-0.stages reads))

pub returns-in-Err-At : goal.returns-in-Err-At
returns-in-Err-At c =
    let refused : IsRefused c.args.settings.pipeline.now c.in-Err-At.place c.in-Err-At.kind = search rules in
    ap (λ t. Refused t) c.in_ok-refused-in-Err-At.ensures
    ∙ sym (refused_pipeline (plain_settings c.args.settings) c.in-Err-At.place c.in-Err-At.kind (pipeline_unread c.args.settings.pipeline.now c.in-Err-At.place c.in-Err-At.kind refused))

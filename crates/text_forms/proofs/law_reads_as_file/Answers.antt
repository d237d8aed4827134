use Rattle.text_forms.proofs.Spans.{reads_as_file}
use Rattle.text_forms.proofs.law_reads_as_file.Goals as goal

pub returns : goal.returns
returns c = reads_as_file

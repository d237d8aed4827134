use Rattle.std.proofs.Common.{refl}
use Rattle.std.specs.Char.{encode_utf8}
use Rattle.std.specs.Fmt.{digits}
use Rattle.std.specs.Str.{chars, is_utf8}
use Rattle.pipeline_text.specs.Grammar.{pipeline, item_part, whole_part, nested_part, anchor_word, pass_part, wide_part, plain_part, pass_word, option_part, value_word}
use Rattle.pipeline_text.specs.Words.{tokens_of, word_kind}
use Rattle.tool_words.specs.Examples.{AreRead, forms, pipelines, values}
use Rattle.tool_words.specs.Pipelines.{pipeline_of}
use Rattle.tool_words.proofs.laws.law_examples.Goals as goal

forms_read : AreRead forms
unfolding is_utf8 chars encode_utf8 pipeline_of pipeline item_part whole_part nested_part anchor_word pass_part wide_part plain_part pass_word option_part value_word tokens_of word_kind digits
forms_read = refl

values_read : AreRead values
unfolding is_utf8 chars encode_utf8 pipeline_of pipeline item_part whole_part nested_part anchor_word pass_part wide_part plain_part pass_word option_part value_word tokens_of word_kind digits
values_read = refl

pipelines_read : AreRead pipelines
unfolding is_utf8 chars encode_utf8 pipeline_of pipeline item_part whole_part nested_part anchor_word pass_part wide_part plain_part pass_word option_part value_word tokens_of word_kind digits
pipelines_read = refl

pub returns : goal.returns
returns c = (forms_read, values_read, pipelines_read)

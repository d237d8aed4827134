use Rattle.std.proofs.Common.{◌≡◌, drop}
use Rattle.std.specs.List.{list_all}
use Rattle.rule_model.specs.Forms.{is_flag}
use Rattle.attribute_tests.proofs.forms.all_flags.Given as goal

abbrev pub invariant-loop-word : goal.invariant-loop-word
invariant-loop-word l = list_all is_flag (drop l.word-index l.words) ≡ list_all is_flag l.words

-- The command as `clap` sees it, built.
use Rattle.std.proofs.Common.{◌≡◌, List, [], ◌∷◌, Some, true, refl, codes}
use Rattle.clap.specs.Simple.{Shape, built, is_simple}
use Rattle.clap.specs.Faults.{is_simple_and_free}
use Rattle.clap.specs.Walk.{Rule, Text}
use Rattle.clap.specs.declared.builder.action.ArgAction.TheVariants.{Set}
use Rattle.clap.specs.declared.builder.value_parser.ValueParser.TheVariants as vp
use Rattle.tool_words.specs.Parsed.{app, option_rule, flag_rule}

-- the rules of an option and of the flag, filled in
abbrev pub option_of : Text → Rule
option_of name = record (option_rule name) {
  action = Some Set;
  range = Some (record { start_inclusive = 1; end_inclusive = 1 });
  parser = Some vp.String;
}

abbrev pub flag_of : Rule
flag_of = record flag_rule {
  range = Some (record { start_inclusive = 0; end_inclusive = 0 });
  parser = Some vp.Bool;
  defaults = codes "false" ∷ [];
  missing = codes "true" ∷ [];
}

abbrev pub rules : List Rule
rules = option_of (codes "pass-pipeline") ∷ option_of (codes "workers") ∷ flag_of ∷ option_of (codes "run") ∷ option_of (codes "args") ∷ option_of (codes "fuel") ∷ []

abbrev pub top : Shape
top = (built app).top

pub rules_are : top.rules ≡ rules
rules_are = refl

pub no_subs : (built app).subs ≡ []
no_subs = refl

pub simple : is_simple app ≡ true
simple = refl

pub simple_and_free : is_simple_and_free app ≡ true
simple_and_free = refl

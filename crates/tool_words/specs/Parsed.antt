-- The command that `clap` is given, and what its matches show.
use Rattle.std.specs.Borrow.{Bor}
use Rattle.std.specs.Prelude.{◌≡◌, ℕ, Bool, true, false, not, List, Option, Some, codes, option_map}
use Rattle.std.specs.List.{list_all}
use Rattle.clap.specs.Simple.{App, on_top, new_app, new_rule, with_rule}
use Rattle.clap.specs.Walk.{Rule, Text}
use Rattle.clap.specs.Words.{first_value, one_text}
use Rattle.clap.specs.declared.parser.matches.Found.{Found}
use Rattle.clap.specs.declared.builder.action.ArgAction.TheVariants.{SetTrue}
use Rattle.tool_words.specs.declared.command.Given.{Given}
use Rattle.tool_words.specs.declared.settings.Settings.{Settings}
use Rattle.tool_words.specs.Settings as asked
use Rattle.tool_words.specs.Uses as plain
use Rattle.tool_words.specs.Uses.{flag}
use Rattle.tool_words.specs.Words.{is_short}

-- an option with a long name
abbrev pub option_rule : Text → Rule
option_rule name = record (new_rule name) { long = Some name }

abbrev pub flag_rule : Rule
flag_rule = record (new_rule flag) { long = Some flag; action = Some SetTrue }

-- a command without words for help and version, whose first word is no name of a program
abbrev pub plain_app : App
plain_app = on_top (λ s. record s { no_binary_name = true; disable_help_flag = true; disable_version_flag = true }) (new_app (codes "mlir_lower"))

abbrev pub app : App
app = with_rule (with_rule (with_rule (with_rule (with_rule (with_rule plain_app (option_rule (codes "pass-pipeline"))) (option_rule (codes "workers"))) flag_rule)
    (option_rule (codes "run"))) (option_rule (codes "args"))) (option_rule (codes "fuel"))

-- what is given, and what is asked, as plain data

abbrev pub text_given : Option (Bor (List ℕ)) → Option (List ℕ)
text_given = option_map (λ s. s.now)

abbrev pub plain_given : Given → plain.Given
plain_given g = record {
  pipeline = text_given g.pipeline;
  workers = text_given g.workers;
  allowed = g.allowed;
  run = text_given g.run;
  args = text_given g.args;
  fuel = text_given g.fuel;
}

abbrev pub plain_settings : Settings → asked.Settings
plain_settings s = record { pipeline = s.pipeline.now; workers = s.workers; allowed = s.allowed; run = s.run }

-- what is given is what was found
pub record Shows (f : Found) (g : plain.Given) : Type 0 where
  pub pipeline : g.pipeline ≡ first_value f (codes "pass-pipeline")
  pub workers : g.workers ≡ first_value f (codes "workers")
  pub run : g.run ≡ first_value f (codes "run")
  pub args : g.args ≡ first_value f (codes "args")
  pub fuel : g.fuel ≡ first_value f (codes "fuel")
  pub allowed : one_text f flag ≡ Some (codes "true") → g.allowed ≡ true
  pub forbidden : one_text f flag ≡ Some (codes "false") → g.allowed ≡ false

-- none of the words begins with one hyphen alone
abbrev pub none_is_short : List (List ℕ) → Bool
none_is_short = list_all (λ word. not (is_short word))

-- What values the options may have, and what they are where they are not used.
use Rattle.std.specs.Prelude.{ℕ, ℤ, Bool, ◌||◌, List, [], Option, Some, None, option_and_then, option_map, codes, if◌then◌else◌, is_some, unwrap_or}
use Rattle.tool_words.specs.declared.request.RunWords.{RunWords}
use Rattle.tool_words.specs.Uses.{Given, given}
use Rattle.tool_words.specs.Numbers.{number_in, integers_of}

-- what the words ask for, where the text of the pipeline is not read yet
pub record Settings : Type 0 where
  pub pipeline : List ℕ
  pub workers : ℕ
  pub allowed : Bool
  pub run : Option RunWords

-- the value that f reads, or a default where the option is not used
abbrev pub or_default : {X : Type 0} → X → (List ℕ → Option X) → Option (List ℕ) → Option X
or_default default f None = Some default
or_default default f (Some text) = f text

-- 1 to 64 workers, one by default
abbrev pub workers_in : Option (List ℕ) → Option ℕ
workers_in = or_default 1 (number_in 1 64)

-- arguments, none by default
abbrev pub args_in : Option (List ℕ) → Option (List ℤ)
args_in = or_default [] integers_of

-- 0 to 1000000 units of fuel, 100000 by default
abbrev pub fuel_in : Option (List ℕ) → Option ℕ
fuel_in = or_default 100000 (number_in 0 1000000)

abbrev pub run_of : List ℕ → Option (List ℤ) → Option ℕ → Option RunWords
run_of name args fuel = option_and_then (λ a. option_map (λ f. record { name = name; args = a; fuel = f }) fuel) args

-- a run, if one is asked for; without one neither arguments nor fuel may stand
abbrev pub run_in : Option (List ℕ) → Option (List ℕ) → Option (List ℕ) → Option (Option RunWords)
run_in (Some name) args fuel = option_map Some (run_of name (args_in args) (fuel_in fuel))
run_in None args fuel = if is_some args || is_some fuel then None else Some None

abbrev pub settings_of : Given → Option Settings
settings_of g = option_and_then (λ workers. option_map (λ run. record {
  pipeline = unwrap_or g.pipeline (codes "builtin.module()");
  workers = workers;
  allowed = g.allowed;
  run = run;
}) (run_in g.run g.args g.fuel)) (workers_in g.workers)

-- what the words ask for; none where they are not in the command set
abbrev pub settings_in : List (List ℕ) → Option Settings
settings_in words = option_and_then settings_of (given words)

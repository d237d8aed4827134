-- A run has no more fuel than may be asked for.
use Rattle.std.proofs.Common.{◌≡◌, ◌≤◌, ℕ, ℤ, List, Option, Some, None, Result, Ok, Err, Bool, true, false, refl, arith, codes, nat_le}
use Rattle.std.specs.Prelude.{◌&&◌, if◌then◌else◌, option_and_then, option_map, nat_lt, unwrap_or}
use Rattle.std.proofs.lemmas.Bool.{leb-true}
use Rattle.std.specs.Str.Parse.{digits_value}
use Rattle.pipeline_text.specs.declared.pass.Pipeline.{Pipeline}
use Rattle.pipeline_text.specs.declared.refusal.PipelineKind.{PipelineKind}
use Rattle.tool_words.specs.declared.request.RunWords.{RunWords}
use Rattle.tool_words.specs.declared.request.WordsRead.TheVariants.{Asked, Refused}
use Rattle.tool_words.specs.Numbers.{is_digits, number_in}
use Rattle.tool_words.specs.Pipelines.{pipeline_of}
use Rattle.tool_words.specs.Promises.{HasLittleFuel, RunHasLittleFuel}
use Rattle.tool_words.specs.Reading.{pipeline_read, settings_read, workers_text, words_read}
use Rattle.tool_words.specs.Settings.{Settings, args_in, fuel_in, run_in, run_of, settings_of, workers_in}
use Rattle.tool_words.specs.Uses.{Given, given}

abbrev Most : Option ℕ → Type 0
Most None = Unit {0}
Most (Some n) = n ≤ 1000000

third : (a b c : Bool) → (a && b && c) ≡ true → c ≡ true
third true true c e = e
third true false c e = absurd cc
third false b c e = absurd cc

number_most : (text : List ℕ) → Most (number_in 0 1000000 text)
number_most text = go (is_digits text && nat_le 0 (digits_value 10 text) && nat_le (digits_value 10 text) 1000000) refl
  where
    go : (b : Bool) → (is_digits text && nat_le 0 (digits_value 10 text) && nat_le (digits_value 10 text) 1000000) ≡ b → Most (if b then Some (digits_value 10 text) else None)
    go true e =
        leb-true (digits_value 10 text) 1000000
        (third (is_digits text) (nat_le 0 (digits_value 10 text)) (nat_le (digits_value 10 text) 1000000) e)
    go false e = tt

fuel_most : (text : Option (List ℕ)) → Most (fuel_in text)
fuel_most None = omega arith
fuel_most (Some text) = number_most text

abbrev RunMost : Option (Option RunWords) → Type 0
RunMost None = Unit {0}
RunMost (Some run) = RunHasLittleFuel run

of_most : (name : List ℕ) (args : Option (List ℤ)) (fuel : Option ℕ) → Most fuel → RunMost (option_map Some (run_of name args fuel))
of_most name None fuel h = tt
of_most name (Some a) None h = tt
of_most name (Some a) (Some f) h = h

run_most : (run args fuel : Option (List ℕ)) → RunMost (run_in run args fuel)
run_most (Some name) args fuel = of_most name (args_in args) (fuel_in fuel) (fuel_most fuel)
run_most None None None = tt
run_most None None (Some f) = tt
run_most None (Some a) fuel = tt

abbrev SettingsMost : Option Settings → Type 0
SettingsMost None = Unit {0}
SettingsMost (Some s) = RunHasLittleFuel s.run

settings_most : (g : Given) → SettingsMost (settings_of g)
settings_most g = go (workers_in g.workers) (run_in g.run g.args g.fuel) (run_most g.run g.args g.fuel)
  where
    go : (w : Option ℕ) (r : Option (Option RunWords)) → RunMost r → SettingsMost (option_and_then (λ workers. option_map (λ run. record {
      pipeline = unwrap_or g.pipeline (codes "builtin.module()");
      workers = workers;
      allowed = g.allowed;
      run = run;
    }) r) w)
    go None r h = tt
    go (Some w) None h = tt
    go (Some w) (Some r) h = h

read_most : (s : Settings) (r : Result Pipeline (ℕ × PipelineKind)) → RunHasLittleFuel s.run → HasLittleFuel (pipeline_read s r)
read_most s (Ok p) h = go (nat_lt 1 s.workers)
  where
    go : (b : Bool) → HasLittleFuel (if b then Refused workers_text else Asked (record { pipeline = p; allowed = s.allowed; run = s.run }))
    go true = tt
    go false = h
read_most s (Err refused) h = tt

pub little_fuel : (words : List (List ℕ)) → HasLittleFuel (words_read words)
little_fuel words = go (given words)
  where
    by_settings : (o : Option Settings) → SettingsMost o → HasLittleFuel (settings_read o)
    by_settings None h = tt
    by_settings (Some s) h = read_most s (pipeline_of s.pipeline) h

    go : (o : Option Given) → HasLittleFuel (settings_read (option_and_then settings_of o))
    go None = tt
    go (Some g) = by_settings (settings_of g) (settings_most g)

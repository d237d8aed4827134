use Rattle.std.proofs.Common.{◌≡◌, ap, ◌∙◌, Bor}
use Rattle.std.specs.Prelude.{Option}
use Rattle.std.specs.Option.{option_map}
use Rattle.run_code.specs.declared.function.Function.{Function}
use Rattle.run_code.specs.Views.{function_of}
use Rattle.decode_code.proofs.FinderLemmas.{two_steps}
use Rattle.decode_code.proofs.finder.Finder.find.Goals as goal

pub returns : goal.returns
returns c =
    two_steps c.copied.result
    ∙ ap (λ (o : Option (Bor Function)). option_map (λ f. function_of f.now) o) (c.copied.ensures ∙ c.get.ensures.value)
    ∙ c.requires c.args.name

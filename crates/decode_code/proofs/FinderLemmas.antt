-- One function more in front of those that a table has.
use Rattle.std.proofs.Common.{◌≡◌, ℕ, Bool, true, false, List, ◌∷◌, cond, Bor, refl, ap, ◌∙◌}
use Rattle.std.specs.Prelude.{Option, Some, None}
use Rattle.std.specs.Option.{option_copied, option_map}
use Rattle.std.specs.Str.{bytes_eq}
use Rattle.run_code.specs.declared.function.Function.{Function}
use Rattle.run_code.specs.Views.{function_of, functions_of}
use Rattle.form_model.specs.Codes.{find_function}

found : (b : Bool) (r : Bor Function) (before : Option (Bor Function)) → option_map (λ f. function_of f.now) (cond b (Some r) before) ≡ cond b (Some (function_of r.now)) (option_map (λ f. function_of f.now) before)
found true r before = refl
found false r before = refl

pub found_more : (name key : List ℕ) (r : Bor Function) (fs : List Function) (before now : Option (Bor Function))
    → key ≡ r.now.name → now ≡ cond (bytes_eq key name) (Some r) before
    → option_map (λ f. function_of f.now) before ≡ find_function name (functions_of fs)
    → option_map (λ f. function_of f.now) now ≡ find_function name (functions_of (r.now ∷ fs))
found_more name key r fs before now e put was =
    ap (λ o. option_map (λ f. function_of f.now) o) (put ∙ ap (λ k. cond (bytes_eq k name) (Some r) before) e)
    ∙ found (bytes_eq r.now.name name) r before
    ∙ ap (λ o. cond (bytes_eq r.now.name name) (Some (function_of r.now)) o) was

pub two_steps : (o : Option (Bor Function)) → option_map function_of (option_copied o) ≡ option_map (λ f. function_of f.now) o
two_steps None = refl
two_steps (Some r) = refl

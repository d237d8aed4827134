-- What a table of functions by their names stands for.
use Rattle.std.specs.Prelude.{◌≡◌, List, ℕ}
use Rattle.std.specs.Borrow.{Bor}
use Rattle.std.specs.Option.{option_map}
use Rattle.std.specs.HashMap.{HashMap, get_by}
use Rattle.std.specs.Str.{bytes_eq}
use Rattle.std.specs.declared.hash.FoldHasher.{FoldHasher}
use Rattle.std.specs.declared.hash.BuildHasherDefault.{BuildHasherDefault}
use Rattle.run_code.specs.declared.function.Function.{Function}
use Rattle.run_code.specs.Views.{function_of, functions_of}
use Rattle.form_model.specs.Codes.{find_function}

-- functions by their names
abbrev pub Table : Type 0
Table = HashMap (Bor (List ℕ)) (Bor Function) (BuildHasherDefault FoldHasher)

-- the table has for each name the first of these functions that has it
abbrev pub Stands : Table → List Function → Type 0
Stands table fs =
    (name : Bor (List ℕ)) → option_map (λ f. function_of f.now) (get_by (λ key. bytes_eq name.now key.now) table) ≡ find_function name.now (functions_of fs)

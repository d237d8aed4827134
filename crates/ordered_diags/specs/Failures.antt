-- The two lines of a failed unit, which is a function and a pass that fails on it.
use Rattle.std.specs.Prelude.{◌≡◌, ℕ, List, [], ◌∷◌, ◌++◌, flat_map, map, codes}
use Rattle.std.specs.Fmt.{decimal}
use Rattle.tree_text.specs.NameText.{byte_text, name_text}
use Rattle.ordered_diags.specs.declared.diag.Diag.{Diag}

-- what failed: the positions of the function and the pass, their names (an empty one where the function has none), the number and the name of the operation, and how many patterns have its name
pub record Failure : Type 0 where
  pub function : ℕ
  pub pass : ℕ
  pub function_name : List ℕ
  pub pass_name : List ℕ
  pub operation : ℕ
  pub operation_name : List ℕ
  pub patterns : ℕ

-- the function as a symbol: '@' and its name
abbrev pub symbol_text : List ℕ → List ℕ
symbol_text name = codes "@" ++ name_text name

-- the operation's name stands between two "'" as it would in a string
abbrev pub error_text : Failure → List ℕ
error_text f = codes "error: " ++ symbol_text f.function_name ++ codes ": " ++ f.pass_name ++ codes ": operation " ++ decimal f.operation
    ++ codes " '" ++ flat_map byte_text f.operation_name ++ codes "' is not legalised"

abbrev pub note_text : Failure → List ℕ
note_text f = codes "note: patterns with this root: " ++ decimal f.patterns

-- the error, and the note behind it
unfoldable pub lines_of : Failure → List Diag
lines_of f =
    record { function = f.function; pass = f.pass; sequence = 0; place = f.operation; text = error_text f }
    ∷ record { function = f.function; pass = f.pass; sequence = 1; place = f.operation; text = note_text f }
    ∷ []

-- an example: the first pass of a list fails on the function "a b", at an operation that no pattern has
abbrev pub LinesOfAFailure : Type 0
LinesOfAFailure =
    map (λ (d : Diag). d.text)
    (lines_of (record { function = 0; pass = 0; function_name = codes "a b"; pass_name = codes "arith-expand"; operation = 7; operation_name = codes "arith.\"x"; patterns = 0 }))
    ≡ codes "error: @\"a b\": arith-expand: operation 7 'arith.\\22x' is not legalised" ∷ codes "note: patterns with this root: 0" ∷ []

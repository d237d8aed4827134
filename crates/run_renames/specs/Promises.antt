-- What the laws promise. A run's result is its end with the results of the function, its calls of external functions and its memory.
use Rattle.std.specs.Prelude.{◌≡◌, ℕ, List, ℤ, Option, map}
use Rattle.std.specs.Option.{option_map}
use Rattle.pipeline_text.specs.declared.pass.Pipeline.{Pipeline}
use Rattle.tree_model.specs.declared.op_tree.ModuleTree.{ModuleTree}
use Rattle.plain_tree.specs.Ops.{Op, PlainModule, module_tree, plain_func}
use Rattle.conversion_model.specs.Targets.{name_of}
use Rattle.conversion_model.specs.Uses.{operations}
use Rattle.pattern_model.specs.Fold.{Folded}
use Rattle.fold_model.specs.FreshFolds.{IsFold}
use Rattle.form_model.specs.Codes.{Face, find_function}
use Rattle.form_model.specs.Decoding.{functions_of}
use Rattle.meaning_model.specs.Meaning.{means_l, means_s}
use Rattle.run_renames.specs.Renamed.{IsRenamed}

-- the same runs of S: of each function, with any arguments, answers, fuel and width of `index`
abbrev pub SameS : ModuleTree → ModuleTree → Type 0
SameS m n = (name : List ℕ) (args answers : List ℤ) (fuel bits : ℕ) → means_s m name args answers fuel bits ≡ means_s n name args answers fuel bits

-- the same runs of L: of each function, with any arguments, answers, cells and fuel
abbrev pub SameL : ModuleTree → ModuleTree → Type 0
SameL m n = (name : List ℕ) (args answers : List ℤ) (cells fuel : ℕ) → means_l m name args answers cells fuel ≡ means_l n name args answers cells fuel

-- the names of a function's operations, itself and those at each depth, in the order of its text
abbrev pub names_in : Op → List (List ℕ)
names_in f = map (λ o. name_of o.1) (operations f)

-- what the function of this name shows, where an `index` has so many bits
abbrev pub face_of : ℕ → ModuleTree → List ℕ → Option Face
face_of bits m name = option_map (λ f. f.face) (find_function name (functions_of bits m))

-- The same runs, with what is wanted to print them: what functions show, and the names of operations in order. So what is told by names
-- alone, as whether all operations are llvm ones, is the same too.
pub record SameRun (m n : ModuleTree) : Type 0 where
  pub structured : SameS m n
  pub cells : SameL m n
  pub faces : (bits : ℕ) (name : List ℕ) → face_of bits m name ≡ face_of bits n name
  pub names : map names_in (map plain_func m.funcs) ≡ map names_in (map plain_func n.funcs)

-- modules that are the same but for numbers have the same runs of S
abbrev pub RenamedS : Type 0
RenamedS = (value label : ℕ → ℕ → ℕ) (m n : ModuleTree) → IsRenamed value label m n → SameS m n

-- and of L
abbrev pub RenamedL : Type 0
RenamedL = (value label : ℕ → ℕ → ℕ) (m n : ModuleTree) → IsRenamed value label m n → SameL m n

-- whichever new numbers two folds of one pipeline over one module take: what they make has the same runs
abbrev pub FoldsRun : Type 0
FoldsRun = (p : Pipeline) (m : PlainModule) (r s : Folded) → IsFold p m r → IsFold p m s → SameRun (module_tree r.module_behind) (module_tree s.module_behind)

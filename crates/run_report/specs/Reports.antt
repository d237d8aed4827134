-- What is printed on two runs: one of the module that was read, one of the module that the pipeline gave.
use Rattle.std.specs.Prelude.{◌≡◌, ℕ, ◌*◌, ◌^◌, List, [], ◌++◌, ℤ, codes, if◌then◌else◌}
use Rattle.tree_model.specs.declared.op_tree.ModuleTree.{ModuleTree}
use Rattle.plain_tree.specs.Ops.{plain_module}
use Rattle.form_model.specs.Decoding.{functions_of}
use Rattle.meaning_model.specs.Meaning.{means_s, means_l}
use Rattle.run_lines.specs.Lines.{result_text}
use Rattle.llvm_only.specs.Llvm.{is_all_llvm}

-- what is to be run: a function by its name, with arguments and fuel, where an `index` has so many bits
pub record Request : Type 0 where
  pub name : List ℕ
  pub args : List ℤ
  pub fuel : ℕ
  pub bits : ℕ

-- the bytes of memory of a run by the meaning of llvm operations
abbrev pub cells : ℕ
cells = 2 ^ 24

-- a run by the structured meaning, in which each external call answers 0
unfoldable pub structured_text : Request → ModuleTree → List ℕ
structured_text q m = result_text (functions_of q.bits m) q.name (means_s m q.name q.args [] q.fuel q.bits)

-- the same by the meaning of llvm operations, with 100 times the fuel: several of these may stand for one other
unfoldable pub llvm_text : Request → ModuleTree → List ℕ
llvm_text q m = result_text (functions_of 64 m) q.name (means_l m q.name q.args [] cells (100 * q.fuel))

abbrev pub source_text : Request → ModuleTree → List ℕ
source_text q m = codes "source: " ++ structured_text q m

abbrev pub lowered_text : Request → ModuleTree → List ℕ
lowered_text q m = codes "lowered: " ++ (if is_all_llvm (plain_module m) then llvm_text q m else structured_text q m)

-- the text is what is printed where the second module was made of the first one
abbrev pub RunText : ModuleTree → ModuleTree → Request → List ℕ → Type 0
RunText source lowered q text = text ≡ source_text q source ++ lowered_text q lowered

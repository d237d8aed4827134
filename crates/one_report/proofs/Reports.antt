-- What is printed on runs of modules that are the same but for numbers.
use Rattle.std.proofs.Common.{◌≡◌, ℕ, Bool, List, [], ◌∷◌, ◌++◌, Option, Some, None, map, refl, sym, ap, ◌∙◌}
use Rattle.std.specs.Prelude.{◌*◌, ◌&&◌, codes, if◌then◌else◌}
use Rattle.std.specs.List.{list_all}
use Rattle.std.specs.Option.{option_map, unwrap_or}
use Rattle.tree_model.specs.declared.op_tree.ModuleTree.{ModuleTree}
use Rattle.plain_tree.specs.Ops.{Op, Ops, Regions, Blocks, plain_func, plain_module}
use Rattle.plain_tree.specs.Renamings.{RenOp, ren_op, RenOps, ops_ended, ren_more, RenRegions, regions_ended, ren_region, RenBlocks, blocks_ended, ren_block}
use Rattle.fold_renames.proofs.FoldRenames.{AllAlike, more_alike, none_alike}
use Rattle.form_model.specs.Properties.{if_some}
use Rattle.form_model.specs.Codes.{Face, Function, find_function}
use Rattle.form_model.specs.Decoding.{functions_of}
use Rattle.machine_model.specs.Worlds.{ExternalCall}
use Rattle.meaning_model.specs.Meaning.{Result}
use Rattle.run_lines.specs.Lines.{call_line, call_lines, end_text, inputs_of, outputs_of, result_text}
use Rattle.llvm_only.specs.Llvm.{blocks_llvm, is_all_llvm, is_llvm, op_llvm, ops_llvm, regions_llvm}
use Rattle.run_report.specs.Reports.{Request, cells, llvm_text, lowered_text, structured_text}
use Rattle.run_renames.specs.Promises.{SameRun}
use Rattle.run_renames.proofs.RenamedModules.{same_run}
use Rattle.one_run.proofs.Runs.{lowered_alike}
use Rattle.one_report.specs.Texts.{OneReport}

-- Whether all operations are llvm ones

mutual
  op_same : {R L : ℕ → ℕ → Type 0} {o p : Op} → RenOp R L o p → op_llvm o ≡ op_llvm p
  op_same (ren_op {k = k} results operands held successors) = ap (λ b. is_llvm k.name && b) (regions_same held)

  ops_same : {R L : ℕ → ℕ → Type 0} {o p : Ops} → RenOps R L o p → ops_llvm o ≡ ops_llvm p
  ops_same ops_ended = refl
  ops_same (ren_more {p = p} {os = os} o rest) = ap (λ b. b && ops_llvm os) (op_same o) ∙ ap (λ b. op_llvm p && b) (ops_same rest)

  regions_same : {R L : ℕ → ℕ → Type 0} {o p : Regions} → RenRegions R L o p → regions_llvm o ≡ regions_llvm p
  regions_same regions_ended = refl
  regions_same (ren_region {c = c} {r = r} b rest) = ap (λ x. x && regions_llvm r) (blocks_same b) ∙ ap (λ x. blocks_llvm c && x) (regions_same rest)

  blocks_same : {R L : ℕ → ℕ → Type 0} {o p : Blocks} → RenBlocks R L o p → blocks_llvm o ≡ blocks_llvm p
  blocks_same blocks_ended = refl
  blocks_same (ren_block {ps = ps} {b = b} l args ops rest) = ap (λ x. x && blocks_llvm b) (ops_same ops) ∙ ap (λ x. ops_llvm ps && x) (blocks_same rest)

all_same : {fs gs : List Op} → AllAlike fs gs → list_all op_llvm fs ≡ list_all op_llvm gs
all_same none_alike = refl
all_same (more_alike f g fs gs a rest) = ap (λ b. b && list_all op_llvm fs) (op_same a.same) ∙ ap (λ b. op_llvm g && b) (all_same rest)

-- Lines: they look at functions only by what these show

abbrev face_in : Option Function → Option Face
face_in o = option_map (λ (f : Function). f.face) o

inputs_in : (o : Option Function) → if_some o (λ (f : Function). f.face.inputs) ≡ if_some (face_in o) (λ (s : Face). s.inputs)
inputs_in None = refl
inputs_in (Some f) = refl

outputs_in : (o : Option Function) → if_some o (λ (f : Function). f.face.outputs) ≡ if_some (face_in o) (λ (s : Face). s.outputs)
outputs_in None = refl
outputs_in (Some f) = refl

module _ (fs gs : List Function) (faces : (name : List ℕ) → face_in (find_function name fs) ≡ face_in (find_function name gs)) where
  inputs_same : (name : List ℕ) → inputs_of fs name ≡ inputs_of gs name
  inputs_same name =
      ap (λ (o : Option (List ℕ)). unwrap_or o [])
      (inputs_in (find_function name fs) ∙ ap (λ (o : Option Face). if_some o (λ (s : Face). s.inputs)) (faces name) ∙ sym (inputs_in (find_function name gs)))

  outputs_same : (name : List ℕ) → outputs_of fs name ≡ outputs_of gs name
  outputs_same name =
      ap (λ (o : Option (List ℕ)). unwrap_or o [])
      (outputs_in (find_function name fs) ∙ ap (λ (o : Option Face). if_some o (λ (s : Face). s.outputs)) (faces name) ∙ sym (outputs_in (find_function name gs)))

  calls_same : (trace : List ExternalCall) → call_lines fs trace ≡ call_lines gs trace
  calls_same [] = refl
  calls_same (c ∷ cs) =
      ap (λ ws. call_line ws (outputs_of fs c.name) c ++ call_lines fs cs) (inputs_same c.name)
      ∙ ap (λ ws. call_line (inputs_of gs c.name) ws c ++ call_lines fs cs) (outputs_same c.name)
      ∙ ap (λ rest. call_line (inputs_of gs c.name) (outputs_of gs c.name) c ++ rest) (calls_same cs)

  result_same : {S : Type 0} (name : List ℕ) (r s : Result S) → r ≡ s → result_text fs name r ≡ result_text gs name s
  result_same name r s e =
      ap (λ ws. end_text ws r.end ++ codes "\n" ++ call_lines fs r.trace) (outputs_same name) ∙ ap (λ ls. end_text (outputs_of gs name) r.end ++ codes "\n" ++ ls) (calls_same r.trace)
      ∙ ap (result_text gs name) e

-- Both

either_same : (b c : Bool) (x y z w : List ℕ) → b ≡ c → x ≡ z → y ≡ w → (if b then x else y) ≡ (if c then z else w)
either_same b c x y z w e same other = ap (λ d. if d then x else y) e ∙ ap (λ t. if c then t else y) same ∙ ap (λ t. if c then z else t) other

text_same : (m n : ModuleTree) → is_all_llvm (plain_module m) ≡ is_all_llvm (plain_module n) → SameRun m n → (q : Request) → lowered_text q m ≡ lowered_text q n
unfolding llvm_text structured_text
text_same m n all same q =
    ap (λ t. codes "lowered: " ++ t)
    (either_same (is_all_llvm (plain_module m)) (is_all_llvm (plain_module n)) (llvm_text q m) (structured_text q m) (llvm_text q n) (structured_text q n) all
    (result_same (functions_of 64 m) (functions_of 64 n) (same.faces 64) q.name _ _ (same.cells q.name q.args [] cells (100 * q.fuel)))
    (result_same (functions_of q.bits m) (functions_of q.bits n) (same.faces q.bits) q.name _ _ (same.structured q.name q.args [] q.fuel q.bits)))

pub one_report : OneReport
one_report p m a b here there =
    let alike : AllAlike (map plain_func a.module_behind.funcs) (map plain_func b.module_behind.funcs) = lowered_alike p m a b here there in
    record { all_llvm = all_same alike; text = text_same a.module_behind b.module_behind (all_same alike) (same_run a.module_behind b.module_behind alike) }

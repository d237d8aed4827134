-- Modules that are the same but for numbers have the same runs.
use Rattle.std.proofs.Common.{◌≡◌, ℕ, ◌+◌, List, [], ◌∷◌, Option, Some, None, map, refl, sym, ap, subst, ◌∙◌}
use Rattle.std.specs.Prelude.{codes}
use Rattle.std.specs.Option.{option_map}
use Rattle.tree_model.specs.declared.type_tree.TypeTree.{out-TypeTree}
use Rattle.tree_model.specs.declared.op_tree.ModuleTree.{ModuleTree}
use Rattle.plain_tree.specs.Ops.{Op, func_tree, module_tree, plain_func, plain_module}
use Rattle.plain_tree.specs.Values.{types_of}
use Rattle.plain_tree.specs.Renamings.{OneToOne, RenOp, ren_op}
use Rattle.plain_tree.proofs.OpTrip.{module_trip}
use Rattle.plain_tree.proofs.OpOpens.{op_again}
use Rattle.conversion_model.specs.Targets.{name_of}
use Rattle.conversion_model.proofs.RenamedTypes.{name_same, types_agree}
use Rattle.conversion_model.proofs.RenamedUses.{RenListed, listed_ended, more_listed, operations_ren}
use Rattle.fold_renames.proofs.FreshRenames.{Alike}
use Rattle.fold_renames.proofs.FoldRenames.{AllAlike, folds_alike, more_alike, none_alike}
use Rattle.form_model.specs.Codes.{Blocks, Function, find_function}
use Rattle.form_model.specs.Types.{shape_of}
use Rattle.form_model.specs.Properties.{Entries, if_some, text_of, type_of}
use Rattle.form_model.specs.Decoding.{Signature, functions_of, put_function, signature_at}
use Rattle.meaning_model.specs.Buffers.{ask_heap, no_heap}
use Rattle.meaning_model.specs.Cells.{ask_cells, no_cells}
use Rattle.meaning_model.specs.Meaning.{stepped, structured}
use Rattle.meaning_model.proofs.Runs.{same_forms}
use Rattle.code_laws.specs.PlainCodes.{body_of, function_with, plain_function, plain_functions, props_of}
use Rattle.code_laws.proofs.SameCodes.{same_codes}
use Rattle.run_renames.specs.Renamed.{AreRenamed, Takes}
use Rattle.run_renames.specs.Promises.{FoldsRun, RenamedL, RenamedS, SameL, SameRun, SameS, face_of, names_in}
use Rattle.run_renames.proofs.RenamedCodes.{CodeBlocks, body_ren}
use Rattle.run_renames.proofs.RenamedRuns.{FoundRen, none_found, one_found, FunctionsRen, no_function, one_function, found_ren, stepped_same}

-- Functions

module _ (bits : ℕ) (R L : ℕ → ℕ → Type 0) (one : OneToOne R) (labels : OneToOne L) {b c : Blocks} (blocks : CodeBlocks R L b c) where
  with_name : {A : Type 0} (o : Option A) (next after : A → Option Function) → ((x : A) → FoundRen (next x) (after x)) → FoundRen (if_some o next) (if_some o after)
  with_name None next after h = none_found
  with_name (Some x) next after h = h x

  with_signature : (name : List ℕ) (o : Option Signature)
      → FoundRen (option_map (λ s. record { name = name; face = s.face; shapes = map shape_of s.inputs; body = b }) o) (option_map (λ s. record { name = name; face = s.face; shapes = map shape_of s.inputs; body = c }) o)
  with_signature name None = none_found
  with_signature name (Some s) = one_found R L one labels blocks

  with_body : (props : Entries) → FoundRen (function_with bits props b) (function_with bits props c)
  with_body props =
      with_name (text_of (codes "sym_name") props) _ _ (λ name. with_name (type_of (codes "function_type") props) _ _ (λ t. with_signature name (signature_at bits (out-TypeTree t))))

props_same : {R L : ℕ → ℕ → Type 0} {f g : Op} → RenOp R L f g → props_of f ≡ props_of g
props_same (ren_op results operands held successors) = refl

function_ren : (bits : ℕ) (f g : Op) → Alike f g → FoundRen (plain_function bits f) (plain_function bits g)
function_ren bits f g a =
    subst (λ props. FoundRen (plain_function bits f) (function_with bits props (body_of bits (types_of g) g))) (props_same a.same)
    (with_body bits a.R a.L a.values a.labels (body_ren bits (types_of f) (types_of g) (types_agree a.values a.same) a.same) (props_of f))

put_ren : {o x : Option Function} {fs gs : List Function} → FoundRen o x → FunctionsRen fs gs → FunctionsRen (put_function o fs) (put_function x gs)
put_ren none_found rest = rest
put_ren (one_found R L one labels blocks) rest = one_function R L one labels blocks rest

functions_ren : (bits : ℕ) {fs gs : List Op} → AllAlike fs gs → FunctionsRen (plain_functions bits fs) (plain_functions bits gs)
functions_ren bits none_alike = no_function
functions_ren bits (more_alike f g fs gs a rest) = put_ren (function_ren bits f g a) (functions_ren bits rest)

faces_same : {o x : Option Function} → FoundRen o x → option_map (λ (f : Function). f.face) o ≡ option_map (λ (f : Function). f.face) x
faces_same none_found = refl
faces_same (one_found R L one labels blocks) = refl

-- Names

listed_names : {R L : ℕ → ℕ → Type 0} {os ps : List (ℕ × Op)} → RenListed R L os ps → map (λ (o : ℕ × Op). name_of o.1) os ≡ map (λ (o : ℕ × Op). name_of o.1) ps
listed_names listed_ended = refl
listed_names (more_listed {o = o} {p = p} {os = os} r rest) =
    ap (λ n. n ∷ map (λ (o : ℕ × Op). name_of o.1) os) (name_same r) ∙ ap (λ ns. name_of p ∷ ns) (listed_names rest)

names_same : {fs gs : List Op} → AllAlike fs gs → map names_in fs ≡ map names_in gs
names_same none_alike = refl
names_same (more_alike f g fs gs a rest) = ap (λ ns. ns ∷ map names_in fs) (listed_names (operations_ren a.same)) ∙ ap (λ ns. names_in g ∷ ns) (names_same rest)

-- Modules

functions_are : (bits : ℕ) (m : ModuleTree) → functions_of bits m ≡ plain_functions bits (map plain_func m.funcs)
functions_are bits m = ap (functions_of bits) (sym (module_trip m)) ∙ same_codes bits (plain_module m)

module _ (m n : ModuleTree) (funcs : AllAlike (map plain_func m.funcs) (map plain_func n.funcs)) where
  by_s : SameS m n
  by_s name args answers fuel bits =
      ap (λ fs. structured fs name args answers fuel) (functions_are bits m) ∙ same_forms (plain_functions bits (map plain_func m.funcs)) name args answers fuel
      ∙ stepped_same ask_heap (plain_functions bits (map plain_func m.funcs)) (plain_functions bits (map plain_func n.funcs)) (functions_ren bits funcs) no_heap name args answers fuel
      ∙ sym (same_forms (plain_functions bits (map plain_func n.funcs)) name args answers fuel) ∙ sym (ap (λ fs. structured fs name args answers fuel) (functions_are bits n))

  by_l : SameL m n
  by_l name args answers cells fuel =
      ap (λ fs. stepped ask_cells (no_cells cells) fs name args answers fuel) (functions_are 64 m)
      ∙ stepped_same ask_cells (plain_functions 64 (map plain_func m.funcs)) (plain_functions 64 (map plain_func n.funcs)) (functions_ren 64 funcs) (no_cells cells) name args answers fuel
      ∙ sym (ap (λ fs. stepped ask_cells (no_cells cells) fs name args answers fuel) (functions_are 64 n))

  by_faces : (bits : ℕ) (name : List ℕ) → face_of bits m name ≡ face_of bits n name
  by_faces bits name =
      ap (λ fs. option_map (λ (f : Function). f.face) (find_function name fs)) (functions_are bits m) ∙ faces_same (found_ren name (functions_ren bits funcs))
      ∙ sym (ap (λ fs. option_map (λ (f : Function). f.face) (find_function name fs)) (functions_are bits n))

  pub same_run : SameRun m n
  same_run = record { structured = by_s; cells = by_l; faces = by_faces; names = names_same funcs }

-- Renamed modules

all_alike : (value label : ℕ → ℕ → ℕ) → ((k : ℕ) → OneToOne (Takes (value k))) → ((k : ℕ) → OneToOne (Takes (label k))) → (k : ℕ) (fs gs : List Op) → AreRenamed value label k fs gs → AllAlike fs gs
all_alike value label values labels k [] [] r = none_alike
all_alike value label values labels k [] (g ∷ gs) r = absurd r
all_alike value label values labels k (f ∷ fs) [] r = absurd r
all_alike value label values labels k (f ∷ fs) (g ∷ gs) r =
    more_alike f g fs gs (record { R = Takes (value k); L = Takes (label k); values = values k; labels = labels k; same = r.0 }) (all_alike value label values labels (k + 1) fs gs r.1)

pub renamed_s : RenamedS
renamed_s value label m n r = by_s m n (all_alike value label r.values r.labels 0 (map plain_func m.funcs) (map plain_func n.funcs) r.funcs)

pub renamed_l : RenamedL
renamed_l value label m n r = by_l m n (all_alike value label r.values r.labels 0 (map plain_func m.funcs) (map plain_func n.funcs) r.funcs)

-- Folds

funcs_back : (fs : List Op) → map plain_func (map func_tree fs) ≡ fs
funcs_back [] = refl
funcs_back (f ∷ fs) = ap (λ o. o ∷ map plain_func (map func_tree fs)) (op_again f) ∙ ap (λ rest. f ∷ rest) (funcs_back fs)

pub folds_run : FoldsRun
folds_run p m r s here there =
    same_run (module_tree r.module_behind) (module_tree s.module_behind)
    (subst (λ fs. AllAlike fs (map plain_func (map func_tree s.module_behind.funcs))) (sym (funcs_back r.module_behind.funcs))
    (subst (λ gs. AllAlike r.module_behind.funcs gs) (sym (funcs_back s.module_behind.funcs)) (folds_alike p m r s here there).funcs))

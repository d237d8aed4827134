-- The functions of a module of which one has other operands.
use Rattle.std.proofs.Common.{◌≡◌, ℕ, List, [], ◌∷◌, ◌++◌, Option, Some, None, map, refl, sym, ap, ◌∙◌, subst}
use Rattle.std.specs.Option.{option_map}
use Rattle.tree_model.specs.declared.type_tree.TypeTree.{TypeTree, out-TypeTree}
use Rattle.form_model.specs.Codes.{Env, Function, Target, bind, entry}
use Rattle.form_model.specs.Codes as code
use Rattle.form_model.specs.Types.{shape_of}
use Rattle.form_model.specs.Properties.{Entries, if_some, text_of, type_of}
use Rattle.form_model.specs.Decoding.{Signature, functions_of, put_function, signature_at}
use Rattle.machine_model.specs.Machine.{Frame}
use Rattle.meaning_model.specs.Buffers.{ask_heap}
use Rattle.plain_tree.specs.Types.{PlainType}
use Rattle.plain_tree.specs.Ops.{Op, op, Ops, end_of_ops, more_ops, Regions, end_of_regions, region, Blocks, end_of_blocks, block, PlainModule, module_tree}
use Rattle.conversion_model.specs.Uses.{blocks_uses, op_uses, ops_uses, regions_uses}
use Rattle.sound_model.specs.Runs.{form_at}
use Rattle.sound_model.specs.Agreement.{AgreeFunctions, AgreesS}
use Rattle.code_laws.specs.PlainCodes.{blocks_codes, first_region, function_with, numbers_in, op_codes, ops_codes, plain_function, plain_functions, regions_codes, types_in}
use Rattle.code_laws.proofs.SameCodes.{same_codes}
use Rattle.pass_laws.specs.Promises.{with_functions}
use Rattle.cast_laws.proofs.Mapped.{SameValues, blocks_to, ops_to, regions_to}
use Rattle.cast_laws.proofs.Closed.{Closed, Invariant}
use Rattle.cast_laws.proofs.Agrees.{FunctionsMapped, ended, mapped, mapped_agree, same}

-- Codes of a tree with other operands, whose types are the same

module _ (bits : ℕ) (T : ℕ → PlainType) (to : ℕ → ℕ) (same_type : (x : ℕ) → T (to x) ≡ T x) where
  types_same : (os : List ℕ) → map T (map to os) ≡ map T os
  types_same [] = refl
  types_same (o ∷ os) = ap (λ t. t ∷ map T (map to os)) (same_type o) ∙ ap (λ ts. T o ∷ ts) (types_same os)

  mutual
    op_mapped : (o : Op) (rest rest' : code.Ops) → rest' ≡ ops_to to rest → op_codes bits T (op_uses to o) rest' ≡ ops_to to (op_codes bits T o rest)
    op_mapped (op k rs os g ls) rest rest' e =
        ap (λ ts. code.Op (form_at bits k.name k.props ts (types_in rs)) (numbers_in rs) (map to os) ls (regions_codes bits T (regions_uses to g)) rest') (types_same os)
        ∙ ap (λ x. code.Op (form_at bits k.name k.props (map T os) (types_in rs)) (numbers_in rs) (map to os) ls x rest') (regions_mapped g)
        ∙ ap (code.Op (form_at bits k.name k.props (map T os) (types_in rs)) (numbers_in rs) (map to os) ls (regions_to to (regions_codes bits T g))) e

    ops_mapped : (os : Ops) → ops_codes bits T (ops_uses to os) ≡ ops_to to (ops_codes bits T os)
    ops_mapped end_of_ops = refl
    ops_mapped (more_ops o os) = op_mapped o (ops_codes bits T os) (ops_codes bits T (ops_uses to os)) (ops_mapped os)

    pub regions_mapped : (g : Regions) → regions_codes bits T (regions_uses to g) ≡ regions_to to (regions_codes bits T g)
    regions_mapped end_of_regions = refl
    regions_mapped (region b g) = ap (λ x. code.Region x (regions_codes bits T (regions_uses to g))) (blocks_mapped b) ∙ ap (code.Region (blocks_to to (blocks_codes bits T b))) (regions_mapped g)

    blocks_mapped : (bs : Blocks) → blocks_codes bits T (blocks_uses to bs) ≡ blocks_to to (blocks_codes bits T bs)
    blocks_mapped end_of_blocks = refl
    blocks_mapped (block l args ops more) =
        ap (λ x. code.Block l (numbers_in args) x (blocks_codes bits T (blocks_uses to more))) (ops_mapped ops) ∙ ap (code.Block l (numbers_in args) (ops_to to (ops_codes bits T ops))) (blocks_mapped more)

pub first_to : (to : ℕ → ℕ) (g : code.Regions) → first_region (regions_to to g) ≡ blocks_to to (first_region g)
first_to to code.RegionsEnd = refl
first_to to (code.Region b g) = refl

-- Functions

module _ (to : ℕ → ℕ) (I : Invariant) (closed : Closed I) (same_values : (ops : code.Ops) (b : code.Blocks) (env : Env) (frames : List Frame) → I ops b env frames → SameValues to ask_heap ops env) where
  abbrev Others : List Function → List Function → Type 0
  Others = FunctionsMapped to I closed same_values

  module _ (bits : ℕ) (body body' : code.Blocks) (is : blocks_to to body ≡ body') (begins : (t : Target) → entry body ≡ Some t → (xs : List _) (e : Env) → bind t.args xs [] ≡ Some e → I t.ops body e []) (fs fs' : List Function) (more : Others fs fs') where
    abbrev make : code.Blocks → List ℕ → Signature → Function
    make b name s = record { name = name; face = s.face; shapes = map shape_of s.inputs; body = b }

    by_signature : (name : List ℕ) (s : Option Signature) → Others (put_function (option_map (make body name) s) fs) (put_function (option_map (make body' name) s) fs')
    by_signature name None = more
    by_signature name (Some s) = mapped (record { name = refl; face = refl; shapes = refl; body = is; begins = begins }) more

    by_type : (name : List ℕ) (t : Option TypeTree)
        → Others (put_function (if_some t (λ u. option_map (make body name) (signature_at bits (out-TypeTree u)))) fs) (put_function (if_some t (λ u. option_map (make body' name) (signature_at bits (out-TypeTree u)))) fs')
    by_type name None = more
    by_type name (Some t) = by_signature name (signature_at bits (out-TypeTree t))

    by_name : (name : Option (List ℕ)) (t : Option TypeTree)
        → Others (put_function (if_some name (λ n. if_some t (λ u. option_map (make body n) (signature_at bits (out-TypeTree u))))) fs) (put_function (if_some name (λ n. if_some t (λ u. option_map (make body' n) (signature_at bits (out-TypeTree u))))) fs')
    by_name None t = more
    by_name (Some name) t = by_type name t

    pub with_mapped : (props : Entries) → Others (put_function (function_with bits props body) fs) (put_function (function_with bits props body') fs')
    with_mapped props = by_name (text_of _ props) (type_of _ props)

  put_same : (o : Option Function) (fs fs' : List Function) → Others fs fs' → Others (put_function o fs) (put_function o fs')
  put_same None fs fs' more = more
  put_same (Some f) fs fs' more = same f more

  module _ (bits : ℕ) (m : PlainModule) where
    pub all_same : (fs : List Op) → Others (plain_functions bits fs) (plain_functions bits fs)
    all_same [] = ended
    all_same (f ∷ fs) = put_same (plain_function bits f) (plain_functions bits fs) (plain_functions bits fs) (all_same fs)

    pub front_same : (front fs gs : List Op) → Others (plain_functions bits fs) (plain_functions bits gs) → Others (plain_functions bits (front ++ fs)) (plain_functions bits (front ++ gs))
    front_same [] fs gs h = h
    front_same (f ∷ front) fs gs h = put_same (plain_function bits f) (plain_functions bits (front ++ fs)) (plain_functions bits (front ++ gs)) (front_same front fs gs h)

    -- Modules with such functions agree.
    pub modules_agree : (fs gs : List Op) → Others (plain_functions bits fs) (plain_functions bits gs) → AgreesS bits (with_functions m fs) (with_functions m gs)
    modules_agree fs gs h =
        subst (λ xs. AgreeFunctions xs (functions_of bits (module_tree (with_functions m gs)))) (sym (same_codes bits (with_functions m fs)))
        (subst (AgreeFunctions (plain_functions bits fs)) (sym (same_codes bits (with_functions m gs))) (mapped_agree to I closed same_values (plain_functions bits fs) (plain_functions bits gs) h))

-- The fields of a memref as types, and signatures.
use Rattle.std.proofs.Common.{◌≡◌, ℕ, zero, suc, ◌+◌, ◌<◌, ◌≤◌, Bool, false, List, [], ◌∷◌, ◌++◌, append_assoc, drop, get_or, length, map, Option, Some, None, replicate, refl, sym, ap, ◌∙◌, arith}
use Rattle.std.proofs.lemmas.List.{append-nil, drop_all, drop_more}
use Rattle.tree_model.specs.declared.type_tree.Dim.{Dim}
use Rattle.tree_model.specs.declared.type_tree.TypeTree.{TypeTree}
use Rattle.tree_model.specs.declared.type_tree.TypeTree as type
use Rattle.plain_tree.specs.Types.{PlainType, Int, Index, Memref, Func, Ptr, Void, Struct, Array, LlvmFunc, plain_type, same_type, type_tree, types_in, types_of}
use Rattle.plain_tree.proofs.TypeOpens.{plain_again, plain-Func, plain-LlvmFunc, plain-Struct, plain-Void}
use Rattle.conversion_model.specs.declared.templates.TemplateTree.{TemplateTree}
use Rattle.conversion_model.specs.Templates.{template_tree}
use Rattle.cut_code.specs.declared.frames.PartTree.{PartTree}
use Rattle.cut_code.specs.Frames.{part_tree}
use Rattle.func_rows.specs.Entries.{inputs_in}
use Rattle.conversion_model.specs.Types.{all_converted, all_parameters, both_lists, converted_type, number_type, one_list, packed, parameters, signature, signature_of}
use Rattle.type_table.specs.Trees.{tree_or_none}
use Rattle.pattern_model.specs.FuncRows.{fields_of, from_fields, part_of, same_converted}
use Rattle.row_drafts.specs.Buffers.{as_buffer}
use Rattle.func_rows.specs.Fields.{field_types}

-- the plain forms of the trees of plain types are these types
pub types_again : (ts : List PlainType) → map plain_type (map type_tree ts) ≡ ts
types_again [] = refl
types_again (t ∷ ts) = ap (λ u. u ∷ map plain_type (map type_tree ts)) (plain_again t) ∙ ap (λ us. t ∷ us) (types_again ts)

pub fields_again : (us : List TypeTree) (ts : List PlainType) → us ≡ map type_tree ts → map plain_type us ≡ ts
fields_again us ts e = ap (map plain_type) e ∙ types_again ts

-- One type

pub none_one : (p : Option PlainType) → None ≡ tree_or_none p → None ≡ one_list p
none_one None e = refl
none_one (Some x) e = cc

pub some_one : (p : Option PlainType) (t : TypeTree) (ts : List TypeTree) → Some t ≡ tree_or_none p → ts ≡ t ∷ [] → Some (map plain_type ts) ≡ one_list p
some_one None t ts e h = cc
some_one (Some x) t ts e h =
    let same : t ≡ type_tree x = cc in
    ap (λ us. Some (map plain_type us)) h ∙ ap (λ (u : PlainType). Some (u ∷ [])) (ap plain_type same ∙ plain_again x)

pub memref_parameters : (bits : ℕ) (t : PlainType) (b : List Dim × PlainType) → Some b ≡ as_buffer t → Some (field_types bits (length b.0)) ≡ parameters bits t
memref_parameters bits (Memref dims element) b e =
    let same : b ≡ (dims, element) = cc in ap (λ (c : List Dim × PlainType). Some (field_types bits (length c.0))) same
memref_parameters bits (Int n) b e = cc
memref_parameters bits Index b e = cc
memref_parameters bits (Func inputs outputs) b e = cc
memref_parameters bits Ptr b e = cc
memref_parameters bits Void b e = cc
memref_parameters bits (Struct fields) b e = cc
memref_parameters bits (Array n element) b e = cc
memref_parameters bits (LlvmFunc output inputs) b e = cc

pub other_parameters : (bits : ℕ) (t : PlainType) → None ≡ as_buffer t → one_list (converted_type bits t) ≡ parameters bits t
other_parameters bits (Memref dims element) e = cc
other_parameters bits (Int n) e = refl
other_parameters bits Index e = refl
other_parameters bits (Func inputs outputs) e = refl
other_parameters bits Ptr e = refl
other_parameters bits Void e = refl
other_parameters bits (Struct fields) e = refl
other_parameters bits (Array n element) e = refl
other_parameters bits (LlvmFunc output inputs) e = refl

-- Lists

trees_more : (xs ys : List PlainType) → map type_tree (xs ++ ys) ≡ map type_tree xs ++ map type_tree ys
trees_more [] ys = refl
trees_more (x ∷ xs) ys = ap (λ ts. type_tree x ∷ ts) (trees_more xs ys)

abbrev part_with : List TypeTree → TemplateTree → PartTree
part_with takes gives = record { takes = takes; gives = gives }

both_more : (xs ys : List PlainType) (o : Option (List PlainType)) → both_lists (Some xs) (both_lists (Some ys) o) ≡ both_lists (Some (xs ++ ys)) o
both_more xs ys None = refl
both_more xs ys (Some zs) = ap Some (sym (append_assoc xs ys zs))

-- the types behind the i-th
rest_of : (types : List TypeTree) (i : ℕ) (d : TypeTree) → i < length types → map plain_type (drop i types) ≡ plain_type (get_or types i d) ∷ map plain_type (drop (i + 1) types)
rest_of types i d h = ap (map plain_type) (drop_more types i d h)

map_more : (xs ys : List TypeTree) → map plain_type (xs ++ ys) ≡ map plain_type xs ++ map plain_type ys
map_more [] ys = refl
map_more (x ∷ xs) ys = ap (λ ts. plain_type x ∷ ts) (map_more xs ys)

-- one parameter more: of each kind of list
pub more_types : (one : PlainType → Option (List PlainType)) (all : List PlainType → Option (List PlainType))
    → ((t : PlainType) (ts : List PlainType) → all (t ∷ ts) ≡ both_lists (one t) (all ts))
    → (types : List TypeTree) (i : ℕ) (t : TypeTree) (done more new : List TypeTree) → i < length types → t ≡ get_or types i t
    → Some (map plain_type more) ≡ one (plain_type t) → new ≡ done ++ more
    → both_lists (Some (map plain_type done)) (all (map plain_type (drop i types))) ≡ both_lists (Some (map plain_type new)) (all (map plain_type (drop (i + 1) types)))
more_types one all steps types i t done more new h at is e =
    let rest : List PlainType = map plain_type (drop (i + 1) types) in
    ap (λ ts. both_lists (Some (map plain_type done)) (all ts)) (rest_of types i t h ∙ ap (λ u. plain_type u ∷ rest) (sym at))
    ∙ ap (both_lists (Some (map plain_type done))) (steps (plain_type t) rest ∙ ap (λ o. both_lists o (all rest)) (sym is))
    ∙ both_more (map plain_type done) (map plain_type more) (all rest)
    ∙ ap (λ ts. both_lists (Some ts) (all rest)) (sym (map_more done more) ∙ ap (map plain_type) (sym e))

pub no_types : (one : PlainType → Option (List PlainType)) (all : List PlainType → Option (List PlainType))
    → ((t : PlainType) (ts : List PlainType) → all (t ∷ ts) ≡ both_lists (one t) (all ts))
    → (types : List TypeTree) (i : ℕ) (t : TypeTree) (done : List TypeTree) → i < length types → t ≡ get_or types i t → None ≡ one (plain_type t)
    → both_lists (Some (map plain_type done)) (all (map plain_type (drop i types))) ≡ None
no_types one all steps types i t done h at is =
    let rest : List PlainType = map plain_type (drop (i + 1) types) in
    ap (λ ts. both_lists (Some (map plain_type done)) (all ts)) (rest_of types i t h ∙ ap (λ u. plain_type u ∷ rest) (sym at))
    ∙ ap (both_lists (Some (map plain_type done))) (steps (plain_type t) rest ∙ ap (λ o. both_lists o (all rest)) (sym is))

pub types_ended : (all : List PlainType → Option (List PlainType)) → all [] ≡ Some [] → (types : List TypeTree) (i : ℕ) (done : List TypeTree) → length types ≤ i
    → both_lists (Some (map plain_type done)) (all (map plain_type (drop i types))) ≡ Some (map plain_type done)
types_ended all ends types i done h =
    ap (λ (us : List TypeTree). both_lists (Some (map plain_type done)) (all (map plain_type us))) (drop_all i types h)
    ∙ ap (both_lists (Some (map plain_type done))) ends
    ∙ ap Some (append-nil (map plain_type done))

pub parameters_step : (bits : ℕ) (t : PlainType) (ts : List PlainType) → all_parameters bits (t ∷ ts) ≡ both_lists (parameters bits t) (all_parameters bits ts)
parameters_step bits t ts = refl

pub converted_step : (bits : ℕ) (t : PlainType) (ts : List PlainType) → all_converted bits (t ∷ ts) ≡ both_lists (one_list (converted_type bits t)) (all_converted bits ts)
converted_step bits t ts = refl

-- a list of types within a type is that list
pub inside : (ts : List PlainType) → types_of (types_in ts) ≡ ts
inside [] = refl
inside (t ∷ ts) = ap (λ us. t ∷ us) (inside ts)

-- the signature from its lists
pub signature_from : (bits : ℕ) (inputs outputs : List PlainType)
    → signature_of (all_parameters bits inputs) (all_converted bits outputs) ≡ signature bits (Func (types_in inputs) (types_in outputs))
signature_from bits inputs outputs =
    sym (ap (λ ts. signature_of (all_parameters bits ts) (all_converted bits (types_of (types_in outputs)))) (inside inputs)
    ∙ ap (λ ts. signature_of (all_parameters bits inputs) (all_converted bits ts)) (inside outputs))

-- Parts

const_numbers : (n : PlainType) (dims : List Dim) → replicate (length dims) n ≡ map (λ d. n) dims
const_numbers n [] = refl
const_numbers n (d ∷ dims) = ap (λ ts. n ∷ ts) (const_numbers n dims)

pub fields_are : (bits : ℕ) (dims : List Dim) → field_types bits (length dims) ≡ fields_of bits dims
fields_are bits dims = ap (λ (ts : List PlainType). Ptr ∷ Ptr ∷ number_type bits ∷ (ts ++ ts)) (const_numbers (number_type bits) dims)

pub is_memref : (t : PlainType) (dims : List Dim) (element : PlainType) → Some (dims, element) ≡ as_buffer t → t ≡ Memref dims element
is_memref (Memref ds u) dims element e = let same : (dims, element) ≡ (ds, u) = cc in ap (λ (b : List Dim × PlainType). Memref b.0 b.1) (sym same)
is_memref (Int n) dims element e = cc
is_memref Index dims element e = cc
is_memref (Func inputs outputs) dims element e = cc
is_memref Ptr dims element e = cc
is_memref Void dims element e = cc
is_memref (Struct fields) dims element e = cc
is_memref (Array n u) dims element e = cc
is_memref (LlvmFunc output inputs) dims element e = cc

-- Casts

pub rows_same : (p q : Option PlainType) (t u : TypeTree) (b : Bool) → Some t ≡ tree_or_none p → Some u ≡ tree_or_none q → b ≡ same_type (plain_type t) (plain_type u) → b ≡ same_converted p q
rows_same None q t u b e f h = cc
rows_same (Some x) None t u b e f h = cc
rows_same (Some x) (Some y) t u b e f h =
    let left : t ≡ type_tree x = cc in
    let right : u ≡ type_tree y = cc in
    h ∙ ap (λ z. same_type z (plain_type u)) (ap plain_type left ∙ plain_again x) ∙ ap (same_type x) (ap plain_type right ∙ plain_again y)

pub first_missing : (p q : Option PlainType) → None ≡ tree_or_none p → false ≡ same_converted p q
first_missing None q e = refl
first_missing (Some x) q e = cc

pub second_missing : (p q : Option PlainType) → None ≡ tree_or_none q → false ≡ same_converted p q
second_missing None q e = refl
second_missing (Some x) None e = refl
second_missing (Some x) (Some y) e = cc

-- the types of the fields, put one behind another
number_trees : (bits n : ℕ) → replicate n (type.Int bits) ≡ map type_tree (replicate n (number_type bits))
number_trees bits zero = refl
number_trees bits (suc n) = ap (λ ts. type.Int bits ∷ ts) (number_trees bits n)

pub fields_made : (bits rank : ℕ) (a b c d e f : List TypeTree) → a ≡ [] → b ≡ a ++ type.Ptr ∷ [] → c ≡ b ++ type.Ptr ∷ [] → d ≡ c ++ type.Int bits ∷ []
    → e ≡ d ++ replicate rank (type.Int bits) → f ≡ e ++ replicate rank (type.Int bits) → f ≡ map type_tree (field_types bits rank)
fields_made bits rank a b c d e f p q r s t u =
    let numbers : List TypeTree = replicate rank (type.Int bits) in
    let front : d ≡ type.Ptr ∷ type.Ptr ∷ type.Int bits ∷ [] =
    s ∙ ap (λ (l : List TypeTree). l ++ type.Int bits ∷ []) (r ∙ ap (λ (l : List TypeTree). l ++ type.Ptr ∷ []) (q ∙ ap (λ (l : List TypeTree). l ++ type.Ptr ∷ []) p)) in
    u ∙ ap (λ (l : List TypeTree). l ++ numbers) (t ∙ ap (λ (l : List TypeTree). l ++ numbers) front)
    ∙ ap (λ (l : List TypeTree). type.Ptr ∷ type.Ptr ∷ type.Int bits ∷ l)
    (ap (λ (l : List TypeTree). l ++ l) (number_trees bits rank) ∙ sym (trees_more (replicate rank (number_type bits)) (replicate rank (number_type bits))))

pub inputs_are : (t : TypeTree) (inputs outputs xs : List TypeTree) → t ≡ type.Func inputs outputs → xs ≡ inputs → Some (map plain_type xs) ≡ inputs_in (plain_type t)
inputs_are t inputs outputs xs e h =
    ap (λ (ts : List TypeTree). Some (map plain_type ts)) h
    ∙ ap Some (sym (inside (map plain_type inputs)))
    ∙ ap inputs_in (sym (plain-Func inputs outputs))
    ∙ ap (λ u. inputs_in (plain_type u)) (sym e)

pub part_made : (bits : ℕ) (p : PlainType) (dims : List Dim) (element : PlainType) (takes : List TypeTree) (gives : TemplateTree) → p ≡ Memref dims element
    → takes ≡ map type_tree (field_types bits (length dims)) → gives ≡ template_tree (from_fields bits dims 0) → part_with takes gives ≡ part_tree (part_of bits p)
part_made bits p dims element takes gives e f g =
    ap (λ (ts : List TypeTree). part_with ts gives) (f ∙ ap (map type_tree) (fields_are bits dims))
    ∙ ap (part_with (map type_tree (fields_of bits dims))) g
    ∙ ap (λ q. part_tree (part_of bits q)) (sym e)

-- What results become

pub pack_none : (types : List TypeTree) → length types < 1 → plain_type type.Void ≡ packed (map plain_type types)
pack_none [] h = plain-Void
pack_none (t ∷ ts) h = absurd (omega (arith, h))

pub pack_many : (types : List TypeTree) → 2 ≤ length types → plain_type (type.Struct types) ≡ packed (map plain_type types)
pack_many [] h = absurd (omega (arith, h))
pack_many (t ∷ []) h = absurd (omega (arith, h))
pack_many (t ∷ u ∷ ts) h = plain-Struct (t ∷ u ∷ ts)

-- Signatures

pub no_params : (bits : ℕ) (inputs outputs : List PlainType) → None ≡ all_parameters bits inputs → None ≡ signature bits (Func (types_in inputs) (types_in outputs))
no_params bits inputs outputs e = ap (λ o. signature_of o (all_converted bits outputs)) e ∙ signature_from bits inputs outputs

pub no_outputs : (bits : ℕ) (inputs outputs ts : List PlainType) → Some ts ≡ all_parameters bits inputs → None ≡ all_converted bits outputs → None ≡ signature bits (Func (types_in inputs) (types_in outputs))
no_outputs bits inputs outputs ts e h =
    ap (signature_of (Some ts)) h ∙ ap (λ o. signature_of o (all_converted bits outputs)) e ∙ signature_from bits inputs outputs

pub signature_made : (bits : ℕ) (inputs outputs : List PlainType) (params results : List TypeTree) (output : TypeTree)
    → Some (map plain_type params) ≡ all_parameters bits inputs → Some (map plain_type results) ≡ all_converted bits outputs → plain_type output ≡ packed (map plain_type results)
    → Some (plain_type (type.LlvmFunc output params)) ≡ signature bits (Func (types_in inputs) (types_in outputs))
signature_made bits inputs outputs params results output e h k =
    ap Some (plain-LlvmFunc output params ∙ ap (λ t. LlvmFunc t (types_in (map plain_type params))) k)
    ∙ ap (signature_of (Some (map plain_type params))) h ∙ ap (λ o. signature_of o (all_converted bits outputs)) e ∙ signature_from bits inputs outputs

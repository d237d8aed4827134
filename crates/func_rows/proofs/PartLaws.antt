-- The parts of the rows.
use Rattle.std.proofs.Common.{◌≡◌, ℕ, ◌+◌, ◌<◌, ◌≤◌, List, [], ◌∷◌, ◌++◌, append_assoc, drop, get_or, length, map, refl, sym, ap, ◌∙◌, arith}
use Rattle.std.specs.Prelude.{codes, pos}
use Rattle.std.proofs.Math.Path.{fun_ext}
use Rattle.std.proofs.lemmas.List.{append-nil, drop_more}
use Rattle.tree_model.specs.declared.type_tree.Dim.{Dim}
use Rattle.tree_model.specs.declared.type_tree.TypeTree.{TypeTree}
use Rattle.plain_tree.specs.Types.{PlainType, Int, Index, Memref, Func, Ptr, Void, Struct, Array, LlvmFunc, plain_type}
use Rattle.plain_tree.specs.Attrs.{Entries}
use Rattle.conversion_model.specs.declared.templates.Source.{Source}
use Rattle.conversion_model.specs.declared.templates.Source.TheVariants.{Operand}
use Rattle.conversion_model.specs.Types.{number_type}
use Rattle.pattern_model.specs.Drafts.{Draft, effect, gives}
use Rattle.pattern_model.specs.FuncRows.{arguments, called, fields_at, packed_in, parameters_at, unpacked}
use Rattle.pattern_model.specs.MemrefRows.{extract, insert}
use Rattle.row_drafts.specs.declared.writer.Writer.{Writer}
use Rattle.row_drafts.specs.Buffers.{as_buffer}
use Rattle.row_drafts.specs.Writes.{behind}
use Rattle.func_rows.specs.Parts.{one_argument, struct_draft}

-- a list that grows, in what follows
pub grown : (v : Writer) (part : (List Source → Draft) → Draft) (made new : List Source) (s : Source) (next : List Source → Draft) → new ≡ made ++ s ∷ []
    → behind v (part (λ ss. next (made ++ s ∷ ss))) ≡ behind v (part (λ ss. next (new ++ ss)))
grown v part made new s next e =
    ap (λ (f : List Source → Draft). behind v (part f)) (fun_ext (λ ss. ap next (sym (append_assoc made (s ∷ []) ss) ∙ ap (λ m. m ++ ss) (sym e))))

grown_by : (v : Writer) (part : (List Source → Draft) → Draft) (made more new : List Source) (next : List Source → Draft) → new ≡ made ++ more
    → behind v (part (λ ss. next (made ++ (more ++ ss)))) ≡ behind v (part (λ ss. next (new ++ ss)))
grown_by v part made more new next e =
    ap (λ (f : List Source → Draft). behind v (part f)) (fun_ext (λ ss. ap next (sym (append_assoc made more ss) ∙ ap (λ m. m ++ ss) (sym e))))

-- nothing is left
pub ended : (w : Writer) (made : List Source) (next : List Source → Draft) → behind w (next (made ++ [])) ≡ behind w (next made)
ended w made next = ap (λ ss. behind w (next ss)) (append-nil made)

-- Parameters put in

pub parameter_more : (path : ℕ) (t : PlainType) (dims : List Dim) (k n i : ℕ) (m u : Source) (d : Dim) (w v : Writer) → i < length dims → n ≡ k + 1
    → ((next : Source → Draft) → behind w (insert m (Operand k) (pos path ∷ pos i ∷ []) t next) ≡ behind v (next u))
    → (next : Source → Draft) → behind w (parameters_at path t k i (drop i dims) m next) ≡ behind v (parameters_at path t n (i + 1) (drop (i + 1) dims) u next)
parameter_more path t dims k n i m u d w v h e is next =
    ap (λ (ds : List Dim). behind w (parameters_at path t k i ds m next)) (drop_more dims i d h)
    ∙ is (λ q. parameters_at path t (k + 1) (i + 1) (drop (i + 1) dims) q next)
    ∙ ap (λ j. behind v (parameters_at path t j (i + 1) (drop (i + 1) dims) u next)) (sym e)

-- Fields

pub field_more : (bits : ℕ) (m : Source) (path : ℕ) (dims : List Dim) (i : ℕ) (d : Dim) (made new : List Source) (s : Source) (w v : Writer)
    → i < length dims → new ≡ made ++ s ∷ []
    → ((next : Source → Draft) → behind w (extract m (pos path ∷ pos i ∷ []) (number_type bits) next) ≡ behind v (next s))
    → (next : List Source → Draft) → behind w (fields_at bits m path i (drop i dims) (λ ss. next (made ++ ss))) ≡ behind v (fields_at bits m path (i + 1) (drop (i + 1) dims) (λ ss. next (new ++ ss)))
field_more bits m path dims i d made new s w v h e is next =
    ap (λ (ds : List Dim). behind w (fields_at bits m path i ds (λ ss. next (made ++ ss)))) (drop_more dims i d h)
    ∙ is (λ q. fields_at bits m path (i + 1) (drop (i + 1) dims) (λ ss. next (made ++ q ∷ ss)))
    ∙ grown v (fields_at bits m path (i + 1) (drop (i + 1) dims)) made new s next e

-- Arguments

argument_step : (bits k : ℕ) (t : PlainType) (ts : List PlainType) (next : List Source → Draft)
    → arguments bits k (t ∷ ts) next ≡ one_argument bits k (as_buffer t) (λ ss. arguments bits (k + 1) ts (λ rest. next (ss ++ rest)))
argument_step bits k (Memref dims element) ts next = refl
argument_step bits k (Int n) ts next = refl
argument_step bits k Index ts next = refl
argument_step bits k (Func inputs outputs) ts next = refl
argument_step bits k Ptr ts next = refl
argument_step bits k Void ts next = refl
argument_step bits k (Struct fields) ts next = refl
argument_step bits k (Array n element) ts next = refl
argument_step bits k (LlvmFunc output inputs) ts next = refl

pub argument_more : (bits : ℕ) (types : List TypeTree) (i : ℕ) (t : TypeTree) (made more new : List Source) (w v : Writer)
    → i < length types → t ≡ get_or types i t → new ≡ made ++ more
    → ((next : List Source → Draft) → behind w (one_argument bits i (as_buffer (plain_type t)) next) ≡ behind v (next more))
    → (next : List Source → Draft)
    → behind w (arguments bits i (map plain_type (drop i types)) (λ ss. next (made ++ ss))) ≡ behind v (arguments bits (i + 1) (map plain_type (drop (i + 1) types)) (λ ss. next (new ++ ss)))
argument_more bits types i t made more new w v h at e is next =
    let rest : List PlainType = map plain_type (drop (i + 1) types) in
    ap (λ (ts : List TypeTree). behind w (arguments bits i (map plain_type ts) (λ ss. next (made ++ ss)))) (drop_more types i t h ∙ ap (λ u. u ∷ drop (i + 1) types) (sym at))
    ∙ ap (behind w) (argument_step bits i (plain_type t) rest (λ ss. next (made ++ ss)))
    ∙ is (λ qs. arguments bits (i + 1) rest (λ ss. next (made ++ (qs ++ ss))))
    ∙ grown_by v (arguments bits (i + 1) rest) made more new next e

-- Results

pub unpack_more : (m : Source) (types : List TypeTree) (i : ℕ) (t : TypeTree) (made new : List Source) (s : Source) (w v : Writer)
    → i < length types → t ≡ get_or types i t → new ≡ made ++ s ∷ []
    → ((next : Source → Draft) → behind w (extract m (pos i ∷ []) (plain_type t) next) ≡ behind v (next s))
    → (next : List Source → Draft)
    → behind w (unpacked m i (map plain_type (drop i types)) (λ ss. next (made ++ ss))) ≡ behind v (unpacked m (i + 1) (map plain_type (drop (i + 1) types)) (λ ss. next (new ++ ss)))
unpack_more m types i t made new s w v h at e is next =
    let rest : List PlainType = map plain_type (drop (i + 1) types) in
    ap (λ (ts : List TypeTree). behind w (unpacked m i (map plain_type ts) (λ ss. next (made ++ ss)))) (drop_more types i t h ∙ ap (λ u. u ∷ drop (i + 1) types) (sym at))
    ∙ is (λ q. unpacked m (i + 1) rest (λ ss. next (made ++ q ∷ ss)))
    ∙ grown v (unpacked m (i + 1) rest) made new s next e

-- no result
pub none_called : (props : Entries) (sources : List Source) (types : List TypeTree) → length types < 1
    → called props sources (map plain_type types) ≡ effect (codes "llvm.call") sources props [] (gives [])
none_called props sources [] h = refl
none_called props sources (t ∷ ts) h = absurd (omega (arith, h))

-- several results are the fields of a struct
pub many_called : (props : Entries) (sources : List Source) (types : List TypeTree) → 2 ≤ length types
    → called props sources (map plain_type types) ≡ struct_draft props sources (map plain_type types)
many_called props sources [] h = absurd (omega (arith, h))
many_called props sources (t ∷ []) h = absurd (omega (arith, h))
many_called props sources (t ∷ u ∷ ts) h = refl

-- Operands put in

pub pack_more : (t : PlainType) (types : List TypeTree) (i : ℕ) (d : TypeTree) (m u : Source) (w v : Writer) → i < length types
    → ((next : Source → Draft) → behind w (insert m (Operand i) (pos i ∷ []) t next) ≡ behind v (next u))
    → (next : Source → Draft) → behind w (packed_in t i (map plain_type (drop i types)) m next) ≡ behind v (packed_in t (i + 1) (map plain_type (drop (i + 1) types)) u next)
pack_more t types i d m u w v h is next =
    ap (λ (ts : List TypeTree). behind w (packed_in t i (map plain_type ts) m next)) (drop_more types i d h)
    ∙ is (λ q. packed_in t (i + 1) (map plain_type (drop (i + 1) types)) q next)

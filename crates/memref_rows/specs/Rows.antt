-- The parts of loads, stores and sizes, as code writes them.
use Rattle.std.specs.Prelude.{ℕ, List, [], ◌∷◌, pos, negsuc, codes}
use Rattle.tree_model.specs.declared.type_tree.Dim.{Dim}
use Rattle.tree_model.specs.declared.type_tree.Dim.TheVariants.{Fixed, Dynamic}
use Rattle.plain_tree.specs.Types.{PlainType, Int, Ptr}
use Rattle.plain_tree.specs.Attrs.{Entries, Numbers, OfType}
use Rattle.conversion_model.specs.declared.templates.Source.{Source}
use Rattle.conversion_model.specs.declared.templates.Source.TheVariants.{Operand}
use Rattle.conversion_model.specs.Types.{becomes, number_type}
use Rattle.pattern_model.specs.Drafts.{Draft, effect, gives, predicate, value}
use Rattle.pattern_model.specs.MemrefRows.{callee, constant, extract, place_of, size_at, two}

-- one dimension's part of an offset
abbrev pub one_offset : ℕ → Source → ℕ → ℕ → Source → (Source → Draft) → Draft
one_offset bits m k i a next =
    extract m (pos 4 ∷ pos i ∷ []) (number_type bits) λ t.
    two (codes "llvm.mul") (Operand k) t (number_type bits) λ x.
    two (codes "llvm.add") a x (number_type bits) next

-- the properties of a getelementptr
abbrev pub place_props : PlainType → Entries
place_props t = (codes "elem_type", OfType t) ∷ (codes "rawConstantIndices", Numbers 32 (negsuc 2147483647 ∷ [])) ∷ []

abbrev pub loaded : ℕ → List Dim → PlainType → Draft
loaded bits dims element =
    place_of bits (Operand 0) 1 dims element λ g.
    value (codes "llvm.load") (g ∷ []) [] (becomes bits element) λ r.
    gives (r ∷ [])

abbrev pub stored : ℕ → List Dim → PlainType → Draft
stored bits dims element =
    place_of bits (Operand 1) 2 dims element λ g.
    effect (codes "llvm.store") (Operand 0 ∷ g ∷ []) [] [] (gives [])

-- r, or the j-th size where the index is j
abbrev pub one_choice : ℕ → ℕ → Source → (Source → Draft) → Draft
one_choice bits j r next =
    extract (Operand 0) (pos 3 ∷ pos j ∷ []) (number_type bits) λ s.
    constant (pos j) (number_type bits) λ n.
    value (codes "llvm.icmp") (Operand 1 ∷ n ∷ []) (predicate 0) (Int 1) λ e.
    value (codes "llvm.select") (e ∷ s ∷ r ∷ []) [] (number_type bits) next

abbrev pub chosen_size : ℕ → List Dim → Draft
chosen_size bits dims = extract (Operand 0) (pos 3 ∷ pos 0 ∷ []) (number_type bits) λ r. size_at bits 1 dims r

abbrev pub rank_draft : ℕ → ℕ → Draft
rank_draft bits n = constant (pos n) (number_type bits) λ r. gives (r ∷ [])

abbrev pub freed_draft : Draft
freed_draft =
    extract (Operand 0) (pos 0 ∷ []) Ptr λ p.
    effect (codes "llvm.call") (p ∷ []) (callee (codes "free")) [] (gives [])

-- 1 of a dimension that isn't fixed
abbrev pub dynamic_one : Dim → ℕ
dynamic_one (Fixed n) = 0
dynamic_one Dynamic = 1

-- A type is that of its term.
use Rattle.std.proofs.Common.{◌≡◌, ◌≤◌, ℕ, List, [], ◌∷◌, length, refl, sym, ◌∙◌, ap}
use Rattle.std.specs.Prelude.{◌↔◌}
use Rattle.tree_model.specs.declared.type_tree.Dim.{Dim}
use Rattle.tree_model.specs.declared.type_tree.Dim.TheVariants.{Fixed, Dynamic}
use Rattle.plain_tree.specs.Types.{PlainType, PlainTypes, Int, Index, Memref, Func, Ptr, Void, Struct, Array, LlvmFunc, end_of_types, more_types}
use Rattle.term_table.specs.declared.table.Terms.{Terms}
use Rattle.term_table.specs.Terms.{Term, term_at}
use Rattle.text_types.specs.Plain.{sizes_of, sizes_before, type_of, types_of, term_of, terms_of}

no_sizes : (t : PlainType) → sizes_of (term_of t) ≡ []
no_sizes (Int width) = refl
no_sizes Index = refl
no_sizes (Memref sizes element) = refl
no_sizes (Func inputs results) = refl
no_sizes Ptr = refl
no_sizes Void = refl
no_sizes (Struct fields) = refl
no_sizes (Array n element) = refl
no_sizes (LlvmFunc output inputs) = refl

sizes_are : (sizes : List Dim) (t : PlainType) → sizes_of (sizes_before sizes (term_of t)) ≡ sizes
sizes_are [] t = no_sizes t
sizes_are (Fixed n ∷ sizes) t = ap (λ ds. Fixed n ∷ ds) (sizes_are sizes t)
sizes_are (Dynamic ∷ sizes) t = ap (λ ds. Dynamic ∷ ds) (sizes_are sizes t)

element_is : (sizes : List Dim) (element : Term) → type_of (sizes_before sizes element) ≡ type_of element
element_is [] element = refl
element_is (Fixed n ∷ sizes) element = element_is sizes element
element_is (Dynamic ∷ sizes) element = element_is sizes element

mutual
  pub type_is : (t : PlainType) → type_of (term_of t) ≡ t
  type_is (Int width) = refl
  type_is Index = refl
  type_is (Memref sizes element) =
      ap (λ ds. Memref ds (type_of (sizes_before sizes (term_of element)))) (sizes_are sizes element) ∙ ap (Memref sizes) (element_is sizes (term_of element) ∙ type_is element)
  type_is (Func inputs results) = ap (λ ts. Func ts (types_of (terms_of results))) (types_are inputs) ∙ ap (Func inputs) (types_are results)
  type_is Ptr = refl
  type_is Void = refl
  type_is (Struct fields) = ap Struct (types_are fields)
  type_is (Array n element) = ap (Array n) (type_is element)
  type_is (LlvmFunc output inputs) = ap (λ t. LlvmFunc t (types_of (terms_of inputs))) (type_is output) ∙ ap (LlvmFunc output) (types_are inputs)

  pub types_are : (ts : PlainTypes) → types_of (terms_of ts) ≡ ts
  types_are end_of_types = refl
  types_are (more_types first more) = ap (λ t. more_types t (types_of (terms_of more))) (type_is first) ∙ ap (more_types first) (types_are more)

pub one_number : (terms : Terms) (i j : ℕ) (t u : PlainType) → i ≤ length terms.nodes.keys → j ≤ length terms.nodes.keys → term_at terms.nodes.keys i ≡ term_of t
    → term_at terms.nodes.keys j ≡ term_of u → (i ≡ j) ↔ (t ≡ u)
one_number terms i j t u h k e f = (
  λ same. sym (type_is t) ∙ ap type_of (sym e ∙ ap (term_at terms.nodes.keys) same ∙ f) ∙ type_is u,
  λ same. terms.one i j h k (e ∙ ap term_of same ∙ sym f),
)

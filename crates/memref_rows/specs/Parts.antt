-- The parts of an allocation, as code writes them.
use Rattle.std.specs.Prelude.{ℕ, ◌+◌, List, [], ◌∷◌, ℤ, pos, negsuc, ◌+ℤ◌, codes}
use Rattle.tree_model.specs.declared.type_tree.Dim.{Dim}
use Rattle.tree_model.specs.declared.type_tree.Dim.TheVariants.{Fixed, Dynamic}
use Rattle.plain_tree.specs.Types.{PlainType}
use Rattle.conversion_model.specs.declared.templates.Source.{Source}
use Rattle.conversion_model.specs.declared.templates.Source.TheVariants.{Operand}
use Rattle.conversion_model.specs.Types.{becomes, number_type}
use Rattle.pattern_model.specs.Drafts.{Draft}
use Rattle.pattern_model.specs.MemrefRows.{aligned_call, bytes_of, constant, elements_of, insert, inserted, plain_call, sizes_of, strides_of, two, undef}
use Rattle.memref_rows.specs.declared.calls.Allocator.{Allocator}
use Rattle.memref_rows.specs.declared.calls.Allocator.TheVariants.{Malloc, AlignedAlloc}
use Rattle.memref_rows.specs.declared.layout.Layout.{Layout}

-- one size, where k operands are taken, and how many are taken behind it
abbrev pub one_size : ℕ → Dim → ℕ → (Source → ℕ → Draft) → Draft
one_size bits (Fixed n) k next = constant (pos n) (number_type bits) λ s. next s k
one_size bits Dynamic k next = next (Operand k) (k + 1)

-- the strides in front of t, from the back; the list has the sizes in front, the last of them first
abbrev pub strides_on : ℕ → List Source → Source → List Source → (List Source → Draft) → Draft
strides_on bits [] t ts next = next ts
strides_on bits (r ∷ before) t ts next = two (codes "llvm.mul") t r (number_type bits) λ u. strides_on bits before u (u ∷ ts) next

-- the sizes, the strides and the bytes of an allocation
abbrev pub measured : ℕ → List Dim → PlainType → (Layout → Draft) → Draft
measured bits dims element next =
    let number : PlainType = number_type bits in
    sizes_of bits dims 0 λ sizes.
    constant (pos 1) number λ o.
    strides_of bits o sizes λ strides.
    elements_of bits o strides sizes λ e.
    constant (pos (bytes_of (becomes bits element))) number λ w.
    two (codes "llvm.mul") e w number λ b.
    next (record { sizes = sizes; strides = strides; bytes = b })

-- bytes rounded up to the alignment, which is l
abbrev pub rounded : ℕ → ℤ → Source → Source → (Source → Draft) → Draft
rounded bits alignment l b next =
    let number : PlainType = number_type bits in
    constant (alignment +ℤ negsuc 0) number λ n.
    two (codes "llvm.add") b n number λ x.
    two (codes "llvm.udiv") x l number λ y.
    two (codes "llvm.mul") y l number next

abbrev pub call_by : Allocator → ℕ → Source → (Source → Draft) → Draft
call_by Malloc bits = plain_call bits
call_by (AlignedAlloc n) bits = aligned_call bits n

-- a descriptor of that type with both pointers and the offset
abbrev pub with_pointers : PlainType → Source → Source → (Source → Draft) → Draft
with_pointers t p f next =
    undef t λ u.
    insert u p (pos 0 ∷ []) t λ a.
    insert a p (pos 1 ∷ []) t λ b.
    insert b f (pos 2 ∷ []) t next

-- a descriptor of that type
abbrev pub described_as : ℕ → PlainType → List Source → List Source → Source → (Source → Draft) → Draft
described_as bits t sizes strides p next =
    constant (pos 0) (number_type bits) λ f.
    with_pointers t p f λ c.
    inserted 3 t 0 sizes c λ d.
    inserted 4 t 0 strides d next

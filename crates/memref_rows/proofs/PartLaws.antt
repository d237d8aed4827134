-- Parts of an allocation.
use Rattle.std.proofs.Common.{◌≡◌, ℕ, ◌+◌, ◌-◌, ◌<◌, ◌≤◌, false, List, [], ◌∷◌, ◌++◌, append_assoc, drop, get_or, length, refl, reverse, take, sym, ap, ◌∙◌, arith}
use Rattle.std.specs.Prelude.{◌==◌, codes, if◌then◌else◌, pos}
use Rattle.std.proofs.Math.Path.{fun_ext}
use Rattle.std.proofs.lemmas.List.{drop_all, drop_more, reverse-append, take_all}
use Rattle.tree_model.specs.declared.type_tree.Dim.{Dim}
use Rattle.tree_model.specs.declared.type_tree.Dim.TheVariants.{Fixed, Dynamic}
use Rattle.plain_tree.specs.Types.{PlainType, Int}
use Rattle.conversion_model.specs.declared.templates.Source.{Source}
use Rattle.conversion_model.specs.declared.templates.TemplateTree.{TemplateTree}
use Rattle.conversion_model.specs.Types.{number_type}
use Rattle.pattern_model.specs.Drafts.{Draft, gives, value}
use Rattle.pattern_model.specs.MemrefRows.{front, insert, inserted, offset_of, size_at, sizes_of, strides_of, two, widened}
use Rattle.row_drafts.specs.declared.writer.Writer.{Writer}
use Rattle.row_drafts.specs.Writes.{behind}
use Rattle.memref_rows.specs.Parts.{one_size, strides_on}
use Rattle.memref_rows.specs.Rows.{one_choice, one_offset}

-- a number that is extended
pub narrow : (w : Writer) (name : List ℕ) (bits : ℕ) (x : Source) (next : Source → Draft) (r : TemplateTree) → (bits == 64) ≡ false
    → behind w (value name (x ∷ []) [] (Int 64) next) ≡ r → behind w (widened name bits x next) ≡ r
narrow w name bits x next r e k = ap (λ b. behind w (if b then next x else value name (x ∷ []) [] (Int 64) next)) e ∙ k

-- Sizes

size_step : (bits : ℕ) (d : Dim) (dims : List Dim) (k : ℕ) (next : List Source → Draft)
    → sizes_of bits (d ∷ dims) k next ≡ one_size bits d k (λ s j. sizes_of bits dims j (λ ss. next (s ∷ ss)))
size_step bits (Fixed n) dims k next = refl
size_step bits Dynamic dims k next = refl

-- one size more
pub size_more : (bits : ℕ) (dims : List Dim) (i k j : ℕ) (d : Dim) (made more : List Source) (s : Source) (w v : Writer)
    → i < length dims → more ≡ made ++ s ∷ []
    → ((next : Source → ℕ → Draft) → behind w (one_size bits (get_or dims i d) k next) ≡ behind v (next s j))
    → (next : List Source → Draft)
    → behind w (sizes_of bits (drop i dims) k (λ ss. next (made ++ ss))) ≡ behind v (sizes_of bits (drop (i + 1) dims) j (λ ss. next (more ++ ss)))
size_more bits dims i k j d made more s w v h e is next =
    let rest : List Dim = drop (i + 1) dims in
    ap (λ ds. behind w (sizes_of bits ds k (λ ss. next (made ++ ss)))) (drop_more dims i d h)
    ∙ ap (behind w) (size_step bits (get_or dims i d) rest k (λ ss. next (made ++ ss)))
    ∙ is (λ q m. sizes_of bits rest m (λ ss. next (made ++ q ∷ ss)))
    ∙ ap (λ (f : List Source → Draft). behind v (sizes_of bits rest j f)) (fun_ext (λ ss. ap next (sym (append_assoc made (s ∷ []) ss) ∙ ap (λ m. m ++ ss) (sym e))))

-- Strides

strides_last : (bits : ℕ) (o r t : Source) (before ts : List Source) (next : List Source → Draft) → front o ts ≡ t
    → strides_on bits (before ++ r ∷ []) t ts next ≡ strides_on bits before t ts (λ us. two (codes "llvm.mul") (front o us) r (number_type bits) (λ u. next (u ∷ us)))
strides_last bits o r t [] ts next e = ap (λ q. two (codes "llvm.mul") q r (number_type bits) (λ u. next (u ∷ ts))) (sym e)
strides_last bits o r t (b ∷ before) ts next e =
    ap (λ (f : Source → Draft). two (codes "llvm.mul") t b (number_type bits) f) (fun_ext (λ u. strides_last bits o r u before (u ∷ ts) next refl))

-- the strides, from the back
pub strides_are : (bits : ℕ) (o s : Source) (sizes : List Source) (next : List Source → Draft)
    → strides_of bits o (s ∷ sizes) next ≡ strides_on bits (reverse sizes) o (o ∷ []) next
strides_are bits o s [] next = refl
strides_are bits o s (r ∷ sizes) next =
    strides_are bits o r sizes (λ ts. two (codes "llvm.mul") (front o ts) r (number_type bits) (λ t. next (t ∷ ts)))
    ∙ sym (strides_last bits o r o (reverse sizes) (o ∷ []) next refl)
    ∙ ap (λ before. strides_on bits before o (o ∷ []) next) (sym (reverse-append (r ∷ []) sizes))

-- one stride more
pub stride_more : (bits : ℕ) (old new : List Source) (size t u : Source) (ts us : List Source) (w v : Writer)
    → old ≡ new ++ size ∷ [] → us ≡ ts ++ u ∷ []
    → ((next : Source → Draft) → behind w (two (codes "llvm.mul") t size (number_type bits) next) ≡ behind v (next u))
    → (next : List Source → Draft) → behind w (strides_on bits (reverse old) t (reverse ts) next) ≡ behind v (strides_on bits (reverse new) u (reverse us) next)
stride_more bits old new size t u ts us w v e h is next =
    ap (λ (before : List Source). behind w (strides_on bits before t (reverse ts) next)) (ap reverse e ∙ reverse-append new (size ∷ []))
    ∙ is (λ q. strides_on bits (reverse new) q (q ∷ reverse ts) next)
    ∙ ap (λ (done : List Source). behind v (strides_on bits (reverse new) u done next)) (sym (ap reverse h ∙ reverse-append ts (u ∷ [])))

-- Values put in

pub insert_more : (k : ℕ) (t : PlainType) (values : List Source) (i : ℕ) (m u d : Source) (w v : Writer) → i < length values
    → ((next : Source → Draft) → behind w (insert m (get_or values i d) (pos k ∷ pos i ∷ []) t next) ≡ behind v (next u))
    → (next : Source → Draft) → behind w (inserted k t i (drop i values) m next) ≡ behind v (inserted k t (i + 1) (drop (i + 1) values) u next)
insert_more k t values i m u d w v h is next =
    ap (λ (ss : List Source). behind w (inserted k t i ss m next)) (drop_more values i d h)
    ∙ is (λ q. inserted k t (i + 1) (drop (i + 1) values) q next)

-- Offsets

pub offset_more : (bits : ℕ) (m : Source) (dims : List Dim) (k n i : ℕ) (a b : Source) (d : Dim) (w v : Writer) → i < length dims → n ≡ k + 1
    → ((next : Source → Draft) → behind w (one_offset bits m k i a next) ≡ behind v (next b))
    → (next : Source → Draft) → behind w (offset_of bits m k i (drop i dims) a next) ≡ behind v (offset_of bits m n (i + 1) (drop (i + 1) dims) b next)
offset_more bits m dims k n i a b d w v h e is next =
    ap (λ (ds : List Dim). behind w (offset_of bits m k i ds a next)) (drop_more dims i d h)
    ∙ is (λ q. offset_of bits m (k + 1) (i + 1) (drop (i + 1) dims) q next)
    ∙ ap (λ j. behind v (offset_of bits m j (i + 1) (drop (i + 1) dims) b next)) (sym e)

-- Choices of a size

pub choice_more : (bits i : ℕ) (dims : List Dim) (r q : Source) (d : Dim) (w v : Writer) → i < length dims
    → ((next : Source → Draft) → behind w (one_choice bits (i + 1) r next) ≡ behind v (next q))
    → behind w (size_at bits (i + 1) (drop i dims) r) ≡ behind v (size_at bits (i + 1 + 1) (drop (i + 1) dims) q)
choice_more bits i dims r q d w v h is =
    ap (λ (ds : List Dim). behind w (size_at bits (i + 1) ds r)) (drop_more dims i d h)
    ∙ is (λ p. size_at bits (i + 1 + 1) (drop (i + 1) dims) p)

-- the strides behind the first size
pub strides_split : (bits : ℕ) (o : Source) (sizes : List Source) (next : List Source → Draft) → 0 < length sizes
    → strides_of bits o sizes next ≡ strides_on bits (reverse (take (length sizes - 1) (drop 1 sizes))) o (o ∷ []) next
strides_split bits o [] next h = absurd (omega (arith, h))
strides_split bits o (s ∷ sizes) next h =
    strides_are bits o s sizes next ∙ sym (ap (λ (ss : List Source). strides_on bits (reverse ss) o (o ∷ []) next) (take_all (length (s ∷ sizes) - 1) sizes (omega arith)))

-- no dimension is left
pub choice_ended : (bits i : ℕ) (dims : List Dim) (r : Source) (w : Writer) → length dims ≤ i → behind w (size_at bits (i + 1) (drop i dims) r) ≡ behind w (gives (r ∷ []))
choice_ended bits i dims r w h = ap (λ (ds : List Dim). behind w (size_at bits (i + 1) ds r)) (drop_all i dims h)

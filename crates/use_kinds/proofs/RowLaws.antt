-- Rows of numbers.
use Rattle.std.proofs.Common.{◌≡◌, ℕ, zero, suc, ◌+◌, ◌-◌, ◌≤◌, ◌<◌, List, [], ◌∷◌, ◌++◌, length, map, take, drop, get_or, refl, sym, ◌∙◌, ap, subst, arith}
use Rattle.std.proofs.lemmas.List.{append-nil, append_assoc, map-append, get_or-take, get_or-drop}
use Rattle.std.proofs.Math.ListN.{get_or-map}
use Rattle.term_table.specs.declared.node.Node.{Node}
use Rattle.term_table.specs.Terms.{Term, nothing, term_at}
use Rattle.term_table.proofs.TableLaws.{zero_is}
use Rattle.text_types.specs.Stack.{Within}
use Rattle.use_kinds.specs.declared.rows.Row.{Row}
use Rattle.use_kinds.specs.Flat.{cut, row_types, rows_types, Added}

pub number_within : (last : ℕ) (numbers : List ℕ) (i : ℕ) → Within last numbers → get_or numbers i 0 ≤ last
number_within last [] i w = omega arith
number_within last (n ∷ ns) zero w = w.0
number_within last (n ∷ ns) (suc i) w = number_within last ns i w.1

-- behind a list's end there is nothing
past : (n : ℕ) (xs : List ℕ) (i : ℕ) → n ≤ i → get_or (take n xs) i 0 ≡ 0
past zero xs i h = refl
past (suc n) [] i h = refl
past (suc n) (x ∷ xs) zero h = absurd (omega (arith, h))
past (suc n) (x ∷ xs) (suc i) h = past n xs i (omega (arith, h))

pub in_cut : (items : List ℕ) (row : Row) (i : ℕ) → i < row.end - row.start → get_or items (row.start + i) 0 ≡ get_or (cut items row) i 0
in_cut items row i h = sym (get_or-take (row.end - row.start) (drop row.start items) i 0 h ∙ get_or-drop row.start items i 0)

pub past_cut : (items : List ℕ) (row : Row) (i : ℕ) → row.end - row.start ≤ i → 0 ≡ get_or (cut items row) i 0
past_cut items row i h = sym (past (row.end - row.start) (drop row.start items) i h)

-- the types of a row, by its event
row_some : (f : Row → List Term) (rows : List Row) (event : ℕ) (row : Row) → event < length rows → row ≡ get_or rows event row → get_or (map f rows) event [] ≡ f row
row_some f [] event row h e = absurd (omega (arith, h))
row_some f (r ∷ rows) zero row h e = ap f (sym e)
row_some f (r ∷ rows) (suc event) row h e = row_some f rows event row (omega (arith, h)) e

row_none : (f : Row → List Term) (rows : List Row) (event : ℕ) → length rows ≤ event → get_or (map f rows) event [] ≡ []
row_none f [] event h = refl
row_none f (r ∷ rows) zero h = absurd (omega (arith, h))
row_none f (r ∷ rows) (suc event) h = row_none f rows event (omega (arith, h))

-- and the term of a number of it
term_in : (nodes : List Node) (ns : List ℕ) (i : ℕ) → term_at nodes (get_or ns i 0) ≡ get_or (map (term_at nodes) ns) i nothing
term_in nodes ns i = sym (get_or-map (term_at nodes) ns i 0) ∙ ap (get_or (map (term_at nodes) ns) i) (zero_is nodes)

pub type_some : (nodes : List Node) (items : List ℕ) (rows : List Row) (event index : ℕ) (row : Row) (n : ℕ) → event < length rows → row ≡ get_or rows event row → n ≡ get_or (cut items row) index 0
    → term_at nodes n ≡ get_or (get_or (rows_types nodes items rows) event []) index nothing
type_some nodes items rows event index row n within is e =
    ap (term_at nodes) e ∙ term_in nodes (cut items row) index ∙ ap (λ ts. get_or ts index nothing) (sym (row_some (row_types nodes items) rows event row within is))

pub type_none : (nodes : List Node) (items : List ℕ) (rows : List Row) (event index : ℕ) → length rows ≤ event
    → term_at nodes 0 ≡ get_or (get_or (rows_types nodes items rows) event []) index nothing
type_none nodes items rows event index is = zero_is nodes ∙ ap (λ ts. get_or ts index nothing) (sym (row_none (row_types nodes items) rows event is))

-- Types that are taken of a list

pub within_append : (last : ℕ) (xs ys : List ℕ) → Within last xs → Within last ys → Within last (xs ++ ys)
within_append last [] ys w v = v
within_append last (x ∷ xs) ys w v = (w.0, within_append last xs ys w.1 v)

added_on : (nodes : List Node) (old mid new : List ℕ) (done : List Term) (n : ℕ) → Added nodes old mid done → n ≤ length nodes → new ≡ mid ++ n ∷ []
    → Added nodes old new (done ++ term_at nodes n ∷ [])
added_on nodes old mid new done n a within is = record {
  more = a.more ++ n ∷ [];
  is = is ∙ ap (λ xs. xs ++ n ∷ []) a.is ∙ append_assoc old a.more (n ∷ []);
  stands = record {
    within = within_append (length nodes) a.more (n ∷ []) a.stands.within (within, tt);
    is = map-append (term_at nodes) a.more (n ∷ []) ∙ ap (λ ts. ts ++ term_at nodes n ∷ []) a.stands.is;
  };
}

take_one : (done types more : List Term) (t : Term) (wanted less : ℕ) → less + 1 ≡ wanted → types ≡ t ∷ more → (done ++ t ∷ []) ++ take less more ≡ done ++ take wanted types
take_one done types more t wanted less e is =
    let s : suc less ≡ wanted = omega (arith, e) in
    append_assoc done (t ∷ []) (take less more) ∙ ap (λ n. done ++ take n (t ∷ more)) s ∙ ap (λ ts. done ++ take wanted ts) (sym is)

pub drop_one : (types more : List Term) (t : Term) (wanted less : ℕ) → less + 1 ≡ wanted → types ≡ t ∷ more → drop less more ≡ drop wanted types
drop_one types more t wanted less e is = let s : suc less ≡ wanted = omega (arith, e) in ap (λ n. drop n (t ∷ more)) s ∙ ap (drop wanted) (sym is)

pub taken_on : (nodes : List Node) (old mid new : List ℕ) (types more whole : List Term) (n wanted less : ℕ)
    → (done : List Term) × Added nodes old mid done × (done ++ take wanted types ≡ whole) → n ≤ length nodes → new ≡ mid ++ n ∷ [] → less + 1 ≡ wanted → types ≡ term_at nodes n ∷ more
    → (done : List Term) × Added nodes old new done × (done ++ take less more ≡ whole)
taken_on nodes old mid new types more whole n wanted less (done, a, e) within is step split =
    (done ++ term_at nodes n ∷ [], added_on nodes old mid new done n a within is, take_one done types more (term_at nodes n) wanted less step split ∙ e)

-- a list at its end
pub taken_all : (nodes : List Node) (old now : List ℕ) (types whole : List Term) (wanted : ℕ) → (done : List Term) × Added nodes old now done × (done ++ take wanted types ≡ whole)
    → take wanted types ≡ [] → Added nodes old now whole
taken_all nodes old now types whole wanted (done, a, e) none = subst (Added nodes old now) (sym (append-nil done) ∙ ap (λ ts. done ++ ts) (sym none) ∙ e) a

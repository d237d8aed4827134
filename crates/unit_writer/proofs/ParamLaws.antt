-- The new parameters of a function, one after another.
use Rattle.std.proofs.Common.{◌≡◌, ℕ, suc, ◌+◌, ◌<◌, List, [], ◌∷◌, ◌++◌, drop, get_or, length, map, refl, sym, ap, ◌∙◌, arith}
use Rattle.std.proofs.lemmas.List.{append_assoc, length-append}
use Rattle.std.proofs.lemmas.List.Concat.{flat_map-cons}
use Rattle.tree_model.specs.declared.type_tree.TypeTree.{TypeTree}
use Rattle.plain_tree.specs.Types.{PlainType, plain_type}
use Rattle.plain_tree.specs.Ops.{Values, plain_values}
use Rattle.conversion_model.specs.Conversion.{params_from}
use Rattle.conversion_model.specs.Rows.{Part}
use Rattle.cut_code.specs.declared.frames.PartTree.{PartTree}
use Rattle.new_numbers.specs.Tables.{Extends, Numbering, supply_of}
use Rattle.unit_slots.specs.Slots.{plain_part}
use Rattle.unit_writer.specs.Functions.{entry_types, params_behind}
use Rattle.unit_writer.specs.Names.{Asked}
use Rattle.unit_writer.proofs.Going.{asked_on}
use Rattle.unit_writer.proofs.SaysLaws.{front}

pub values_joined : (xs ys : List (ℕ × TypeTree)) → plain_values (xs ++ ys) ≡ plain_values xs ++ plain_values ys
values_joined [] ys = refl
values_joined (x ∷ xs) ys = ap (λ vs. (x.0, plain_type x.1) ∷ vs) (values_joined xs ys)

values_counted : (xs : List (ℕ × TypeTree)) → length (plain_values xs) ≡ length xs
values_counted [] = refl
values_counted (x ∷ xs) = ap suc (values_counted xs)

params_counted : (new : ℕ → ℕ) (k : ℕ) (ts : List PlainType) → length (params_from new k ts) ≡ length ts
params_counted new k [] = refl
params_counted new k (t ∷ ts) = ap suc (params_counted new (k + 1) ts)

params_joined : (new : ℕ → ℕ) (k : ℕ) (xs ys : List PlainType) → params_from new k (xs ++ ys) ≡ params_from new k xs ++ params_from new (k + length xs) ys
params_joined new k [] ys = let e : k ≡ k + 0 = omega arith in ap (λ j. params_from new j ys) e
params_joined new k (x ∷ xs) ys =
    let e : (k + 1) + length xs ≡ k + length (x ∷ xs) = omega arith in
    ap (λ vs. (new k, x) ∷ vs) (params_joined new (k + 1) xs ys ∙ ap (λ j. params_from new (k + 1) xs ++ params_from new j ys) e)

-- A type more

one_more : (u : Numbering) (whole : Values) (ps qs : List (ℕ × TypeTree)) (types : List TypeTree) (i n : ℕ) (t : TypeTree) → i < length types → t ≡ get_or types i t → qs ≡ ps ++ (n, t) ∷ []
    → (supply_of u).parameter (length ps) ≡ n → whole ≡ plain_values ps ++ params_behind u ps (map plain_type (drop i types))
    → whole ≡ plain_values qs ++ params_behind u qs (map plain_type (drop (i + 1) types))
one_more u whole ps qs types i n t within is pushed number so_far =
    let rest : List PlainType = map plain_type (drop (i + 1) types) in
    let count : length ps + 1 ≡ length (ps ++ (n, t) ∷ []) = sym (length-append ps ((n, t) ∷ [])) in
    so_far
    ∙ ap (λ ts. plain_values ps ++ params_behind u ps (map plain_type ts)) (front types i t within is)
    ∙ ap (λ k. plain_values ps ++ ((k, plain_type t) ∷ params_from (supply_of u).parameter (length ps + 1) rest)) number
    ∙ sym (append_assoc (plain_values ps) ((n, plain_type t) ∷ []) (params_from (supply_of u).parameter (length ps + 1) rest))
    ∙ ap (λ vs. vs ++ params_from (supply_of u).parameter (length ps + 1) rest) (sym (values_joined ps ((n, t) ∷ [])))
    ∙ ap (λ j. plain_values (ps ++ (n, t) ∷ []) ++ params_from (supply_of u).parameter j rest) count
    ∙ ap (λ xs. plain_values xs ++ params_behind u xs rest) (sym pushed)

pub param_next : (t0 t1 t2 : Numbering) (whole : Numbering → Values) (ps qs : List (ℕ × TypeTree)) (types : List TypeTree) (i n place : ℕ) (t : TypeTree) → i < length types → t ≡ get_or types i t → qs ≡ ps ++ (n, t) ∷ []
    → place ≡ length ps → Extends t1 t2 → ((u : Numbering) → Extends t2 u → (supply_of u).parameter place ≡ n)
    → Asked t0 t1 (λ u. whole u ≡ plain_values ps ++ params_behind u ps (map plain_type (drop i types)))
    → Asked t0 t2 (λ u. whole u ≡ plain_values qs ++ params_behind u qs (map plain_type (drop (i + 1) types)))
param_next t0 t1 t2 whole ps qs types i n place t within is pushed at extends number a =
    asked_on {Q = λ u. (supply_of u).parameter place ≡ n} t0 t1 t2 a (record { extends = extends; says = number })
    (λ u so_far named. one_more u (whole u) ps qs types i n t within is pushed (ap (supply_of u).parameter (sym at) ∙ named) so_far)

-- A part more

part_more : (u : Numbering) (whole : Values) (ps qs : List (ℕ × TypeTree)) (entry : List PartTree) (i : ℕ) (part : PartTree) → i < length entry → part ≡ get_or entry i part
    → plain_values ps ++ params_behind u ps (map plain_type part.takes) ≡ plain_values qs → whole ≡ plain_values ps ++ params_behind u ps (entry_types (drop i entry))
    → whole ≡ plain_values qs ++ params_behind u qs (entry_types (drop (i + 1) entry))
part_more u whole ps qs entry i part within is added so_far =
    let here : List PlainType = map plain_type part.takes in
    let rest : List PlainType = entry_types (drop (i + 1) entry) in
    let new : ℕ → ℕ = (supply_of u).parameter in
    let count : length ps + length here ≡ length qs =
    omega (arith, values_counted ps, values_counted qs, params_counted new (length ps) here, length-append (plain_values ps) (params_from new (length ps) here), ap length added) in
    so_far
    ∙ ap (λ parts. plain_values ps ++ params_behind u ps (entry_types parts)) (front entry i part within is)
    ∙ ap (λ ts. plain_values ps ++ params_behind u ps ts) (flat_map-cons (λ (p : Part). p.takes) (plain_part part) (map plain_part (drop (i + 1) entry)))
    ∙ ap (λ vs. plain_values ps ++ vs) (params_joined new (length ps) here rest)
    ∙ sym (append_assoc (plain_values ps) (params_from new (length ps) here) (params_from new (length ps + length here) rest))
    ∙ ap (λ vs. vs ++ params_from new (length ps + length here) rest) added
    ∙ ap (λ j. plain_values qs ++ params_from new j rest) count

pub part_next : (t0 t1 t2 : Numbering) (whole : Numbering → Values) (ps qs : List (ℕ × TypeTree)) (entry : List PartTree) (i : ℕ) (part : PartTree) (types : List TypeTree) → i < length entry → part ≡ get_or entry i part
    → types ≡ part.takes → Asked t1 t2 (λ u. plain_values ps ++ params_behind u ps (map plain_type types) ≡ plain_values qs)
    → Asked t0 t1 (λ u. whole u ≡ plain_values ps ++ params_behind u ps (entry_types (drop i entry)))
    → Asked t0 t2 (λ u. whole u ≡ plain_values qs ++ params_behind u qs (entry_types (drop (i + 1) entry)))
part_next t0 t1 t2 whole ps qs entry i part types within is here added a =
    asked_on t0 t1 t2 a added
    (λ u so_far more. part_more u (whole u) ps qs entry i part within is (ap (λ ts. plain_values ps ++ params_behind u ps (map plain_type ts)) (sym here) ∙ more) so_far)

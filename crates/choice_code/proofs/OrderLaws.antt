-- The choice by places is the choice by the definition's order.
use Rattle.std.proofs.Common.{◌≡◌, ℕ, zero, suc, ◌+◌, Bool, true, false, List, [], ◌∷◌, length, map, Option, Some, None, refl, sym, ap, ◌∙◌, arith}
use Rattle.std.specs.Prelude.{◌==◌, slice_get, if◌then◌else◌}
use Rattle.std.specs.List.{list_any}
use Rattle.std.proofs.Math.Path.{fun_ext}
use Rattle.conversion_model.specs.Templates.{Template}
use Rattle.conversion_model.specs.Targets.{Shape, Target, is_legal}
use Rattle.conversion_model.specs.Rows.{Pattern}
use Rattle.conversion_model.specs.Chosen.{Leaves, Ranked, by_first, chosen_within, depth, goes_before, has_root, in_order, itself, or_else, order, pattern_depth, put_in, ranked}
use Rattle.choice_code.specs.Choosing.{by_places, by_row_at, chosen_by}

abbrev pub place_of : Ranked → ℕ
place_of r = r.place

-- at the place of each pattern stands that pattern
abbrev pub AllAt : List Pattern → List Ranked → Type 0
AllAt table [] = Unit {0}
AllAt table (r ∷ rs) = (slice_get table r.place ≡ Some r.pattern) × AllAt table rs

put_case : (table : List Pattern) (t : Bool) (p q : Ranked) (qs more : List Ranked) → slice_get table p.place ≡ Some p.pattern → slice_get table q.place ≡ Some q.pattern → AllAt table qs → AllAt table more
    → AllAt table (if t then q ∷ more else p ∷ q ∷ qs)
put_case table true p q qs more h g all both = (g, both)
put_case table false p q qs more h g all both = (h, (g, all))

put_at : (table : List Pattern) (p : Ranked) (rs : List Ranked) → slice_get table p.place ≡ Some p.pattern → AllAt table rs → AllAt table (put_in p rs)
put_at table p [] h all = (h, tt)
put_at table p (q ∷ qs) h all = put_case table (goes_before q p) p q qs (put_in p qs) h all.0 all.1 (put_at table p qs h all.1)

abbrev ranked_one : (Pattern → Option ℕ) → ℕ → Pattern → Ranked
ranked_one d k p = record { pattern = p; place = k; depth = d p }

root_at : (table : List Pattern) (t : Bool) (p : Ranked) (rest : List Ranked) → slice_get table p.place ≡ Some p.pattern → AllAt table (in_order rest) → AllAt table (in_order (if t then p ∷ rest else rest))
root_at table true p rest h all = put_at table p (in_order rest) h all
root_at table false p rest h all = all

order_at : (table : List Pattern) (d : Pattern → Option ℕ) (name : List ℕ) (k : ℕ) (ps : List Pattern) → ((j : ℕ) → slice_get table (k + j) ≡ slice_get ps j) → AllAt table (in_order (ranked d name k ps))
order_at table d name k [] h = tt
order_at table d name k (p ∷ ps) h =
    let here : k ≡ k + 0 = omega arith in
    let on : (j : ℕ) → k + 1 + j ≡ k + suc j = λ j. omega arith in
    root_at table (has_root name p) (ranked_one d k p) (ranked d name (k + 1) ps) (ap (slice_get table) here ∙ h 0)
    (order_at table d name (k + 1) ps (λ j. ap (slice_get table) (on j) ∙ h (suc j)))

pub all_at : (target : Target) (table : List Pattern) (name : List ℕ) → AllAt table (order target table name)
all_at target table name =
    let here : (j : ℕ) → 0 + j ≡ j = λ j. omega arith in
    order_at table (pattern_depth (depth target table)) name 0 table (λ j. ap (slice_get table) (here j))

on_path : (t : Bool) (y x : Option Template) → (if t then x else or_else y x) ≡ or_else (if t then None else y) x
on_path true y x = refl
on_path false y x = refl

first_same : (bits : ℕ) (table : List Pattern) (leaves : List ℕ → Leaves) (path : List ℕ) (o : Shape) (rs : List Ranked) → AllAt table rs
    → by_places bits table leaves path o (map place_of rs) ≡ by_first bits leaves path o rs
first_same bits table leaves path o [] all = refl
first_same bits table leaves path o (r ∷ rs) all =
    let on : Bool = list_any (λ place. place == r.place) path in
    ap (λ p. or_else (if on then None else by_row_at bits (leaves (r.place ∷ path)) o p) (by_places bits table leaves path o (map place_of rs))) all.0
    ∙ ap (or_else (if on then None else by_row_at bits (leaves (r.place ∷ path)) o (Some r.pattern))) (first_same bits table leaves path o rs all.1)
    ∙ sym (on_path on (by_row_at bits (leaves (r.place ∷ path)) o (Some r.pattern)) (by_first bits leaves path o rs))

chosen_same : (bits : ℕ) (target : Target) (table : List Pattern) (places : List ℕ → List ℕ) → ((name : List ℕ) → places name ≡ map place_of (order target table name))
    → (room : ℕ) (path : List ℕ) (o : Shape) → chosen_by bits target table places room path o ≡ chosen_within bits target (order target table) room path o
chosen_same bits target table places h zero path o = refl
chosen_same bits target table places h (suc room) path o =
    let same : chosen_by bits target table places room ≡ chosen_within bits target (order target table) room = fun_ext (λ p. fun_ext (chosen_same bits target table places h room p)) in
    ap (λ found. if is_legal target o then Some (itself o) else found)
    (ap (λ (leaves : List ℕ → Leaves). by_places bits table leaves path o (places o.name)) same
    ∙ ap (by_places bits table (chosen_within bits target (order target table) room) path o) (h o.name)
    ∙ first_same bits table (chosen_within bits target (order target table) room) path o (order target table o.name) (all_at target table o.name))

pub chosen_is : (bits : ℕ) (target : Target) (table : List Pattern) (places : List ℕ → List ℕ) (room : ℕ) (o : Shape) (found : Option Template)
    → ((name : List ℕ) → places name ≡ map place_of (order target table name)) → room ≡ length table + 1
    → found ≡ chosen_by bits target table places room [] o → found ≡ chosen_within bits target (order target table) (length table + 1) [] o
chosen_is bits target table places room o found h r f =
    f ∙ ap (λ n. chosen_by bits target table places n [] o) r ∙ chosen_same bits target table places h (length table + 1) [] o

-- and so are the leaves on each path
pub leaves_are : (bits : ℕ) (target : Target) (table : List Pattern) (places : List ℕ → List ℕ) (room : ℕ) → ((name : List ℕ) → places name ≡ map place_of (order target table name)) → room ≡ length table + 1
    → chosen_by bits target table places room ≡ chosen_within bits target (order target table) (length table + 1)
leaves_are bits target table places room h r =
    ap (λ n. chosen_by bits target table places n) r ∙ fun_ext (λ p. fun_ext (chosen_same bits target table places h (length table + 1) p))
